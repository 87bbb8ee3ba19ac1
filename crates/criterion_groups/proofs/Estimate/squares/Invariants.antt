-- The readings that are left bring the sum so far to the sum of all.
use Rattle.std.proofs.Common.{◌≡◌, length}
use Rattle.std.specs.List.{fold, zip}
use Rattle.fit_refusals.specs.Given.{checked}
use Rattle.criterion_groups.specs.Groups.{group_squares}
use Rattle.criterion_groups.proofs.Laws.{square_next}
use Rattle.criterion_groups.proofs.Estimate.squares.Given as goal

abbrev pub invariant-loop-dose : goal.invariant-loop-dose
invariant-loop-dose l =
    let q = checked l.self.problem.now in
    let doses = l.dose-iterator.a.rest.now in
    let grams = l.dose-iterator.b.rest.now in
    record {
      each : length grams ≡ length doses;
      so_far : fold (square_next q l.self.values l.group.b.now) l.sum (zip doses grams) ≡ group_squares q l.self.values l.group.b.now l.group.doses.now l.group.grams.now;
    }
