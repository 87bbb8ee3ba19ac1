-- The pairs written so far, with the finite ones of those still to be read, are all the finite ones.
use Rattle.std.proofs.Common.{◌≡◌, ◌+◌, ◌≤◌, ◌++◌, length, take}
use Rattle.std.specs.List.{zip}
use Rattle.self_start.specs.Points.{finite_pairs}
use Rattle.self_start.proofs.points.finite_pairs.Given as goal

abbrev pub invariant-loop-dose : goal.invariant-loop-dose
invariant-loop-dose l =
    let doses = l.dose-iterator.a.rest.now in
    let grams = l.dose-iterator.b.rest.now in
    record {
      same_len : length grams ≡ length doses;
      fits : l.n + length doses ≤ length l.room;
      so_far : take l.n l.room ++ finite_pairs (zip doses grams) ≡ finite_pairs (zip l.doses l.grams);
    }
