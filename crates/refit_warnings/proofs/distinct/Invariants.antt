-- After i doses n is how many of them are new, so at most i.
use Rattle.std.proofs.Common.{◌≡◌, ◌≤◌}
use Rattle.math.specs.Loops.{iter}
use Rattle.refit_warnings.specs.Warnings.{counted_of, is_new_dose}
use Rattle.refit_warnings.proofs.distinct.Given as goal

abbrev pub invariant-loop-i : goal.invariant-loop-i
invariant-loop-i l = (l.n ≤ l.i) × (l.n ≡ iter (λ k n. counted_of n (is_new_dose l.doses k)) l.i 0)
