-- After i readings the sum is that of canister g's among them.
use Rattle.std.proofs.Common.{◌≡◌, get_or}
use Rattle.std.specs.Prelude.{eqb}
use Rattle.std.specs.Float.{nan}
use Rattle.math.specs.Basic.{zero}
use Rattle.math.specs.Loops.{iter}
use Rattle.refit_warnings.specs.Warnings.{added_of}
use Rattle.refit_warnings.proofs.readings_of.Given as goal

abbrev pub invariant-loop-i : goal.invariant-loop-i
invariant-loop-i l = l.sum ≡ iter (λ k s. added_of s (eqb (get_or l.s.groups.now k 0) l.g) (get_or l.s.grams.now k nan)) l.i (record { count = zero; total = zero })
