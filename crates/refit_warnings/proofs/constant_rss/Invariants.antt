-- After i readings the sum is that of their squares.
use Rattle.std.proofs.Common.{◌≡◌, get_or}
use Rattle.std.specs.Float.{nan}
use Rattle.math.specs.Basic.{add, sub, zero}
use Rattle.math.specs.Loops.{iter}
use Rattle.refit_warnings.specs.Warnings.{square_of, canister_mean}
use Rattle.refit_warnings.proofs.constant_rss.Given as goal

abbrev pub invariant-loop-i : goal.invariant-loop-i
invariant-loop-i l = l.rss ≡ iter (λ k s. add s (square_of (sub (get_or l.s.grams.now k nan) (canister_mean l.s.groups.now l.s.grams.now (get_or l.s.groups.now k 0))))) l.i zero
