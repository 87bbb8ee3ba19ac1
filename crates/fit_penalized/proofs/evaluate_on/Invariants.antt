-- The squares of the first i readings are summed, and their curves are kept.
use mathlib.Core.Path.{◌≡◌}
use Prim.Native.Nat.{ℕ, ◌<◌}
use lib.ListN.{get_or, length}
use Rattle.math.specs.Basic.{zero}
use Rattle.math.specs.Loops.{iter}
use Rattle.fit_refusals.specs.Given.{checked}
use Rattle.fit_penalized.specs.Penalized.{mean_at, no_mean, square_at}
use Rattle.fit_penalized.proofs.evaluate_on.Given as goal

abbrev pub invariant-loop-i : goal.invariant-loop-i
invariant-loop-i l = record {
  room : length l.means ≡ 512;
  rss : l.rss ≡ iter (square_at (checked l.q) l.s) l.i zero;
  kept : (j : ℕ) → j < l.i → get_or l.means j no_mean ≡ mean_at (checked l.q) l.s j;
}
