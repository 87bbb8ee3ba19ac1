-- Reading i's curve is kept in its own place, so those of the readings before it stay. Assumes nothing.
use mathlib.Core.Path.{◌∙◌}
use native.Mathlib.Omega.{arith}
use lib.ListN.{length-set}
use Rattle.std.proofs.Common.{◌<◌, ◌≢◌, length, get_or-set_other, get_or-set_same, below_more}
use Rattle.math.specs.laws.Loops.{turns}
use Rattle.fit_penalized.proofs.evaluate_on.Goals as goal

pub loop-i-preserved : goal.loop-i-preserved
loop-i-preserved c =
    let l = c.loop-i in
    let read : l.i < length l.means = omega arith in
    record {
      room = length-set _ _ _ ∙ l.invariant.room;
      rss = grind (arith, turns);
      kept = below_more _ _ (λ j h. let ne : j ≢ l.i = omega arith in rw get_or-set_other (l.invariant.kept j h)) (rw get_or-set_same c.mean_at-y.ensures);
    }
