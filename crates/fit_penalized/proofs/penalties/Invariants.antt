-- The penalties of the first g groups are summed.
use mathlib.Core.Path.{◌≡◌}
use Rattle.math.specs.Basic.{zero}
use Rattle.math.specs.Loops.{iter}
use Rattle.fit_refusals.specs.Given.{checked}
use Rattle.fit_penalized.specs.Penalized.{penalty_at}
use Rattle.fit_penalized.proofs.penalties.Given as goal

abbrev pub invariant-loop-g : goal.invariant-loop-g
invariant-loop-g l = l.t ≡ iter (penalty_at (checked l.q) l.b) l.g zero
