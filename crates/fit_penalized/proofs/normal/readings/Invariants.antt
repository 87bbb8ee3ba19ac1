-- The first i readings are accumulated.
use mathlib.Core.Path.{◌≡◌}
use Rattle.math.specs.Loops.{iter}
use Rattle.block_solve.specs.Normal.{empty_of}
use Rattle.fit_refusals.specs.Given.{checked}
use Rattle.fit_penalized.specs.Normal.{reading_at}
use Rattle.fit_penalized.proofs.normal.readings.Given as goal

abbrev pub invariant-loop-i : goal.invariant-loop-i
invariant-loop-i l = l.n ≡ iter (reading_at (checked l.q) l.s) l.i empty_of
