-- The first i entries of the diagonal are damped, and nothing else.
use Rattle.std.proofs.Common.{◌≡◌}
use Rattle.math.specs.Loops.{span}
use Rattle.block_solve.specs.Direction.{diagonal_at}
use Rattle.block_solve.proofs.normal.BlockNormal.damped_fixed.Given as goal

abbrev pub invariant-loop-i : goal.invariant-loop-i
invariant-loop-i l = l.a ≡ span (diagonal_at l.self.fixed l.damping) 0 l.i l.initial.a
