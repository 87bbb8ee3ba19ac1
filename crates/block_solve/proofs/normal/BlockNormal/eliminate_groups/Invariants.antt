-- e is what the definition's first g turns come to, each with a solution.
use Rattle.std.proofs.Common.{◌≡◌, Some}
use Rattle.linalg.specs.Loops.{tries}
use Rattle.block_solve.specs.Direction.{group_turn, untouched, damped_fixed}
use Rattle.block_solve.proofs.normal.BlockNormal.eliminate_groups.Given as goal

abbrev pub invariant-loop-g : goal.invariant-loop-g
invariant-loop-g l = Some l.e ≡ tries (group_turn l.self l.shape.p l.shape.k l.damping) l.g (untouched (damped_fixed l.self l.shape.p l.damping))
