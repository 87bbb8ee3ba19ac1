-- The first j columns are solved, each with a solution.
use Rattle.std.proofs.Common.{◌≡◌, Some}
use Rattle.linalg.specs.Loops.{tries}
use Rattle.group_blocks.specs.Groups.{stored}
use Rattle.group_blocks.proofs.Group.columns.Given as goal

abbrev pub invariant-loop-j : goal.invariant-loop-j
invariant-loop-j l = Some l.w ≡ tries (stored l.shape.k l.shape.p l.self) l.j l.initial.w
