-- The places of a group's blocks are those of the definition.
use Rattle.std.proofs.Common.{refl}
use native.Mathlib.Numerals.{unary_clauses}
use Rattle.block_solve.specs.Direction.{damped_block, group_of}
use Rattle.block_solve.proofs.normal.BlockNormal.group.Goals as goal

pub returns : goal.returns
unfolding damped_block group_of
returns c = rw (c.damped.ensures, c.damped-2.ensures) (simp unary_clauses refl)
