-- The first i rows are reduced.
use Rattle.std.proofs.Common.{◌≡◌}
use Rattle.math.specs.Loops.{span}
use Rattle.group_blocks.specs.Groups.{reduce_row}
use Rattle.group_blocks.proofs.Group.reduce.Given as goal

abbrev pub invariant-loop-i : goal.invariant-loop-i
invariant-loop-i l = l.s ≡ span (reduce_row l.shape.k l.shape.p l.self l.solution) 0 l.i l.initial.s
