-- The first j entries of row i are reduced; the right-hand side is as it was.
use Rattle.std.proofs.Common.{◌≡◌}
use Rattle.math.specs.Loops.{span}
use Rattle.group_blocks.specs.Groups.{reduce_at}
use Rattle.group_blocks.proofs.Group.reduce_row.Given as goal

abbrev pub invariant-loop-j : goal.invariant-loop-j
invariant-loop-j l = (l.s.a ≡ span (reduce_at l.shape.k l.shape.p l.self l.solution l.i) 0 l.j l.initial.s.a) × (l.s.b ≡ l.initial.s.b)
