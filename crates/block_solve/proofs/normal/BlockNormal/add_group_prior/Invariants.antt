-- The first i rows of the group's prior are added, and of the row at hand the first j entries.
use Rattle.std.proofs.Common.{◌≡◌, length}
use Rattle.math.specs.Loops.{iter}
use Rattle.block_solve.specs.Normal.{prior_at, prior_row}
use Rattle.block_solve.proofs.normal.BlockNormal.add_group_prior.Given as goal

abbrev pub invariant-loop-j : goal.invariant-loop-j
invariant-loop-j l = l.self ≡ iter (prior_at l.inverse l.g (length l.b) l.b l.i) l.j l.initial.self

abbrev pub invariant-loop-i : goal.invariant-loop-i
invariant-loop-i l = l.self ≡ iter (prior_row l.inverse l.g (length l.b) l.b) l.i l.initial.self
