-- The first i multiples are added.
use Rattle.std.proofs.Common.{◌≡◌, ◌+◌}
use Rattle.math.specs.Loops.{iter}
use Rattle.block_solve.specs.Blocks.{multiple_in}
use Rattle.block_solve.proofs.normal.add_multiples.Given as goal

abbrev pub invariant-loop-i : goal.invariant-loop-i
invariant-loop-i l = l.list ≡ iter (multiple_in (λ i. l.from + i) l.factors l.y) l.i l.initial.list
