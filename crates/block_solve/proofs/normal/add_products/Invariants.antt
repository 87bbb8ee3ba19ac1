-- The first i rows of products are added, and of the row at hand the first j products.
use Rattle.std.proofs.Common.{◌≡◌, ◌+◌, ◌*◌, length}
use Rattle.math.specs.Loops.{iter}
use Rattle.block_solve.specs.Blocks.{product_in, product_row}
use Rattle.block_solve.proofs.normal.add_products.Given as goal

abbrev pub invariant-loop-j : goal.invariant-loop-j
invariant-loop-j l = l.blocks ≡ iter (product_in (λ i. l.from + i * l.stride) l.rows (length l.columns) l.columns l.i) l.j l.initial.blocks

abbrev pub invariant-loop-i : goal.invariant-loop-i
invariant-loop-i l = l.blocks ≡ iter (product_row (λ i. l.from + i * l.stride) l.rows (length l.columns) l.columns) l.i l.initial.blocks
