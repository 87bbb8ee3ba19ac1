-- Which sizes `solve` takes, for callers: the others have no direction.
use Rattle.std.specs.Prelude.{ℕ, ◌+◌, ◌*◌, ◌≤◌, ◌≡◌, false, Float, None}
use Rattle.std.proofs.Math.Path.{refl}
use borrow.Author.Tests.{le-leb, eq-eqb}
use Rattle.block_solve.specs.declared.normal.BlockNormal.{BlockNormal}
use Rattle.block_solve.specs.Direction.{finished_of, fitting, solved_of}

-- ---- what `solve` answers and leaves in the list that it is lent

module _ (n : BlockNormal) (p k group_count : ℕ) (t : Float) (size : ℕ) where
  pub solve_refuses : fitting p k group_count size ≡ false → solved_of n p k group_count t size ≡ None
  unfolding solved_of
  solve_refuses h = rw h refl

  pub solve_fits : p ≤ 4 → 1 ≤ k → k ≤ 2 → group_count ≤ 32 → size ≡ p + group_count * k → solved_of n p k group_count t size ≡ finished_of n p k group_count t
  unfolding solved_of
  solve_fits a b c d e = rw (le-leb p 4 a, le-leb 1 k b, le-leb k 2 c, le-leb group_count 32 d, eq-eqb size (p + group_count * k) e) refl
