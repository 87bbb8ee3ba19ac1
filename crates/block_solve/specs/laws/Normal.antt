-- Within the sizes of a fit, what `accumulate` and `add_prior` add is not refused.
use Rattle.std.specs.Prelude.{ℕ, ◌*◌, ◌≤◌, ◌<◌, ◌≡◌, List, Float, length}
use Rattle.std.proofs.Math.Path.{refl}
use borrow.Author.Tests.{lt-ltb, le-leb, eq-eqb}
use Rattle.block_solve.specs.declared.normal.BlockNormal.{BlockNormal}
use Rattle.block_solve.specs.Normal.{add_reading, accumulate_of, add_priors, prior_of}

-- `accumulate`: what a reading of group g adds, with the gradients f by the p curve values, r by the k effects, and the residual y
module _ (g : ℕ) (p : ℕ) (f : List Float) (k : ℕ) (r : List Float) (y : Float) where
  pub accumulate_fits : (n : BlockNormal) → g < 32 → p ≤ 4 → k ≤ 2 → accumulate_of g p f k r y n ≡ add_reading g p f k r y n
  unfolding accumulate_of
  accumulate_fits n a b c = rw (lt-ltb g 32 a, le-leb p 4 b, le-leb k 2 c) refl

pub prior_fits : (k group_count : ℕ) (m : List (List Float)) (b : List Float) (n : BlockNormal)
    → k ≤ 2 → group_count ≤ 32 → length b ≡ group_count * k → prior_of k group_count m b n ≡ add_priors k group_count m b n
unfolding prior_of
prior_fits k group_count m b n x y z = rw (le-leb k 2 x, le-leb group_count 32 y, eq-eqb (length b) (group_count * k) z) refl
