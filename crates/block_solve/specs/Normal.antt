-- The normal blocks (`BlockNormal` of block_solve.rs): fixed is 4 by 4, cross 4 by 2 for each group, random 2 by 2 for each group, row after row. Places that a fit does not use stay +0.
use Rattle.std.specs.Prelude.{ℕ, ◌+◌, ◌*◌, cond, ◌&&◌, List, eqb, ltb, leb, Float, get_or, set, replicate, length}
use Rattle.std.specs.Float.{nan}
use Rattle.math.specs.Basic.{add, sub, mul, zero}
use Rattle.math.specs.Loops.{iter}
use Rattle.math.specs.Matrix.{entry}
use Rattle.math.specs.Parts.{part}
use Rattle.block_solve.specs.declared.normal.BlockNormal.{BlockNormal}

-- `BlockNormal::new`
abbrev pub empty_of : BlockNormal
empty_of =
    record { fixed = replicate 16 zero; cross = replicate 256 zero; random = replicate 128 zero; fixed_rhs = replicate 4 zero; random_rhs = replicate 64 zero }

-- x is added at one place
abbrev pub bump : List Float → ℕ → Float → List Float
bump l at x = set l at (add (get_or l at nan) x)

abbrev pub in_fixed : BlockNormal → ℕ → Float → BlockNormal
in_fixed n at x = record n { fixed = bump n.fixed at x }

abbrev pub in_cross : BlockNormal → ℕ → Float → BlockNormal
in_cross n at x = record n { cross = bump n.cross at x }

abbrev pub in_random : BlockNormal → ℕ → Float → BlockNormal
in_random n at x = record n { random = bump n.random at x }

abbrev pub in_fixed_rhs : BlockNormal → ℕ → Float → BlockNormal
in_fixed_rhs n at x = record n { fixed_rhs = bump n.fixed_rhs at x }

abbrev pub in_random_rhs : BlockNormal → ℕ → Float → BlockNormal
in_random_rhs n at x = record n { random_rhs = bump n.random_rhs at x }

-- `accumulate`: what a reading of group g adds, with the gradients f by the p curve values, r by the k effects, and the residual y
module _ (g : ℕ) (p : ℕ) (f : List Float) (k : ℕ) (r : List Float) (y : Float) where
  abbrev pub fixed_at : ℕ → ℕ → BlockNormal → BlockNormal
  fixed_at i j n = in_fixed n (i * 4 + j) (mul (get_or f i nan) (get_or f j nan))

  abbrev pub cross_at : ℕ → ℕ → BlockNormal → BlockNormal
  cross_at i j n = in_cross n (g * 8 + i * 2 + j) (mul (get_or f i nan) (get_or r j nan))

  abbrev pub fixed_row : ℕ → BlockNormal → BlockNormal
  fixed_row i n = iter (cross_at i) k (iter (fixed_at i) p (in_fixed_rhs n i (mul (get_or f i nan) y)))

  abbrev pub random_at : ℕ → ℕ → BlockNormal → BlockNormal
  random_at i j n = in_random n (g * 4 + i * 2 + j) (mul (get_or r i nan) (get_or r j nan))

  abbrev pub random_row : ℕ → BlockNormal → BlockNormal
  random_row i n = iter (random_at i) k (in_random_rhs n (g * 2 + i) (mul (get_or r i nan) y))

  unfoldable pub add_reading : BlockNormal → BlockNormal
  add_reading n = iter random_row k (iter fixed_row p n)

  -- a reading for which there is no place adds nothing
  unfoldable pub accumulate_of : BlockNormal → BlockNormal
  accumulate_of n = cond (ltb g 32 && leb p 4 && leb k 2) (add_reading n) n

-- row i of m times b, from 0 on in rising index
abbrev pub times_at : List (List Float) → ℕ → List Float → ℕ → Float → Float
times_at m i b j t = add t (mul (entry m i j) (get_or b j nan))

unfoldable pub times_of : List (List Float) → ℕ → List Float → Float
times_of m i b = iter (times_at m i b) (length b) zero

abbrev pub less_random_rhs : BlockNormal → ℕ → Float → BlockNormal
less_random_rhs n at x = record n { random_rhs = set n.random_rhs at (sub (get_or n.random_rhs at nan) x) }

-- `add_prior`: group g's block gets the inverse m, and its right-hand side loses the inverse times its k effects b
module _ (m : List (List Float)) (g k : ℕ) (b : List Float) where
  abbrev pub prior_at : ℕ → ℕ → BlockNormal → BlockNormal
  prior_at i j n = in_random n (g * 4 + i * 2 + j) (entry m i j)

  abbrev pub prior_row : ℕ → BlockNormal → BlockNormal
  prior_row i n = less_random_rhs (iter (prior_at i) k n) (g * 2 + i) (times_of m i b)

  unfoldable pub prior_group : BlockNormal → BlockNormal
  prior_group n = iter prior_row k n

abbrev pub prior_turn : ℕ → List (List Float) → List Float → ℕ → BlockNormal → BlockNormal
prior_turn k m b g n = prior_group m g k (part (g * k) k b) n

unfoldable pub add_priors : ℕ → ℕ → List (List Float) → List Float → BlockNormal → BlockNormal
add_priors k group_count m b n = iter (prior_turn k m b) group_count n

-- effects for which there is no place add nothing
unfoldable pub prior_of : ℕ → ℕ → List (List Float) → List Float → BlockNormal → BlockNormal
prior_of k group_count m b n = cond (leb k 2 && leb group_count 32 && eqb (length b) (group_count * k)) (add_priors k group_count m b n) n
