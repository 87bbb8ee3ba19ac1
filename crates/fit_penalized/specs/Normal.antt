-- The normal blocks of a state (in `inner_gauss_newton_status`): the readings in order, then the prior.
use Rattle.std.specs.Prelude.{ℕ, ◌*◌, cond, List, [], ◌∷◌, eqb, Float, get_or, length, take}
use Rattle.std.specs.Float.{nan}
use Rattle.std.specs.Float.Ieee.{eq}
use Rattle.math.specs.Basic.{sub, zero}
use Rattle.math.specs.Loops.{iter}
use Rattle.curves.specs.declared.Mean.{Mean}
use Rattle.re_cov.specs.ReCov.{sigma_inverse}
use Rattle.block_solve.specs.declared.normal.BlockNormal.{BlockNormal}
use Rattle.block_solve.specs.Normal.{empty_of, accumulate_of, prior_of}
use Rattle.fit_refusals.specs.Problem.{Problem, p, k}
use Rattle.fit_step.specs.declared.State.{State}
use Rattle.fit_penalized.specs.Penalized.{mean_at}

-- the gradient by value j
abbrev pub gradient_at : Mean → ℕ → Float
gradient_at y j = get_or (y.d0 ∷ y.d1 ∷ y.d2 ∷ y.d3 ∷ []) j nan

-- the gradients by the curve values: zero where the bounds are equal
abbrev pub free_at : List Float → List Float → Mean → ℕ → Float
free_at lower upper y j = cond (eq (get_or lower j nan) (get_or upper j nan)) zero (gradient_at y j)

unfoldable pub fixed_gradients : List Float → List Float → Mean → List Float
fixed_gradients lower upper y = free_at lower upper y 0 ∷ free_at lower upper y 1 ∷ free_at lower upper y 2 ∷ free_at lower upper y 3 ∷ []

-- the gradients by the effects: the true ones, whatever the bounds, and +0 past the last
unfoldable pub random_gradients : List ℕ → Mean → List Float
random_gradients places y =
    gradient_at y (get_or places 0 0) ∷ cond (eqb (length places) 1) zero (gradient_at y (get_or places 1 0)) ∷ []

module _ (q : Problem) where
  -- reading i, whose curve is y
  unfoldable pub reading_of : ℕ → Mean → BlockNormal → BlockNormal
  reading_of i y n =
      accumulate_of (get_or q.groups i 0) (p q) (fixed_gradients q.lower q.upper y) (k q) (random_gradients q.places y)
      (sub (get_or q.grams i nan) y.mu)
      n

  abbrev pub reading_at : State → ℕ → BlockNormal → BlockNormal
  reading_at s i n = reading_of i (mean_at q s i) n

  unfoldable pub readings_of : State → BlockNormal
  readings_of s = iter (reading_at s) (length q.doses) empty_of

  -- the readings, then the prior of every group, one without readings too, with the covariance's inverse m
  unfoldable pub blocks_of : List (List Float) → State → BlockNormal
  blocks_of m s = prior_of (k q) q.group_count m (take (q.group_count * k q) s.effects) (readings_of s)

  abbrev pub normal_blocks : State → BlockNormal
  normal_blocks s = blocks_of (sigma_inverse (k q) q.theta) s
