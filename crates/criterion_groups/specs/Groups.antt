-- What the determinant and the quadrature work out group by group: a group's own readings, and their sums at effects b.
use Rattle.std.specs.Prelude.{ℕ, cond, List, [], ◌∷◌, ◌++◌, pos, eqb, Float, get_or, length}
use Rattle.std.specs.Float.{nan, binary64}
use Rattle.std.specs.Float.Ieee.{of_int}
use Rattle.math.specs.Basic.{add, sub, mul, zero}
use Rattle.math.specs.Loops.{iter}
use Rattle.math.specs.Matrix.{rows, entry}
use Rattle.curves.specs.declared.Mean.{Mean}
use Rattle.curves.specs.MeanFn.{eval_with_re_of}
use Rattle.fit_refusals.specs.Problem.{Problem}
use Rattle.fit_penalized.specs.Normal.{random_gradients}

-- a count as a float
abbrev pub count_of : ℕ → Float
count_of n = of_int binary64 (pos n)

-- `group_obs`: what the list l has at the readings of group g, in reading order
abbrev pub own_at : List ℕ → ℕ → List Float → ℕ → List Float → List Float
own_at groups g l i own = cond (eqb (get_or groups i 0) g) (own ++ (get_or l i nan ∷ [])) own

unfoldable pub own_of : List ℕ → ℕ → List Float → List Float
own_of groups g l = iter (own_at groups g l) (length groups) []

-- at the curve values of a list, with effects b
module _ (q : Problem) (values b : List Float) where
  -- the curve at dose x
  abbrev pub curve_at : Float → Mean
  curve_at x = eval_with_re_of q.code values q.places b x

  -- its gradients by the effects; for one effect the second is +0
  unfoldable pub gradients_at : Float → List Float
  gradients_at x = random_gradients q.places (curve_at x)

  -- the rss of some readings: the squares in their order, from 0
  abbrev pub residual_at : List Float → List Float → ℕ → Float
  residual_at doses grams i = sub (get_or grams i nan) (curve_at (get_or doses i nan)).mu

  abbrev pub square_at : List Float → List Float → ℕ → Float → Float
  square_at doses grams i t = add t (mul (residual_at doses grams i) (residual_at doses grams i))

  unfoldable pub group_squares : List Float → List Float → Float
  group_squares doses grams = iter (square_at doses grams) (length doses) zero

-- a block of two rows of two with the products of the gradients d added, each as f leaves it
unfoldable pub add_by : (Float → Float) → List (List Float) → List Float → List (List Float)
add_by f m d =
    let u = get_or d 0 nan in
    let v = get_or d 1 nan in
    rows (add (entry m 0 0) (f (mul u u))) (add (entry m 0 1) (f (mul u v))) (add (entry m 1 0) (f (mul v u))) (add (entry m 1 1) (f (mul v v)))

-- of readings at effects b, from the block m on
module _ (f : Float → Float) (q : Problem) (values b doses : List Float) where
  abbrev pub block_at : ℕ → List (List Float) → List (List Float)
  block_at i m = add_by f m (gradients_at q values b (get_or doses i nan))

  unfoldable pub block_by : List (List Float) → List (List Float)
  block_by m = iter block_at (length doses) m
