-- Document 01's marked weighings: one table, in the document's order, under one theorem. Assumes nothing.
use Rattle.std.specs.Prelude.{ℕ, ◌^◌, ◌≡◌, refl, false, get_or, take, replicate, Option, Some, None, Float}
use mathlib.Core.List.{List, [], ◌∷◌, map, flatten}
use Rattle.std.specs.Float.{nan, inf}
use Rattle.std.specs.Float.Ieee.{round}
use Rattle.math.specs.Rationals.{over, minus, num}
use Rattle.curves.specs.MeanFn.{n_params_of}
use Rattle.curves.specs.Curve.{curve_of}
use Rattle.curves.specs.laws.Computes.{curve_computes}
use Rattle.quadrature.specs.Orders.{gh_order_of}
use Rattle.re_cov.specs.ReCov.{sigma_inverse, penalty_of}
use Rattle.re_cov.specs.laws.Computes.{re_cov_computes}
use Rattle.self_start.specs.Start.{call_of}
use Rattle.self_start.specs.laws.Computes.{start_computes}

-- a question to one definition
pub data Question : Type 0 where
  -- the curve of a code, at values and a dose: of its floats those at some places, 0 the mean, then the gradients
  curve : (code : ℕ) (values : List Float) (dose : Float) (places : List ℕ) → Question
  -- the order that is taken for the one asked for
  order : (asked : ℕ) → Question
  -- of k effects, the covariance's inverse by rows
  inverse : (k : ℕ) (theta : List Float) → Question
  penalty : (k : ℕ) (theta effects : List Float) → Question
  start : (code : ℕ) (doses grams : List Float) → Question

-- none is no float
unfoldable pub points : Option ℕ → List Float
points None = []
points (Some n) = num n ∷ []

-- what the definition gives; a curve that refuses gives NaNs, and a start that refuses leaves the NaNs that it is lent
unfoldable pub asked : Question → List Float
asked (curve code values dose places) = map (λ (i : ℕ). get_or (curve_of code values dose).1 i nan) places
asked (order n) = points (gh_order_of n)
asked (inverse k theta) = flatten (map (take k) (take k (sigma_inverse k theta)))
asked (penalty k theta effects) = penalty_of k theta effects ∷ []
asked (start code doses grams) = (call_of code doses grams (replicate (n_params_of code) nan)).values

-- a question and the document's answer
unfoldable pub rows : List (Question × List Float)
rows =
    -- Curve 3 at 8, 1, dose 3: 6, gradients 0.75, -1.5.
    (curve 3 (num 8 ∷ num 1 ∷ []) (num 3) (0 ∷ 1 ∷ 2 ∷ []), num 6 ∷ over 3 4 ∷ minus 3 2 ∷ [])
    -- 8, 2^1023, dose 2^1023: 4, 0.5, -2^-1022.
    ∷ (curve 3 (num 8 ∷ num (2 ^ 1023) ∷ []) (num (2 ^ 1023)) (0 ∷ 1 ∷ 2 ∷ []), num 4 ∷ over 1 2 ∷ minus 1 (2 ^ 1022) ∷ [])
    -- 8, -3, dose 3: +infinity.
    ∷ (curve 3 (num 8 ∷ minus 3 1 ∷ []) (num 3) (0 ∷ []), inf false ∷ [])
    -- Curve 1 at 200, 5, 350, dose 5: 100, first gradient 0.5, third 0.
    ∷ (curve 1 (num 200 ∷ num 5 ∷ num 350 ∷ []) (num 5) (0 ∷ 1 ∷ 3 ∷ []), num 100 ∷ over 1 2 ∷ num 0 ∷ [])
    -- Curve 2 at 90, 20, 0, dose 0: 20.
    ∷ (curve 2 (num 90 ∷ num 20 ∷ num 0 ∷ []) (num 0) (0 ∷ []), num 20 ∷ [])
    -- Order 1: none.
    ∷ (order 1, [])
    -- 2: 3.
    ∷ (order 2, num 3 ∷ [])
    -- 11: 11.
    ∷ (order 11, num 11 ∷ [])
    -- 12: 11.
    ∷ (order 12, num 11 ∷ [])
    -- Theta 0.5, one effect: inverse 4.
    ∷ (inverse 1 (over 1 2 ∷ []), num 4 ∷ [])
    -- Theta 2, 1, 1: inverse 0.5, -0.5, -0.5, 1;
    ∷ (inverse 2 (num 2 ∷ num 1 ∷ num 1 ∷ []), over 1 2 ∷ minus 1 2 ∷ minus 1 2 ∷ num 1 ∷ [])
    -- effects 2, 3 have penalty 5.
    ∷ (penalty 2 (num 2 ∷ num 1 ∷ num 1 ∷ []) (num 2 ∷ num 3 ∷ []), num 5 ∷ [])
    -- Start of curve 3 from (1,2), (3,6): 6, 1.5.
    ∷ (start 3 (num 1 ∷ num 3 ∷ []) (num 2 ∷ num 6 ∷ []), num 6 ∷ over 3 2 ∷ [])
    -- From none: 10, 1.
    ∷ (start 3 [] [], num 10 ∷ num 1 ∷ [])
    -- Curve 1 from (0,0), (1,2), (2,4), (3,8): 8, 2, -1.
    ∷ (start 1 (num 0 ∷ num 1 ∷ num 2 ∷ num 3 ∷ []) (num 0 ∷ num 2 ∷ num 4 ∷ num 8 ∷ []), num 8 ∷ num 2 ∷ minus 1 1 ∷ [])
    ∷ []

pub rows_hold : map (λ (r : Question × List Float). asked r.0) rows ≡ map (λ (r : Question × List Float). r.1) rows
unfolding curve_computes gh_order_of re_cov_computes start_computes round flatten points asked rows
rows_hold = refl
