-- `sorted_xy_data`, `approx` and `approx_x_from_y` of self_start.rs, on lists of pairs: a dose and its grams.
use Rattle.std.specs.Prelude.{Bool, true, false, not, cond, ◌&&◌, List, [], ◌∷◌, ℕ, ◌+◌, ◌-◌, eqb, pos, length, drop, map, Float}
use Rattle.std.specs.List.{filter, fold, list_all}
use Rattle.std.specs.Float.{inf, binary64}
use Rattle.std.specs.Float.Ieee.{lt, le, of_int, is_nan}
use Rattle.math.specs.Basic.{add, sub, mul, div, one, abs_of, max_of, min_of, is_finite}
use Rattle.sorting.specs.Pairs.{Pair, pair_at}
use Rattle.sorting.specs.Sort.{sort_of}
use Rattle.self_start.specs.Constants.{1e-12, 1e-15}

-- the second components; each pair the other way round
abbrev pub seconds : List Pair → List Float
seconds = map (λ p. p.1)

abbrev pub swapped : List Pair → List Pair
swapped = map (λ p. (p.1, p.0))

-- no gram is a NaN
abbrev pub numbered : List Pair → Bool
numbered = list_all (λ p. not (is_nan p.1))

-- ---- `sorted_xy_data`

-- its filter: the pairs of which both are finite, in reading order
abbrev pub finite_pairs : List Pair → List Pair
finite_pairs = filter (λ p. is_finite p.0 && is_finite p.1)

-- its inner test: the dose is no further from its run's first, `xval`, than 1e-12 times the larger of that one's size and 1
unfoldable pub near_dose : Float → Float → Bool
near_dose dose xval = le (abs_of (sub dose xval)) (mul 1e-12 (max_of (abs_of xval) one))

unfoldable pub mean_of_run : Float → ℕ → Float
mean_of_run sum count = div sum (of_int binary64 (pos count))

-- its loops: a run with this first dose, this sum and this count so far, and the pairs after it
unfoldable pub points_of_run : Float → Float → ℕ → List Pair → List Pair
points_of_run xval sum count [] = (xval, mean_of_run sum count) ∷ []
points_of_run xval sum count (p ∷ ps) =
    cond (near_dose p.0 xval)
    (points_of_run xval (add sum p.1) (count + 1) ps)
    ((xval, mean_of_run sum count) ∷ points_of_run p.0 p.1 1 ps)

-- each run of near doses is one point: its first dose and the mean of its grams
unfoldable pub averaged_of : List Pair → List Pair
averaged_of [] = []
averaged_of (p ∷ ps) = points_of_run p.0 p.1 1 ps

unfoldable pub sorted_xy_data : List Pair → List Pair
sorted_xy_data readings = averaged_of (sort_of (finite_pairs readings))

-- ---- `approx`; where the source has no value, and its callers put one for it by `unwrap_or`, the value is `other`

-- on the line from p to q; p's where they lie closer than 1e-15
unfoldable pub between_of : Pair → Pair → Float → Float
between_of p q xout =
    cond (lt (abs_of (sub q.0 p.0)) 1e-15)
    p.1
    (add p.1 (mul (div (sub xout p.0) (sub q.0 p.0)) (sub q.1 p.1)))

-- its loop: in the first two neighbours that xout lies between; the last point's where there are none
unfoldable pub window_of : Pair → List Pair → Float → Float
window_of p [] xout = p.1
window_of p (q ∷ qs) xout = cond (le p.0 xout && le xout q.0) (between_of p q xout) (window_of q qs xout)

-- flat beyond the ends
unfoldable pub approx_of : List Pair → Float → Float → Float
approx_of ps xout other =
    let first = pair_at ps 0 in
    let last = pair_at ps (length ps - 1) in
    cond (eqb (length ps) 0) other
    (cond (eqb (length ps) 1) first.1
    (cond (le xout first.0) first.1
    (cond (le last.0 xout) last.1 (window_of first (drop 1 ps) xout))))

-- `approx_x_from_y`: the dose at which the points reach y_target grams. The sort is the same one, by grams
unfoldable pub approx_x_from_y : List Pair → Float → Float → Float
approx_x_from_y ps yTarget other = approx_of (sort_of (swapped ps)) yTarget other

-- ---- the folds by `f64::max` and `f64::min`, from the infinities

abbrev pub most_of : List Float → Float
most_of = fold max_of (inf true)

abbrev pub least_of : List Float → Float
least_of = fold min_of (inf false)
