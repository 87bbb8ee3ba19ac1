-- The start of each curve, after self_start.rs, and the public operation of document 01.
use Rattle.std.specs.Prelude.{Bool, not, cond, ◌&&◌, ◌||◌, ⊤, Result, Ok, Err, List, [], ◌∷◌, ℕ, ◌/◌, ltb, eqb, length, Float}
use Rattle.std.specs.List.{zip}
use Rattle.std.specs.Float.Ieee.{lt, le}
use Rattle.math.specs.Basic.{add, sub, mul, div, zero, half, one, two, abs_of, max_of, is_finite}
use Rattle.math.specs.Ln.{ln_of}
use Rattle.math.specs.Rationals.{1e-8}
use Rattle.refusal.specs.declared.Refusal.{Refusal}
use Rattle.refusal.specs.Refusal.{number_of}
use Rattle.sorting.specs.Pairs.{Pair, pair_at}
use Rattle.curves.specs.MeanFn.{no_curve, n_params_of}
use Rattle.self_start.specs.Constants.{1e-3, 1e-6, quarter, two_fifths, four, five, ten, twenty, fifty, ninety, two_hundred, three_fifty, seven_twenty_five}
use Rattle.self_start.specs.Points.{seconds, sorted_xy_data, approx_x_from_y, most_of, least_of}

-- the grams of the points, and the doses of the first and of the middle one
abbrev pub most : List Pair → Float
most ps = most_of (seconds ps)

abbrev pub least : List Pair → Float
least ps = least_of (seconds ps)

abbrev pub first_dose : List Pair → Float
first_dose ps = (pair_at ps 0).0

abbrev pub middle_dose : List Pair → Float
middle_dose ps = (pair_at ps (length ps / 2)).0

-- ---- `self_start_sslogis`

abbrev pub sslogis_else : List Float
sslogis_else = two_hundred ∷ seven_twenty_five ∷ three_fifty ∷ []

-- 1 where scal is not finite, or its size is below 1e-8
unfoldable pub scal_or_one : Float → Float
scal_or_one scal = cond (is_finite scal) (cond (lt (abs_of scal) 1e-8) one scal) one

-- the dose at half of the height, and the dose at a quarter less that: for rising points scal is negative
unfoldable pub sslogis_from : List Pair → Float → List Float
sslogis_from ps asym =
    let xmid = approx_x_from_y ps (div asym two) (middle_dose ps) in
    asym ∷ xmid ∷ scal_or_one (sub (approx_x_from_y ps (div asym four) xmid) xmid) ∷ []

unfoldable pub sslogis_start : List Pair → List Float
sslogis_start ps = cond (ltb (length ps) 3 || (not (is_finite (most ps)) || le (most ps) zero)) sslogis_else (sslogis_from ps (most ps))

-- ---- `self_start_ssasymp`

-- ln 2 / xmid; 0 where that is not finite, or xmid's size is below 1e-8
unfoldable pub lrc_of : Float → Float
lrc_of xmid = let lrc = div (ln_of two) xmid in cond (is_finite lrc) (cond (lt (abs_of xmid) 1e-8) zero lrc) zero

-- from none: 90, 20, ln 0.4
unfoldable pub ssasymp_start : List Pair → List Float
ssasymp_start ps =
    cond (eqb (length ps) 0)
    (ninety ∷ twenty ∷ ln_of two_fifths ∷ [])
    (most ps ∷ least ps ∷ lrc_of (approx_x_from_y ps (sub (most ps) (div (sub (most ps) (least ps)) two)) (first_dose ps)) ∷ [])

-- ---- `self_start_ssmicmen`; from none: 10, 1

unfoldable pub ssmicmen_start : List Pair → List Float
ssmicmen_start ps =
    cond (eqb (length ps) 0)
    (ten ∷ one ∷ [])
    (max_of (most ps) one ∷ max_of (approx_x_from_y ps (div (most ps) two) (first_dose ps)) 1e-6 ∷ [])

-- ---- `self_start_ssfpl`

abbrev pub ssfpl_else : List Float
ssfpl_else = ten ∷ fifty ∷ five ∷ two ∷ []

-- both are finite, and 1e-8 or more apart
unfoldable pub apart_of : Float → Float → Bool
apart_of a b = is_finite a && (is_finite b && not (lt (abs_of (sub b a)) 1e-8))

-- the size of xmid - x_q, at least 1e-3; 1 where that is not finite
unfoldable pub width_of : Float → Float → Float
width_of xmid xq = let scal = max_of (abs_of (sub xmid xq)) 1e-3 in cond (is_finite scal) scal one

-- the doses at a half and at a quarter of the way from a to b
unfoldable pub ssfpl_from : List Pair → Float → Float → List Float
ssfpl_from ps a b =
    let xmid = approx_x_from_y ps (mul half (add a b)) (middle_dose ps) in
    a ∷ b ∷ xmid ∷ width_of xmid (approx_x_from_y ps (add a (mul quarter (sub b a))) xmid) ∷ []

unfoldable pub ssfpl_start : List Pair → List Float
ssfpl_start ps = cond (ltb (length ps) 4 || not (apart_of (least ps) (most ps))) ssfpl_else (ssfpl_from ps (least ps) (most ps))

-- ---- `self_start`, by code

unfoldable pub start_from_points : ℕ → List Pair → List Float
start_from_points code ps = cond (eqb code 1) (sslogis_start ps) (cond (eqb code 2) (ssasymp_start ps) (cond (eqb code 3) (ssmicmen_start ps) (ssfpl_start ps)))

unfoldable pub self_start_of : ℕ → List Float → List Float → List Float
self_start_of code doses grams = start_from_points code (sorted_xy_data (zip doses grams))

-- ---- the public operation

-- the number of the first fault, and 0 where there is none: 1 no such curve; 2 over 512 readings or unequal lists; 9 a list of the wrong length for the values
unfoldable pub start_fault : ℕ → ℕ → ℕ → ℕ → ℕ
start_fault code doses grams values =
    cond (no_curve code) 1
    (cond (ltb 512 doses || not (eqb doses grams)) 2
    (cond (eqb values (n_params_of code)) 0 9))

-- a call's number, 0 where it is not refused; and the lent list as it is left
pub record Told : Type 0 where
  pub number : ℕ
  pub values : List Float

-- an answer, and the list as it is left
unfoldable pub told : Result ⊤ Refusal → List Float → Told
told (Err e) values = record { number = number_of e; values = values }
told (Ok u) values = record { number = 0; values = values }

-- a refusal leaves the list as it was
unfoldable pub call_of : ℕ → List Float → List Float → List Float → Told
call_of code doses grams values =
    let n = start_fault code (length doses) (length grams) (length values) in
    record { number = n; values = cond (eqb n 0) (self_start_of code doses grams) values }
