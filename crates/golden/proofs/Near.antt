-- A rounded fraction is within one step of any grid 2 ^ j (in units of the format's smallest value) whose points around it the format holds.
-- Only `round_mono` and `round_exact` are used: the grid's points below and above the fraction are values of the format. Assumes nothing.
use mathlib.Core.Path.{◌≡◌, refl}
use Prim.Native.Nat.{ℕ, suc, ◌+◌, ◌*◌, ◌/◌, ◌^◌, ◌≤◌, ◌<◌}
use native.Mathlib.Nat.{le_trans, le_of_eq, le_of_lt, lt_of_lt_of_le, mul_comm, mul_assoc, mul_left_comm, mul-le-mul_right, le_of_mul-le-mul_right, mul-pos, div-mul-le_self, le-div_iff_mul-le, div-lt_iff_lt-mul, one-mul, suc-mul, lt-suc_self}
use native.Mathlib.Omega.{arith}
use mathlib.Core.Bool.{false}
use lib.Dec.{T}
use lib.Pow.{pow_pos, pow_mono, shl_lt}
use lib.Ieee.{Float, Format, prec, emax, low, round, le}
use lib.Ieee.Exact.{HasValue, round_exact}
use lib.Ieee.Order.{round_mono}
use lib.Ieee.Scale.{grid, round_val, round_under}
use lib.Ieee.Positive.{positive, positive-finite, positive_of_value, values_of_le, between}

-- r is v / 2 ^ low f, and v * k is within k * u of x
abbrev pub Near : Format → Float → ℕ → ℕ → ℕ → Type 0
Near f r x k u = (v : ℕ) × HasValue r false v (2 ^ low f) × (v * k ≤ x + k * u) × (x ≤ v * k + k * u)

-- a grid point is a value of the format
at_grid : (f : Format) (j g : ℕ) → g < 2 ^ prec f → prec f + j ≤ low f + suc (emax f) → HasValue (round f false (g * 2 ^ j) (2 ^ low f)) false (g * 2 ^ j) (2 ^ low f)
at_grid f j g G R = round_exact f false (g * 2 ^ j) (2 ^ low f) g j (pow_pos (low f)) G (lt_of_lt_of_le (shl_lt (prec f) j G) (pow_mono R)) refl

cross_lo : (g u w k x : ℕ) → g * (k * u) ≤ x → g * u * (w * k) ≤ x * w
cross_lo g u w k x h = le_trans (le_of_eq (simp (mul_assoc, mul_comm))) (mul-le-mul_right w h)

cross_hi : (g u w k x : ℕ) → x ≤ g * (k * u) → x * w ≤ g * u * (w * k)
cross_hi g u w k x h = le_trans (mul-le-mul_right w h) (le_of_eq (simp (mul_assoc, mul_comm)))

-- g * u ≤ v ≤ (g + 1) * u, and the same of x / k
close : (g u k x v : ℕ) → g * (k * u) ≤ x → x ≤ suc g * (k * u) → g * u ≤ v → v ≤ suc g * u → (v * k ≤ x + k * u) × (x ≤ v * k + k * u)
close g u k x v a b c d =
    let p : g * (k * u) ≤ v * k = le_trans (le_of_eq (simp (mul_assoc, mul_comm))) (mul-le-mul_right k c) in
    let q : v * k ≤ suc g * (k * u) = le_trans (mul-le-mul_right k d) (le_of_eq (simp (mul_assoc, mul_comm, mul_left_comm))) in
    let s : suc g * (k * u) ≡ g * (k * u) + k * u = suc-mul g (k * u) in
    (omega arith, omega arith)

pub near : (f : Format) (j x k : ℕ) → 0 < k → k * 2 ^ j ≤ x → suc (x / (k * 2 ^ j)) < 2 ^ prec f → prec f + j ≤ low f + suc (emax f) → Near f (round f false x (2 ^ low f * k)) x k (2 ^ j)
near f j x k K lo hi R =
    let u = 2 ^ j in
    let w = 2 ^ low f in
    let W : 0 < w = pow_pos (low f) in
    let ku : 0 < k * u = mul-pos K (pow_pos j) in
    let g = x / (k * u) in
    let a : g * (k * u) ≤ x = div-mul-le_self x (k * u) in
    let b : x ≤ suc g * (k * u) = le_of_lt ((div-lt_iff_lt-mul ku).0 (lt-suc_self g)) in
    let below = round f false (g * u) w in
    let above = round f false (suc g * u) w in
    let r = round f false x (w * k) in
    let g1 : 1 ≤ g = (le-div_iff_mul-le ku).1 (le_trans (le_of_eq (one-mul (k * u))) lo) in
    let vb : HasValue below false (g * u) w = at_grid f j g (lt_of_lt_of_le (lt-suc_self g) (le_of_lt hi)) R in
    let va : HasValue above false (suc g * u) w = at_grid f j (suc g) hi R in
    let pb : T (positive below) = positive_of_value below (g * u) w vb (mul-pos g1 (pow_pos j)) in
    let pa : T (positive above) = positive_of_value above (suc g * u) w va (mul-pos (le_trans g1 (le_of_lt (lt-suc_self g))) (pow_pos j)) in
    let lb : T (le below r) = round_mono f (g * u) w x (w * k) W (mul-pos W K) (cross_lo g u w k x a) in
    let la : T (le r above) = round_mono f x (w * k) (suc g * u) w (mul-pos W K) W (cross_hi (suc g) u w k x b) in
    let pr : T (positive r) = between below r above pb pa lb la in
    let v = grid f x (w * k) in
    let vr : HasValue r false v w = round_val f x (w * k) (round_under f x (w * k) (positive-finite r pr)) in
    let c : g * u ≤ v = le_of_mul-le-mul_right (values_of_le below r (g * u) w v w pb pr vb vr lb) W in
    let d : v ≤ suc g * u = le_of_mul-le-mul_right (values_of_le r above v w (suc g * u) w pr pa vr va la) W in
    let e = close g u k x v a b c d in
    (v, vr, e.0, e.1)
