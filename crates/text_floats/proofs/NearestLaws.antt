-- A float that is rounded to a whole number and then cut to a word is the whole number nearest to it: what is below 2 ^ 53 is exact as a float, and a
-- float of 2 ^ 53 or more has no fraction.
use Rattle.std.proofs.Common.{◌≡◌, ℕ, zero, suc, ◌+◌, ◌*◌, ◌/◌, ◌%◌, ◌^◌, ◌<◌, ◌≤◌, true, false, ◌&&◌, T, ℤ, pos, negsuc, sym, refl, ◌∙◌, arith, ltb→lt, eqb, ltb, leb, mul_assoc, mul-one, zero-mul, div-lt_iff_lt-mul, le-div_iff_mul-le, mul-pos, zero-lt-suc, pow-add, pow_pos, mul-lt-mul_of_pos_right, lt_of_lt_of_le, ltb-true, ltb-false, lt-ltb, le-ltb}
use Rattle.std.proofs.Common.{lit≤}
use native.Mathlib.Nat.{div-eq_of_lt, div-eq_of_lt-le, min-eq_left, mul-div_cancel}
use Rattle.std.specs.Float.{float_round, round_with}
use lib.Ieee.{Float, nan, inf, fin, binary64, up, down, lt, round, fits, of_bits, to_unsigned}
use lib.Ieee.Back.{round_whole}
use lib.Ieee.Exact.{HasValue, round_exact}
use lib.Ieee.Fits.{down_pos, and_l, and_r}
use lib.Ieee.Positive.{first_pos}
use Rattle.math.specs.Basic.{bits}
use Rattle.math.specs.Basic as Basic
use Rattle.math.specs.laws.Order.{clash, clash'}
use Rattle.math.specs.laws.Loops.{pick_true, pick_false}
use Rattle.text_floats.specs.Floats.{nearest_whole}

abbrev pub two64 : Float
two64 = bits 0x43f0_0000_0000_0000

-- the whole number nearest to a / d
abbrev N : ℕ → ℕ → ℕ
N a d = (2 * a + d) / (2 * d)

-- a float whose value is n, as a word
value_cut : (y : Float) (n : ℕ) → HasValue y false n 1 → n < 2 ^ 64 → to_unsigned 64 y ≡ n
unfolding to_unsigned
value_cut nan n v h = absurd v
value_cut (inf t) n v h = absurd v
value_cut (fin true k g) n v h = clash v.0
value_cut (fin false k g) n v h =
    let e : k * up g ≡ n * down g = sym (mul-one (k * up g)) ∙ v.1 in
    let q : k * up g / down g ≡ n = rw e (mul-div_cancel n (down_pos g)) in
    rw q (min-eq_left (omega arith))

fits_parts : (m : ℕ) (e : ℤ) → 0 < m → T (fits binary64 (fin false m e)) → m < 2 ^ 53
unfolding fits
fits_parts zero e p t = absurd (omega arith)
fits_parts (suc m) e p t =
    let a = eqb (suc m % 2) 1 in
    let b = ltb (suc m) (2 ^ 53) in
    let c = leb (down e) (2 ^ 1074) in
    let d = ltb (suc m * up e) (2 ^ 1024 * down e) in
    ltb→lt (suc m) (2 ^ 53) (and_r a b (and_l (a && b) c (and_l (a && b && c) d t)))

-- rounded to a whole number the value is exact
rounded : (m : ℕ) (e : ℤ) → m < 2 ^ 53 → m * up e < 2 ^ 64 * down e
    → HasValue (round binary64 false (N (m * up e) (down e)) 1) false (N (m * up e) (down e)) 1 × (N (m * up e) (down e) < 2 ^ 64)
rounded m (pos k) s u =
    let A = m * 2 ^ k in
    let n : N A 1 ≡ A = div-eq_of_lt-le (2 * 1) (omega arith) (omega arith) in
    let z : A < 2 ^ 64 = omega arith in
    let q : m * 2 ^ (k + 1074) ≡ A * 2 ^ 1074 = rw (pow-add 2 k 1074) (sym (mul_assoc m (2 ^ k) (2 ^ 1074))) in
    let small : m * 2 ^ (k + 1074) < 2 ^ 2098 = rw q (lt_of_lt_of_le (mul-lt-mul_of_pos_right z (pow_pos 1074)) (lit≤ tt)) in
    rw n (round_exact binary64 false A 1 m (k + 1074) (zero-lt-suc 0) s small (sym q ∙ sym (mul-one (m * 2 ^ (k + 1074)))), z)
rounded m (negsuc k) s u =
    let d = 2 ^ suc k in
    let p : 0 < d = pow_pos (suc k) in
    let n : N (m * 1) d < 2 ^ 53 + 1 = (div-lt_iff_lt-mul (mul-pos (zero-lt-suc 1) p)).1 (omega arith) in
    (round_whole binary64 false (N (m * 1) d) (omega arith), omega arith)

nearest_is : (m : ℕ) (e : ℤ) → N (m * up e) (down e) < 2 ^ 64 → nearest_whole (fin false m e) ≡ N (m * up e) (down e)
unfolding nearest_whole
nearest_is m e h = pick_true (ltb (N (m * up e) (down e)) (2 ^ 64)) (N (m * up e) (down e)) 0 (lt-ltb (N (m * up e) (down e)) (2 ^ 64) h)

pub is_between : (x : Float) → T (fits binary64 x) → lt Basic.zero x ≡ true → lt x two64 ≡ true → to_unsigned 64 (float_round binary64 x) ≡ nearest_whole x
unfolding of_bits lt round_with
is_between nan f p u = clash' p
is_between (inf true) f p u = clash' p
is_between (inf false) f p u = clash' u
is_between (fin true m e) f p u = clash' p
is_between (fin false m e) f p u =
    let above : 0 < m = first_pos m (up e) (omega (arith, ltb-true (0 * 1 * down e) (m * up e * 1) p)) in
    let below : m * up e < 2 ^ 64 * down e = omega (arith, ltb-true (m * up e * 1) (1 * 2 ^ 64 * down e) u) in
    let r = rounded m e (fits_parts m e above f) below in
    value_cut (round binary64 false (N (m * up e) (down e)) 1) (N (m * up e) (down e)) r.0 r.1 ∙ sym (nearest_is m e r.1)

-- 0 of what is not above 0, and from 2 ^ 64 on
pub is_low : (x : Float) → lt Basic.zero x ≡ false → 0 ≡ nearest_whole x
unfolding of_bits lt nearest_whole
is_low nan h = refl
is_low (inf s) h = refl
is_low (fin true m e) h = refl
is_low (fin false m e) h =
    let z : m * up e ≡ 0 = omega (arith, ltb-false (0 * 1 * down e) (m * up e * 1) h, zero-mul (down e)) in
    let q : (2 * (m * up e) + down e) / (2 * down e) ≡ 0 = div-eq_of_lt (let p : 0 < down e = down_pos e in omega arith) in
    rw q

pub is_high : (x : Float) → lt x two64 ≡ false → 0 ≡ nearest_whole x
unfolding of_bits lt nearest_whole
is_high nan h = refl
is_high (inf s) h = refl
is_high (fin true m e) h = refl
is_high (fin false m e) h =
    let p : 2 ^ 64 * down e ≤ m * up e = omega (arith, ltb-false (m * up e * 1) (1 * 2 ^ 64 * down e) h) in
    let q : 2 ^ 64 ≤ (2 * (m * up e) + down e) / (2 * down e) = (le-div_iff_mul-le (mul-pos (zero-lt-suc 1) (down_pos e))).1 (omega arith) in
    sym (pick_false (ltb ((2 * (m * up e) + down e) / (2 * down e)) (2 ^ 64)) _ 0 (le-ltb _ (2 ^ 64) q))
