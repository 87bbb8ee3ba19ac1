-- Patterns and values of the finite floats that are not negative. A pattern k * 2 ^ 52 + s, with s from 2 ^ 52 up to 2 ^ 53, is that of s * 2 ^ k units: its field is k + 1, its digits s - 2 ^ 52.
-- Assumes nothing.
use Rattle.std.proofs.Common.{◌≡◌, ℕ, zero, suc, ◌+◌, ◌-◌, ◌*◌, ◌/◌, ◌%◌, ◌^◌, ◌<◌, ◌≤◌, Bool, true, false, cond, not, ◌&&◌, T, eqb, ltb, leb, ℤ, pos, negsuc, sym, refl, ap, ◌∙◌, subst, lt_of_lt_of_le, le_of_suc-le-suc, mul_assoc, mul-lt-mul_of_pos_right, lt_of_not-le, zero-mul, mul-one, not-le_of_lt, arith, lit<, lit≤, ltb→lt, leb→le, pow_pos, pow_mono, pow-add, shl_lt, ne_eqb, leb-false, leb-true}
use native.Mathlib.Nat.{eq_of_mul-eq-mul_right, two-pow-succ}
use lib.Pow.{pow-lt}
use lib.Ieee.{Float, nan, inf, fin, up, down, binary64, odd, of_fields, of_bits, fits, is_nan}
use lib.Ieee.Bits.{of_bits-to_bits, to_bits-of_bits}
use lib.Ieee.Digits.{back}
use lib.Ieee.Exact.{HasValue, odd_sign, round_exact}
use lib.Ieee.Fits.{down_pos, and_l, and_r}
use lib.Ieee.Positive.{positive, mul_at}
use borrow.Author.Tests.{lt-leb, eqb-false}
use Rattle.math.specs.Basic.{bits, mul}
use Rattle.math.specs.Words.{pattern}
use Rattle.math.specs.Ln.{two54}
use Rattle.math.specs.Values.{Units, Normal}

-- ---- from a pattern to its value
pub value : (k s : ℕ) → k < 2046 → 2 ^ 52 ≤ s → s < 2 ^ 53 → Units (bits (k * 2 ^ 52 + s)) (s * 2 ^ k)
unfolding of_bits of_fields
value k s h l u =
    let sign : leb (2 ^ 63) (k * 2 ^ 52 + s) ≡ false = lt-leb (2 ^ 63) (k * 2 ^ 52 + s) (omega arith) in
    let field : (k * 2 ^ 52 + s) % 2 ^ 63 / 2 ^ 52 ≡ suc k = omega arith in
    let low : (k * 2 ^ 52 + s) % 2 ^ 52 ≡ s - 2 ^ 52 = omega arith in
    let top : eqb (suc k) 2047 ≡ false = ne_eqb (suc k) 2047 (λ e. omega arith) in
    let lead : 2 ^ 52 + (s - 2 ^ 52) ≡ s = omega arith in
    rw (sign, field, low, top, lead) (odd_sign 53 false s k 1074)

-- the digits of a normal pattern
abbrev pub sig : ℕ → ℕ
sig b = 2 ^ 52 + b % 2 ^ 52

pub normal_value : (b : ℕ) → 2 ^ 52 ≤ b → b < 2047 * 2 ^ 52 → Units (bits b) (sig b * 2 ^ (b / 2 ^ 52 - 1))
normal_value b h l =
    let e : (b / 2 ^ 52 - 1) * 2 ^ 52 + sig b ≡ b = omega arith in
    subst (λ (x : ℕ). Units (bits x) (sig b * 2 ^ (b / 2 ^ 52 - 1))) e (value (b / 2 ^ 52 - 1) (sig b) (omega arith) (omega arith) (omega arith))

pub small_value : (b : ℕ) → b < 2 ^ 52 → Units (bits b) b
unfolding of_bits of_fields
small_value b h =
    let sign : leb (2 ^ 63) b ≡ false = lt-leb (2 ^ 63) b (omega arith) in
    let field : b % 2 ^ 63 / 2 ^ 52 ≡ 0 = omega arith in
    let low : b % 2 ^ 52 ≡ b = omega arith in
    rw (sign, field, low) (subst (λ (a : ℕ). HasValue (odd 53 false b 0 1074) false a (2 ^ 1074)) (mul-one b) (odd_sign 53 false b 0 1074))

-- what has a value is no NaN, so that its pattern is the one it was read from
pub read_back : (k s : ℕ) → k < 2046 → 2 ^ 52 ≤ s → s < 2 ^ 53 → pattern (bits (k * 2 ^ 52 + s)) ≡ k * 2 ^ 52 + s
unfolding is_nan
read_back k s h l u = to_bits-of_bits binary64 (k * 2 ^ 52 + s) (omega arith) (number (bits (k * 2 ^ 52 + s)) (s * 2 ^ k) (value k s h l u))
  where
    number : (x : Float) (a : ℕ) → Units x a → T (not (is_nan x))
    number nan a v = absurd v
    number (inf t) a v = tt
    number (fin t m e) a v = tt

-- ---- from a positive value to its pattern
clear : (x : Float) (s : Bool) (a c : ℕ) → HasValue x s a c → T (positive x) → s ≡ false
clear nan s a c h p = absurd p
clear (inf t) s a c h p = absurd p
clear (fin true m e) s a c h p = absurd p
clear (fin false m e) s a c h p = sym h.0

fields_of : (s : Bool) (x t : ℕ) → T (positive (of_fields binary64 s x t)) → (s ≡ false) × (x ≡ 2047 → ⊥)
unfolding of_fields
fields_of s zero t p = (clear (odd 53 s t 0 1074) s (t * 2 ^ 0) (2 ^ 1074) (odd_sign 53 s t 0 1074) p, λ e. omega arith)
fields_of s (suc x) t p = go (eqb (suc x) 2047) refl p
  where
    ends : (b : Bool) → T (positive (cond b (inf s) nan)) → ⊥
    ends true q = q
    ends false q = q

    go : (b : Bool) → eqb (suc x) 2047 ≡ b → T (positive (cond b (cond (eqb t 0) (inf s) nan) (odd 53 s (2 ^ 52 + t) x 1074))) → (s ≡ false) × (suc x ≡ 2047 → ⊥)
    go true e q = absurd (ends (eqb t 0) q)
    go false e q = (clear (odd 53 s (2 ^ 52 + t) x 1074) s ((2 ^ 52 + t) * 2 ^ x) (2 ^ 1074) (odd_sign 53 s (2 ^ 52 + t) x 1074) q, eqb-false (suc x) 2047 e)

pub pattern_under : (x : Float) → T (fits binary64 x) → T (positive x) → pattern x < 2047 * 2 ^ 52
unfolding of_bits
pattern_under x f p =
    let b = pattern x in
    let w = fields_of (leb (2 ^ 63) b) (b % 2 ^ 63 / 2 ^ 52) (b % 2 ^ 52) (subst (λ (y : Float). T (positive y)) (sym (of_bits-to_bits binary64 x f)) p) in
    under b (leb-false (2 ^ 63) b w.0) w.1
  where
    under : (b : ℕ) → b < 2 ^ 63 → (b % 2 ^ 63 / 2 ^ 52 ≡ 2047 → ⊥) → b < 2047 * 2 ^ 52
    under b h n = omega arith

-- the units of a value, by its pattern
module _ (x : Float) (f : T (fits binary64 x)) where
  pub small_units : pattern x < 2 ^ 52 → Units x (pattern x)
  small_units h = subst (λ (y : Float). Units y (pattern x)) (of_bits-to_bits binary64 x f) (small_value (pattern x) h)

  pub normal_units : Normal x → Units x (sig (pattern x) * 2 ^ (pattern x / 2 ^ 52 - 1))
  normal_units h = subst (λ (y : Float). Units y (sig (pattern x) * 2 ^ (pattern x / 2 ^ 52 - 1))) (of_bits-to_bits binary64 x f) (normal_value (pattern x) h.0 h.1)

-- ---- a value has one number of units, and it has at most 53 digits
pub one_value : (x : Float) (a b : ℕ) → Units x a → Units x b → a ≡ b
one_value nan a b h k = absurd h
one_value (inf s) a b h k = absurd h
one_value (fin s m e) a b h k = eq_of_mul-eq-mul_right (down e) (down_pos e) a b (sym h.1 ∙ k.1)

pub record Digits (c : ℕ) : Type 0 where
  pub q : ℕ
  pub j : ℕ
  pub is : c ≡ q * 2 ^ j
  pub few : q < 2 ^ 53

fits_says : (s : Bool) (m : ℕ) (e : ℤ) → T (fits binary64 (fin s (suc m) e)) → (suc m < 2 ^ 53) × (down e ≤ 2 ^ 1074)
unfolding fits
fits_says s m e f =
    let A = eqb (suc m % 2) 1 in
    let B = ltb (suc m) (2 ^ 53) in
    let C = leb (down e) (2 ^ 1074) in
    let g : T (A && B && C) = and_l (A && B && C) (ltb (suc m * up e) (2 ^ 1024 * down e)) f in
    (ltb→lt (suc m) (2 ^ 53) (and_r A B (and_l (A && B) C g)), leb→le (down e) (2 ^ 1074) (and_r (A && B) C g))

pub digits : (y : Float) (c : ℕ) → T (fits binary64 y) → Units y c → Digits c
digits nan c f h = absurd h
digits (inf s) c f h = absurd h
digits (fin s zero e) c f h = record { q = 0; j = 0; is = eq_of_mul-eq-mul_right (down e) (down_pos e) c 0 (sym h.1 ∙ simp zero-mul); few = lit< tt }
digits (fin s (suc m) (pos k)) c f h =
    record { q = suc m; j = k + 1074; is = sym (mul-one c) ∙ sym h.1 ∙ mul_assoc (suc m) (2 ^ k) (2 ^ 1074) ∙ ap (λ (x : ℕ). suc m * x) (sym (pow-add 2 k 1074)); few = (fits_says s m (pos k) f).0 }
digits (fin s (suc m) (negsuc k)) c f h =
    let w = fits_says s m (negsuc k) f in
    let split : 2 ^ 1074 ≡ 2 ^ (1074 - suc k) * 2 ^ suc k = ap (λ (x : ℕ). 2 ^ x) (sym (back 1074 (suc k) (exponent_le (suc k) 1074 w.1))) ∙ pow-add 2 (1074 - suc k) (suc k) in
    record {
      q = suc m;
      j = 1074 - suc k;
      is = eq_of_mul-eq-mul_right (2 ^ suc k) (pow_pos (suc k)) c (suc m * 2 ^ (1074 - suc k)) (sym h.1 ∙ ap (λ (x : ℕ). x * 2 ^ 1074) (mul-one (suc m)) ∙ ap (λ (x : ℕ). suc m * x) split ∙ sym (mul_assoc (suc m) (2 ^ (1074 - suc k)) (2 ^ suc k)));
      few = w.0;
    }
  where
    exponent_le : (i l : ℕ) → 2 ^ i ≤ 2 ^ l → i ≤ l
    exponent_le i l g = le_of_suc-le-suc (lt_of_not-le (λ (n : suc l ≤ i). not-le_of_lt (pow-lt n) g))

-- from 2 ^ 52 * 2 ^ k up, such a number is a multiple of 2 ^ k
pub coarse : (c k : ℕ) → Digits c → 2 ^ 52 * 2 ^ k ≤ c → (t : ℕ) × (c ≡ t * 2 ^ k)
coarse c k d h = go (leb k d.j) refl
  where
    go : (b : Bool) → leb k d.j ≡ b → (t : ℕ) × (c ≡ t * 2 ^ k)
    go true e = (d.q * 2 ^ (d.j - k), d.is ∙ ap (λ (x : ℕ). d.q * 2 ^ x) (sym (back d.j k (leb-true k d.j e))) ∙ ap (λ (x : ℕ). d.q * x) (pow-add 2 (d.j - k) k) ∙ sym (mul_assoc d.q (2 ^ (d.j - k)) (2 ^ k)))
    go false e =
        absurd (omega (arith, d.is, mul-lt-mul_of_pos_right d.few (pow_pos d.j), two-pow-succ d.j, pow_mono (leb-false k d.j e)))

-- ---- 2 ^ 54 times a subnormal is exact
pub times54 : (x : Float) (a : ℕ) → T (positive x) → a < 2 ^ 52 → Units x a → Units (mul x two54) (a * 2 ^ 54)
unfolding of_bits
times54 x a p h v =
    rw (mul_at binary64 x two54 a (2 ^ 1074) (2 ^ 54) 1 p tt (pow_pos 1074) (lit< tt) v (refl, refl))
    (round_exact binary64 false (a * 2 ^ 54) (2 ^ 1074) a 54 (pow_pos 1074) (omega arith) (lt_of_lt_of_le (shl_lt 52 54 h) (pow_mono {i = 106} {j = 2098} (lit≤ tt))) refl)
