-- The theorem: a decimal that is taken becomes the nearest float to it, a tie going to the even one.
-- The digits, below 10 ^ 15, and the power of ten, up to 10 ^ 22 = 5 ^ 22 * 2 ^ 22 with 5 ^ 22 below 2 ^ 53, are floats without rounding; so the one product or quotient is the exact decimal rounded once. Assumes nothing.
use Rattle.std.proofs.Common.{◌≡◌, ℕ, zero, suc, ◌+◌, ◌-◌, ◌*◌, ◌^◌, ◌<◌, ◌≤◌, Bool, true, false, cond, Ok, Err, not, eqb, ltb, leb, List, sym, refl, ap, ◌∙◌, lt_of_lt_of_le, lt_of_le_of_lt, le_of_lt, zero-lt-suc, mul_assoc, mul_comm, mul-pos, pow-suc, zero-mul, mul-one, mul_left_comm, arith, lit<, pow_mono, pow-add, shl_lt, ltb-true, ne_eqb, leb-false, leb-true}
use native.Mathlib.Nat.{mul-mul-mul_comm, pow-le-pow_right, one-le-pow}
use lib.Ieee.{Float, nan, inf, fin, binary64, up, down, unlike, round, neg, of_int}
use lib.Ieee as Ieee
use lib.Ieee.Back.{round_whole}
use lib.Ieee.Digits.{back}
use lib.Ieee.Exact.{HasValue, round_exact}
use lib.Ieee.Fits.{down_pos}
use lib.Ieee.Scale.{round_same}
use Rattle.math.specs.Basic.{mul, div}
use Rattle.read_decimal.specs.Scan.{limit}
use Rattle.read_decimal.specs.Decimal.{is_decimal, is_negative, mantissa_of, written_power, up_of, down_of, signed_float, exact_power, scaled_of, decimal_number, decimal_float}
use Rattle.read_decimal.specs.declared.DecimalError.{DecimalError}

-- ---- the digits and the power of ten are exact
neg_value : (x : Float) (a c : ℕ) → HasValue x false a c → HasValue (neg x) true a c
unfolding neg
neg_value nan a c h = h
neg_value (inf t) a c h = h
neg_value (fin t m e) a c h = (ap not h.0, h.1)

signed_value : (s : Bool) (m : ℕ) → m ≤ 2 ^ 53 → HasValue (signed_float s m) s m 1
unfolding signed_float of_int
signed_value true m h = neg_value (round binary64 false m 1) m 1 (round_whole binary64 false m h)
signed_value false m h = round_whole binary64 false m h

ten_is : (k : ℕ) → 10 ^ k ≡ 5 ^ k * 2 ^ k
ten_is zero = refl
ten_is (suc k) =
    pow-suc 10 k ∙ ap (λ (x : ℕ). x * 10) (ten_is k) ∙ mul-mul-mul_comm (5 ^ k) (2 ^ k) 5 2 ∙ ap (λ (x : ℕ). x * (2 ^ k * 2)) (sym (pow-suc 5 k)) ∙ ap (λ (x : ℕ). 5 ^ suc k * x) (sym (pow-suc 2 k))

five_small : (k : ℕ) → k ≤ 22 → 5 ^ k < 2 ^ 53
five_small k h = lt_of_le_of_lt (pow-le-pow_right {n = 5} (zero-lt-suc 4) h) (lit< {m = 5 ^ 22} {n = 2 ^ 53} tt)

room : (k : ℕ) → k ≤ 22 → 53 + (k + 1074) ≤ 2098
room k h = omega arith

power_value : (k : ℕ) → k ≤ 22 → HasValue (exact_power k) false (10 ^ k) 1
unfolding exact_power of_int
power_value k h =
    round_exact binary64 false (10 ^ k) 1 (5 ^ k) (k + 1074) (zero-lt-suc 0) (five_small k h)
    (lt_of_lt_of_le (shl_lt 53 (k + 1074) (five_small k h)) (pow_mono (room k h)))
    (ap (λ (x : ℕ). x * 2 ^ 1074) (ten_is k) ∙ mul_assoc (5 ^ k) (2 ^ k) (2 ^ 1074) ∙ ap (λ (x : ℕ). 5 ^ k * x) (sym (pow-add 2 k 1074)) ∙ sym (mul-one (5 ^ k * 2 ^ (k + 1074))))

-- ---- one operation on whole values rounds the exact result once
like : (s : Bool) → unlike s false ≡ s
like true = refl
like false = refl

signs : (t u s : Bool) → t ≡ s → u ≡ false → unlike t u ≡ s
signs t u s p q = ap (λ (x : Bool). unlike x u) p ∙ ap (unlike s) q ∙ like s

product : (x y : Float) (s : Bool) (a b : ℕ) → HasValue x s a 1 → HasValue y false b 1 → mul x y ≡ round binary64 s (a * b) 1
unfolding Ieee.mul
product nan y s a b h k = absurd h
product (inf t) y s a b h k = absurd h
product (fin t m e) nan s a b h k = absurd k
product (fin t m e) (inf u) s a b h k = absurd k
product (fin t m e) (fin u n d) s a b h k =
    ap (λ (z : Bool). round binary64 z (m * up e * (n * up d)) (down e * down d)) (signs t u s h.0 k.0)
    ∙ round_same binary64 s (m * up e * (n * up d)) (down e * down d) (a * b) 1 (mul-pos (down_pos e) (down_pos d)) (zero-lt-suc 0)
    (mul-one (m * up e * (n * up d))
    ∙ ap (λ (z : ℕ). z * (n * up d)) (sym (mul-one (m * up e)) ∙ h.1)
    ∙ ap (λ (z : ℕ). a * down e * z) (sym (mul-one (n * up d)) ∙ k.1)
    ∙ mul-mul-mul_comm a (down e) b (down d))

nonzero : (n b : ℕ) (u v : ℕ) → 0 < b → 0 < v → n * u * 1 ≡ b * v → eqb n 0 ≡ false
nonzero n b u v B W h =
    ne_eqb n 0
    (λ (z : n ≡ 0).
    let q : 0 < b * v = mul-pos B W in
    let r : n * u * 1 ≡ 0 = ap (λ (x : ℕ). x * u * 1) z ∙ ap (λ (x : ℕ). x * 1) (zero-mul u) in
    omega arith)

quotient : (x y : Float) (s : Bool) (a b : ℕ) → 0 < b → HasValue x s a 1 → HasValue y false b 1 → div x y ≡ round binary64 s a b
unfolding Ieee.div
quotient nan y s a b B h k = absurd h
quotient (inf t) y s a b B h k = absurd h
quotient (fin t m e) nan s a b B h k = absurd k
quotient (fin t m e) (inf u) s a b B h k = absurd k
quotient (fin t m e) (fin u n d) s a b B h k =
    let p : m * up e ≡ a * down e = sym (mul-one (m * up e)) ∙ h.1 in
    let q : n * up d ≡ b * down d = sym (mul-one (n * up d)) ∙ k.1 in
    rw (nonzero n b (up d) (down d) B (down_pos d) k.1, p, q)
    (ap (λ (z : Bool). round binary64 z (a * down e * down d) (b * down d * down e)) (signs t u s h.0 k.0)
    ∙ round_same binary64 s (a * down e * down d) (b * down d * down e) a b (mul-pos (mul-pos B (down_pos d)) (down_pos e)) B
    (simp (mul_assoc, mul_comm, mul_left_comm)))

-- ---- the decimal m * 10 ^ up / 10 ^ down
module _ (s : Bool) (m up down : ℕ) (small : m < limit) where
  abbrev rounded : Float
  rounded = round binary64 s (m * 10 ^ up) (10 ^ down)

  ten_pos : (k : ℕ) → 0 < 10 ^ k
  ten_pos k = one-le-pow k 10 (zero-lt-suc 9)

  few : m ≤ 2 ^ 53
  few = omega arith

  times : down ≤ up → up - down ≤ 22 → mul (signed_float s m) (exact_power (up - down)) ≡ rounded
  times h k =
      product (signed_float s m) (exact_power (up - down)) s m (10 ^ (up - down)) (signed_value s m few) (power_value (up - down) k)
      ∙ round_same binary64 s (m * 10 ^ (up - down)) 1 (m * 10 ^ up) (10 ^ down) (zero-lt-suc 0) (ten_pos down)
      (mul_assoc m (10 ^ (up - down)) (10 ^ down)
      ∙ ap (λ (z : ℕ). m * z) (sym (pow-add 10 (up - down) down) ∙ ap (λ (z : ℕ). 10 ^ z) (back up down h))
      ∙ sym (mul-one (m * 10 ^ up)))

  over : up ≤ down → down - up ≤ 22 → div (signed_float s m) (exact_power (down - up)) ≡ rounded
  over h k =
      quotient (signed_float s m) (exact_power (down - up)) s m (10 ^ (down - up)) (ten_pos (down - up)) (signed_value s m few) (power_value (down - up) k)
      ∙ round_same binary64 s m (10 ^ (down - up)) (m * 10 ^ up) (10 ^ down) (ten_pos (down - up)) (ten_pos down)
      (ap (λ (z : ℕ). m * z) (ap (λ (z : ℕ). 10 ^ z) (sym (back down up h)) ∙ pow-add 10 (down - up) up ∙ mul_comm (10 ^ (down - up)) (10 ^ up))
      ∙ sym (mul_assoc m (10 ^ up) (10 ^ (down - up))))

  pub scaled_nearest : (x : Float) → scaled_of s m up down ≡ Ok x → x ≡ rounded
  unfolding scaled_of
  scaled_nearest x = go (leb down up) refl (leb (up - down) 22) refl (leb (down - up) 22) refl
    where
      go : (b : Bool) → leb down up ≡ b → (d : Bool) → leb (up - down) 22 ≡ d → (f : Bool) → leb (down - up) 22 ≡ f
          → cond b (cond d (Ok (mul (signed_float s m) (exact_power (up - down)))) (Err DecimalError.PowerOutOfRange)) (cond f (Ok (div (signed_float s m) (exact_power (down - up)))) (Err DecimalError.PowerOutOfRange)) ≡ Ok x
          → x ≡ rounded
      go true p true q f r e = let is : x ≡ mul (signed_float s m) (exact_power (up - down)) = cc in is ∙ times (leb-true down up p) (leb-true (up - down) 22 q)
      go true p false q f r e = cc
      go false p d q true r e = let is : x ≡ div (signed_float s m) (exact_power (down - up)) = cc in is ∙ over (le_of_lt (leb-false down up p)) (leb-true (down - up) 22 r)
      go false p d q false r e = cc

-- every text that is taken: the float is mantissa_of * 10 ^ up_of / 10 ^ down_of, with its sign, rounded once
pub decimal_nearest : (text : List ℕ) (x : Float) → decimal_float text ≡ Ok x → x ≡ round binary64 (is_negative text) (mantissa_of text * 10 ^ up_of text) (10 ^ down_of text)
unfolding decimal_float decimal_number
decimal_nearest text x = go (is_decimal text) (ltb (mantissa_of text) limit) refl (ltb (written_power text) limit)
  where
    go : (a b : Bool) → ltb (mantissa_of text) limit ≡ b → (d : Bool)
        → cond a (cond b (cond d (scaled_of (is_negative text) (mantissa_of text) (up_of text) (down_of text)) (Err DecimalError.PowerOutOfRange)) (Err DecimalError.TooManyDigits)) (Err DecimalError.NotADecimal) ≡ Ok x
        → x ≡ round binary64 (is_negative text) (mantissa_of text * 10 ^ up_of text) (10 ^ down_of text)
    go true true p true e = scaled_nearest (is_negative text) (mantissa_of text) (up_of text) (down_of text) (ltb-true (mantissa_of text) limit p) x e
    go true true p false e = cc
    go true false p d e = cc
    go false b p d e = cc
