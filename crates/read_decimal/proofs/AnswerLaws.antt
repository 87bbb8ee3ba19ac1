-- Numbers that were capped give the answer of the numbers themselves. Assumes nothing.
use Rattle.std.proofs.Common.{◌≡◌, ℕ, zero, suc, ◌+◌, Bool, true, false, cond, nat_lt, List, Float, Result, Ok, Err, ℤ, ◌&&◌, refl, ◌∙◌, add-zero, arith, ltb-true, ltb-false, le-ltb}
use Rattle.read_decimal.specs.Scan.{limit, capped_value}
use Rattle.read_decimal.specs.Decimal.{fraction_end, is_negative, mantissa_of, places_of, written_power, is_power_negative, up_of, down_of, scaled_of, decimal_number, has_digit, ends_right, is_decimal, decimal_float}
use Rattle.read_decimal.specs.declared.DecimalError.{DecimalError}
use Rattle.read_decimal.specs.declared.parts.Mantissa.{Mantissa}
use Rattle.read_decimal.specs.Parts.{power_from, numbered_of, read_mantissa, read_power}

below : (n : ℕ) → nat_lt n limit ≡ true → capped_value n ≡ n
below n h = omega (arith, ltb-true n limit h)

above : (n : ℕ) → nat_lt n limit ≡ false → capped_value n ≡ limit
above n h = omega (arith, ltb-false n limit h)

-- the power by its sign and its size
abbrev by_sign : Mantissa → Bool → ℕ → Result Float DecimalError
by_sign m s n =
    cond (nat_lt m.digits limit)
    (cond (nat_lt n limit) (cond s (scaled_of m.negative m.digits 0 (m.places + n)) (scaled_of m.negative m.digits n m.places)) (Err DecimalError.PowerOutOfRange))
    (Err DecimalError.TooManyDigits)

signed : (m : Mantissa) (s : Bool) (n : ℕ) → numbered_of m (power_from s n) ≡ by_sign m s n
unfolding numbered_of power_from
signed m true zero = rw (add-zero m.places) refl
signed m true (suc n) = refl
signed m false n = rw (le-ltb n 0 (omega arith)) refl

abbrev read : List ℕ → Mantissa
read text = record { negative = is_negative text; digits = capped_value (mantissa_of text); places = places_of text; end = fraction_end text }

uncapped : (text : List ℕ)
    → numbered_of (record { negative = is_negative text; digits = capped_value (mantissa_of text); places = places_of text; end = fraction_end text }) (power_from (is_power_negative text) (capped_value (written_power text)))
    ≡ decimal_number text
unfolding decimal_number up_of down_of
uncapped text =
    signed (read text) (is_power_negative text) (capped_value (written_power text))
    ∙ go (nat_lt (mantissa_of text) limit) refl (nat_lt (written_power text) limit) refl (is_power_negative text) refl
  where
    go : (b : Bool) → nat_lt (mantissa_of text) limit ≡ b → (d : Bool) → nat_lt (written_power text) limit ≡ d → (s : Bool) → is_power_negative text ≡ s
        → by_sign (read text) (is_power_negative text) (capped_value (written_power text)) ≡ decimal_number text
    go false p d q s r = rw (above (mantissa_of text) p, p)
    go true p false q s r = rw (below (mantissa_of text) p, p, above (written_power text) q, q)
    go true p true q true r = rw (below (mantissa_of text) p, p, below (written_power text) q, q, r)
    go true p true q false r = rw (below (mantissa_of text) p, p, below (written_power text) q, q, r)

-- what the two parts say is what the text says
pub numbered_is : (text : List ℕ) (m : Mantissa) (p : ℤ) → read_mantissa text ≡ Ok m → read_power text ≡ Ok p → numbered_of m p ≡ decimal_float text
unfolding read_mantissa read_power decimal_float is_decimal
numbered_is text m p = go (has_digit text) (ends_right text)
  where
    go : (a b : Bool) → cond a (Ok (read text)) (Err DecimalError.NotADecimal) ≡ Ok m
        → cond b (Ok (power_from (is_power_negative text) (capped_value (written_power text)))) (Err DecimalError.NotADecimal) ≡ Ok p
        → numbered_of m p ≡ cond (a && b) (decimal_number text) (Err DecimalError.NotADecimal)
    go true true e f =
        let is : m ≡ read text = cc in
        let so : p ≡ power_from (is_power_negative text) (capped_value (written_power text)) = cc in
        rw (is, so) (uncapped text)
    go true false e f = cc
    go false b e f = cc
