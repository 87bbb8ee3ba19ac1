-- What the two parts of the reader hand on.
use Rattle.std.specs.Prelude.{ℕ, ◌+◌, Bool, cond, List, ℤ, pos, neg_ℤ, int_lt, unsigned_abs, nat_le, nat_lt, Float, Result, Ok, Err}
use Rattle.read_decimal.specs.Scan.{capped_value, limit}
use Rattle.read_decimal.specs.Decimal.{has_digit, ends_right, is_negative, is_power_negative, mantissa_of, places_of, written_power, fraction_end, scaled_of, exact_power}
use Rattle.read_decimal.specs.declared.DecimalError.{DecimalError}
use Rattle.read_decimal.specs.declared.parts.Mantissa.{Mantissa}

-- the digits, where there is one
unfoldable pub read_mantissa : List ℕ → Result Mantissa DecimalError
read_mantissa text =
    cond (has_digit text)
    (Ok (record { negative = is_negative text; digits = capped_value (mantissa_of text); places = places_of text; end = fraction_end text }))
    (Err DecimalError.NotADecimal)

-- the power of ten, where the text ends right
unfoldable pub power_from : Bool → ℕ → ℤ
power_from negative size = cond negative (neg_ℤ (pos size)) (pos size)

unfoldable pub read_power : List ℕ → Result ℤ DecimalError
read_power text = cond (ends_right text) (Ok (power_from (is_power_negative text) (capped_value (written_power text)))) (Err DecimalError.NotADecimal)

-- `decimal_number` over what was read
unfoldable pub numbered_of : Mantissa → ℤ → Result Float DecimalError
numbered_of m p =
    cond (nat_lt m.digits limit)
    (cond (nat_lt (unsigned_abs p) limit)
    (cond (int_lt p (pos 0)) (scaled_of m.negative m.digits 0 (m.places + unsigned_abs p)) (scaled_of m.negative m.digits (unsigned_abs p) m.places))
    (Err DecimalError.PowerOutOfRange))
    (Err DecimalError.TooManyDigits)

-- 10 ^ k, where it is a float without rounding
abbrev pub power_in_range : ℕ → Result Float DecimalError
power_in_range k = cond (nat_le k 22) (Ok (exact_power k)) (Err DecimalError.PowerOutOfRange)
