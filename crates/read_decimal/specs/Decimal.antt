-- What a decimal says: an optional sign, digits with at most one point, and an optional power of ten, `e` or `E` with an optional sign and digits.
-- Every digit counts as significant but the zeros before the first other one: 0.000123 has three, 1.500 four.
use Prim.Native.Char.{code}
use Rattle.std.specs.Prelude.{ℕ, ◌+◌, ◌-◌, ◌^◌, Bool, cond, ◌&&◌, ◌||◌, List, ◌++◌, length, pos, ◌==◌, nat_le, nat_lt, Float, Result, Ok, Err}
use Rattle.std.specs.Float.{binary64}
use Rattle.std.specs.Float.Ieee.{of_int, neg}
use Rattle.math.specs.Basic.{mul, div}
use Rattle.math.specs.Parts.{part}
use Rattle.read_decimal.specs.Scan.{stands, past_either, digits_end, digits_value, limit}
use Rattle.read_decimal.specs.declared.DecimalError.{DecimalError}

-- ---- the parts of a text, by their places

-- the digits before the point begin after a sign, `+` or `-`
unfoldable pub whole_at : List ℕ → ℕ
whole_at text = past_either (code "+") (code "-") text 0

unfoldable pub whole_end : List ℕ → ℕ
whole_end text = digits_end text (whole_at text)

-- the digits after the point; without a point there are none
unfoldable pub fraction_at : List ℕ → ℕ
fraction_at text = past_either (code ".") (code ".") text (whole_end text)

unfoldable pub fraction_end : List ℕ → ℕ
fraction_end text = digits_end text (fraction_at text)

-- the power of ten comes after `E` or `e` and a sign
unfoldable pub power_at : List ℕ → ℕ
power_at text = past_either (code "E") (code "e") text (fraction_end text)

unfoldable pub power_digits_at : List ℕ → ℕ
power_digits_at text = past_either (code "+") (code "-") text (power_at text)

unfoldable pub power_end : List ℕ → ℕ
power_end text = digits_end text (power_digits_at text)

-- ---- what the parts say

-- there is a digit, and the text ends there or after a power of ten that has a digit
unfoldable pub has_digit : List ℕ → Bool
has_digit text = nat_lt (whole_at text) (whole_end text) || nat_lt (fraction_at text) (fraction_end text)

unfoldable pub ends_right : List ℕ → Bool
ends_right text =
    (fraction_end text == length text)
    || (nat_lt (fraction_end text) (power_at text) && nat_lt (power_digits_at text) (power_end text) && power_end text == length text)

unfoldable pub is_decimal : List ℕ → Bool
is_decimal text = has_digit text && ends_right text

unfoldable pub is_negative : List ℕ → Bool
is_negative text = stands (code "-") text 0

-- all digits as one number, and how many of them stand after the point
unfoldable pub mantissa_of : List ℕ → ℕ
mantissa_of text =
    digits_value (part (whole_at text) (whole_end text - whole_at text) text ++ part (fraction_at text) (fraction_end text - fraction_at text) text)

unfoldable pub places_of : List ℕ → ℕ
places_of text = fraction_end text - fraction_at text

-- the power of ten as it is written: its size, and whether it is negative
unfoldable pub written_power : List ℕ → ℕ
written_power text = digits_value (part (power_digits_at text) (power_end text - power_digits_at text) text)

unfoldable pub is_power_negative : List ℕ → Bool
is_power_negative text = stands (code "-") text (power_at text)

-- the decimal is mantissa_of * 10 ^ up_of / 10 ^ down_of
unfoldable pub up_of : List ℕ → ℕ
up_of text = cond (is_power_negative text) 0 (written_power text)

unfoldable pub down_of : List ℕ → ℕ
down_of text = cond (is_power_negative text) (places_of text + written_power text) (places_of text)

-- ---- the float

-- m with its sign, and 10 ^ k: floats without rounding for m below 10 ^ 15 and k up to 22
unfoldable pub signed_float : Bool → ℕ → Float
signed_float s m = cond s (neg (of_int binary64 (pos m))) (of_int binary64 (pos m))

unfoldable pub exact_power : ℕ → Float
exact_power k = of_int binary64 (pos (10 ^ k))

-- one product or one quotient, rounded once; no answer where the power of ten is not from -22 to 22
unfoldable pub scaled_of : Bool → ℕ → ℕ → ℕ → Result Float DecimalError
scaled_of s m up down =
    cond (nat_le down up)
    (cond (nat_le (up - down) 22) (Ok (mul (signed_float s m) (exact_power (up - down)))) (Err DecimalError.PowerOutOfRange))
    (cond (nat_le (down - up) 22) (Ok (div (signed_float s m) (exact_power (down - up)))) (Err DecimalError.PowerOutOfRange))

-- the faults in their order; a power of ten of 10 ^ 15 or more is out of range whatever the digits after the point
unfoldable pub decimal_number : List ℕ → Result Float DecimalError
decimal_number text =
    cond (nat_lt (mantissa_of text) limit)
    (cond (nat_lt (written_power text) limit) (scaled_of (is_negative text) (mantissa_of text) (up_of text) (down_of text)) (Err DecimalError.PowerOutOfRange))
    (Err DecimalError.TooManyDigits)

unfoldable pub decimal_float : List ℕ → Result Float DecimalError
decimal_float text = cond (is_decimal text) (decimal_number text) (Err DecimalError.NotADecimal)

-- the faults' numbers
abbrev pub error_number : DecimalError → ℕ
error_number DecimalError.NotADecimal = 1
error_number DecimalError.TooManyDigits = 2
error_number DecimalError.PowerOutOfRange = 3
