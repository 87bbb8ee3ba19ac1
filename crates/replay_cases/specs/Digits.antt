-- What a word of digits says; none is a fault.
use Rattle.std.specs.Prelude.{ℕ, ◌+◌, ◌-◌, ◌*◌, ◌^◌, Bool, true, false, ◌&&◌, cond, List, [], ◌∷◌, ltb, eqb, length, Option, Some, None, unwrap_or, option_map, Float}
use Rattle.std.specs.Float.{binary64, nan}
use Rattle.std.specs.Float.Ieee.{of_bits}
use Rattle.math.specs.Lists.{same_bytes}

-- the value of the digits `0` to `9` and `a` to `f` (48 to 57, 97 to 102)
unfoldable pub digit_of : ℕ → Option ℕ
digit_of b =
    cond (ltb b 48) None (cond (ltb b 58) (Some (b - 48)) (cond (ltb b 97) None (cond (ltb b 103) (Some (b - 87)) None)))

-- a digit's value, if it is below the base
abbrev pub is_below : ℕ → Option ℕ → Bool
is_below base None = false
is_below base (Some d) = ltb d base

-- whether every byte of a word is a digit below the base
unfoldable pub are_digits : ℕ → List ℕ → Bool
are_digits base [] = true
are_digits base (b ∷ w) = is_below base (digit_of b) && are_digits base w

-- the digits of a word as a number, the most significant first, after those that make n
unfoldable pub digits_from : ℕ → ℕ → List ℕ → ℕ
digits_from base n [] = n
digits_from base n (b ∷ w) = digits_from base (n * base + unwrap_or (digit_of b) 0) w

-- that number, if a word's bytes are all digits and it is below 2 ^ 64
unfoldable pub in_base_from : ℕ → ℕ → List ℕ → Option ℕ
in_base_from base n w = cond (are_digits base w && ltb (digits_from base n w) (2 ^ 64)) (Some (digits_from base n w)) None

-- the number that a word's digits say, if it is below 2 ^ 64
abbrev pub in_base_of : ℕ → List ℕ → Option ℕ
in_base_of base w = in_base_from base 0 w

-- 16 hexadecimal digits
unfoldable pub hex_of : List ℕ → Option ℕ
hex_of w = cond (eqb (length w) 16) (in_base_of 16 w) None

-- at least one decimal digit
unfoldable pub whole_number_of : List ℕ → Option ℕ
whole_number_of w = cond (eqb (length w) 0) None (in_base_of 10 w)

-- `nan`
abbrev pub nan_word : List ℕ
nan_word = 110 ∷ 97 ∷ 110 ∷ []

-- the word `nan` is the NaN, and any other word a float by its bits
unfoldable pub float_of : List ℕ → Option Float
float_of w = cond (same_bytes w nan_word) (Some nan) (option_map (of_bits binary64) (hex_of w))
