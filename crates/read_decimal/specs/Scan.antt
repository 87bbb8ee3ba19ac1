-- Places in a list of bytes, and the number that digits say.
use Prim.Native.Char.{code}
use Rattle.std.specs.Prelude.{ℕ, ◌+◌, ◌-◌, ◌*◌, Bool, cond, ◌&&◌, ◌||◌, List, [], ◌∷◌, length, drop, take_while, ◌==◌, nat_lt, min, slice_index}
use Rattle.std.specs.Char.{is_ascii_digit}

-- the byte b stands at a place
unfoldable pub stands : ℕ → List ℕ → ℕ → Bool
stands b text at = nat_lt at (length text) && slice_index text at == b

-- the place after a byte that is a or b, and the same place where neither stands there
unfoldable pub past_either : ℕ → ℕ → List ℕ → ℕ → ℕ
past_either a b text at = cond (stands a text at || stands b text at) (at + 1) at

-- the place where the digits end that begin at a place
unfoldable pub digits_end : List ℕ → ℕ → ℕ
digits_end text at = at + length (take_while is_ascii_digit (drop at text))

-- digits as a number, the most significant first, after those that make n
unfoldable pub digits_value_from : ℕ → List ℕ → ℕ
digits_value_from n [] = n
digits_value_from n (b ∷ w) = digits_value_from (n * 10 + (b - code "0")) w

abbrev pub digits_value : List ℕ → ℕ
digits_value w = digits_value_from 0 w

-- 10 ^ 15, the least number of 16 digits; a number, or that where it is less
abbrev pub limit : ℕ
limit = 1000000000000000

abbrev pub capped_value : ℕ → ℕ
capped_value n = min n limit
