-- The small words on 64-bit floats that the other definitions use.
use Rattle.std.specs.Prelude.{ℕ, Bool, true, false, cond, ◌||◌, from_bits, is_nan, Float}
use Rattle.std.specs.Float.{nan, inf, fin, binary64}
use Rattle.std.specs.Float.Ieee.{lt}
use Rattle.std.specs.Float.Ieee as Ieee

-- the five operations of binary64, each rounded once
abbrev pub add : Float → Float → Float
add = Ieee.add binary64

abbrev pub sub : Float → Float → Float
sub = Ieee.sub binary64

abbrev pub mul : Float → Float → Float
mul = Ieee.mul binary64

abbrev pub div : Float → Float → Float
div = Ieee.div binary64

-- a constant by its bit pattern, as MIR has every literal
abbrev pub bits : ℕ → Float
bits = from_bits binary64

-- +0, 1/2, 1 and 2
abbrev pub zero : Float
zero = bits 0

abbrev pub half : Float
half = bits 0x3fe0_0000_0000_0000

abbrev pub one : Float
one = bits 0x3ff0_0000_0000_0000

abbrev pub two : Float
two = bits 0x4000_0000_0000_0000

-- |x|: the sign of a zero is cleared too
unfoldable pub abs_of : Float → Float
abs_of nan = nan
abs_of (inf s) = inf false
abs_of (fin s m e) = fin false m e

unfoldable pub is_finite : Float → Bool
is_finite nan = false
is_finite (inf s) = false
is_finite (fin s m e) = true

unfoldable pub is_infinite : Float → Bool
is_infinite nan = false
is_infinite (inf s) = true
is_infinite (fin s m e) = false

-- the larger: of two equal operands the first, of a NaN and a number the number
unfoldable pub max_of : Float → Float → Float
max_of a b = cond (lt a b || is_nan a) b a

-- the smaller, by the same rule
unfoldable pub min_of : Float → Float → Float
min_of a b = cond (lt b a || is_nan a) b a
