-- Equality of floats, bit by bit.
use Rattle.std.specs.Prelude.{Bool, eqb, Float}
use Rattle.std.specs.Float.{binary64}
use Rattle.std.specs.Float.Ieee.{to_bits}

-- the same bits; `to_bits` has one pattern for every NaN
abbrev pub same_bits : Float → Float → Bool
same_bits x y = eqb (to_bits binary64 x) (to_bits binary64 y)
