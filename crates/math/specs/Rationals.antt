-- Floats by the rationals that they are nearest to, and a literal that several crates have.
use Rattle.std.specs.Prelude.{ℕ, true, false, Float}
use Rattle.std.specs.Float.Ieee.{round}
use Rattle.std.specs.Float.{binary64}
use Rattle.math.specs.Basic.{bits}

-- n / d, -n / d and n, rounded once
abbrev pub over : ℕ → ℕ → Float
over n d = round binary64 false n d

abbrev pub minus : ℕ → ℕ → Float
minus n d = round binary64 true n d

abbrev pub num : ℕ → Float
num n = over n 1

abbrev pub 1e-8 : Float
1e-8 = bits 0x3e45_798e_e230_8c3a
