-- Literals that several crates have: a decimal is the float nearest to it, and the code's infinities are the definitions'.
use Rattle.std.specs.Prelude.{◌≡◌, ◌^◌, refl, true, false}
use Rattle.std.specs.Float.{inf, binary64}
use Rattle.std.specs.Float.Ieee.{round, of_bits}
use Rattle.math.specs.Rationals.{over, 1e-8}

pub decimal_1e_8 : 1e-8 ≡ over 1 (10 ^ 8)
unfolding of_bits round
decimal_1e_8 = refl

pub positive_infinity : of_bits binary64 0x7ff0_0000_0000_0000 ≡ inf false
unfolding of_bits
positive_infinity = refl

pub negative_infinity : of_bits binary64 0xfff0_0000_0000_0000 ≡ inf true
unfolding of_bits
negative_infinity = refl
