-- The literals of fit.rs by their bit patterns, beside 1e-8; laws/Literals.antt ties each to its decimal.
use Rattle.std.specs.Prelude.{Float}
use Rattle.math.specs.Basic.{bits}

abbrev pub ten : Float
ten = bits 0x4024_0000_0000_0000

abbrev pub three_tenths : Float
three_tenths = bits 0x3fd3_3333_3333_3333

abbrev pub three_fifty : Float
three_fifty = bits 0x4075_e000_0000_0000

abbrev pub 1e6 : Float
1e6 = bits 0x412e_8480_0000_0000

abbrev pub 1e-2 : Float
1e-2 = bits 0x3f84_7ae1_47ae_147b

abbrev pub 1e-4 : Float
1e-4 = bits 0x3f1a_36e2_eb1c_432d

abbrev pub 1e-6 : Float
1e-6 = bits 0x3eb0_c6f7_a0b5_ed8d
