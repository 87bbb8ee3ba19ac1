-- The literals of self_start.rs by their bit patterns, beside 1e-8, 0, 1/2, 1 and 2 of math; laws/Literals.antt ties each to its decimal.
use Rattle.std.specs.Prelude.{Float}
use Rattle.math.specs.Basic.{bits}

abbrev pub 1e-3 : Float
1e-3 = bits 0x3f50_624d_d2f1_a9fc

abbrev pub 1e-6 : Float
1e-6 = bits 0x3eb0_c6f7_a0b5_ed8d

abbrev pub 1e-12 : Float
1e-12 = bits 0x3d71_9799_812d_ea11

abbrev pub 1e-15 : Float
1e-15 = bits 0x3cd2_03af_9ee7_5616

abbrev pub quarter : Float
quarter = bits 0x3fd0_0000_0000_0000

abbrev pub two_fifths : Float
two_fifths = bits 0x3fd9_9999_9999_999a

abbrev pub four : Float
four = bits 0x4010_0000_0000_0000

abbrev pub five : Float
five = bits 0x4014_0000_0000_0000

abbrev pub ten : Float
ten = bits 0x4024_0000_0000_0000

abbrev pub twenty : Float
twenty = bits 0x4034_0000_0000_0000

abbrev pub fifty : Float
fifty = bits 0x4049_0000_0000_0000

abbrev pub ninety : Float
ninety = bits 0x4056_8000_0000_0000

abbrev pub two_hundred : Float
two_hundred = bits 0x4069_0000_0000_0000

abbrev pub three_fifty : Float
three_fifty = bits 0x4075_e000_0000_0000

abbrev pub seven_twenty_five : Float
seven_twenty_five = bits 0x4086_a800_0000_0000
