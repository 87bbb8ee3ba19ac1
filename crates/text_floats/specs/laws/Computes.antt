-- What opens a float's text for computation.
use Rattle.std.specs.Float.Ieee.{lt, le, eq, of_int, of_bits, round}
use Rattle.std.specs.Float.Ieee as Ieee
use lib.Ieee.{is_nan}
use Rattle.std.specs.Fmt.{digits}
use Rattle.math.specs.Basic.{abs_of, is_finite}
use Rattle.math.specs.Loops.{until}
use Rattle.text_floats.specs.Floats.{nearest_whole, last_digits, fraction_text, unsigned_text, shortened, sign_text, signed_text, divided, multiplied, in_tens, seven_digits, two_digits, power_text, powered_text, scientific_text, power_of_ten, fixed_text, powers, decimals_of, seven_significant, figure_text}

-- ---- with so many decimals, and to seven significant digits

-- what computing a text unfolds
unfoldable pub floats_computes : Unit {0}
unfolding digits is_nan is_finite until of_bits round Ieee.mul Ieee.div lt le eq of_int abs_of nearest_whole last_digits fraction_text unsigned_text shortened sign_text signed_text divided multiplied in_tens seven_digits two_digits power_text powered_text scientific_text power_of_ten fixed_text powers decimals_of seven_significant figure_text
floats_computes = tt
