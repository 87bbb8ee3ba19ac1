-- 2π is the double of π's rounded decimal.
use Rattle.std.specs.Prelude.{◌^◌, ◌≡◌, refl}
use Rattle.std.specs.Float.Ieee.{round, of_bits}
use Rattle.std.specs.Float.Ieee as Ieee
use Rattle.math.specs.Basic.{mul, two}
use Rattle.math.specs.Rationals.{over}
use Rattle.criterion.specs.Profile.{two_pi}

-- twice the f64 that is nearest to pi
pub two_pi_lem : two_pi ≡ mul two (over 314159265358979323846264338328 (10 ^ 29))
unfolding of_bits round Ieee.mul
two_pi_lem = refl
