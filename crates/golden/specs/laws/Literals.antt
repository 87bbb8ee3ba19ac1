-- The literals of `optimize_theta_golden` are the floats nearest to their decimals.
use Rattle.std.specs.Prelude.{◌^◌, ◌≡◌, refl, [], ◌∷◌}
use Rattle.std.specs.Float.Ieee.{round, of_bits}
use Rattle.math.specs.Rationals.{over}
use Rattle.golden.specs.Golden.{start, end, tolerance, five}

pub decimals : start ∷ end ∷ tolerance ∷ five ∷ [] ≡ over 2 10 ∷ over 20 1 ∷ over 1 (10 ^ 4) ∷ over 5 1 ∷ []
unfolding of_bits round
decimals = refl
