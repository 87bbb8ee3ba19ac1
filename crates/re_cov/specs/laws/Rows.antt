-- Inputs that tell near misses apart, computed from the definitions, and the floors as decimals. Document 01's marked rows stand in crates/worked_examples.
-- Assumes nothing.
use Rattle.std.specs.Prelude.{◌^◌, ◌≡◌, refl, false, [], ◌∷◌}
use Rattle.std.specs.Float.Ieee.{eq, round, of_bits}
use Rattle.math.specs.Basic.{mul}
use Rattle.math.specs.Matrix.{entry}
use Rattle.math.specs.Rationals.{over, minus, num, 1e-8}
use Rattle.re_cov.specs.ReCov.{1e-12, 1e-16, sigma_inverse, penalty_of}
use Rattle.re_cov.specs.laws.Computes.{re_cov_computes}

-- a theta below the floor acts as the floor, and not by its size
pub negative_theta : sigma_inverse 1 (minus 2 1 ∷ []) ≡ sigma_inverse 1 (1e-8 ∷ [])
unfolding re_cov_computes round
negative_theta = refl

-- theta 3, effect 5: the effect times the inverse times the effect is another float than the penalty
pub penalty_apart : eq (penalty_of 1 (num 3 ∷ []) (num 5 ∷ [])) (mul (num 5) (mul (entry (sigma_inverse 1 (num 3 ∷ [])) 0 0) (num 5))) ≡ false
unfolding re_cov_computes round
penalty_apart = refl

pub floors : 1e-12 ∷ 1e-16 ∷ [] ≡ over 1 (10 ^ 12) ∷ over 1 (10 ^ 16) ∷ []
unfolding of_bits round
floors = refl
