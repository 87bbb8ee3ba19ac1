-- The literals of the quadrature are the floats that their decimals name.
use Rattle.std.specs.Prelude.{◌^◌, ◌≡◌, refl, [], ◌∷◌}
use Rattle.std.specs.Float.Ieee.{neg, round, of_bits}
use Rattle.math.specs.Basic.{half, two}
use Rattle.math.specs.Rationals.{over}
use Rattle.criterion_agq.specs.Agq.{epsilon, minus_half, minus_two}

pub constants : epsilon ∷ minus_half ∷ minus_two ∷ [] ≡ over 1 (2 ^ 52) ∷ neg half ∷ neg two ∷ []
unfolding of_bits round neg
constants = refl
