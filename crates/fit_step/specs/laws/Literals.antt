-- The literals of fit.rs are the floats nearest to their decimals.
use Rattle.std.specs.Prelude.{◌^◌, ◌≡◌, refl, [], ◌∷◌}
use Rattle.std.specs.Float.Ieee.{round, of_bits}
use Rattle.math.specs.Rationals.{over}
use Rattle.fit_step.specs.Constants.{ten, three_tenths, three_fifty, 1e6, 1e-2, 1e-4, 1e-6}

pub decimals : ten ∷ three_tenths ∷ three_fifty ∷ 1e6 ∷ 1e-2 ∷ 1e-4 ∷ 1e-6 ∷ []
    ≡ over 10 1 ∷ over 3 10 ∷ over 350 1 ∷ over (10 ^ 6) 1 ∷ over 1 100 ∷ over 1 (10 ^ 4) ∷ over 1 (10 ^ 6) ∷ []
unfolding of_bits round
decimals = refl
