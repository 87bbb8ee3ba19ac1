-- Every literal of self_start.rs is the float nearest to its decimal.
use Rattle.std.specs.Prelude.{◌^◌, ◌≡◌, refl, [], ◌∷◌}
use Rattle.std.specs.Float.Ieee.{round, of_bits}
use Rattle.math.specs.Basic.{zero, half, one, two}
use Rattle.math.specs.Rationals.{over, num, 1e-8}
use Rattle.self_start.specs.Constants.{1e-3, 1e-6, 1e-12, 1e-15, quarter, two_fifths, four, five, ten, twenty, fifty, ninety, two_hundred, three_fifty, seven_twenty_five}

pub decimals :
    1e-3 ∷ 1e-6 ∷ 1e-8 ∷ 1e-12 ∷ 1e-15
    ∷ zero ∷ quarter ∷ two_fifths ∷ half
    ∷ one ∷ two ∷ four ∷ five ∷ ten ∷ twenty ∷ fifty ∷ ninety ∷ two_hundred ∷ three_fifty ∷ seven_twenty_five ∷ []
    ≡ over 1 (10 ^ 3) ∷ over 1 (10 ^ 6) ∷ over 1 (10 ^ 8) ∷ over 1 (10 ^ 12) ∷ over 1 (10 ^ 15)
    ∷ num 0 ∷ over 25 100 ∷ over 4 10 ∷ over 5 10
    ∷ num 1 ∷ num 2 ∷ num 4 ∷ num 5 ∷ num 10 ∷ num 20 ∷ num 50 ∷ num 90 ∷ num 200 ∷ num 350 ∷ num 725 ∷ []
unfolding of_bits round
decimals = refl
