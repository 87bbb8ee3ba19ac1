-- The literal of a round is the float nearest to its decimal.
use Rattle.std.specs.Prelude.{◌^◌, ◌≡◌, refl}
use Rattle.std.specs.Float.Ieee.{round, of_bits}
use Rattle.math.specs.Rationals.{over}
use Rattle.fit_round.specs.Round.{1e-10}

pub decimal_1e_10 : 1e-10 ≡ over 1 (10 ^ 10)
unfolding of_bits round
decimal_1e_10 = refl
