-- What the definitions of specs/Floats.antt mean: their constants are powers of ten, each rounded once, and nearest_whole is within a half. Assumes nothing.
use Rattle.std.proofs.Common.{◌≡◌, ℕ, ◌+◌, ◌-◌, ◌*◌, ◌/◌, ◌^◌, ◌<◌, ◌≤◌, false, ltb, [], ◌∷◌, ℤ, refl, mod-lt, zero-lt-suc, div-lt_iff_lt-mul, mul-pos, div-add-mod', mul_left_comm, arith, lt-ltb}
use lib.Ieee.{Float, fin, binary64, up, down, round, of_bits}
use lib.Ieee.Fits.{down_pos}
use Rattle.math.specs.laws.Loops.{pick_true}
use Rattle.text_floats.specs.Floats.{nearest_whole, float_ten, million, large, little, powers}

-- a / 10 ^ k
abbrev decimal : ℕ → ℕ → Float
decimal a k = round binary64 false a (10 ^ k)

pub powers_are : powers ≡ decimal 1000000 0 ∷ decimal 100000 0 ∷ decimal 10000 0 ∷ decimal 1000 0 ∷ decimal 100 0 ∷ decimal 10 0 ∷ decimal 1 0 ∷ decimal 1 1 ∷ decimal 1 2 ∷ decimal 1 3 ∷ decimal 1 4 ∷ []
unfolding powers of_bits round
powers_are = refl

pub constants_are : float_ten ∷ million ∷ large ∷ little ∷ [] ≡ decimal 10 0 ∷ decimal 1000000 0 ∷ decimal (10 ^ 15) 0 ∷ decimal 1 5 ∷ []
unfolding of_bits round
constants_are = refl

-- the value is m * up e / down e. It is at least the whole number less a half, and below it plus a half
module _ (m : ℕ) (e : ℤ) (h : m * up e < (2 ^ 64 - 1) * down e) where
  abbrev a : ℕ
  a = m * up e

  abbrev d : ℕ
  d = down e

  abbrev n : ℕ
  n = (2 * a + d) / (2 * d)

  twice_pos : 0 < 2 * d
  twice_pos = mul-pos (zero-lt-suc 1) (down_pos e)

  fits_word : n < 2 ^ 64
  fits_word = (div-lt_iff_lt-mul twice_pos).1 (omega (arith, down_pos e))

  nearest_n : nearest_whole (fin false m e) ≡ n
  unfolding nearest_whole
  nearest_n = pick_true (ltb n (2 ^ 64)) n 0 (lt-ltb n (2 ^ 64) fits_word)

  pub within_half : (2 * (nearest_whole (fin false m e) * d) ≤ 2 * a + d) × (2 * a < 2 * (nearest_whole (fin false m e) * d) + d)
  within_half =
      rw nearest_n (
        omega (arith, div-add-mod' (2 * a + d) (2 * d), mul_left_comm n 2 d),
        omega (arith, div-add-mod' (2 * a + d) (2 * d), mul_left_comm n 2 d, mod-lt (2 * a + d) twice_pos),
      )
