-- Worked values, by computation: a row is an argument's bit pattern and the result's, and stands for one way through the definition. Assumes nothing.
use Rattle.std.proofs.Common.{ℕ, Bool, true, ◌&&◌, T, eqb, List, [], ◌∷◌}
use lib.Ieee.{Float}
use Rattle.math.specs.Basic.{bits, add, div, one, two}
use Rattle.math.specs.Words.{pattern}
use Rattle.math.specs.Exp.{exp_of}
use Rattle.math.specs.laws.Computes.{exp_computes}
use Rattle.math.specs.Ln.{ln_of}
use Rattle.math.specs.laws.Computes.{ln_computes}
use Rattle.math.specs.Sqrt.{sqrt_of}
use Rattle.math.specs.laws.Computes.{sqrt_computes}

abbrev values : (Float → Float) → List (ℕ × ℕ) → Bool
values f [] = true
values f ((x, y) ∷ rows) = eqb (pattern (f (bits x))) y && values f rows

exp_values : T (values exp_of (
    -- exp 0 is 1, with no rounding
    (0, 0x3ff0_0000_0000_0000)
    -- exp 1, with k = 1: fdlibm's is not the nearest float, which ends in 5769
    ∷ (0x3ff0_0000_0000_0000, 0x4005_bf0a_8b14_576a)
    -- exp -1, with k = -1
    ∷ (0xbff0_0000_0000_0000, 0x3fd7_8b56_362c_ef38)
    -- exp 700, with k found from x / ln 2
    ∷ (0x4085_e000_0000_0000, 0x7f0d_945d_f4f8_ec8e)
    -- exp -740 is subnormal: k is added in two steps
    ∷ (0xc087_2000_0000_0000, 0x55)
    ∷ []))
unfolding exp_computes
exp_values = tt

ln_values : T (values ln_of (
    -- ln 1 is +0
    (0x3ff0_0000_0000_0000, 0)
    -- ln of 1 + 1e-10: f is below 2 ^ -20, where a short series serves
    ∷ (0x3ff0_0000_0006_df38, 0x3ddb_7cdf_fffa_18d8)
    -- ln 3: x is halved, and k is 2. The nearest float ends in 030b
    ∷ (0x4008_0000_0000_0000, 0x3ff1_93ea_7aad_030a)
    -- ln of the least subnormal, which is multiplied by 2 ^ 54 first
    ∷ (1, 0xc087_4385_446d_71c3)
    ∷ []))
unfolding ln_computes
ln_values = tt

sqrt_values : T (values sqrt_of (
    -- sqrt 2: the exponent's field and 1023 is odd, and the significand is doubled
    (0x4000_0000_0000_0000, 0x3ff6_a09e_667f_3bcd)
    -- sqrt 5: it is even
    ∷ (0x4014_0000_0000_0000, 0x4001_e377_9b97_f4a8)
    -- the least subnormal, 2 ^ -1074: its root is 2 ^ -537
    ∷ (1, 0x1e60_0000_0000_0000)
    -- sqrt -0 is -0
    ∷ (0x8000_0000_0000_0000, 0x8000_0000_0000_0000)
    ∷ []))
unfolding sqrt_computes
sqrt_values = tt

-- the golden factor, (1 + sqrt x) / 2 at x = 5
golden : T (values (λ x. div (add one (sqrt_of x)) two) ((0x4014_0000_0000_0000, 0x3ff9_e377_9b97_f4a8) ∷ []))
unfolding exp_computes sqrt_computes
golden = tt
