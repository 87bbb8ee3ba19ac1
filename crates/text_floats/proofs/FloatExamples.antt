-- Worked texts, by computation: a row is a float's bit pattern and its text. Assumes nothing.
use Rattle.std.proofs.Common.{◌≡◌, ℕ, List, [], ◌∷◌, refl}
use Prim.Native.String.{String}
use lib.Ieee.{Float}
use Rattle.math.specs.Basic.{bits}
use Rattle.std.specs.Prelude.{codes}
use Rattle.text_floats.specs.Floats.{figure_text, fixed_text, scientific_text}
use Rattle.text_floats.specs.laws.Computes.{floats_computes}

abbrev computed : (Float → List ℕ) → List (ℕ × String) → List (List ℕ)
computed f [] = []
computed f ((x, t) ∷ rows) = f (bits x) ∷ computed f rows

abbrev stated : List (ℕ × String) → List (List ℕ)
stated [] = []
stated ((x, t) ∷ rows) = codes t ∷ stated rows

abbrev Rows : (Float → List ℕ) → List (ℕ × String) → Type 0
Rows f rows = computed f rows ≡ stated rows

figures : Rows figure_text (
    (0, "0")
    ∷ (0x8000_0000_0000_0000, "0")
    ∷ (0x3ff0_0000_0000_0000, "1")
    ∷ (0xbff8_0000_0000_0000, "-1.5")
    ∷ (0x3fb9_9999_9999_999a, "0.1")
    -- 123456.75
    ∷ (0x40fe_240c_0000_0000, "123456.8")
    -- 9.9999999
    ∷ (0x4023_ffff_fca5_01ad, "10")
    ∷ (0x430c_6bf5_2634_0000, "1.000000e+15")
    ∷ (0x3e7a_d7f2_9abc_af48, "1.000000e-07")
    -- the least and the largest
    ∷ (1, "4.940656e-324")
    ∷ (0x7fef_ffff_ffff_ffff, "1.797693e+308")
    ∷ (0x7ff8_0000_0000_0000, "nan")
    ∷ (0x7ff0_0000_0000_0000, "inf")
    ∷ (0xfff0_0000_0000_0000, "-inf")
    ∷ [])
unfolding floats_computes
figures = refl

-- what rounds to ten is one with the next power: 9.9999999 and 0.99999999
scientifics : Rows scientific_text (
    (0x4023_ffff_fca5_01ad, "1.000000e+01")
    ∷ (0x3fef_ffff_faa1_9c47, "1.000000e+00")
    ∷ (0xbff8_0000_0000_0000, "-1.500000e+00")
    ∷ [])
unfolding floats_computes
scientifics = refl

-- 0.125 lies half way. 2.675 lies below that, and its product with 100 on it
two_decimals : Rows (λ x. fixed_text x 2) (
    (0x3fc0_0000_0000_0000, "0.13")
    ∷ (0x4005_6666_6666_6666, "2.68")
    ∷ (0x40fe_240c_0000_0000, "123456.75")
    ∷ (0x430c_6bf5_2634_0000, "1.000000e+15")
    ∷ [])
unfolding floats_computes
two_decimals = refl

-- -0.04 rounds to 0, which has no sign
one_decimal : Rows (λ x. fixed_text x 1) ((0xbfa4_7ae1_47ae_147b, "0.0") ∷ (0xbff8_0000_0000_0000, "-1.5") ∷ [])
unfolding floats_computes
one_decimal = refl
