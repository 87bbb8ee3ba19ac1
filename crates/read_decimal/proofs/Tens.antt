-- The code's table holds the powers of ten, by one computed test: the patterns are equal, and a value that fits has one pattern. Assumes nothing.
use Rattle.std.proofs.Common.{◌≡◌, ℕ, zero, suc, ◌+◌, ◌<◌, ◌≤◌, Bool, true, ◌&&◌, T, eqb, List, [], ◌∷◌, length, get_or, sym, ap, ◌∙◌, le_of_suc-le-suc, not-suc-le-zero, add-zero, add-suc, suc-add, arith, eqb→eq}
use lib.Ieee.{Float, nan, binary64, of_bits, to_bits, round, fits, of_int}
use lib.Ieee.Bits.{of_bits-to_bits}
use lib.Ieee.Fits.{of_int-fits, and_l, and_r}
use Rattle.math.specs.Basic.{bits}
use Rattle.math.specs.Words.{pattern}
use Rattle.read_decimal.specs.Decimal.{exact_power}

-- TENS
abbrev pub table : List Float
table =
    bits 0x3ff0_0000_0000_0000
    ∷ bits 0x4024_0000_0000_0000
    ∷ bits 0x4059_0000_0000_0000
    ∷ bits 0x408f_4000_0000_0000
    ∷ bits 0x40c3_8800_0000_0000
    ∷ bits 0x40f8_6a00_0000_0000
    ∷ bits 0x412e_8480_0000_0000
    ∷ bits 0x4163_12d0_0000_0000
    ∷ bits 0x4197_d784_0000_0000
    ∷ bits 0x41cd_cd65_0000_0000
    ∷ bits 0x4202_a05f_2000_0000
    ∷ bits 0x4237_4876_e800_0000
    ∷ bits 0x426d_1a94_a200_0000
    ∷ bits 0x42a2_309c_e540_0000
    ∷ bits 0x42d6_bcc4_1e90_0000
    ∷ bits 0x430c_6bf5_2634_0000
    ∷ bits 0x4341_c379_37e0_8000
    ∷ bits 0x4376_3457_85d8_a000
    ∷ bits 0x43ab_c16d_674e_c800
    ∷ bits 0x43e1_58e4_6091_3d00
    ∷ bits 0x4415_af1d_78b5_8c40
    ∷ bits 0x444b_1ae4_d6e2_ef50
    ∷ bits 0x4480_f0cf_064d_d592
    ∷ []

unfoldable test : ℕ → List Float → Bool
test j [] = true
test j (x ∷ xs) = fits binary64 x && eqb (pattern x) (pattern (exact_power j)) && test (suc j) xs

power_fits : (k : ℕ) → T (fits binary64 (exact_power k))
unfolding exact_power
power_fits k = of_int-fits binary64 _

right : (j : ℕ) (l : List Float) → T (test j l) → (i : ℕ) → i < length l → get_or l i nan ≡ exact_power (j + i)
unfolding test
right j [] t i h = absurd (not-suc-le-zero h)
right j (x ∷ xs) t zero h =
    let A = fits binary64 x in
    let B = eqb (pattern x) (pattern (exact_power j)) in
    let g : T (A && B) = and_l (A && B) (test (suc j) xs) t in
    sym (of_bits-to_bits binary64 x (and_l A B g)) ∙ ap bits (eqb→eq (pattern x) (pattern (exact_power j)) (and_r A B g)) ∙ of_bits-to_bits binary64 (exact_power j) (power_fits j) ∙ ap exact_power (sym (add-zero j))
right j (x ∷ xs) t (suc i) h =
    right (suc j) xs (and_r (fits binary64 x && eqb (pattern x) (pattern (exact_power j))) (test (suc j) xs) t) i (le_of_suc-le-suc h)
    ∙ ap exact_power (suc-add j i ∙ sym (add-suc j i))

table_passes : T (test 0 table)
unfolding test exact_power fits of_bits to_bits round of_int
table_passes = tt

pub table_right : (k : ℕ) → k ≤ 22 → get_or table k nan ≡ exact_power k
table_right k h = right 0 table table_passes k (omega arith) ∙ ap exact_power (omega arith)
