-- Each constant of the definitions, which is a bit pattern, is the decimal of fdlibm's e_exp.c or e_log.c rounded once: digits / 10 ^ k with a sign. By computation. Assumes nothing.
use Rattle.std.proofs.Common.{◌≡◌, ℕ, ◌^◌, Bool, true, false, ◌&&◌, T, eqb, List, [], ◌∷◌, sym, ap, ◌∙◌, eqb→eq}
use lib.Ieee.{Float, binary64, of_bits, to_bits, round, fits}
use lib.Ieee.Bits.{of_bits-to_bits}
use lib.Ieee.Fits.{round-fits, and_l, and_r}
use Rattle.math.specs.Basic.{bits, zero, half, one, two}
use Rattle.math.specs.Words.{pattern}
use Rattle.math.specs.Exp.{huge, twom1000, o_threshold, u_threshold, ln2_hi, ln2_lo, invln2, P1, P2, P3, P4, P5}
use Rattle.math.specs.Ln.{two54, third, Lg1, Lg2, Lg3, Lg4, Lg5, Lg6, Lg7}

abbrev Row : Type 0
Row = Float × Bool × ℕ × ℕ

abbrev Rounded : List Row → Type 0
Rounded [] = Unit
Rounded ((x, s, d, k) ∷ rows) = (x ≡ round binary64 s d (10 ^ k)) × Rounded rows

-- a constant, whether it is negative, the decimal's digits, and the power of ten that divides them
unfoldable pub literals : List Row
literals =
    (zero, false, 0, 0)
    ∷ (half, false, 5, 1)
    ∷ (one, false, 1, 0)
    ∷ (two, false, 2, 0)
    ∷ (huge, false, 10 ^ 300, 0)
    ∷ (twom1000, false, 933263618503218878990, 322)
    ∷ (o_threshold, false, 709782712893383973096, 18)
    ∷ (u_threshold, true, 745133219101941108420, 18)
    ∷ (ln2_hi, false, 693147180369123816490, 21)
    ∷ (ln2_lo, false, 190821492927058770002, 30)
    ∷ (invln2, false, 144269504088896338700, 20)
    ∷ (P1, false, 166666666666666019037, 21)
    ∷ (P2, true, 277777777770155933842, 23)
    ∷ (P3, false, 661375632143793436117, 25)
    ∷ (P4, true, 165339022054652515390, 26)
    ∷ (P5, false, 413813679705723846039, 28)
    ∷ (two54, false, 180143985094819840000, 4)
    ∷ (third, false, 33333333333333333, 17)
    ∷ (Lg1, false, 6666666666666735130, 19)
    ∷ (Lg2, false, 3999999999940941908, 19)
    ∷ (Lg3, false, 2857142874366239149, 19)
    ∷ (Lg4, false, 2222219843214978396, 19)
    ∷ (Lg5, false, 1818357216161805012, 19)
    ∷ (Lg6, false, 1531383769920937332, 19)
    ∷ (Lg7, false, 1479819860511658591, 19)
    ∷ []

-- the test compares bit patterns, of which a value that fits has one
unfoldable test : List Row → Bool
test [] = true
test ((x, s, d, k) ∷ rows) = fits binary64 x && eqb (pattern x) (pattern (round binary64 s d (10 ^ k))) && test rows

rounded : (rows : List Row) → T (test rows) → Rounded rows
unfolding test
rounded [] t = tt
rounded ((x, s, d, k) ∷ rows) t =
    let A = fits binary64 x in
    let y = round binary64 s d (10 ^ k) in
    let B = eqb (pattern x) (pattern y) in
    let h : T (A && B) = and_l (A && B) (test rows) t in
    (sym (of_bits-to_bits binary64 x (and_l A B h)) ∙ ap bits (eqb→eq (pattern x) (pattern y) (and_r A B h)) ∙ of_bits-to_bits binary64 y (round-fits binary64 s d (10 ^ k)), rounded rows (and_r (A && B) (test rows) t))

pub literals_rounded : Rounded literals
unfolding literals test fits of_bits to_bits round
literals_rounded = rounded literals tt
