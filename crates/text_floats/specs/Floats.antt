-- A float in decimal digits, as text for a person.
use Prim.Native.Char.{code}
use Rattle.std.specs.Prelude.{ℕ, zero, suc, ◌+◌, ◌*◌, ◌/◌, ◌%◌, ◌^◌, cond, ◌&&◌, List, [], ◌∷◌, ◌++◌, ℤ, pos, neg_ℤ, ◌+ℤ◌, int_lt, unsigned_abs, ◌==◌, nat_le, nat_lt, Float, is_nan, codes}
use Rattle.std.specs.List.{position}
use Rattle.std.specs.Option.{unwrap_or}
use Rattle.std.specs.Float.{nan, inf, fin, binary64}
use Rattle.std.specs.Float.Ieee.{up, down, lt, le, eq, of_int}
use Rattle.math.specs.Basic.{bits, mul, div, abs_of, is_finite, one}
use Rattle.math.specs.Basic as Basic
use Rattle.math.specs.Loops.{until}
use Rattle.text_buffer.specs.Text.{whole_text}
use Rattle.text_floats.specs.declared.Digits.{Digits}
use Rattle.text_floats.specs.declared.Scaled.{Scaled}

-- ---- whole numbers

-- the whole number nearest to a value of 0 or more, half way up: the value plus a half, its fraction cut.
-- 0 of what is below 0, of a NaN, and where that is 2 ^ 64 or more
unfoldable pub nearest_whole : Float → ℕ
nearest_whole nan = 0
nearest_whole (inf s) = 0
nearest_whole (fin s m e) = let n = (2 * (m * up e) + down e) / (2 * down e) in cond s 0 (cond (nat_lt n (2 ^ 64)) n 0)

-- the last k digits of n
unfoldable pub last_digits : ℕ → ℕ → List ℕ
last_digits zero n = []
last_digits (suc k) n = (code "0" + n / 10 ^ k % 10) ∷ last_digits k n

-- n / 10 ^ d with d decimals: the digits before the point, and the point and d digits where there are any
unfoldable pub fraction_text : ℕ → ℕ → List ℕ
fraction_text n zero = []
fraction_text n (suc d) = codes "." ++ last_digits (suc d) n

unfoldable pub unsigned_text : ℕ → ℕ → List ℕ
unsigned_text n d = whole_text (n / 10 ^ d) ++ fraction_text n d

-- the same number as another n and d, without zeros at the end of its decimals
unfoldable pub shortened : ℕ → ℕ → ℕ × ℕ
shortened n zero = (n, 0)
shortened n (suc d) = let r = shortened (n / 10) d in cond (n % 10 == 0) r (n, suc d)

-- n / 10 ^ d with the sign of x; 0 has none
unfoldable pub sign_text : Float → ℕ → List ℕ
sign_text x n = cond (lt x Basic.zero && nat_lt 0 n) (codes "-") []

unfoldable pub signed_text : Float → ℕ → ℕ → List ℕ
signed_text x n d = sign_text x n ++ unsigned_text n d

-- ---- scientific notation

-- x as about m * 10 ^ e, with m at least 1 and below 10: x of 1 or more is divided by ten until it is below 10, x below 1 multiplied until it is 1 or
-- more. Each step is rounded, and there are at most 400
abbrev pub float_ten : Float
float_ten = bits 0x4024_0000_0000_0000

abbrev pub scaled : ℤ → Float → Scaled
scaled e m = record { mantissa = m; power = e }

unfoldable pub divided : ℕ → ℕ → Float → Scaled
divided = until (λ e m. lt m float_ten) (λ e. scaled (pos e)) (λ e m. div m float_ten) (scaled (pos 400))

unfoldable pub multiplied : ℕ → ℕ → Float → Scaled
multiplied = until (λ e m. le one m) (λ e. scaled (neg_ℤ (pos e))) (λ e m. mul m float_ten) (scaled (neg_ℤ (pos 400)))

unfoldable pub in_tens : Float → Scaled
in_tens x = cond (lt x one) (multiplied 400 0 x) (divided 400 0 x)

-- a mantissa to seven digits; one that rounds to 10 is 1 with the next power
abbrev pub million : Float
million = bits 0x412e_8480_0000_0000

unfoldable pub seven_digits : Scaled → Digits
seven_digits s =
    let n = nearest_whole (mul s.mantissa million) in
    cond (nat_lt n 10000000) (record { n = n; power = s.power }) (record { n = 1000000; power = s.power +ℤ pos 1 })

-- the power has a sign and at least two digits
unfoldable pub two_digits : ℕ → List ℕ
two_digits e = cond (nat_lt e 10) (codes "0") [] ++ whole_text e

unfoldable pub power_text : ℤ → List ℕ
power_text e = cond (int_lt e (pos 0)) (codes "e-") (codes "e+") ++ two_digits (unsigned_abs e)

unfoldable pub powered_text : Float → Digits → List ℕ
powered_text x d = signed_text x d.n 6 ++ power_text d.power

-- nan, inf, -inf, 0, or a mantissa and its power
unfoldable pub scientific_text : Float → List ℕ
scientific_text x =
    cond (is_nan x) (codes "nan")
    (cond (eq x Basic.zero) (codes "0")
    (cond (is_finite x) (powered_text x (seven_digits (in_tens (abs_of x))))
    (cond (lt x Basic.zero) (codes "-inf") (codes "inf"))))

-- ---- with so many decimals, and to seven significant digits

unfoldable pub power_of_ten : ℕ → Float
power_of_ten d = of_int binary64 (pos (10 ^ d))

-- 10 ^ 15 and 10 ^ -5
abbrev pub large : Float
large = bits 0x430c_6bf5_2634_0000

abbrev pub little : Float
little = bits 0x3ee4_f8b5_88e3_68f1

-- the digits are those of the whole number nearest to the product |x| * 10 ^ d, which is rounded. More than 15 decimals or digits: in scientific
-- notation
unfoldable pub fixed_text : Float → ℕ → List ℕ
fixed_text x d =
    let m = mul (abs_of x) (power_of_ten d) in
    cond (nat_le d 15 && lt m large) (signed_text x (nearest_whole m) d) (scientific_text x)

-- the powers of ten from 10 ^ 6 down to 10 ^ -4
unfoldable pub powers : List Float
powers =
    million
    ∷ bits 0x40f8_6a00_0000_0000
    ∷ bits 0x40c3_8800_0000_0000
    ∷ bits 0x408f_4000_0000_0000
    ∷ bits 0x4059_0000_0000_0000
    ∷ float_ten
    ∷ one
    ∷ bits 0x3fb9_9999_9999_999a
    ∷ bits 0x3f84_7ae1_47ae_147b
    ∷ bits 0x3f50_624d_d2f1_a9fc
    ∷ bits 0x3f1a_36e2_eb1c_432d
    ∷ []

-- the decimals that give seven significant digits to an x from 10 ^ -5 to 10 ^ 7: how many powers come before the first that x reaches
unfoldable pub decimals_of : Float → ℕ
decimals_of x = unwrap_or (position (λ t. le t x) powers) 11

-- |x| to seven significant digits, as n / 10 ^ d
unfoldable pub seven_significant : Float → ℕ × ℕ
seven_significant x = let d = decimals_of (abs_of x) in shortened (nearest_whole (mul (abs_of x) (power_of_ten d))) d

-- as R prints it: without zeros at the end, in scientific notation where x is very small or large
unfoldable pub figure_text : Float → List ℕ
figure_text x =
    let s = seven_significant x in
    cond (le little (abs_of x) && lt (abs_of x) large) (signed_text x s.0 s.1) (scientific_text x)
