-- The natural logarithm of x, as fdlibm's e_log.c works it out: each operation is rounded once, in the file's order, and the names are the file's.
use Rattle.std.specs.Prelude.{ℕ, ◌+◌, ◌-◌, ◌*◌, ◌/◌, ◌%◌, ◌^◌, cond, ℤ, pos, negsuc, ◌+ℤ◌, ◌-ℤ◌, ◌==◌, nat_le, nat_lt, Float}
use Rattle.std.specs.Float.{binary64}
use Rattle.std.specs.Float.Ieee.{eq, of_int}
use Rattle.std.specs.Float.Ieee as Ieee
use Rattle.math.specs.Basic.{add, sub, mul, div, bits, zero, half, one, two}
use Rattle.math.specs.Words.{pattern, is_zero}
use Rattle.math.specs.Exp.{ln2_hi, ln2_lo}

-- 2 ^ 54, its negative, 0.33333333333333333
abbrev pub two54 : Float
two54 = bits 0x4350_0000_0000_0000

abbrev pub third : Float
third = bits 0x3fd5_5555_5555_5555

abbrev pub Lg1 : Float
Lg1 = bits 0x3fe5_5555_5555_5593

abbrev pub Lg2 : Float
Lg2 = bits 0x3fd9_9999_9997_fa04

abbrev pub Lg3 : Float
Lg3 = bits 0x3fd2_4924_9422_9359

abbrev pub Lg4 : Float
Lg4 = bits 0x3fcc_71c5_1d8e_78af

abbrev pub Lg5 : Float
Lg5 = bits 0x3fc7_4664_96cb_03de

abbrev pub Lg6 : Float
Lg6 = bits 0x3fc3_9a09_d078_c69f

abbrev pub Lg7 : Float
Lg7 = bits 0x3fc2_f112_df3e_5244

-- |f| is below 2 ^ -20. C's dk is k as a float
unfoldable pub tiny_of : Float → ℤ → Float
tiny_of f k =
    let dk = of_int binary64 k in
    let R = mul (mul f f) (sub half (mul third f)) in
    cond (eq f zero)
    (cond (is_zero k) zero (add (mul dk ln2_hi) (mul dk ln2_lo)))
    (cond (is_zero k) (sub f R) (sub (mul dk ln2_hi) (sub (sub R (mul dk ln2_lo)) f)))

-- C's `i > 0`: the digits are between 0x6147a and 0x6b851
unfoldable pub mid_of : Float → Float → Float → ℤ → Float
mid_of f s R k =
    let dk = of_int binary64 k in
    let hfsq = mul (mul half f) f in
    cond (is_zero k)
    (sub f (sub hfsq (mul s (add hfsq R))))
    (sub (mul dk ln2_hi) (sub (sub hfsq (add (mul s (add hfsq R)) (mul dk ln2_lo))) f))

unfoldable pub side_of : Float → Float → Float → ℤ → Float
side_of f s R k =
    let dk = of_int binary64 k in
    cond (is_zero k)
    (sub f (mul s (sub f R)))
    (sub (mul dk ln2_hi) (sub (sub (mul s (sub f R)) (mul dk ln2_lo)) f))

-- R = t2 + t1, of s
unfoldable pub series_of : Float → Float
series_of s =
    let z = mul s s in
    let w = mul z z in
    let t1 = mul w (add Lg2 (mul w (add Lg4 (mul w Lg6)))) in
    let t2 = mul z (add Lg1 (mul w (add Lg3 (mul w (add Lg5 (mul w Lg7)))))) in
    add t2 t1

-- f is x - 1, at an x between √2 / 2 and √2. hx is the high word's 20 digits, those of the argument.
-- C's i is (hx - 0x6147a) | (0x6b851 - hx), which is above 0 where neither is negative
unfoldable pub body_of : Float → ℕ → ℤ → Float
body_of f hx k =
    let s = div f (add two f) in
    cond (nat_lt ((2 + hx) % 2 ^ 20) 3) (tiny_of f k)
    (cond (nat_le 0x6_147a hx)
    (cond (nat_le hx 0x6_b851) (mid_of f s (series_of s) k) (side_of f s (series_of s) k))
    (side_of f s (series_of s) k))

-- 1 where x is to be halved, so that it is between √2 / 2 and √2, and 0 otherwise: C's `i >> 20`, with i = (hx + 0x95f64) & 0x100000
abbrev pub halved : ℕ → ℕ
halved hx = (hx + 0x9_5f64) / 2 ^ 20

-- x with its exponent's field at that of 1, or of 1/2: C's `__HI(x) = hx | (i ^ 0x3ff00000)`
abbrev pub normalised : ℕ → ℕ → ℕ
normalised hx b = (hx + 0x3ff0_0000 - halved hx * 2 ^ 20) * 2 ^ 32 + b % 2 ^ 32

-- b is the bits of x, which is not negative and no subnormal
unfoldable pub normal_of : Float → ℕ → ℤ → Float
normal_of x b k =
    let hx = b / 2 ^ 32 % 2 ^ 20 in
    cond (nat_le 0x7ff0_0000 (b / 2 ^ 32)) (add x x)
    (body_of (sub (bits (normalised hx b)) one) hx (k +ℤ (pos (b / 2 ^ 52) -ℤ pos 1023) +ℤ pos (halved hx)))

-- zero; below zero; below 2 ^ -1022, where x is scaled up first; the others
unfoldable pub ln_of : Float → Float
ln_of x =
    let b = pattern x in
    cond (b % 2 ^ 63 == 0) (div (Ieee.neg two54) zero)
    (cond (nat_le (2 ^ 63) b) (div (sub x x) zero)
    (cond (nat_lt (b / 2 ^ 32) 0x10_0000) (normal_of (mul x two54) (pattern (mul x two54)) (negsuc 53)) (normal_of x b (pos 0))))
