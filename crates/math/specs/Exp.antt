-- e to the power x, as fdlibm's e_exp.c works it out: each operation is rounded once, in the file's order, and the names are the file's.
use Rattle.std.specs.Prelude.{ℕ, cond, ℤ, pos, negsuc, ◌+ℤ◌, ◌==◌, int_le, nat_le, nat_lt, Float}
use Rattle.std.specs.Float.{binary64}
use Rattle.std.specs.Float.Ieee.{lt, of_int}
use Rattle.math.specs.Basic.{add, sub, mul, div, bits, zero, half, one, two}
use Rattle.math.specs.Words.{pattern, sign_bit, high_word, digits, add_exp, to_int, with_sign, is_zero}

-- 1e300, 2 ^ -1000, 709.78.., -745.13..
abbrev pub huge : Float
huge = bits 0x7e37_e43c_8800_759c

abbrev pub twom1000 : Float
twom1000 = bits 0x0170_0000_0000_0000

abbrev pub o_threshold : Float
o_threshold = bits 0x4086_2e42_fefa_39ef

abbrev pub u_threshold : Float
u_threshold = bits 0xc087_4910_d52d_3051

abbrev pub ln2_hi : Float
ln2_hi = bits 0x3fe6_2e42_fee0_0000

abbrev pub ln2_lo : Float
ln2_lo = bits 0x3dea_39ef_3579_3c76

abbrev pub invln2 : Float
invln2 = bits 0x3ff7_1547_652b_82fe

abbrev pub P1 : Float
P1 = bits 0x3fc5_5555_5555_553e

abbrev pub P2 : Float
P2 = bits 0xbf66_c16c_16be_bd93

abbrev pub P3 : Float
P3 = bits 0x3f11_566a_af25_de2c

abbrev pub P4 : Float
P4 = bits 0xbebb_bd41_c5d2_6bf1

abbrev pub P5 : Float
P5 = bits 0x3e66_3769_72be_a4d0

-- x is in the primary range: c = x - t*(P1+t*(P2+t*(P3+t*(P4+t*P5)))), with t = x*x
unfoldable pub poly_of : Float → Float
poly_of x = let t = mul x x in sub x (mul t (add P1 (mul t (add P2 (mul t (add P3 (mul t (add P4 (mul t P5)))))))))

-- k is added to y's exponent, below -1021 in two steps
unfoldable pub scale_of : Float → ℤ → Float
scale_of y k = cond (int_le (negsuc 1020) k) (add_exp y k) (mul (add_exp y (k +ℤ pos 1000)) twom1000)

-- x is hi - lo, in the primary range
unfoldable pub primary_of : Float → Float → Float → ℤ → Float
primary_of x hi lo k =
    let c = poly_of x in
    cond (is_zero k) (sub one (sub (div (mul x c) (sub c two)) x)) (scale_of (sub one (sub (sub lo (div (mul x c) (sub two c))) hi)) k)

-- |x| is 1.5 ln 2 or more: k is the whole number nearest to x / ln 2, and t is k as a float
unfoldable pub far_of : Float → ℕ → Float
far_of x xsb =
    let k = to_int (add (mul invln2 x) (with_sign xsb half)) in
    let t = of_int binary64 k in
    let hi = sub x (mul t ln2_hi) in
    let lo = mul t ln2_lo in
    primary_of (sub hi lo) hi lo k

-- |x| is between 0.5 ln 2 and 1.5 ln 2: k is 1 or -1, C's `1-xsb-xsb`
unfoldable pub near_of : Float → ℕ → Float
near_of x xsb =
    let hi = sub x (with_sign xsb ln2_hi) in
    let lo = with_sign xsb ln2_lo in
    primary_of (sub hi lo) hi lo (cond (xsb == 0) (pos 1) (negsuc 0))

-- argument reduction. Below 2 ^ -28, C's `huge+x > one` holds, and the result is one + x
unfoldable pub reduced_of : Float → ℕ → ℕ → Float
reduced_of x xsb hx =
    cond (nat_lt 0x3fd6_2e42 hx)
    (cond (nat_lt hx 0x3ff0_a2b2) (near_of x xsb) (far_of x xsb))
    (cond (nat_lt hx 0x3e30_0000) (add one x) (primary_of x zero zero (pos 0)))

-- an infinity or a NaN
unfoldable pub ends_of : Float → ℕ → ℕ → Float
ends_of x xsb t = cond (t == 0) (cond (xsb == 0) x zero) (add x x)

-- |x| is about 709.78 or more
unfoldable pub large_of : Float → ℕ → ℕ → ℕ → Float
large_of x xsb hx t =
    cond (nat_le 0x7ff0_0000 hx) (ends_of x xsb t)
    (cond (lt o_threshold x) (mul huge huge)
    (cond (lt x u_threshold) (mul twom1000 twom1000) (reduced_of x xsb hx)))

unfoldable pub exp_of : Float → Float
exp_of x =
    let b = pattern x in
    cond (nat_le 0x4086_2e42 (high_word b)) (large_of x (sign_bit b) (high_word b) (digits b)) (reduced_of x (sign_bit b) (high_word b))
