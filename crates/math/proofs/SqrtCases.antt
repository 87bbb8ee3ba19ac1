-- `sqrt_of` at a positive finite argument, by cases: a normal one, and a subnormal one, which 2 ^ 54 makes normal. Assumes nothing.
use Rattle.std.proofs.Common.{◌≡◌, ℕ, suc, ◌+◌, ◌-◌, ◌*◌, ◌/◌, ◌^◌, ◌<◌, ◌≤◌, Bool, true, false, cond, T, eqb, ltb, negsuc, refl, le_of_suc-le-suc, mul-pos, lt_of_not-le, arith, ltb→lt, pow_pos, ltb-false, ltb-true, le-ltb, ne_eqb}
use lib.Ieee.{Float, nan, inf, fin, binary64, fits, up, down, eq, lt, of_bits}
use lib.Ieee.Fits.{up_pos, mul-fits}
use lib.Ieee.Positive.{positive, positive_of_value, value_pos}
use Rattle.math.specs.Basic.{mul, is_finite}
use Rattle.math.specs.Words.{pattern, add_exp}
use Rattle.math.specs.Ln.{two54}
use Rattle.math.specs.Values.{Units, Normal}
use Rattle.math.specs.Sqrt.{sqrt_of, positive_root, normal_root}
use Rattle.math.proofs.Values.{sig, small_units, normal_units, pattern_under, one_value, times54}
use Rattle.math.proofs.RootValue.{Rooted, rooted, rooted_low, fld}

-- x is a units, and r is its root
pub record HasRoot (x r : Float) : Type 0 where
  pub a : ℕ
  pub k : ℕ
  pub x_is : Units x a
  pub room : k < 2046
  pub root : Rooted a r k

normal_case : (x : Float) → T (fits binary64 x) → Normal x → HasRoot x (normal_root (pattern x))
normal_case x f h =
    record { a = sig (pattern x) * 2 ^ (pattern x / 2 ^ 52 - 1); k = fld (pattern x) / 2 - 1; x_is = normal_units x f h; room = omega (arith, h.1); root = rooted (pattern x) h.0 }

-- y, 2 ^ 54 times a subnormal x, is normal
small_case : (x : Float) → T (fits binary64 x) → T (positive x) → pattern x < 2 ^ 52 → HasRoot x (add_exp (normal_root (pattern (mul x two54))) (negsuc 26))
small_case x f p h =
    let a = pattern x in
    let y = mul x two54 in
    let v : Units x a = small_units x f h in
    let u : Units y (a * 2 ^ 54) = times54 x a p h v in
    let g : T (fits binary64 y) = mul-fits binary64 x two54 in
    let l : 0 < a = value_pos x a (2 ^ 1074) p (pow_pos 1074) v in
    let low : 2 ^ 52 ≤ pattern y = le_of_suc-le-suc (lt_of_not-le (λ (n : suc (pattern y) ≤ 2 ^ 52). omega (arith, one_value y (pattern y) (a * 2 ^ 54) (small_units y g n) u))) in
    let high : pattern y < 2047 * 2 ^ 52 = pattern_under y g (positive_of_value y (a * 2 ^ 54) (2 ^ 1074) u (mul-pos l (pow_pos 54))) in
    let k = fld (pattern y) / 2 - 28 in
    let same : sig (pattern y) * 2 ^ (pattern y / 2 ^ 52 - 1) ≡ a * 2 ^ 54 = one_value y (sig (pattern y) * 2 ^ (pattern y / 2 ^ 52 - 1)) (a * 2 ^ 54) (normal_units y g (low, high)) u in
    let k_is : fld (pattern y) / 2 - 1 ≡ k + 27 = omega arith in
    let w : Rooted (a * 2 ^ 54) (normal_root (pattern y)) (k + 27) = rw (same, k_is) at (rooted (pattern y) low) in
    record { a = a; k = k; x_is = v; room = omega arith; root = rooted_low a (normal_root (pattern y)) k w (omega arith) }

positive_case : (x : Float) → T (fits binary64 x) → T (positive x) → HasRoot x (positive_root x)
unfolding positive_root
positive_case x f p = go (ltb (pattern x) (2 ^ 52)) refl
  where
    go : (b : Bool) → ltb (pattern x) (2 ^ 52) ≡ b → HasRoot x (cond b (add_exp (normal_root (pattern (mul x two54))) (negsuc 26)) (normal_root (pattern x)))
    go true e = small_case x f p (ltb-true (pattern x) (2 ^ 52) e)
    go false e = normal_case x f (ltb-false (pattern x) (2 ^ 52) e, pattern_under x f p)

sqrt_is : (x : Float) → T (positive x) → sqrt_of x ≡ positive_root x
unfolding sqrt_of is_finite eq lt of_bits
sqrt_is nan p = absurd p
sqrt_is (inf s) p = absurd p
sqrt_is (fin true m e) p = absurd p
sqrt_is (fin false m e) p =
    let h : 0 < m * up e = mul-pos (ltb→lt 0 m p) (up_pos e) in
    let z : eqb (m * up e * 1) (0 * 1 * down e) ≡ false = ne_eqb (m * up e * 1) (0 * 1 * down e) (λ i. omega arith) in
    let n : ltb (m * up e * 1) (0 * 1 * down e) ≡ false = le-ltb (m * up e * 1) (0 * 1 * down e) (omega arith) in
    rw (z, n)

pub sqrt_case : (x : Float) → T (fits binary64 x) → T (positive x) → HasRoot x (sqrt_of x)
sqrt_case x f p = rw (sqrt_is x p) (positive_case x f p)
