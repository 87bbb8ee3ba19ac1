-- Where the points lie after n narrowings, whichever parts were kept: within the bounds of row n of the table, so that the first 26 brackets are wider than 1e-4 and the next is not. Assumes nothing.
use mathlib.Core.Path.{◌≡◌, refl, sym, ap, ◌∙◌, subst}
use Prim.Native.Nat.{ℕ, suc, ◌+◌, ◌-◌, ◌*◌, ◌/◌, ◌^◌, ◌≤◌, ◌<◌}
use native.Mathlib.Nat.{le_trans, mul-le-mul_right, mul-lt-mul_of_pos_right, le_of_mul-le-mul_right, mul-pos, div-lt_iff_lt-mul}
use native.Mathlib.Omega.{arith}
use mathlib.Core.Bool.{Bool, true, false, cond, true≢false}
use lib.IntN.{negsuc}
use borrow.Author.Tests.{lt-ltb, le-ltb}
use lib.Dec.{T, leb, ltb, lit≤, lit<}
use Rattle.std.specs.Float.Order.{lt_at}
use lib.Pow.{pow_pos}
use lib.Ieee.{Float, nan, inf, fin, binary64, low, add, sub, div, round, of_bits}
use lib.Ieee.Exact.{HasValue}
use Rattle.golden.proofs.Near.{Near, near}
use Rattle.golden.proofs.Ops.{Val, sub_mul', sub_at, add_at, div_at}
use Rattle.math.specs.Basic.{abs_of, is_finite, two}
use Rattle.math.specs.laws.Computes.{sqrt_computes}
use Rattle.golden.specs.declared.Bracket.{Bracket}
use Rattle.golden.specs.Golden.{start, end, tolerance, factor, left_point, right_point, is_wide, theta_of, left_part, right_part}
use Rattle.golden.proofs.Table.{Row, next, row, good, good_says}

-- ---- 2 ^ -48 in units of the format's smallest value
pub unit : ℕ
unit = 2 ^ 1026

unit_pos : 0 < unit
unfolding unit
unit_pos = pow_pos 1026

under : (g : ℕ) → g < 9007199254740991 → suc g < 9007199254740992
under g h = omega arith

near64 : (x k : ℕ) → 0 < k → k * unit ≤ x → x < 9007199254740991 * (k * unit) → Near binary64 (round binary64 false x (2 ^ low binary64 * k)) x k unit
unfolding unit
near64 x k K lo hi = near binary64 1026 x k K lo (under (x / (k * 2 ^ 1026)) ((div-lt_iff_lt-mul (mul-pos K (pow_pos 1026))).1 hi)) (lit≤ tt)

moved : (r r' : Float) (x k u : ℕ) → r' ≡ r → Near binary64 r x k u → Near binary64 r' x k u
moved r r' x k u e n = subst (λ (z : Float). Near binary64 z x k u) (sym e) n

-- ---- the three operations, within one unit
sub_near : (x y : Float) (v v' : ℕ) → Val binary64 x v → Val binary64 y v' → v' + unit ≤ v → v ≤ 5629499534213120 * unit → Near binary64 (sub binary64 x y) (v - v') 1 unit
sub_near x y v v' p q h k =
    moved _ _ _ _ _ (sub_at binary64 x y v v' p q (omega arith)) (near64 (v - v') 1 (lit< tt) (omega arith) (omega (arith, unit_pos)))

add_near : (x y : Float) (v v' : ℕ) → Val binary64 x v → Val binary64 y v' → unit ≤ v → v + v' ≤ 5629499534213120 * unit → Near binary64 (add binary64 x y) (v + v') 1 unit
add_near x y v v' p q h k =
    moved _ _ _ _ _ (add_at binary64 x y v v' p q) (near64 (v + v') 1 (lit< tt) (omega arith) (omega (arith, unit_pos)))

-- the factor's value, and its numerator over 2 ^ 49
phi : Float
phi = fin false 910872158600853 (negsuc 48)

factor_is : factor ≡ phi
unfolding factor phi add div of_bits sqrt_computes
factor_is = refl

abbrev part : Float → Float → Float
part a b = div binary64 (sub binary64 b a) factor

phi_val : HasValue phi false 910872158600853 562949953421312
unfolding phi
phi_val = (refl, refl)

div_near : (x : Float) (v : ℕ) → Val binary64 x v → 2 * unit ≤ v → v ≤ 5629499534213121 * unit → Near binary64 (div binary64 x factor) (v * 562949953421312) 910872158600853 unit
div_near x v p h k =
    moved _ _ _ _ _ (ap (div binary64 x) factor_is ∙ div_at binary64 x phi v 910872158600853 562949953421312 p phi_val (lit< tt))
    (near64 (v * 562949953421312) 910872158600853 (lit< tt) (omega arith) (omega (arith, unit_pos)))

-- ---- the bounds of a fresh part: vt is vs * q / p within u, and vs is X within u
expand_lo : (l l' p q u : ℕ) → (l' + 2) * p + q ≤ l * q → l' * u * p + 2 * (u * p) + u * q ≤ l * u * q
expand_lo l l' p q u h = omega (arith, mul-le-mul_right u h)

expand_hi : (h h' p q u : ℕ) → h * q + q + 2 * p ≤ h' * p → h * u * q + u * q + 2 * (u * p) ≤ h' * u * p
expand_hi h h' p q u k = omega (arith, mul-le-mul_right u k)

fresh_lo : (l l' p q u X vs vt : ℕ) → 0 < p → l' * p + 2 * (u * p) + u * q ≤ l * q → l ≤ X → X ≤ vs * 1 + 1 * u → vs * q ≤ vt * p + p * u → l' + u ≤ vt
fresh_lo l l' p q u X vs vt P a b c d =
    let e : l ≤ vs + u = omega arith in
    let i : (l' + u) * p ≤ vt * p = omega (arith, mul-le-mul_right q e) in
    le_of_mul-le-mul_right i P

fresh_hi : (h h' p q u X vs vt : ℕ) → 0 < p → h * q + u * q + 2 * (u * p) ≤ h' * p → X ≤ h → vs * 1 ≤ X + 1 * u → vt * p ≤ vs * q + p * u → vt + u ≤ h'
fresh_hi h h' p q u X vs vt P a b c d =
    let e : vs ≤ h + u = omega arith in
    let i : (vt + u) * p ≤ h' * p = omega (arith, mul-le-mul_right q e) in
    le_of_mul-le-mul_right i P

-- (b - a) / phi, of a bracket whose width is from l to h units: it is from l' + 1 to h' - 1 units
part_at : (a b : Float) (va vb l h l' h' : ℕ) → Val binary64 a va → Val binary64 b vb → va + l * unit ≤ vb → vb ≤ va + h * unit → vb ≤ 5629499534213120 * unit
    → (l' + 2) * 910872158600853 + 562949953421312 ≤ l * 562949953421312 → h * 562949953421312 + 562949953421312 + 2 * 910872158600853 ≤ h' * 910872158600853 → 3 ≤ l
    → (vt : ℕ) × Val binary64 (part a b) vt × (l' * unit + unit ≤ vt) × (vt + unit ≤ h' * unit)
part_at a b va vb l h l' h' A B lo hi top rl rh l3 =
    let w3 : 3 * unit ≤ l * unit = mul-le-mul_right unit l3 in
    let s = sub_near b a vb va B A (omega arith) top in
    let t = div_near (sub binary64 b a) s.0 s.1 (omega (arith, s.3)) (omega (arith, s.2)) in (
      t.0,
      t.1,
      fresh_lo (l * unit) (l' * unit) 910872158600853 562949953421312 unit (vb - va) s.0 t.0 (lit< tt) (expand_lo l l' 910872158600853 562949953421312 unit rl) (omega arith) s.3 t.3,
      fresh_hi (h * unit) (h' * unit) 910872158600853 562949953421312 unit (vb - va) s.0 t.0 (lit< tt) (expand_hi h h' 910872158600853 562949953421312 unit rh) (omega arith) s.2 t.2,
    )

-- ---- what holds after n narrowings, of the points' sizes and of row n, each in units of the format's smallest value
pub record Facts (u l h l' h' va vb vc vd : ℕ) : Type 0 where
  pub low : u ≤ va
  pub high : vb ≤ 5629499534213120 * u
  pub width_low : va + l ≤ vb
  pub width_high : vb ≤ va + h
  pub left_low : va + l' ≤ vd
  pub left_high : vd ≤ va + h'
  pub right_low : vc + l' ≤ vb
  pub right_high : vb ≤ vc + h'

pub record Inv (r : Row) (s : Bracket) : Type 0 where
  pub a : ℕ
  pub b : ℕ
  pub c : ℕ
  pub d : ℕ
  pub a_is : Val binary64 s.a a
  pub b_is : Val binary64 s.b b
  pub c_is : Val binary64 s.c c
  pub d_is : Val binary64 s.d d
  pub facts : Facts unit (r.l * unit) (r.h * unit) (r.l' * unit) (r.h' * unit) a b c d

-- what row n says of the next, in the same units
module _ (u l h l' h' l2 h2 va vb vc vd vt v : ℕ) (f : Facts u l h l' h' va vb vc vd) (low : h' ≤ l) (high : l' ≤ h) (less : h2 ≤ l') (l2_is : l2 ≡ l - h') (h2_is : h2 ≡ h - l') (vt_low : l2 + u ≤ vt) (vt_high : vt + u ≤ h2) where
  facts_left : v * 1 ≤ vd - vt + 1 * u → vd - vt ≤ v * 1 + 1 * u → Facts u l' h' l2 h2 va vd v vc
  facts_left i j =
      record {
        low = omega arith;
        high = omega arith;
        width_low = omega arith;
        width_high = omega arith;
        left_low = omega arith;
        left_high = omega arith;
        right_low = omega arith;
        right_high = omega arith;
      }

  facts_right : v * 1 ≤ vc + vt + 1 * u → vc + vt ≤ v * 1 + 1 * u → Facts u l' h' l2 h2 vc vb vd v
  facts_right i j =
      record {
        low = omega arith;
        high = omega arith;
        width_low = omega arith;
        width_high = omega arith;
        left_low = omega arith;
        left_high = omega arith;
        right_low = omega arith;
        right_high = omega arith;
      }

pub step_inv : (t : Bool) (r : Row) (s : Bracket) (x : Float) → T (good r) → Inv r s
    → Inv (next r) (let v = cond t (left_point s.a s.d) (right_point s.c s.b) in cond t (left_part s v x) (right_part s v x))
unfolding left_point right_point
step_inv true r s x G I =
    let g = good_says r G in
    let F = I.facts in
    let l2 = r.l - r.h' in
    let h2 = r.h - r.l' in
    let a : r.h' * unit ≤ r.l * unit = mul-le-mul_right unit g.2 in
    let b : r.l' * unit ≤ r.h * unit = mul-le-mul_right unit g.3 in
    let c : h2 * unit ≤ r.l' * unit = mul-le-mul_right unit g.4 in
    let p = part_at s.a s.d I.a I.d r.l' r.h' l2 h2 I.a_is I.d_is F.left_low F.left_high (omega arith) g.0 g.1 g.5 in
    let n = sub_near s.d (part s.a s.d) I.d p.0 I.d_is p.1 (omega (arith, p.3)) (omega arith) in
    record {
      a = I.a;
      b = I.d;
      c = n.0;
      d = I.c;
      a_is = I.a_is;
      b_is = I.d_is;
      c_is = n.1;
      d_is = I.c_is;
      facts = facts_left _ _ _ _ _ _ _ _ _ _ _ p.0 n.0 F a b c (sub_mul' r.l r.h' unit) (sub_mul' r.h r.l' unit) p.2 p.3 n.2 n.3;
    }
step_inv false r s x G I =
    let g = good_says r G in
    let F = I.facts in
    let l2 = r.l - r.h' in
    let h2 = r.h - r.l' in
    let a : r.h' * unit ≤ r.l * unit = mul-le-mul_right unit g.2 in
    let b : r.l' * unit ≤ r.h * unit = mul-le-mul_right unit g.3 in
    let c : h2 * unit ≤ r.l' * unit = mul-le-mul_right unit g.4 in
    let p = part_at s.c s.b I.c I.b r.l' r.h' l2 h2 I.c_is I.b_is F.right_low F.right_high F.high g.0 g.1 g.5 in
    let n = add_near s.c (part s.c s.b) I.c p.0 I.c_is p.1 (omega arith) (omega (arith, p.3)) in
    record {
      a = I.c;
      b = I.b;
      c = I.d;
      d = n.0;
      a_is = I.c_is;
      b_is = I.b_is;
      c_is = I.d_is;
      d_is = n.1;
      facts = facts_right _ _ _ _ _ _ _ _ _ _ _ p.0 n.0 F a b c (sub_mul' r.l r.h' unit) (sub_mul' r.h r.l' unit) p.2 p.3 n.2 n.3;
    }

-- ---- the first points
c0_is : left_point start end ≡ fin false 4370139405871329 (negsuc 48)
unfolding left_point sub div of_bits phi
c0_is = ap (λ (f : Float). sub binary64 end (div binary64 (sub binary64 end start) f)) factor_is ∙ refl

d0_is : right_point start end ≡ fin false 7001449653239173 (negsuc 48)
unfolding right_point add sub div of_bits phi
d0_is = ap (λ (f : Float). add binary64 start (div binary64 (sub binary64 end start) f)) factor_is ∙ refl

-- a number with k places behind the point, in units of the format's smallest value
at : (m k : ℕ) → T (leb k 1074) → ℕ
at m k t = m * 2 ^ (1074 - k)

pub first_inv : (fc fd : Float) → Inv (row 0) (record { a = start; b = end; c = left_point start end; d = right_point start end; fc = fc; fd = fd })
unfolding unit at of_bits
first_inv fc fd =
    record {
      a = at 3602879701896397 54 tt;
      b = at 20 0 tt;
      c = at 4370139405871329 49 tt;
      d = at 7001449653239173 49 tt;
      a_is = (refl, refl);
      b_is = (refl, refl);
      c_is = subst (λ (x : Float). Val binary64 x (at 4370139405871329 49 tt)) (sym c0_is) (refl, refl);
      d_is = subst (λ (x : Float). Val binary64 x (at 7001449653239173 49 tt)) (sym d0_is) (refl, refl);
      facts = record {
        low = lit≤ tt;
        high = lit≤ tt;
        width_low = lit≤ tt;
        width_high = lit≤ tt;
        left_low = lit≤ tt;
        left_high = lit≤ tt;
        right_low = lit≤ tt;
        right_high = lit≤ tt;
      };
    }

-- ---- the test of the loop
abs_at : (x : Float) (v : ℕ) → Val binary64 x v → abs_of x ≡ x
unfolding abs_of
abs_at nan v h = absurd h
abs_at (inf s) v h = absurd h
abs_at (fin true m e) v h = absurd (true≢false h.0)
abs_at (fin false m e) v h = refl

tol_size : ℕ
tol_size = 7378697629483821 * 2 ^ 1008

tol_val : Val binary64 tolerance tol_size
unfolding tol_size of_bits
tol_val = (refl, refl)

tol_below : tol_size < 28147497672 * unit
unfolding tol_size unit
tol_below = lit< tt

tol_above : 28147497671 * unit ≤ tol_size
unfolding tol_size unit
tol_above = lit≤ tt

-- the computed width is within one unit of the width, and compared with the tolerance by its size
width_near : (r : Row) (s : Bracket) → 3 ≤ r.l → Inv r s → (v : ℕ) × (is_wide s ≡ ltb (tol_size * 2 ^ low binary64) (v * 2 ^ low binary64)) × (v ≤ r.h * unit + unit) × (r.l * unit ≤ v + unit)
unfolding is_wide
width_near r s h I =
    let F = I.facts in
    let l3 : 3 * unit ≤ r.l * unit = mul-le-mul_right unit h in
    let n = sub_near s.b s.a I.b I.a I.b_is I.a_is (omega arith) F.high in
    (n.0, rw (abs_at (sub binary64 s.b s.a) n.0 n.1) (lt_at tolerance (sub binary64 s.b s.a) tol_size (2 ^ low binary64) n.0 (2 ^ low binary64) (pow_pos (low binary64)) (pow_pos (low binary64)) tol_val n.1), omega (arith, n.2), omega (arith, n.3))

pub wide_true : (r : Row) (s : Bracket) → 28147497674 ≤ r.l → Inv r s → is_wide s ≡ true
wide_true r s h I =
    let n = width_near r s (le_trans (lit≤ tt) h) I in
    n.1 ∙ lt-ltb _ _ (mul-lt-mul_of_pos_right (omega (arith, mul-le-mul_right unit h, n.3, tol_below)) (pow_pos (low binary64)))

pub wide_false : (r : Row) (s : Bracket) → 3 ≤ r.l → r.h ≤ 28147497669 → Inv r s → is_wide s ≡ false
wide_false r s k h I =
    let n = width_near r s k I in
    n.1 ∙ le-ltb _ _ (mul-le-mul_right (2 ^ low binary64) (omega (arith, mul-le-mul_right unit h, n.2, tol_above)))

-- ---- the points and theta are finite
pub finite_at : (x : Float) (v : ℕ) → Val binary64 x v → is_finite x ≡ true
unfolding is_finite
finite_at nan v h = absurd h
finite_at (inf s) v h = absurd h
finite_at (fin s m e) v h = refl

unit4 : ℕ
unit4 = 2 ^ 1028

unit4_is : unit4 ≡ 4 * unit
unfolding unit unit4
unit4_is = refl

near4 : (x : ℕ) → 1 * unit4 ≤ x → x < 9007199254740991 * (1 * unit4) → Near binary64 (round binary64 false x (2 ^ low binary64 * 1)) x 1 unit4
unfolding unit4
near4 x lo hi = near binary64 1028 x 1 (lit< tt) lo (under (x / (1 * 2 ^ 1028)) ((div-lt_iff_lt-mul (mul-pos {m = 1} (lit< tt) (pow_pos 1028))).1 hi)) (lit≤ tt)

two_val : HasValue two false 2 1
unfolding of_bits
two_val = (refl, refl)

pub theta_finite : (r : Row) (s : Bracket) → 10 ≤ r.l → Inv r s → is_finite (theta_of s) ≡ true
unfolding theta_of
theta_finite r s h I =
    let F = I.facts in
    let w : 10 * unit ≤ r.l * unit = mul-le-mul_right unit h in
    let e = unit4_is in
    let u = unit_pos in
    let n = moved _ _ (I.a + I.b) 1 unit4 (add_at binary64 s.a s.b I.a I.b I.a_is I.b_is) (near4 (I.a + I.b) (omega arith) (omega arith)) in
    let m = moved _ _ (n.0 * 1) 2 unit (div_at binary64 (add binary64 s.a s.b) two n.0 2 1 n.1 two_val (lit< tt)) (near64 (n.0 * 1) 2 (lit< tt) (omega (arith, n.3)) (omega (arith, n.2))) in
    finite_at _ m.0 m.1
