-- Sums, differences and quotients of values that are not negative, from their sizes in units of the format's smallest value. Assumes nothing.
use mathlib.Core.Path.{◌≡◌, refl, sym, ap, ◌∙◌}
use Prim.Native.Nat.{ℕ, ◌+◌, ◌-◌, ◌*◌, ◌^◌, ◌≤◌, ◌<◌}
use native.Mathlib.Nat.{not-le_of_lt, mul-pos, mul-one, le_of_mul-le-mul_right, mul-le-mul_right, mul-sub, mul_comm}
use native.Mathlib.Omega.{arith}
use mathlib.Core.Bool.{Bool, true, false, cond, true≢false}
use lib.IntN.{ℤ}
use lib.Dec.{T, ltb, eqb, eqb→eq, ltb→lt}
use lib.Pow.{pow_pos}
use lib.Ieee.{Float, nan, inf, fin, Format, up, down, low, sum, add, sub, div, round}
use lib.Ieee.Fits.{down_pos}
use lib.Ieee.Exact.{HasValue}
use lib.Ieee.Scale.{round_same}
use lib.Ieee.Positive.{first_pos}

-- x is v of the format's smallest values
abbrev pub Val : Format → Float → ℕ → Type 0
Val f x v = HasValue x false v (2 ^ low f)

pub sub_mul' : (a b m : ℕ) → (a - b) * m ≡ a * m - b * m
sub_mul' a b m = mul_comm (a - b) m ∙ mul-sub m a b ∙ (λ i. mul_comm m a i - mul_comm m b i)

-- such a value is finite and not negative
shape : (x : Float) (a c : ℕ) → HasValue x false a c → (m : ℕ) × (e : ℤ) × (x ≡ fin false m e) × (m * up e * c ≡ a * down e)
shape nan a c h = absurd h
shape (inf s) a c h = absurd h
shape (fin true m e) a c h = absurd (true≢false h.0)
shape (fin false m e) a c h = (m, e, refl, h.1)

-- ---- the numbers of a sum: X / p is v / w and Y / q is v' / w
module _ (X Y p q v v' w : ℕ) (h : X * w ≡ v * p) (k : Y * w ≡ v' * q) where
  first : X * q * w ≡ v * (p * q)
  first = omega (arith, ap (λ (z : ℕ). z * q) h)

  second : Y * p * w ≡ v' * (p * q)
  second = omega (arith, ap (λ (z : ℕ). z * p) k)

  ordered : 0 < w → v' ≤ v → Y * p ≤ X * q
  ordered W l = le_of_mul-le-mul_right (omega (arith, first, second, mul-le-mul_right (p * q) l)) W

  total : (X * q + Y * p) * (w * 1) ≡ (v + v') * (p * q)
  total = omega (arith, first, second)

  diff : (X * q - Y * p) * (w * 1) ≡ (v - v') * (p * q)
  diff = ap (λ (z : ℕ). (X * q - Y * p) * z) (mul-one w) ∙ sub_mul' (X * q) (Y * p) w ∙ (λ i. first i - second i) ∙ sym (sub_mul' v v' (p * q))

-- ---- the operations

pick : (f : Format) (a b c : ℕ) → b ≤ a → sum f false a true b c ≡ round f false (a - b) c
unfolding sum
pick f a b c h = go (ltb a b) (ltb→lt a b)
  where
    go : (t : Bool) → (T t → a < b) → cond t (round f true (b - a) c) (round f false (a - b) c) ≡ round f false (a - b) c
    go true k = absurd (not-le_of_lt (k tt) h)
    go false k = refl

module _ (f : Format) (x y : Float) (v v' : ℕ) (p : Val f x v) (q : Val f y v') where
  pub sub_at : v' ≤ v → sub f x y ≡ round f false (v - v') (2 ^ low f * 1)
  unfolding sub
  sub_at h =
      let s = shape x v (2 ^ low f) p in
      let t = shape y v' (2 ^ low f) q in
      let X = s.0 * up s.1 in
      let Y = t.0 * up t.1 in
      rw (s.2, t.2)
      (pick f (X * down t.1) (Y * down s.1) (down s.1 * down t.1) (ordered X Y (down s.1) (down t.1) v v' (2 ^ low f) s.3 t.3 (pow_pos (low f)) h)
      ∙ round_same f false (X * down t.1 - Y * down s.1) (down s.1 * down t.1) (v - v') (2 ^ low f * 1) (mul-pos (down_pos s.1) (down_pos t.1)) (mul-pos (pow_pos (low f)) (pow_pos 0))
      (diff X Y (down s.1) (down t.1) v v' (2 ^ low f) s.3 t.3))

  pub add_at : add f x y ≡ round f false (v + v') (2 ^ low f * 1)
  unfolding add
  add_at =
      let s = shape x v (2 ^ low f) p in
      let t = shape y v' (2 ^ low f) q in
      let X = s.0 * up s.1 in
      let Y = t.0 * up t.1 in
      rw (s.2, t.2)
      (round_same f false (X * down t.1 + Y * down s.1) (down s.1 * down t.1) (v + v') (2 ^ low f * 1) (mul-pos (down_pos s.1) (down_pos t.1)) (mul-pos (pow_pos (low f)) (pow_pos 0))
      (total X Y (down s.1) (down t.1) v v' (2 ^ low f) s.3 t.3))

-- the quotient by y, which is b / c
quotient : (X p Y q v w b c : ℕ) → X * w ≡ v * p → Y * c ≡ b * q → X * q * (w * b) ≡ v * c * (Y * p)
quotient X p Y q v w b c h k = omega (arith, ap (λ (z : ℕ). z * (b * q)) h, ap (λ (z : ℕ). v * p * z) k)

divided : (f : Format) (m : ℕ) (e : ℤ) (n : ℕ) (d : ℤ) → 0 < n → div f (fin false m e) (fin false n d) ≡ round f false (m * up e * down d) (n * up d * down e)
unfolding div
divided f m e n d h = go (eqb n 0) (eqb→eq n 0)
  where
    go : (t : Bool) → (T t → n ≡ 0) → cond t (cond (eqb m 0) nan (inf false)) (round f false (m * up e * down d) (n * up d * down e)) ≡ round f false (m * up e * down d) (n * up d * down e)
    go true k = let z = k tt in absurd (omega arith)
    go false k = refl

pub div_at : (f : Format) (x y : Float) (v b c : ℕ) → Val f x v → HasValue y false b c → 0 < b → div f x y ≡ round f false (v * c) (2 ^ low f * b)
div_at f x y v b c p q h =
    let s = shape x v (2 ^ low f) p in
    let t = shape y b c q in
    let X = s.0 * up s.1 in
    let Y = t.0 * up t.1 in
    let u : 0 < Y = first_pos Y c (rw t.3 (mul-pos h (down_pos t.1))) in
    rw (s.2, t.2)
    (divided f s.0 s.1 t.0 t.1 (first_pos t.0 (up t.1) u)
    ∙ round_same f false (X * down t.1) (Y * down s.1) (v * c) (2 ^ low f * b) (mul-pos u (down_pos s.1)) (mul-pos (pow_pos (low f)) h) (quotient X (down s.1) Y (down t.1) v (2 ^ low f) b c s.3 t.3))
