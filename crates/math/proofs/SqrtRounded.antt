-- The library's root is `sqrt_of`: a root taken to 2271 places and rounded once is the float that stands nearest. With s of 53 digits nearest to the root, what is rounded lies between s - 1/2 and s + 1/2
-- in units of the last place, so that it is rounded to s; and a float is known by its value. Assumes nothing.
use Rattle.std.proofs.Common.{◌≡◌, ℕ, zero, suc, ◌+◌, ◌-◌, ◌*◌, ◌/◌, ◌%◌, ◌^◌, ◌<◌, ◌≤◌, Bool, true, false, cond, not, T, eqb, ltb, leb, ℤ, pos, negsuc, sym, refl, ap, ◌∙◌, subst, le_refl, lt_of_lt_of_le, lt_of_not-le, mul-pos, mul-le-mul, mul-le-mul_right, mul-le-mul_left, mul-lt-mul_of_pos_right, mul_assoc, mul_comm, mul_left_comm, mul_right_comm, add-mul, arith, pow_pos, pow-add, pow_mono, eqb-true, leb-true, leb-false, ltb-true, ltb-false, ne_eqb, lt-ltb}
use native.Mathlib.Nat.{le-div_iff_mul-le, div-lt_iff_lt-mul, div-add-mod', mul-div_cancel, eq_of_mul-eq-mul_right, mul-mul-mul_comm}
use Prim.Native.Nat.{compare, Ordering}
use lib.Dec.{is_le, compare_is_eq, leb→le, nleb→lt, eqb→eq}
use lib.Ieee.{Float, nan, inf, fin, binary64, fits, up, down, nearest, size, root_below, root_twice, round, sqrt, eq, lt, of_bits}
use lib.Ieee.Bits.{of_bits-to_bits}
use lib.Ieee.Digits.{size-lt, size-le}
use lib.Ieee.Fits.{up_pos, down_pos, round-fits}
use lib.Ieee.Nearest.{closest, closest_same}
use lib.Ieee.Positive.{positive, positive_of_value}
use lib.Ieee.Root.{Root, whole_part}
use lib.Ieee.Scale.{grid, overflow, round_val}
use Rattle.math.specs.Basic.{bits, is_finite}
use Rattle.math.specs.Words.{pattern}
use Rattle.math.specs.Values.{Units}
use Rattle.math.specs.Sqrt.{sqrt_of}
use Rattle.math.proofs.Nearest.{Near, mid_above, mid_below}
use Rattle.math.proofs.RootValue.{Rooted}
use Rattle.math.proofs.SqrtCases.{sqrt_case}
use Rattle.math.proofs.Values.{sig, small_units, normal_units, pattern_under, one_value}

-- ---- a float by its value
shifted : (s t k d : ℕ) → 2 ^ 52 ≤ t → s < 2 ^ 53 → s * 2 ^ k ≡ t * 2 ^ (k + suc d) → ⊥
shifted s t k d l h e =
    let split : t * 2 ^ (k + suc d) ≡ t * 2 ^ suc d * 2 ^ k = ap (λ (x : ℕ). t * x) (pow-add 2 k (suc d) ∙ mul_comm (2 ^ k) (2 ^ suc d)) ∙ sym (mul_assoc t (2 ^ suc d) (2 ^ k)) in
    let same : s ≡ t * 2 ^ suc d = eq_of_mul-eq-mul_right (2 ^ k) (pow_pos k) s (t * 2 ^ suc d) (e ∙ split) in
    let two : 2 ≤ 2 ^ suc d = pow_mono {i = 1} {j = suc d} (omega arith) in
    omega (arith, same, mul-le-mul_left t two)

same_digits : (s t j k : ℕ) → 2 ^ 52 ≤ s → s < 2 ^ 53 → 2 ^ 52 ≤ t → t < 2 ^ 53 → s * 2 ^ k ≡ t * 2 ^ j → (j ≡ k) × (t ≡ s)
same_digits s t j k a b c d e = go (ltb k j) refl (ltb j k) refl
  where
    go : (x : Bool) → ltb k j ≡ x → (y : Bool) → ltb j k ≡ y → (j ≡ k) × (t ≡ s)
    go true f y g =
        let h : k < j = ltb-true k j f in
        let i : k + suc (j - k - 1) ≡ j = omega arith in
        absurd (shifted s t k (j - k - 1) c b (rw i e))
    go false f true g =
        let h : j < k = ltb-true j k g in
        let i : j + suc (k - j - 1) ≡ k = omega arith in
        absurd (shifted t s j (k - j - 1) a d (rw i (sym e)))
    go false f false g =
        let h : j ≡ k = omega (arith, ltb-false k j f, ltb-false j k g) in
        (h, sym (eq_of_mul-eq-mul_right (2 ^ k) (pow_pos k) s t (rw h at e)))

is_bits : (x : Float) (s k : ℕ) → T (fits binary64 x) → 2 ^ 52 ≤ s → s < 2 ^ 53 → Units x (s * 2 ^ k) → x ≡ bits (k * 2 ^ 52 + s)
is_bits x s k f l h v = go (ltb (pattern x) (2 ^ 52)) refl
  where
    some : 0 < s * 2 ^ k
    some = mul-pos (lt_of_lt_of_le (pow_pos 52) l) (pow_pos k)

    go : (b : Bool) → ltb (pattern x) (2 ^ 52) ≡ b → x ≡ bits (k * 2 ^ 52 + s)
    go true e =
        let small : pattern x < 2 ^ 52 = ltb-true (pattern x) (2 ^ 52) e in
        let same : pattern x ≡ s * 2 ^ k = one_value x (pattern x) (s * 2 ^ k) (small_units x f small) v in
        absurd (omega (arith, same, mul-le-mul l (pow_pos k)))
    go false e =
        let b = pattern x in
        let normal : 2 ^ 52 ≤ b = ltb-false (pattern x) (2 ^ 52) e in
        let under : b < 2047 * 2 ^ 52 = pattern_under x f (positive_of_value x (s * 2 ^ k) (2 ^ 1074) v some) in
        let same = same_digits s (sig b) (b / 2 ^ 52 - 1) k l h (omega arith) (omega arith) (one_value x (s * 2 ^ k) (sig b * 2 ^ (b / 2 ^ 52 - 1)) v (normal_units x f (normal, under))) in
        let b_is : b ≡ k * 2 ^ 52 + s = omega (arith, same.0, same.1, normal) in
        sym (of_bits-to_bits binary64 x f) ∙ ap bits b_is

-- ---- what is nearest to a fraction that lies within a half of s
less_than_half : (q a b : ℕ) → a < b → nearest q (compare a b) ≡ q
less_than_half q a b h = go (compare a b) (nleb→lt a b) (eqb→eq a b)
  where
    go : (o : Ordering) → (T (not (is_le o)) → b < a) → (T (compare_is_eq o) → a ≡ b) → nearest q o ≡ q
    go Ordering.lt n e = refl
    go Ordering.eq n e = absurd (omega (arith, h, e tt))
    go Ordering.gt n e = absurd (omega (arith, h, n tt))

more_than_half : (q a b : ℕ) → b < a → nearest q (compare a b) ≡ suc q
more_than_half q a b h = go (compare a b) (leb→le a b)
  where
    go : (o : Ordering) → (T (is_le o) → a ≤ b) → nearest q o ≡ suc q
    go Ordering.lt l = absurd (omega (arith, h, l tt))
    go Ordering.eq l = absurd (omega (arith, h, l tt))
    go Ordering.gt l = refl

div_is : (q a u : ℕ) → 0 < u → q * u ≤ a → a < suc q * u → a / u ≡ q
div_is q a u p l h = omega (arith, (le-div_iff_mul-le p).1 l, (div-lt_iff_lt-mul p).1 h)

-- a, between t + 1/2 and t + 3/2 times 4 p
rounds_to : (t a p : ℕ) → 0 < p → 2 * ((2 * t + 1) * p) < a → a < 2 * ((2 * t + 3) * p) → closest a (4 * p) ≡ t + 1
rounds_to t a p z l h = go (leb (suc t * (4 * p)) a) refl
  where
    low : 2 * ((2 * t + 1) * p) ≡ 4 * (t * p) + 2 * p
    low = omega (arith, add-mul (2 * t) 1 p, mul_assoc 2 t p)

    high : 2 * ((2 * t + 3) * p) ≡ 4 * (t * p) + 6 * p
    high = omega (arith, add-mul (2 * t) 3 p, mul_assoc 2 t p)

    times : (q : ℕ) → q * (4 * p) ≡ 4 * (q * p)
    times q = mul_left_comm q 4 p

    next : (q : ℕ) → suc q * p ≡ q * p + p
    next q = omega (arith, add-mul q 1 p)

    u : 0 < 4 * p
    u = omega (arith, z)

    go : (b : Bool) → leb (suc t * (4 * p)) a ≡ b → closest a (4 * p) ≡ t + 1
    go true e =
        let d : a / (4 * p) ≡ suc t = div_is (suc t) a (4 * p) u (leb-true _ a e) (omega (arith, h, high, times (suc (suc t)), next (suc t), next t)) in
        let m : suc t * (4 * p) + a % (4 * p) ≡ a = rw d at (div-add-mod' a (4 * p)) in
        rw d (less_than_half (suc t) (a % (4 * p) * 2) (4 * p) (omega (arith, m, h, high, times (suc t), next t)) ∙ omega arith)
    go false e =
        let d : a / (4 * p) ≡ t = div_is t a (4 * p) u (omega (arith, l, low, times t)) (leb-false _ a e) in
        let m : t * (4 * p) + a % (4 * p) ≡ a = rw d at (div-add-mod' a (4 * p)) in
        rw d (more_than_half t (a % (4 * p) * 2) (4 * p) (omega (arith, m, l, low, times t)) ∙ omega arith)

-- ---- twice the root of m, with a half more where it goes on
twice : (m r a b : ℕ) → a * a < m → m < b * b → Root r m → (2 * a < 2 * r + cond (eqb (r * r) m) 0 1) × (2 * r + cond (eqb (r * r) m) 0 1 < 2 * b)
twice m r a b l h w = go (eqb (r * r) m) refl
  where
    under : r < b
    under = lt_of_not-le (λ (g : b ≤ r). omega (arith, mul-le-mul g g, h, w.0))

    go : (x : Bool) → eqb (r * r) m ≡ x → (2 * a < 2 * r + cond x 0 1) × (2 * r + cond x 0 1 < 2 * b)
    go true e =
        let is : r * r ≡ m = eqb-true (r * r) m e in
        let over : a < r = lt_of_not-le (λ (g : r ≤ a). omega (arith, mul-le-mul g g, l, is)) in
        (omega arith, omega (arith, under))
    go false e =
        let over : a < r + 1 = lt_of_not-le (λ (g : r + 1 ≤ a). omega (arith, mul-le-mul g g, l, w.1)) in
        (omega arith, omega (arith, under))

-- ---- the root of a units, in units
module _ (a k : ℕ) (r : Float) (w : Rooted a r k) (room : k < 2046) where
  -- a half of a unit of the last place, where the root is taken to 2271 places
  abbrev p : ℕ
  p = 2 ^ (k + 1196)

  abbrev places : ℕ
  places = a * 2 ^ 3468

  abbrev root_is : ℕ
  root_is = root_below (size places) places

  abbrev q : ℕ
  q = 2 * root_is + cond (eqb (root_is * root_is) places) 0 1

  p_is : p ≡ 2 ^ k * 2 ^ 1196
  p_is = pow-add 2 k 1196

  regroup : (n x y z : ℕ) → z ≡ 4 * (y * y) → n * (x * x) * z ≡ 4 * n * (x * y * (x * y))
  regroup n x y z e = rw e (simp (mul_assoc, mul_comm, mul_left_comm))

  places_is : places ≡ 4 * w.n * (p * p)
  places_is =
      ap (λ (x : ℕ). a * x) (pow-add 2 1074 2394) ∙ sym (mul_assoc a (2 ^ 1074) (2 ^ 2394)) ∙ ap (λ (x : ℕ). x * 2 ^ 2394) w.a_is
      ∙ regroup w.n (2 ^ k) (2 ^ 1196) (2 ^ 2394) refl ∙ ap (λ (x : ℕ). 4 * w.n * (x * x)) (sym p_is)

  s_is : w.s ≡ w.s - 1 + 1
  s_is = omega (arith, w.low)

  q_pos : 0 < p
  q_pos = pow_pos (k + 1196)

  between : (2 * ((2 * (w.s - 1) + 1) * p) < q) × (q < 2 * ((2 * w.s + 1) * p))
  between =
      twice places root_is ((2 * (w.s - 1) + 1) * p) ((2 * w.s + 1) * p)
      (rw places_is (mid_below (w.s - 1) w.n p ((2 * (w.s - 1) + 1) * p) (subst (λ (x : ℕ). Near x w.n) s_is w.near) q_pos (le_refl _)))
      (rw places_is (mid_above w.s w.n p ((2 * w.s + 1) * p) w.near q_pos (le_refl _)))
      (whole_part places)

  large : 2 * (2 ^ 53 * p) ≤ q
  large =
      let square : 2 ^ 53 * p * (2 ^ 53 * p) ≡ 2 ^ 106 * (p * p) = mul-mul-mul_comm (2 ^ 53) p (2 ^ 53) p in
      let under : 2 ^ 106 * (p * p) ≤ places = rw places_is (mul-le-mul_right (p * p) (omega (arith, w.large))) in
      let over : 2 ^ 53 * p < root_is + 1 = lt_of_not-le (λ (g : root_is + 1 ≤ 2 ^ 53 * p). omega (arith, mul-le-mul g g, square, under, (whole_part places).1)) in
      omega (arith, over)

  three : 2 * (w.s - 1) + 3 ≡ 2 * w.s + 1
  three = omega (arith, w.low)

  closest_is : closest q (4 * p) ≡ w.s
  closest_is = rounds_to (w.s - 1) q p q_pos between.0 (rw three between.1) ∙ sym s_is

  -- how many digits are dropped
  scale : (j : ℕ) → 2 ^ (j + 2) * p * 2 ^ 1074 ≡ 2 ^ (k + j) * 2 ^ 2272
  scale j =
      ap (λ (x : ℕ). x * 2 ^ 1074) (sym (pow-add 2 (j + 2) (k + 1196))) ∙ sym (pow-add 2 (j + 2 + (k + 1196)) 1074)
      ∙ ap (λ (x : ℕ). 2 ^ x) (omega arith) ∙ pow-add 2 (k + j) 2272

  digits : size (q * 2 ^ 1074 / 2 ^ 2272) ≡ k + 53
  digits =
      let z = q * 2 ^ 1074 / 2 ^ 2272 in
      let c : 0 < 2 ^ 2272 = pow_pos 2272 in
      let low : 2 ^ (k + 52) ≤ z = (le-div_iff_mul-le c).1 (rw (← scale 52) (mul-le-mul_right (2 ^ 1074) (omega (arith, large)))) in
      let few : (2 * w.s + 1) * p ≤ 2 ^ 54 * p = mul-le-mul_right p (omega (arith, w.high)) in
      let high : z < 2 ^ (k + 53) = (div-lt_iff_lt-mul c).1 (rw (← scale 53) (mul-lt-mul_of_pos_right (omega (arith, few, between.1)) (pow_pos 1074))) in
      let most : size z ≤ k + 53 = size-le z (k + 53) high in
      let least : k + 52 < size z = lt_of_not-le (λ (g : size z ≤ k + 52). omega (arith, size-lt z, pow_mono {i = size z} {j = k + 52} g, low)) in
      omega (arith, most, least)

  grid_is : grid binary64 q (2 ^ 2272) ≡ w.s * 2 ^ k
  grid_is =
      let d : size (q * 2 ^ 1074 / 2 ^ 2272) - 53 ≡ k = omega (arith, digits) in
      let none : k + 0 ≡ k = omega arith in
      let same : q * 2 ^ 1074 * (4 * p) ≡ q * (2 ^ 2272 * 2 ^ k) = mul_assoc q (2 ^ 1074) (4 * p) ∙ ap (λ (x : ℕ). q * x) (mul_comm (2 ^ 1074) (4 * p) ∙ rw none at (scale 0) ∙ mul_comm (2 ^ k) (2 ^ 2272)) in
      rw d (ap (λ (x : ℕ). x * 2 ^ k) (closest_same (q * 2 ^ 1074) (2 ^ 2272 * 2 ^ k) q (4 * p) (mul-pos (pow_pos 2272) (pow_pos k)) (omega (arith, q_pos)) same ∙ closest_is))

  pub rounded : round binary64 false (root_twice places) (2 ^ 2272) ≡ bits (k * 2 ^ 52 + w.s)
  unfolding root_twice
  rounded =
      let under : w.s * 2 ^ k < overflow binary64 = lt_of_lt_of_le (mul-lt-mul_of_pos_right w.high (pow_pos k)) (rw (← pow-add 2 53 k) (pow_mono {i = 53 + k} {j = 2098} (omega arith))) in
      let v : Units (round binary64 false q (2 ^ 2272)) (w.s * 2 ^ k) = subst (λ (x : ℕ). Units (round binary64 false q (2 ^ 2272)) x) grid_is (round_val binary64 q (2 ^ 2272) (rw grid_is under)) in
      is_bits (round binary64 false q (2 ^ 2272)) w.s k (round-fits binary64 false q (2 ^ 2272)) w.low w.high v

-- ---- every float
root_of : (m : ℕ) (e : ℤ) → T (fits binary64 (fin false (suc m) e)) → T (positive (fin false (suc m) e)) → sqrt binary64 (fin false (suc m) e) ≡ sqrt_of (fin false (suc m) e)
unfolding sqrt
root_of m e f p =
    let c = sqrt_case (fin false (suc m) e) f p in
    let n : suc m * up e * 2 ^ 4542 / down e ≡ c.a * 2 ^ 3468 =
    ap (λ (x : ℕ). x / down e) (ap (λ (x : ℕ). suc m * up e * x) (pow-add 2 1074 3468) ∙ sym (mul_assoc (suc m * up e) (2 ^ 1074) (2 ^ 3468)) ∙ ap (λ (x : ℕ). x * 2 ^ 3468) c.x_is.1 ∙ mul_right_comm c.a (down e) (2 ^ 3468))
    ∙ mul-div_cancel (c.a * 2 ^ 3468) (down_pos e) in
    rw n (rounded c.a c.k (sqrt_of (fin false (suc m) e)) c.root c.room ∙ sym c.root.r_is)

pub sqrt_lem : (x : Float) → T (fits binary64 x) → sqrt binary64 x ≡ sqrt_of x
unfolding sqrt sqrt_of is_finite eq lt of_bits fits
sqrt_lem nan f = refl
sqrt_lem (inf false) f = refl
sqrt_lem (inf true) f = refl
sqrt_lem (fin true zero (pos zero)) f = refl
sqrt_lem (fin false zero (pos zero)) f = refl
sqrt_lem (fin s zero (pos (suc k))) f = absurd (omega (arith, eqb→eq (2 ^ suc k * 1) 1 f, pow_mono {i = 1} {j = suc k} (omega arith)))
sqrt_lem (fin s zero (negsuc k)) f = absurd (omega (arith, eqb→eq (1 * 2 ^ suc k) 1 f, pow_mono {i = 1} {j = suc k} (omega arith)))
sqrt_lem (fin true (suc m) e) f =
    let h : 0 < suc m * up e = mul-pos (omega arith) (up_pos e) in
    let z : eqb (suc m * up e * 1) (0 * 1 * down e) ≡ false = ne_eqb (suc m * up e * 1) (0 * 1 * down e) (λ i. omega arith) in
    let n : ltb 0 (suc m * up e * 1 + 0 * down e) ≡ true = lt-ltb 0 (suc m * up e * 1 + 0 * down e) (omega arith) in
    rw (z, n)
sqrt_lem (fin false (suc m) e) f = root_of m e f (positive_of_value (fin false (suc m) e) (suc m * up e) (down e) (refl, refl) (mul-pos (omega arith) (up_pos e)))
