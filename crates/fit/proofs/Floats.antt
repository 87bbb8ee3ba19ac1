-- A finite binary64 number times a length of at most 1 is finite: the exact product is no larger than the number, rounding keeps that order,
-- and the number itself rounds to a finite value. Assumes nothing.
use mathlib.Core.Path.{◌≡◌, refl, sym, ap, ◌∙◌, subst}
use mathlib.Core.Bool.{Bool, true, false, ◌&&◌, cond}
use Prim.Native.Nat.{ℕ, zero, suc, ◌+◌, ◌-◌, ◌*◌, ◌%◌, ◌^◌, ◌≤◌, ◌<◌}
use native.Mathlib.Nat.{le_trans, le_of_eq, lt_of_lt_of_le, lt_of_le_of_lt, lt_of_not-le, not-le_of_lt, le_of_suc-le-suc, mul_comm, mul_assoc, mul_left_comm, mul_right_comm, mul-le-mul_right, mul-lt-mul_of_pos_right, lt_of_mul-lt-mul_right, mul-pos, mul-one, one-mul, zero-mul}
use lib.IntN.{ℤ, pos, negsuc}
use lib.Dec.{T, ltb, leb, eqb, ltb→lt, leb→le}
use lib.Pow.{pow_pos, pow-add, pow-lt}
use lib.Ieee.{Float, nan, inf, fin, Format, binary64, prec, emax, low, up, down, unlike, lt, le, is_nan, round, units, odd, fits}
use lib.Ieee as Ieee
use lib.Ieee.Digits.{back}
use lib.Ieee.Fits.{down_pos, and_l, and_r, round_is}
use lib.Ieee.Exact.{HasValue, round_exact}
use lib.Ieee.Order.{round_mono, kept, drop}
use Rattle.math.specs.Basic.{mul, is_finite}
use Rattle.math.specs.laws.Order.{clash'}

-- ---- a fraction that rounds, without its sign, to at most a finite value rounds to a finite one with either sign

odd_finite : (d : ℕ) (s : Bool) (q k l : ℕ) → is_finite (odd d s q k l) ≡ true
unfolding odd is_finite
odd_finite d s zero k l = refl
odd_finite d s (suc q) k l = refl

above_finite : (y : Float) → is_finite y ≡ true → T (le (inf false) y) → ⊥
unfolding le is_finite
above_finite nan h t = t
above_finite (inf true) h t = t
above_finite (inf false) h t = clash' h
above_finite (fin s m e) h t = t

module _ (f : Format) (s : Bool) (y : Float) (h : is_finite y ≡ true) where
  pick_le : (b : Bool) (x z : Float) → is_finite x ≡ true → T (le (cond b z (inf false)) y) → is_finite (cond b x (inf s)) ≡ true
  pick_le true x z e t = e
  pick_le false x z e t = absurd (above_finite y h t)

  units_le : (q k : ℕ) → T (le (units f false q k) y) → is_finite (units f s q k) ≡ true
  unfolding units
  units_le q k t =
      pick_le (ltb (q * 2 ^ k) (2 ^ (low f + suc (emax f)))) (odd (suc (prec f)) s q k (low f)) (odd (suc (prec f)) false q k (low f))
      (odd_finite (suc (prec f)) s q k (low f)) t

  round_le : (a c : ℕ) → T (le (round f false a c) y) → is_finite (round f s a c) ≡ true
  round_le a c t =
      let n = a * 2 ^ low f in
      ap is_finite (round_is f s a c) ∙ units_le (kept (prec f) n c) (drop (prec f) n c) (subst (λ (x : Float). T (le x y)) (round_is f false a c) t)

-- ---- a value that the format holds is finite when it is rounded again

value_finite : (x : Float) (s : Bool) (a c : ℕ) → HasValue x s a c → is_finite x ≡ true
unfolding is_finite
value_finite nan s a c h = absurd h
value_finite (inf t) s a c h = absurd h
value_finite (fin t m e) s a c h = refl

pow_le : (i j : ℕ) → 2 ^ i ≤ 2 ^ j → i ≤ j
pow_le i j h = le_of_suc-le-suc (lt_of_not-le (λ (g : suc j ≤ i). not-le_of_lt (pow-lt g) h))

-- 2 ^ e is 2 ^ place of the format's smallest values, of which 2 ^ l make 1
place : ℕ → ℤ → ℕ
place l (pos n) = n + l
place l (negsuc n) = l - suc n

place_is : (l : ℕ) (e : ℤ) → down e ≤ 2 ^ l → up e * 2 ^ l ≡ 2 ^ place l e * down e
unfolding place
place_is l (pos n) h = sym (pow-add 2 n l) ∙ sym (mul-one (2 ^ (n + l)))
place_is l (negsuc n) h = one-mul (2 ^ l) ∙ ap (λ (x : ℕ). 2 ^ x) (sym (back l (suc n) (pow_le (suc n) l h))) ∙ pow-add 2 (l - suc n) (suc n)

module _ (f : Format) (m : ℕ) (e : ℤ) (digits : m < 2 ^ prec f) (deep : down e ≤ 2 ^ low f) (size : m * up e < 2 ^ suc (emax f) * down e) where
  in_places : m * up e * 2 ^ low f ≡ m * 2 ^ place (low f) e * down e
  in_places = mul_assoc m (up e) (2 ^ low f) ∙ ap (λ (x : ℕ). m * x) (place_is (low f) e deep) ∙ sym (mul_assoc m (2 ^ place (low f) e) (down e))

  below_overflow : m * 2 ^ place (low f) e < 2 ^ (low f + suc (emax f))
  below_overflow =
      lt_of_mul-lt-mul_right (down e)
      (lt_of_le_of_lt (le_of_eq (sym in_places))
      (lt_of_lt_of_le (mul-lt-mul_of_pos_right size (pow_pos (low f)))
      (le_of_eq
      (mul_right_comm (2 ^ suc (emax f)) (down e) (2 ^ low f)
      ∙ ap (λ (x : ℕ). x * down e) (mul_comm (2 ^ suc (emax f)) (2 ^ low f) ∙ sym (pow-add 2 (low f) (suc (emax f))))))))

  exact_finite : is_finite (round f false (m * up e) (down e)) ≡ true
  exact_finite =
      value_finite (round f false (m * up e) (down e)) false (m * up e) (down e)
      (round_exact f false (m * up e) (down e) m (place (low f) e) (down_pos e) digits below_overflow in_places)

zero_finite : (f : Format) (e : ℤ) → is_finite (round f false (0 * up e) (down e)) ≡ true
zero_finite f e =
    value_finite (round f false (0 * up e) (down e)) false (0 * up e) (down e)
    (round_exact f false (0 * up e) (down e) 0 0 (down_pos e) (pow_pos (prec f)) (pow_pos (low f + suc (emax f)))
    (ap (λ (x : ℕ). x * 2 ^ low f) (zero-mul (up e)) ∙ zero-mul (2 ^ low f) ∙ sym (zero-mul (down e))))

held_finite : (f : Format) (s : Bool) (m : ℕ) (e : ℤ) → T (fits f (fin s m e)) → is_finite (round f false (m * up e) (down e)) ≡ true
unfolding fits
held_finite f s zero e t = zero_finite f e
held_finite f s (suc m) e t =
    let odd-m = eqb (suc m % 2) 1 in
    let digits = ltb (suc m) (2 ^ prec f) in
    let deep = leb (down e) (2 ^ low f) in
    let size = ltb (suc m * up e) (2 ^ suc (emax f) * down e) in
    let three = and_l (odd-m && digits && deep) size t in
    exact_finite f (suc m) e (ltb→lt (suc m) (2 ^ prec f) (and_r odd-m digits (and_l (odd-m && digits) deep three)))
    (leb→le (down e) (2 ^ low f) (and_r (odd-m && digits) deep three))
    (ltb→lt (suc m * up e) (2 ^ suc (emax f) * down e) (and_r (odd-m && digits && deep) size t))

-- ---- the product

-- from +0 to 1
abbrev pub short : Float → Bool
short nan = false
short (inf s) = false
short (fin true m e) = false
short (fin false m e) = leb (m * up e) (down e)

at_most : (a d x y : ℕ) → a ≤ d → a * x * y ≤ x * (d * y)
at_most a d x y h = le_trans (le_of_eq (mul_assoc a x y)) (le_trans (mul-le-mul_right (x * y) h) (le_of_eq (mul_left_comm d x y)))

pub mul_finite : (a x : Float) → T (short a) → T (fits binary64 x) → is_finite x ≡ true → is_finite (mul a x) ≡ true
unfolding Ieee.mul is_finite
mul_finite nan x s f h = absurd s
mul_finite (inf t) x s f h = absurd s
mul_finite (fin true n d) x s f h = absurd s
mul_finite (fin false n d) nan s f h = clash' h
mul_finite (fin false n d) (inf t) s f h = clash' h
mul_finite (fin false n d) (fin t m e) s f h =
    round_le binary64 (unlike false t) (round binary64 false (m * up e) (down e)) (held_finite binary64 t m e f) (n * up d * (m * up e)) (down d * down e)
    (round_mono binary64 (n * up d * (m * up e)) (down d * down e) (m * up e) (down e) (mul-pos (down_pos d) (down_pos e)) (down_pos e)
    (at_most (n * up d) (down d) (m * up e) (down e) (leb→le (n * up d) (down d) s)))
