-- A float between two neighbouring whole numbers, its fraction dropped, is the one nearer to 0. Assumes nothing.
use Rattle.std.proofs.Common.{◌≡◌, ℕ, suc, ◌+◌, ◌-◌, ◌*◌, ◌/◌, ◌^◌, ◌<◌, min, Bool, true, false, cond, T, ltb, ℤ, pos, negsuc, ◌+ℤ◌, ◌-ℤ◌, neg_ℤ, sym, refl, ap, ◌∙◌, subst, lt_of_lt_of_le, le_of_lt, mul-le-mul_right, lt_of_mul-lt-mul_right, mul-one, mul_right_comm, arith, to_z-of_z, w64, SFits, to_z, of_z, ltb-true, lt-ltb, le-leb}
use native.Mathlib.Nat.{div-eq_of_lt-le}
use lib.Signed.{mag, le_z}
use lib.Ieee.{Float, nan, inf, fin, binary64, up, down, lt, le, to_signed, of_int, round}
use lib.Ieee.Back.{round_whole}
use lib.Ieee.Exact.{HasValue}
use lib.Ieee.Fits.{down_pos}
use Rattle.math.specs.laws.Order.{clash, clash'}
use Rattle.math.proofs.Ints.{mag_add, sfits_small}
use Rattle.math.specs.Words.{to_int}

-- ---- a whole number n, as A / a, beside X / x
lower : (A a n X x : ℕ) → A * 1 ≡ n * a → A * x < X * a → n * x < X
lower A a n X x h l = lt_of_mul-lt-mul_right a (subst (λ (z : ℕ). z < X * a) (ap (λ (z : ℕ). z * x) (sym (mul-one A) ∙ h) ∙ mul_right_comm n a x) l)

upper : (A a n X x : ℕ) → A * 1 ≡ n * a → X * a < A * x → X < n * x
upper A a n X x h l = lt_of_mul-lt-mul_right a (subst (λ (z : ℕ). X * a < z) (ap (λ (z : ℕ). z * x) (sym (mul-one A) ∙ h) ∙ mul_right_comm n a x) l)

cut : (n X x : ℕ) → n * x < X → X < suc n * x → X / x ≡ n
cut n X x l u = div-eq_of_lt-le x (le_of_lt l) (subst (λ (z : ℕ). X < z * x) (omega arith) u)

far_below : (n X x : ℕ) → n < 2 ^ 14 → 0 < x → X < suc n * x → X < 2 ^ 63 * x
far_below n X x h p u = lt_of_lt_of_le u (mul-le-mul_right x (omega arith))

over : (X x : ℕ) → 0 < x → ltb 0 (1 * 2 ^ 63 * x + X * 1) ≡ true
over X x p = lt-ltb 0 (1 * 2 ^ 63 * x + X * 1) (omega arith)

under : (X x : ℕ) → X < 2 ^ 63 * x → ltb (X * 1) (1 * 2 ^ 63 * x) ≡ true
under X x h = lt-ltb (X * 1) (1 * 2 ^ 63 * x) (omega arith)

over' : (X x : ℕ) → 0 < x → ltb 0 (X * 1 + 1 * 2 ^ 63 * x) ≡ true
over' X x p = lt-ltb 0 (X * 1 + 1 * 2 ^ 63 * x) (omega arith)

-- ---- |v| lies between n and n + 1, and v has the sign s
abbrev Between : Bool → ℕ → Float → Type 0
Between s n nan = ⊥
Between s n (inf t) = ⊥
Between s n (fin t m e) = (t ≡ s) × (n * down e < m * up e) × (m * up e < suc n * down e)

between_up : (n : ℕ) (a b v : Float) → HasValue a false n 1 → HasValue b false (suc n) 1 → lt a v ≡ true → lt v b ≡ true → Between false n v
unfolding lt
between_up n nan b v p q h k = absurd p
between_up n (inf s) b v p q h k = absurd p
between_up n (fin s i c) nan v p q h k = absurd q
between_up n (fin s i c) (inf t) v p q h k = absurd q
between_up n (fin true i c) (fin t j d) v p q h k = clash p.0
between_up n (fin false i c) (fin true j d) v p q h k = clash q.0
between_up n (fin false i c) (fin false j d) nan p q h k = clash' h
between_up n (fin false i c) (fin false j d) (inf true) p q h k = clash' h
between_up n (fin false i c) (fin false j d) (inf false) p q h k = clash' k
between_up n (fin false i c) (fin false j d) (fin true m e) p q h k = clash' h
between_up n (fin false i c) (fin false j d) (fin false m e) p q h k =
    (refl, lower (i * up c) (down c) n (m * up e) (down e) p.1 (ltb-true _ _ h), upper (j * up d) (down d) (suc n) (m * up e) (down e) q.1 (ltb-true _ _ k))

between_down : (n : ℕ) (a b v : Float) → HasValue a true (suc n) 1 → HasValue b true n 1 → lt a v ≡ true → lt v b ≡ true → Between true n v
unfolding lt
between_down n nan b v p q h k = absurd p
between_down n (inf s) b v p q h k = absurd p
between_down n (fin s i c) nan v p q h k = absurd q
between_down n (fin s i c) (inf t) v p q h k = absurd q
between_down n (fin false i c) (fin t j d) v p q h k = clash' p.0
between_down n (fin true i c) (fin false j d) v p q h k = clash' q.0
between_down n (fin true i c) (fin true j d) nan p q h k = clash' h
between_down n (fin true i c) (fin true j d) (inf true) p q h k = clash' h
between_down n (fin true i c) (fin true j d) (inf false) p q h k = clash' k
between_down n (fin true i c) (fin true j d) (fin false m e) p q h k = clash' k
between_down n (fin true i c) (fin true j d) (fin true m e) p q h k =
    (refl, lower (j * up d) (down d) n (m * up e) (down e) q.1 (ltb-true _ _ k), upper (i * up c) (down c) (suc n) (m * up e) (down e) p.1 (ltb-true _ _ h))

-- ---- what is left of such a v
cut_up : (n : ℕ) (v : Float) → n < 2 ^ 14 → Between false n v → to_int v ≡ pos n
unfolding to_int to_signed lt le
cut_up n nan l w = absurd w
cut_up n (inf s) l w = absurd w
cut_up n (fin true m e) l w = clash w.0
cut_up n (fin false m e) l w =
    let u = far_below n (m * up e) (down e) l (down_pos e) w.2 in
    let a = over (m * up e) (down e) (down_pos e) in
    let b = under (m * up e) (down e) u in
    let c : m * up e / down e ≡ n = cut n (m * up e) (down e) w.1 w.2 in
    rw (a, b, c) (ap pos (omega arith))

cut_down : (n : ℕ) (v : Float) → n < 2 ^ 14 → Between true n v → to_int v ≡ neg_ℤ (pos n)
unfolding to_int to_signed lt le
cut_down n nan l w = absurd w
cut_down n (inf s) l w = absurd w
cut_down n (fin false m e) l w = clash' w.0
cut_down n (fin true m e) l w =
    let u = far_below n (m * up e) (down e) l (down_pos e) w.2 in
    let a = under (m * up e) (down e) u in
    let b = over' (m * up e) (down e) (down_pos e) in
    let c : m * up e / down e ≡ n = cut n (m * up e) (down e) w.1 w.2 in
    let d : min n (2 ^ 63) ≡ n = omega arith in
    rw (a, b, c) (ap (λ (z : ℕ). neg_ℤ (pos z)) d)

-- ---- the whole number k, and the next one away from 0
abbrev pub lesser : ℤ → ℤ
lesser k = cond (le_z (pos 0) k) k (k -ℤ pos 1)

lesser_pos : (p : ℕ) → lesser (pos p) ≡ pos p
lesser_pos p = ap (λ (b : Bool). cond b (pos p) (pos p -ℤ pos 1)) (le-leb 0 p (omega arith))

next_pos : (p : ℕ) → pos p +ℤ pos 1 ≡ pos (suc p)
next_pos p = let e : p + 1 ≡ suc p = omega arith in ap pos e

lesser_neg : (p : ℕ) → lesser (negsuc p) ≡ negsuc (suc p)
lesser_neg p = let e : suc (p + 0) ≡ suc p = omega arith in ap negsuc e

next_neg : (p : ℕ) → negsuc (suc p) +ℤ pos 1 ≡ negsuc p
next_neg p =
    let e : suc (suc p) - 2 ≡ p = omega arith in
    ap (λ (b : Bool). cond b (negsuc (suc (suc p) - 2)) (pos (1 - suc (suc p)))) (lt-ltb 1 (suc (suc p)) (omega arith)) ∙ ap negsuc e

is_true : (x : Bool) → T x → x ≡ true
is_true true t = refl
is_true false t = absurd t

cut_at : (k : ℤ) (v : Float) → mag k < 8192 → lt (of_int binary64 (lesser k)) v ≡ true → T (lt v (of_int binary64 (lesser k +ℤ pos 1))) → to_int v ≡ k
unfolding of_int
cut_at (pos p) v l h t =
    let a : lt (round binary64 false p 1) v ≡ true = subst (λ (z : ℤ). lt (of_int binary64 z) v ≡ true) (lesser_pos p) h in
    let b : T (lt v (round binary64 false (suc p) 1)) = subst (λ (z : ℤ). T (lt v (of_int binary64 z))) (ap (λ (z : ℤ). z +ℤ pos 1) (lesser_pos p) ∙ next_pos p) t in
    cut_up p v (omega (arith, l)) (between_up p _ _ v (round_whole binary64 false p (omega (arith, l))) (round_whole binary64 false (suc p) (omega (arith, l))) a (is_true _ b))
cut_at (negsuc p) v l h t =
    let a : lt (round binary64 true (suc (suc p)) 1) v ≡ true = subst (λ (z : ℤ). lt (of_int binary64 z) v ≡ true) (lesser_neg p) h in
    let b : T (lt v (round binary64 true (suc p) 1)) = subst (λ (z : ℤ). T (lt v (of_int binary64 z))) (ap (λ (z : ℤ). z +ℤ pos 1) (lesser_neg p) ∙ next_neg p) t in
    cut_down (suc p) v (omega (arith, l)) (between_down (suc p) _ _ v (round_whole binary64 true (suc (suc p)) (omega (arith, l))) (round_whole binary64 true (suc p) (omega (arith, l))) a (is_true _ b))

pub cut_is : (k n : ℤ) (v a b : Float) → mag k < 8192 → n ≡ lesser k → a ≡ of_int binary64 n → b ≡ of_int binary64 (n +ℤ pos 1) → lt a v ≡ true → T (lt v b) → to_int v ≡ k
cut_is k n v a b l hn ha hb h t =
    cut_at k v l
    (subst (λ (z : Float). lt z v ≡ true) (ha ∙ ap (λ (z : ℤ). of_int binary64 z) hn) h)
    (subst (λ (z : Float). T (lt v z)) (hb ∙ ap (λ (z : ℤ). of_int binary64 (z +ℤ pos 1)) hn) t)

-- ---- the numbers of the code are small
module _ (n z : ℤ) (e : z ≡ n) (h : mag n < 8200) where
  pub more_fits : SFits w64 (z +ℤ pos 1)
  more_fits = sfits_small (z +ℤ pos 1) (subst (λ (y : ℤ). mag (y +ℤ pos 1) < 2 ^ 20) (sym e) (omega (arith, mag_add n (pos 1))))

pub small_back : (z : ℤ) → mag z < 8200 → to_z w64 (of_z w64 z) ≡ z
small_back z h = to_z-of_z (sfits_small z (omega (arith, h)))
