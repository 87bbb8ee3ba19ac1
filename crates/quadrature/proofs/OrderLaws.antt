-- An order that is taken is 3, 5, 7, 9 or 11, and of one or two effects the cap lowers none, since 11 ^ 2 is 121; and some values. Assumes nothing.
use Rattle.std.specs.Prelude.{ℕ, zero, suc, ◌+◌, ◌*◌, ◌^◌, ◌≤◌, ◌<◌, ◌≡◌, refl, Bool, true, false, ◌&&◌, cond, Option, Some, None, [], ◌∷◌, map, reverse, find, T, leb}
use Rattle.std.proofs.Common.{sym, ap, subst, ◌∙◌, arith}
use native.Mathlib.Nat.{pow-suc, pow-le-pow_right, mul-le-mul}
use native.Mathlib.Numerals.{add-one}
use borrow.Author.Tests.{lt-leb}
use Rattle.quadrature.specs.Orders.{orders, no_order, first_order_from, gh_order_of, is_order_in, max_points, order_within_cap, capped_order, product_of}

-- ---- an order that is taken is one of the five, and so no more than 11
module _ (P : ℕ → Type 0) where
  both : (b : Bool) (x y : ℕ) → P x → P y → P (cond b x y)
  both true x y h k = h
  both false x y h k = k

  first : (n : ℕ) → P 3 → P 5 → P 7 → P 9 → P 11 → P (first_order_from n orders)
  first n a b c d e = both (leb n 3) _ _ a (both (leb n 5) _ _ b (both (leb n 7) _ _ c (both (leb n 9) _ _ d (both (leb n 11) _ _ e e))))

  taken : (b : Bool) (m o : ℕ) → cond b None (Some m) ≡ Some o → P m → P o
  taken true m o e h = let z : ◌≡◌ {A = ℕ} 0 1 = cc in absurd (omega arith)
  taken false m o e h = let z : m ≡ o = cc in subst P z h

  resolved : (n o : ℕ) → gh_order_of n ≡ Some o → P 3 → P 5 → P 7 → P 9 → P 11 → P o
  unfolding gh_order_of
  resolved n o e p q r s t = taken (no_order n) (first_order_from n orders) o e (first n p q r s t)

pub order_known : (n o : ℕ) → gh_order_of n ≡ Some o → T (is_order_in o orders)
unfolding is_order_in
order_known n o e = resolved (λ m. T (is_order_in m orders)) n o e tt tt tt tt tt

pub order_range : (n o : ℕ) → gh_order_of n ≡ Some o → (3 ≤ o) × (o ≤ 11)
order_range n o e = resolved (λ m. (3 ≤ m) × (m ≤ 11)) n o e (omega arith, omega arith) (omega arith, omega arith) (omega arith, omega arith) (omega arith, omega arith) (omega arith, omega arith)

-- ---- a power that is worked out factor by factor
pub power_next : (ord p i : ℕ) → p ≡ ord ^ i → p * ord ≡ ord ^ (i + 1)
power_next ord p i h = rw (add-one, pow-suc) (ap (λ q. q * ord) h)

pub power_above : (ord k p i : ℕ) → i < k → p ≡ ord ^ i → max_points < p * ord → leb (ord ^ k) max_points ≡ false
power_above zero k p i h e g = absurd (omega arith)
power_above (suc n) k p i h e g =
    let ord = suc n in
    let t : ord ^ (i + 1) ≤ ord ^ k = pow-le-pow_right (omega arith) (omega arith) in
    let d = power_next ord p i e in
    lt-leb (ord ^ k) max_points (omega arith)

-- ---- what the code finds among SUPPORTED
abbrev fits : ℕ → ℕ → ℕ → Bool
fits base k o = leb o base && leb (o ^ k) max_points

pub capped_found : (n k base : ℕ) → gh_order_of n ≡ Some base → find (fits base k) (reverse orders) ≡ order_within_cap k base
unfolding order_within_cap
capped_found n k base e = resolved (λ m. find (fits m k) (reverse orders) ≡ order_within_cap k m) n base e refl refl refl refl refl

-- ---- of one or two effects the cap lowers no order: 11 ^ 2 = 121
cap_idle : (k : ℕ) → 1 ≤ k → k ≤ 2 → (n : ℕ) (o : Option ℕ) → gh_order_of n ≡ o → capped_order k o ≡ o
unfolding capped_order order_within_cap
cap_idle zero p q n o e = absurd (omega arith)
cap_idle (suc zero) p q n None e = refl
cap_idle (suc zero) p q n (Some o) e = refl
cap_idle (suc (suc zero)) p q n None e = refl
cap_idle (suc (suc zero)) p q n (Some o) e = resolved (λ m. order_within_cap 2 m ≡ Some m) n o e refl refl refl refl refl
cap_idle (suc (suc (suc k))) p q n o e = absurd (omega arith)

pub product_is_order : (n k : ℕ) → 1 ≤ k → k ≤ 2 → product_of n k ≡ gh_order_of n
product_is_order n k p q = cap_idle k p q n (gh_order_of n) refl

-- so a product of two has no more than 121 points
pub product_points : (n o : ℕ) → product_of n 2 ≡ Some o → o * o ≤ 121
product_points n o e = let r = order_range n o (sym (product_is_order n 2 (omega arith) (omega arith)) ∙ e) in mul-le-mul r.1 r.1

-- ---- values beside document 01's marked rows (crates/worked_examples); and 11 of 0 to 6 effects, where the cap lowers it from three on
pub order_rows : map gh_order_of (0 ∷ 3 ∷ 4 ∷ []) ≡ None ∷ Some 3 ∷ Some 5 ∷ []
unfolding gh_order_of
order_rows = refl

pub product_rows : map (product_of 11) (0 ∷ 1 ∷ 2 ∷ 3 ∷ 4 ∷ 5 ∷ 6 ∷ []) ≡ Some 11 ∷ Some 11 ∷ Some 11 ∷ Some 7 ∷ Some 3 ∷ Some 3 ∷ None ∷ []
unfolding gh_order_of order_within_cap capped_order
product_rows = refl
