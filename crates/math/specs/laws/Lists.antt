-- A test of a list, element by element, for the loops that make it; lists that are the same.
use Rattle.std.specs.Prelude.{◌≡◌, ℕ, zero, suc, ◌+◌, ◌<◌, ◌≤◌, Bool, true, false, T, List, [], ◌∷◌, length, drop, ◌==◌, slice_index_or, refl}
use Rattle.std.proofs.Common.{sym, ap, ◌∙◌, subst, le_of_suc-le-suc, not-suc-le-zero, add-one, eq-eqb, eqb-true, drop_of_length-le}
use Rattle.std.proofs.Math.Seq.{drop-cons}
use Rattle.std.proofs.lemmas.Bool.{and_parts}
use Rattle.math.specs.Lists.{every, same_lists, same_bytes}

-- ---- what every element passes, each does

pub every_at : {A : Type 0} (t : A → Bool) (l : List A) (i : ℕ) (d : A) → every t l ≡ true → i < length l → t (slice_index_or l i d) ≡ true
every_at t [] i d h p = absurd (not-suc-le-zero p)
every_at t (x ∷ xs) zero d h p = (and_parts (t x) (every t xs) h).0
every_at t (x ∷ xs) (suc i) d h p = every_at t xs i d (and_parts (t x) (every t xs) h).1 (le_of_suc-le-suc p)

-- ---- the test from place i on, as a loop makes it

module _ {A : Type 0} (t : A → Bool) (l : List A) (i : ℕ) where
  pub every_stop : (d : A) → i < length l → t (slice_index_or l i d) ≡ false → every t (drop i l) ≡ false
  every_stop d p h = rw (drop-cons l i d p, h)

  pub every_go : (d : A) → i < length l → t (slice_index_or l i d) ≡ true → every t (drop (i + 1) l) ≡ every t (drop i l)
  every_go d p h = rw (add-one i, drop-cons l i d p, h)

  pub every_done : length l ≤ i → every t (drop i l) ≡ true
  every_done p = rw (drop_of_length-le l p)

-- ---- a test that holds exactly of equal lists of bytes is `same_bytes`

same_self : (a : List ℕ) → same_bytes a a ≡ true
unfolding same_lists
same_self [] = refl
same_self (x ∷ a) = rw (eq-eqb x x refl) (same_self a)

same_equal : (a b : List ℕ) → same_bytes a b ≡ true → a ≡ b
unfolding same_lists
same_equal [] [] h = refl
same_equal [] (y ∷ b) h = absurd (subst T (sym h) tt)
same_equal (x ∷ a) [] h = absurd (subst T (sym h) tt)
same_equal (x ∷ a) (y ∷ b) h =
    let j = and_parts (x == y) (same_bytes a b) h in
    rw (eqb-true x y j.0) (ap (λ (l : List ℕ). y ∷ l) (same_equal a b j.1))

pub same_bytes_lem : (r : Bool) (a b : List ℕ) → (r ≡ true → a ≡ b) × (a ≡ b → r ≡ true) → r ≡ same_bytes a b
same_bytes_lem true a b h = sym (subst (λ (l : List ℕ). same_bytes a l ≡ true) (h.0 refl) (same_self a))
same_bytes_lem false a b h = decided (same_bytes a b) refl
  where
    decided : (s : Bool) → same_bytes a b ≡ s → false ≡ same_bytes a b
    decided true e = h.1 (same_equal a b e) ∙ sym e
    decided false e = sym e
