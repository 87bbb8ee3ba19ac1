-- Lists compared pair by pair. Assumes nothing.
use Rattle.std.proofs.Common.{◌≡◌, refl, ap, suc, Bool, false, ◌&&◌, ◌<◌, List, [], ◌∷◌, length, take, length-take, arith}
use Rattle.std.proofs.Math.Bool.{and-false}
use Rattle.std.specs.List.{list_all, zip}
use Rattle.math.specs.Lists.{same_lists}

module _ {A : Type 0} (same : A → A → Bool) where
  pub unequal_lengths : (a b : List A) → (length a ≡ length b → ⊥) → same_lists same a b ≡ false
  unfolding same_lists
  unequal_lengths [] [] h = absurd (h refl)
  unequal_lengths [] (y ∷ b) h = refl
  unequal_lengths (x ∷ a) [] h = refl
  unequal_lengths (x ∷ a) (y ∷ b) h = rw (unequal_lengths a b (λ e. h (ap suc e))) (and-false (same x y))

  pub by_pairs : (a b : List A) → length a ≡ length b → same_lists same a b ≡ list_all (λ p. same p.0 p.1) (zip a b)
  unfolding same_lists
  by_pairs [] [] h = refl
  by_pairs [] (y ∷ b) h = cc
  by_pairs (x ∷ a) [] h = cc
  by_pairs (x ∷ a) (y ∷ b) h = ap (λ t. same x y && t) (by_pairs a b (cc))

-- the front of a list that is too short
pub too_short : {A : Type 0} (same : A → A → Bool) (a b : List A) → length b < length a → same_lists same a (take (length a) b) ≡ false
too_short same a b h = unequal_lengths same a (take (length a) b) (λ e. let k = rw length-take at e in omega arith)
