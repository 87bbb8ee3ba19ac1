-- An order has as many weights as nodes, so that a place of the two lists as pairs is a place of each. Assumes nothing.
use Rattle.std.specs.Prelude.{ℕ, zero, suc, ◌≡◌, refl, Bool, true, false, cond, List, [], ◌∷◌, length, eqb, get_or, Float}
use Rattle.std.specs.Float.{nan}
use Rattle.std.specs.List.{zip}
use Rattle.std.proofs.Common.{arith}
use Rattle.quadrature.specs.Rules.{z3, z5, z7, z9, z11, w3, w5, w7, w9, w11, gh_nodes, gh_weights}

either : (b : Bool) (p q r s : List Float) → length p ≡ length q → length r ≡ length s → length (cond b p r) ≡ length (cond b q s)
either true p q r s h k = h
either false p q r s h k = k

same_length : (n : ℕ) → length (gh_nodes n) ≡ length (gh_weights n)
unfolding z3 z5 z7 z9 z11 w3 w5 w7 w9 w11 gh_nodes gh_weights
same_length n =
    either (eqb n 3) _ _ _ _ refl (either (eqb n 5) _ _ _ _ refl (either (eqb n 7) _ _ _ _ refl (either (eqb n 9) _ _ _ _ refl (either (eqb n 11) _ _ _ _ refl refl))))

pair_at : (zs ws : List Float) (i : ℕ) → length zs ≡ length ws → get_or (zip zs ws) i (nan, nan) ≡ (get_or zs i nan, get_or ws i nan)
pair_at [] [] i h = refl
pair_at [] (w ∷ ws) i h = absurd (omega (arith, h))
pair_at (z ∷ zs) [] i h = absurd (omega (arith, h))
pair_at (z ∷ zs) (w ∷ ws) zero h = refl
pair_at (z ∷ zs) (w ∷ ws) (suc i) h = pair_at zs ws i (omega (arith, h))

pub point_of_order : (n i : ℕ) → get_or (zip (gh_nodes n) (gh_weights n)) i (nan, nan) ≡ (get_or (gh_nodes n) i nan, get_or (gh_weights n) i nan)
point_of_order n i = pair_at (gh_nodes n) (gh_weights n) i (same_length n)
