-- What a loop keeps, and what `alter` and `each` leave at a place. Assumes nothing.
use mathlib.Core.Path.{◌≡◌, refl, sym, ap, ◌∙◌, subst}
use mathlib.Core.Logic.{inl, inr}
use mathlib.Core.List.{List, [], ◌∷◌}
use Prim.Native.Nat.{ℕ, zero, suc, ◌≤◌, ◌<◌}
use native.Mathlib.Nat.{eq-or-lt_of_le, le_of_suc-le-suc, not-suc-le-zero}
use native.Mathlib.Omega.{arith}
use lib.Ieee.{Float, nan}
use lib.ListN.{length, get_or, take, replicate, length-set, length-replicate}
use Rattle.std.proofs.lemmas.List.{length-take-le}
use lib.Seq.{get_or-set_same, get_or-set_other}
use Rattle.math.specs.Loops.{iter}
use Rattle.fit_step.specs.Lists.{alter, each_at, each}

module _ {A : Type 0} (P : A → Type 0) where
  -- what each turn keeps, a loop keeps
  pub iter_keeps : (f : ℕ → A → A) → ((i : ℕ) (a : A) → P a → P (f i a)) → (n : ℕ) (a : A) → P a → P (iter f n a)
  unfolding iter
  iter_keeps f h zero a x = x
  iter_keeps f h (suc n) a x = h n (iter f n a) (iter_keeps f h n a x)

-- ---- lengths

pub iter_length : (f : ℕ → List Float → List Float) → ((i : ℕ) (l : List Float) → length (f i l) ≡ length l) → (n : ℕ) (l : List Float)
    → length (iter f n l) ≡ length l
iter_length f h n l = iter_keeps (λ r. length r ≡ length l) f (λ i r e. h i r ∙ e) n l refl

pub each_length : (f : ℕ → Float → Float) (n : ℕ) (l : List Float) → length (each f n l) ≡ length l
unfolding each
each_length f n l = iter_length (each_at f) (λ i r. length-set r i (f i (get_or r i nan))) n l

-- the first n of a direction's 68 places
pub some_places : (n : ℕ) (x : Float) → n ≤ 68 → length (take n (replicate 68 x)) ≡ n
some_places n x h = length-take-le n (replicate 68 x) (rw length-replicate h)

-- ---- one place altered, and each of the first n

-- a change that keeps P of what it changes keeps it at every place
pub alter_keeps : (P : Float → Type 0) (l : List Float) (i j : ℕ) (f : Float → Float) → ((v : Float) → P v → P (f v)) → P (get_or l j nan)
    → P (get_or (alter l i f) j nan)
alter_keeps P [] i j f h x = x
alter_keeps P (y ∷ ys) zero zero f h x = h y x
alter_keeps P (y ∷ ys) zero (suc j) f h x = x
alter_keeps P (y ∷ ys) (suc i) zero f h x = x
alter_keeps P (y ∷ ys) (suc i) (suc j) f h x = alter_keeps P ys i j f h x

module _ (f : ℕ → Float → Float) (l : List Float) where
  -- the turn at n leaves the other places
  turn_other : (n i : ℕ) → (i ≡ n → ⊥) → get_or (each f (suc n) l) i nan ≡ get_or (each f n l) i nan
  unfolding each iter
  turn_other n i h = get_or-set_other (each f n l) n i (f n (get_or (each f n l) n nan)) nan h

  each_past : (n i : ℕ) → n ≤ i → get_or (each f n l) i nan ≡ get_or l i nan
  unfolding each iter
  each_past zero i p = refl
  each_past (suc n) i p = turn_other n i (λ (e : i ≡ n). omega arith) ∙ each_past n i (omega arith)

  turn_same : (n : ℕ) → n < length l → get_or (each f (suc n) l) n nan ≡ f n (get_or l n nan)
  unfolding each iter
  turn_same n q =
      get_or-set_same (each f n l) n (f n (get_or (each f n l) n nan)) nan (subst (λ (k : ℕ). n < k) (sym (each_length f n l)) q)
      ∙ ap (f n) (each_past n n (omega arith))

  pub each_at_lem : (n i : ℕ) → i < n → i < length l → get_or (each f n l) i nan ≡ f i (get_or l i nan)
  each_at_lem zero i p q = absurd (not-suc-le-zero p)
  each_at_lem (suc n) i p q = elim (eq-or-lt_of_le (le_of_suc-le-suc p)) [
    | inl e ↦ subst (λ (j : ℕ). get_or (each f (suc n) l) j nan ≡ f j (get_or l j nan)) (sym e) (turn_same n (subst (λ (j : ℕ). j < length l) e q))
    | inr h ↦ turn_other n i (λ (e : i ≡ n). omega arith) ∙ each_at_lem n i h q
  ]
