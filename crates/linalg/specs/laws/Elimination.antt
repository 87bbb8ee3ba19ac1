-- The elimination a column at a time: what it comes to from column i on.
use Rattle.std.specs.Prelude.{◌≡◌, refl, ℕ, zero, suc, ◌+◌, ◌-◌, ◌<◌, ◌≤◌, Bool, true, false, List, Float, Option, Some, None, option_map, option_and_then}
use Rattle.std.proofs.Common.{◌∙◌, sym, ap, zero-add, add-zero, arith}
use Rattle.std.specs.Float.Ieee.{eq}
use Rattle.math.specs.Basic as Basic
use Rattle.linalg.specs.declared.elimination.System.{System}
use Rattle.linalg.specs.Loops.{tries}
use Rattle.linalg.specs.Elimination.{at, turned, cleared, back_of, column_of, eliminate_of}

-- the first turn before the others
module _ {A : Type 0} (f : ℕ → A → Option A) (i : ℕ) where
  others : ℕ → A → Option A
  others m b = tries (λ j. f (i + 1 + j)) m b

  tries_first : (m : ℕ) (a : A) → tries (λ j. f (i + j)) (suc m) a ≡ option_and_then (others m) (f i a)
  unfolding tries others
  tries_first zero a = rw add-zero (none_after (f i a))
    where
      none_after : (o : Option A) → o ≡ option_and_then (λ b. Some b) o
      none_after None = refl
      none_after (Some b) = refl
  tries_first (suc m) a = let e : i + suc m ≡ i + 1 + m = omega arith in rw (tries_first m a, e) (one_more (f i a))
    where
      one_more : (o : Option A)
          → option_and_then (f (i + 1 + m)) (option_and_then (others m) o) ≡ option_and_then (λ b. option_and_then (f (i + 1 + m)) (others m b)) o
      one_more None = refl
      one_more (Some b) = refl

module _ (n : ℕ) where
  -- the pivot is exactly zero
  abbrev pub stopped : ℕ → System → Bool
  stopped i s = eq (at (turned n i s).a i i) Basic.zero

  abbrev pub eliminate_from : ℕ → System → Option (List Float)
  eliminate_from i s = option_map (back_of n) (tries (λ j. column_of n (i + j)) (n - i) s)

  from_column : (i : ℕ) (s : System) → i < n
      → eliminate_from i s ≡ option_map (back_of n) (option_and_then (others (column_of n) i (n - (i + 1))) (column_of n i s))
  from_column i s p = let e : n - i ≡ suc (n - (i + 1)) = omega arith in rw e (ap (option_map (back_of n)) (tries_first (column_of n) i (n - (i + 1)) s))

  pub eliminate_stop : (i : ℕ) (s : System) → i < n → stopped i s ≡ true → eliminate_from i s ≡ None
  unfolding column_of
  eliminate_stop i s p h = from_column i s p ∙ rw h refl

  pub eliminate_go : (i : ℕ) (s : System) → i < n → stopped i s ≡ false → eliminate_from i s ≡ eliminate_from (i + 1) (cleared n i (turned n i s))
  unfolding column_of others
  eliminate_go i s p h = from_column i s p ∙ rw h refl

  pub eliminate_done : (i : ℕ) (s : System) → n ≤ i → eliminate_from i s ≡ Some (back_of n s)
  unfolding tries
  eliminate_done i s p = let e : n - i ≡ 0 = omega arith in rw e refl

  pub eliminate_all : (s : System) → eliminate_of n s ≡ eliminate_from 0 s
  unfolding eliminate_of
  eliminate_all s =
      let e : n - 0 ≡ n = omega arith in
      rw e (λ i. option_map (back_of n) (tries (λ j. column_of n (sym (zero-add j) i)) n s))
