-- The laws by which a loop of the code meets its definition.
use Rattle.std.specs.Prelude.{◌≡◌, ℕ, zero, suc, ◌+◌, ◌-◌, ◌<◌, Option, Some, None}
use Rattle.std.proofs.Common.{refl, sym, ◌∙◌, add-one, add-zero, add-suc, arith}
use Rattle.math.specs.laws.Loops.{span_none, span_more}
use Rattle.linalg.specs.Loops.{down, tries}

module _ {A : Type 0} (f : ℕ → A → A) where
  -- the turns that are left: one of them, and none
  pub down_more : (i : ℕ) (s : A) → 0 < i → down f i s ≡ down f (i - 1) (f (i - 1) s)
  unfolding down
  down_more zero s p = absurd (omega arith)
  down_more (suc i) s p = let e : suc i - 1 ≡ i = omega arith in rw e

  pub down_done : (i : ℕ) (s : A) → i ≡ 0 → down f i s ≡ s
  unfolding down
  down_done i s e = rw e

module _ {A : Type 0} (f : ℕ → A → Option A) (a : A) where
  pub tries_none : Some a ≡ tries f 0 a
  unfolding tries
  tries_none = refl

  pub tries_more : (i : ℕ) (s : A) → Some s ≡ tries f i a → f i s ≡ tries f (i + 1) a
  unfolding tries
  tries_more i s h = rw (add-one i, ← h) refl

  -- where a turn gives none, so does the whole
  stays : (i k : ℕ) → None ≡ tries f i a → None ≡ tries f (i + k) a
  unfolding tries
  stays i zero h = rw add-zero h
  stays i (suc k) h = rw (add-suc, ← stays i k h) refl

  pub tries_stop : (n i : ℕ) (s : A) → Some s ≡ tries f i a → f i s ≡ None → i < n → None ≡ tries f n a
  tries_stop n i s h g p =
      let e : i + 1 + (n - (i + 1)) ≡ n = omega arith in
      rw e at (stays (i + 1) (n - (i + 1)) (sym g ∙ tries_more i s h))

-- all of them, with those of a loop that counts up
pub ruleset loops = (span_none, span_more, down_more, down_done, tries_none, tries_more, tries_stop)
