-- A loop that counts down, and one that a turn may end without an answer.
use Rattle.std.specs.Prelude.{ℕ, zero, suc, Option, Some, option_and_then}

module _ {A : Type 0} where
  -- f at n - 1, n - 2, .. 0
  unfoldable pub down : (ℕ → A → A) → ℕ → A → A
  down f zero a = a
  down f (suc n) a = down f n (f n a)

  -- f at 0, 1, .. n - 1, each turn from what the one before gives; none where a turn gives none
  unfoldable pub tries : (ℕ → A → Option A) → ℕ → A → Option A
  tries f zero a = Some a
  tries f (suc n) a = option_and_then (f n) (tries f n a)
