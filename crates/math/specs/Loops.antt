-- Loops that count up: `iter` and `span` run to the end, `until` may stop early.
use Rattle.std.specs.Prelude.{ℕ, zero, suc, ◌+◌, ◌-◌, Bool, cond}

module _ {A : Type 0} where
  -- f at 0, 1, .. n - 1
  unfoldable pub iter : (ℕ → A → A) → ℕ → A → A
  iter f zero a = a
  iter f (suc n) a = f n (iter f n a)

  -- f at lo, lo + 1, .. lo + n - 1
  unfoldable pub from : (ℕ → A → A) → ℕ → ℕ → A → A
  from f lo zero a = a
  from f lo (suc n) a = f (lo + n) (from f lo n a)

  -- f at lo, lo + 1, .. hi - 1
  abbrev pub span : (ℕ → A → A) → ℕ → ℕ → A → A
  span f lo hi a = from f lo (hi - lo) a

-- Turns at i, i + 1, .. n - 1, the count left first. A turn at which stop holds ends the loop in out, and after the last comes done.
module _ {A B : Type 0} (stop : ℕ → A → Bool) (out : ℕ → A → B) (step : ℕ → A → A) (done : A → B) where
  unfoldable pub until : ℕ → ℕ → A → B
  until zero i s = done s
  until (suc k) i s = let r = until k (i + 1) (step i s) in cond (stop i s) (out i s) r
