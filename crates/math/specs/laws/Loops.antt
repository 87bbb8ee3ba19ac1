-- The laws by which a loop of the code meets its definition: where it begins, one turn more, where it ends.
use Rattle.std.specs.Prelude.{◌≡◌, ℕ, suc, ◌+◌, ◌-◌, ◌<◌, ◌≤◌, Bool, true, false, cond}
use Rattle.std.proofs.Math.Path.{refl}
use Rattle.std.proofs.Common.{ap, add-one}
use native.Mathlib.Omega.{arith}
use Rattle.math.specs.Loops.{iter, from, span, until}

module _ {A : Type 0} where
  -- a choice whose test is known
  pub pick_true : (b : Bool) (x y : A) → b ≡ true → cond b x y ≡ x
  pick_true b x y h = rw h refl

  pub pick_false : (b : Bool) (x y : A) → b ≡ false → cond b x y ≡ y
  pick_false b x y h = rw h refl

  -- where the loop begins
  pub iter_none : (f : ℕ → A → A) (a : A) → a ≡ iter f 0 a
  unfolding iter
  iter_none f a = refl

  -- one turn more: b is what the turn leaves
  pub iter_more : (f : ℕ → A → A) (i : ℕ) (a : A) {s : A} → s ≡ iter f i a → f i s ≡ iter f (i + 1) a
  unfolding iter
  iter_more f i a {s} h = rw (add-one i) (ap (f i) h)

  -- where the loop ends
  pub iter_all : (f : ℕ → A → A) (n i : ℕ) (a : A) {s : A} → s ≡ iter f i a → i ≤ n → n ≤ i → s ≡ iter f n a
  iter_all f n i a {s} h p q = let e : i ≡ n = omega arith in rw e at h

  -- both as equations of the loop, for a function's `using`
  pub iter_zero : (f : ℕ → A → A) (a : A) → iter f 0 a ≡ a
  unfolding iter
  iter_zero f a = refl

  pub iter_next : (f : ℕ → A → A) (i : ℕ) (a : A) → iter f (i + 1) a ≡ f i (iter f i a)
  unfolding iter
  iter_next f i a = rw (add-one i) refl

  pub span_none : (f : ℕ → A → A) (lo : ℕ) (a : A) → a ≡ span f lo lo a
  unfolding from
  span_none f lo a = let e : lo - lo ≡ 0 = omega arith in rw e

  pub span_more : (f : ℕ → A → A) (lo i : ℕ) (a : A) {s : A} → lo ≤ i → s ≡ span f lo i a → f i s ≡ span f lo (i + 1) a
  unfolding from
  span_more f lo i a {s} p h =
      let e : i + 1 - lo ≡ suc (i - lo) = omega arith in
      let d : lo + (i - lo) ≡ i = omega arith in
      rw (e, d) (ap (f i) h)

  pub span_all : (f : ℕ → A → A) (lo hi i : ℕ) (a : A) {s : A} → s ≡ span f lo i a → i ≤ hi → hi ≤ i → s ≡ span f lo hi a
  span_all f lo hi i a {s} h p q = let e : i ≡ hi = omega arith in rw e at h

-- Turns at i, i + 1, .. n - 1, the count left first. A turn at which stop holds ends the loop in out, and after the last comes done.
module _ {A B : Type 0} (stop : ℕ → A → Bool) (out : ℕ → A → B) (step : ℕ → A → A) (done : A → B) where
  pub until_stop : (n i : ℕ) (s : A) → i < n → stop i s ≡ true → until stop out step done (n - i) i s ≡ out i s
  unfolding until
  until_stop n i s p h = let e : n - i ≡ suc (n - (i + 1)) = omega arith in rw (e, h)

  pub until_go : (n i : ℕ) (s : A) → i < n → stop i s ≡ false → until stop out step done (n - i) i s ≡ until stop out step done (n - (i + 1)) (i + 1) (step i s)
  unfolding until
  until_go n i s p h = let e : n - i ≡ suc (n - (i + 1)) = omega arith in rw (e, h)

  pub until_done : (n i : ℕ) (s : A) → n ≤ i → until stop out step done (n - i) i s ≡ done s
  unfolding until
  until_done n i s p = let e : n - i ≡ 0 = omega arith in rw e

-- the turns of `iter`, one by one
pub ruleset turns = (iter_zero, iter_next)
