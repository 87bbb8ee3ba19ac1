-- A round's loops, a step at a time, for the loops of the code to go by. Their invariant: `result_of s r t (attempts q s b old win (n - a) lambda)` is what the whole run ends in,
-- whatever follows on a win, and so with `lengths`.
use Rattle.std.specs.Prelude.{◌≡◌, refl, Bool, true, false, cond, Option, Some, None, List, Float, length}
use Rattle.std.proofs.Common.{◌∙◌, ap, sym}
use Prim.Native.Nat.{ℕ, suc, ◌+◌, ◌-◌, ◌≤◌, ◌<◌}
use native.Mathlib.Omega.{arith}
use Rattle.std.specs.Float.Ieee.{lt}
use Rattle.math.specs.Basic.{mul, one, half}
use Rattle.block_solve.specs.declared.normal.BlockNormal.{BlockNormal}
use Rattle.fit_refusals.specs.Problem.{Problem}
use Rattle.fit_step.specs.declared.State.{State}
use Rattle.math.specs.Lists.{largest_of}
use Rattle.fit_step.specs.Trial.{tried_of, step_of, lowered, raised}
use Rattle.fit_penalized.specs.Penalized.{penalized_rss}
use Rattle.fit_round.specs.declared.Evaluated.{Evaluated}
use Rattle.fit_round.specs.Round.{1e-10, Trace, ended, tried, last_accepted, direction, lengths, along, attempts}
use Rattle.fit_round.specs.Steps.{stopped, result_of}

module _ (q : Problem) where
  -- ---- nothing follows, a trial

  pub at_end : (s : State) (r t : ℕ) (c : Bool) → result_of q s r t (ended c) ≡ stopped q s c r t
  at_end s r t c =
      let a : r + 0 ≡ r = omega arith in
      let b : t + 0 ≡ t = omega arith in
      λ i. (stopped q) s c (a i) (b i)

  pub after_trial : (s : State) (r t : ℕ) (z : State) (v : Float) (x : Trace) → result_of q s r t (tried z v x) ≡ result_of q s r (t + 1) x
  after_trial s r t z v x =
      let n = length x.trials in
      let e : t + suc n ≡ t + 1 + n = omega arith in
      λ i. (stopped q) (last_accepted s x.accepted) x.converged (r + x.rounds) (e i)

  module _ (s : State) (b : BlockNormal) (old : Float) (win : State → Float → Float → Trace) (r t : ℕ) where
    -- what follows on attempt a of n, if it fails
    abbrev pub following : ℕ → ℕ → Float → Trace
    following n a l = attempts q s b old win (n - (a + 1)) l

    -- ---- attempts: a of n are over

    pub attempts_done : (n a : ℕ) (l : Float) → n ≤ a → result_of q s r t (attempts q s b old win (n - a) l) ≡ result_of q s r t (ended false)
    unfolding attempts
    attempts_done n a l h = let e : n - a ≡ 0 = omega arith in rw e

    attempts_go : (n a : ℕ) (l : Float) (o : Option (List Float)) → a < n → direction q b l ≡ o
        → result_of q s r t (attempts q s b old win (n - a) l) ≡ result_of q s r t (along q s b old win (following n a) l o)
    unfolding attempts
    attempts_go n a l o h d = let e : n - a ≡ suc (n - (a + 1)) = omega arith in rw (e, ← d)

    -- no direction, a proposal below 1e-10, or 20 lengths
    pub attempts_none : (n a : ℕ) (l : Float) → a < n → direction q b l ≡ None → result_of q s r t (attempts q s b old win (n - a) l) ≡ result_of q s r t (ended false)
    attempts_none n a l h d = attempts_go n a l None h d

    pub attempts_near : (n a : ℕ) (l big : Float) (d : List Float) → a < n → direction q b l ≡ Some d → big ≡ largest_of d → lt big 1e-10 ≡ true
        → result_of q s r t (attempts q s b old win (n - a) l) ≡ result_of q s r t (ended true)
    attempts_near n a l big d h e m c = attempts_go n a l (Some d) h e ∙ rw (← m, c) refl

    pub attempts_try : (n a : ℕ) (l big : Float) (d : List Float) → a < n → direction q b l ≡ Some d → big ≡ largest_of d → lt big 1e-10 ≡ false
        → result_of q s r t (attempts q s b old win (n - a) l) ≡ result_of q s r t (lengths q s b old win 20 (following n a) d l one)
    attempts_try n a l big d h e m c = attempts_go n a l (Some d) h e ∙ rw (← m, c) refl

    -- ---- lengths: j of n are tried

    module _ (next : Float → Trace) (d : List Float) (l : Float) where
      pub lengths_done : (n j : ℕ) (alpha : Float) → n ≤ j → result_of q s r t (lengths q s b old win (n - j) next d l alpha) ≡ result_of q s r t (next (raised l))
      unfolding lengths
      lengths_done n j alpha h = let e : n - j ≡ 0 = omega arith in rw e

      -- the trial y is next, and wins or not
      lengths_go : (n j : ℕ) (alpha : Float) (y : Evaluated) → j < n → y.state ≡ tried_of q s d alpha → y.sum ≡ penalized_rss q y.state
          → result_of q s r t (lengths q s b old win (n - j) next d l alpha)
          ≡ result_of q s r (t + 1) (cond (lt y.sum old) (win y.state (lowered l) (step_of alpha d)) (lengths q s b old win (n - (j + 1)) next d l (mul alpha half)))
      unfolding lengths
      lengths_go n j alpha y h e f =
          let m : n - j ≡ suc (n - (j + 1)) = omega arith in
          let w : Float → Trace = λ x. cond (lt x old) (win y.state (lowered l) (step_of alpha d)) (lengths q s b old win (n - (j + 1)) next d l (mul alpha half)) in
          rw (m, ← e) (after_trial s r t y.state (penalized_rss q y.state) (w (penalized_rss q y.state)) ∙ ap (λ x. result_of q s r (t + 1) (w x)) (sym f))

      pub lengths_win : (n j : ℕ) (alpha : Float) (y : Evaluated) → j < n → y.state ≡ tried_of q s d alpha → y.sum ≡ penalized_rss q y.state → lt y.sum old ≡ true
          → result_of q s r t (lengths q s b old win (n - j) next d l alpha) ≡ result_of q s r (t + 1) (win y.state (lowered l) (step_of alpha d))
      lengths_win n j alpha y h e f c = lengths_go n j alpha y h e f ∙ rw c refl

      pub lengths_lose : (n j : ℕ) (alpha : Float) (y : Evaluated) → j < n → y.state ≡ tried_of q s d alpha → y.sum ≡ penalized_rss q y.state → lt y.sum old ≡ false
          → result_of q s r t (lengths q s b old win (n - j) next d l alpha) ≡ result_of q s r (t + 1) (lengths q s b old win (n - (j + 1)) next d l (mul alpha half))
      lengths_lose n j alpha y h e f c = lengths_go n j alpha y h e f ∙ rw c refl
