-- The fit's rounds, a step at a time, for the loop of the code to go by. Its invariant: `result_of s r t (rounds q (n - r) s lambda)` is what the whole run ends in.
-- The steps of one round stand in crate fit_round.
use Rattle.std.specs.Prelude.{◌≡◌, refl, true, false, cond, Float}
use Prim.Native.Nat.{ℕ, suc, ◌+◌, ◌-◌, ◌*◌, ◌≤◌, ◌<◌}
use native.Mathlib.Omega.{arith}
use Rattle.std.specs.Float.Ieee.{lt}
use Rattle.std.proofs.Math.ListN.{length, take}
use Rattle.fit_refusals.specs.Problem.{Problem, p, k}
use Rattle.fit_step.specs.declared.State.{State}
use Rattle.fit_step.specs.Trial.{start_state, first_lambda}
use Rattle.fit_penalized.specs.Penalized.{rss_of, penalized_rss}
use Rattle.fit_penalized.specs.Normal.{normal_blocks}
use Rattle.fit_round.specs.Round.{1e-10, Trace, ended, last_accepted, attempts}
use Rattle.fit_round.specs.Steps.{Ending, stopped, result_of}
use Rattle.fit_round.specs.laws.Steps.{at_end}
use Rattle.fit.specs.Fit.{won, begun, rounds, trace_of, fit_of, Answer, fit_answer}
use Rattle.fit.specs.Steps.{fit_run}

module _ (q : Problem) where
  pub after_begun : (s : State) (r t : ℕ) (x : Trace) → result_of q s r t (begun x) ≡ result_of q s (r + 1) t x
  after_begun s r t x =
      let n = x.rounds in
      let e : r + (n + 1) ≡ r + 1 + n = omega arith in
      λ i. stopped q (last_accepted s x.accepted) x.converged (e i) (t + length x.trials)

  -- what follows on a winner z, with m rounds left: the end, or the next round
  abbrev pub winner : ℕ → State → Float → Float → Trace
  winner m z l step = won z (cond (lt step 1e-10) (ended true) (rounds q m z l))

  -- ---- rounds: i of n have begun

  pub rounds_done : (n i : ℕ) (s : State) (l : Float) (r t : ℕ) → n ≤ i → result_of q s r t (rounds q (n - i) s l) ≡ stopped q s false r t
  unfolding rounds
  rounds_done n i s l r t h = let e : n - i ≡ 0 = omega arith in rw e (at_end q s r t false)

  pub rounds_go : (n i : ℕ) (s : State) (l : Float) (r t : ℕ) → i < n
      → result_of q s r t (rounds q (n - i) s l) ≡ result_of q s (r + 1) t (attempts q s (normal_blocks q s) (penalized_rss q s) (winner (n - (i + 1))) 12 l)
  unfolding rounds
  rounds_go n i s l r t h =
      let e : n - i ≡ suc (n - (i + 1)) = omega arith in
      rw e (after_begun s r t (attempts q s (normal_blocks q s) (penalized_rss q s) (winner (n - (i + 1))) 12 l))

  -- ---- after a win: the fit goes on from z

  pub won_near : (m : ℕ) (s z : State) (l step : Float) (r t : ℕ) → lt step 1e-10 ≡ true → result_of q s r t (winner m z l step) ≡ stopped q z true r t
  won_near m s z l step r t c = rw c (at_end q z r t true)

  pub won_on : (m : ℕ) (s z : State) (l step : Float) (r t : ℕ) → lt step 1e-10 ≡ false → result_of q s r t (winner m z l step) ≡ result_of q z r t (rounds q m z l)
  won_on m s z l step r t c = rw c refl

  -- ---- the whole: what the run ends in is the answer

  abbrev pub answered : Ending → Answer
  answered x =
      record {
        values = take (p q) x.state.values;
        effects = take (q.group_count * k q) x.state.effects;
        rss = x.rss;
        converged = x.converged;
        rounds = x.rounds;
        trials = x.trials;
      }

  pub answer_is : (n : ℕ) → answered (fit_run q n) ≡ fit_answer q (fit_of q n)
  unfolding fit_run fit_of trace_of
  answer_is n =
      let x = rounds q n (start_state q) (first_lambda q) in
      let a : 0 + x.rounds ≡ x.rounds = omega arith in
      let b : 0 + length x.trials ≡ length x.trials = omega arith in
      let s = last_accepted (start_state q) x.accepted in
      λ i. record { values = take (p q) s.values; effects = take (q.group_count * k q) s.effects; rss = rss_of q s; converged = x.converged; rounds = a i; trials = b i }
