-- What one round does to what is left of the definition. Assumes nothing.
use mathlib.Core.Path.{◌≡◌, sym, ap, ◌∙◌}
use mathlib.Core.Bool.{Bool, true, false}
use Prim.Native.Nat.{ℕ, ◌+◌, ◌-◌, ◌<◌}
use native.Mathlib.Omega.{arith}
use lib.Ieee.{Float, lt}
use Rattle.block_solve.specs.declared.normal.BlockNormal.{BlockNormal}
use Rattle.fit_refusals.specs.Problem.{Problem}
use Rattle.fit_step.specs.declared.State.{State}
use Rattle.fit_step.specs.Trial.{start_state, first_lambda}
use Rattle.fit_penalized.specs.Normal.{normal_blocks}
use Rattle.fit_round.specs.declared.End.TheVariants.{Won, Converged, Lost}
use Rattle.fit_round.specs.declared.Evaluated.{Evaluated}
use Rattle.fit_round.specs.declared.Winner.{Winner}
use Rattle.fit_round.specs.declared.Outcome.{Outcome}
use Rattle.fit_round.specs.Round.{1e-10}
use Rattle.fit_round.specs.Steps.{Ending, result_of, stopped}
use Rattle.fit_round.specs.Rounds.{trace_after, evaluated_of, ComesTo}
use Rattle.fit_round.specs.laws.Steps.{at_end}
use Rattle.fit.specs.Fit.{rounds}
use Rattle.fit.specs.Steps.{ending_of, ended_with, fit_run}
use Rattle.fit.specs.laws.Steps.{winner, rounds_go, won_near, won_on}

module _ (q : Problem) (allowed : ℕ) where
  pub run_begins : (s : State) (l : Float) → s ≡ start_state q → l ≡ first_lambda q → result_of q s 0 0 (rounds q (allowed - 0) s l) ≡ fit_run q allowed
  unfolding fit_run
  run_begins s l e f = let n : allowed - 0 ≡ allowed = omega arith in rw (e, f, n)

  pub ends_as : (x : Evaluated) (c : Bool) (r t : ℕ) → x ≡ evaluated_of q x.state → ending_of (ended_with x c r t) ≡ stopped q x.state c r t
  ends_as x c r t e = ap (λ (z : Evaluated). ending_of (ended_with z c r t)) e

  -- round i + 1 of those allowed, from x, comes to o; W is what the whole run ends in
  module _ (i : ℕ) (x : Evaluated) (n : BlockNormal) (l : Float) (t : ℕ) (o : Outcome) (W : Ending) (h : i < allowed) (blocks : n ≡ normal_blocks q x.state)
      (sums : x ≡ evaluated_of q x.state) (came : ComesTo q x n l o) (whole : result_of q x.state i t (rounds q (allowed - i) x.state l) ≡ W) where
    goes : result_of q x.state (i + 1) (t + o.trials) (trace_after (winner q (allowed - (i + 1))) o.end) ≡ W
    goes =
        let f = ap (λ (z : Evaluated). z.sum) sums in
        let begins = rounds_go q allowed i x.state l i t h in
        sym (came (winner q (allowed - (i + 1))) (i + 1) t) ∙ rw (blocks, f) (sym begins ∙ whole)

    pub round_lost : o.end ≡ Lost → ending_of (ended_with x false (i + 1) (t + o.trials)) ≡ W
    round_lost e = ends_as x false (i + 1) (t + o.trials) sums ∙ sym (at_end q x.state (i + 1) (t + o.trials) false) ∙ rw e at goes

    pub round_converged : o.end ≡ Converged → ending_of (ended_with x true (i + 1) (t + o.trials)) ≡ W
    round_converged e = ends_as x true (i + 1) (t + o.trials) sums ∙ sym (at_end q x.state (i + 1) (t + o.trials) true) ∙ rw e at goes

    module _ (w : Winner) (e : o.end ≡ Won w) where
      pub round_near : w.at ≡ evaluated_of q w.at.state → lt w.step 1e-10 ≡ true → ending_of (ended_with w.at true (i + 1) (t + o.trials)) ≡ W
      round_near f c =
          ends_as w.at true (i + 1) (t + o.trials) f
          ∙ sym (won_near q (allowed - (i + 1)) x.state w.at.state w.lambda w.step (i + 1) (t + o.trials) c)
          ∙ rw e at goes

      pub round_on : lt w.step 1e-10 ≡ false → result_of q w.at.state (i + 1) (t + o.trials) (rounds q (allowed - (i + 1)) w.at.state w.lambda) ≡ W
      round_on c = sym (won_on q (allowed - (i + 1)) x.state w.at.state w.lambda w.step (i + 1) (t + o.trials) c) ∙ rw e at goes
