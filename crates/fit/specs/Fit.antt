-- The fit at one theta (`inner_gauss_newton_status`), as a trace: round after round from the start on. One round, its attempts and lengths, and what a trace is stand in
-- specs/Round.antt of crate fit_round.
use Rattle.std.specs.Prelude.{ℕ, zero, suc, ◌+◌, ◌*◌, Bool, true, false, cond, List, ◌∷◌, Float, length, take}
use Rattle.std.specs.Float.Ieee.{lt}
use Rattle.fit_refusals.specs.Problem.{Problem, p, k}
use Rattle.fit_step.specs.declared.State.{State}
use Rattle.fit_step.specs.Trial.{start_state, first_lambda}
use Rattle.fit_penalized.specs.Penalized.{rss_of, penalized_rss}
use Rattle.fit_penalized.specs.Normal.{normal_blocks}
use Rattle.fit_round.specs.Round.{1e-10, Trial, Trace, ended, last_accepted, attempts}

-- first a win, or the beginning of a round; then t
abbrev pub won : State → Trace → Trace
won z t = record { accepted = z ∷ t.accepted; trials = t.trials; rounds = t.rounds; converged = t.converged }

abbrev pub begun : Trace → Trace
begun t = record { accepted = t.accepted; trials = t.trials; rounds = t.rounds + 1; converged = t.converged }

module _ (q : Problem) where
  -- the rounds left; a round without a winner is the last, and a step below 1e-10 ends the fit too
  unfoldable pub rounds : ℕ → State → Float → Trace
  rounds zero s lambda = ended false
  rounds (suc m) s lambda =
      begun
      (attempts q s (normal_blocks q s) (penalized_rss q s)
      (λ z l step.
      let t = rounds m z l in
      won z (cond (lt step 1e-10) (ended true) t))
      12 lambda)

  unfoldable pub trace_of : ℕ → Trace
  trace_of allowed = rounds allowed (start_state q) (first_lambda q)

-- a whole fit: the list of demand 3, the trials, and what is returned
pub record Fit : Type 0 where
  pub states : List State
  pub trials : List Trial
  pub rounds : ℕ
  pub converged : Bool
  pub state : State
  pub rss : Float

abbrev pub whole_of : Problem → State → Trace → Fit
whole_of q s t =
    record {
      states = s ∷ t.accepted;
      trials = t.trials;
      rounds = t.rounds;
      converged = t.converged;
      state = last_accepted s t.accepted;
      rss = rss_of q (last_accepted s t.accepted);
    }

unfoldable pub fit_of : Problem → ℕ → Fit
fit_of q allowed = whole_of q (start_state q) (trace_of q allowed)

-- what a fit answers: the last state's p values and groups times k effects, which it writes, and the numbers
pub record Answer : Type 0 where
  pub values : List Float
  pub effects : List Float
  pub rss : Float
  pub converged : Bool
  pub rounds : ℕ
  pub trials : ℕ

abbrev pub fit_answer : Problem → Fit → Answer
fit_answer q f =
    record {
      values = take (p q) f.state.values;
      effects = take (q.group_count * k q) f.state.effects;
      rss = f.rss;
      converged = f.converged;
      rounds = f.rounds;
      trials = length f.trials;
    }
