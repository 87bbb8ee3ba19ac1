-- What a run ends in, from the state s with the rounds r begun and the trials t made so far: what a round promises speaks of it.
use Rattle.std.specs.Prelude.{Bool, ℕ, ◌+◌, length, Float}
use Rattle.fit_refusals.specs.Problem.{Problem}
use Rattle.fit_step.specs.declared.State.{State}
use Rattle.fit_penalized.specs.Penalized.{rss_of}
use Rattle.fit_round.specs.Round.{Trace, last_accepted}

pub record Ending : Type 0 where
  pub state : State
  pub rss : Float
  pub converged : Bool
  pub rounds : ℕ
  pub trials : ℕ

module _ (q : Problem) where
  abbrev pub stopped : State → Bool → ℕ → ℕ → Ending
  stopped s c r t = record { state = s; rss = rss_of q s; converged = c; rounds = r; trials = t }

  abbrev pub result_of : State → ℕ → ℕ → Trace → Ending
  result_of s r t x = stopped (last_accepted s x.accepted) x.converged (r + x.rounds) (t + length x.trials)
