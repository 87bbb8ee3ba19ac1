-- What the loop over rounds ends in.
use Rattle.std.specs.Prelude.{Bool, ℕ}
use Rattle.fit_refusals.specs.Problem.{Problem}
use Rattle.fit_step.specs.Trial.{start_state, first_lambda}
use Rattle.fit_round.specs.declared.Evaluated.{Evaluated}
use Rattle.fit_round.specs.Steps.{Ending, result_of}
use Rattle.fit.specs.Fit.{rounds}
use Rattle.fit.specs.declared.run.Ended.{Ended}

-- the rss that is answered was worked out with the state
abbrev pub ended_with : Evaluated → Bool → ℕ → ℕ → Ended
ended_with x converged rounds trials = record { state = x.state; rss = x.rss; converged = converged; rounds = rounds; trials = trials }

-- what the code ends in, as the definitions have it
abbrev pub ending_of : Ended → Ending
ending_of x = record { state = x.state; rss = x.rss; converged = x.converged; rounds = x.rounds; trials = x.trials }

module _ (q : Problem) where
  -- ---- the whole: what the run ends in is the answer

  unfoldable pub fit_run : ℕ → Ending
  fit_run n = result_of q (start_state q) 0 0 (rounds q n (start_state q) (first_lambda q))
