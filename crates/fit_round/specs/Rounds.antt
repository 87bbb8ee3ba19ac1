-- What the functions of one round, src/lib.rt, promise.
use Rattle.std.specs.Prelude.{ℕ, ◌+◌, ◌≡◌, true, false, List, Float}
use Rattle.curves.specs.declared.Mean.{Mean}
use Rattle.block_solve.specs.declared.normal.BlockNormal.{BlockNormal}
use Rattle.fit_refusals.specs.Problem.{Problem}
use Rattle.fit_step.specs.declared.State.{State}
use Rattle.fit_penalized.specs.Penalized.{rss_of, penalized_rss, Means}
use Rattle.fit_round.specs.declared.End.{End}
use Rattle.fit_round.specs.declared.End.TheVariants.{Won, Converged, Lost}
use Rattle.fit_round.specs.declared.Evaluated.{Evaluated}
use Rattle.fit_round.specs.declared.Outcome.{Outcome}
use Rattle.fit_round.specs.Round.{Trace, ended, attempts}
use Rattle.fit_round.specs.Steps.{result_of}

-- what follows on the end of a round: nothing, or on a winner what `win` goes on with
abbrev pub trace_after : (State → Float → Float → Trace) → End → Trace
trace_after win (Won w) = win w.at.state w.lambda w.step
trace_after win Converged = ended true
trace_after win Lost = ended false

module _ (q : Problem) where
  -- a state with its rss and its penalised sum
  abbrev pub evaluated_of : State → Evaluated
  evaluated_of s = record { state = s; rss = rss_of q s; sum = penalized_rss q s }

  -- a round from the state x with the blocks n and lambda comes to o, whatever went before and whatever follows on a win
  abbrev pub ComesTo : Evaluated → BlockNormal → Float → Outcome → Type 0
  ComesTo x n lambda o =
      (win : State → Float → Float → Trace) (r t : ℕ)
      → result_of q x.state r t (attempts q x.state n x.sum win 12 lambda) ≡ result_of q x.state r (t + o.trials) (trace_after win o.end)

  -- a winner comes with its sums, and with its curves in means
  abbrev pub Kept : List Mean → End → Type 0
  Kept means (Won w) = (w.at ≡ evaluated_of w.at.state) × Means q w.at.state means
  Kept means Converged = Unit {0}
  Kept means Lost = Unit {0}
