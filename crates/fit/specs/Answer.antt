-- The public operation: document 01's number, the floats and counts, and both lists as the call leaves them, for every input.
use Rattle.std.specs.Prelude.{ℕ, cond, Option, Some, None, Result, Ok, Err, List, eqb, Float, length}
use Rattle.refusal.specs.declared.Refusal.{Refusal}
use Rattle.refusal.specs.Refusal.{number_of}
use Rattle.fit_refusals.specs.Problem.{Problem}
use Rattle.fit_refusals.specs.Faults.{refusal_of}
use Rattle.fit.specs.declared.Fitted.{Fitted}
use Rattle.fit.specs.Fit as Fit

-- a call's number, 0 where it is not refused; then the rss, whether it converged, the rounds begun and the trials; and the two lent lists as they are left
pub record Told : Type 0 where
  pub number : ℕ
  pub fitted : Option Fitted
  pub values : List Float
  pub effects : List Float

-- a refusal has its number alone, and the lists that it was lent
abbrev pub refused_with : ℕ → List Float → List Float → Told
refused_with n values effects = record { number = n; fitted = None; values = values; effects = effects }

-- an answer, and the lists as they are left
unfoldable pub told : Result Fitted Refusal → List Float → List Float → Told
told (Err e) values effects = refused_with (number_of e) values effects
told (Ok f) values effects = record { number = 0; fitted = Some f; values = values; effects = effects }

-- a fit writes the last state's p values and groups times k effects
abbrev pub done_with : Fit.Answer → Told
done_with a =
    record {
      number = 0;
      fitted = Some (record { rss = a.rss; converged = a.converged; rounds = a.rounds; trials = a.trials });
      values = a.values;
      effects = a.effects;
    }

unfoldable pub call_of : Problem → ℕ → List Float → List Float → Told
call_of q allowed values effects =
    let n = refusal_of q (length values) (length effects) allowed in
    cond (eqb n 0) (done_with (Fit.fit_answer q (Fit.fit_of q allowed))) (refused_with n values effects)
