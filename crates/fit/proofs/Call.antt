-- What a call answers and leaves in its lists, refused or not. Assumes nothing.
use mathlib.Core.Path.{◌≡◌, refl, ap, ◌∙◌}
use mathlib.Core.Bool.{false}
use mathlib.Core.List.{List}
use Prim.Native.Nat.{ℕ, ◌*◌}
use borrow.Author.Tests.{ne_eqb}
use native.Mathlib.Omega.{arith}
use lib.Dec.{eqb}
use lib.Ieee.{Float}
use lib.ListN.{length, take}
use Rattle.std.specs.Prelude.{Ok, Err}
use Rattle.refusal.specs.declared.Refusal.{Refusal}
use Rattle.refusal.specs.Refusal.{number_of}
use Rattle.fit_refusals.specs.Problem.{Problem, p, k}
use Rattle.fit_refusals.specs.Faults.{refusal_of}
use Rattle.fit_refusals.specs.laws.Codes.{numbered}
use Rattle.fit_round.specs.Steps.{Ending}
use Rattle.fit.specs.declared.Fitted.{Fitted}
use Rattle.fit.specs.declared.run.Ended.{Ended}
use Rattle.fit.specs.Fit.{fit_answer, fit_of}
use Rattle.fit.specs.Steps.{ending_of, fit_run}
use Rattle.fit.specs.laws.Steps.{answered, answer_is}
use Rattle.fit.specs.Answer.{done_with, told, call_of}

module _ (q : Problem) (allowed : ℕ) where
  pub checked_done : (x : Ended) (v b : List Float) → ending_of x ≡ fit_run q allowed → v ≡ take (p q) x.state.values → b ≡ take (q.group_count * k q) x.state.effects
      → told (Ok (record { rss = x.rss; converged = x.converged; rounds = x.rounds; trials = x.trials })) v b ≡ done_with (fit_answer q (fit_of q allowed))
  unfolding told
  checked_done x v b e f g = rw (f, g) (ap (λ (y : Ending). done_with (answered q y)) e ∙ ap done_with (answer_is q allowed))

  module _ (values effects : List Float) where
    pub call_refused : (e : Refusal) → number_of e ≡ refusal_of q (length values) (length effects) allowed → told (Err e) values effects ≡ call_of q allowed values effects
    unfolding told call_of
    call_refused e h = let m : eqb (number_of e) 0 ≡ false = ne_eqb _ 0 (λ (z : number_of e ≡ 0). omega (arith, numbered e)) in rw (← h, m) refl

    pub call_done : (f : Fitted) (v b : List Float) → 0 ≡ refusal_of q (length values) (length effects) allowed
        → told (Ok f) v b ≡ done_with (fit_answer q (fit_of q allowed)) → told (Ok f) v b ≡ call_of q allowed values effects
    unfolding call_of
    call_done f v b h e = e ∙ rw (← h) refl
