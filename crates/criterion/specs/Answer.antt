-- The public operation: document 01's number, the criterion and sigma2, and both lists as the call leaves them, for every input.
use Rattle.std.specs.Prelude.{ℕ, Bool, cond, Option, Some, None, Result, Ok, Err, List, eqb, Float, length}
use Rattle.refusal.specs.declared.Refusal.{Refusal}
use Rattle.refusal.specs.Refusal.{number_of}
use Rattle.curves.specs.MeanFn.{four_of}
use Rattle.fit_refusals.specs.Problem.{Problem}
use Rattle.fit_refusals.specs.Faults.{refusal_of}
use Rattle.fit.specs.Fit as Fit
use Rattle.criterion.specs.declared.profile.Profile.{Profile}
use Rattle.criterion.specs.Profile.{profile_from}

-- a call's number, 0 where it is not refused; then the criterion and sigma2; and the two lent lists as they are left
pub record Told : Type 0 where
  pub number : ℕ
  pub profile : Option Profile
  pub values : List Float
  pub effects : List Float

-- a refusal has its number alone, and the lists that it was lent
abbrev pub refused_with : ℕ → List Float → List Float → Told
refused_with n values effects = record { number = n; profile = None; values = values; effects = effects }

-- the criterion, and the lists as the fit writes them
abbrev pub done_with : Profile → List Float → List Float → Told
done_with p values effects = record { number = 0; profile = Some p; values = values; effects = effects }

-- an answer, and the lists as they are left
abbrev pub told : Result Profile Refusal → List Float → List Float → Told
told (Err e) values effects = refused_with (number_of e) values effects
told (Ok p) values effects = done_with p values effects

-- at what the fit answers
abbrev pub profile_at : Problem → Bool → ℕ → Fit.Answer → Profile
profile_at q reml nAgq a =
    profile_from q (four_of a.values) a.effects reml nAgq a.rss

-- the criterion and sigma2 of a problem, with so many rounds allowed
unfoldable pub profile_of : Problem → ℕ → Bool → ℕ → Profile
profile_of q allowed reml nAgq = profile_at q reml nAgq (Fit.fit_answer q (Fit.fit_of q allowed))

-- it refuses as the fit does, and writes as the fit does
unfoldable pub call_of : Problem → ℕ → Bool → ℕ → List Float → List Float → Told
call_of q allowed reml nAgq values effects =
    let n = refusal_of q (length values) (length effects) allowed in
    let a = Fit.fit_answer q (Fit.fit_of q allowed) in
    cond (eqb n 0) (done_with (profile_of q allowed reml nAgq) a.values a.effects) (refused_with n values effects)
