-- What a caller in C finds: the number that is returned, and what stands behind the pointers afterwards.
use Rattle.std.specs.Prelude.{ℕ, Bool, cond, Option, Some, None, List, [], ◌∷◌, Float}
use Rattle.fit.specs.declared.Fitted.{Fitted}
use Rattle.fit.specs.Answer.{Told}
use Rattle.golden.specs.declared.Found.{Found}
use Rattle.golden.specs.Search as Search
use Rattle.criterion.specs.declared.profile.Profile.{Profile}
use Rattle.criterion.specs.Answer as Criterion

-- the floats of an answer, or those that stood there before, where the answer is a refusal, which has none
abbrev pub or_kept : List Float → List Float → List Float
or_kept [] kept = kept
or_kept (x ∷ l) kept = x ∷ l

-- an operation's number and floats, where `kept` stood behind the pointers before
unfoldable pub handed : ℕ × List Float → List Float → ℕ × List Float
handed answer kept = (answer.0, or_kept answer.1 kept)

-- a flag as a number
abbrev pub flag_of : Bool → ℕ
flag_of b = cond b 1 0

-- what a fit leaves: the number, the two lists, and the rss, whether it converged, the rounds begun and the trials behind the pointers
pub record FitLeft : Type 0 where
  pub number : ℕ
  pub values : List Float
  pub effects : List Float
  pub rss : Float
  pub converged : ℕ
  pub rounds : ℕ
  pub trials : ℕ

-- a refusal has no rss and no counts, and keeps what stood there before
abbrev pub fitted_or : Option Fitted → ℕ → List Float → List Float → Float → ℕ → ℕ → ℕ → FitLeft
fitted_or None n values effects rss converged rounds trials =
    record { number = n; values = values; effects = effects; rss = rss; converged = converged; rounds = rounds; trials = trials }
fitted_or (Some f) n values effects rss converged rounds trials =
    record { number = n; values = values; effects = effects; rss = f.rss; converged = flag_of f.converged; rounds = f.rounds; trials = f.trials }

unfoldable pub fit_left : Told → Float → ℕ → ℕ → ℕ → FitLeft
fit_left t rss converged rounds trials = fitted_or t.fitted t.number t.values t.effects rss converged rounds trials

-- what a criterion leaves: the number, the two lists, and the criterion and sigma2 behind the pointers
pub record CriterionLeft : Type 0 where
  pub number : ℕ
  pub values : List Float
  pub effects : List Float
  pub criterion : Float
  pub sigma2 : Float

abbrev pub profile_or : Option Profile → ℕ → List Float → List Float → Float → Float → CriterionLeft
profile_or None n values effects criterion sigma2 = record { number = n; values = values; effects = effects; criterion = criterion; sigma2 = sigma2 }
profile_or (Some p) n values effects criterion sigma2 = record { number = n; values = values; effects = effects; criterion = p.criterion; sigma2 = p.sigma2 }

unfoldable pub criterion_left : Criterion.Told → Float → Float → CriterionLeft
criterion_left t criterion sigma2 = profile_or t.profile t.number t.values t.effects criterion sigma2

-- what a search leaves: the number, and theta, the criterion there, the narrowings, whether it converged and the fits behind the pointers
pub record SearchLeft : Type 0 where
  pub number : ℕ
  pub theta : Float
  pub criterion : Float
  pub narrowings : ℕ
  pub converged : ℕ
  pub fits : ℕ

abbrev pub found_or : Option Found → ℕ → Float → Float → ℕ → ℕ → ℕ → SearchLeft
found_or None n theta criterion narrowings converged fits =
    record { number = n; theta = theta; criterion = criterion; narrowings = narrowings; converged = converged; fits = fits }
found_or (Some f) n theta criterion narrowings converged fits =
    record { number = n; theta = f.theta; criterion = f.criterion; narrowings = f.narrowings; converged = flag_of f.converged; fits = f.fits }

unfoldable pub search_left : Search.Told → Float → Float → ℕ → ℕ → ℕ → SearchLeft
search_left t theta criterion narrowings converged fits = found_or t.found t.number theta criterion narrowings converged fits
