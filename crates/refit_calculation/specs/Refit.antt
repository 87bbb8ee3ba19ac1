-- The refit of readings: the start values, the search over theta, then the fit and the criterion at the theta found.
-- Each step that is refused ends the refit with the library's own refusal; the lists are then as that step left them.
use Rattle.std.specs.Prelude.{ℕ, ◌-◌, Bool, false, cond, ◌&&◌, List, [], ◌∷◌, eqb, ltb, Float, Option, Some, None, Result, Ok, Err, length, get_or, set, replicate}
use Rattle.std.specs.Float.{nan, inf}
use Rattle.std.specs.Float.Ieee.{lt, neg}
use Rattle.math.specs.Basic.{zero}
use Rattle.math.specs.Ln.{ln_of}
use Rattle.refusal.specs.declared.Refusal.{Refusal}
use Rattle.refusal.specs.declared.Refusal.TheVariants.{Code, Readings, Groups, Group, Effects, Lengths, Numbers, Bounds, Outputs, Limits}
use Rattle.curves.specs.MeanFn.{n_params_of}
use Rattle.fit_refusals.specs.Problem.{Problem, problem_of, at_theta}
use Rattle.self_start.specs.Start as Start
use Rattle.fit.specs.declared.Fitted.{Fitted}
use Rattle.fit.specs.Answer as Fit
use Rattle.criterion.specs.declared.profile.Profile.{Profile}
use Rattle.criterion.specs.Answer as Criterion
use Rattle.golden.specs.declared.Found.{Found}
use Rattle.golden.specs.Search as Search
use Rattle.refit_calculation.specs.declared.Answer.{Answer}
use Rattle.refit_calculation.specs.declared.Refused.{Refused}
use Rattle.refit_calculation.specs.declared.Step.{Step}
use Rattle.refit_calculation.specs.declared.Request.{Request}

-- the rounds that a fit and the narrowings that the search are allowed
abbrev pub rounds_allowed : ℕ
rounds_allowed = 200

abbrev pub narrowings_allowed : ℕ
narrowings_allowed = 60

-- what is asked: a curve's code, the readings, the places of the effects, the criterion's kind and its order
pub record RequestLists : Type 0 where
  pub code : ℕ
  pub doses : List Float
  pub grams : List Float
  pub groups : List ℕ
  pub places : List ℕ
  pub reml : Bool
  pub n_agq : ℕ

abbrev pub request_of : ℕ → List Float → List Float → List ℕ → List ℕ → Bool → ℕ → RequestLists
request_of code doses grams groups places reml n_agq =
    record { code = code; doses = doses; grams = grams; groups = groups; places = places; reml = reml; n_agq = n_agq }

abbrev pub request_lists : Request → RequestLists
request_lists r = request_of r.code r.doses.now r.grams.now r.groups.now r.places.now r.reml r.n_agq

-- what is answered, and the three lent lists as they are left: start values, curve values, effects
pub record Refitted : Type 0 where
  pub answer : Result Answer Refused
  pub starts : List Float
  pub values : List Float
  pub effects : List Float

-- the refusals by their numbers, 1 to 10
abbrev pub refusal_at : ℕ → Refusal
refusal_at n = get_or (Code ∷ Readings ∷ Groups ∷ Group ∷ Effects ∷ Lengths ∷ Numbers ∷ Bounds ∷ Outputs ∷ Limits ∷ []) (n - 1) Limits

-- a step is refused by a number; whether the self-start's third value had been adjusted is told too
abbrev pub refused_at : Step → ℕ → Bool → List Float → List Float → List Float → Refitted
refused_at step number adjusted starts values b =
    record { answer = Err (record { step = step; refusal = refusal_at number; adjusted = adjusted }); starts = starts; values = values; effects = b }

-- ---- the criterion at theta, after the fit there: it begins at the start values too, and writes the same lists

abbrev pub criterion_or : Option Profile → Criterion.Told → List Float → Bool → Found → Fitted → Refitted
criterion_or None t starts adjusted s f = refused_at Step.Fit t.number adjusted starts t.values t.effects
criterion_or (Some c) t starts adjusted s f =
    record { answer = Ok (record { adjusted = adjusted; search = s; fit = f; sigma2 = c.sigma2 }); starts = starts; values = t.values; effects = t.effects }

unfoldable pub with_criterion : Problem → Bool → ℕ → Bool → Found → Fitted → List Float → List Float → Refitted
with_criterion q reml nAgq adjusted s f values b =
    let t = Criterion.call_of (at_theta q s.theta) rounds_allowed reml nAgq values b in
    criterion_or t.profile t q.starts adjusted s f

-- ---- the fit at theta

abbrev pub fit_or : Option Fitted → Fit.Told → Problem → Bool → ℕ → Bool → Found → Refitted
fit_or None t q reml nAgq adjusted s = refused_at Step.Fit t.number adjusted q.starts t.values t.effects
fit_or (Some f) t q reml nAgq adjusted s = with_criterion q reml nAgq adjusted s f t.values t.effects

unfoldable pub with_fit : Problem → Bool → ℕ → Bool → Found → List Float → List Float → Refitted
with_fit q reml nAgq adjusted s values b =
    let t = Fit.call_of (at_theta q s.theta) rounds_allowed values b in
    fit_or t.fitted t q reml nAgq adjusted s

-- ---- the search, which writes no list

abbrev pub search_or : Option Found → ℕ → Problem → Bool → ℕ → Bool → List Float → List Float → Refitted
search_or None n q reml nAgq adjusted values b = refused_at Step.Search n adjusted q.starts values b
search_or (Some s) n q reml nAgq adjusted values b = with_fit q reml nAgq adjusted s values b

unfoldable pub with_search : Problem → Bool → ℕ → Bool → List Float → List Float → Refitted
with_search q reml nAgq adjusted values b =
    let t = Search.call_of q rounds_allowed reml nAgq narrowings_allowed in
    search_or t.found t.number q reml nAgq adjusted values b

-- ---- the start values

-- curve 1's scal is negative, or curve 2's lrc, the rate ln 2 / xmid, positive
unfoldable pub is_adjusted : ℕ → List Float → Bool
is_adjusted code starts =
    let x = get_or starts 2 nan in
    ltb 2 (length starts) && cond (eqb code 1) (lt x zero) (eqb code 2 && lt zero x)

-- then scal's sign is turned, and lrc is the rate's logarithm
unfoldable pub adjusted_of : ℕ → List Float → List Float
adjusted_of code starts =
    let x = get_or starts 2 nan in
    cond (is_adjusted code starts) (set starts 2 (cond (eqb code 1) (neg x) (ln_of x))) starts

-- there are no bounds: every lower bound is minus infinity, every upper one infinity
abbrev pub unbounded : ℕ → List Float → List Float → List ℕ → ℕ → List ℕ → List Float → Problem
unbounded code doses grams groups group_count places starts =
    let lower = replicate (n_params_of code) (neg (inf false)) in
    let upper = replicate (n_params_of code) (inf false) in
    problem_of code doses grams groups group_count places starts lower upper lower upper []

-- a canister for each effect that is to be written
unfoldable pub with_starts : RequestLists → Bool → List Float → List Float → List Float → Refitted
with_starts r adjusted starts values b =
    with_search (unbounded r.code r.doses r.grams r.groups (length b) r.places starts) r.reml r.n_agq adjusted values b

-- ---- all of it: from given start values, which are taken as they are, or from the self-start's, which leaves the list as it was where it is refused

unfoldable pub self_started : RequestLists → List Float → List Float → List Float → Refitted
self_started r starts values b =
    let t = Start.call_of r.code r.doses r.grams starts in
    cond (eqb t.number 0) (with_starts r (is_adjusted r.code t.values) (adjusted_of r.code t.values) values b)
    (refused_at Step.Start t.number false t.values values b)

unfoldable pub refit_of : RequestLists → Bool → List Float → List Float → List Float → Refitted
refit_of r given starts values b = cond given (with_starts r false starts values b) (self_started r starts values b)
