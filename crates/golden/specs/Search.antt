-- The search over theta: the public operation.
use Rattle.std.specs.Prelude.{ℕ, ◌*◌, ◌≡◌, Bool, true, cond, List, eqb, Float, Option, Some, None, Result, Ok, Err}
use Rattle.math.specs.Basic.{is_finite}
use Rattle.refusal.specs.declared.Refusal.{Refusal}
use Rattle.refusal.specs.Refusal.{number_of}
use Rattle.fit_refusals.specs.Problem.{Problem, p, k, at_theta}
use Rattle.fit_refusals.specs.Faults.{search_refusal_of}
use Rattle.fit_refusals.specs.Valid.{ValidFit}
use Rattle.criterion.specs.Answer.{profile_of}
use Rattle.golden.specs.declared.Found.{Found}
use Rattle.golden.specs.Golden.{golden_by, answers_by}

-- the criterion at theta t, from the given start
unfoldable pub criterion_at : Problem → ℕ → Bool → ℕ → Float → Float
criterion_at q rounds reml nAgq t = (profile_of (at_theta q t) rounds reml nAgq).criterion

-- each fit is a criterion worked out at the theta that is asked
abbrev pub asks : Problem → ℕ → Bool → ℕ → ℕ → Float → Float
asks q rounds reml nAgq i t = criterion_at q rounds reml nAgq t

unfoldable pub search_of : Problem → ℕ → Bool → ℕ → ℕ → Found
search_of q rounds reml nAgq allowed = golden_by (asks q rounds reml nAgq) allowed

-- its answers, in the order of the fits
unfoldable pub answers_of : Problem → ℕ → Bool → ℕ → ℕ → List Float
answers_of q rounds reml nAgq allowed = answers_by (asks q rounds reml nAgq) allowed

-- at each finite theta the problem is one that a fit takes, given room for its lists
abbrev pub AlwaysFits : Problem → ℕ → Type 0
AlwaysFits q rounds = (t : Float) → is_finite t ≡ true → ValidFit (at_theta q t) (p q) (q.group_count * k q) rounds

-- a call's number, 0 where it is not refused; then what it answers
pub record Told : Type 0 where
  pub number : ℕ
  pub found : Option Found

abbrev pub told : Result Found Refusal → Told
told (Err e) = record { number = number_of e; found = None }
told (Ok f) = record { number = 0; found = Some f }

abbrev pub call_of : Problem → ℕ → Bool → ℕ → ℕ → Told
call_of q rounds reml nAgq allowed =
    let n = search_refusal_of q rounds allowed in
    cond (eqb n 0) (record { number = 0; found = Some (search_of q rounds reml nAgq allowed) }) (record { number = n; found = None })
