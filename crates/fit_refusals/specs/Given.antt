-- A call's arguments as the problem that they give, checked or not, and the number of a refusal.
use Rattle.std.specs.Prelude.{ℕ, Result, Ok, Err}
use Rattle.refusal.specs.declared.Refusal.{Refusal}
use Rattle.refusal.specs.Refusal.{number_of}
use Rattle.curves.specs.MeanFn.{code_of}
use Rattle.fit_refusals.specs.declared.Problem as Code
use Rattle.fit_refusals.specs.declared.NlmmProblem.{NlmmProblem}
use Rattle.fit_refusals.specs.Problem.{Problem, problem_of}

abbrev pub given : Code.Problem → Problem
given q =
    problem_of q.code q.doses.now q.grams.now q.groups.now q.group_count q.places.now q.starts.now q.lower.now q.upper.now q.group_lower.now q.group_upper.now q.theta.now

abbrev pub checked : NlmmProblem → Problem
checked q =
    problem_of (code_of q.curve) q.doses.now q.grams.now q.groups.now q.group_count q.places.now q.starts.now q.lower.now q.upper.now q.group_lower.now q.group_upper.now q.theta.now

-- 0 where a call is not refused
abbrev pub number_in : {A : Type 0} → Result A Refusal → ℕ
number_in (Ok a) = 0
number_in (Err e) = number_of e
