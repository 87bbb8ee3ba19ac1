-- Without a fault from 1 to 10 the problem has what `search_valid` says. Assumes nothing.
use native.Mathlib.Omega.{arith}
use Rattle.fit_refusals.specs.laws.Valid.{search_valid}
use Rattle.fit_refusals.proofs.Laws.{search_split}
use Rattle.fit_refusals.proofs.Problem.for_search.Goals as goal

pub returns-clause-valid : goal.returns-clause-valid
returns-clause-valid c = search_valid _ _ _ (grind (arith, search_split))
