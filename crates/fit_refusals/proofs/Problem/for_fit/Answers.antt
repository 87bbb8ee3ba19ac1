-- Without a fault from 1 to 10 the problem has what `fit_valid` says. Assumes nothing.
use native.Mathlib.Omega.{arith}
use Rattle.fit_refusals.specs.laws.Valid.{fit_valid}
use Rattle.fit_refusals.proofs.Laws.{fit_split}
use Rattle.fit_refusals.proofs.Problem.for_fit.Goals as goal

pub returns-clause-valid : goal.returns-clause-valid
returns-clause-valid c = fit_valid _ _ _ _ (grind (arith, fit_split))
