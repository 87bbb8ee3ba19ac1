-- The terms are those of the first t nodes, and t of them.
use mathlib.Core.Path.{◌≡◌}
use mathlib.Core.List.{[]}
use lib.ListN.{length}
use Rattle.math.specs.Loops.{iter}
use Rattle.fit_refusals.specs.Given.{checked}
use Rattle.criterion_agq.specs.Agq.{more_terms}
use Rattle.criterion_agq.proofs.Quadrature.terms.Given as goal

abbrev pub invariant-loop-t : goal.invariant-loop-t
invariant-loop-t l =
    (length l.terms.items ≡ l.t)
    × (l.terms.items ≡ iter (more_terms (checked l.self.at.now.problem.now) l.self.at.now.values l.self.sigma2 l.self.order l.group.doses.now l.group.grams.now l.group.b.now l.scaling) l.t [])
