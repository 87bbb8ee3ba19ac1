-- total is the sum of the first g groups, none of which ended it.
use Rattle.std.proofs.Common.{◌≡◌, Some}
use Rattle.math.specs.Basic.{zero}
use Rattle.linalg.specs.Loops.{tries}
use Rattle.fit_refusals.specs.Given.{checked}
use Rattle.criterion_agq.specs.Agq.{group_at}
use Rattle.criterion_agq.proofs.Quadrature.groups.Given as goal

abbrev pub invariant-loop-g : goal.invariant-loop-g
invariant-loop-g l = Some l.total ≡ tries (group_at (checked l.self.at.now.problem.now) l.self.at.now.values l.self.sigma2 l.self.order l.self.at.now.b.now) l.g zero
