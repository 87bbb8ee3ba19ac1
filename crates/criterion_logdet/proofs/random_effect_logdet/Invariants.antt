-- total has the logarithms of the first g groups, each of which has a factor.
use Rattle.std.proofs.Common.{◌≡◌, Some}
use Rattle.linalg.specs.Loops.{tries}
use Rattle.fit_refusals.specs.Given.{checked}
use Rattle.criterion_logdet.specs.LogDet.{add_logs}
use Rattle.criterion_logdet.proofs.random_effect_logdet.Given as goal

abbrev pub invariant-loop-g : goal.invariant-loop-g
invariant-loop-g l = Some l.total ≡ tries (add_logs (checked l.at.problem.now) l.at.values l.at.b.now) l.g l.initial.total
