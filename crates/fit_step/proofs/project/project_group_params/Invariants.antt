-- b is what the projections of the first r effects leave.
use mathlib.Core.Path.{◌≡◌}
use Rattle.math.specs.Loops.{iter}
use Rattle.fit_refusals.specs.Given.{checked}
use Rattle.fit_step.specs.Project.{project_slot}
use Rattle.fit_step.proofs.project.project_group_params.Given as goal

abbrev pub invariant-loop-r : goal.invariant-loop-r
invariant-loop-r l = l.b ≡ iter (project_slot (checked l.q) l.values) l.r l.initial.b
