-- The first i values are clamped, the others are as they came.
use mathlib.Core.Path.{◌≡◌}
use Rattle.math.specs.Loops.{iter}
use Rattle.fit_step.specs.Lists.{each_at}
use Rattle.fit_step.specs.Project.{clamp_at}
use Rattle.fit_step.proofs.project.project_params.Given as goal

abbrev pub invariant-loop-i : goal.invariant-loop-i
invariant-loop-i l = l.values ≡ iter (each_at (clamp_at l.q.lower.now l.q.upper.now)) l.i l.initial.values
