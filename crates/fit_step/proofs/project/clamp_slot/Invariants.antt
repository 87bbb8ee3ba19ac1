-- Effect r of the first g groups is projected, the others are as they came.
use mathlib.Core.Path.{◌≡◌}
use Rattle.math.specs.Loops.{iter}
use Rattle.fit_refusals.specs.Given.{checked}
use Rattle.fit_step.specs.Project.{group_clamp, slot_at}
use Rattle.fit_step.proofs.project.clamp_slot.Given as goal

abbrev pub invariant-loop-g : goal.invariant-loop-g
invariant-loop-g l = l.b ≡ iter (slot_at (checked l.q) l.r (group_clamp l.lo l.hi l.beta)) l.g l.initial.b
