-- The first j numbers are moved, the others are as they came.
use mathlib.Core.Path.{◌≡◌}
use Rattle.math.specs.Loops.{iter}
use Rattle.fit_step.specs.Lists.{each_at}
use Rattle.fit_step.specs.Trial.{moved_at}
use Rattle.fit_step.proofs.trial.advance.Given as goal

abbrev pub invariant-loop-j : goal.invariant-loop-j
invariant-loop-j l = l.list ≡ iter (each_at (moved_at 0 l.d l.alpha)) l.j l.initial.list
