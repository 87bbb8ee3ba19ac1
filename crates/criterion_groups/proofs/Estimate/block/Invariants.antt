-- The products at the readings so far are added, each as whatever function `each` computes leaves it.
use mathlib.Core.Path.{◌≡◌}
use lib.Ieee.{Float}
use Rattle.math.specs.Loops.{iter}
use Rattle.fit_refusals.specs.Given.{checked}
use Rattle.criterion_groups.specs.Groups.{block_at}
use Rattle.criterion_groups.proofs.Estimate.block.Given as goal

abbrev pub invariant-loop-x : goal.invariant-loop-x
invariant-loop-x g l =
    (f : Float → Float) → ((x y : Float) → goal.F-post g l.each x y → y ≡ f x) → l.sum ≡ iter (block_at f (checked l.self.problem.now) l.self.values l.b l.doses) l.x-index l.fn.m
