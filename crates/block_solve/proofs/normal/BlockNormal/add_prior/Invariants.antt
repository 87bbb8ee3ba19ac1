-- The first g groups have their prior.
use Rattle.std.proofs.Common.{◌≡◌}
use Rattle.math.specs.Loops.{iter}
use Rattle.block_solve.specs.Normal.{prior_turn}
use Rattle.block_solve.proofs.normal.BlockNormal.add_prior.Given as goal

abbrev pub invariant-loop-g : goal.invariant-loop-g
invariant-loop-g l = l.self ≡ iter (prior_turn l.k l.inverse l.b) l.g l.initial.self
