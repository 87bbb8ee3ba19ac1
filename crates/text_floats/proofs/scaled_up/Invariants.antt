-- After e products, 400 - e more make of m what 400 make of x.
use Rattle.std.proofs.Common.{◌≡◌, ◌-◌}
use Rattle.text_floats.specs.Floats.{multiplied}
use Rattle.text_floats.proofs.scaled_up.Given as goal

abbrev pub invariant-loop-e : goal.invariant-loop-e
invariant-loop-e l = multiplied (400 - l.e) l.e l.m ≡ multiplied 400 0 l.x
