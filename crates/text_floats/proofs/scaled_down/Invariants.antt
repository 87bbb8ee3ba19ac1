-- After e divisions, 400 - e more make of m what 400 make of x.
use Rattle.std.proofs.Common.{◌≡◌, ◌-◌}
use Rattle.text_floats.specs.Floats.{divided}
use Rattle.text_floats.proofs.scaled_down.Given as goal

abbrev pub invariant-loop-e : goal.invariant-loop-e
invariant-loop-e l = divided (400 - l.e) l.e l.m ≡ divided 400 0 l.x
