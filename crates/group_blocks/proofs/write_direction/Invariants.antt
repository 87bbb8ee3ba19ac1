-- Written are the p fixed values and the effects of the first g groups.
use Rattle.std.proofs.Common.{◌≡◌, ◌+◌, ◌*◌, take}
use Rattle.math.specs.Loops.{span}
use Rattle.group_blocks.specs.Components.{append_group}
use Rattle.group_blocks.proofs.write_direction.Given as goal

abbrev pub invariant-loop-g : goal.invariant-loop-g
invariant-loop-g l = take (l.p + l.g * l.k) l.out ≡ span (append_group l.p l.k l.x l.solved) 0 l.g (take l.p l.x)
