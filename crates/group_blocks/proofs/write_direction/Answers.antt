-- Before group 0 the fixed values alone are written: the first p places are what was copied there.
use Rattle.std.proofs.Common.{◌≡◌, ◌∙◌, length, take, zero-mul, add-zero, arith, length-take}
use Rattle.std.proofs.lemmas.List.{take_at}
use Rattle.math.specs.laws.Loops.{span_none}
use Rattle.group_blocks.proofs.write_direction.Goals as goal

pub loop-g-init : goal.loop-g-init
loop-g-init c =
    let p = c.args.shape.p in
    let n : length (take p c.args.out.now) ≡ p = rw length-take (omega arith) in
    rw (zero-mul, add-zero) (take_at _ _ p (c.copy_from_slice.ensures.len ∙ n) ∙ c.copy_from_slice.ensures.after ∙ span_none _ _ _)
