-- The next value goes to its place.
use Rattle.std.proofs.Common.{◌<◌, ◌∙◌, sym, arith, length}
use Rattle.replay_cases.proofs.Elements.{reading_goes_on}
use Rattle.replay_cases.proofs.words.Words.values.Goals as goal

pub loop-x-preserved : goal.loop-x-preserved
loop-x-preserved g c =
    let l = c.loop-x in
    let p : l.x-index < length c.args.out.now = omega (arith, l.invariant.size) in
    rw c.value.ensures.rest (reading_goes_on _ _ _ _ _ _ l.invariant p _ (sym c.value.ensures.value ∙ c.in_ok-x.was))
