-- What the next word says joins what the others said.
use Rattle.std.proofs.Common.{◌∙◌, sym}
use Rattle.replay_cases.proofs.Saying.{saying_goes_on}
use Rattle.replay_cases.proofs.words.Words.says_each.Goals as goal

pub loop-x-preserved : goal.loop-x-preserved
loop-x-preserved g c =
    let l = c.loop-x in
    rw c.says.ensures.rest
    (saying_goes_on _ _ _ _ _ _ _ l.invariant c.loop-x-test.true _ c.x-item.is _ (sym c.says.ensures.value ∙ c.in_ok-same.was))
