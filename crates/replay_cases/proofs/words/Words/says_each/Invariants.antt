-- What the values that are left say of the line joins what the others said.
use Rattle.replay_cases.proofs.Saying.{Saying}
use Rattle.replay_cases.proofs.words.Words.says_each.Given as goal

abbrev pub invariant-loop-x : goal.invariant-loop-x
invariant-loop-x g l = Saying g.T.Value.value_of g.T.Value.same l.initial.self l.values l.self l.same l.x-index
