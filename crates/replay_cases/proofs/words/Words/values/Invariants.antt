-- What is stored and what is still to be read make up the list.
use Rattle.replay_cases.proofs.Elements.{Reading}
use Rattle.replay_cases.proofs.words.Words.values.Given as goal

abbrev pub invariant-loop-x : goal.invariant-loop-x
invariant-loop-x g l = Reading g.T.Value.value_of l.initial.self l.initial.out l.out l.self l.x-index
