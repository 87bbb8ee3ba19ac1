-- The tally has the operations of these names.
use Rattle.std.proofs.Common.{◌≡◌, map}
use Rattle.replay_cases.specs.Counts.{operations_of}
use Rattle.replay_cases.proofs.replay.replay_lines.Given as goal

abbrev pub invariant-loop-number : goal.invariant-loop-number
invariant-loop-number g l = map (λ o. o.name) (operations_of l.tally) ≡ l.names
