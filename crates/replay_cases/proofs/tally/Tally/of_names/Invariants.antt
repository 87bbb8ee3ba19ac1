-- An operation without lines for each name so far.
use Rattle.std.proofs.Common.{◌≡◌, map, length, take, replicate}
use Rattle.replay_cases.specs.Counts.{counts_of, no_lines}
use Rattle.replay_cases.specs.declared.tally.TheConstants.{ROOM}
use Rattle.replay_cases.proofs.tally.Tally.of_names.Given as goal

abbrev pub invariant-loop-i : goal.invariant-loop-i
invariant-loop-i l =
    (length l.room ≡ ROOM)
    × (map (λ o. o.name) (take l.i l.room) ≡ take l.i l.names)
    × (map counts_of (take l.i l.room) ≡ replicate l.i no_lines)
