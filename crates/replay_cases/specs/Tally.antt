-- What a line comes to.
use Rattle.std.specs.Prelude.{ℕ, Bool, true, false, Option, Some, None}
use Rattle.replay_cases.specs.declared.tally.Verdict.{Verdict}

-- of a line of operation `op`, by whether the answers agree; a malformed line has no answer
abbrev pub verdict_of : ℕ → Option Bool → Verdict
verdict_of op (Some true) = Verdict.Agrees op
verdict_of op (Some false) = Verdict.Differs op
verdict_of op None = Verdict.Malformed
