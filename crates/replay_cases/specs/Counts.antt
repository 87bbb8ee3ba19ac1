-- What is counted of lines.
use Rattle.std.specs.Prelude.{ℕ, ◌+◌, ◌-◌, ◌^◌, min, Bool, true, leb, List, get_or, set, take, Option, Some, None}
use Rattle.std.specs.Option.{option_or}
use Rattle.replay_cases.specs.declared.tally.Operation.{Operation}
use Rattle.replay_cases.specs.declared.tally.Tally.{Tally}
use Rattle.replay_cases.specs.declared.tally.Verdict.{Verdict}

-- the operations of a tally, without the room that is left
abbrev pub operations_of : Tally → List Operation
operations_of t = take t.used t.room

-- the lines of an operation, how many agree, and the first that differs
abbrev pub Counts : Type 0
Counts = ℕ × ℕ × Option ℕ

abbrev pub counts_of : Operation → Counts
counts_of o = (o.lines, o.agree, o.first_differs)

abbrev pub no_lines : Counts
no_lines = (0, 0, None)

-- one more, as far as 64 bits go
abbrev pub count_up : ℕ → ℕ
count_up n = min (n + 1) (2 ^ 64 - 1)

-- with one more line, which agrees
abbrev pub agreed : Counts → Counts
agreed (lines, agree, first) = (count_up lines, count_up agree, first)

-- with line `number`, which differs
abbrev pub differed : ℕ → Counts → Counts
differed number (lines, agree, first) = (count_up lines, agree, option_or first (Some number))

-- the counts of all operations after line `number`, by what it came to
abbrev pub counts_after : ℕ → Verdict → List Counts → List Counts
counts_after number (Verdict.Agrees op) counts = set counts op (agreed (get_or counts op no_lines))
counts_after number (Verdict.Differs op) counts = set counts op (differed number (get_or counts op no_lines))
counts_after number Verdict.Malformed counts = counts

-- whether a line counts as malformed, where there are n operations
abbrev pub is_malformed : ℕ → Verdict → Bool
is_malformed n (Verdict.Agrees op) = leb n op
is_malformed n (Verdict.Differs op) = leb n op
is_malformed n Verdict.Malformed = true
