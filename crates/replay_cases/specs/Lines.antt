-- What a reader of lines holds, and what it has left.
use Rattle.std.specs.Prelude.{◌≡◌, ℕ, List, length, Option, None, option_map, slice_range}
use Rattle.std.specs.Io.BufRead.{drop_through}
use Rattle.std.specs.Io.KnownBytes.{prepend_known}
use Rattle.replay_cases.specs.declared.lines.Lines.{Lines}
use Rattle.replay_cases.specs.declared.lines.Place.{Place}

-- the bytes that a line may have, its end among them
abbrev pub room : {R : Type 0} → Lines R → ℕ
room s = length s.buf.now

-- the bytes that are read and not handed out
abbrev pub held : {R : Type 0} → Lines R → List ℕ
held s = slice_range s.buf.now s.from s.to

-- these, and then the input's own, where they are known
abbrev pub bytes_ahead : {R : Type 0} → (R → Option (List ℕ)) → Lines R → Option (List ℕ)
bytes_ahead known s = prepend_known (held s) (known s.input)

-- of the bytes ahead those that follow the line in which they begin; after the end there are none to know
abbrev pub from_place : Place → Option (List ℕ) → Option (List ℕ)
from_place Place.LineStart bytes = bytes
from_place Place.LongLine bytes = option_map (drop_through 10) bytes
from_place Place.End bytes = None

-- the line that it came to
abbrev pub line : {R : Type 0} → Lines R → List ℕ
line s = slice_range s.buf.now s.start s.end

-- the bytes of the lines that are still to come, where the input's are known
abbrev pub bytes_left : {R : Type 0} → (R → Option (List ℕ)) → Lines R → Option (List ℕ)
bytes_left known s = from_place s.place (bytes_ahead known s)

-- no line follows
abbrev pub IsOver : {R : Type 0} → Lines R → Type 0
IsOver s = s.place ≡ Place.End
