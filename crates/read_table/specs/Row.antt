-- One line of a table: three fields, dose, grams and canister, apart by a comma, a semicolon or a tab with spaces around, or by spaces alone.
use Prim.Native.Char.{code}
use Rattle.std.specs.Prelude.{ℕ, ◌+◌, ◌-◌, ◌≤◌, Bool, not, ◌&&◌, ◌||◌, cond, List, ◌==◌, nat_le, nat_lt, length, Float, Option, Some, None, Result, Ok, Err}
use Rattle.std.specs.List.{list_all, list_any}
use Rattle.math.specs.Parts.{part}
use Rattle.read_decimal.specs.Decimal.{decimal_float}
use Rattle.read_decimal.specs.declared.DecimalError.{DecimalError}
use Rattle.text_buffer.specs.declared.Span.{Span}
use Rattle.read_table.specs.Classes.{is_name_byte, meets, scan_of}
use Rattle.read_table.specs.Header.{columns_in_order}
use Rattle.read_table.specs.declared.classes.Stop.{Stop}
use Rattle.read_table.specs.declared.fault.TableFault.{TableFault}
use Rattle.read_table.specs.declared.row.Word.{Word}
use Rattle.read_table.specs.declared.row.Field.{Field}
use Rattle.read_table.specs.declared.row.Reading.{Reading}
use Rattle.read_table.specs.declared.row.Row.{Row}

-- a part of a line ends no earlier than it begins, and in the line
abbrev pub Within : List ℕ → Span → Type 0
Within line part = (part.start ≤ part.stop) × (part.stop ≤ length line)

-- where the quotes close that open at a place
unfoldable pub closing_quote : List ℕ → ℕ → Option ℕ
closing_quote line at =
    cond (meets Stop.Quote line at && nat_lt (scan_of Stop.Quote line (at + 1)) (length line)) (Some (scan_of Stop.Quote line (at + 1))) None

-- A field that begins with a quote and has a second one stands between the two; any other ends at a space or a separator, and keeps a quote.
-- Nothing need stand between a quoted field and the next.
abbrev pub word_from : List ℕ → ℕ → Option ℕ → Word
word_from line at (Some close) = record { bytes = record { start = at + 1; stop = close }; tail = close + 1 }
word_from line at None = record { bytes = record { start = at; stop = scan_of Stop.EndOfWord line at }; tail = scan_of Stop.EndOfWord line at }

unfoldable pub word_at : List ℕ → ℕ → Word
word_at line at = word_from line at (closing_quote line at)

-- after it come spaces, and then perhaps a separator and spaces
unfoldable pub next_field : List ℕ → ℕ → ℕ
next_field line after = cond (meets Stop.Separator line after) (scan_of Stop.EndOfSpaces line (after + 1)) after

unfoldable pub field_at : List ℕ → ℕ → Field
field_at line at =
    let word = word_at line at in
    let after = scan_of Stop.EndOfSpaces line word.tail in
    record { bytes = word.bytes; after = after; next = next_field line after }

-- a field's bytes
abbrev pub bytes_of : List ℕ → Span → List ℕ
bytes_of line field = part field.start (field.stop - field.start) line

-- 1 to 32 bytes, each one that a name may have
unfoldable pub is_canister_name : List ℕ → Bool
is_canister_name name = nat_lt 0 (length name) && nat_le (length name) 32 && list_all is_name_byte name

-- whether a field's bytes hold a comma, as quotes allow
unfoldable pub comma_in : List ℕ → Bool
comma_in field = list_any (λ b. b == code ",") field

-- A decimal comma: one inside a number, or one that separates on one side of the grams and not on the other, as in `118;30,5;a` and `1,5 2,5 a`.
-- All commas are separators in `1,5,2,5,a`, where nothing tells them apart.
unfoldable pub decimal_comma : List ℕ → Field → Field → Bool
decimal_comma line d g =
    comma_in (bytes_of line d.bytes)
    || comma_in (bytes_of line g.bytes)
    || (nat_lt g.next (length line) && cond (meets Stop.Comma line d.after) (not (meets Stop.Comma line g.after)) (meets Stop.Comma line g.after))

-- a field that is no decimal has a fault of its own for the dose and for the grams
abbrev pub decimal_fault : TableFault → DecimalError → TableFault
decimal_fault no_decimal DecimalError.NotADecimal = no_decimal
decimal_fault no_decimal DecimalError.TooManyDigits = TableFault.TooManyDigits
decimal_fault no_decimal DecimalError.PowerOutOfRange = TableFault.PowerOutOfRange

abbrev pub number_or_fault : TableFault → Result Float DecimalError → Result Float TableFault
number_or_fault no_decimal (Ok x) = Ok x
number_or_fault no_decimal (Err e) = Err (decimal_fault no_decimal e)

-- the decimal that a field's bytes are
abbrev pub field_number : TableFault → List ℕ → Span → Result Float TableFault
field_number no_decimal line field = number_or_fault no_decimal (decimal_float (bytes_of line field))

-- the dose's fault, then the grams', then that there is no name
abbrev pub reading_from : Result Float TableFault → Result Float TableFault → Bool → Span → Result Reading TableFault
reading_from (Err e) grams named name = Err e
reading_from (Ok dose) (Err e) named name = Err e
reading_from (Ok dose) (Ok grams) named name = cond named (Ok (record { dose = dose; grams = grams; name = name })) (Err TableFault.NotAName)

-- First a decimal comma, then not three fields. There are three where a third begins and ends the line.
unfoldable pub reading_in : List ℕ → Field → Field → Field → Result Reading TableFault
reading_in line d g c =
    cond (decimal_comma line d g) (Err TableFault.DecimalComma)
    (cond (nat_lt g.next (length line) && c.after == length line)
    (reading_from (field_number TableFault.DoseNotADecimal line d.bytes) (field_number TableFault.GramsNotADecimal line g.bytes) (is_canister_name (bytes_of line c.bytes)) c.bytes)
    (Err TableFault.NotThreeFields))

-- The line that begins at `at` and ends with the list. `blank`: nothing but spaces, or a comment, which begins with `#`.
-- `letters`: the first two fields begin with a letter, as a header's do.
unfoldable pub row_at : List ℕ → ℕ → Row
row_at line at =
    let first = scan_of Stop.EndOfSpaces line at in
    let d = field_at line first in
    let g = field_at line d.next in
    let c = field_at line g.next in
    record {
      blank = first == length line || meets Stop.Comment line first;
      letters = meets Stop.Letter line d.bytes.start && meets Stop.Letter line g.bytes.start;
      ordered = columns_in_order line d.bytes.start g.bytes.start c.bytes.start;
      reading = reading_in line d g c;
    }
