-- A table of readings, line by line. Lines end with a newline; a line that is blank, or whose first sign is `#`, is skipped. The first other line may be a header. A byte order mark before
-- the first line is passed over.
-- The definition says what the lists hold in every case: on a fault they hold what was entered before it, and nothing further is written.
use Rattle.std.specs.Prelude.{ℕ, zero, suc, ◌+◌, ◌≤◌, Bool, false, not, ◌&&◌, ◌||◌, cond, List, [], ◌∷◌, ◌==◌, nat_le, nat_lt, length, take, slice_set, position, Float, Option, Some, None, Result, Ok, Err}
use Rattle.std.specs.Str.{bytes_eq}
use Rattle.text_buffer.specs.declared.Span.{Span}
use Rattle.read_table.specs.Classes.{scan_of}
use Rattle.read_table.specs.Row.{bytes_of, row_at}
use Rattle.read_table.specs.declared.classes.Stop.{Stop}
use Rattle.read_table.specs.declared.fault.TableFault.{TableFault}
use Rattle.read_table.specs.declared.row.Reading.{Reading}
use Rattle.read_table.specs.declared.row.Row.{Row}
use Rattle.read_table.specs.declared.Table.{Table}
use Rattle.read_table.specs.declared.step.Progress.{Progress}
use Rattle.read_table.specs.declared.TableError.{TableError}

-- whether there is a fault, and what is left
abbrev pub WithFault : Type 0 → Type 0
WithFault A = Result (Unit {0}) TableFault × A

-- ---- a reading is entered

-- what was read so far, and the lists, at whose front it stands
pub record TableLists : Type 0 where
  pub table : Table
  pub doses : List Float
  pub grams : List Float
  pub groups : List ℕ
  pub names : List Span

abbrev pub table_lists : Table → List Float → List Float → List ℕ → List Span → TableLists
table_lists table doses grams groups names = record { table = table; doses = doses; grams = grams; groups = groups; names = names }

-- what is counted lies in the lists
pub record CountsInBounds (l : TableLists) : Type 0 where
  pub in_doses : l.table.count ≤ length l.doses
  pub in_grams : l.table.count ≤ length l.grams
  pub in_groups : l.table.count ≤ length l.groups
  pub in_names : l.table.canisters ≤ length l.names

-- the bytes of a canister that was seen are those of a name
unfoldable pub same_name : List ℕ → List ℕ → Span → Bool
same_name text name seen = nat_le seen.start seen.stop && nat_le seen.stop (length text) && bytes_eq (bytes_of text seen) name

-- the first canister that has a name
unfoldable pub seen_canister : List ℕ → List Span → List ℕ → Option ℕ
seen_canister text seen name = position (same_name text name) seen

-- the canister of a name: one that was seen, or a new one, whose name is put down where there is room
abbrev pub canister_from : Option ℕ → Span → Table → List Span → Result ℕ TableFault × Table × List Span
canister_from (Some group) name t names = (Ok group, t, names)
canister_from None name t names =
    cond (nat_lt t.canisters (length names))
    (Ok t.canisters, record { lines = t.lines; count = t.count; canisters = t.canisters + 1 }, slice_set names t.canisters name)
    (Err TableFault.TooManyCanisters, t, names)

unfoldable pub canister_of : List ℕ → Span → Table → List Span → Result ℕ TableFault × Table × List Span
canister_of text name t names = canister_from (seen_canister text (take t.canisters names) (bytes_of text name)) name t names

abbrev pub entered_from : Reading → TableLists → Result ℕ TableFault × Table × List Span → WithFault TableLists
entered_from reading l (Err e, t, names) = (Err e, table_lists t l.doses l.grams l.groups names)
entered_from reading l (Ok group, t, names) = (
  Ok tt,
  table_lists (record { lines = t.lines; count = t.count + 1; canisters = t.canisters })
      (slice_set l.doses t.count reading.dose) (slice_set l.grams t.count reading.grams) (slice_set l.groups t.count group) names,
)

-- the shortest of the three lists says how many readings are taken
unfoldable pub enter_of : List ℕ → Reading → TableLists → WithFault TableLists
enter_of text reading l =
    cond (nat_lt l.table.count (length l.doses) && nat_lt l.table.count (length l.grams) && nat_lt l.table.count (length l.groups))
    (entered_from reading l (canister_of text reading.name l.table l.names))
    (Err TableFault.TooManyReadings, l)

-- ---- line after line

-- the place of the next line, whether a line was more than blank, and what was read
pub record TableState : Type 0 where
  pub at : ℕ
  pub started : Bool
  pub read : TableLists

abbrev pub table_state : Progress → List Float → List Float → List ℕ → List Span → TableState
table_state p doses grams groups names = record { at = p.at; started = p.started; read = table_lists p.read doses grams groups names }

abbrev pub some_reading : Result Reading TableFault → Result (Option Reading) TableFault
some_reading (Ok reading) = Ok (Some reading)
some_reading (Err e) = Err e

-- what a line says: a header is skipped where no line before it was more than blank, and refused where it names the columns in another order
unfoldable pub settled_of : Row → Bool → Result (Option Reading) TableFault
settled_of row started =
    cond row.blank (Ok None)
    (cond (row.letters && not started) (cond row.ordered (Ok None) (Err TableFault.HeaderOutOfOrder)) (some_reading row.reading))

abbrev pub entered_line : List ℕ → TableState → Result (Option Reading) TableFault → WithFault TableState
entered_line text s (Err e) = (Err e, s)
entered_line text s (Ok None) = (Ok tt, s)
entered_line text s (Ok (Some reading)) =
    let entered = enter_of text reading s.read in
    (entered.0, record { at = s.at; started = s.started; read = entered.1 })

-- one line more is read
abbrev pub with_line : TableLists → TableLists
with_line l =
    table_lists (record { lines = l.table.lines + 1; count = l.table.count; canisters = l.table.canisters }) l.doses l.grams l.groups l.names

-- the line from s's place to a newline; the next begins after it
unfoldable pub next_line : List ℕ → TableState → WithFault TableState
next_line text s =
    let end = scan_of Stop.Newline text s.at in
    let row = row_at (take end text) s.at in
    entered_line text (record { at = end + 1; started = s.started || not row.blank; read = with_line s.read }) (settled_of row s.started)

abbrev pub unless_fault : (TableState → WithFault TableState) → WithFault TableState → WithFault TableState
unless_fault on (Err e, s) = (Err e, s)
unless_fault on (Ok u, s) = on s

-- line after line, at most n of them, up to a fault; a text has no more lines than bytes
unfoldable pub lines_of : ℕ → List ℕ → TableState → WithFault TableState
lines_of zero text s = (Ok tt, s)
lines_of (suc n) text s =
    let more = unless_fault (lines_of n text) (next_line text s) in cond (nat_lt s.at (length text)) more (Ok tt, s)

-- U+FEFF in UTF-8
abbrev pub byte_order_mark : List ℕ
byte_order_mark = 0xEF ∷ 0xBB ∷ 0xBF ∷ []

-- the place after a byte order mark
unfoldable pub after_mark : List ℕ → ℕ
after_mark text = cond (bytes_eq (take 3 text) byte_order_mark) 3 0

unfoldable pub table_of : List ℕ → List Float → List Float → List ℕ → List Span → WithFault TableState
table_of text doses grams groups names =
    lines_of (length text) text
    (record { at = after_mark text; started = false; read = table_lists (record { lines = 0; count = 0; canisters = 0 }) doses grams groups names })

-- A table without readings is refused too. What was read up to a fault has as many lines as the number of the faulty one.
abbrev pub finish_of : WithFault TableState → Result Table TableError
finish_of (Err e, s) = Err (record { fault = e; read = s.read.table })
finish_of (Ok u, s) = cond (s.read.table.count == 0) (Err (record { fault = TableFault.NoReadings; read = s.read.table })) (Ok s.read.table)

-- what was read, whatever came of it
abbrev pub read_so_far : Result Table TableError → Table
read_so_far (Ok t) = t
read_so_far (Err e) = e.read
