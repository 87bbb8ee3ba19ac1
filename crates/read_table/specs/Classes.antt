-- The bytes that a table's reader looks for, and the place of the next one.
use Prim.Native.Char.{code}
use Rattle.std.specs.Prelude.{ℕ, ◌+◌, Bool, not, ◌&&◌, ◌||◌, List, ◌==◌, nat_le, nat_lt, length, drop, take_while, slice_index}
use Rattle.std.specs.Char.{is_ascii_alphabetic, is_ascii_alphanumeric}
use Rattle.read_table.specs.declared.classes.Stop.{Stop}

-- a space, or a carriage return: one before the newline is dropped so, and one elsewhere counts as a space too
abbrev pub is_space : ℕ → Bool
is_space b = b == code " " || b == code "\r"

-- a comma, a semicolon or a tab
abbrev pub is_separator : ℕ → Bool
is_separator b = b == code "," || b == code ";" || b == code "\t"

-- a letter, a digit, `-`, `.`, `_` or a byte above 127
abbrev pub is_name_byte : ℕ → Bool
is_name_byte b = is_ascii_alphanumeric b || b == code "-" || b == code "." || b == code "_" || nat_le 128 b

-- whether a byte is what is looked for
abbrev pub stops_at : Stop → ℕ → Bool
stops_at Stop.Quote b = b == code "\""
stops_at Stop.Newline b = b == code "\n"
stops_at Stop.Comment b = b == code "#"
stops_at Stop.Comma b = b == code ","
stops_at Stop.Separator b = is_separator b
stops_at Stop.Letter b = is_ascii_alphabetic b
stops_at Stop.EndOfSpaces b = not (is_space b)
stops_at Stop.EndOfWord b = is_space b || is_separator b
stops_at Stop.EndOfLetters b = not (is_ascii_alphabetic b)

-- whether such a byte stands at a place
unfoldable pub meets : Stop → List ℕ → ℕ → Bool
meets stop text at = nat_lt at (length text) && stops_at stop (slice_index text at)

-- the place of the first such byte from a place on, or the end
unfoldable pub scan_of : Stop → List ℕ → ℕ → ℕ
scan_of stop text at = at + length (take_while (λ b. not (stops_at stop b)) (drop at text))
