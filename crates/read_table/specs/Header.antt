-- A header names the columns; a name that is a known word must stand in its column.
use Rattle.std.specs.Prelude.{ℕ, ◌-◌, Bool, true, false, ◌&&◌, List, [], ◌∷◌, codes, find, Option, Some, None}
use Rattle.std.specs.List.{list_any}
use Rattle.std.specs.Str.{str_eq_ignore_ascii_case}
use Rattle.math.specs.Parts.{part}
use Rattle.read_table.specs.Classes.{scan_of}
use Rattle.read_table.specs.declared.classes.Stop.{Stop}
use Rattle.read_table.specs.declared.header.Column.{Column}

-- five words each: those of a tinting machine, and of R's Orange, Loblolly and DNase
abbrev pub column_words : Column → List (List ℕ)
column_words Column.Dose = codes "dose" ∷ codes "doses" ∷ codes "steps" ∷ codes "age" ∷ codes "conc" ∷ []
column_words Column.Grams = codes "grams" ∷ codes "weight" ∷ codes "density" ∷ codes "height" ∷ codes "circumference" ∷ []
column_words Column.Canister = codes "canister" ∷ codes "tree" ∷ codes "seed" ∷ codes "run" ∷ codes "group" ∷ []

-- capitals and small letters alike
unfoldable pub is_column_word : List ℕ → Column → Bool
is_column_word word column = list_any (λ w. str_eq_ignore_ascii_case w word) (column_words column)

-- the column that the letters from a place on name; none where they are no known word
unfoldable pub column_at : List ℕ → ℕ → Option Column
column_at line start =
    find (is_column_word (part start (scan_of Stop.EndOfLetters line start - start) line)) (Column.Dose ∷ Column.Grams ∷ Column.Canister ∷ [])

abbrev pub same_column : Column → Column → Bool
same_column Column.Dose Column.Dose = true
same_column Column.Grams Column.Grams = true
same_column Column.Canister Column.Canister = true
same_column _ _ = false

-- a field names a column, or none
abbrev pub fits_named : Option Column → Column → Bool
fits_named None column = true
fits_named (Some named) column = same_column named column

unfoldable pub fits_column : List ℕ → ℕ → Column → Bool
fits_column line start column = fits_named (column_at line start) column

unfoldable pub columns_in_order : List ℕ → ℕ → ℕ → ℕ → Bool
columns_in_order line dose grams canister =
    fits_column line dose Column.Dose && (fits_column line grams Column.Grams && fits_column line canister Column.Canister)
