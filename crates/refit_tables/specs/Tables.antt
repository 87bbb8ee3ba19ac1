-- The two tables of a report: each canister's own curve, and each reading beside its curve.
use Rattle.std.specs.Prelude.{ℕ, ◌-◌, cond, List, [], ◌∷◌, eqb, Float, length, get_or, slice_index, codes}
use Rattle.std.specs.List.{flat_map}
use Rattle.std.specs.Float.{nan}
use Rattle.std.specs.Float.Ieee.{lt}
use Rattle.math.specs.Basic.{add, sub, bits, abs_of}
use Rattle.math.specs.Lists.{largest_of}
use Rattle.text_buffer.specs.Text.{joined}
use Rattle.text_lines.specs.Lines.{left_text, right_text, cell_text}
use Rattle.text_floats.specs.Floats.{decimals_of, fixed_text, figure_text}
use Rattle.svg_axes.specs.Subject.{SubjectLists, canister_name, value_names}
use Rattle.svg_axes.specs.Ranges.{canister_curve_at}
use Rattle.svg_marks.specs.Escape.{each_text}

unfoldable pub name_cell_text : SubjectLists → ℕ → List ℕ
name_cell_text s g = left_text 14 (canister_name s g)

unfoldable pub first_column_text : SubjectLists → ℕ → List ℕ
first_column_text s g = joined (codes "  " ∷ name_cell_text s g ∷ [])

-- the decimals of a column whose numbers are about this size: six significant digits, or six decimals for what is very small
unfoldable pub decimals_for : Float → ℕ
decimals_for size = cond (lt size (bits 0x3ee4_f8b5_88e3_68f1)) 6 (decimals_of size - 1)

-- ---- each canister

-- the canister's own value: where the effect stands, with it
abbrev pub own_value_text : SubjectLists → Float → Float → ℕ → List ℕ
own_value_text s effect value i = cell_text 13 (fixed_text (cond (eqb i s.place) (add value effect) value) (decimals_for (abs_of value)))

unfoldable pub own_text : SubjectLists → Float → ℕ → List ℕ
own_text s effect i = own_value_text s effect (get_or s.values i nan) i

-- the row of canister g, whose effect this is
unfoldable pub row_with_effect : SubjectLists → Float → ℕ → List ℕ
row_with_effect s effect g =
    joined (
    first_column_text s g
    ∷ cell_text 13 (fixed_text effect (decimals_for (abs_of (get_or s.values s.place nan))))
    ∷ each_text (own_text s effect) (length s.values)
    ∷ codes "\n"
    ∷ [])

unfoldable pub canister_row : SubjectLists → ℕ → List ℕ
canister_row s g = row_with_effect s (get_or s.effects g nan) g

-- over the values their names
unfoldable pub heads_text : ℕ → List ℕ
heads_text code = flat_map (right_text 13) (value_names code)

unfoldable pub canisters_table_text : SubjectLists → List ℕ
canisters_table_text s =
    joined (
    codes "\nEach canister's own curve\n  canister             effect"
    ∷ heads_text s.code
    ∷ codes "\n"
    ∷ each_text (canister_row s) (length s.effects)
    ∷ [])

-- ---- each reading

-- reading i, of canister g: what was weighed, what the curve says, and the difference
unfoldable pub reading_row : SubjectLists → ℕ → ℕ → ℕ → List ℕ
reading_row s d g i =
    let dose = get_or s.doses i nan in
    let grams = get_or s.grams i nan in
    let says = canister_curve_at s g dose in
    joined (
    first_column_text s g
    ∷ cell_text 13 (figure_text dose)
    ∷ cell_text 13 (figure_text grams)
    ∷ cell_text 13 (fixed_text says d)
    ∷ cell_text 14 (fixed_text (sub grams says) d)
    ∷ codes "\n"
    ∷ [])

unfoldable pub reading_rows : SubjectLists → ℕ → List ℕ
reading_rows s d = each_text (λ i. reading_row s d (slice_index s.groups i) i) (length s.groups)

unfoldable pub readings_table_text : SubjectLists → List ℕ
readings_table_text s =
    joined (
    codes "\nEach reading\n  canister               dose      weighed   curve says    difference\n"
    ∷ reading_rows s (decimals_for (largest_of s.grams))
    ∷ [])
