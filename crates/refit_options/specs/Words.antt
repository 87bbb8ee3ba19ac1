-- What a word names, and meanings in words.
use Rattle.std.specs.Prelude.{ℕ, Bool, cond, List, [], ◌∷◌, ◌++◌, ◌==◌, find, position, slice_index_or, codes, Option, Some, None, is_some}
use Rattle.std.specs.List.{list_any}
use Rattle.std.specs.Str.{str_eq_ignore_ascii_case}
use Rattle.text_buffer.specs.Text.{whole_text}
use Rattle.curves.specs.declared.mean_fn.Curve.{Curve}
use Rattle.curves.specs.MeanFn.{code_of}
use Rattle.refusal.specs.declared.Refusal.{Refusal}
use Rattle.read_table.specs.declared.fault.TableFault.{TableFault}
use Rattle.svg_axes.specs.Subject.{curve_name, value_names}

-- the place of a name among those of a curve's values
unfoldable pub value_place : ℕ → List ℕ → Option ℕ
value_place code word = position (λ name. str_eq_ignore_ascii_case name word) (value_names code)

abbrev pub every_curve : List Curve
every_curve = Curve.Sslogis ∷ Curve.Ssasymp ∷ Curve.Ssmicmen ∷ Curve.Ssfpl ∷ []

-- a word names a value of some curve, in capitals or small letters
unfoldable pub is_value_name : List ℕ → Bool
is_value_name word = list_any (λ curve. is_some (value_place (code_of curve) word)) every_curve

-- a word is a curve's name
abbrev pub is_curve_name : List ℕ → Curve → Bool
is_curve_name word curve = str_eq_ignore_ascii_case (curve_name (code_of curve)) word

unfoldable pub curve_named : List ℕ → Option Curve
curve_named word = find (is_curve_name word) every_curve

-- the name of value i of a curve
unfoldable pub value_name_text : ℕ → ℕ → List ℕ
value_name_text code i = slice_index_or (value_names code) i (codes "?")

-- what a curve says that the grams are, by its code
unfoldable pub equation : ℕ → List ℕ
equation code =
    cond (code == 1) (codes "Asym / (1 + exp((xmid - dose) / scal))")
    (cond (code == 2) (codes "Asym + (R0 - Asym) * exp(-exp(lrc) * dose)")
    (cond (code == 3) (codes "Vm * dose / (K + dose)")
    (cond (code == 4) (codes "A + (B - A) / (1 + exp((xmid - dose) / scal))") [])))

-- a curve's name and its equation
unfoldable pub curve_equation_text : ℕ → List ℕ
curve_equation_text code = curve_name code ++ (codes ": grams = " ++ equation code)

-- what it means that the library refuses
unfoldable pub refusal_text : Refusal → List ℕ
refusal_text Refusal.Code = codes "no such curve"
refusal_text Refusal.Readings = codes "no readings, more than 512, or lists of unequal lengths"
refusal_text Refusal.Groups = codes "no canisters or more than 32"
refusal_text Refusal.Group = codes "a reading of a canister that is not there"
refusal_text Refusal.Effects = codes "the effect is not a value of the curve"
refusal_text Refusal.Lengths = codes "a list of starts, bounds or theta has a wrong length"
refusal_text Refusal.Numbers = codes "a reading, a start value or theta is not a finite number, or a bound is none"
refusal_text Refusal.Bounds = codes "a lower bound above its upper one"
refusal_text Refusal.Outputs = codes "a list for the answer has a wrong length"
refusal_text Refusal.Limits = codes "too many rounds or narrowings, or two effects"

-- what is wrong with a line of the text
unfoldable pub table_fault_text : TableFault → List ℕ
table_fault_text TableFault.NotThreeFields = codes "not three fields: dose, grams, canister (a comment has a line of its own)"
table_fault_text TableFault.DoseNotADecimal = codes "the dose is not a decimal number"
table_fault_text TableFault.GramsNotADecimal = codes "the grams are not a decimal number"
table_fault_text TableFault.TooManyDigits = codes "a number of more than 15 significant digits"
table_fault_text TableFault.PowerOutOfRange = codes "a number whose exponent is out of range"
table_fault_text TableFault.NotAName =
    codes "the canister's name is empty, longer than 32 bytes, or has a sign that is no letter, digit, '-', '.' or '_'"
table_fault_text TableFault.TooManyReadings = codes "more than 512 readings"
table_fault_text TableFault.TooManyCanisters = codes "more than 32 canisters"
table_fault_text TableFault.NoReadings = codes "there are no readings"
table_fault_text TableFault.DecimalComma =
    codes "a decimal comma, or a comma beside another separator: write decimals with a point, and one separator in a line"
table_fault_text TableFault.HeaderOutOfOrder = codes "the header names its columns in another order than dose, grams, canister"

-- the same with the line's number, where it is known
unfoldable pub line_fault_text : Option ℕ → TableFault → List ℕ
line_fault_text None fault = table_fault_text fault
line_fault_text (Some line) fault = codes "line " ++ (whole_text line ++ (codes ": " ++ table_fault_text fault))
