-- The words of the command line, one after the other.
use Prim.Native.Char.{code}
use Rattle.std.specs.Prelude.{ℕ, ◌+◌, ◌-◌, ◌*◌, Bool, true, false, ◌&&◌, ◌||◌, cond, List, [], ◌∷◌, ◌==◌, nat_le, nat_lt, length, drop, find, slice_index, codes, Option, Some, None, Result, Ok, Err, is_some, unwrap_or}
use Rattle.std.specs.Borrow.{Bor}
use Rattle.std.specs.Char.{is_ascii_digit}
use Rattle.std.specs.List.{list_any}
use Rattle.std.specs.Str.{str_eq_ignore_ascii_case}
use Rattle.text_buffer.specs.Text.{joined}
use Rattle.curves.specs.declared.mean_fn.Curve.{Curve}
use Rattle.curves.specs.MeanFn.{code_of}
use Rattle.svg_axes.specs.Subject.{curve_name}
use Rattle.refit_options.specs.declared.options.OptionFault.{OptionFault}
use Rattle.refit_options.specs.declared.options.OptionError.{OptionError}
use Rattle.refit_options.specs.declared.options.Wanted.{Wanted}
use Rattle.refit_options.specs.declared.options.Page.{Page}
use Rattle.refit_options.specs.declared.options.Flag.{Flag}
use Rattle.refit_options.specs.declared.options.Command.{Command}
use Rattle.refit_options.specs.declared.options.Asked.{Asked}
use Rattle.refit_options.specs.Words.{is_value_name, curve_named, value_place}

-- a word of the command line, as it is lent
abbrev pub LentWord : Type 0
LentWord = Bor (List ℕ)

abbrev pub nothing_asked : Asked
nothing_asked =
    record { awaits = None; page = None; curve = None; effect = None; reml = None; n_agq = None; file = None; svg = None; start = None }

abbrev pub refused_word : LentWord → OptionFault → Result Asked OptionError
refused_word word fault = Err (record { word = word; fault = fault })

-- ---- words

-- capitals and small letters alike
abbrev pub is_flag : List ℕ → Flag → Bool
is_flag word (Flag.Wants Wanted.Curve) = str_eq_ignore_ascii_case (codes "--curve") word
is_flag word (Flag.Wants Wanted.Effect) = str_eq_ignore_ascii_case (codes "--effect") word
is_flag word (Flag.Wants Wanted.Quadrature) = str_eq_ignore_ascii_case (codes "--quadrature") word
is_flag word (Flag.Wants Wanted.Svg) = str_eq_ignore_ascii_case (codes "--svg") word
is_flag word (Flag.Wants Wanted.Start) = str_eq_ignore_ascii_case (codes "--start") word
is_flag word (Flag.Reml true) = str_eq_ignore_ascii_case (codes "--reml") word
is_flag word (Flag.Reml false) = str_eq_ignore_ascii_case (codes "--ml") word
is_flag word (Flag.Prints Page.Help) =
    list_any (λ w. str_eq_ignore_ascii_case w word) (codes "--help" ∷ codes "-h" ∷ codes "help" ∷ [])
is_flag word (Flag.Prints Page.Version) = str_eq_ignore_ascii_case (codes "--version") word

-- the option that a word is
unfoldable pub flag_named : List ℕ → Option Flag
flag_named word =
    find (is_flag word)
    (Flag.Wants Wanted.Curve ∷ Flag.Wants Wanted.Effect ∷ Flag.Wants Wanted.Quadrature ∷ Flag.Wants Wanted.Svg ∷ Flag.Wants Wanted.Start
    ∷ Flag.Reml true ∷ Flag.Reml false ∷ Flag.Prints Page.Help ∷ Flag.Prints Page.Version ∷ [])

-- a whole number of one or two digits, at most 11
abbrev pub up_to_11 : ℕ → Option ℕ
up_to_11 n = cond (nat_le n 11) (Some n) None

unfoldable pub order_named : List ℕ → Option ℕ
order_named [] = None
order_named (b ∷ []) = cond (is_ascii_digit b) (up_to_11 (b - code "0")) None
order_named (a ∷ b ∷ []) = cond (is_ascii_digit a && is_ascii_digit b) (up_to_11 ((a - code "0") * 10 + (b - code "0"))) None
order_named (a ∷ b ∷ c ∷ w) = None

-- a name before .svg
unfoldable pub ends_in_svg : List ℕ → Bool
ends_in_svg word = nat_lt 4 (length word) && str_eq_ignore_ascii_case (codes ".svg") (drop (length word - 4) word)

-- ---- one word more

-- whether an option was said, of those that may be said once; the two methods are one
abbrev pub said_in : Asked → Flag → Bool
said_in o (Flag.Wants Wanted.Curve) = is_some o.curve
said_in o (Flag.Wants Wanted.Effect) = is_some o.effect
said_in o (Flag.Wants Wanted.Quadrature) = is_some o.n_agq
said_in o (Flag.Wants Wanted.Svg) = is_some o.svg
said_in o (Flag.Wants Wanted.Start) = is_some o.start
said_in o (Flag.Reml reml) = is_some o.reml
said_in o (Flag.Prints page) = false

-- the word that an option wants
abbrev pub awaited_curve : Asked → LentWord → Option Curve → Result Asked OptionError
awaited_curve o word (Some curve) = Ok (record o { awaits = None; curve = Some curve })
awaited_curve o word None = refused_word word OptionFault.NoSuchCurve

abbrev pub awaited_order : Asked → LentWord → Option ℕ → Result Asked OptionError
awaited_order o word (Some n) = Ok (record o { awaits = None; n_agq = Some n })
awaited_order o word None = refused_word word OptionFault.NotAnOrder

unfoldable pub awaited_of : Asked → Wanted → LentWord → Result Asked OptionError
awaited_of o Wanted.Curve word = awaited_curve o word (curve_named word.now)
awaited_of o Wanted.Effect word = cond (is_value_name word.now) (Ok (record o { awaits = None; effect = Some word })) (refused_word word OptionFault.NoSuchValue)
awaited_of o Wanted.Quadrature word = awaited_order o word (order_named word.now)
awaited_of o Wanted.Svg word = cond (ends_in_svg word.now) (Ok (record o { awaits = None; svg = Some word })) (refused_word word OptionFault.NotSvg)
awaited_of o Wanted.Start word = Ok (record o { awaits = None; start = Some word })

-- the file's name: not empty, without a `-` before it, and the only one
unfoldable pub file_of : Asked → LentWord → Result Asked OptionError
file_of o word =
    cond (length word.now == 0 || slice_index word.now 0 == code "-") (refused_word word OptionFault.NoSuchOption)
    (cond (is_some o.file) (refused_word word OptionFault.SecondFile) (Ok (record o { file = Some word })))

abbrev pub with_flag : Asked → Flag → LentWord → Asked
with_flag o (Flag.Wants wanted) word = record o { awaits = Some (wanted, word) }
with_flag o (Flag.Reml reml) word = record o { reml = Some reml }
with_flag o (Flag.Prints page) word = record o { page = Some page }

-- a word that is an option; it was said before, or the contrary
unfoldable pub flag_from : Asked → Flag → LentWord → Result Asked OptionError
flag_from o flag word = cond (said_in o flag) (refused_word word OptionFault.SaidBefore) (Ok (with_flag o flag word))

abbrev pub flag_or_file : Asked → LentWord → Option Flag → Result Asked OptionError
flag_or_file o word (Some flag) = flag_from o flag word
flag_or_file o word None = file_of o word

abbrev pub next_word_from : Asked → LentWord → Option (Wanted × LentWord) → Result Asked OptionError
next_word_from o word (Some w) = awaited_of o w.0 word
next_word_from o word None = flag_or_file o word (flag_named word.now)

unfoldable pub next_word : Asked → LentWord → Result Asked OptionError
next_word o word = next_word_from o word o.awaits

-- ---- after the last word: an option whose word is missing, or an effect that is not a value of the curve

abbrev pub effect_place_from : LentWord → Option ℕ → Result ℕ OptionError
effect_place_from word (Some place) = Ok place
effect_place_from word None = Err (record { word = word; fault = OptionFault.NotOfTheCurve })

abbrev pub effect_place_at : Curve → Option LentWord → Result ℕ OptionError
effect_place_at curve None = Ok 0
effect_place_at curve (Some word) = effect_place_from word (value_place (code_of curve) word.now)

unfoldable pub effect_place_in : Asked → Curve → Result ℕ OptionError
effect_place_in o curve = effect_place_at curve o.effect

-- SSlogis, maximum likelihood and no quadrature, if nothing else is said; help and version answer whatever else is asked
abbrev pub fits_at : Asked → Curve → ℕ → Command
fits_at o curve place =
    Command.Fits
    (record {
      settings = record { curve = curve; place = place; reml = unwrap_or o.reml false; n_agq = unwrap_or o.n_agq 1 };
      file = o.file;
      svg = o.svg;
      start = o.start;
    })

abbrev pub page_or_fit : Asked → Curve → ℕ → Option Page → Command
page_or_fit o curve place (Some page) = Command.Prints page
page_or_fit o curve place None = fits_at o curve place

abbrev pub command_of : Asked → Curve → Result ℕ OptionError → Result Command OptionError
command_of o curve (Ok place) = Ok (page_or_fit o curve place o.page)
command_of o curve (Err e) = Err e

abbrev pub command_at_end_from : Asked → Option (Wanted × LentWord) → Result Command OptionError
command_at_end_from o (Some w) = Err (record { word = w.1; fault = OptionFault.WordMissing })
command_at_end_from o None = let curve = unwrap_or o.curve Curve.Sslogis in command_of o curve (effect_place_in o curve)

unfoldable pub command_at_end : Asked → Result Command OptionError
command_at_end o = command_at_end_from o o.awaits

-- ---- a fault in words

unfoldable pub option_fault_text : OptionFault → List ℕ
option_fault_text OptionFault.NoSuchOption = codes "no such option; 'refit help' tells them"
option_fault_text OptionFault.WordMissing = codes "this option wants a word after it; 'refit help' tells which"
option_fault_text OptionFault.NoSuchCurve =
    joined (
    codes "no such curve; there are "
    ∷ curve_name 1
    ∷ codes ", "
    ∷ curve_name 2
    ∷ codes ", "
    ∷ curve_name 3
    ∷ codes " and "
    ∷ curve_name 4
    ∷ [])
option_fault_text OptionFault.NoSuchValue = codes "no curve has a value of this name; 'refit help' tells the names"
option_fault_text OptionFault.NotOfTheCurve = codes "the effect is not a value of the curve; 'refit help' tells the names"
option_fault_text OptionFault.NotAnOrder = codes "the order of quadrature is a whole number from 0 to 11"
option_fault_text OptionFault.SecondFile = codes "a second file; one file is read at a time"
option_fault_text OptionFault.NotSvg = codes "the picture's name must end in .svg"
option_fault_text OptionFault.SaidBefore = codes "this option was given before, or one that contradicts it"
option_fault_text OptionFault.WrongStarts =
    codes "--start wants as many numbers as the curve has values, with commas between them and points for decimals, as in 200,725,350"
