-- What `refit help` prints.
use Rattle.std.specs.Prelude.{ℕ, List, [], ◌∷◌, ◌++◌, drop, codes}
use Rattle.std.specs.List.{flat_map}
use Rattle.text_buffer.specs.Text.{joined}
use Rattle.text_lines.specs.Lines.{left_text}
use Rattle.svg_axes.specs.Subject.{curve_name, value_names}
use Rattle.refit_options.specs.Words.{value_name_text, equation}

unfoldable pub help_beginning_text : List ℕ
help_beginning_text =
    codes
    "refit: fits a dosing curve to weighed doses, with each canister's own curve\n\n  refit [FILE] [options]    fits the readings of FILE; without FILE, R's data set Orange\n  refit help                this text; so do -h and --help\n  refit --version           the version\n\nA line of the file is a reading: dose,grams,canister; a semicolon, a tab or spaces may stand for the comma. A number\nhas up to 15 digits, and a point before its decimals. The canister is a number or a name of up to 32 letters, digits,\n'-', '.' and '_'. A line that begins with # is a comment. The first line may be a header; a name in it that is known, as\ndose, steps, age or grams, weight or canister, must stand over its column. At most 512 readings and 32 canisters.\nA run that is refused says why on standard error and writes nothing to standard output. There is no exit status.\n\n"

-- a curve's option: its name and its equation
unfoldable pub curve_option_text : ℕ → List ℕ
curve_option_text code = joined (codes "  --curve " ∷ left_text 12 (curve_name code) ∷ equation code ∷ [])

-- the names of a curve's values with commas between
unfoldable pub start_names_text : ℕ → List ℕ
start_names_text code = drop 1 (flat_map (λ name. codes "," ++ name) (value_names code))

unfoldable pub fit_options_text : List ℕ
fit_options_text =
    joined (
    curve_option_text 1
    ∷ codes ": this one if none is named\n"
    ∷ curve_option_text 2
    ∷ codes "\n"
    ∷ curve_option_text 3
    ∷ codes "\n"
    ∷ curve_option_text 4
    ∷ codes "\n  --effect NAME       the value that each canister has its own of: "
    ∷ value_name_text 1 0
    ∷ codes ", "
    ∷ value_name_text 2 1
    ∷ codes ", "
    ∷ value_name_text 3 1
    ∷ codes ", ..; if none is named the curve's first\n  --start a,b,c       start values by hand: "
    ∷ start_names_text 1
    ∷ codes " or "
    ∷ start_names_text 2
    ∷ codes " or "
    ∷ start_names_text 3
    ∷ codes " or "
    ∷ start_names_text 4
    ∷ codes "\n  --ml, --reml        maximum likelihood, if nothing is said, or restricted maximum likelihood\n"
    ∷ [])

unfoldable pub other_options_text : List ℕ
other_options_text =
    codes
    "  --quadrature N      the order of quadrature, 0 to 11; 0 or 1, if nothing is said, is none. CAUTION: the others\n                      follow the published Rust to the last bit, and its correction moves theta far away from where\n                      other programs find it. Leave it out unless you want just those numbers.\n  --svg NAME.svg      also a picture of the readings and each canister's curve; a file of that name is overwritten\n\n"

unfoldable pub help_theta_text : List ℕ
help_theta_text =
    codes
    "theta says how freely a canister's own value may differ: an effect b adds (b / theta)^2 to the squared differences.\nSo it is the effects' spread measured in standard deviations of a reading: spread = theta * root of sigma2.\nIt is searched from 0.2 to 20 in a bracket that ends at most 0.0001 wide, with at most 60 narrowings. Each fit may\ntake 200 rounds. The values of the curve have no bounds. What a report warns of stands between *** and ***, and in the\npicture's title: do not use such numbers before you have read it.\n"

unfoldable pub help_text : List ℕ
help_text = help_beginning_text ++ (fit_options_text ++ (other_options_text ++ help_theta_text))
