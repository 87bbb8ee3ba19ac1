-- The report: what was asked, the start values, theta, the fit, and then the tables.
use Rattle.std.specs.Prelude.{ℕ, Bool, false, cond, List, [], ◌∷◌, ◌++◌, eqb, ltb, Float, length, drop, is_some, Result, Ok, Err, codes}
use Rattle.math.specs.Basic.{mul}
use Rattle.math.specs.Sqrt.{sqrt_of}
use Rattle.refusal.specs.Refusal.{number_of}
use Rattle.text_buffer.specs.Text.{joined}
use Rattle.text_lines.specs.Lines.{left_text, template_text}
use Rattle.svg_axes.specs.Subject.{SubjectLists, value_names}
use Rattle.refit_calculation.specs.declared.Answer.{Answer}
use Rattle.refit_calculation.specs.declared.Refused.{Refused}
use Rattle.refit_calculation.specs.declared.Step.{Step}
use Rattle.refit_calculation.specs.declared.Step.TheVariants.{Start, Search, Fit}
use Rattle.refit_options.specs.declared.options.Task.{Task}
use Rattle.refit_options.specs.Words.{value_name_text, refusal_text}
use Rattle.refit_options.specs.Words as Words
use Rattle.refit_warnings.specs.Warnings.{FindingsLists}
use Rattle.refit_warnings.specs.Told.{warning_lines_text, first_warning}
use Rattle.refit_tables.specs.Tables.{canisters_table_text, readings_table_text}

-- ---- what was asked

unfoldable pub asked_text : SubjectLists → List ℕ
asked_text s =
    joined (
    template_text (codes "Refit\n  readings      %n, of %n canisters\n  curve         ") (length s.doses ∷ length s.effects ∷ []) []
    ∷ Words.curve_equation_text s.code
    ∷ codes "\n  effect        each canister has its own "
    ∷ value_name_text s.code s.place
    ∷ codes "\n"
    ∷ [])

-- quadrature is asked for where the order is above 1
unfoldable pub quadrature_text : ℕ → List ℕ
quadrature_text order = cond (ltb 1 order) (template_text (codes "  quadrature    order %n\n") (order ∷ []) []) []

unfoldable pub report_beginning_text : Task → SubjectLists → Bool → List ℕ
report_beginning_text o s warned =
    joined (
    cond o.example
    (codes
    "No file was named: this is R's data set Orange, with the age in days as the dose, the circumference\nin mm as the grams and the tree as the canister. 'refit help' tells what else can be asked.\n\n")
    []
    ∷ asked_text s
    ∷ cond o.settings.reml (codes "  method        restricted maximum likelihood\n") (codes "  method        maximum likelihood\n")
    ∷ quadrature_text o.settings.n_agq
    ∷ cond warned (codes "  *** WARNINGS: read them at the end ***\n") []
    ∷ [])

-- ---- start values, and a curve's values

-- a line for each value of the curve: its name, and the next number, `?` where none is left
unfoldable pub value_line : List ℕ → List Float → List ℕ
value_line name left = joined (codes "  " ∷ left_text 14 name ∷ template_text (codes "%g\n") [] left ∷ [])

unfoldable pub value_lines : List (List ℕ) → List Float → List ℕ
value_lines [] left = []
value_lines (name ∷ names) left = value_line name left ++ value_lines names (drop 1 left)

unfoldable pub values_text : ℕ → List Float → List ℕ
values_text code values = value_lines (value_names code) values

-- which start values were not taken as the self-start answers them, and why
unfoldable pub note_text : ℕ → List ℕ
note_text code =
    cond (eqb code 1)
    (joined (
    codes "  Note: for readings that rise the self-start answers this "
    ∷ value_name_text 1 2
    ∷ codes " with a minus sign, from which a fit ends in a step.\n  The sign was turned here before the search.\n"
    ∷ []))
    (joined (
    codes "  Note: the self-start answers "
    ∷ value_name_text 2 2
    ∷ codes
    " as a rate, ln 2 by the dose at half of the way, and the curve takes the rate's logarithm.\n  The logarithm was taken here before the search.\n"
    ∷ []))

unfoldable pub starts_text : ℕ → Bool → Bool → List Float → List ℕ
starts_text code given adjusted starts =
    joined (
    cond given (codes "\nStart values, given by --start\n") (codes "\nStart values, from the readings\n")
    ∷ values_text code starts
    ∷ cond adjusted (note_text code) []
    ∷ [])

-- ---- theta and the fit

-- a search or a fit that has not converged is told loudly
abbrev pub converged_text : Bool → List ℕ
converged_text is = cond is (codes "  converged\n") (codes "  *** NOT CONVERGED: do not use these numbers ***\n")

unfoldable pub report_theta_text : Answer → List ℕ
report_theta_text r =
    joined (
    template_text
    (codes "\nTheta, searched from 0.2 to 20\n  theta         %g\n  criterion     %g\n  search        %n narrowings, %n fits\n")
    (r.search.narrowings ∷ r.search.fits ∷ []) (r.search.theta ∷ r.search.criterion ∷ [])
    ∷ converged_text r.search.converged
    ∷ [])

-- the spread of the canisters, which is theta times the root of sigma2 but for SSasymp, whose criterion is another
unfoldable pub spread_of : ℕ → ℕ → Float → List ℕ
spread_of code place x =
    joined (
    template_text (codes "  canisters'    %g   spread of their ") [] (x ∷ [])
    ∷ value_name_text code place
    ∷ codes ": theta times the root of sigma2\n"
    ∷ [])

unfoldable pub spread_text : ℕ → ℕ → Float → List ℕ
spread_text code place x = cond (eqb code 2) [] (spread_of code place x)

unfoldable pub fit_text : ℕ → ℕ → Answer → List ℕ
fit_text code place r =
    let root = sqrt_of r.sigma2 in
    joined (
    template_text
    (codes
    "\nThe fit at theta\n  rounds        %n, with %n trials\n  rss           %g   the sum of the squared differences\n  sigma2        %g   the variance of a reading; its root is %g\n")
    (r.fit.rounds ∷ r.fit.trials ∷ []) (r.fit.rss ∷ r.sigma2 ∷ root ∷ [])
    ∷ spread_text code place (mul r.search.theta root)
    ∷ converged_text r.fit.converged
    ∷ [])

-- ---- the curve

unfoldable pub report_curve_text : SubjectLists → List ℕ
report_curve_text s = joined (codes "\nThe curve of all canisters\n" ∷ values_text s.code s.values ∷ [])

-- ---- the warnings, last, where a screen ends

unfoldable pub warnings_section_text : FindingsLists → List ℕ
warnings_section_text r = joined (codes "\nWarnings\n" ∷ warning_lines_text r ∷ [])

unfoldable pub warnings_text : FindingsLists → List ℕ
warnings_text r = cond (is_some (first_warning r)) (warnings_section_text r) []

-- ---- a refusal: which step was refused, by which number, and what that means

unfoldable pub step_text : Step → List ℕ
step_text Start = codes "start values"
step_text Search = codes "search"
step_text Fit = codes "fit"

unfoldable pub refused_text : Refused → List ℕ
refused_text e =
    joined (
    codes "\n*** REFUSED: no "
    ∷ step_text e.step
    ∷ template_text (codes ". The library answers number %n: ") (number_of e.refusal ∷ []) []
    ∷ refusal_text e.refusal
    ∷ codes " ***\n"
    ∷ [])

-- ---- all of it

unfoldable pub results_text : FindingsLists → List ℕ
results_text r =
    joined (
    report_theta_text r.refit
    ∷ fit_text r.subject.code r.subject.place r.refit
    ∷ report_curve_text r.subject
    ∷ canisters_table_text r.subject
    ∷ readings_table_text r.subject
    ∷ warnings_text r
    ∷ [])

unfoldable pub told_text : Task → FindingsLists → List ℕ
told_text o r =
    joined (
    report_beginning_text o r.subject (is_some (first_warning r))
    ∷ starts_text r.subject.code (is_some o.given) r.refit.adjusted r.starts
    ∷ results_text r
    ∷ [])

-- without start values nothing more is told than the refusal; a refusal after them comes below them
abbrev pub begun_by : Step → List ℕ → List ℕ
begun_by Start t = []
begun_by Search t = t
begun_by Fit t = t

unfoldable pub begun_text : ℕ → Bool → List Float → Refused → List ℕ
begun_text code given starts e = begun_by e.step (starts_text code given e.adjusted starts)

unfoldable pub without_text : Task → SubjectLists → List Float → Refused → List ℕ
without_text o s starts e =
    joined (report_beginning_text o s false ∷ begun_text s.code (is_some o.given) starts e ∷ refused_text e ∷ [])

unfoldable pub report_text : Task → SubjectLists → List Float → Result Answer Refused → List ℕ
report_text o s starts (Ok refit) = told_text o (record { subject = s; starts = starts; n_agq = o.settings.n_agq; refit = refit })
report_text o s starts (Err e) = without_text o s starts e
