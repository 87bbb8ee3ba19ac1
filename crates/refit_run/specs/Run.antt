-- A run: the refit of readings, its report, and the picture if one is asked for.
use Rattle.std.specs.Prelude.{ℕ, ◌≤◌, cond, ◌||◌, List, [], ◌∷◌, nat_lt, Float, length, take, replicate, is_some, unwrap_or, Result, Ok, Err}
use Rattle.math.specs.Basic.{zero}
use Rattle.curves.specs.MeanFn.{code_of, n_params_of}
use Rattle.text_buffer.specs.declared.Span.{Span}
use Rattle.text_buffer.specs.Text.{Written, wrote}
use Rattle.read_table.specs.declared.fault.TableFault.{TableFault}
use Rattle.svg_axes.specs.Subject.{SubjectLists}
use Rattle.svg_picture.specs.Picture.{picture_text}
use Rattle.refit_calculation.specs.declared.Answer.{Answer}
use Rattle.refit_calculation.specs.declared.Refused.{Refused}
use Rattle.refit_calculation.specs.Refit.{Refitted, request_of, refit_of}
use Rattle.refit_options.specs.declared.options.Task.{Task}
use Rattle.refit_warnings.specs.Told.{first_warning, warning_title}
use Rattle.refit_report.specs.Report.{report_text}
use Rattle.refit_run.specs.declared.readings.Readings.{Readings}

-- Readings of the code, with their slices' lists
pub record ReadingsLists : Type 0 where
  pub text : List ℕ
  pub doses : List Float
  pub grams : List Float
  pub groups : List ℕ
  pub names : List Span
  pub canisters : ℕ

abbrev pub readings_lists : Readings → ReadingsLists
readings_lists r =
    record { text = r.text.now; doses = r.doses.now; grams = r.grams.now; groups = r.groups.now; names = r.names.now; canisters = r.canisters }

-- more readings than 512 or than a list has, or more canisters than 32
unfoldable pub readings_fault : ReadingsLists → Result (Unit {0}) TableFault
readings_fault r =
    let n = length r.doses in
    cond (nat_lt 512 n || nat_lt (length r.grams) n || nat_lt (length r.groups) n) (Err TableFault.TooManyReadings)
    (cond (nat_lt 32 r.canisters) (Err TableFault.TooManyCanisters) (Ok tt))

-- what a run without a fault has
pub record InReach (r : ReadingsLists) : Type 0 where
  pub few : length r.doses ≤ 512
  pub all_grams : length r.doses ≤ length r.grams
  pub all_groups : length r.doses ≤ length r.groups
  pub few_canisters : r.canisters ≤ 32

-- the picture, where one is asked for and there is a fit
unfoldable pub picture_if_asked : Task → SubjectLists → List Float → Result Answer Refused → Written → Written
picture_if_asked o subject starts (Err e) svg = svg
picture_if_asked o subject starts (Ok refit) svg =
    cond o.picture
    (wrote svg (picture_text subject o.example (warning_title (first_warning (record { subject = subject; starts = starts; n_agq = o.settings.n_agq; refit = refit })))))
    svg

-- the report and the picture of a refit
abbrev pub report_and_picture : Task → SubjectLists → List Float → Result Answer Refused → Written → Written → Written × Written
report_and_picture o subject starts answer out svg = (wrote out (report_text o subject starts answer), picture_if_asked o subject starts answer svg)

-- what is shown of a refit
abbrev pub refitted_subject : Task → ReadingsLists → Refitted → SubjectLists
refitted_subject o r t =
    record {
      code = code_of o.settings.curve;
      place = o.settings.place;
      doses = r.doses;
      grams = take (length r.doses) r.grams;
      groups = take (length r.doses) r.groups;
      text = r.text;
      names = r.names;
      values = t.values;
      effects = t.effects;
    }

unfoldable pub refit_told_from : Task → ReadingsLists → List Float → List Float → List Float → Written → Written → Written × Written
refit_told_from o r starts values effects out svg =
    let t = refit_of
    (request_of (code_of o.settings.curve) r.doses (take (length r.doses) r.grams) (take (length r.doses) r.groups) (o.settings.place ∷ []) o.settings.reml o.settings.n_agq)
    (is_some o.given) starts values effects in
    report_and_picture o (refitted_subject o r t) t.starts t.answer out svg

-- of the start values those that are given, as many as the curve has
unfoldable pub refit_told : Task → ReadingsLists → Written → Written → Written × Written
refit_told o r out svg =
    let k = n_params_of (code_of o.settings.curve) in
    refit_told_from o r (take k (unwrap_or o.given (replicate 4 zero))) (replicate k zero) (replicate r.canisters zero) out svg

-- what came of it, and the two texts; a fault writes nothing
abbrev pub Ran : Type 0
Ran = Result (Unit {0}) TableFault × Written × Written

abbrev pub run_unless_fault : Result (Unit {0}) TableFault → Written × Written → Written → Written → Ran
run_unless_fault (Ok u) told out svg = (Ok tt, told.0, told.1)
run_unless_fault (Err e) told out svg = (Err e, out, svg)

unfoldable pub refit_run_of : Task → ReadingsLists → Written → Written → Ran
refit_run_of o r out svg = run_unless_fault (readings_fault r) (refit_told o r out svg) out svg
