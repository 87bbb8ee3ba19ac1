-- What a report and a picture are about: a Subject of the code with its slices' lists, and its curve's code.
use Rattle.std.specs.Prelude.{ℕ, cond, List, [], ◌∷◌, ◌==◌, get_or, slice_get, Float, Option, Some, None, codes}
use Rattle.std.proofs.Math.Seq.{slice}
use Rattle.text_buffer.specs.declared.Span.{Span}
use Rattle.curves.specs.MeanFn.{code_of}
use Rattle.svg_axes.specs.declared.subject.Subject.{Subject}

pub record SubjectLists : Type 0 where
  pub code : ℕ
  pub place : ℕ
  pub doses : List Float
  pub grams : List Float
  pub groups : List ℕ
  pub text : List ℕ
  pub names : List Span
  pub values : List Float
  pub effects : List Float

abbrev pub subject_lists : Subject → SubjectLists
subject_lists s = record {
  code = code_of s.curve;
  place = s.place;
  doses = s.doses.now;
  grams = s.grams.now;
  groups = s.groups.now;
  text = s.text.now;
  names = s.names.now;
  values = s.values.now;
  effects = s.effects.now;
}

-- canister g's name stands in the text; it is empty where there is none
abbrev pub name_in : List ℕ → Option Span → List ℕ
name_in text (Some span) = slice span.start span.stop text
name_in text None = []

unfoldable pub canister_name : SubjectLists → ℕ → List ℕ
canister_name s g = name_in s.text (slice_get s.names g)

-- a curve's name, by its code, from 1
abbrev pub curve_name : ℕ → List ℕ
curve_name code = get_or ([] ∷ codes "SSlogis" ∷ codes "SSasymp" ∷ codes "SSmicmen" ∷ codes "SSfpl" ∷ []) code []

-- the names of a curve's values, which R's users know
unfoldable pub value_names : ℕ → List (List ℕ)
value_names code =
    cond (code == 1) (codes "Asym" ∷ codes "xmid" ∷ codes "scal" ∷ [])
    (cond (code == 2) (codes "Asym" ∷ codes "R0" ∷ codes "lrc" ∷ [])
    (cond (code == 3) (codes "Vm" ∷ codes "K" ∷ [])
    (cond (code == 4) (codes "A" ∷ codes "B" ∷ codes "xmid" ∷ codes "scal" ∷ []) [])))
