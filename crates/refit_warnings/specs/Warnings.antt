-- What a report of a refit has to warn of.
use Rattle.std.specs.Prelude.{ℕ, ◌+◌, ◌-◌, Bool, false, not, ◌&&◌, ◌||◌, cond, List, eqb, ltb, Float, length, get_or, take}
use Rattle.std.specs.List.{list_any}
use Rattle.std.specs.Float.{nan}
use Rattle.std.specs.Float.Ieee.{lt, eq}
use Rattle.math.specs.Basic.{add, sub, mul, div, bits, zero, one}
use Rattle.math.specs.Loops.{iter}
use Rattle.svg_axes.specs.Subject.{SubjectLists, subject_lists}
use Rattle.refit_calculation.specs.declared.Answer.{Answer}
use Rattle.refit_warnings.specs.declared.Sum.{Sum}
use Rattle.refit_warnings.specs.declared.findings.Findings.{Findings}
use Rattle.refit_warnings.specs.declared.findings.Outcome.{Outcome}
use Rattle.refit_warnings.specs.declared.findings.Warning.{Warning}
use Rattle.refit_warnings.specs.declared.findings.Warning.TheVariants.{Unmoved, Search, Fit, Step, Nothing, Few, Low, High, Alone, Quadrature}

-- Findings of the code, with their slices' lists
pub record FindingsLists : Type 0 where
  pub subject : SubjectLists
  pub starts : List Float
  pub n_agq : ℕ
  pub refit : Answer

-- the findings of an outcome, where it is an answer
abbrev pub found_of : Outcome → ℕ → Answer → Findings
found_of o n_agq refit = record { subject = o.subject; starts = o.starts; n_agq = n_agq; refit = refit }

abbrev pub findings_lists : Findings → FindingsLists
findings_lists f = record { subject = subject_lists f.subject; starts = f.starts.now; n_agq = f.n_agq; refit = f.refit }

-- ---- a constant for each canister, the mean of its grams

abbrev pub added_of : Sum → Bool → Float → Sum
added_of s is grams = cond is (record { count = add s.count one; total = add s.total grams }) s

-- the readings of canister g: how many, as a float, and the sum of their grams
unfoldable pub canister_sum : List ℕ → List Float → ℕ → Sum
canister_sum groups grams g = iter (λ i s. added_of s (eqb (get_or groups i 0) g) (get_or grams i nan)) (length groups) (record { count = zero; total = zero })

abbrev pub canister_mean : List ℕ → List Float → ℕ → Float
canister_mean groups grams g = div (canister_sum groups grams g).total (canister_sum groups grams g).count

abbrev pub square_of : Float → Float
square_of d = mul d d

-- the sum of the squared differences from it
unfoldable pub constant_rss : List ℕ → List Float → Float
constant_rss groups grams = iter (λ i s. add s (square_of (sub (get_or grams i nan) (canister_mean groups grams (get_or groups i 0))))) (length groups) zero

-- the fit's rss is no lower; a millionth is taken for rounding
abbrev pub explains_nothing : Float → List ℕ → List Float → Bool
explains_nothing rss groups grams = not (lt rss (mul (constant_rss groups grams) (bits 0x3fef_fffd_e721_0be9)))

-- ---- the curve's values

-- value i is where it started
unfoldable pub is_unmoved : List Float → List Float → ℕ → Bool
is_unmoved starts values i = ltb i (length values) && eq (get_or values i nan) (get_or starts i nan)

-- a trial puts a scal that would fall below 1e-6 there: what ends so, below 2e-6, is a step and no fit, though it may have converged
unfoldable pub is_step : ℕ → List Float → Bool
is_step code values =
    let floor = bits 0x3ec0_c6f7_a0b5_ed8d in
    cond (eqb code 1) (lt (get_or values 2 nan) floor) (cond (eqb code 4) (lt (get_or values 3 nan) floor) false)

-- ---- the readings

-- no dose before dose i is the same
abbrev pub is_new_dose : List Float → ℕ → Bool
is_new_dose doses i = not (list_any (λ d. eq d (get_or doses i nan)) (take i doses))

abbrev pub counted_of : ℕ → Bool → ℕ
counted_of n is = cond is (n + 1) n

-- how many different doses there are
unfoldable pub distinct_doses : List Float → ℕ
distinct_doses doses = iter (λ i n. counted_of n (is_new_dose doses i)) (length doses) 0

-- fewer different doses than the curve's p values, or no more readings than those and the canisters' differences
unfoldable pub too_few_readings : List Float → ℕ → ℕ → Bool
too_few_readings doses p group_count = ltb (distinct_doses doses) p || ltb (length doses - p) group_count

-- ---- all of them

-- A value is where it started; the search, the fit did not converge; a step; nothing explained; too few readings; theta below 0.201, above 19.999, at an
-- end of its range; one canister; quadrature
unfoldable pub warns : FindingsLists → Warning → Bool
warns r (Unmoved i) = is_unmoved r.starts r.subject.values i
warns r Search = not r.refit.search.converged
warns r Fit = not r.refit.fit.converged
warns r Step = is_step r.subject.code r.subject.values
warns r Nothing = explains_nothing r.refit.fit.rss r.subject.groups r.subject.grams
warns r Few = too_few_readings r.subject.doses (length r.subject.values) (length r.subject.effects)
warns r Low = ltb 1 (length r.subject.effects) && lt r.refit.search.theta (bits 0x3fc9_ba5e_353f_7cee)
warns r High = ltb 1 (length r.subject.effects) && lt (bits 0x4033_ffbe_76c8_b439) r.refit.search.theta
warns r Alone = eqb (length r.subject.effects) 1
warns r Quadrature = ltb 1 r.n_agq
