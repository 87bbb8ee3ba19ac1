-- What follows the start values. Assumes nothing.
use mathlib.Core.Path.{◌≡◌, refl}
use mathlib.Core.Bool.{Bool, true, false, cond}
use mathlib.Core.List.{List}
use lib.Ieee.{Float}
use Rattle.curves.specs.MeanFn.{no_curve}
use Rattle.fit_faults.specs.Tests.{bad_code}
use Rattle.fit_refusals.specs.Faults.{search_refusal_of, first_from}
use Rattle.self_start.specs.Start.{start_fault, call_of}
use Rattle.refit_calculation.specs.declared.Step.TheVariants as Step
use Rattle.refit_calculation.specs.Refit.{RequestLists, refused_at, with_search, with_starts, self_started, refit_of}

-- a code that no curve has is refused by the first step, which given start values leave out
pub no_curve_refused : (r : RequestLists) (given : Bool) (starts values b : List Float) → no_curve r.code ≡ true
    → refit_of r given starts values b ≡ refused_at (cond given Step.Search Step.Start) 1 false starts values b
unfolding refit_of with_starts with_search self_started start_fault call_of search_refusal_of first_from bad_code
no_curve_refused r true starts values b h = rw h refl
no_curve_refused r false starts values b h = rw h refl
