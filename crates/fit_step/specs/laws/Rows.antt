-- Values of the definitions that tell near misses apart, computed. Assumes nothing.
use Rattle.std.specs.Prelude.{ℕ, ◌^◌, ◌≡◌, refl, true, false, List, [], ◌∷◌, Float}
use Rattle.std.specs.Float.Ieee.{round, of_bits}
use Rattle.std.specs.Float.{inf}
use Rattle.std.specs.Float.Ieee as Ieee
use Rattle.math.specs.Basic.{abs_of, max_of, min_of, is_finite, one, half}
use Rattle.math.specs.Lists.{largest_of}
use Rattle.math.specs.Loops.{iter}
use Rattle.math.specs.Rationals.{over, minus, num}
use Rattle.curves.specs.MeanFn.{n_params_of, scal_index_of}
use Rattle.fit_refusals.specs.Problem.{problem_of, is_scalar}
use Rattle.fit_step.specs.declared.State.{State}
use Rattle.fit_step.specs.Lists.{each}
use Rattle.fit_step.specs.Constants.{1e-2, 1e-4}
use Rattle.fit_step.specs.Project.{project_of, slot_of, project_groups}
use Rattle.fit_step.specs.Trial.{on_scal, started, start_state, moved_of, values_tried, effects_tried, tried_of, step_of, lambda_of, lowered, raised}

-- `unfolding state_computes` opens all that the values of this crate are computed by
unfoldable pub state_computes : Unit {0}
unfolding iter abs_of max_of min_of is_finite Ieee.add Ieee.sub Ieee.mul Ieee.lt Ieee.eq Ieee.is_nan n_params_of each scal_index_of project_of slot_of project_groups on_scal started start_state moved_of values_tried effects_tried tried_of largest_of step_of lambda_of lowered raised
state_computes = tt

-- 1 / 10 ^ n, and no bound
abbrev tenth : ℕ → Float
tenth n = over 1 (10 ^ n)

abbrev low : Float
low = inf true

abbrev high : Float
high = inf false

-- a start, a trial's values and projected effects by what each reads of a problem
abbrev starts_at : ℕ → List Float → List Float → List Float → State
starts_at code starts lower upper = start_state (problem_of code [] [] [] 0 [] starts lower upper [] [] [])

abbrev tries_at : ℕ → List Float → List Float → List Float → Float → List Float → List Float
tries_at code lower upper d alpha values = values_tried (problem_of code [] [] [] 0 [] [] lower upper [] [] []) d alpha values

abbrev projects_at : List ℕ → ℕ → List Float → List Float → List Float → List Float → List Float
projects_at places group_count lower upper values b = project_groups (problem_of 1 [] [] [] group_count places [] [] [] lower upper []) values b

-- a scal of 0 becomes 350 before the projection; -1 stays; on curve 4 it is the fourth value; curve 2 has none
unfoldable pub starts : List (List Float)
starts =
    (starts_at 1 (num 8 ∷ num 2 ∷ num 0 ∷ []) (low ∷ low ∷ num 1 ∷ []) (high ∷ high ∷ num 10 ∷ [])).values
    ∷ (starts_at 1 (num 8 ∷ num 2 ∷ minus 1 1 ∷ []) (low ∷ low ∷ low ∷ []) (high ∷ high ∷ high ∷ [])).values
    ∷ (starts_at 4 (num 8 ∷ num 2 ∷ num 0 ∷ num 0 ∷ []) (low ∷ low ∷ low ∷ low ∷ []) (high ∷ high ∷ high ∷ high ∷ [])).values
    ∷ (starts_at 2 (num 8 ∷ num 2 ∷ num 0 ∷ []) (low ∷ low ∷ low ∷ []) (high ∷ high ∷ high ∷ [])).values
    ∷ []

pub starts_are : starts
    ≡ (num 8 ∷ num 2 ∷ num 10 ∷ num 0 ∷ [])
    ∷ (num 8 ∷ num 2 ∷ minus 1 1 ∷ num 0 ∷ [])
    ∷ (num 8 ∷ num 2 ∷ num 0 ∷ num 350 ∷ [])
    ∷ (num 8 ∷ num 2 ∷ num 0 ∷ num 0 ∷ [])
    ∷ []
unfolding state_computes starts of_bits round
starts_are = refl

-- in a trial the floor of scal comes before the projection
unfoldable pub trials : List (List Float)
trials =
    tries_at 1 (low ∷ low ∷ low ∷ []) (high ∷ high ∷ tenth 7 ∷ []) (num 1 ∷ num 0 ∷ minus 9 1 ∷ []) one (num 8 ∷ num 2 ∷ num 3 ∷ [])
    ∷ tries_at 4 (low ∷ low ∷ low ∷ low ∷ []) (high ∷ high ∷ high ∷ high ∷ []) (num 0 ∷ num 0 ∷ minus 9 1 ∷ minus 9 1 ∷ []) one (num 8 ∷ num 2 ∷ num 3 ∷ num 3 ∷ [])
    ∷ []

pub trials_are : trials ≡ (num 9 ∷ num 2 ∷ tenth 7 ∷ []) ∷ (num 8 ∷ num 2 ∷ minus 6 1 ∷ tenth 6 ∷ []) ∷ []
unfolding state_computes trials of_bits round
trials_are = refl

-- an effect keeps its bits where neither group bound of its value is finite; else it is stored as the clamped sum less the value, clamped or not
unfoldable pub projected : List (List Float)
projected =
    projects_at (0 ∷ []) 2 (low ∷ []) (high ∷ []) (num 18014398509481984 ∷ []) (num 1 ∷ num 3 ∷ [])
    ∷ projects_at (0 ∷ []) 2 (num 0 ∷ []) (high ∷ []) (num 18014398509481984 ∷ []) (num 1 ∷ num 3 ∷ [])
    ∷ projects_at (1 ∷ 0 ∷ []) 2 (num 3 ∷ low ∷ []) (num 7 ∷ high ∷ []) (num 5 ∷ num 5 ∷ []) (num 9 ∷ num 9 ∷ minus 9 1 ∷ minus 9 1 ∷ [])
    ∷ []

pub projected_are : projected ≡ (num 1 ∷ num 3 ∷ []) ∷ (num 0 ∷ num 4 ∷ []) ∷ (num 9 ∷ num 2 ∷ minus 9 1 ∷ minus 2 1 ∷ []) ∷ []
unfolding state_computes projected of_bits round
projected_are = refl

-- lambda at the start: 1e-2 only for curve 2 with one effect
unfoldable pub lambdas : List Float
lambdas = lambda_of 2 1 ∷ lambda_of 2 2 ∷ lambda_of 1 1 ∷ []

pub lambdas_are : lambdas ≡ 1e-2 ∷ 1e-4 ∷ 1e-4 ∷ []
unfolding lambdas lambda_of is_scalar
lambdas_are = refl

-- the largest size of a direction, and that of half of it
unfoldable pub sizes : List Float
sizes =
    largest_of (num 1 ∷ minus 4 1 ∷ num 3 ∷ [])
    ∷ step_of half (num 1 ∷ minus 4 1 ∷ num 3 ∷ [])
    ∷ []

pub sizes_are : sizes ≡ num 4 ∷ num 2 ∷ []
unfolding state_computes sizes of_bits round
sizes_are = refl
