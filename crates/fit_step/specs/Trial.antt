-- The start of a fit, the state that a trial tries, and the lambdas (in `inner_gauss_newton_status`).
use Rattle.std.specs.Prelude.{ℕ, ◌+◌, ◌*◌, cond, Option, Some, None, List, map, Float, get_or, replicate}
use Rattle.std.specs.Float.{nan}
use Rattle.std.specs.Float.Ieee.{lt}
use Rattle.math.specs.Basic.{add, mul, zero, abs_of, max_of, min_of}
use Rattle.math.specs.Lists.{largest_of}
use Rattle.math.specs.Rationals.{1e-8}
use Rattle.curves.specs.MeanFn.{scal_index_of}
use Rattle.fit_refusals.specs.Problem.{Problem, p, k, is_scalar}
use Rattle.fit_step.specs.declared.State.{State}
use Rattle.fit_step.specs.Lists.{alter, each}
use Rattle.fit_step.specs.Constants.{ten, three_tenths, three_fifty, 1e6, 1e-2, 1e-4, 1e-6}
use Rattle.fit_step.specs.Project.{project_of, project_groups}

-- ---- scal

-- a change of one place, where there is one
abbrev pub at_place : Option ℕ → (Float → Float) → List Float → List Float
at_place None f values = values
at_place (Some i) f values = alter values i f

-- a change to scal, on the curves of which `needs_positive_scal` says that they have one
unfoldable pub on_scal : ℕ → (Float → Float) → List Float → List Float
on_scal code f values = at_place (scal_index_of code) f values

-- at the start a size below 1e-8 becomes 350, in a trial a value below 1e-6 becomes 1e-6
abbrev pub adjusted : Float → Float
adjusted v = cond (lt (abs_of v) 1e-8) three_fifty v

abbrev pub floored : Float → Float
floored v = cond (lt v 1e-6) 1e-6 v

-- the first n numbers of l, moved by alpha times those of d from place a on
abbrev pub moved_at : ℕ → List Float → Float → ℕ → Float → Float
moved_at a d alpha j x = add x (mul alpha (get_or d (a + j) nan))

unfoldable pub moved_of : ℕ → ℕ → List Float → Float → List Float → List Float
moved_of n a d alpha l = each (moved_at a d alpha) n l

module _ (q : Problem) where
  -- ---- the start: adjusted, then projected; the effects are zero and are not projected

  abbrev pub start_at : ℕ → Float → Float
  start_at i v = get_or q.starts i nan

  unfoldable pub started : List Float
  started = each start_at (p q) (replicate 4 zero)

  unfoldable pub start_state : State
  start_state = record { values = project_of q (on_scal q.code adjusted started); effects = replicate 64 zero }

  -- ---- a trial

  -- the values: moved, then the floor of scal, then the projection
  unfoldable pub values_tried : List Float → Float → List Float → List Float
  values_tried d alpha values = project_of q (on_scal q.code floored (moved_of (p q) 0 d alpha values))

  -- the effects, projected by the trial's values
  unfoldable pub effects_tried : List Float → List Float → Float → List Float → List Float
  effects_tried values d alpha b = project_groups q values (moved_of (q.group_count * k q) (p q) d alpha b)

  -- the state that length alpha of the direction d tries, from the state s
  unfoldable pub tried_of : State → List Float → Float → State
  tried_of s d alpha =
      let values = values_tried d alpha s.values in
      record { values = values; effects = effects_tried values d alpha s.effects }

-- ---- the size of a step, alpha times d (that of a proposal d is `largest_of`)

unfoldable pub step_of : Float → List Float → Float
step_of alpha d = largest_of (map (mul alpha) d)

-- ---- lambda: at the start, 1e-2 for curve 2 with one effect; after a win; after a failed attempt

unfoldable pub lambda_of : ℕ → ℕ → Float
lambda_of code k = cond (is_scalar code k) 1e-2 1e-4

abbrev pub first_lambda : Problem → Float
first_lambda q = lambda_of q.code (k q)

unfoldable pub lowered : Float → Float
lowered lambda = max_of (mul lambda three_tenths) 1e-8

unfoldable pub raised : Float → Float
raised lambda = min_of (mul lambda ten) 1e6
