-- To project is to clamp as the source does.
use Rattle.std.specs.Prelude.{ℕ, ◌+◌, ◌*◌, cond, ◌||◌, List, Float, get_or}
use Rattle.std.specs.Float.{nan}
use Rattle.std.specs.Float.Ieee.{lt}
use Rattle.math.specs.Basic.{add, sub, is_finite}
use Rattle.math.specs.Loops.{iter}
use Rattle.fit_refusals.specs.Problem.{Problem, p, k}
use Rattle.fit_step.specs.Lists.{alter, each}

abbrev pub clamp_of : Float → Float → Float → Float
clamp_of lo hi v = cond (lt v lo) lo (cond (lt hi v) hi v)

abbrev pub clamp_at : List Float → List Float → ℕ → Float → Float
clamp_at lower upper i v = clamp_of (get_or lower i nan) (get_or upper i nan) v

-- an effect b of the value beta, so that both together lie in the group's bounds: stored as the clamped sum less the value, clamped or not
abbrev pub group_clamp : Float → Float → Float → Float → Float
group_clamp lo hi beta b = sub (clamp_of lo hi (add beta b)) beta

module _ (q : Problem) where
  -- `project_params`: the first p values
  unfoldable pub project_of : List Float → List Float
  project_of values = each (clamp_at q.lower q.upper) (p q) values

  -- group g's effect r becomes f of itself
  abbrev pub slot_at : ℕ → (Float → Float) → ℕ → List Float → List Float
  slot_at r f g b = alter b (g * k q + r) f

  -- effect r of every group
  unfoldable pub slot_of : ℕ → Float → Float → Float → List Float → List Float
  slot_of r lo hi beta b = iter (slot_at r (group_clamp lo hi beta)) q.group_count b

  -- left as it is where neither group bound of its value is finite
  abbrev pub project_slot : List Float → ℕ → List Float → List Float
  project_slot values r b =
      let lo = get_or q.group_lower (get_or q.places r 0) nan in
      let hi = get_or q.group_upper (get_or q.places r 0) nan in
      let beta = get_or values (get_or q.places r 0) nan in
      cond (is_finite lo || is_finite hi) (slot_of r lo hi beta b) b

  -- `project_group_params`, by the projected values
  unfoldable pub project_groups : List Float → List Float → List Float
  project_groups values b = iter (project_slot values) (k q) b
