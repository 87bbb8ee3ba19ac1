-- The direction as a list: the p fixed values, then each group's effects.
use Rattle.std.specs.Prelude.{ℕ, cond, List, [], ◌∷◌, ◌++◌, eqb, Float, get_or, take}
use Rattle.std.specs.Float.{nan}
use Rattle.math.specs.Basic.{add, sub, mul, zero}
use Rattle.math.specs.Loops.{span}
use Rattle.group_blocks.specs.declared.Solution.{Solution}

-- the group's columns times the fixed values, from 0 on
abbrev pub columns_times_at : List (Float × Float) → List Float → ℕ → Float × Float → Float × Float
columns_times_at w x j t =
    let c = get_or w j (nan, nan) in
    (add t.0 (mul c.0 (get_or x j nan)), add t.1 (mul c.1 (get_or x j nan)))

unfoldable pub columns_times : List (Float × Float) → List Float → ℕ → Float × Float
columns_times w x p = span (columns_times_at w x) 0 p (zero, zero)

-- one or two effects
unfoldable pub effects_of : ℕ → Float → Float → List Float
effects_of k x y = cond (eqb k 2) (x ∷ y ∷ []) (x ∷ [])

-- no group's solution, past the end
abbrev pub past : Solution
past = record { pair = (nan, nan); columns = [] }

-- a group's effects are its pair less its columns times the fixed values
abbrev pub append_group : ℕ → ℕ → List Float → List Solution → ℕ → List Float → List Float
append_group p k x solved g l =
    let o = get_or solved g past in
    let t = columns_times o.columns x p in
    l ++ effects_of k (sub o.pair.0 t.0) (sub o.pair.1 t.1)

unfoldable pub components_of : ℕ → ℕ → ℕ → List Float → List Solution → List Float
components_of p k group_count x solved = span (append_group p k x solved) 0 group_count (take p x)
