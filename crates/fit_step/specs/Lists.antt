-- Elements changed in place.
use Rattle.std.specs.Prelude.{ℕ, List, Float, get_or, set}
use Rattle.std.specs.Float.{nan}
use Rattle.math.specs.Loops.{iter}

-- the element at place i becomes f of itself
abbrev pub alter : List Float → ℕ → (Float → Float) → List Float
alter l i f = set l i (f (get_or l i nan))

-- each element at a place i below n becomes f i of itself
abbrev pub each_at : (ℕ → Float → Float) → ℕ → List Float → List Float
each_at f i l = alter l i (f i)

unfoldable pub each : (ℕ → Float → Float) → ℕ → List Float → List Float
each f n l = iter (each_at f) n l
