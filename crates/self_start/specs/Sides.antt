-- What of points sorted by grams is read at a target: the sides of it, as `approx_x_from_y` finds them without sorting. A pair is the grams and the dose.
-- For the contracts of those steps alone. Nothing here is part of what a start means.
use Rattle.std.specs.Prelude.{cond, Option, Some, None, Float}
use Rattle.std.specs.Float.Ieee.{lt, le}
use Rattle.sorting.specs.Pairs.{Pair}
use Rattle.self_start.specs.Points.{between_of}
use Rattle.self_start.specs.declared.sides.Sides.{Sides}

abbrev pub no_sides : Sides
no_sides = record { below = None; others = None }

-- of a pair that stands before those put so far and them, the last below the target; the first and the last of the others
unfoldable pub put_low : Option Pair → Pair → Pair
put_low None p = p
put_low (Some last) p = cond (lt last.0 p.0) p last

unfoldable pub put_high : Option (Pair × Pair) → Pair → Pair × Pair
put_high None p = (p, p)
put_high (Some ends) p = cond (lt ends.0.0 p.0) (ends.0, cond (lt ends.1.0 p.0) p ends.1) (p, ends.1)

unfoldable pub put_of : Float → Pair → Sides → Sides
put_of t p s = cond (lt p.0 t) (record { below = Some (put_low s.below p); others = s.others }) (record { below = s.below; others = Some (put_high s.others p) })

-- between the sides, flat beyond the points
unfoldable pub approx_ends : Option Pair → Option (Pair × Pair) → Float → Float → Float
approx_ends None None xout other = other
approx_ends (Some low) None xout other = low.1
approx_ends None (Some high) xout other = cond (le xout high.0.0) high.0.1 high.1.1
approx_ends (Some low) (Some high) xout other = cond (le high.1.0 xout) high.1.1 (between_of low high.0 xout)

abbrev pub approx_sides : Sides → Float → Float → Float
approx_sides s xout other = approx_ends s.below s.others xout other
