-- The sides of a target as the sorted list has them.
use Rattle.std.specs.Prelude.{List, [], ◌∷◌, Float}
use Rattle.sorting.specs.Pairs.{Pair}
use Rattle.self_start.specs.declared.sides.Sides.{Sides}
use Rattle.self_start.specs.Sides.{put_of}

-- the sides of t in a list before those that gave s
unfoldable pub sides_of : Float → Sides → List Pair → Sides
sides_of t s [] = s
sides_of t s (p ∷ ps) = put_of t p (sides_of t s ps)
