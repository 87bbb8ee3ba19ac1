-- The sides that the points still to be read put before those so far are those of the whole list.
use Rattle.std.proofs.Common.{◌≡◌}
use Rattle.self_start.specs.Points.{swapped}
use Rattle.self_start.specs.Sides.{no_sides}
use Rattle.self_start.specs.laws.Sides.{sides_of}
use Rattle.self_start.proofs.sides.approx_x_from_y.Given as goal

abbrev pub invariant-loop-dose : goal.invariant-loop-dose
invariant-loop-dose l = sides_of l.y_target l.s (swapped l.dose-iterator.iter.rest.now) ≡ sides_of l.y_target no_sides (swapped l.points.list.now)
