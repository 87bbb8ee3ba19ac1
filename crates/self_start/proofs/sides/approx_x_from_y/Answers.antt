-- No point is left to be read, so the sides are those of the whole list.
use Rattle.std.proofs.Common.{◌≡◌, [], sym, ◌∙◌}
use Rattle.std.proofs.lemmas.List.{nil_from_length}
use Rattle.self_start.specs.Points.{swapped, approx_x_from_y}
use Rattle.self_start.specs.Sides.{no_sides}
use Rattle.self_start.specs.laws.Sides.{sides_of}
use Rattle.self_start.proofs.Loops.{sides_none}
use Rattle.self_start.proofs.SideLaws.{sides_approx}
use Rattle.self_start.proofs.Grams.{grams_keyed}
use Rattle.self_start.proofs.sides.approx_x_from_y.Goals as goal

pub returns : goal.returns
unfolding approx_x_from_y
returns c =
    let t = c.args.y_target in
    let l = c.args.points.list.now in
    let none : c.loop-dose.dose-iterator.iter.rest.now ≡ [] = nil_from_length _ c.in-None.ensures.steps.0 in
    let s : c.loop-dose.s ≡ sides_of t no_sides (swapped l) = sym (sides_none t c.loop-dose.s) ∙ rw none at c.loop-dose.invariant in
    c.approx.ensures ∙ rw s (sides_approx t c.args.other (swapped l) (grams_keyed l c.args.points.numbered))
