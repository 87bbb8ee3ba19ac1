-- Whole numbers this small are floats, so v is known to lie between two neighbours, and cutting it leaves the one nearer to 0.
use Rattle.std.proofs.Common.{ℤ, pos, ◌+ℤ◌, ap, ◌∙◌, to_z-of_z}
use lib.Ieee.{binary64, of_int}
use Rattle.math.proofs.Cut.{lesser, small_back, more_fits, cut_is}
use Rattle.math.proofs.exp.cuts_to.Goals as goal

pub returns-then-to_float-v : goal.returns-then-to_float-v
returns-then-to_float-v c =
    let n = c.below-n in
    let e = small_back n.result n.ensures.0 in
    λ t. cut_is c.args.k n.result c.args.v c.to_float.result c.to_float-then-to_float-v.result c.requires
    (n.ensures.1 ∙ ap lesser (to_z-of_z c.ranges.k))
    (c.to_float.ensures ∙ ap (λ (z : ℤ). of_int binary64 z) e)
    (c.to_float-then-to_float-v.ensures ∙ ap (λ (z : ℤ). of_int binary64 z) (to_z-of_z (more_fits n.result _ e n.ensures.0) ∙ ap (λ (z : ℤ). z +ℤ pos 1) e))
    c.if-to_float-v.true
    t
