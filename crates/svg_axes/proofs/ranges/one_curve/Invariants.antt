-- After j turns the range holds the curve's grams at the first j doses.
use Rattle.std.proofs.Common.{◌≡◌}
use Rattle.math.specs.Loops.{iter}
use Rattle.svg_axes.specs.Subject.{subject_lists}
use Rattle.svg_axes.specs.Ranges.{wider_by, canister_curve_at, sample_of}
use Rattle.svg_axes.proofs.ranges.one_curve.Given as goal

abbrev pub invariant-loop-j : goal.invariant-loop-j
invariant-loop-j l = l.r ≡ iter (λ k q. wider_by q (canister_curve_at (subject_lists l.s) l.g (sample_of l.doses k))) l.j l.initial.r
