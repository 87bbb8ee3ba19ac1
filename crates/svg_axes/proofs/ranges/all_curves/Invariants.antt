-- After g turns the range holds the curves of the first g canisters.
use Rattle.std.proofs.Common.{◌≡◌}
use Rattle.math.specs.Loops.{iter}
use Rattle.svg_axes.specs.Subject.{subject_lists}
use Rattle.svg_axes.specs.Ranges.{range_with_curve}
use Rattle.svg_axes.proofs.ranges.all_curves.Given as goal

abbrev pub invariant-loop-g : goal.invariant-loop-g
invariant-loop-g l = l.r ≡ iter (range_with_curve (subject_lists l.s) l.doses) l.g l.initial.r
