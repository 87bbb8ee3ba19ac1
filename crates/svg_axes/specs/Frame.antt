-- The frame: the axes of the doses and of the grams and the curves; none where there is no such axis.
use Rattle.std.specs.Prelude.{Option, Some, None}
use Rattle.svg_axes.specs.declared.axes.Axis.{Axis}
use Rattle.svg_axes.specs.declared.ranges.Range.{Range}
use Rattle.svg_axes.specs.declared.frame.Frame.{Frame}
use Rattle.svg_axes.specs.Subject.{SubjectLists}
use Rattle.svg_axes.specs.Ranges.{list_range, range_with_curves}
use Rattle.svg_axes.specs.Axes.{axis_of}

abbrev pub framed : Range → Option Axis → Option Axis → Option Frame
framed r (Some x) (Some y) = Some (record { doses = r; x = x; y = y })
framed r _ _ = None

unfoldable pub frame_of : SubjectLists → Option Frame
frame_of s =
    let r = list_range s.doses in
    framed r (axis_of r) (axis_of (range_with_curves s r (list_range s.grams)))
