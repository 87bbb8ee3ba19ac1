-- The text of the frame: the title, the axes and what stands at them.
use Rattle.std.specs.Prelude.{ℕ, ◌+◌, Bool, cond, List, [], ◌∷◌, ◌++◌, pos, Float, codes}
use Rattle.std.specs.Float.{binary64}
use Rattle.std.specs.Float.Ieee.{of_int}
use Rattle.math.specs.Basic.{add, mul, bits}
use Rattle.text_buffer.specs.Text.{joined}
use Rattle.text_floats.specs.Floats.{fixed_text}
use Rattle.svg_axes.specs.declared.axes.Axis.{Axis}
use Rattle.svg_axes.specs.declared.frame.Frame.{Frame}
use Rattle.svg_axes.specs.Axes.{x_pixel, y_pixel}
use Rattle.svg_axes.specs.Subject.{curve_name}
use Rattle.svg_marks.specs.Marks.{number_text}
use Rattle.svg_marks.specs.Escape.{each_text}
use Rattle.svg_picture.specs.declared.framing.Way.{Way}

-- ---- the axes: tick i of the count + 1 ticks, with a line of the grid, and its label

unfoldable pub tick_at : Axis → ℕ → Float
tick_at a i = mul (add a.first (of_int binary64 (pos i))) a.step

unfoldable pub grid_text : Axis → Way → Float → List ℕ
grid_text a Way.Across v =
    joined (
    number_text (codes "<path stroke=\"#dddddd\" d=\"M") (x_pixel a v)
    ∷ number_text (codes " 50V450\"/><text text-anchor=\"middle\" y=\"468\" x=\"") (x_pixel a v)
    ∷ [])
grid_text a Way.Up v =
    joined (
    number_text (codes "<path stroke=\"#dddddd\" d=\"M70 ") (y_pixel a v)
    ∷ number_text (codes "H670\"/><text text-anchor=\"end\" x=\"62\" y=\"") (add (y_pixel a v) (bits 0x4010_0000_0000_0000))
    ∷ [])

unfoldable pub tick_text : Axis → Way → ℕ → List ℕ
tick_text a way i = joined (grid_text a way (tick_at a i) ∷ codes "\">" ∷ fixed_text (tick_at a i) a.decimals ∷ codes "</text>\n" ∷ [])

unfoldable pub ticks_text : Axis → Way → List ℕ
ticks_text a way = each_text (tick_text a way) (a.count + 1)

-- ---- the frame: the title, the axes and what stands at them, and what that is in the example

unfoldable pub title_text : ℕ → List ℕ → List ℕ
title_text code said =
    joined (codes "<text x=\"70\" y=\"30\" font-size=\"16\" font-weight=\"bold\">" ∷ curve_name code ∷ said ∷ codes "</text>\n" ∷ [])

unfoldable pub axes_text : Frame → List ℕ
axes_text f =
    joined (
    ticks_text f.x Way.Across
    ∷ codes "<path stroke=\"#222222\" d=\"M70 450H670\"/>\n"
    ∷ ticks_text f.y Way.Up
    ∷ codes "<path stroke=\"#222222\" d=\"M70 50V450\"/>\n"
    ∷ [])

abbrev pub noted : List ℕ → Bool → List ℕ → List ℕ
noted label example note = label ++ cond example note []

unfoldable pub labels_text : Bool → List ℕ
labels_text example =
    joined (
    noted (codes "<text x=\"370\" y=\"492\" text-anchor=\"middle\">dose") example (codes " (Orange: the tree's age in days)")
    ∷ noted (codes "</text>\n<text transform=\"translate(20 250) rotate(-90)\" text-anchor=\"middle\">grams") example
    (codes " (Orange: the trunk's circumference in mm)")
    ∷ noted (codes "</text>\n<text x=\"694\" y=\"40\">canister") example (codes " (Orange: tree)")
    ∷ codes "</text>\n"
    ∷ [])

unfoldable pub framing_text : ℕ → Frame → Bool → List ℕ → List ℕ
framing_text code f example said = title_text code said ++ (axes_text f ++ labels_text example)
