-- The text of a canister: its curve, its readings and its row of the legend.
use Rattle.std.specs.Prelude.{ℕ, cond, List, [], ◌∷◌, ◌++◌, length, pos, ◌==◌, nat_lt, slice_index, slice_index_or, Float, codes}
use Rattle.std.specs.List.{flat_map}
use Rattle.std.specs.Float.{nan, binary64}
use Rattle.std.specs.Float.Ieee.{of_int}
use Rattle.math.specs.Basic.{add, mul, bits, is_finite}
use Rattle.text_buffer.specs.Text.{joined}
use Rattle.svg_axes.specs.declared.frame.Frame.{Frame}
use Rattle.svg_axes.specs.Subject.{SubjectLists, canister_name}
use Rattle.svg_axes.specs.Ranges.{canister_curve_at, sample_of}
use Rattle.svg_axes.specs.Axes.{x_pixel, y_pixel}
use Rattle.svg_marks.specs.Marks.{number_text, colour_text, shape_text}
use Rattle.svg_marks.specs.Escape.{each_text, escaped_byte}

-- where a reading or a point of the curve stands
unfoldable pub point_text : List ℕ → Frame → Float → Float → List ℕ
point_text before f dose grams = number_text before (x_pixel f.x dose) ++ number_text (codes " ") (y_pixel f.y grams)

-- a point of the curve; none where its value is not finite
unfoldable pub vertex_text : SubjectLists → Frame → ℕ → ℕ → List ℕ
vertex_text s f g j =
    let grams = canister_curve_at s g (sample_of f.doses j) in
    cond (is_finite grams) (point_text (codes " ") f (sample_of f.doses j) grams) []

unfoldable pub drawn_curve_text : SubjectLists → Frame → ℕ → List ℕ
drawn_curve_text s f g =
    joined (codes "<polyline fill=\"none\" stroke-width=\"1.6\" stroke=\"" ∷ colour_text g ∷ codes "\" points=\"" ∷ each_text (vertex_text s f g) 61 ∷ [])

-- the mark of a reading, if it is one of canister g, and the marks of all
unfoldable pub reading_text : Frame → ℕ → ℕ → Float → Float → List ℕ
reading_text f g of dose grams = cond (of == g) (point_text (codes "<path d=\"M") f dose grams ++ shape_text g) []

unfoldable pub marks_text : SubjectLists → Frame → ℕ → List ℕ
marks_text s f g =
    each_text (λ i. reading_text f g (slice_index s.groups i) (slice_index_or s.doses i nan) (slice_index_or s.grams i nan)) (length s.groups)

unfoldable pub drawn_readings_text : SubjectLists → Frame → ℕ → List ℕ
drawn_readings_text s f g =
    joined (codes "\"/>\n<g stroke=\"white\" stroke-width=\"0.7\" fill=\"" ∷ colour_text g ∷ codes "\">\n" ∷ marks_text s f g ∷ [])

-- the names of 32 canisters stand in the table's text
unfoldable pub legend_name_text : SubjectLists → ℕ → List ℕ
legend_name_text s g = cond (nat_lt g 32) (flat_map escaped_byte (canister_name s g)) (codes "?")

-- rows of 14 from 60 on
unfoldable pub legend_y : ℕ → Float
legend_y g = cond (nat_lt g 32) (add (bits 0x404e_0000_0000_0000) (mul (bits 0x402c_0000_0000_0000) (of_int binary64 (pos g)))) (bits 0x404e_0000_0000_0000)

unfoldable pub legend_line_text : ℕ → Float → List ℕ
legend_line_text g y =
    joined (
    codes "</g>\n<path fill=\"none\" stroke-width=\"1.6\" stroke=\""
    ∷ colour_text g
    ∷ number_text (codes "\" d=\"M694 ") y
    ∷ codes "h28\"/>\n<g fill=\""
    ∷ [])

unfoldable pub legend_key_text : ℕ → Float → List ℕ
legend_key_text g y = joined (legend_line_text g y ∷ colour_text g ∷ number_text (codes "\"><path d=\"M708.0 ") y ∷ shape_text g ∷ [])

unfoldable pub legend_label_text : SubjectLists → ℕ → Float → List ℕ
legend_label_text s g y = joined (number_text (codes "</g><text x=\"730\" y=\"") y ∷ codes "\">" ∷ legend_name_text s g ∷ codes "</text>\n" ∷ [])

unfoldable pub legend_text : SubjectLists → ℕ → List ℕ
legend_text s g = legend_key_text g (legend_y g) ++ legend_label_text s g (add (legend_y g) (bits 0x4010_0000_0000_0000))
