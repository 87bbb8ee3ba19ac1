-- The picture as one text: 960 by 510, the frame from 70 to 670 and from 50 to 450.
use Rattle.std.specs.Prelude.{ℕ, Bool, List, [], ◌∷◌, ◌++◌, length, Option, Some, None, codes}
use Rattle.text_buffer.specs.Text.{joined}
use Rattle.svg_axes.specs.declared.frame.Frame.{Frame}
use Rattle.svg_axes.specs.Subject.{SubjectLists}
use Rattle.svg_axes.specs.Frame.{frame_of}
use Rattle.svg_marks.specs.Escape.{each_text}
use Rattle.svg_picture.specs.Framing.{framing_text}
use Rattle.svg_series.specs.Canister.{drawn_curve_text, drawn_readings_text, legend_text}

unfoldable pub drawn_canister_text : SubjectLists → Frame → ℕ → List ℕ
drawn_canister_text s f g = drawn_curve_text s f g ++ (drawn_readings_text s f g ++ legend_text s g)

-- the frame, and then canister after canister
unfoldable pub drawn_text : SubjectLists → Frame → Bool → List ℕ → List ℕ
drawn_text s f example said =
    joined (
    codes
    "<svg xmlns=\"http://www.w3.org/2000/svg\" width=\"960\" height=\"510\" viewBox=\"0 0 960 510\"\n font-family=\"Helvetica, Arial, sans-serif\" font-size=\"12\" fill=\"#222222\">\n<rect width=\"960\" height=\"510\" fill=\"white\"/>\n"
    ∷ framing_text s.code f example said
    ∷ each_text (drawn_canister_text s f) (length s.effects)
    ∷ codes "</svg>\n"
    ∷ [])

-- in the frame, if there is one
abbrev pub pictured : SubjectLists → Bool → List ℕ → Option Frame → List ℕ
pictured s example said (Some f) = drawn_text s f example said
pictured s example said None = []

-- what is said stands in the title after the curve's name
unfoldable pub picture_text : SubjectLists → Bool → List ℕ → List ℕ
picture_text s example said = pictured s example said (frame_of s)
