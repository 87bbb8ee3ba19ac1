-- A number of the picture, and the colour and the shape of a canister's marks.
use Rattle.std.specs.Prelude.{ℕ, ◌+◌, ◌*◌, ◌/◌, ◌%◌, List, [], ◌∷◌, ◌++◌, Float, codes}
use Rattle.text_floats.specs.Floats.{fixed_text}
use Rattle.text_lines.specs.Lines.{word_text}

-- a text and then a number with one decimal
abbrev pub number_text : List ℕ → Float → List ℕ
number_text before x = before ++ fixed_text x 1

-- eight colours that the colour-blind tell apart
abbrev pub colours : List (List ℕ)
colours =
    codes "#0072B2" ∷ codes "#D55E00" ∷ codes "#009E73" ∷ codes "#CC79A7" ∷ codes "#E69F00" ∷ codes "#56B4E9" ∷ codes "#000000" ∷ codes "#999999" ∷ []

unfoldable pub colour_text : ℕ → List ℕ
colour_text g = word_text (g % 8) colours

-- what follows a path's first point: a circle, a square, a triangle, a diamond, a triangle on its point
abbrev pub shapes : List (List ℕ)
shapes =
    codes "m-4 0a4 4 0 1 0 8 0a4 4 0 1 0-8 0z"
    ∷ codes "m-3.6-3.6h7.2v7.2h-7.2z"
    ∷ codes "m0-4.8l4.4 7.8h-8.8z"
    ∷ codes "m0-5l4.6 5l-4.6 5l-4.6-5z"
    ∷ codes "m0 4.8l4.4-7.8h-8.8z"
    ∷ []

unfoldable pub path_text : ℕ → List ℕ
path_text g = word_text ((g % 8 + g / 8 * 4) % 5) shapes

unfoldable pub shape_text : ℕ → List ℕ
shape_text g = path_text g ++ codes "\"/>\n"
