-- A matrix of two rows of two.
use Rattle.std.specs.Prelude.{ℕ, List, [], ◌∷◌, slice_index_or, Float}
use Rattle.std.specs.Float.{nan}

abbrev pub rows : Float → Float → Float → Float → List (List Float)
rows a b c d = (a ∷ b ∷ []) ∷ (c ∷ d ∷ []) ∷ []

-- entry i, j
abbrev pub entry : List (List Float) → ℕ → ℕ → Float
entry m i j = slice_index_or (slice_index_or m i []) j nan
