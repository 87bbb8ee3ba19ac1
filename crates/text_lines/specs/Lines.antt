-- Text in columns, a word of a table, and a line with numbers in it.
use Prim.Native.Char.{code}
use Rattle.std.specs.Prelude.{ℕ, ◌-◌, Bool, true, false, ◌||◌, cond, List, [], ◌∷◌, ◌++◌, eqb, Float, length, take, drop, replicate, get_or, codes}
use Rattle.text_buffer.specs.Text.{whole_text}
use Rattle.text_floats.specs.Floats.{fixed_text, figure_text}

-- ---- columns: a text at the right or the left of a width, spaces beside it; a wider text stands as it is

abbrev pub spaces : ℕ → List ℕ
spaces k = replicate k (code " ")

unfoldable pub right_text : ℕ → List ℕ → List ℕ
right_text width t = spaces (width - length t) ++ t

unfoldable pub left_text : ℕ → List ℕ → List ℕ
left_text width t = t ++ spaces (width - length t)

-- a number's text at the right: as much of it as a room of 64 bytes holds
abbrev pub cell_text : ℕ → List ℕ → List ℕ
cell_text width t = right_text width (take 64 t)

-- ---- the word number k of a table, from 0; nothing past the last

unfoldable pub word_text : ℕ → List (List ℕ) → List ℕ
word_text k words = get_or words k []

-- ---- a template: `%n` is the next whole number, `%g` the next float to seven digits, `%1` the next float with one decimal,
-- `?` where none is left; any other byte after `%`, and every other byte, stands for itself

abbrev pub next_number : {A : Type 0} → (A → List ℕ) → List A → List ℕ
next_number f [] = codes "?"
next_number f (a ∷ l) = f a

unfoldable pub one_decimal : Float → List ℕ
one_decimal x = fixed_text x 1

unfoldable pub for_mark : ℕ → List ℕ → List Float → List ℕ
for_mark c ns xs =
    cond (eqb c (code "n")) (next_number whole_text ns)
    (cond (eqb c (code "g")) (next_number figure_text xs) (cond (eqb c (code "1")) (next_number one_decimal xs) (c ∷ [])))

-- the numbers that a mark leaves
unfoldable pub wholes_after : ℕ → List ℕ → List ℕ
wholes_after c ns = cond (eqb c (code "n")) (drop 1 ns) ns

unfoldable pub floats_after : ℕ → List Float → List Float
floats_after c xs = cond (eqb c (code "g") || eqb c (code "1")) (drop 1 xs) xs

-- the text of a template, after `%` or not
unfoldable pub fill_from : Bool → List ℕ → List ℕ → List Float → List ℕ
fill_from m [] ns xs = []
fill_from true (c ∷ t) ns xs = for_mark c ns xs ++ fill_from false t (wholes_after c ns) (floats_after c xs)
fill_from false (b ∷ t) ns xs =
    let mark = fill_from true t ns xs in
    let rest = fill_from false t ns xs in
    cond (eqb b (code "%")) mark (b ∷ rest)

abbrev pub template_text : List ℕ → List ℕ → List Float → List ℕ
template_text t ns xs = fill_from false t ns xs
