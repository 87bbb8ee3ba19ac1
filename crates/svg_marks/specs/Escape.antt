-- Text inside an XML element, and texts one after the other.
use Prim.Native.Char.{code}
use Rattle.std.specs.Prelude.{ℕ, cond, List, [], ◌∷◌, ◌++◌, eqb, ltb, ◌||◌, codes}
use Rattle.math.specs.Loops.{iter}

-- the texts number 0 to n - 1
abbrev pub each_text : (ℕ → List ℕ) → ℕ → List ℕ
each_text f n = iter (λ i t. t ++ f i) n []

-- the names of the four characters that XML keeps for itself, `?` for what ASCII does not print; any other byte stands for itself
unfoldable pub escaped_byte : ℕ → List ℕ
escaped_byte b =
    cond (eqb b (code "&")) (codes "&amp;")
    (cond (eqb b (code "<")) (codes "&lt;")
    (cond (eqb b (code ">")) (codes "&gt;")
    (cond (eqb b (code "\"")) (codes "&quot;")
    (cond (ltb b (code " ") || ltb (code "~") b) (codes "?") (b ∷ [])))))
