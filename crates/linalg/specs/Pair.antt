-- Document 01, 'The direction', for one or two equations: the solve, the inverse by unit columns and the Cholesky factor, each none or its numbers.
use Rattle.std.specs.Prelude.{ℕ, cond, List, eqb, Float, Option, Some, None, option_map, option_and_then}
use Rattle.std.specs.Float.Ieee.{lt, eq}
use Rattle.math.specs.Basic.{sub, mul, div, zero, one, abs_of}
use Rattle.math.specs.Matrix.{rows, entry}
use Rattle.math.specs.Sqrt.{sqrt_of}

-- the last row left is e y = t, the pivot's a x + b y = r
abbrev pub last_of : Float → Float → Float → Float → Float → Option (Float × Float)
last_of a b r e t = cond (eq e zero) None (Some (div (sub r (mul b (div t e))) a, div t e))

-- a b | r is the pivot's row, c d | s the other
abbrev pub eliminated : Float → Float → Float → Float → Float → Float → Option (Float × Float)
eliminated a b r c d s = cond (eq a zero) None (last_of a b r (sub d (mul (div c a) b)) (sub s (mul (div c a) r)))

-- the first row is the pivot's
abbrev pub rows_of : List (List Float) → Float → Float → Option (Float × Float)
rows_of m r s = eliminated (entry m 0 0) (entry m 0 1) r (entry m 1 0) (entry m 1 1) s

-- two equations: the lower row is the pivot's only where its size compares greater
unfoldable pub two_of : List (List Float) → Float → Float → Option (Float × Float)
two_of m r s = cond (lt (abs_of (entry m 0 0)) (abs_of (entry m 1 0))) (rows_of (rows (entry m 1 0) (entry m 1 1) (entry m 0 0) (entry m 0 1)) s r) (rows_of m r s)

abbrev pub one_of : Float → Float → Option (Float × Float)
one_of a r = cond (eq a zero) None (Some (div r a, zero))

-- one group's pair: for one effect the second number is +0
unfoldable pub pair_of : ℕ → List (List Float) → Float → Float → Option (Float × Float)
pair_of k m r s = cond (eqb k 1) (one_of (entry m 0 0) r) (two_of m r s)

-- the inverse: the solved unit columns (a, c) and (b, d) side by side, none where one of them is none; for one effect the first entry alone
abbrev pub columns_of : ℕ → Option (Float × Float) → Float × Float → Option (List (List Float))
columns_of k q p = cond (eqb k 1) (Some (rows p.0 zero zero zero)) (option_map (λ q. rows p.0 q.0 p.1 q.1) q)

unfoldable pub inverse_of : ℕ → List (List Float) → Option (List (List Float))
inverse_of k m = option_and_then (columns_of k (pair_of k m zero one)) (pair_of k m one zero)

-- the lower Cholesky factor, column by column, from the lower triangle: none unless each radicand is above zero
abbrev pub root_of : Float → Option Float
root_of v = cond (lt zero v) (Some (sqrt_of v)) None

abbrev pub second_row : Float → Float → Float → Option (List (List Float))
second_row a c e = option_map (rows a zero c) (root_of (sub e (mul c c)))

abbrev pub first_column : ℕ → List (List Float) → Float → Option (List (List Float))
first_column k m a = cond (eqb k 1) (Some (rows a zero zero zero)) (second_row a (div (entry m 1 0) a) (entry m 1 1))

unfoldable pub cholesky_of : ℕ → List (List Float) → Option (List (List Float))
cholesky_of k m = option_and_then (first_column k m) (root_of (entry m 0 0))
