-- Document 01, 'The direction': elimination with partial pivoting on the first n rows and columns of a system of four, and back substitution.
use Rattle.std.specs.Prelude.{ℕ, ◌+◌, ◌*◌, cond, List, leb, Float, get_or, set, replicate, Option, Some, None, option_map}
use Rattle.std.specs.List.{swap}
use Rattle.std.specs.Float.{nan}
use Rattle.std.specs.Float.Ieee.{lt, eq}
use Rattle.math.specs.Basic.{sub, mul, div, zero, abs_of}
use Rattle.math.specs.Loops.{span}
use Rattle.linalg.specs.declared.elimination.System.{System}
use Rattle.linalg.specs.Loops.{down, tries}

-- entry i, j of a, four places to a row
abbrev pub at : List Float → ℕ → ℕ → Float
at a i j = get_or a (i * 4 + j) nan

-- the row of column i's pivot: the diagonal's, unless a lower row's size compares greater; so a tie keeps the first, and a leading NaN stays
unfoldable pub better : List Float → ℕ → ℕ → ℕ → ℕ
better a i r best = cond (lt (abs_of (at a best i)) (abs_of (at a r i))) r best

unfoldable pub pivot_of : ℕ → List Float → ℕ → ℕ
pivot_of n a i = span (better a i) (i + 1) n i

-- rows i and q change places, the right-hand side alike
abbrev pub swap_column : ℕ → ℕ → ℕ → List Float → List Float
swap_column i q j a = swap a (i * 4 + j) (q * 4 + j)

unfoldable pub swap_of : ℕ → ℕ → ℕ → System → System
swap_of n i q s = record { a = span (swap_column i q) 0 n s.a; b = swap s.b i q }

-- row r less (its entry / pivot) times the pivot's row i, the right-hand side alike
abbrev pub less_at : ℕ → ℕ → Float → ℕ → List Float → List Float
less_at i r f j a = set a (r * 4 + j) (sub (at a r j) (mul f (at a i j)))

unfoldable pub clear_row : ℕ → ℕ → ℕ → System → System
clear_row n i r s =
    let f = div (at s.a r i) (at s.a i i) in
    record { a = span (less_at i r f) i n s.a; b = set s.b r (sub (get_or s.b r nan) (mul f (get_or s.b i nan))) }

-- back substitution from the last row up: products are subtracted in rising column, then comes the division by the pivot
abbrev pub less_known : List Float → List Float → ℕ → ℕ → Float → Float
less_known a x i j v = sub v (mul (at a i j) (get_or x j nan))

abbrev pub known : ℕ → System → ℕ → List Float → List Float
known n s i x = set x i (div (span (less_known s.a x i) (i + 1) n (get_or s.b i nan)) (at s.a i i))

unfoldable pub back_of : ℕ → System → List Float
back_of n s = down (known n s) n (replicate 4 zero)

module _ (n : ℕ) where
  -- the pivot's row brought to the diagonal
  abbrev pub turned : ℕ → System → System
  turned i s = swap_of n i (pivot_of n s.a i) s

  -- each lower row cleared, in rising order
  abbrev pub cleared : ℕ → System → System
  cleared i s = span (clear_row n i) (i + 1) n s

  -- column i: none where the pivot is exactly zero
  unfoldable pub column_of : ℕ → System → Option System
  column_of i s = cond (eq (at (turned i s).a i i) zero) None (Some (cleared i (turned i s)))

  unfoldable pub eliminate_of : System → Option (List Float)
  eliminate_of s = option_map (back_of n) (tries column_of n s)

-- the solution of n equations; none at an exactly zero pivot, and for more than four
unfoldable pub solve_of : ℕ → System → Option (List Float)
solve_of n s = cond (leb n 4) (eliminate_of n s) None
