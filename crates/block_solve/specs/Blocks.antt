-- What a reading adds to each of the blocks alone.
use Rattle.std.specs.Prelude.{ℕ, ◌+◌, ◌*◌, List, Float, get_or}
use Rattle.std.specs.Float.{nan}
use Rattle.math.specs.Basic.{mul}
use Rattle.math.specs.Loops.{iter}
use Rattle.block_solve.specs.Normal.{bump}

-- the products of p numbers f by k numbers r, a row for each of f; row i begins at the place at i
module _ (at : ℕ → ℕ) (f : List Float) (k : ℕ) (r : List Float) where
  abbrev pub product_in : ℕ → ℕ → List Float → List Float
  product_in i j l = bump l (at i + j) (mul (get_or f i nan) (get_or r j nan))

  abbrev pub product_row : ℕ → List Float → List Float
  product_row i l = iter (product_in i) k l

unfoldable pub products_of : (ℕ → ℕ) → ℕ → List Float → ℕ → List Float → List Float → List Float
products_of at p f k r l = iter (product_row at f k r) p l

-- the multiples of p numbers f by y; the i-th is added at the place at i
abbrev pub multiple_in : (ℕ → ℕ) → List Float → Float → ℕ → List Float → List Float
multiple_in at f y i l = bump l (at i) (mul (get_or f i nan) y)

unfoldable pub multiples_of : (ℕ → ℕ) → ℕ → List Float → Float → List Float → List Float
multiples_of at p f y l = iter (multiple_in at f y) p l

-- the places: four to a row of the fixed block, and of a group eight in the cross block, four in its own, two at the right
abbrev pub fixed_row_at : ℕ → ℕ
fixed_row_at i = i * 4

abbrev pub cross_row_at : ℕ → ℕ → ℕ
cross_row_at g i = g * 8 + i * 2

abbrev pub random_row_at : ℕ → ℕ → ℕ
random_row_at g i = g * 4 + i * 2

abbrev pub fixed_of : ℕ → List Float → List Float → List Float
fixed_of p f l = products_of fixed_row_at p f p f l

abbrev pub cross_of : ℕ → ℕ → List Float → ℕ → List Float → List Float → List Float
cross_of g p f k r l = products_of (cross_row_at g) p f k r l

abbrev pub random_of : ℕ → ℕ → List Float → List Float → List Float
random_of g k r l = products_of (random_row_at g) k r k r l

abbrev pub fixed_rhs_of : ℕ → List Float → Float → List Float → List Float
fixed_rhs_of p f y l = multiples_of (λ i. i) p f y l

abbrev pub random_rhs_of : ℕ → ℕ → List Float → Float → List Float → List Float
random_rhs_of g k r y l = multiples_of (λ i. g * 2 + i) k r y l
