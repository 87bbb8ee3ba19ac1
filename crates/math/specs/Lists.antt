-- Tests of lists, element by element, and the largest size in a list.
use Rattle.std.specs.Prelude.{ℕ, Bool, true, false, ◌&&◌, List, [], ◌∷◌, fold, nat_eq, Float}
use Rattle.std.specs.List.{list_all}
use Rattle.math.specs.Basic.{zero, abs_of, max_of}

-- each element passes the test
abbrev pub every : {A : Type 0} → (A → Bool) → List A → Bool
every = list_all

-- the same length, and the same by the test at each place
unfoldable pub same_lists : {A : Type 0} → (A → A → Bool) → List A → List A → Bool
same_lists same [] [] = true
same_lists same [] (y ∷ ys) = false
same_lists same (x ∷ xs) [] = false
same_lists same (x ∷ xs) (y ∷ ys) = same x y && same_lists same xs ys

-- the same bytes in the same order
abbrev pub same_bytes : List ℕ → List ℕ → Bool
same_bytes = same_lists nat_eq

-- the largest size of some numbers, from +0 on
abbrev pub larger : Float → Float → Float
larger t x = max_of t (abs_of x)

unfoldable pub largest_of : List Float → Float
largest_of l = fold larger zero l
