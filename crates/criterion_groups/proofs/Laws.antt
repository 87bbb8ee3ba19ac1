-- What a loop over two lists side by side makes is what its definition counts up to. Assumes nothing.
use Prim.Native.Nat.{ℕ, ◌≤◌}
use mathlib.Core.Path.{◌≡◌}
use mathlib.Core.Bool.{cond}
use mathlib.Core.List.{List, [], ◌∷◌, ◌++◌}
use lib.Dec.{eqb}
use lib.Ieee.{Float, nan}
use lib.ListN.{length}
use Rattle.std.specs.List.{fold, zip}
use Rattle.math.specs.Basic.{add, sub, mul}
use Rattle.math.specs.Basic as Basic
use Rattle.math.specs.laws.Zips.{iter_zip}
use Rattle.fit_refusals.specs.Problem.{Problem}
use Rattle.criterion_groups.specs.Groups.{own_of, curve_at, group_squares}

-- a reading, h its group
abbrev pub own_next : ℕ → List Float → ℕ × Float → List Float
own_next g own p = cond (eqb p.0 g) (own ++ (p.1 ∷ [])) own

pub own_zip : (groups : List ℕ) (g : ℕ) (list : List Float) → length groups ≤ length list → own_of groups g list ≡ fold (own_next g) [] (zip groups list)
unfolding own_of
own_zip groups g list p = iter_zip (λ h x own. own_next g own (h, x)) 0 nan groups list [] p

-- a reading, its dose and its grams
abbrev pub square_next : Problem → List Float → List Float → Float → Float × Float → Float
square_next q values b t p = let r = sub p.1 (curve_at q values b p.0).mu in add t (mul r r)

pub squares_zip : (q : Problem) (values b doses grams : List Float) → length doses ≤ length grams
    → group_squares q values b doses grams ≡ fold (square_next q values b) Basic.zero (zip doses grams)
unfolding group_squares
squares_zip q values b doses grams p = iter_zip (λ x y t. square_next q values b t (x, y)) nan nan doses grams Basic.zero p
