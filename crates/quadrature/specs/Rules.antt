-- The tables of quadrature.rs by its decimals, and gh_rule.
use Rattle.std.specs.Prelude.{false, cond, List, [], ◌∷◌, ◌++◌, map, reverse, ℕ, ◌^◌, eqb, get_or, Float}
use Rattle.std.specs.List.{zip}
use Rattle.std.specs.Float.{nan, binary64}
use Rattle.std.specs.Float.Ieee.{round, neg}
use Rattle.math.specs.Basic.{zero}
use Rattle.quadrature.specs.declared.rules.Point.{Point}

-- a decimal of the source, n / 10 ^ k, rounded once
infix 80 ◌e-◌
abbrev pub ◌e-◌ : ℕ → ℕ → Float
n e- k = round binary64 false n (10 ^ k)

-- The source's lists are symmetric, the nodes with opposite signs: each decimal stands here once, from the middle outward.
abbrev pub nodes_from : List Float → List Float
nodes_from outward = reverse (map neg outward) ++ (zero ∷ outward)

abbrev pub weights_from : Float → List Float → List Float
weights_from middle outward = reverse outward ++ (middle ∷ outward)

-- GH_Z3 .. GH_Z11
unfoldable pub z3 : List Float
z3 = nodes_from (17320508075688772 e- 16 ∷ [])

unfoldable pub z5 : List Float
z5 = nodes_from (13556261799742659 e- 16 ∷ 28569700138728056 e- 16 ∷ [])

unfoldable pub z7 : List Float
z7 = nodes_from (11544053947399682 e- 16 ∷ 23667594107345416 e- 16 ∷ 37504397177257425 e- 16 ∷ [])

unfoldable pub z9 : List Float
z9 = nodes_from (10232556637891326 e- 16 ∷ 207684797867783 e- 14 ∷ 32054290028564703 e- 16 ∷ 4512745863399783 e- 15 ∷ [])

unfoldable pub z11 : List Float
z11 = nodes_from (9288689973810641 e- 16 ∷ 1876035020154846 e- 15 ∷ 28651231606436456 e- 16 ∷ 39361666071299766 e- 16 ∷ 5188001224374871 e- 15 ∷ [])

-- GH_W3 .. GH_W11
unfoldable pub w3 : List Float
w3 = weights_from (6666666666666665 e- 16) (16666666666666669 e- 17 ∷ [])

unfoldable pub w5 : List Float
w5 = weights_from (5333333333333333 e- 16) (2220759220056126 e- 16 ∷ 11257411327720693 e- 18 ∷ [])

unfoldable pub w7 : List Float
w7 = weights_from (45714285714285713 e- 17) (24012317860501273 e- 17 ∷ 3075712396758651 e- 17 ∷ 5482688559722182 e- 19 ∷ [])

unfoldable pub w9 : List Float
w9 = weights_from (4063492063492064 e- 16) (2440975028949394 e- 16 ∷ 4991640676521791 e- 17 ∷ 27891413212317653 e- 19 ∷ 22345844007746576 e- 21 ∷ [])

unfoldable pub w11 : List Float
w11 = weights_from (3694083694083694 e- 16) (24224029987396992 e- 17 ∷ 6613874607105782 e- 17 ∷ 6720285235537264 e- 18 ∷ 19567193027122338 e- 20 ∷ 8121849790214923 e- 22 ∷ [])

-- the match of gh_rule: no order but 3, 5, 7, 9 and 11 has a rule
abbrev pub of_order : ℕ → List Float → List Float → List Float → List Float → List Float → List Float
of_order n l3 l5 l7 l9 l11 = cond (eqb n 3) l3 (cond (eqb n 5) l5 (cond (eqb n 7) l7 (cond (eqb n 9) l9 (cond (eqb n 11) l11 []))))

unfoldable pub gh_nodes : ℕ → List Float
gh_nodes n = of_order n z3 z5 z7 z9 z11

unfoldable pub gh_weights : ℕ → List Float
gh_weights n = of_order n w3 w5 w7 w9 w11

-- an order's nodes, each with its weight, and those of all orders one after the other
abbrev pub points_of : ℕ → List (Float × Float)
points_of n = zip (gh_nodes n) (gh_weights n)

unfoldable pub all_points : List (Float × Float)
all_points = points_of 3 ++ points_of 5 ++ points_of 7 ++ points_of 9 ++ points_of 11

-- a node and its weight at place i; NaNs where there is none
abbrev pub point_at : List Float → List Float → ℕ → Point
point_at zs ws i = record { z = get_or zs i nan; w = get_or ws i nan }

abbrev pub gh_rule : ℕ → ℕ → Point
gh_rule n i = point_at (gh_nodes n) (gh_weights n) i
