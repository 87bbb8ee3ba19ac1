-- One group of the direction: its damped block solved, and the fixed system less what the group takes up.
use Rattle.std.specs.Prelude.{ℕ, ◌+◌, ◌*◌, Bool, cond, ◌&&◌, List, eqb, leb, Float, get_or, set, replicate, Option, option_map, option_and_then}
use Rattle.std.specs.Float.{nan}
use Rattle.math.specs.Basic.{add, sub, mul, zero, max_of}
use Rattle.math.specs.Loops.{span}
use Rattle.math.specs.Rationals.{1e-8}
use Rattle.linalg.specs.declared.elimination.System.{System}
use Rattle.linalg.specs.Loops.{tries}
use Rattle.linalg.specs.Pair.{pair_of}
use Rattle.group_blocks.specs.declared.Group.{Group}
use Rattle.group_blocks.specs.declared.Solution.{Solution}

-- the sizes that there is a place for
abbrev pub fits : ℕ → ℕ → ℕ → Bool
fits p k group_count = leb p 4 && leb 1 k && leb k 2 && leb group_count 32

-- ---- damping

-- a diagonal entry x, damped by a share of itself, or of 1e-8 where that is more
abbrev pub damped_at : Float → Float → Float
damped_at damping x = add x (mul damping (max_of x 1e-8))

-- ---- the group solved

-- a row of k numbers times a column, from 0 on
unfoldable pub dot_of_effects : ℕ → Float × Float → Float × Float → Float
dot_of_effects k a x = cond (eqb k 1) (add zero (mul a.0 x.0)) (add (add zero (mul a.0 x.0)) (mul a.1 x.1))

module _ (k p : ℕ) (b : Group) where
  -- the block solved for row j of the cross block
  abbrev pub solved_column : ℕ → Option (Float × Float)
  solved_column j = let r = get_or b.cross j (nan, nan) in pair_of k b.block r.0 r.1

  abbrev pub stored : ℕ → List (Float × Float) → Option (List (Float × Float))
  stored j w = option_map (set w j) (solved_column j)

  unfoldable pub solved_columns : Option (List (Float × Float))
  solved_columns = tries stored p (replicate 4 (zero, zero))

  abbrev pub with_columns : Float × Float → Option Solution
  with_columns v = option_map (λ w. record { pair = v; columns = w }) solved_columns

  unfoldable pub solution_of : Option Solution
  solution_of = option_and_then with_columns (pair_of k b.block b.rhs.0 b.rhs.1)

-- the fixed system less the cross block times the columns, and its right-hand side less it times the pair
module _ (k p : ℕ) (b : Group) (o : Solution) where
  abbrev pub cross_times : ℕ → Float × Float → Float
  cross_times i x = dot_of_effects k (get_or b.cross i (nan, nan)) x

  abbrev pub reduce_at : ℕ → ℕ → List Float → List Float
  reduce_at i j a = set a (i * 4 + j) (sub (get_or a (i * 4 + j) nan) (cross_times i (get_or o.columns j (nan, nan))))

  unfoldable pub reduce_row : ℕ → System → System
  reduce_row i s = record { a = span (reduce_at i) 0 p s.a; b = set s.b i (sub (get_or s.b i nan) (cross_times i o.pair)) }

  unfoldable pub reduce_by : System → System
  reduce_by s = span reduce_row 0 p s
