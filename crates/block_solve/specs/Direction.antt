-- The direction (`BlockNormal::solve`, document 01's 'The direction'): each group's damped block is solved, the damped fixed system is reduced by it and solved, and each group's effects follow.
use Rattle.std.specs.Prelude.{ℕ, ◌+◌, ◌*◌, Bool, cond, ◌&&◌, List, [], ◌∷◌, eqb, Float, get_or, set, replicate, Option, Some, None, is_some, option_map, option_and_then, unwrap_or}
use Rattle.std.specs.Float.{nan}
use Rattle.math.specs.Basic.{zero, is_finite}
use Rattle.math.specs.Lists.{every}
use Rattle.math.specs.Loops.{span}
use Rattle.math.specs.Matrix.{rows}
use Rattle.linalg.specs.declared.elimination.System.{System}
use Rattle.linalg.specs.Loops.{tries}
use Rattle.linalg.specs.Elimination.{solve_of}
use Rattle.group_blocks.specs.declared.Group.{Group}
use Rattle.group_blocks.specs.declared.Solution.{Solution}
use Rattle.group_blocks.specs.Groups.{fits, damped_at, solution_of, reduce_by}
use Rattle.group_blocks.specs.Components.{components_of}
use Rattle.block_solve.specs.declared.normal.BlockNormal.{BlockNormal}
use Rattle.block_solve.specs.declared.direction.Eliminated.{Eliminated}

-- ---- damping

abbrev pub diagonal_at : List Float → Float → ℕ → List Float → List Float
diagonal_at f t i a = set a (i * 4 + i) (damped_at t (get_or f (i * 4 + i) nan))

unfoldable pub damped_fixed : BlockNormal → ℕ → Float → System
damped_fixed n p t = record { a = span (diagonal_at n.fixed t) 0 p n.fixed; b = n.fixed_rhs }

-- ---- a group among all

unfoldable pub damped_block : List Float → ℕ → Float → List (List Float)
damped_block random g t =
    rows (damped_at t (get_or random (g * 4) nan)) (get_or random (g * 4 + 1) nan) (get_or random (g * 4 + 2) nan)
    (damped_at t (get_or random (g * 4 + 3) nan))

-- row i of its cross block
abbrev pub row_of : List Float → ℕ → ℕ → Float × Float
row_of cross g i = (get_or cross (g * 8 + i * 2) nan, get_or cross (g * 8 + i * 2 + 1) nan)

unfoldable pub group_of : BlockNormal → ℕ → Float → Group
group_of n g t =
    record {
      block = damped_block n.random g t;
      rhs = (get_or n.random_rhs (g * 2) nan, get_or n.random_rhs (g * 2 + 1) nan);
      cross = row_of n.cross g 0 ∷ row_of n.cross g 1 ∷ row_of n.cross g 2 ∷ row_of n.cross g 3 ∷ [];
    }

-- ---- all groups, in order

-- the system less what group b takes up, and b's solution o kept
abbrev pub taken : ℕ → ℕ → ℕ → Group → Eliminated → Solution → Eliminated
taken p k g b e o = record { s = reduce_by k p b o e.s; solved = set e.solved g o }

-- group g's turn: none at a zero pivot in its block
abbrev pub group_turn : BlockNormal → ℕ → ℕ → Float → ℕ → Eliminated → Option Eliminated
group_turn n p k t g e =
    let b = group_of n g t in
    option_map (taken p k g b e) (solution_of k p b)

-- the state before group 0, from the system s
abbrev pub untouched : System → Eliminated
untouched s = record { s = s; solved = replicate 32 (record { pair = (zero, zero); columns = replicate 4 (zero, zero) }) }

unfoldable pub eliminated_of : BlockNormal → ℕ → ℕ → ℕ → Float → Option Eliminated
eliminated_of n p k group_count t = tries (group_turn n p k t) group_count (untouched (damped_fixed n p t))

-- ---- the direction

abbrev pub after_groups : ℕ → ℕ → ℕ → Eliminated → Option (List Float)
after_groups p k group_count e = option_map (λ x. components_of p k group_count x e.solved) (solve_of p e.s)

-- the finished direction, none at an exactly zero pivot anywhere
unfoldable pub finished_of : BlockNormal → ℕ → ℕ → ℕ → Float → Option (List Float)
finished_of n p k group_count t = option_and_then (after_groups p k group_count) (eliminated_of n p k group_count t)

-- the direction: none also where a component of the finished one is not finite
abbrev pub all_or_none : List Float → Option (List Float)
all_or_none l = cond (every is_finite l) (Some l) None

abbrev pub finite_only : Option (List Float) → Option (List Float)
finite_only = option_and_then all_or_none

unfoldable pub direction_of : BlockNormal → ℕ → ℕ → ℕ → Float → Option (List Float)
direction_of n p k group_count t = finite_only (finished_of n p k group_count t)

-- ---- what `solve` answers and leaves in the list that it is lent

-- the sizes that there is a place for, with a list of just the direction's length
abbrev pub fitting : ℕ → ℕ → ℕ → ℕ → Bool
fitting p k group_count size = fits p k group_count && eqb size (p + group_count * k)

unfoldable pub solved_of : BlockNormal → ℕ → ℕ → ℕ → Float → ℕ → Option (List Float)
solved_of n p k group_count t size = cond (fitting p k group_count size) (finished_of n p k group_count t) None

-- whether there is a direction, and what is left in the list
abbrev pub is_direction : Option (List Float) → Bool
is_direction o = is_some (finite_only o)

abbrev pub left_in : Option (List Float) → List Float → List Float
left_in = unwrap_or
