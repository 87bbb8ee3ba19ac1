-- The pair solve is the elimination of two equations, and of one where there is one effect: the branches of both are the same tests. Assumes nothing.
use Rattle.std.proofs.Common.{◌≡◌, refl, Bool, true, false, cond, List, [], ◌∷◌, Option, Some, None}
use Rattle.std.specs.Prelude.{option_map, option_and_then}
use lib.Ieee.{Float, lt, eq}
use Rattle.math.specs.Basic.{zero, abs_of}
use Rattle.math.specs.Matrix.{rows}
use Rattle.math.specs.Loops.{from}
use Rattle.linalg.specs.declared.elimination.System.{System}
use Rattle.linalg.specs.Loops.{down, tries}
use Rattle.linalg.specs.Elimination.{eliminate_of}
use Rattle.linalg.specs.Pair.{two_of, pair_of, eliminated}
use Rattle.linalg.specs.laws.Steps.{elimination_steps}

-- the system with rows a b | r and c d | s
abbrev pub system_of : Float → Float → Float → Float → Float → Float → System
system_of a b r c d s =
    record {
      a = a ∷ b ∷ zero ∷ zero ∷ c ∷ d ∷ zero ∷ zero ∷ zero ∷ zero ∷ zero ∷ zero ∷ zero ∷ zero ∷ zero ∷ zero ∷ [];
      b = r ∷ s ∷ zero ∷ zero ∷ [];
    }

-- the same answer as a solution
abbrev pub solution_of : Option (Float × Float) → Option (List Float)
solution_of = option_map (λ p. p.0 ∷ p.1 ∷ zero ∷ zero ∷ [])

-- one test, and where it fails one answer
one_test : {A C D : Type 0} (t : Bool) (f : A → D) (p : A) (g : C → D) (y : C) → f p ≡ g y → option_map f (cond t None (Some p)) ≡ option_map g (cond t None (Some y))
one_test true f p g y d = refl
one_test false f p g y d = rw d

-- two tests in turn, and where both fail one answer
two_tests : {A B C D : Type 0} (t u : Bool) (f : A → D) (p : A) (g : C → D) (h : B → Option C) (x : B) (y : C) → h x ≡ cond u None (Some y) → f p ≡ g y
    → option_map f (cond t None (cond u None (Some p))) ≡ option_map g (option_and_then h (cond t None (Some x)))
two_tests true u f p g h x y e d = refl
two_tests false true f p g h x y e d = rw e
two_tests false false f p g h x y e d = rw (e, d)

module _ (a b r c d s : Float) where
  two_equations : (t : Bool) → lt (abs_of a) (abs_of c) ≡ t
      → solution_of (cond t (eliminated c d s a b r) (eliminated a b r c d s)) ≡ eliminate_of 2 (system_of a b r c d s)
  unfolding from down tries elimination_steps
  two_equations true h = rw h (two_tests (eq c zero) _ _ _ _ _ _ _ refl refl)
  two_equations false h = rw h (two_tests (eq a zero) _ _ _ _ _ _ _ refl refl)

  pub pair_eliminates : solution_of (two_of (rows a b c d) r s) ≡ eliminate_of 2 (system_of a b r c d s)
  unfolding two_of
  pair_eliminates = two_equations (lt (abs_of a) (abs_of c)) refl

  pub one_eliminates : solution_of (pair_of 1 (rows a b c d) r s) ≡ eliminate_of 1 (system_of a b r c d s)
  unfolding from down tries elimination_steps pair_of
  one_eliminates = one_test (eq a zero) _ _ _ _ refl
