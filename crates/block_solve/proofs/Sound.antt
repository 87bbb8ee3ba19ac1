-- Where there is a direction it is as long as it should be, and each of its components is finite and a binary64 number: the components
-- are quotients and differences, and `direction_of` itself tests that they are finite. Assumes nothing.
use Rattle.std.proofs.Common.{◌≡◌, refl, ap, ◌∙◌, ℕ, zero, suc, ◌+◌, ◌-◌, ◌*◌, ◌≤◌, ◌<◌, true, T, eqb, leb, List, [], ◌∷◌, ◌++◌, length, get_or, set, take, replicate, length-set, length-append, length-take, suc-mul, Option, Some, None, arith}
use Rattle.std.specs.Prelude.{is_some, IfSome, option_map, option_and_then}
use Rattle.std.proofs.lemmas.Option.{cond_some}
use Rattle.std.proofs.lemmas.Bool.{cond_both}
use lib.Ieee.{Float, nan, binary64, fits}
use lib.Ieee.Fits.{div-fits, sub-fits, nan-fits}
use lib.Ieee.Bits.{of_bits-fits}
use Rattle.math.specs.Basic as Basic
use Rattle.math.specs.Basic.{sub, div, is_finite}
use Rattle.math.specs.Lists.{every}
use Rattle.math.specs.laws.Lists.{every_at}
use Rattle.math.specs.Loops.{from}
use Rattle.linalg.specs.declared.elimination.System.{System}
use Rattle.linalg.specs.Loops.{down, tries}
use Rattle.linalg.specs.Elimination.{known, back_of, column_of, eliminate_of, solve_of}
use Rattle.group_blocks.specs.declared.Solution.{Solution}
use Rattle.group_blocks.specs.Components.{effects_of, append_group, components_of}
use Rattle.group_blocks.proofs.Laws.{effects_take}
use Rattle.block_solve.specs.declared.normal.BlockNormal.{BlockNormal}
use Rattle.block_solve.specs.declared.direction.Eliminated.{Eliminated}
use Rattle.block_solve.specs.Direction.{eliminated_of, after_groups, finished_of, finite_only, direction_of, is_direction, left_in}

-- ---- what each turn of a loop keeps, the loop keeps

module _ {A : Type 0} (P : A → Type 0) (f : ℕ → A → A) (h : (i : ℕ) (a : A) → P a → P (f i a)) where
  from_keeps : (lo n : ℕ) (a : A) → P a → P (from f lo n a)
  unfolding from
  from_keeps lo zero a x = x
  from_keeps lo (suc n) a x = h (lo + n) (from f lo n a) (from_keeps lo n a x)

  down_keeps : (n : ℕ) (a : A) → P a → P (down f n a)
  unfolding down
  down_keeps zero a x = x
  down_keeps (suc n) a x = down_keeps n (f n a) (h n a x)

-- ---- lists of binary64 numbers; past the end stands `nan`, which is one

abbrev pub Held : List Float → Type 0
Held l = (i : ℕ) → T (fits binary64 (get_or l i nan))

held_none : Held []
held_none i = nan-fits binary64

held_cons : (x : Float) (l : List Float) → T (fits binary64 x) → Held l → Held (x ∷ l)
held_cons x l f h zero = f
held_cons x l f h (suc i) = h i

held_set : (l : List Float) (i : ℕ) (v : Float) → T (fits binary64 v) → Held l → Held (set l i v)
held_set [] i v f h j = h j
held_set (x ∷ xs) zero v f h zero = f
held_set (x ∷ xs) zero v f h (suc j) = h (suc j)
held_set (x ∷ xs) (suc i) v f h zero = h zero
held_set (x ∷ xs) (suc i) v f h (suc j) = held_set xs i v f (λ n. h (suc n)) j

held_append : (xs ys : List Float) → Held xs → Held ys → Held (xs ++ ys)
held_append [] ys h g = g
held_append (x ∷ xs) ys h g = held_cons x (xs ++ ys) (h 0) (held_append xs ys (λ i. h (suc i)) g)

held_take : (n : ℕ) (l : List Float) → Held l → Held (take n l)
held_take zero l h = held_none
held_take (suc n) [] h = held_none
held_take (suc n) (x ∷ l) h = held_cons x (take n l) (h 0) (held_take n l (λ i. h (suc i)))

held_zeros : (n : ℕ) → Held (replicate n Basic.zero)
held_zeros zero = held_none
held_zeros (suc n) = held_cons Basic.zero (replicate n Basic.zero) (of_bits-fits binary64 0) (held_zeros n)

-- ---- a solution has four places, each a quotient or +0

Four : List Float → Type 0
Four x = (length x ≡ 4) × Held x

known_four : (n : ℕ) (s : System) (i : ℕ) (x : List Float) → Four x → Four (known n s i x)
unfolding Four
known_four n s i x h = (length-set x i (div _ _) ∙ h.0, held_set x i (div _ _) (div-fits binary64 _ _) h.1)

back_four : (n : ℕ) (s : System) → Four (back_of n s)
unfolding back_of Four
back_four n s = down_keeps Four (known n s) (known_four n s) n (replicate 4 Basic.zero) (refl, held_zeros 4)

solve_four : (n : ℕ) (s : System) → IfSome (solve_of n s) Four
unfolding solve_of eliminate_of
solve_four n s = cond_both (leb n 4) _ None (λ o. IfSome o Four) (λ e. at_end (tries (column_of n) n s)) (λ e. tt)
  where
    at_end : (o : Option System) → IfSome (option_map (back_of n) o) Four
    at_end None = tt
    at_end (Some z) = back_four n z

-- ---- the components

held_effects : (k : ℕ) (x y : Float) → T (fits binary64 x) → T (fits binary64 y) → Held (effects_of k x y)
unfolding effects_of
held_effects k x y p q = cond_both (eqb k 2) (x ∷ y ∷ []) (x ∷ []) Held (λ e. held_cons x (y ∷ []) p (held_cons y [] q held_none)) (λ e. held_cons x [] p held_none)

effects_length : (k : ℕ) (x y : Float) → 1 ≤ k → k ≤ 2 → length (effects_of k x y) ≡ k
effects_length k x y p q = rw (← effects_take k x y p q, length-take) (omega arith)

module _ (p k group_count : ℕ) (x : List Float) (solved : List Solution) (four : Four x) where
  components_held : Held (components_of p k group_count x solved)
  unfolding components_of Four
  components_held =
      from_keeps Held (append_group p k x solved)
      (λ g l h. held_append l (effects_of k (sub _ _) (sub _ _)) h (held_effects k (sub _ _) (sub _ _) (sub-fits binary64 _ _) (sub-fits binary64 _ _)))
      0 (group_count - 0) (take p x) (held_take p x four.1)

  -- after n groups
  so_far : (n : ℕ) → p ≤ 4 → 1 ≤ k → k ≤ 2 → length (from (append_group p k x solved) 0 n (take p x)) ≡ p + n * k
  unfolding from Four
  so_far zero a b c = rw length-take (omega (arith, four.0))
  so_far (suc n) a b c =
      let h = so_far n a b c in
      rw (length-append, effects_length k _ _ b c, h, suc-mul) (omega arith)

  components_length : p ≤ 4 → 1 ≤ k → k ≤ 2 → length (components_of p k group_count x solved) ≡ p + group_count * k
  unfolding components_of
  components_length a b c = let e : group_count - 0 ≡ group_count = omega arith in rw e (so_far group_count a b c)

-- ---- the direction

pub record Sound (p k group_count : ℕ) (d : List Float) : Type 0 where
  pub size : length d ≡ p + group_count * k
  pub finite : every is_finite d ≡ true
  pub held : Held d

finite_is : (o : Option (List Float)) (d : List Float) → finite_only o ≡ Some d → (every is_finite d ≡ true) × (o ≡ Some d)
finite_is None d h = cc
finite_is (Some l) d h =
    let r = cond_some (every is_finite l) l d h in
    (rw r.1 at r.0, ap Some r.1)

module _ (p k group_count : ℕ) (a : p ≤ 4) (b : 1 ≤ k) (c : k ≤ 2) where
  abbrev Made : List Float → Type 0
  Made d = (length d ≡ p + group_count * k) × Held d

  made : (e : Eliminated) (o : Option (List Float)) → IfSome o Four → IfSome (option_map (λ x. components_of p k group_count x e.solved) o) Made
  made e None h = tt
  made e (Some x) h = (components_length p k group_count x e.solved h a b c, components_held p k group_count x e.solved h)

  finished : (o : Option Eliminated) → IfSome (option_and_then (after_groups p k group_count) o) Made
  finished None = tt
  finished (Some e) = made e (solve_of p e.s) (solve_four p e.s)

pub direction_sound : (n : BlockNormal) (p k group_count : ℕ) (t : Float) (d : List Float) → p ≤ 4 → 1 ≤ k → k ≤ 2
    → direction_of n p k group_count t ≡ Some d → Sound p k group_count d
unfolding direction_of finished_of
direction_sound n p k group_count t d a b c h =
    let f = finite_is (finished_of n p k group_count t) d h in
    let m = rw f.1 at (finished p k group_count a b c (eliminated_of n p k group_count t)) in
    record { size = m.0; finite = f.0; held = m.1 }

-- each component of a direction is finite
pub direction_finite : (n : BlockNormal) (p k group_count : ℕ) (t : Float) (d : List Float) (i : ℕ) → direction_of n p k group_count t ≡ Some d → i < length d
    → is_finite (get_or d i nan) ≡ true
unfolding direction_of
direction_finite n p k group_count t d i h q = every_at is_finite d i nan (finite_is (finished_of n p k group_count t) d h).0 q

-- what `solve` answers and leaves, by the direction
pub direction_left : (n : BlockNormal) (p k group_count : ℕ) (t : Float) (d out : List Float) → direction_of n p k group_count t ≡ Some d
    → left_in (finished_of n p k group_count t) out ≡ d
unfolding direction_of
direction_left n p k group_count t d out h = ap (λ o. left_in o out) (finite_is (finished_of n p k group_count t) d h).1

pub direction_answer : (n : BlockNormal) (p k group_count : ℕ) (t : Float) → is_direction (finished_of n p k group_count t) ≡ is_some (direction_of n p k group_count t)
unfolding direction_of
direction_answer n p k group_count t = refl
