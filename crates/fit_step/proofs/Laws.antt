-- Numbers copied into the first places of a list, and the first numbers of a list moved by a part of a direction. Assumes nothing.
use Rattle.std.specs.Prelude.{ℕ, zero, suc, ◌+◌, ◌-◌, ◌≤◌, ◌<◌, ◌≡◌, List, [], ◌∷◌, ◌++◌, Float, get_or, length, take, drop, replicate}
use Rattle.std.proofs.Math.Path.{refl}
use Rattle.std.proofs.Common.{arith, zero-add}
use Rattle.std.specs.Float.{nan}
use Rattle.std.proofs.lemmas.List.{get_or-take, get_or-drop, length-take-le, length-drop}
use Rattle.math.specs.Basic as Basic
use Rattle.math.specs.Loops.{iter}
use Rattle.fit_refusals.specs.Problem.{Problem}
use Rattle.fit_refusals.specs.Valid.{Valid}
use Rattle.curves.specs.laws.Params.{params_most}
use Rattle.fit_step.specs.Lists.{each}
use Rattle.fit_step.specs.Trial.{started, moved_at, moved_of}

over_four : (n : ℕ) → suc (suc (suc (suc (suc n)))) ≤ 4 → ⊥
over_four n h = omega arith

-- up to four numbers, copied over four zeros
copied : (l : List Float) → length l ≤ 4 → l ++ drop (length l) (replicate 4 Basic.zero) ≡ each (λ (i : ℕ) (v : Float). get_or l i nan) (length l) (replicate 4 Basic.zero)
unfolding each iter
copied [] h = refl
copied (a ∷ []) h = refl
copied (a ∷ b ∷ []) h = refl
copied (a ∷ b ∷ c ∷ []) h = refl
copied (a ∷ b ∷ c ∷ d ∷ []) h = refl
copied (a ∷ b ∷ c ∷ d ∷ e ∷ l) h = absurd (over_four (length l) h)

pub started_is : (q : Problem) → Valid q → q.starts ++ drop (length q.starts) (replicate 4 Basic.zero) ≡ started q
unfolding started
started_is q valid = rw (← valid.starts) (copied q.starts (omega (arith, params_most q.code, valid.starts)))

-- what moves each number is read below n
same_moves : (n a b : ℕ) (d e : List Float) (alpha : Float) (l : List Float) → ((j : ℕ) → j < n → get_or d (a + j) nan ≡ get_or e (b + j) nan)
    → each (moved_at a d alpha) n l ≡ each (moved_at b e alpha) n l
unfolding each iter
same_moves zero a b d e alpha l h = refl
same_moves (suc n) a b d e alpha l h = rw (h n (omega arith), same_moves n a b d e alpha l (λ j i. h j (omega (arith, i)))) refl

module _ (n : ℕ) (d : List Float) (alpha : Float) (l : List Float) where
  -- n numbers of d are no more than l has
  pub few_moved : n ≤ length d → n ≤ length l → length (take n d) ≤ length l
  few_moved h i = rw (length-take-le n d h) i

  -- by the first n of d
  pub moved_first : n ≤ length d → moved_of (length (take n d)) 0 (take n d) alpha l ≡ moved_of n 0 d alpha l
  unfolding moved_of
  moved_first h = rw (length-take-le n d h) (same_moves n 0 0 (take n d) d alpha l (λ j i. rw (zero-add j, get_or-take n d j nan i) refl))

  -- by the n of d from place a on
  pub moved_part : (a : ℕ) → a + n ≤ length d
      → moved_of (length (take (a + n - a) (drop a d))) 0 (take (a + n - a) (drop a d)) alpha l ≡ moved_of n a d alpha l
  unfolding moved_of
  moved_part a h =
      let e : a + n - a ≡ n = omega arith in
      let f : length (take n (drop a d)) ≡ n = length-take-le n (drop a d) (rw (length-drop a d) (omega (arith, h))) in
      rw (e, f) (same_moves n 0 a (take n (drop a d)) d alpha l (λ j i. rw (zero-add j, get_or-take n (drop a d) j nan i, get_or-drop a d j nan) refl))
