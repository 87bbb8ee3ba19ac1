-- A turn of the loops in `average`, and their ends. Assumes nothing.
use Rattle.std.proofs.Common.{◌≡◌, ℕ, ◌+◌, ◌<◌, ◌≤◌, true, false, cond, List, [], ◌∷◌, ◌++◌, length, take, drop, set, sym, ◌∙◌, refl, arith, add-one, append-nil, drop-cons, take-suc-set, drop_of_length-le}
use Rattle.std.proofs.Math.Seq.{append_snoc, drop-set-lt}
use Rattle.std.specs.Float.{nan}
use Rattle.math.specs.Basic.{add}
use lib.Ieee.{Float}
use Rattle.sorting.specs.Pairs.{Pair, pair_at}
use Rattle.self_start.specs.Points.{near_dose, mean_of_run, points_of_run, averaged_of, swapped}
use Rattle.self_start.specs.Sides.{put_of}
use Rattle.self_start.specs.laws.Sides.{sides_of}
use Rattle.self_start.specs.declared.sides.Sides.{Sides}

-- ---- a run from place i on

run_step : (f s : Float) (n : ℕ) (l : List Pair) (i : ℕ) → i < length l
    → points_of_run f s n (drop i l) ≡ cond (near_dose (pair_at l i).0 f) (points_of_run f (add s (pair_at l i).1) (n + 1) (drop (i + 1) l)) ((f, mean_of_run s n) ∷ points_of_run (pair_at l i).0 (pair_at l i).1 1 (drop (i + 1) l))
unfolding points_of_run
run_step f s n l i p = rw (add-one i, drop-cons l i (nan, nan) p)

run_end : (f s : Float) (n : ℕ) (l : List Pair) (i : ℕ) → length l ≤ i → points_of_run f s n (drop i l) ≡ (f, mean_of_run s n) ∷ []
unfolding points_of_run
run_end f s n l i p = rw (drop_of_length-le l {i = i} p)

-- the first n are written; a run with this first dose, sum and count is open, and i is the next
module _ (l whole : List Pair) (f s : Float) (c n i : ℕ) (w : take n l ++ points_of_run f s c (drop i l) ≡ whole) where
  pub turn_near : i < length l → near_dose (pair_at l i).0 f ≡ true → take n l ++ points_of_run f (add s (pair_at l i).1) (c + 1) (drop (i + 1) l) ≡ whole
  turn_near p h = rw (run_step f s c l i p, h) at w

  written : n < length l → (rest : List Pair) → take (n + 1) (set l n (f, mean_of_run s c)) ++ rest ≡ take n l ++ ((f, mean_of_run s c) ∷ rest)
  written p rest = rw (add-one n, take-suc-set l n (f, mean_of_run s c) p) (append_snoc (take n l) (f, mean_of_run s c) rest)

  pub turn_far : n < i → i < length l → near_dose (pair_at l i).0 f ≡ false
      → take (n + 1) (set l n (f, mean_of_run s c)) ++ points_of_run (pair_at l i).0 (pair_at l i).1 1 (drop (i + 1) (set l n (f, mean_of_run s c))) ≡ whole
  turn_far q p h = rw (drop-set-lt (i + 1) l n (f, mean_of_run s c) (omega arith)) (written (omega arith) _ ∙ rw (run_step f s c l i p, h) at w)

  pub turn_end : n < length l → length l ≤ i → take (n + 1) (set l n (f, mean_of_run s c)) ≡ whole
  turn_end p q = sym (append-nil (take (n + 1) (set l n (f, mean_of_run s c)))) ∙ written p [] ∙ rw (run_end f s c l i q) at w

pub averaged_first : (l : List Pair) → 0 < length l → averaged_of l ≡ points_of_run (pair_at l 0).0 (pair_at l 0).1 1 (drop 1 l)
unfolding averaged_of
averaged_first [] p = absurd (omega (arith, p))
averaged_first (x ∷ l) p = refl

pub averaged_none : (l : List Pair) → length l ≡ 0 → averaged_of l ≡ l
unfolding averaged_of
averaged_none [] p = refl
averaged_none (x ∷ l) p = absurd (omega (arith, p))

-- ---- a point before the sides so far

pub sides_last : (t : Float) (s : Sides) (l : List Pair) (p : Pair) → sides_of t s (swapped (l ++ (p ∷ []))) ≡ sides_of t (put_of t (p.1, p.0) s) (swapped l)
unfolding sides_of
sides_last t s [] p = refl
sides_last t s (q ∷ l) p = rw (sides_last t s l p)

pub sides_none : (t : Float) (s : Sides) → sides_of t s [] ≡ s
unfolding sides_of
sides_none t s = refl
