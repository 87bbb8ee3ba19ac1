-- No dose that is sorted and no gram of a point is a NaN: the readings that are kept are finite, and the mean of finite grams is a number, if perhaps an infinite one. Assumes nothing.
use mathlib.Core.Path.{◌≡◌, refl}
use mathlib.Core.Bool.{Bool, true, false, ◌&&◌, cond, not}
use mathlib.Core.List.{List, [], ◌∷◌}
use Prim.Native.Nat.{ℕ, ◌+◌, ◌^◌, ◌≤◌}
use native.Mathlib.Omega.{arith}
use lib.ListN.{length}
use lib.Ieee.{Float, binary64, lt, is_nan, round, of_int}
use lib.Ieee.Back.{round_whole}
use lib.Ieee.Positive.{positive_of_value}
use Rattle.std.proofs.lemmas.Bool.{and_parts}
use Rattle.math.specs.Basic.{is_finite, add}
use Rattle.math.specs.laws.Numbers.{finite_number, add_number, div_number}
use Rattle.math.specs.laws.Order.{clash'}
use Rattle.sorting.specs.Pairs.{Pair}
use Rattle.sorting.specs.Sort.{insert, insert_all, sort_of, Keyed, Sortable}
use Rattle.sorting.specs.laws.Sort.{insert_past, insert_here, insert_none}
use Rattle.self_start.specs.Points.{swapped, numbered, finite_pairs, near_dose, mean_of_run, points_of_run, averaged_of}

-- every pair is finite
unfoldable pub Finite : List Pair → Type 0
Finite [] = Unit
Finite (p ∷ ps) = ((is_finite p.0 && is_finite p.1) ≡ true) × Finite ps

gram_finite : (p : Pair) → (is_finite p.0 && is_finite p.1) ≡ true → is_finite p.1 ≡ true
gram_finite p h = (and_parts (is_finite p.0) (is_finite p.1) h).1

finite_pairs_lem : (l : List Pair) → Finite (finite_pairs l)
unfolding Finite
finite_pairs_lem [] = tt
finite_pairs_lem (p ∷ ps) = by_test (finite_pairs_lem ps) (is_finite p.0 && is_finite p.1) refl
  where
    by_test : Finite (finite_pairs ps) → (t : Bool) → (is_finite p.0 && is_finite p.1) ≡ t → Finite (cond t (p ∷ finite_pairs ps) (finite_pairs ps))
    by_test ih true h = (h, ih)
    by_test ih false h = ih

finite_keyed : (l : List Pair) → Finite l → Keyed l
unfolding Finite Keyed
finite_keyed [] f = tt
finite_keyed (p ∷ ps) f = (finite_number p.0 (and_parts (is_finite p.0) (is_finite p.1) f.0).0, finite_keyed ps f.1)

finite_few : (l : List Pair) → length (finite_pairs l) ≤ length l
finite_few [] = omega arith
finite_few (p ∷ ps) = by_test (finite_few ps) (is_finite p.0 && is_finite p.1)
  where
    by_test : length (finite_pairs ps) ≤ length ps → (t : Bool) → length (cond t (p ∷ finite_pairs ps) (finite_pairs ps)) ≤ length (p ∷ ps)
    by_test h true = omega arith
    by_test h false = omega arith

pub readings_sortable : (l : List Pair) → length l ≤ 512 → Sortable (finite_pairs l)
readings_sortable l few = record { within_longest = omega (arith, finite_few l, few); keyed = finite_keyed (finite_pairs l) (finite_pairs_lem l) }

finite_insert : (p : Pair) (l : List Pair) → (is_finite p.0 && is_finite p.1) ≡ true → Finite l → Finite (insert p l)
unfolding Finite
finite_insert p [] h f = rw (insert_none p) (h, tt)
finite_insert p (q ∷ qs) h f = by_test (finite_insert p qs h f.1) (lt q.0 p.0) refl
  where
    by_test : Finite (insert p qs) → (t : Bool) → lt q.0 p.0 ≡ t → Finite (insert p (q ∷ qs))
    by_test ih true e = rw (insert_past p q qs e) (f.0, ih)
    by_test ih false e = rw (insert_here p q qs e) (h, f)

finite_sort : (l : List Pair) → Finite l → Finite (sort_of l)
unfolding Finite insert_all
finite_sort [] f = tt
finite_sort (p ∷ ps) f = finite_insert p (sort_of ps) f.0 (finite_sort ps f.1)

-- ---- means

mean_number : (s : Float) (n : ℕ) → is_nan s ≡ false → 1 ≤ n → n ≤ 512 → is_nan (mean_of_run s n) ≡ false
unfolding mean_of_run of_int
mean_number s n p a b =
    let w : n ≤ 2 ^ 53 = omega arith in
    div_number s (round binary64 false n 1) p (positive_of_value (round binary64 false n 1) n 1 (round_whole binary64 false n w) a)

run_numbered : (xval s : Float) (n : ℕ) (l : List Pair) → is_nan s ≡ false → 1 ≤ n → n + length l ≤ 512 → Finite l → numbered (points_of_run xval s n l) ≡ true
unfolding points_of_run Finite
run_numbered xval s n [] p a b f = rw (mean_number s n p a (omega (arith, b)))
run_numbered xval s n (q ∷ qs) p a b f =
    let g = gram_finite q f.0 in
    by_test
    (run_numbered xval (add s q.1) (n + 1) qs (add_number s q.1 p g) (omega arith) (omega (arith, b)) f.1)
    (run_numbered q.0 q.1 1 qs (finite_number q.1 g) (omega arith) (omega (arith, b)) f.1)
    (near_dose q.0 xval)
  where
    by_test : numbered (points_of_run xval (add s q.1) (n + 1) qs) ≡ true → numbered (points_of_run q.0 q.1 1 qs) ≡ true → (t : Bool)
        → numbered (cond t (points_of_run xval (add s q.1) (n + 1) qs) ((xval, mean_of_run s n) ∷ points_of_run q.0 q.1 1 qs)) ≡ true
    by_test near far true = near
    by_test near far false = rw (mean_number s n p a (omega (arith, b))) far

averaged_numbered : (l : List Pair) → length l ≤ 512 → Finite l → numbered (averaged_of l) ≡ true
unfolding averaged_of Finite
averaged_numbered [] b f = refl
averaged_numbered (p ∷ ps) b f = run_numbered p.0 p.1 1 ps (finite_number p.1 (gram_finite p f.0)) (omega arith) (omega (arith, b)) f.1

pub points_numbered : (l : List Pair) → length (sort_of (finite_pairs l)) ≤ 512 → numbered (averaged_of (sort_of (finite_pairs l))) ≡ true
points_numbered l b = averaged_numbered (sort_of (finite_pairs l)) b (finite_sort (finite_pairs l) (finite_pairs_lem l))

-- the points turned around, to be sorted by grams
pub grams_keyed : (l : List Pair) → numbered l ≡ true → Keyed (swapped l)
unfolding Keyed
grams_keyed [] h = tt
grams_keyed (p ∷ ps) h = let b = and_parts (not (is_nan p.1)) (numbered ps) h in (not_true (is_nan p.1) b.0, grams_keyed ps b.1)
  where
    not_true : (b : Bool) → not b ≡ true → b ≡ false
    not_true true h = clash' h
    not_true false h = refl
