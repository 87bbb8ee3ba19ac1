-- What `approx` reads of points sorted by grams: only the last below the target, the first of the others and the last of the others. Assumes nothing.
use mathlib.Core.Path.{◌≡◌, refl, sym, ap, ◌∙◌}
use mathlib.Core.Bool.{Bool, true, false, cond, and-false}
use mathlib.Core.List.{List, [], ◌∷◌, ◌++◌, append-nil}
use Prim.Native.Nat.{◌<◌}
use native.Mathlib.Omega.{arith}
use lib.ListN.{length, length-append}
use lib.Ieee.{Float, nan, lt, le, eq, is_nan}
use lib.Dec.{eqb}
use borrow.Author.Tests.{ne_eqb}
use Rattle.math.specs.laws.Order.{clash, above_num, not_above, lt_is_le, not_below, is_nan_lem}
use Rattle.sorting.specs.Pairs.{Pair}
use Rattle.sorting.specs.Sort.{sort_of, Keyed, NoneBelow, Sorted}
use Rattle.self_start.specs.Points.{between_of, window_of, approx_of}
use Rattle.self_start.specs.Sides.{no_sides, approx_ends, approx_sides}
use Rattle.self_start.specs.laws.Sides.{sides_of}
use Rattle.self_start.proofs.Ends.{last_of, last_in, ends_in, last_append, last_at}
use Rattle.self_start.proofs.Cut.{describe, Below, below_last, cut}

cond_same : (b : Bool) (x : Float) → cond b x x ≡ x
cond_same true x = refl
cond_same false x = refl

module _ (t other : Float) where
  window_pass : (p q : Pair) (l : List Pair) → le t q.0 ≡ false → window_of p (q ∷ l) t ≡ window_of q l t
  unfolding window_of
  window_pass p q l e = rw (e, and-false (le p.0 t))

  window_here : (p q : Pair) (l : List Pair) → le p.0 t ≡ true → le t q.0 ≡ true → window_of p (q ∷ l) t ≡ between_of p q t
  unfolding window_of
  window_here p q l e f = rw (e, f)

  window_cut : (p : Pair) (l : List Pair) (h : Pair) (hs : List Pair) → lt p.0 t ≡ true → Below t l → le t h.0 ≡ true
      → window_of p (l ++ (h ∷ hs)) t ≡ between_of (last_of p l) h t
  unfolding Below last_of
  window_cut p [] h hs b bs g = window_here p h hs (lt_is_le _ _ b) g
  window_cut p (q ∷ l) h hs b bs g = window_pass p q (l ++ (h ∷ hs)) (not_above _ _ bs.0) ∙ window_cut q l h hs bs.0 bs.1 g

  nan_above : (x : Float) → is_nan t ≡ true → le t x ≡ false
  unfolding le lt eq
  nan_above x h = rw (is_nan_lem t h)

  window_nan : (p : Pair) (l : List Pair) → is_nan t ≡ true → window_of p l t ≡ (last_of p l).1
  unfolding window_of last_of
  window_nan p [] h = refl
  window_nan p (q ∷ l) h = window_pass p q l (nan_above q.0 h) ∙ window_nan q l h

  approx_none : approx_of [] t other ≡ other
  unfolding approx_of
  approx_none = refl

  approx_one : (p : Pair) → approx_of (p ∷ []) t other ≡ p.1
  unfolding approx_of
  approx_one p = refl

  approx_many : (p : Pair) (r : List Pair) → 0 < length r
      → approx_of (p ∷ r) t other ≡ cond (le t p.0) p.1 (cond (le (last_of p r).0 t) (last_of p r).1 (window_of p r t))
  unfolding approx_of
  approx_many p [] h = absurd (omega (arith, h))
  approx_many p (q ∷ l) h =
      let a : eqb (length (p ∷ (q ∷ l))) 0 ≡ false = ne_eqb _ 0 (λ (z : length (p ∷ (q ∷ l)) ≡ 0). omega (arith, z)) in
      let b : eqb (length (p ∷ (q ∷ l))) 1 ≡ false = ne_eqb _ 1 (λ (z : length (p ∷ (q ∷ l)) ≡ 1). omega (arith, z)) in
      rw (a, b, last_at p (q ∷ l) (nan, nan))

  -- nothing lies below t: it is at most the first, or a NaN
  first_or_nan : (p : Pair) → is_nan p.0 ≡ false → lt p.0 t ≡ false → le t p.0 ≡ false → is_nan t ≡ true
  first_or_nan p n h e = by_test (is_nan t) refl
    where
      by_test : (b : Bool) → is_nan t ≡ b → is_nan t ≡ true
      by_test true o = o
      by_test false o = clash (sym (not_below p.0 t n o h) ∙ e)

  highs_alone : (p : Pair) (r : List Pair) → is_nan p.0 ≡ false → lt p.0 t ≡ false
      → cond (le t p.0) p.1 (last_of p r).1 ≡ cond (le t p.0) p.1 (cond (le (last_of p r).0 t) (last_of p r).1 (window_of p r t))
  highs_alone p r n h = by_test (le t p.0) refl
    where
      by_test : (b : Bool) → le t p.0 ≡ b → cond b p.1 (last_of p r).1 ≡ cond b p.1 (cond (le (last_of p r).0 t) (last_of p r).1 (window_of p r t))
      by_test true e = refl
      by_test false e =
          sym (ap (λ w. cond (le (last_of p r).0 t) (last_of p r).1 w) (window_nan p r (first_or_nan p n h e)) ∙ cond_same (le (last_of p r).0 t) (last_of p r).1)

  parts : (l h : List Pair) → Below t l → NoneBelow t h → Sorted h → approx_sides (describe l h) t other ≡ approx_of (l ++ h) t other
  unfolding approx_ends last_in ends_in last_of Below NoneBelow Sorted
  parts [] [] b n s = sym approx_none
  parts [] (p ∷ []) b n s = cond_same (le t p.0) p.1 ∙ sym (approx_one p)
  parts [] (p ∷ (q ∷ r)) b n s = highs_alone p (q ∷ r) s.0 n.0 ∙ sym (approx_many p (q ∷ r) (omega arith))
  parts (p ∷ []) [] b n s = sym (approx_one p)
  parts (p ∷ (q ∷ r)) [] b n s =
      let e : le t p.0 ≡ false = not_above _ _ b.0 in
      let f : le (last_of q r).0 t ≡ true = lt_is_le _ _ (below_last t q r b.1.0 b.1.1) in
      sym (ap (λ k. approx_of k t other) (append-nil (p ∷ (q ∷ r))) ∙ approx_many p (q ∷ r) (omega arith) ∙ rw (e, f))
  parts (p ∷ l) (h ∷ hs) b n s =
      let e : le t p.0 ≡ false = not_above _ _ b.0 in
      let g : le t h.0 ≡ true = not_below h.0 t s.0 (above_num p.0 t b.0) n.0 in
      sym (approx_many p (l ++ (h ∷ hs)) (rw (length-append l (h ∷ hs)) (omega arith)) ∙ rw (e, last_append p l h hs, window_cut p l h hs b.0 b.1 g))

pub sides_approx : (t other : Float) (ps : List Pair) → Keyed ps → approx_sides (sides_of t no_sides ps) t other ≡ approx_of (sort_of ps) t other
sides_approx t other ps k =
    let c = cut t ps k in
    ap (λ s. approx_sides s t other) c.sides ∙ parts t other c.lows c.highs c.under c.over c.sorted_highs ∙ sym (ap (λ l. approx_of l t other) c.whole)
