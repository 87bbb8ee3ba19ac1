-- The first and the last pair of a list, and of a sorted list into which a pair is put. Assumes nothing.
use mathlib.Core.Path.{◌≡◌, refl, sym, ap, ◌∙◌}
use mathlib.Core.Bool.{Bool, true, false}
use mathlib.Core.List.{List, [], ◌∷◌, ◌++◌}
use Prim.Native.Nat.{ℕ, suc, ◌-◌}
use native.Mathlib.Omega.{arith}
use lib.ListN.{length, get_or}
use lib.Ieee.{Float, lt}
use Rattle.std.specs.Prelude.{Option, Some, None}
use Rattle.math.specs.laws.Order.{clash, lt_le, lt_self}
use Rattle.sorting.specs.Pairs.{Pair}
use Rattle.sorting.specs.Sort.{insert, NoneBelow, Sorted}
use Rattle.sorting.specs.laws.Sort.{insert_past, insert_here, insert_none}

unfoldable pub last_of : Pair → List Pair → Pair
last_of d [] = d
last_of d (p ∷ ps) = last_of p ps

-- the last; the first and the last
unfoldable pub last_in : List Pair → Option Pair
last_in [] = None
last_in (p ∷ ps) = Some (last_of p ps)

unfoldable pub ends_in : List Pair → Option (Pair × Pair)
ends_in [] = None
ends_in (p ∷ ps) = Some (p, last_of p ps)

pub last_in_insert : (d p : Pair) (l : List Pair) → last_in (insert p l) ≡ Some (last_of d (insert p l))
unfolding last_in last_of
last_in_insert d p [] = rw (insert_none p)
last_in_insert d p (q ∷ l) = by_test (lt q.0 p.0) refl
  where
    by_test : (t : Bool) → lt q.0 p.0 ≡ t → last_in (insert p (q ∷ l)) ≡ Some (last_of d (insert p (q ∷ l)))
    by_test true e = rw (insert_past p q l e)
    by_test false e = rw (insert_here p q l e)

last_none : (k : Float) (d : Pair) (l : List Pair) → lt d.0 k ≡ false → NoneBelow k l → lt (last_of d l).0 k ≡ false
unfolding NoneBelow last_of
last_none k d [] h n = h
last_none k d (p ∷ l) h n = last_none k p l n.0 n.1

head_below : (q : Pair) (l : List Pair) (k : Float) → Sorted (q ∷ l) → lt (last_of q l).0 k ≡ true → lt q.0 k ≡ true
unfolding Sorted
head_below q l k s h = by_test (lt q.0 k) refl
  where
    by_test : (t : Bool) → lt q.0 k ≡ t → lt q.0 k ≡ true
    by_test true e = e
    by_test false e = clash (sym (lt_le _ _ _ h s.0 e) ∙ last_none q.0 q l (lt_self q.0) s.1.0)

-- above the last it becomes the last
pub last_past : (d p : Pair) (l : List Pair) → Sorted l → lt (last_of d l).0 p.0 ≡ true → last_of d (insert p l) ≡ p
unfolding Sorted last_of
last_past d p [] s h = ap (last_of d) (insert_none p)
last_past d p (q ∷ l) s h = ap (last_of d) (insert_past p q l (head_below q l p.0 s h)) ∙ last_past q p l s.1.1 h

-- and else the last stays
pub last_stays : (d p q : Pair) (l : List Pair) → lt (last_of q l).0 p.0 ≡ false → last_of d (insert p (q ∷ l)) ≡ last_of q l
unfolding last_of
last_stays d p q [] h = ap (last_of d) (insert_here p q [] h)
last_stays d p q (r ∷ l) h = by_test (last_stays q p r l h) (lt q.0 p.0) refl
  where
    by_test : last_of q (insert p (r ∷ l)) ≡ last_of r l → (t : Bool) → lt q.0 p.0 ≡ t → last_of d (insert p (q ∷ (r ∷ l))) ≡ last_of r l
    by_test ih true e = ap (last_of d) (insert_past p q (r ∷ l) e) ∙ ih
    by_test ih false e = ap (last_of d) (insert_here p q (r ∷ l) e)

pub last_append : (d : Pair) (l : List Pair) (h : Pair) (hs : List Pair) → last_of d (l ++ (h ∷ hs)) ≡ last_of h hs
unfolding last_of
last_append d [] h hs = refl
last_append d (p ∷ l) h hs = last_append p l h hs

pub last_at : (p : Pair) (l : List Pair) (d : Pair) → get_or (p ∷ l) (length (p ∷ l) - 1) d ≡ last_of p l
unfolding last_of
last_at p [] d = refl
last_at p (q ∷ l) d =
    let e : length (p ∷ (q ∷ l)) - 1 ≡ suc (length (q ∷ l) - 1) = omega arith in
    ap (λ (n : ℕ). get_or (p ∷ (q ∷ l)) n d) e ∙ last_at q l d
