-- The sides of a target cut the sorted list: the stable sort is what is below the target, sorted, and then the others, sorted, and the sides are the ends of
-- these two parts. Assumes nothing.
use mathlib.Core.Path.{◌≡◌, refl, sym, ap, ◌∙◌}
use mathlib.Core.Bool.{Bool, true, false}
use mathlib.Core.List.{List, [], ◌∷◌, ◌++◌}
use lib.Ieee.{Float, lt, is_nan}
use Rattle.std.specs.Prelude.{Some}
use Rattle.math.specs.laws.Order.{clash, lt_le, lt_trans}
use Rattle.sorting.specs.Pairs.{Pair}
use Rattle.sorting.specs.Sort.{insert, insert_all, sort_of, Keyed, NoneBelow, Sorted}
use Rattle.sorting.specs.laws.Sort.{insert_past, insert_here, insert_none, none_insert, sorted_insert}
use Rattle.self_start.specs.Sides.{no_sides, put_low, put_high, put_of}
use Rattle.self_start.specs.laws.Sides.{sides_of}
use Rattle.self_start.specs.declared.sides.Sides.{Sides}
use Rattle.self_start.proofs.Ends.{last_of, last_in, ends_in, last_in_insert, last_past, last_stays}
use Rattle.sorting.specs.laws.Sort.{First, insert_first}

-- the sides, where `ls` are the pairs below the target by rising keys and `hs` the others
abbrev pub describe : List Pair → List Pair → Sides
describe ls hs = record { below = last_in ls; others = ends_in hs }

-- ---- a pair put to the sides is a pair put into one of the parts

low_step : (p : Pair) (l : List Pair) → Sorted l → Some (put_low (last_in l) p) ≡ last_in (insert p l)
unfolding put_low last_in last_of
low_step p [] s = sym (ap last_in (insert_none p))
low_step p (q ∷ l) s = by_test (lt (last_of q l).0 p.0) refl
  where
    by_test : (t : Bool) → lt (last_of q l).0 p.0 ≡ t → Some (put_low (last_in (q ∷ l)) p) ≡ last_in (insert p (q ∷ l))
    by_test true e = rw (e, last_in_insert q p (q ∷ l), last_past q p (q ∷ l) s e)
    by_test false e = rw (e, last_in_insert q p (q ∷ l), last_stays q p q l e)

high_step : (p : Pair) (h : List Pair) → Sorted h → Some (put_high (ends_in h) p) ≡ ends_in (insert p h)
unfolding put_high ends_in last_of
high_step p [] s = sym (ap ends_in (insert_none p))
high_step p (q ∷ h) s = by_test (lt q.0 p.0) refl
  where
    by_last : lt q.0 p.0 ≡ true → (t : Bool) → lt (last_of q h).0 p.0 ≡ t → Some (put_high (ends_in (q ∷ h)) p) ≡ ends_in (insert p (q ∷ h))
    by_last e true f = rw (e, f, insert_past p q h e, rw (insert_past p q h e) at (last_past q p (q ∷ h) s f))
    by_last e false f = rw (e, f, insert_past p q h e, rw (insert_past p q h e) at (last_stays q p q h f))

    by_test : (t : Bool) → lt q.0 p.0 ≡ t → Some (put_high (ends_in (q ∷ h)) p) ≡ ends_in (insert p (q ∷ h))
    by_test true e = by_last e (lt (last_of q h).0 p.0) refl
    by_test false e = rw (e, insert_here p q h e)

-- ---- the two parts of the sorted list

-- every key is below k
unfoldable pub Below : Float → List Pair → Type 0
Below k [] = Unit
Below k (p ∷ ps) = (lt p.0 k ≡ true) × Below k ps

below_insert : (k : Float) (p : Pair) (l : List Pair) → lt p.0 k ≡ true → Below k l → Below k (insert p l)
unfolding Below
below_insert k p [] h b = rw (insert_none p) (h, tt)
below_insert k p (q ∷ l) h b = by_test (below_insert k p l h b.1) (lt q.0 p.0) refl
  where
    by_test : Below k (insert p l) → (t : Bool) → lt q.0 p.0 ≡ t → Below k (insert p (q ∷ l))
    by_test ih true e = rw (insert_past p q l e) (b.0, ih)
    by_test ih false e = rw (insert_here p q l e) (h, b)

below_up : (t k : Float) (l : List Pair) → is_nan k ≡ false → lt k t ≡ false → Below t l → Below k l
unfolding Below
below_up t k [] n h b = tt
below_up t k (q ∷ l) n h b = (lt_le _ _ _ b.0 n h, below_up t k l n h b.1)

pub below_last : (t : Float) (d : Pair) (l : List Pair) → lt d.0 t ≡ true → Below t l → lt (last_of d l).0 t ≡ true
unfolding Below last_of
below_last t d [] h b = h
below_last t d (q ∷ l) h b = below_last t q l b.0 b.1

pass_all : (p : Pair) (l h : List Pair) → Below p.0 l → insert p (l ++ h) ≡ l ++ insert p h
unfolding Below
pass_all p [] h b = refl
pass_all p (q ∷ l) h b = insert_past p q (l ++ h) b.0 ∙ ap (λ k. q ∷ k) (pass_all p l h b.1)

stop_before : (p : Pair) (l h : List Pair) → First p.0 h → insert p (l ++ h) ≡ insert p l ++ h
stop_before p [] h f = insert_first p h f ∙ sym (ap (λ k. k ++ h) (insert_none p))
stop_before p (q ∷ l) h f = by_test (stop_before p l h f) (lt q.0 p.0) refl
  where
    by_test : insert p (l ++ h) ≡ insert p l ++ h → (t : Bool) → lt q.0 p.0 ≡ t → insert p ((q ∷ l) ++ h) ≡ insert p (q ∷ l) ++ h
    by_test ih true e = insert_past p q (l ++ h) e ∙ ap (λ k. q ∷ k) ih ∙ sym (ap (λ k. k ++ h) (insert_past p q l e))
    by_test ih false e = insert_here p q (l ++ h) e ∙ sym (ap (λ k. k ++ h) (insert_here p q l e))

first_over : (t k : Float) (h : List Pair) → lt k t ≡ true → NoneBelow t h → First k h
unfolding NoneBelow First
first_over t k [] e n = tt
first_over t k (q ∷ h) e n = by_test (lt q.0 k) refl
  where
    by_test : (b : Bool) → lt q.0 k ≡ b → lt q.0 k ≡ false
    by_test true g = clash (sym (lt_trans _ _ _ g e) ∙ n.0)
    by_test false g = g

pub record Cut (t : Float) (s : Sides) (all : List Pair) : Type 0 where
  pub lows : List Pair
  pub highs : List Pair
  pub whole : all ≡ lows ++ highs
  pub under : Below t lows
  pub over : NoneBelow t highs
  pub sorted_lows : Sorted lows
  pub sorted_highs : Sorted highs
  pub sides : s ≡ describe lows highs

put_is_low : (t : Float) (p : Pair) (l h : List Pair) → lt p.0 t ≡ true → Sorted l → put_of t p (describe l h) ≡ describe (insert p l) h
unfolding put_of
put_is_low t p l h e s = rw (e, low_step p l s)

put_is_high : (t : Float) (p : Pair) (l h : List Pair) → lt p.0 t ≡ false → Sorted h → put_of t p (describe l h) ≡ describe l (insert p h)
unfolding put_of
put_is_high t p l h e s = rw (e, high_step p h s)

pub cut : (t : Float) (ps : List Pair) → Keyed ps → Cut t (sides_of t no_sides ps) (sort_of ps)
unfolding sides_of insert_all Keyed Below NoneBelow Sorted last_in ends_in
cut t [] k = record { lows = []; highs = []; whole = refl; under = tt; over = tt; sorted_lows = tt; sorted_highs = tt; sides = refl }
cut t (p ∷ ps) k = by_test (cut t ps k.1) (lt p.0 t) refl
  where
    by_test : Cut t (sides_of t no_sides ps) (sort_of ps) → (b : Bool) → lt p.0 t ≡ b → Cut t (put_of t p (sides_of t no_sides ps)) (insert p (sort_of ps))
    by_test c true e =
        record {
          lows = insert p c.lows;
          highs = c.highs;
          whole = ap (insert p) c.whole ∙ stop_before p c.lows c.highs (first_over t p.0 c.highs e c.over);
          under = below_insert t p c.lows e c.under;
          over = c.over;
          sorted_lows = sorted_insert p c.lows k.0 c.sorted_lows;
          sorted_highs = c.sorted_highs;
          sides = ap (put_of t p) c.sides ∙ put_is_low t p c.lows c.highs e c.sorted_lows;
        }
    by_test c false e =
        record {
          lows = c.lows;
          highs = insert p c.highs;
          whole = ap (insert p) c.whole ∙ pass_all p c.lows c.highs (below_up t p.0 c.lows k.0 e c.under);
          under = c.under;
          over = none_insert t p c.highs e c.over;
          sorted_lows = c.sorted_lows;
          sorted_highs = sorted_insert p c.highs k.0 c.sorted_highs;
          sides = ap (put_of t p) c.sides ∙ put_is_high t p c.lows c.highs e c.sorted_highs;
        }
