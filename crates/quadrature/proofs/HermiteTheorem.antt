-- The rule of each order is right: one test runs over all ten tables in exact fractions, and one law reads it at an order and a place. Assumes nothing.
use mathlib.Core.Path.{◌≡◌, refl, subst, sym}
use mathlib.Core.Bool.{Bool, true, false, ◌&&◌, ◌||◌, cond}
use mathlib.Core.List.{List, [], ◌∷◌}
use Prim.Native.Nat.{ℕ, zero, suc, ◌*◌, ◌<◌}
use native.Mathlib.Nat.{le_of_suc-le-suc, not-suc-le-zero}
use lib.IntN.{ℤ, pos, neg_ℤ}
use lib.Dec.{T, eqb, eqb→eq}
use lib.ListN.{length, get_or}
use lib.Ieee.{nan, fin, up, down, of_bits, round, neg}
use lib.Ieee.Exact.{HasValue}
use lib.Ieee.Fits.{and_l, and_r}
use Rattle.std.specs.Prelude.{Some}
use Rattle.std.specs.List.{list_all}
use Rattle.quadrature.specs.Orders.{orders, is_order_in, gh_order_of}
use Rattle.quadrature.specs.Rules.{z3, z5, z7, z9, z11, w3, w5, w7, w9, w11, gh_nodes, gh_weights}
use Rattle.quadrature.specs.Hermite.{ratio, value_of, He, near_root, apart, sum_of_values, sum_near_one, RightRule}
use Rattle.quadrature.proofs.OrderLaws.{order_known}

-- ---- the test
unfoldable tested : ℕ → Bool
tested n = (eqb (length (gh_nodes n)) n && (list_all (near_root n) (gh_nodes n) && apart (gh_nodes n))) && (eqb (length (gh_weights n)) n && sum_near_one (gh_weights n))

all_tested : T (list_all tested orders)
unfolding z3 z5 z7 z9 z11 w3 w5 w7 w9 w11 gh_nodes gh_weights value_of He near_root apart sum_of_values sum_near_one tested round of_bits neg
all_tested = tt

-- ---- a test of all at one
module _ {A : Type 0} (f : A → Bool) (d : A) where
  all_at : (xs : List A) → T (list_all f xs) → (i : ℕ) → i < length xs → T (f (get_or xs i d))
  all_at [] t i h = absurd (not-suc-le-zero h)
  all_at (x ∷ xs) t zero h = and_l (f x) (list_all f xs) t
  all_at (x ∷ xs) t (suc i) h = all_at xs (and_r (f x) (list_all f xs) t) i (le_of_suc-le-suc h)

module _ (f : ℕ → Bool) (n : ℕ) where
  at_head : (b : Bool) (m : ℕ) (ms : List ℕ) → eqb n m ≡ b → T (b || is_order_in n ms) → T (f m && list_all f ms) → (T (is_order_in n ms) → T (list_all f ms) → T (f n)) → T (f n)
  at_head true m ms e h t ih = subst (λ (k : ℕ). T (f k)) (sym (eqb→eq n m (subst T (sym e) tt))) (and_l (f m) (list_all f ms) t)
  at_head false m ms e h t ih = ih h (and_r (f m) (list_all f ms) t)

  at_one : (ms : List ℕ) → T (is_order_in n ms) → T (list_all f ms) → T (f n)
  unfolding is_order_in
  at_one [] h t = absurd h
  at_one (m ∷ ms) h t = at_head (eqb n m) m ms refl h t (at_one ms)

-- ---- what it says of each order and each place
pub right_rule : (n : ℕ) → T (is_order_in n orders) → RightRule n
unfolding tested
right_rule n known =
    let nodes = eqb (length (gh_nodes n)) n in
    let roots = list_all (near_root n) (gh_nodes n) in
    let distinct = apart (gh_nodes n) in
    let weights = eqb (length (gh_weights n)) n in
    let sum = sum_near_one (gh_weights n) in
    let t = at_one tested n orders known all_tested in
    let z = and_l (nodes && (roots && distinct)) (weights && sum) t in
    let r = and_r nodes (roots && distinct) z in
    let w = and_r (nodes && (roots && distinct)) (weights && sum) t in
    let e = eqb→eq _ _ (and_l nodes (roots && distinct) z) in
    record {
      nodes_count = e;
      near_root_lem = λ i h. all_at (near_root n) nan (gh_nodes n) (and_l roots distinct r) i (rw e h);
      nodes_apart = and_r roots distinct r;
      weights_count = eqb→eq _ _ (and_l weights sum w);
      weights_near_one = and_r weights sum w;
    }

-- so whatever is asked for, the rule that is taken is right
pub taken_rule_right : (asked n : ℕ) → gh_order_of asked ≡ Some n → RightRule n
taken_rule_right asked n e = right_rule n (order_known asked n e)

-- ---- the fraction of a float is its own value, by IEEE's sign, size and exponent
pub value_right : (s : Bool) (m : ℕ) (e : ℤ) → (value_of (fin s m e) ≡ ratio (cond s (neg_ℤ (pos (m * up e))) (pos (m * up e))) (down e)) × HasValue (fin s m e) s (m * up e) (down e)
unfolding value_of
value_right s m e = (refl, (refl, refl))
