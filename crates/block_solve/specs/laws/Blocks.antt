-- What a reading adds to the blocks one by one is what `accumulate` adds: the blocks do not mix. Of a list whose first places are lent, what is read of them is read of the list.
use Rattle.std.specs.Prelude.{◌≡◌, ℕ, zero, suc, ◌+◌, ◌*◌, ◌<◌, ◌≤◌, List, Float, get_or, length, take}
use Rattle.std.proofs.Math.Path.{refl, ap}
use Rattle.std.proofs.Common.{◌∙◌, sym, arith, length-take}
use Rattle.std.proofs.lemmas.List.{get_or-take}
use Rattle.std.specs.Float.{nan}
use Rattle.math.specs.Basic.{mul}
use Rattle.math.specs.Loops.{iter}
use Rattle.block_solve.specs.declared.normal.BlockNormal.{BlockNormal}
use Rattle.block_solve.specs.Normal.{in_fixed_rhs, fixed_at, cross_at, fixed_row, random_at, random_row, add_reading}
use Rattle.block_solve.specs.Blocks.{product_in, product_row, products_of, multiple_in, multiples_of, fixed_row_at, cross_row_at, random_row_at, fixed_of, cross_of, random_of, fixed_rhs_of, random_rhs_of}

module _ (g : ℕ) (p : ℕ) (f : List Float) (k : ℕ) (r : List Float) (y : Float) where
  fixed_alone : (i m : ℕ) (n : BlockNormal) → iter (fixed_at g p f k r y i) m n ≡ record n { fixed = iter (product_in fixed_row_at f p f i) m n.fixed }
  unfolding iter
  fixed_alone i zero n = refl
  fixed_alone i (suc m) n = ap (fixed_at g p f k r y i m) (fixed_alone i m n)

  cross_alone : (i m : ℕ) (n : BlockNormal) → iter (cross_at g p f k r y i) m n ≡ record n { cross = iter (product_in (cross_row_at g) f k r i) m n.cross }
  unfolding iter
  cross_alone i zero n = refl
  cross_alone i (suc m) n = ap (cross_at g p f k r y i m) (cross_alone i m n)

  row_alone : (i : ℕ) (n : BlockNormal) → fixed_row g p f k r y i n
      ≡ record n { fixed = product_row fixed_row_at f p f i n.fixed; cross = product_row (cross_row_at g) f k r i n.cross; fixed_rhs = multiple_in (λ i. i) f y i n.fixed_rhs }
  row_alone i n =
      let m = in_fixed_rhs n i (mul (get_or f i nan) y) in
      ap (iter (cross_at g p f k r y i) k) (fixed_alone i p m) ∙ cross_alone i k _

  abbrev after_rows : ℕ → BlockNormal → BlockNormal
  after_rows m n =
      record n { fixed = products_of fixed_row_at m f p f n.fixed; cross = products_of (cross_row_at g) m f k r n.cross; fixed_rhs = multiples_of (λ i. i) m f y n.fixed_rhs }

  rows_alone : (m : ℕ) (n : BlockNormal) → iter (fixed_row g p f k r y) m n ≡ after_rows m n
  unfolding iter products_of multiples_of
  rows_alone zero n = refl
  rows_alone (suc m) n = ap (fixed_row g p f k r y m) (rows_alone m n) ∙ row_alone m (after_rows m n)

  random_alone : (i m : ℕ) (n : BlockNormal) → iter (random_at g p f k r y i) m n ≡ record n { random = iter (product_in (random_row_at g) r k r i) m n.random }
  unfolding iter
  random_alone i zero n = refl
  random_alone i (suc m) n = ap (random_at g p f k r y i m) (random_alone i m n)

  abbrev after_random_rows : ℕ → BlockNormal → BlockNormal
  after_random_rows m n =
      record n { random = products_of (random_row_at g) m r k r n.random; random_rhs = multiples_of (λ i. g * 2 + i) m r y n.random_rhs }

  random_rows_alone : (m : ℕ) (n : BlockNormal) → iter (random_row g p f k r y) m n ≡ after_random_rows m n
  unfolding iter products_of multiples_of
  random_rows_alone zero n = refl
  random_rows_alone (suc m) n = ap (random_row g p f k r y m) (random_rows_alone m n) ∙ random_alone m k _

  pub adds_to_each : (n : BlockNormal) → add_reading g p f k r y n
      ≡ record { fixed = fixed_of p f n.fixed; cross = cross_of g p f k r n.cross; random = random_of g k r n.random; fixed_rhs = fixed_rhs_of p f y n.fixed_rhs; random_rhs = random_rhs_of g k r y n.random_rhs }
  unfolding add_reading
  adds_to_each n = ap (iter (random_row g p f k r y) k) (rows_alone p n) ∙ random_rows_alone k (after_rows p n)

-- two loops whose turns are the same below n
module _ {A : Type 0} (f g : ℕ → A → A) where
  iter_same : (n : ℕ) → ((i : ℕ) → i < n → (a : A) → f i a ≡ g i a) → (a : A) → iter f n a ≡ iter g n a
  unfolding iter
  iter_same zero h a = refl
  iter_same (suc n) h a = h n (omega arith) _ ∙ ap (g n) (iter_same n (λ i p. h i (omega arith)) a)

multiples_lent : (at : ℕ → ℕ) (p : ℕ) (f : List Float) (y : Float) (l : List Float) → p ≤ length f
    → multiples_of at (length (take p f)) (take p f) y l ≡ multiples_of at p f y l
unfolding multiples_of
multiples_lent at p f y l h =
    let e : length (take p f) ≡ p = rw length-take (omega arith) in
    rw e (iter_same (multiple_in at (take p f) y) (multiple_in at f y) p (λ i q a. rw (get_or-take p f i nan q)) l)

products_lent : (at : ℕ → ℕ) (p : ℕ) (f : List Float) (k : ℕ) (r : List Float) (l : List Float) → p ≤ length f → k ≤ length r
    → products_of at (length (take p f)) (take p f) (length (take k r)) (take k r) l ≡ products_of at p f k r l
unfolding products_of
products_lent at p f k r l h i =
    let d : length (take p f) ≡ p = rw length-take (omega arith) in
    let e : length (take k r) ≡ k = rw length-take (omega arith) in
    rw (d, e)
    (iter_same (product_row at (take p f) k (take k r)) (product_row at f k r) p
    (λ i q. iter_same (product_in at (take p f) k (take k r) i) (product_in at f k r i) k (λ j u a. rw (get_or-take p f i nan q, get_or-take k r j nan u))) l)

pub reading_lent : (g p : ℕ) (f : List Float) (k : ℕ) (r : List Float) (y : Float) (n : BlockNormal) → p ≤ length f → k ≤ length r
    → add_reading g (length (take p f)) (take p f) (length (take k r)) (take k r) y n ≡ add_reading g p f k r y n
reading_lent g p f k r y n h i =
    adds_to_each g (length (take p f)) (take p f) (length (take k r)) (take k r) y n
    ∙ (λ z. record {
      fixed = products_lent fixed_row_at p f p f n.fixed h h z;
      cross = products_lent (cross_row_at g) p f k r n.cross h i z;
      random = products_lent (random_row_at g) k r k r n.random i i z;
      fixed_rhs = multiples_lent (λ i. i) p f y n.fixed_rhs h z;
      random_rhs = multiples_lent (λ i. g * 2 + i) k r y n.random_rhs i z;
    })
    ∙ sym (adds_to_each g p f k r y n)
