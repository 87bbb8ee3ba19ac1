-- Laws of two lists of one length as a list of pairs, and of a loop over two lists side by side. Assumes nothing.
use Rattle.std.specs.Prelude.{◌≡◌, refl, List, [], ◌∷◌, ◌++◌, ℕ, zero, suc, ◌+◌, ◌≤◌, ◌<◌, length, take, drop, map, get_or}
use Rattle.std.specs.List.{fold, zip}
use Rattle.std.proofs.Common.{ap, ◌∙◌, add-one, arith, drop_of_length-le, drop-cons, length-take, length-drop, get_or-drop}
use Rattle.std.proofs.lemmas.Grind.{take_at_read}
use Rattle.std.proofs.lemmas.List.Sums.{fold-append}
use Rattle.std.proofs.Math.Nat.{suc_inj}
use Rattle.math.specs.Loops.{iter, from}

module _ {A B : Type 0} where
  pub zip_length : (xs : List A) (ys : List B) → length ys ≡ length xs → length (zip xs ys) ≡ length xs
  zip_length [] ys e = refl
  zip_length (x ∷ xs) [] e = absurd (omega (arith, e))
  zip_length (x ∷ xs) (y ∷ ys) e = ap suc (zip_length xs ys (suc_inj e))

  pub zip_take : (n : ℕ) (xs : List A) (ys : List B) → length ys ≡ length xs → zip (take n xs) (take n ys) ≡ take n (zip xs ys)
  zip_take zero xs ys e = refl
  zip_take (suc n) [] ys e = refl
  zip_take (suc n) (x ∷ xs) [] e = refl
  zip_take (suc n) (x ∷ xs) (y ∷ ys) e = ap (λ l. (x, y) ∷ l) (zip_take n xs ys (suc_inj e))

  pub zip_drop : (n : ℕ) (xs : List A) (ys : List B) → length ys ≡ length xs → zip (drop n xs) (drop n ys) ≡ drop n (zip xs ys)
  zip_drop zero xs ys e = refl
  zip_drop (suc n) [] ys e = refl
  zip_drop (suc n) (x ∷ xs) [] e = absurd (omega (arith, e))
  zip_drop (suc n) (x ∷ xs) (y ∷ ys) e = zip_drop n xs ys (suc_inj e)

  pub zip_append : (xs us : List A) (ys vs : List B) → length ys ≡ length xs → zip (xs ++ us) (ys ++ vs) ≡ zip xs ys ++ zip us vs
  zip_append [] us [] vs e = refl
  zip_append [] us (y ∷ ys) vs e = absurd (omega (arith, e))
  zip_append (x ∷ xs) us [] vs e = absurd (omega (arith, e))
  zip_append (x ∷ xs) us (y ∷ ys) vs e = ap (λ l. (x, y) ∷ l) (zip_append xs us ys vs (suc_inj e))

  pub zip_swapped : (xs : List A) (ys : List B) → length ys ≡ length xs → zip ys xs ≡ map (λ (p : A × B). (p.1, p.0)) (zip xs ys)
  zip_swapped [] [] e = refl
  zip_swapped [] (y ∷ ys) e = absurd (omega (arith, e))
  zip_swapped (x ∷ xs) [] e = absurd (omega (arith, e))
  zip_swapped (x ∷ xs) (y ∷ ys) e = ap (λ l. (y, x) ∷ l) (zip_swapped xs ys (suc_inj e))

  pub zip_seconds : (xs : List A) (ys : List B) → length ys ≡ length xs → map (λ (p : A × B). p.1) (zip xs ys) ≡ ys
  zip_seconds [] [] e = refl
  zip_seconds [] (y ∷ ys) e = absurd (omega (arith, e))
  zip_seconds (x ∷ xs) [] e = absurd (omega (arith, e))
  zip_seconds (x ∷ xs) (y ∷ ys) e = ap (λ l. y ∷ l) (zip_seconds xs ys (suc_inj e))

  module _ (a : A) (b : B) where
    pub zip_at : (i : ℕ) (xs : List A) (ys : List B) → length ys ≡ length xs → get_or (zip xs ys) i (a, b) ≡ (get_or xs i a, get_or ys i b)
    zip_at i [] [] e = refl
    zip_at i [] (y ∷ ys) e = absurd (omega (arith, e))
    zip_at i (x ∷ xs) [] e = absurd (omega (arith, e))
    zip_at zero (x ∷ xs) (y ∷ ys) e = refl
    zip_at (suc i) (x ∷ xs) (y ∷ ys) e = zip_at i xs ys (suc_inj e)

    -- the pairs from i on
    pub pair_at_lem : (i : ℕ) (xs : List A) (ys : List B) → length ys ≡ length xs → i < length xs → drop i (zip xs ys) ≡ (get_or xs i a, get_or ys i b) ∷ drop (i + 1) (zip xs ys)
    pair_at_lem i xs ys e p =
        let n : length (zip xs ys) ≡ length xs = zip_length xs ys e in
        let q : i < length (zip xs ys) = omega arith in
        drop-cons (zip xs ys) i (a, b) q ∙ rw (zip_at i xs ys e, ← add-one i)

  pub pairs_end : (i : ℕ) (xs : List A) (ys : List B) → length ys ≡ length xs → length xs ≤ i → drop i (zip xs ys) ≡ []
  pairs_end i xs ys e p =
      let n : length (zip xs ys) ≡ length xs = zip_length xs ys e in
      let q : length (zip xs ys) ≤ i = omega arith in
      drop_of_length-le (zip xs ys) q

-- ---- a loop by index, as one over pairs

-- the first turn, and those after it
iter_front : {S : Type 0} (f : ℕ → S → S) (n : ℕ) (s : S) → iter f (suc n) s ≡ iter (λ i. f (suc i)) n (f 0 s)
unfolding iter
iter_front f zero s = refl
iter_front f (suc n) s = ap (f (suc n)) (iter_front f n s)

take_more : {A : Type 0} (xs : List A) (d : A) (u n : ℕ) → u + n < length xs → take (suc n) (drop u xs) ≡ take n (drop u xs) ++ (get_or xs (u + n) d ∷ [])
take_more xs d u n p =
    let q : n < length (drop u xs) = rw length-drop (omega arith) in
    rw (← add-one n, ← get_or-drop u xs n d) (take_at_read (drop u xs) n d q).1

module _ {A B S : Type 0} (f : A → B → S → S) (d : A) (e : B) where
  pub iter_zip : (xs : List A) (ys : List B) (s : S) → length xs ≤ length ys
      → iter (λ i s. f (get_or xs i d) (get_or ys i e) s) (length xs) s ≡ fold (λ s p. f p.0 p.1 s) s (zip xs ys)
  unfolding iter
  iter_zip [] ys s p = refl
  iter_zip (x ∷ xs) [] s p = absurd (omega arith)
  iter_zip (x ∷ xs) (y ∷ ys) s p = iter_front (λ i s. f (get_or (x ∷ xs) i d) (get_or (y ∷ ys) i e) s) (length xs) s ∙ iter_zip xs ys (f x y s) (omega arith)

  -- n turns g from lo on, that read the one list from a + lo on and the other from b + lo on
  pub from_zip : (g : ℕ → S → S) (xs : List A) (ys : List B) (a b : ℕ) → ((j : ℕ) (s : S) → g j s ≡ f (get_or xs (a + j) d) (get_or ys (b + j) e) s)
      → (lo n : ℕ) (s : S) → a + lo + n ≤ length xs → b + lo + n ≤ length ys
      → from g lo n s ≡ fold (λ s p. f p.0 p.1 s) s (zip (take n (drop (a + lo) xs)) (take n (drop (b + lo) ys)))
  unfolding from
  from_zip g xs ys a b h lo zero s p q = refl
  from_zip g xs ys a b h lo (suc n) s p q =
      let x = get_or xs (a + lo + n) d in
      let y = get_or ys (b + lo + n) e in
      let us = take n (drop (a + lo) xs) in
      let vs = take n (drop (b + lo) ys) in
      let c : length vs ≡ length us = rw (length-take, length-drop, length-take, length-drop) (omega arith) in
      let i : a + (lo + n) ≡ a + lo + n = omega arith in
      let j : b + (lo + n) ≡ b + lo + n = omega arith in
      h (lo + n) (from g lo n s)
      ∙ rw (take_more xs d (a + lo) n (omega arith), take_more ys e (b + lo) n (omega arith), zip_append us (x ∷ []) vs (y ∷ []) c, fold-append, i, j)
      (ap (f x y) (from_zip g xs ys a b h lo n s (omega arith) (omega arith)))
