-- A list's elements, stored one by one: what is stored and what is still to be read make up the list. Assumes nothing.
use Rattle.std.proofs.Common.{◌≡◌, refl, sym, ap, ◌∙◌, ℕ, suc, ◌+◌, ◌-◌, ◌<◌, ◌≤◌, List, [], ◌∷◌, ◌++◌, length, take, drop, set, get_or, Option, Some, None, option_map, option_and_then, arith, add-one, append_assoc, append-nil, length-set, drop-cons, drop_of_length-le}
use Rattle.std.proofs.Math.Seq.{take-suc-set, take-length}
use Rattle.std.proofs.lemmas.Bool.{lt-leb}
use Rattle.std.proofs.lemmas.List.{take-append-drop, drop-set-lt, set-get_or}
use Rattle.replay_cases.specs.Words.{first_word, after_word, after_words, after_values, elements, values_put, list_put, places}
use Rattle.replay_cases.specs.Digits.{whole_number_of}

-- i of the list's elements are stored over those of list₀; left₀ is what was left before its first element
pub record Reading {A : Type 0} (value : List ℕ → Option A) (left₀ : Option (List ℕ)) (list₀ list : List A) (left : Option (List ℕ)) (i : ℕ) : Type 0 where
  pub size : length list ≡ length list₀
  pub front : option_map (λ xs. take i list ++ xs) (elements value (length list₀ - i) left) ≡ elements value (length list₀) left₀
  pub place : after_words (length list₀ - i) left ≡ after_words (length list₀) left₀
  pub held : take i list ++ values_put value (drop i list) left ≡ values_put value list₀ left₀
  pub stop : after_values value (length list₀ - i) left ≡ after_values value (length list₀) left₀

module _ {A : Type 0} (value : List ℕ → Option A) (left₀ left : Option (List ℕ)) (list₀ list : List A) (i : ℕ) (r : Reading value left₀ list₀ list left i) where
  module _ (h : i < length list₀) where
    one_less : length list₀ - i ≡ suc (length list₀ - (i + 1))
    one_less = omega arith

    module _ (e : option_and_then value (first_word left) ≡ None) where
      pub reading_stops : None ≡ elements value (length list₀) left₀
      unfolding elements
      reading_stops = rw (one_less, e) at r.front

      kept : (l : List A) → values_put value l left ≡ l
      unfolding values_put
      kept [] = refl
      kept (x ∷ l) = rw e

      pub reading_stops_with : (x : A) → set list i (get_or list i x) ≡ values_put value list₀ left₀
      reading_stops_with x =
          set-get_or list i x ∙ sym (take-append-drop i list) ∙ ap (λ t. take i list ++ t) (sym (kept (drop i list))) ∙ r.held

      pub reading_stops_at : after_word left ≡ after_values value (length list₀) left₀
      unfolding after_values
      reading_stops_at = rw (one_less, e) at r.stop

    module _ (x : A) (e : option_and_then value (first_word left) ≡ Some x) where
      b : i < length list
      b = omega (arith, r.size)

      one_more : (xs : List A) → take (i + 1) (set list i x) ++ xs ≡ take i list ++ x ∷ xs
      one_more xs = ap (λ t. t ++ xs) (rw (add-one i) (take-suc-set list i x b)) ∙ append_assoc (take i list) (x ∷ []) xs

      joined : (o : Option (List A)) → option_map (λ xs. take (i + 1) (set list i x) ++ xs) o ≡ option_map (λ xs. take i list ++ xs) (option_map (λ xs. x ∷ xs) o)
      joined None = refl
      joined (Some xs) = ap Some (one_more xs)

      put_more : x ∷ values_put value (drop (i + 1) (set list i x)) (after_word left) ≡ values_put value (drop i list) left
      unfolding values_put
      put_more = rw (drop-set-lt (i + 1) list i x (omega arith), drop-cons list i x b, add-one i, e)

      pub reading_goes_on : Reading value left₀ list₀ (set list i x) (after_word left) (i + 1)
      unfolding elements after_words after_values
      reading_goes_on =
          record {
            size = length-set list i x ∙ r.size;
            front = joined (elements value (length list₀ - (i + 1)) (after_word left)) ∙ (rw (one_less, e) at r.front);
            place = rw one_less at r.place;
            held =
                one_more (values_put value (drop (i + 1) (set list i x)) (after_word left))
                ∙ ap (λ t. take i list ++ t) put_more
                ∙ r.held;
            stop = rw (one_less, e) at r.stop;
          }

  module _ (h : length list₀ ≤ i) where
    none_left : length list₀ - i ≡ 0
    none_left = omega arith

    pub reading_ends : i ≤ length list₀ → Some list ≡ elements value (length list₀) left₀
    unfolding elements
    reading_ends p =
        let e : i ≡ length list = omega (arith, r.size) in
        let f = rw none_left at r.front in
        sym (ap Some (append-nil (take i list) ∙ ap (λ k. take k list) e ∙ take-length list)) ∙ f

    pub reading_ends_with : i ≤ length list₀ → list ≡ values_put value list₀ left₀
    unfolding values_put
    reading_ends_with p =
        let e : i ≡ length list = omega (arith, r.size) in
        let q : length list ≤ i = omega (arith, r.size) in
        let f = rw (drop_of_length-le list q) at r.held in
        sym (append-nil (take i list) ∙ ap (λ k. take k list) e ∙ take-length list) ∙ f

    pub reading_ends_at : left ≡ after_words (length list₀) left₀
    unfolding after_words
    reading_ends_at = rw none_left at r.place

    pub reading_ends_left : left ≡ after_values value (length list₀) left₀
    unfolding after_values
    reading_ends_left = rw none_left at r.stop

-- a list whose length is a fault, or too long, takes no places
module _ {A : Type 0} (value : List ℕ → Option A) (out : List A) (left : Option (List ℕ)) (e : places (length out) left ≡ 0) where
  pub none_put : out ≡ list_put value out left
  unfolding values_put
  none_put = rw e

  pub none_after : after_word left ≡ after_values value (places (length out) left) (after_word left)
  unfolding after_values
  none_after = rw e

pub no_length : (room : ℕ) (left : Option (List ℕ)) → option_and_then whole_number_of (first_word left) ≡ None → places room left ≡ 0
no_length room left e = rw e

pub too_long : (room n : ℕ) (left : Option (List ℕ)) → option_and_then whole_number_of (first_word left) ≡ Some n → room < n → places room left ≡ 0
too_long room n left e p = rw (e, lt-leb n room p)

-- one word, and then n
pub after_one_more : (n : ℕ) (left : Option (List ℕ)) → after_words (n + 1) left ≡ after_words n (after_word left)
unfolding after_words
after_one_more n left = rw (add-one n)

pub ruleset reading = (reading_stops, reading_stops_with, reading_stops_at, reading_goes_on, reading_ends, reading_ends_with, reading_ends_at, reading_ends_left)
