-- Values compared with the words that are read, one by one. Assumes nothing.
use Rattle.std.proofs.Common.{◌≡◌, refl, sym, ap, ◌∙◌, ℕ, suc, ◌+◌, ◌-◌, ◌<◌, ◌≤◌, Bool, ◌&&◌, List, ◌∷◌, length, drop, get_or, Option, Some, None, option_map, option_and_then, arith, add-one, drop-cons, drop_of_length-le}
use Rattle.std.proofs.Math.Bool.{and-true, and_assoc}
use Rattle.math.specs.Lists.{same_lists}
use Rattle.replay_cases.specs.Words.{first_word, after_word, after_words, elements, said}

-- the words of the first i values have been read, and `so_far` says whether they said them; left₀ is what was left before the first
pub record Saying {A : Type 0} (value : List ℕ → Option A) (same : A → A → Bool) (left₀ : Option (List ℕ)) (values : List A) (left : Option (List ℕ)) (so_far : Bool) (i : ℕ) : Type 0 where
  pub verdict : option_map (λ xs. so_far && same_lists same xs (drop i values)) (elements value (length values - i) left) ≡ said value same values left₀
  pub place : after_words (length values - i) left ≡ after_words (length values) left₀

module _ {A : Type 0} (value : List ℕ → Option A) (same : A → A → Bool) (left₀ left : Option (List ℕ)) (values : List A) (so_far : Bool) (i : ℕ) (s : Saying value same left₀ values left so_far i) where
  module _ (h : i < length values) where
    one_less : length values - i ≡ suc (length values - (i + 1))
    one_less = omega arith

    -- what the word there says of value v, which is the one at i
    module _ (v : A) (q : v ≡ get_or values i v) where
      unread : (o : Option A) → option_map (λ x. same x v) o ≡ None → o ≡ None
      unread None e = refl
      unread (Some x) e = cc

      pub saying_stops : option_map (λ x. same x v) (option_and_then value (first_word left)) ≡ None → None ≡ said value same values left₀
      unfolding elements
      saying_stops e = rw (one_less, unread (option_and_then value (first_word left)) e) at s.verdict

      module _ (b : Bool) where
        joined : (o : Option (List A)) (x : A) → same x v ≡ b → option_map (λ xs. (so_far && b) && same_lists same xs (drop (i + 1) values)) o ≡ option_map (λ xs. so_far && same_lists same xs (drop i values)) (option_map (λ xs. x ∷ xs) o)
        unfolding same_lists
        joined None x e = refl
        joined (Some xs) x e =
            rw (drop-cons values i v, ← q, add-one i, e) (ap Some (and_assoc so_far b (same_lists same xs (drop (suc i) values))))

        read : (o : Option A) (e : option_and_then value (first_word left) ≡ o) → option_map (λ x. same x v) o ≡ Some b → Saying value same left₀ values (after_word left) (so_far && b) (i + 1)
        unfolding elements after_words
        read None e h = cc
        read (Some x) e h =
            record {
              verdict =
                  joined (elements value (length values - (i + 1)) (after_word left)) x (cc)
                  ∙ (rw (one_less, e) at s.verdict);
              place = rw one_less at s.place;
            }

        pub saying_goes_on : option_map (λ x. same x v) (option_and_then value (first_word left)) ≡ Some b → Saying value same left₀ values (after_word left) (so_far && b) (i + 1)
        saying_goes_on e = read (option_and_then value (first_word left)) refl e

  module _ (h : length values ≤ i) where
    none_left : length values - i ≡ 0
    none_left = omega arith

    pub saying_ends : Some so_far ≡ said value same values left₀
    unfolding elements same_lists
    saying_ends = sym (ap Some (and-true so_far)) ∙ (rw (none_left, drop_of_length-le values h) at s.verdict)

    pub saying_ends_at : left ≡ after_words (length values) left₀
    unfolding after_words
    saying_ends_at = rw none_left at s.place

pub ruleset saying = (saying_stops, saying_goes_on, saying_ends, saying_ends_at)
