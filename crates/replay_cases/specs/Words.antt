-- The words of a line, one after the other.
use Rattle.std.specs.Prelude.{ℕ, zero, suc, ◌+◌, ◌==◌, Bool, cond, unwrap_or, List, [], ◌∷◌, ◌++◌, eqb, leb, length, take, drop, Option, Some, None, option_map, option_and_then}
use Rattle.std.specs.List.{position}
use Rattle.math.specs.Lists.{same_lists}
use Rattle.replay_cases.specs.Digits.{whole_number_of}

-- a line cut at a place: what stands before it, and what is left after it; without a place nothing is left
abbrev pub cut_at : Option ℕ → List ℕ → List ℕ × Option (List ℕ)
cut_at None l = (l, None)
cut_at (Some end) l = (take end l, Some (drop (end + 1) l))

-- a line cut at its first space (32)
abbrev pub cut : List ℕ → List ℕ × Option (List ℕ)
cut l = cut_at (position (λ b. b == 32) l) l

-- the next word of what is left of a line; no word is empty
unfoldable pub first_word : Option (List ℕ) → Option (List ℕ)
first_word None = None
first_word (Some l) = cond (eqb (length (cut l).0) 0) None (Some (cut l).0)

-- what is left after the next word; nothing is left after the last
unfoldable pub after_word : Option (List ℕ) → Option (List ℕ)
after_word left = option_and_then (λ l. (cut l).1) left

-- what is left after n words
unfoldable pub after_words : ℕ → Option (List ℕ) → Option (List ℕ)
after_words zero left = left
after_words (suc n) left = after_words n (after_word left)

-- n elements, a word each; a fault in one is a fault of all
unfoldable pub elements : {A : Type 0} → (List ℕ → Option A) → ℕ → Option (List ℕ) → Option (List A)
elements value zero left = Some []
elements value (suc n) left =
    option_and_then (λ x. option_map (λ xs. x ∷ xs) (elements value n (after_word left))) (option_and_then value (first_word left))

-- a list: its length in decimal, which must not be above `room`, and then its elements
unfoldable pub list_of : {A : Type 0} → (List ℕ → Option A) → ℕ → Option (List ℕ) → Option (List A)
list_of value room left =
    option_and_then (λ n. cond (leb n room) (elements value n (after_word left)) None) (option_and_then whole_number_of (first_word left))

-- what `out` holds once words are put to its places in turn; from the first fault on it keeps what it held
unfoldable pub values_put : {A : Type 0} → (List ℕ → Option A) → List A → Option (List ℕ) → List A
values_put value [] left = []
values_put value (x ∷ out) left =
    unwrap_or (option_map (λ y. y ∷ values_put value out (after_word left)) (option_and_then value (first_word left))) (x ∷ out)

-- what is left after n such words, or after the first fault
unfoldable pub after_values : {A : Type 0} → (List ℕ → Option A) → ℕ → Option (List ℕ) → Option (List ℕ)
after_values value zero left = left
after_values value (suc n) left =
    unwrap_or (option_map (λ _. after_values value n (after_word left)) (option_and_then value (first_word left))) (after_word left)

-- how many places a list takes, of `room`; a fault in its length takes none
abbrev pub places : ℕ → Option (List ℕ) → ℕ
places room left = unwrap_or (option_map (λ n. cond (leb n room) n 0) (option_and_then whole_number_of (first_word left))) 0

-- what `out` holds once a list is put to its start
abbrev pub list_put : {A : Type 0} → (List ℕ → Option A) → List A → Option (List ℕ) → List A
list_put value out left =
    values_put value (take (places (length out) left) out) (after_word left) ++ drop (places (length out) left) out

-- whether the next words say these values
abbrev pub said : {A : Type 0} → (List ℕ → Option A) → (A → A → Bool) → List A → Option (List ℕ) → Option Bool
said value same values left = option_map (λ xs. same_lists same xs values) (elements value (length values) left)

-- whether the next words say this list; a list of another length is a fault
unfoldable pub said_list : {A : Type 0} → (List ℕ → Option A) → (A → A → Bool) → List A → Option (List ℕ) → Option Bool
said_list value same values left =
    option_and_then (λ n. cond (eqb n (length values)) (said value same values (after_word left)) None)
    (option_and_then whole_number_of (first_word left))
