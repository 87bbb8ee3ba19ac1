-- What is sought in a list's images is sought in the list. Assumes nothing.
use Rattle.std.proofs.Common.{◌≡◌, ◌+◌, Bool, not, cond, List, [], ◌∷◌, map, position, refl, ap}
use Rattle.std.proofs.lemmas.List.{length-map}
use Rattle.std.specs.List.{position_or_len}

module _ {A B : Type 0} (p : B → Bool) (f : A → B) where
  place_of_map : (l : List A) → position_or_len p (map f l) ≡ position_or_len (λ x. p (f x)) l
  place_of_map [] = refl
  place_of_map (x ∷ l) = ap (λ n. cond (not (p (f x))) (1 + n) 0) (place_of_map l)

  pub position_of_map : (l : List A) → position p (map f l) ≡ position (λ x. p (f x)) l
  position_of_map l = rw (length-map l f, place_of_map l)
