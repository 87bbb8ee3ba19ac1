-- A part that is lent from the middle of a list and put back changes no other place.
use Rattle.std.specs.Prelude.{◌≡◌, ℕ, ◌+◌, ◌*◌, ◌<◌, ◌≤◌, List, [], ◌∷◌, ◌++◌, length, take, drop, slice_set}
use Rattle.std.proofs.Common.{sym, ap, ◌∙◌, arith, suc-mul, mul-le-mul_right, zero-add, suc-add, take-append-drop, length-take, length-drop}
use Rattle.std.proofs.lemmas.List.{set-append_left}
use Rattle.math.specs.Parts.{part}

module _ {A : Type 0} where
  -- l with ys in the place of its k elements from a
  abbrev pub put : ℕ → ℕ → List A → List A → List A
  put a k l ys = take a l ++ (ys ++ drop k (drop a l))

  pub put_same : (a k : ℕ) (l : List A) → put a k l (part a k l) ≡ l
  put_same a k l = rw (take-append-drop k (drop a l)) (take-append-drop a l)

  set_past : (xs ys : List A) (i : ℕ) (v : A) → xs ++ slice_set ys i v ≡ slice_set (xs ++ ys) (length xs + i) v
  set_past [] ys i v = rw (zero-add i)
  set_past (x ∷ xs) ys i v = rw (suc-add (length xs) i) (ap (λ r. x ∷ r) (set_past xs ys i v))

  pub put_set : (a k : ℕ) (l ys : List A) (i : ℕ) (v : A) → a ≤ length l → i < length ys → put a k l (slice_set ys i v) ≡ slice_set (put a k l ys) (a + i) v
  put_set a k l ys i v p q =
      let n : length (take a l) ≡ a = rw length-take (omega arith) in
      ap (λ r. take a l ++ r) (sym (set-append_left ys (drop k (drop a l)) i v q))
      ∙ set_past (take a l) (ys ++ drop k (drop a l)) i v
      ∙ rw n

  pub part_length : (a k : ℕ) (l : List A) → a + k ≤ length l → length (part a k l) ≡ k
  part_length a k l p = rw (length-take, length-drop) (omega arith)

-- a group's part lies within the list of all groups
pub group_fits : (g n k : ℕ) → g < n → g * k + k ≤ n * k
group_fits g n k p = rw (← suc-mul g k) (mul-le-mul_right k p)
