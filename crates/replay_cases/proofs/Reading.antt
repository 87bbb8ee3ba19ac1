-- The bytes that a reader of lines holds: what is read behind them, and the first newline in them. Assumes nothing.
use Rattle.std.proofs.Common.{◌≡◌, ◌≢◌, ℕ, ◌+◌, ◌-◌, ◌≤◌, ◌<◌, ◌==◌, List, [], ◌∷◌, ◌++◌, Option, Some, None, All, length, take, drop, get_or, length-take, length-drop, ne_eqb, slice_range, sym, ap, subst, ◌∙◌, append_assoc, arith, eqb-true, true, false, inl, inr, option_map, IfSome}
use Rattle.std.proofs.Math.Seq.{take-add, drop-length}
use Rattle.std.specs.List.{position, position_or_len}
use Rattle.std.proofs.lemmas.Bool.{cases_lt, eqb-false, false_from_ne_true}
use Rattle.memchr.specs.Find.{IsFirstByte, is_byte}
use Rattle.std.proofs.lemmas.Grind.{common_steps}
use Rattle.std.proofs.lemmas.List.{take-append-drop, take_rest, drop-take, drop-drop, drop_more, get_or-drop, get_or-take}
use Rattle.std.proofs.lemmas.List.Elements.{All-append}
use Rattle.std.proofs.lemmas.List.Quantifiers.{position-Some}
use Rattle.std.proofs.lemmas.List.Sums.{fails_before_first, position_or_len_is}
use Rattle.std.specs.Io.BufRead.{take_through, drop_through, DropsThrough}
use Rattle.std.proofs.BufReadLemmas.{take_through-append, drop_through-append}
use Rattle.std.proofs.KnownBytes.{Keeps-trans}
use Rattle.std.specs.Io.KnownBytes.{IsAtEnd, Keeps, Consumes, prepend_known}

-- n bytes were read behind the bytes from..to, which came to the start
pub behind : (a b : Option (List ℕ)) (old moved new : List ℕ) (from to n : ℕ) → take (to - from) moved ≡ slice_range old from to
    → take (to - from) new ≡ take (to - from) moved → Consumes a b (take n (drop (to - from) new))
    → Keeps (prepend_known (slice_range old from to) a) (prepend_known (slice_range new 0 (to - from + n)) b)
behind None b old moved new from to n front kept read = tt
behind (Some x) None old moved new from to n front kept read = absurd read
behind (Some x) (Some y) old moved new from to n front kept read =
    let held = to - from in
    let whole : held + n - 0 ≡ held + n = omega arith in
    ap (λ k. take k new ++ y) whole ∙ ap (λ l. l ++ y) (take-add held n new ∙ ap (λ l. l ++ take n (drop held new)) (kept ∙ front)) ∙ append_assoc (slice_range old from to) (take n (drop held new)) y ∙ ap (λ l. slice_range old from to ++ l) (sym read)

-- what a search for a newline finds
pub newline_at : (xs : List ℕ) (r : Option ℕ) → IsFirstByte (is_byte 10) xs r → r ≡ position (λ b. b == 10) xs
newline_at xs None none =
    let end : position_or_len (λ b. b == 10) xs ≡ length xs = position_or_len_is (λ b. b == 10) xs (length xs) 0 (omega arith) (λ k l. false_from_ne_true _ (none k (omega arith) l)) (λ l. absurd (omega (arith, l))) in
    grind (arith, common_steps)
newline_at xs (Some n) found =
    let inside : n < length xs = found.0.high in
    let at : position_or_len (λ b. b == 10) xs ≡ n = position_or_len_is (λ b. b == 10) xs n 0 (omega (arith, inside)) (λ k l. false_from_ne_true _ (found.0.before k (omega arith) l)) (λ _. found.1) in
    grind (arith, common_steps)

-- where there is no first newline, there is none
pub none_at_all : (xs : List ℕ) → position (λ b. b == 10) xs ≡ None → All (λ b. b ≢ 10) xs
none_at_all xs none k d inside =
    let before : k < position_or_len (λ b. b == 10) xs = grind (arith, common_steps) in
    eqb-false (get_or xs k d) 10 (fails_before_first (λ b. b == 10) xs k d before)

module _ (xs : List ℕ) where
  before_first : (n : ℕ) → position (λ b. b == 10) xs ≡ Some n → All (λ b. b ≢ 10) (take n xs)
  before_first n at k d inside =
      let before : k < n = omega (arith, inside, length-take n xs) in
      λ e. eqb-false (get_or xs k d) 10 ((position-Some (λ b. b == 10) xs n d at).2 k before) (sym (get_or-take n xs k d before) ∙ e)

  pub first : (n : ℕ) → position (λ b. b == 10) xs ≡ Some n → (n < length xs) × All (λ b. b ≢ 10) (take n xs) × (xs ≡ take n xs ++ 10 ∷ drop (n + 1) xs)
  first n at =
      let found = position-Some (λ b. b == 10) xs n 0 at in (
        found.0,
        before_first n at,
        sym (take-append-drop n xs) ∙ ap (λ l. take n xs ++ l) (drop_more xs n 0 found.0 ∙ ap (λ b. b ∷ drop (n + 1) xs) (eqb-true (get_or xs n 0) 10 found.1)),
      )

  -- looked for behind m bytes that are none
  module _ (m : ℕ) (before : All (λ b. b ≢ 10) (take m xs)) where
    pub first_behind : (n : ℕ) → position (λ b. b == 10) (drop m xs) ≡ Some n → position (λ b. b == 10) xs ≡ Some (m + n)
    first_behind n at =
        let inside : m + n < length xs = omega (arith, found.0, length-drop m xs) in
        let first_at : position_or_len (λ b. b == 10) xs ≡ m + n = position_or_len_is (λ b. b == 10) xs (m + n) 0 (omega arith) fails (λ _. sym (ap (λ b. b == 10) (get_or-drop m xs n 0)) ∙ found.1) in
        grind (arith, common_steps)
      where
        found : (n < length (drop m xs)) × ((get_or (drop m xs) n 0 == 10) ≡ true) × ((k : ℕ) → k < n → (get_or (drop m xs) k 0 == 10) ≡ false)
        found = position-Some (λ b. b == 10) (drop m xs) n 0 at

        fails : (k : ℕ) → k < m + n → (get_or xs k 0 == 10) ≡ false
        fails k l =
            elim (cases_lt k m) [
              | inl b ↦ ne_eqb (get_or xs k 0) 10 (λ e. before k 0 (omega (arith, b, found.0, length-drop m xs, length-take m xs)) (get_or-take m xs k 0 b ∙ e))
              | inr b ↦ sym (ap (λ x. x == 10) (get_or-drop m xs (k - m) 0 ∙ ap (λ j. get_or xs j 0) (omega (arith, b)))) ∙ found.2 (k - m) (omega (arith, b, l))
            ]

    pub none_behind : position (λ b. b == 10) (drop m xs) ≡ None → All (λ b. b ≢ 10) xs
    none_behind none =
        subst (All (λ b. b ≢ 10)) (take-append-drop m xs) (All-append (λ b. b ≢ 10) (take m xs) (drop m xs) before (none_at_all (drop m xs) none))

-- what was looked for in the rest of a slice
pub in_rest : (xs ys : List ℕ) (m : ℕ) (r o : Option ℕ) → ys ≡ xs → r ≡ position (λ b. b == 10) (take (length ys - m) (drop m ys)) → r ≡ o → position (λ b. b == 10) (drop m xs) ≡ o
in_rest xs ys m r o same value is =
    ap (λ l. position (λ b. b == 10) (drop m l)) (sym same) ∙ ap (position (λ b. b == 10)) (sym (take_rest ys m)) ∙ sym value ∙ is

-- n bytes of a slice were passed
pub passed : (xs : List ℕ) (from to n : ℕ) → n ≤ length (slice_range xs from to) → slice_range xs (from + n) to ≡ drop n (slice_range xs from to)
passed xs from to n within =
    let rest = to - (from + n) in
    let inside : n ≤ to - from = omega (arith, within, length-take (to - from) (drop from xs)) in
    ap (take rest) (sym (drop-drop n from xs)) ∙ sym (drop-take n rest (drop from xs)) ∙ ap (λ k. drop n (take k (drop from xs))) (omega arith)

-- the first line of what is held and what follows it, and what follows that
pub through : (xs ys : List ℕ) (n : ℕ) → position (λ b. b == 10) xs ≡ Some n
    → (take_through 10 (xs ++ ys) ≡ take n xs ++ 10 ∷ []) × (drop_through 10 (xs ++ ys) ≡ drop (n + 1) xs ++ ys)
through xs ys n at =
    let found = first xs n at in
    let all : xs ++ ys ≡ take n xs ++ 10 ∷ (drop (n + 1) xs ++ ys) = ap (λ l. l ++ ys) found.2 ∙ append_assoc (take n xs) (10 ∷ drop (n + 1) xs) ys in (
      ap (take_through 10) all ∙ take_through-append 10 (take n xs) (10 ∷ (drop (n + 1) xs ++ ys)) found.1,
      ap (drop_through 10) all ∙ drop_through-append 10 (take n xs) (10 ∷ (drop (n + 1) xs ++ ys)) found.1,
    )

-- what follows the end of the line
abbrev pub after_line : Option (List ℕ) → Option (List ℕ)
after_line known = option_map (drop_through 10) known

pub after_line-kept : (a b : Option (List ℕ)) → Keeps a b → Keeps (after_line a) (after_line b)
after_line-kept None b p = tt
after_line-kept (Some x) None p = absurd p
after_line-kept (Some x) (Some y) p = ap (drop_through 10) p

pub after_line-found : (a : Option (List ℕ)) (xs ys : List ℕ) (n : ℕ) → position (λ b. b == 10) xs ≡ Some n → ys ≡ drop (n + 1) xs
    → Keeps (after_line (prepend_known xs a)) (prepend_known ys a)
after_line-found None xs ys n at rest = tt
after_line-found (Some x) xs ys n at rest = ap (λ l. l ++ x) rest ∙ sym ((through xs x n at).1)

pub after_line-passed : (a : Option (List ℕ)) (xs ys : List ℕ) → All (λ b. b ≢ 10) xs → ys ≡ drop (length xs) xs
    → Keeps (after_line (prepend_known xs a)) (after_line (prepend_known ys a))
after_line-passed None xs ys none rest = tt
after_line-passed (Some x) xs ys none rest = ap (λ l. drop_through 10 (l ++ x)) (rest ∙ drop-length xs) ∙ sym (drop_through-append 10 xs x none)

-- what is held was passed, and a read followed
pub after_line-read : (known left next : Option (List ℕ)) (xs ys : List ℕ) → Keeps (after_line known) (after_line (prepend_known xs left))
    → All (λ b. b ≢ 10) xs → ys ≡ drop (length xs) xs → Keeps (prepend_known ys left) next → Keeps (after_line known) (after_line next)
after_line-read known left next xs ys so_far none rest read =
    Keeps-trans _ _ _ so_far (Keeps-trans _ _ _ (after_line-passed left xs ys none rest) (after_line-kept _ _ read))

-- at the end of the input nothing follows
pub after_line-end : (a : Option (List ℕ)) (xs : List ℕ) → xs ≡ [] → IsAtEnd a → IsAtEnd (after_line (prepend_known xs a))
after_line-end None xs none end = tt
after_line-end (Some x) xs none end = rw (none, end)

pub end-kept : (a b : Option (List ℕ)) → Keeps a b → IsAtEnd b → IsAtEnd a
end-kept None b p end = tt
end-kept (Some x) None p end = absurd p
end-kept (Some x) (Some y) p end = sym p ∙ end

-- the first line was handed out, and ys follow it
module _ (known left : Option (List ℕ)) (xs : List ℕ) (n : ℕ) (kept : Keeps known (prepend_known xs left)) (at : position (λ b. b == 10) xs ≡ Some n) where
  pub handed_out : IfSome known (λ all. take_through 10 all ≡ take n xs ++ 10 ∷ [])
  handed_out = by known left kept
    where
      by : (k l : Option (List ℕ)) → Keeps k (prepend_known xs l) → IfSome k (λ all. take_through 10 all ≡ take n xs ++ 10 ∷ [])
      by None l p = tt
      by (Some all) None p = absurd p
      by (Some all) (Some y) p = ap (take_through 10) (sym p) ∙ (through xs y n at).0

  pub left_behind : (ys : List ℕ) → ys ≡ drop (n + 1) xs → DropsThrough known (prepend_known ys left) 10
  left_behind ys rest = by known left kept
    where
      by : (k l : Option (List ℕ)) → Keeps k (prepend_known xs l) → DropsThrough k (prepend_known ys l) 10
      by None l p = tt
      by (Some all) None p = absurd p
      by (Some all) (Some y) p = ap Some (ap (λ l. l ++ y) rest ∙ sym ((through xs y n at).1) ∙ ap (drop_through 10) p)
