-- Laws of writing: one text and then another is one text; what fits stands in the buffer, and what does not is told.
use Rattle.std.specs.Prelude.{ℕ, suc, ◌+◌, ◌≤◌, ◌<◌, ◌≡◌, refl, Bool, true, false, List, [], ◌∷◌, ◌++◌, ltb, length, take, drop, codes}
use Rattle.std.specs.Borrow.{MutBor}
use Rattle.std.proofs.Common.{◌-◌, arith, append-nil}
use Rattle.std.proofs.Math.Seq.{take-nil, take-append-add, take-append_seam, drop-append_seam}
use Rattle.std.proofs.lemmas.Grind.{common_steps}
use Rattle.text_buffer.specs.Text.{Written, text, rest, full, empty, wrote, joined}

-- a quoted text is the list that a literal of the code is
literal : codes "a\n" ≡ 97 ∷ 10 ∷ []
literal = refl

-- a buffer that holds p and r, with the place between them
abbrev between : MutBor (List ℕ) → List ℕ → List ℕ → Written
between o p r = record { out = record o { now = p ++ r }; at = length p }

-- and one that holds p, after what did not fit
abbrev past : MutBor (List ℕ) → List ℕ → Written
past o p = record { out = record o { now = p }; at = suc (length p) }

between_fits : (o : MutBor (List ℕ)) (p r t : List ℕ) → length t ≤ length r → wrote (between o p r) t ≡ between o (p ++ t) (drop (length t) r)
unfolding wrote
between_fits o p r t h = rw (take-append_seam p r, drop-append_seam p r) (grind (arith, common_steps))

between_over : (o : MutBor (List ℕ)) (p r t : List ℕ) → length r < length t → wrote (between o p r) t ≡ past o (p ++ take (length r) t)
unfolding wrote
between_over o p r t h = rw (take-append_seam p r, drop-append_seam p r) (grind (arith, common_steps))

-- the buffer is what is written and the rest
pub whole : (w : Written) → w.out.now ≡ text w ++ rest w
whole w = grind (arith, common_steps)

is_between : (w : Written) → full w ≡ false → w ≡ between w.out (text w) (rest w)
is_between w f = grind (arith, common_steps)

-- the empty text
pub wrote_none : (w : Written) → wrote w [] ≡ w
unfolding wrote
wrote_none w = grind (arith, common_steps, take-nil {A = ℕ}, append-nil {A = ℕ})

-- a full text stays as it is, whatever is written
pub full_stays : (w : Written) (t : List ℕ) → full w ≡ true → wrote w t ≡ w
unfolding wrote
full_stays w t f = rw f

take_past : (s t : List ℕ) (n : ℕ) → length s ≤ n → take n (s ++ t) ≡ s ++ take (n - length s) t
take_past s t n h =
    let e : length s + (n - length s) ≡ n = omega arith in
    rw e at (take-append-add s t (n - length s))

past_stays : (o : MutBor (List ℕ)) (p t : List ℕ) → wrote (past o p) t ≡ past o p
past_stays o p t = full_stays (past o p) t (grind arith)

between_then : (o : MutBor (List ℕ)) (p r t u : List ℕ) → wrote (between o p r) (t ++ u) ≡ wrote (wrote (between o p r) t) u
between_then o p r t u = by_first (ltb (length r) (length t)) refl where
  by_both : (b : Bool) → ltb (length r) (length (t ++ u)) ≡ b → length t ≤ length r → wrote (between o p r) (t ++ u) ≡ wrote (between o (p ++ t) (drop (length t) r)) u
  by_both true e h =
      rw (between_over o p r (t ++ u) (grind (arith, e)), between_over o (p ++ t) (drop (length t) r) u (grind (arith, common_steps, e)))
      (grind (arith, common_steps, take_past))
  by_both false e h =
      rw (between_fits o p r (t ++ u) (grind (arith, e)), between_fits o (p ++ t) (drop (length t) r) u (grind (arith, common_steps, e)))
      (grind (arith, common_steps))

  by_first : (b : Bool) → ltb (length r) (length t) ≡ b → wrote (between o p r) (t ++ u) ≡ wrote (wrote (between o p r) t) u
  by_first true e =
      rw (between_over o p r t (grind (arith, e)), past_stays o (p ++ take (length r) t) u, between_over o p r (t ++ u) (grind (arith, common_steps, e)))
      (grind (arith, common_steps, e))
  by_first false e = rw (between_fits o p r t (grind (arith, e))) (by_both (ltb (length r) (length (t ++ u))) refl (grind (arith, e)))

-- one text and then another
pub wrote_then : (w : Written) (t u : List ℕ) → wrote w (t ++ u) ≡ wrote (wrote w t) u
wrote_then w t u = by_full (full w) refl where
  by_full : (b : Bool) → full w ≡ b → wrote w (t ++ u) ≡ wrote (wrote w t) u
  by_full true e = rw (full_stays w (t ++ u) e, full_stays w t e, full_stays w u e) refl
  by_full false e = rw (is_between w e) (between_then w.out (text w) (rest w) t u)

-- texts, one by one
pub joined_none : (w : Written) → wrote w (joined []) ≡ w
unfolding joined
joined_none w = wrote_none w

pub joined_then : (w : Written) (t : List ℕ) (ts : List (List ℕ)) → wrote w (joined (t ∷ ts)) ≡ wrote (wrote w t) (joined ts)
unfolding joined
joined_then w t ts = wrote_then w t (joined ts)

-- what a function that writes one text after another needs
pub ruleset writing = (wrote_none, wrote_then, joined_none, joined_then)

-- a text that fits stands after what was written, the rest of the buffer is as it was, and nothing is told
pub fits : (w : Written) (t : List ℕ) → full w ≡ false → length t ≤ length (rest w)
    → (text (wrote w t) ≡ text w ++ t) × (rest (wrote w t) ≡ drop (length t) (rest w)) × (full (wrote w t) ≡ false)
unfolding wrote
fits w t f h = grind (arith, common_steps)

-- of a longer text the buffer holds what it can, and that is told
pub over : (w : Written) (t : List ℕ) → full w ≡ false → length (rest w) < length t
    → (text (wrote w t) ≡ text w ++ take (length (rest w)) t) × (rest (wrote w t) ≡ []) × (full (wrote w t) ≡ true)
unfolding wrote
over w t f h = grind (arith, common_steps)

-- either way: of a text in an empty buffer stands as much as the buffer has room for
pub held : (out : MutBor (List ℕ)) (t : List ℕ) → text (wrote (empty out) t) ≡ take (length out.now) t
unfolding wrote
held out t = grind (arith, common_steps)

-- whoever lent the buffer knows it afterwards: it is still that loan, and holds what was written, then the rest as it was
pub same_loan : (w : Written) (t : List ℕ) → (wrote w t).out.ghost_name ≡ w.out.ghost_name
unfolding wrote
same_loan w t = grind arith

pub lent : (out : MutBor (List ℕ)) (t : List ℕ) → (wrote (empty out) t).out.now ≡ take (length out.now) t ++ drop (length t) out.now
unfolding wrote
lent out t = grind (arith, common_steps)

-- what a function needs that says what a buffer holds, lent to a text that has ended
pub ruleset lending = (same_loan, lent)
