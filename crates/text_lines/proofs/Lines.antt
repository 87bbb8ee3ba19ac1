-- What the loops that write spaces and a template need.
use Prim.Native.Char.{code}
use Rattle.std.proofs.Common.{◌≡◌, ℕ, suc, ◌+◌, ◌-◌, ◌<◌, ◌≤◌, false, List, [], ◌∷◌, length, Float, arith}
use borrow.Author.Tests.{eq-eqb, ne_eqb}
use Rattle.text_buffer.specs.Text.{Written, wrote}
use Rattle.text_buffer.specs.laws.Text.{wrote_none, wrote_then}
use Rattle.text_lines.specs.Lines.{spaces, for_mark, wholes_after, floats_after, fill_from}

pub spaces_none : (t : Written) (w i : ℕ) → w ≤ i → wrote t (spaces (w - i)) ≡ t
spaces_none t w i h =
    let e : w - i ≡ 0 = omega arith in
    rw e (wrote_none t)

pub spaces_next : (t : Written) (w i : ℕ) → i < w → wrote t (spaces (w - i)) ≡ wrote (wrote t (code " " ∷ [])) (spaces (w - (i + 1)))
spaces_next t w i h =
    let e : w - i ≡ suc (w - (i + 1)) = omega arith in
    rw e (wrote_then t (code " " ∷ []) (spaces (w - (i + 1))))

pub ruleset padding = (spaces_none, spaces_next)

-- a template from a byte on
module _ (w : Written) (ns : List ℕ) (xs : List Float) where
  pub fill_end : (t : List ℕ) → length t ≡ 0 → wrote w (fill_from false t ns xs) ≡ w
  unfolding fill_from
  fill_end [] e = wrote_none w
  fill_end (b ∷ t) e = absurd (omega arith)

  pub fill_byte : (t : List ℕ) (b : ℕ) (u : List ℕ) → t ≡ b ∷ u → (b ≡ code "%" → ⊥) → wrote w (fill_from false t ns xs) ≡ wrote (wrote w (b ∷ [])) (fill_from false u ns xs)
  unfolding fill_from
  fill_byte t b u e n = rw (e, ne_eqb b (code "%") n) (wrote_then w (b ∷ []) (fill_from false u ns xs))

  pub fill_mark : (t : List ℕ) (b c : ℕ) (u : List ℕ) → t ≡ b ∷ c ∷ u → b ≡ code "%"
      → wrote w (fill_from false t ns xs) ≡ wrote (wrote w (for_mark c ns xs)) (fill_from false u (wholes_after c ns) (floats_after c xs))
  unfolding fill_from
  fill_mark t b c u e p = rw (e, eq-eqb b (code "%") p) (wrote_then w (for_mark c ns xs) (fill_from false u (wholes_after c ns) (floats_after c xs)))

  pub fill_last : (t : List ℕ) (b : ℕ) (u : List ℕ) → t ≡ b ∷ u → length u ≡ 0 → b ≡ code "%" → wrote w (fill_from false t ns xs) ≡ w
  unfolding fill_from
  fill_last t b [] e z p = rw (e, eq-eqb b (code "%") p) (wrote_none w)
  fill_last t b (c ∷ u) e z p = absurd (omega arith)

pub ruleset filling = (fill_end, fill_byte, fill_mark, fill_last)
