-- A search is the search over the list of its own answers. Assumes nothing.
use Prim.Native.Nat.{ℕ, zero, suc, ◌+◌}
use Rattle.std.specs.Prelude.{◌≡◌, Bool, cond, Float, get_or, length}
use Rattle.std.proofs.Common.{sym, ◌∙◌, subst, arith}
use Rattle.std.proofs.Math.Path.{ap}
use Rattle.std.proofs.Math.Bool.{true, false}
use mathlib.Core.List.{List, [], ◌∷◌}
use Rattle.std.specs.Float.{nan}
use Rattle.fit_refusals.specs.Problem.{Problem}
use Rattle.golden.specs.Search.{asks, search_of, answers_of}
use Rattle.golden.specs.declared.Bracket.{Bracket}
use Rattle.golden.specs.Golden.{is_wide, new_point, narrowed, theta_of, run_ended, found_with, first, run, found_at, golden_by, answers_from, answers_by, listed, golden_over}

module _ (ask : ℕ → Float → Float) (all : List Float) where
  -- the answers from fit f on stand in the list from place f on
  abbrev Holds : ℕ → List Float → Type 0
  Holds f l = (j : ℕ) → get_or all (f + j) nan ≡ get_or l j nan

  here : (f : ℕ) (x : Float) (l : List Float) → Holds f (x ∷ l) → get_or all f nan ≡ x
  here f x l h = let e : f + 0 ≡ f = omega arith in subst (λ (i : ℕ). get_or all i nan ≡ x) e (h 0)

  after : (f : ℕ) (x : Float) (l : List Float) → Holds f (x ∷ l) → Holds (f + 1) l
  after f x l h j = let e : f + suc j ≡ f + 1 + j = omega arith in subst (λ (i : ℕ). get_or all i nan ≡ get_or l j nan) e (h (suc j))

  same_run : (k n f : ℕ) (s : Bracket) → Holds f (answers_from ask k f s) → found_at (listed all) (run (listed all) k n f s) ≡ found_at ask (run ask k n f s)
  unfolding found_at run answers_from
  same_run zero n f s h = ap (found_with (run_ended n f s)) (here f (ask f (theta_of s)) [] h)
  same_run (suc k) n f s h = go (is_wide s) (same_run k (n + 1) (f + 1) (narrowed s (new_point s) (ask f (new_point s)))) h
    where
      go : (b : Bool)
          → (Holds (f + 1) (answers_from ask k (f + 1) (narrowed s (new_point s) (ask f (new_point s))))
          → found_at (listed all) (run (listed all) k (n + 1) (f + 1) (narrowed s (new_point s) (ask f (new_point s)))) ≡ found_at ask (run ask k (n + 1) (f + 1) (narrowed s (new_point s) (ask f (new_point s)))))
          → Holds f (cond b (ask f (new_point s) ∷ answers_from ask k (f + 1) (narrowed s (new_point s) (ask f (new_point s)))) (ask f (theta_of s) ∷ []))
          → found_at (listed all) (cond b (run (listed all) k (n + 1) (f + 1) (narrowed s (new_point s) (get_or all f nan))) (run_ended n f s))
          ≡ found_at ask (cond b (run ask k (n + 1) (f + 1) (narrowed s (new_point s) (ask f (new_point s)))) (run_ended n f s))
      go true more h =
          ap (λ (x : Float). found_at (listed all) (run (listed all) k (n + 1) (f + 1) (narrowed s (new_point s) x))) (here f (ask f (new_point s)) (answers_from ask k (f + 1) (narrowed s (new_point s) (ask f (new_point s)))) h) ∙ more (after f (ask f (new_point s)) (answers_from ask k (f + 1) (narrowed s (new_point s) (ask f (new_point s)))) h)
      go false more h = ap (found_with (run_ended n f s)) (here f (ask f (theta_of s)) [] h)

pub golden_over_lem : (ask : ℕ → Float → Float) (allowed : ℕ) → golden_over (answers_by ask allowed) allowed ≡ golden_by ask allowed
unfolding golden_over golden_by answers_by
golden_over_lem ask allowed = same_run ask (answers_by ask allowed) allowed 0 2 (first ask) (λ j. ap (λ (i : ℕ). get_or (answers_by ask allowed) i nan) (plus j))
  where
    plus : (j : ℕ) → 2 + j ≡ suc (suc j)
    plus j = omega arith

-- the real search, over the criterion's own answers
pub search_over : (q : Problem) (rounds : ℕ) (reml : Bool) (nAgq allowed : ℕ) → search_of q rounds reml nAgq allowed ≡ golden_over (answers_of q rounds reml nAgq allowed) allowed
unfolding search_of answers_of
search_over q rounds reml nAgq allowed = sym (golden_over_lem (asks q rounds reml nAgq) allowed)

-- ---- the list has an answer for each fit
counted : (ask : ℕ → Float → Float) (k n f : ℕ) (s : Bracket) → length (answers_from ask k f s) + f ≡ (run ask k n f s).fits + 1
unfolding answers_from run
counted ask zero n f s = omega arith
counted ask (suc k) n f s = go (is_wide s) (counted ask k (n + 1) (f + 1) (narrowed s (new_point s) (ask f (new_point s))))
  where
    shift : (m f r : ℕ) → m + (f + 1) ≡ r → suc m + f ≡ r
    shift m f r e = omega arith

    single : (f : ℕ) → 1 + f ≡ f + 1
    single f = omega arith

    go : (b : Bool)
        → length (answers_from ask k (f + 1) (narrowed s (new_point s) (ask f (new_point s)))) + (f + 1) ≡ (run ask k (n + 1) (f + 1) (narrowed s (new_point s) (ask f (new_point s)))).fits + 1
        → length (cond b (ask f (new_point s) ∷ answers_from ask k (f + 1) (narrowed s (new_point s) (ask f (new_point s)))) (ask f (theta_of s) ∷ [])) + f
        ≡ (cond b (run ask k (n + 1) (f + 1) (narrowed s (new_point s) (ask f (new_point s)))) (run_ended n f s)).fits + 1
    go true e = shift (length (answers_from ask k (f + 1) (narrowed s (new_point s) (ask f (new_point s))))) f ((run ask k (n + 1) (f + 1) (narrowed s (new_point s) (ask f (new_point s)))).fits + 1) e
    go false e = single f

pub an_answer_each : (ask : ℕ → Float → Float) (allowed : ℕ) → length (answers_by ask allowed) ≡ (golden_by ask allowed).fits
unfolding answers_by golden_by found_at
an_answer_each ask allowed = two_more (length (answers_from ask allowed 2 (first ask))) _ (counted ask allowed 0 2 (first ask))
  where
    two_more : (m r : ℕ) → m + 2 ≡ r → suc (suc m) ≡ r
    two_more m r e = omega arith
