-- Demand 3 for every list of answers: after n narrowings the points lie in the bounds of row n (Points), whatever the answers were, so that the bracket is wide for n below 26 and not for 26.
-- Assumes nothing.
use mathlib.Core.Path.{◌≡◌, sym, ap, ◌∙◌, subst}
use mathlib.Core.Logic.{inl, inr}
use mathlib.Core.List.{List}
use mathlib.Core.Bool.{Bool, true, false, cond}
use Prim.Native.Nat.{ℕ, zero, suc, ◌+◌, ◌-◌, ◌≤◌, ◌<◌, min}
use native.Mathlib.Nat.{eq-or-lt_of_le, le_trans}
use native.Mathlib.Omega.{arith}
use lib.Dec.{lit≤}
use lib.Ieee.{Float, nan}
use Rattle.math.specs.Basic.{is_finite}
use Rattle.math.specs.laws.Loops.{pick_true, pick_false}
use Rattle.golden.specs.declared.Bracket.{Bracket}
use Rattle.golden.specs.Golden.{is_wide, keeps_left, new_point, left_part, right_part, narrowed, theta_of, Run, run_ended, first, run, found_at, golden_by, listed, golden_over}
use Rattle.fit_refusals.specs.Problem.{Problem}
use Rattle.golden.specs.Search.{asks, search_of}
use Rattle.golden.specs.Demand3 as Claim
use Rattle.golden.proofs.Table.{Row, row, row_good, row_wide, row_narrow}
use Rattle.golden.proofs.Points.{Inv, finite_at, theta_finite, first_inv, step_inv, wide_true, wide_false}

pub narrowed_inv : (n : ℕ) (s : Bracket) (x : Float) → n < 26 → Inv (row n) s → Inv (row (suc n)) (narrowed s (new_point s) x)
unfolding narrowed new_point
narrowed_inv n s x h I = step_inv (keeps_left s) (row n) s x (row_good n (omega arith)) I

pub wide_at : (n : ℕ) (s : Bracket) → n < 26 → Inv (row n) s → is_wide s ≡ true
wide_at n s h I = wide_true (row n) s (row_wide n h) I

pub narrow_at : (n : ℕ) (s : Bracket) → n ≡ 26 → Inv (row n) s → is_wide s ≡ false
narrow_at n s e I = wide_false (row 26) s (lit≤ tt) row_narrow (subst (λ (i : ℕ). Inv (row i) s) e I)

-- every theta that is asked is finite
new_finite : (t : Bool) (r : Row) (s : Bracket) (p : Float) → Inv r (cond t (left_part s p nan) (right_part s p nan)) → is_finite p ≡ true
new_finite true r s p I = finite_at p I.c I.c_is
new_finite false r s p I = finite_at p I.d I.d_is

pub point_finite : (n : ℕ) (s : Bracket) → n < 26 → Inv (row n) s → is_finite (new_point s) ≡ true
unfolding narrowed
point_finite n s h I = new_finite (keeps_left s) (row (suc n)) s (new_point s) (narrowed_inv n s nan h I)

ten : (n : ℕ) → n ≤ 26 → 10 ≤ (row n).l
ten n h =
    elim (eq-or-lt_of_le h) [
      | inl e ↦ subst (λ (i : ℕ). 10 ≤ (row i).l) (sym e) (lit≤ tt)
      | inr q ↦ le_trans (lit≤ tt) (row_wide n q)
    ]

pub theta_is_finite : (n : ℕ) (s : Bracket) → n ≤ 26 → Inv (row n) s → is_finite (theta_of s) ≡ true
theta_is_finite n s h I = theta_finite (row n) s (ten n h) I

module _ (ask : ℕ → Float → Float) where
  -- k narrowings are still allowed, n are made
  run_counts : (k n f : ℕ) (s : Bracket) → n ≤ 26 → Inv (row n) s → ((run ask k n f s).made ≡ n + min (26 - n) k) × ((run ask k n f s).fits ≡ f + min (26 - n) k)
  unfolding run
  run_counts zero n f s h I = (omega arith, omega arith)
  run_counts (suc k) n f s h I =
      elim (eq-or-lt_of_le h) [
        | inl e ↦
            let o : cond (is_wide s) (run ask k (n + 1) (f + 1) (narrowed s (new_point s) (ask f (new_point s)))) (run_ended n f s) ≡ run_ended n f s = pick_false _ _ _ (narrow_at n s e I) in
            (ap (λ (r : Run). r.made) o ∙ none n n k e, ap (λ (r : Run). r.fits) o ∙ none f n k e)
        | inr q ↦
            let x = ask f (new_point s) in
            let o : cond (is_wide s) (run ask k (n + 1) (f + 1) (narrowed s (new_point s) x)) (run_ended n f s) ≡ run ask k (n + 1) (f + 1) (narrowed s (new_point s) x) = pick_true _ _ _ (wide_at n s q I) in
            let i : suc n ≡ n + 1 = omega arith in
            let ih = run_counts k (n + 1) (f + 1) (narrowed s (new_point s) x) (omega (arith, q)) (subst (λ (m : ℕ). Inv (row m) (narrowed s (new_point s) x)) i (narrowed_inv n s x q I)) in
            (ap (λ (r : Run). r.made) o ∙ ih.0 ∙ more n n k q, ap (λ (r : Run). r.fits) o ∙ ih.1 ∙ more f n k q)
      ]
    where
      none : (m n k : ℕ) → n ≡ 26 → m ≡ m + min (26 - n) (suc k)
      none m n k e = omega arith

      more : (m n k : ℕ) → n < 26 → m + 1 + min (26 - (n + 1)) k ≡ m + min (26 - n) (suc k)
      more m n k q = omega arith

  pub demand3_by : (allowed : ℕ) → Claim.Demand3 allowed (golden_by ask allowed)
  unfolding golden_by found_at
  demand3_by allowed =
      let c = run_counts allowed 0 2 (first ask) (lit≤ tt) (first_inv (first ask).fc (first ask).fd) in
      record { at_most = omega (arith, c.0); exactly = omega (arith, c.0); fits = omega (arith, c.0, c.1) }

-- NaNs, infinities, two answers to one theta and lists of any length included
pub demand3 : (answers : List Float) (allowed : ℕ) → Claim.Demand3 allowed (golden_over answers allowed)
unfolding golden_over
demand3 answers allowed = demand3_by (listed answers) allowed

-- and of the real search
pub search_demand3 : (q : Problem) (rounds : ℕ) (reml : Bool) (nAgq allowed : ℕ) → Claim.Demand3 allowed (search_of q rounds reml nAgq allowed)
unfolding search_of
search_demand3 q rounds reml nAgq allowed = demand3_by (asks q rounds reml nAgq) allowed
