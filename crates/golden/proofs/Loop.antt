-- What the loop keeps, whatever the criterion answers: the points lie in the bounds of the table, so that every theta that is asked is finite, and what is left of the search comes to the whole.
-- Assumes nothing.
use mathlib.Core.Path.{◌≡◌, refl, sym, ap, ◌∙◌, subst}
use mathlib.Core.Logic.{◌⊎◌, inl, inr}
use mathlib.Core.Bool.{Bool, true, false}
use Prim.Native.Nat.{ℕ, zero, suc, ◌+◌, ◌-◌, ◌≤◌, ◌<◌, min}
use native.Mathlib.Nat.{eq-or-lt_of_le}
use native.Mathlib.Omega.{arith}
use lib.Ieee.{Float, nan}
use Rattle.math.specs.Basic.{is_finite}
use Rattle.golden.specs.declared.Bracket.{Bracket}
use Rattle.golden.specs.Golden.{start, end, left_point, right_point, is_wide, new_point, narrowed, theta_of, converged_of, run_ended, first, run, found_at, golden_by}
use Rattle.golden.proofs.Table.{row}
use Rattle.golden.proofs.Points.{Inv, first_inv, finite_at}
use Rattle.golden.proofs.Demand3.{narrowed_inv, wide_at, narrow_at, point_finite, theta_is_finite}

pub left_finite : (x : Float) → x ≡ left_point start end → is_finite x ≡ true
left_finite x e = let I = first_inv nan nan in ap is_finite e ∙ finite_at (left_point start end) I.c I.c_is

pub right_finite : (x : Float) → x ≡ right_point start end → is_finite x ≡ true
right_finite x e = let I = first_inv nan nan in ap is_finite e ∙ finite_at (right_point start end) I.d I.d_is

-- made narrowings, the last of a bracket that is wide
wide_few : (s : Bracket) (made : ℕ) → made ≤ 26 → Inv (row made) s → is_wide s ≡ true → made < 26
wide_few s made h I w =
    elim (eq-or-lt_of_le h) [
      | inl e ↦ let n = narrow_at made s e I in absurd (cc)
      | inr q ↦ q
    ]

stops : (ask : ℕ → Float → Float) (k n f : ℕ) (s : Bracket) → is_wide s ≡ false → run ask k n f s ≡ run_ended n f s
unfolding run
stops ask zero n f s h = refl
stops ask (suc k) n f s h = rw h

-- Answered t x: the criterion may answer x at theta t
module _ (Answered : Float → Float → Type 0) (allowed : ℕ) where
  -- the criterion answers by ask wherever theta is finite
  abbrev pub AnswersBy : (Float → Float) → Type 0
  AnswersBy ask = (t x : Float) → is_finite t ≡ true → Answered t x → x ≡ ask t

  abbrev by : (Float → Float) → ℕ → Float → Float
  by ask i t = ask t

  pub record Going (s : Bracket) (made fits : ℕ) : Type 0 where
    pub few : made ≤ 26
    pub within : made ≤ allowed
    pub counted : fits ≡ made + 2
    pub points : Inv (row made) s
    pub whole : (ask : Float → Float) → AnswersBy ask → run (by ask) (allowed - made) made fits s ≡ run (by ask) allowed 0 2 (first (by ask))

  pub begins : (c d x y : Float) → c ≡ left_point start end → d ≡ right_point start end → Answered c x → Answered d y
      → Going (record { a = start; b = end; c = c; d = d; fc = x; fd = y }) 0 2
  begins c d x y ec ed ax ay =
      record {
        few = omega arith;
        within = omega arith;
        counted = omega arith;
        points = rw (ec, ed) (first_inv x y);
        whole = λ ask h.
            let z : allowed - 0 ≡ allowed = omega arith in
            let ex = h c x (left_finite c ec) ax in
            let ey = h d y (right_finite d ed) ay in
            rw (z, ex, ey, ec, ed) refl;
      }

  module _ (s : Bracket) (made fits : ℕ) (G : Going s made fits) where
    pub new_finite : (t : Float) → t ≡ new_point s → is_wide s ≡ true → is_finite t ≡ true
    new_finite t e w = ap is_finite e ∙ point_finite made s (wide_few s made G.few G.points w) G.points

    pub last_finite : (t : Float) → t ≡ theta_of s → is_finite t ≡ true
    last_finite t e = ap is_finite e ∙ theta_is_finite made s G.few G.points

    run_goes : (ask : Float → Float) → made < allowed → is_wide s ≡ true
        → run (by ask) (allowed - made) made fits s ≡ run (by ask) (allowed - (made + 1)) (made + 1) (fits + 1) (narrowed s (new_point s) (ask (new_point s)))
    unfolding run
    run_goes ask p h = let e : allowed - made ≡ suc (allowed - (made + 1)) = omega arith in rw (e, h)

    pub goes : (t x : Float) → is_wide s ≡ true → made < allowed → t ≡ new_point s → Answered t x → Going (narrowed s t x) (made + 1) (fits + 1)
    goes t x w p et ax =
        let q = wide_few s made G.few G.points w in
        let m : suc made ≡ made + 1 = omega arith in
        record {
          few = omega (arith, q);
          within = omega arith;
          counted = omega (arith, G.counted);
          points = rw et (subst (λ (n : ℕ). Inv (row n) (narrowed s (new_point s) x)) m (narrowed_inv made s x q G.points));
          whole = λ ask h.
              let ex = h t x (new_finite t et w) ax in
              rw (ex, et) (sym (run_goes ask p w)) ∙ G.whole ask h;
        }

    run_stops : (ask : Float → Float) → (is_wide s ≡ false) ⊎ (allowed ≤ made) → run (by ask) (allowed - made) made fits s ≡ run_ended made fits s
    unfolding run
    run_stops ask stop =
        elim stop [
          | inl e ↦ stops (by ask) (allowed - made) made fits s e
          | inr q ↦ let e : allowed - made ≡ 0 = omega arith in rw e
        ]

    pub counts : (is_wide s ≡ false) ⊎ (allowed ≤ made) → made ≡ min 26 allowed
    counts stop =
        elim stop [
          | inl e ↦ let h : made ≡ 26 = elim (eq-or-lt_of_le G.few) [ inl q ↦ q | inr q ↦ let w = wide_at made s q G.points in absurd (cc) ] in omega (arith, h, G.within)
          | inr q ↦ omega (arith, q, G.within, G.few)
        ]

    pub ends : (t x : Float) (v : Bool) → (is_wide s ≡ false) ⊎ (allowed ≤ made) → t ≡ theta_of s → Answered t x → v ≡ converged_of s x
        → (ask : Float → Float) → AnswersBy ask
        → record { theta = t; criterion = x; narrowings = made; converged = v; fits = fits + 1 } ≡ golden_by (by ask) allowed
    unfolding golden_by found_at
    ends t x v stop et ax ev ask h =
        let ex = h t x (last_finite t et) ax in
        let w : run_ended made fits s ≡ run (by ask) allowed 0 2 (first (by ask)) = sym (run_stops ask stop) ∙ G.whole ask h in
        rw (ev, ex, et) (ap (found_at (by ask)) w)
