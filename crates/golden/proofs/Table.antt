-- The bounds of the bracket's width after n narrowings, in units of 2 ^ -48, and the test of all the rows that are used. Nothing here is about floats. Assumes nothing.
use Prim.Native.Nat.{ℕ, zero, suc, ◌+◌, ◌-◌, ◌*◌, ◌≤◌, ◌<◌}
use native.Mathlib.Omega.{arith}
use mathlib.Core.Path.{sym, subst}
use mathlib.Core.Logic.{inl, inr}
use native.Mathlib.Nat.{eq-or-lt_of_le, le_of_suc-le-suc}
use mathlib.Core.Bool.{Bool, true, ◌&&◌}
use lib.Dec.{T, leb, leb→le, lit≤}
use lib.Ieee.Fits.{and_l, and_r}

-- the width is from l to h after n narrowings, and from l' to h' after one more
pub record Row : Type 0 where
  pub l : ℕ
  pub h : ℕ
  pub l' : ℕ
  pub h' : ℕ

abbrev pub next : Row → Row
next r = record { l = r.l'; h = r.h'; l' = r.l - r.h'; h' = r.h - r.l' }

abbrev pub row : ℕ → Row
row zero = record { l = 5573204538870985; h = 5573204538870993; l' = 3444429831277451; h' = 3444429831277459 }
row (suc n) = next (row n)

-- what a narrowing needs of a row, phi being 910872158600853 / 562949953421312: (l'' + 2) * phi + 1 ≤ l' and h' + 1 ≤ (h'' - 2) * phi, for l'' = l - h' and h'' = h - l'; h' ≤ l; l' ≤ h; h'' ≤ l'; 3 ≤ l'
abbrev pub good : Row → Bool
good r = leb ((r.l - r.h' + 2) * 910872158600853 + 562949953421312) (r.l' * 562949953421312)
    && (leb (r.h' * 562949953421312 + 562949953421312 + 2 * 910872158600853) ((r.h - r.l') * 910872158600853)
    && (leb r.h' r.l && (leb r.l' r.h && (leb (r.h - r.l') r.l' && leb 3 r.l'))))

-- a test of each number below k
abbrev each : (ℕ → Bool) → ℕ → Bool
each t zero = true
each t (suc n) = each t n && t n

each_at : (t : ℕ → Bool) (n k : ℕ) → n < k → T (each t k) → T (t n)
each_at t n zero h e = absurd (omega arith)
each_at t n (suc k) h e =
    elim (eq-or-lt_of_le (le_of_suc-le-suc h)) [
      | inl q ↦ subst (λ (i : ℕ). T (t i)) (sym q) (and_r (each t k) (t k) e)
      | inr q ↦ each_at t n k q (and_l (each t k) (t k) e)
    ]

pub row_good : (n : ℕ) → n < 27 → T (good (row n))
row_good n h = each_at (λ n. good (row n)) n 27 h tt

-- what the row says, taken apart
pub good_says : (r : Row) → T (good r)
    → ((r.l - r.h' + 2) * 910872158600853 + 562949953421312 ≤ r.l' * 562949953421312) × (r.h' * 562949953421312 + 562949953421312 + 2 * 910872158600853 ≤ (r.h - r.l') * 910872158600853)
    × (r.h' ≤ r.l) × (r.l' ≤ r.h) × (r.h - r.l' ≤ r.l') × (3 ≤ r.l')
good_says r t =
    let b = and_r _ _ t in
    let c = and_r _ _ b in
    let d = and_r _ _ c in
    let e = and_r _ _ d in (
      leb→le _ _ (and_l _ _ t),
      leb→le _ _ (and_l _ _ b),
      leb→le _ _ (and_l _ _ c),
      leb→le _ _ (and_l _ _ d),
      leb→le _ _ (and_l _ _ e),
      leb→le _ _ (and_r _ _ e),
    )

-- the tolerance is above 28147497671 units and below 28147497672; the width against it
pub row_wide : (n : ℕ) → n < 26 → 28147497674 ≤ (row n).l
row_wide n h = leb→le _ _ (each_at (λ n. leb 28147497674 (row n).l) n 26 h tt)

pub row_narrow : (row 26).h ≤ 28147497669
row_narrow = lit≤ tt
