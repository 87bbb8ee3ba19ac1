-- A group's effects, a part of the list that they are written into, and a loop over its columns. Assumes nothing.
use Rattle.std.proofs.Common.{◌≡◌, refl, ap, ℕ, zero, suc, ◌-◌, ◌≤◌, List, [], ◌∷◌, length, take, fold, zero-add, arith}
use Rattle.std.proofs.lemmas.Slice.{take-put_mid}
use Rattle.std.specs.List.{zip}
use Rattle.std.specs.Float.{nan}
use Rattle.math.specs.laws.Parts.{group_fits}
use Rattle.math.specs.laws.Zips.{from_zip}
use Rattle.math.specs.Basic.{add, mul}
use Rattle.math.specs.Basic as Basic
use lib.Ieee.{Float}
use Rattle.group_blocks.specs.Components.{columns_times_at, columns_times, effects_of}

pub effects_take : (k : ℕ) (x y : Float) → 1 ≤ k → k ≤ 2 → take k (x ∷ y ∷ []) ≡ effects_of k x y
unfolding effects_of
effects_take zero x y p q = absurd (omega arith)
effects_take (suc zero) x y p q = refl
effects_take (suc (suc zero)) x y p q = refl
effects_take (suc (suc (suc k))) x y p q = absurd (omega arith)

pub ruleset parts = (take-put_mid, group_fits)

-- a column and the fixed value it is taken by
abbrev pub columns_next : Float × Float → (Float × Float) × Float → Float × Float
columns_next t p = (add t.0 (mul p.0.0 p.1), add t.1 (mul p.0.1 p.1))

zip_short : {A B : Type 0} (p : ℕ) (xs : List A) (ys : List B) → zip (take p xs) (take p ys) ≡ zip (take p xs) ys
zip_short zero xs ys = refl
zip_short (suc p) [] ys = refl
zip_short (suc p) (x ∷ xs) [] = refl
zip_short (suc p) (x ∷ xs) (y ∷ ys) = ap (λ l. (x, y) ∷ l) (zip_short p xs ys)

pub columns_zip : (w : List (Float × Float)) (x : List Float) (p : ℕ) → p ≤ length w → p ≤ length x
    → columns_times w x p ≡ fold columns_next (Basic.zero, Basic.zero) (zip (take p w) x)
unfolding columns_times
columns_zip w x p a b =
    let e : p - 0 ≡ p = omega arith in
    rw (e, ← zip_short p w x)
    (from_zip (λ c v t. columns_next t (c, v)) (nan, nan) nan (columns_times_at w x) w x 0 0 (λ j s. rw (zero-add j) refl) 0 p (Basic.zero, Basic.zero) (omega arith) (omega arith))
