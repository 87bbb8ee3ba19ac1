-- A row of a system times the values that are known, by index and side by side. Assumes nothing.
use Rattle.std.specs.Prelude.{◌≡◌, refl, ℕ, ◌+◌, ◌-◌, ◌*◌, ◌<◌, ◌≤◌, List, fold, length, Float}
use Rattle.std.specs.List.{zip, between}
use Rattle.std.specs.Float.{nan}
use Rattle.std.proofs.Common.{zero-add, arith}
use Rattle.math.specs.Basic.{sub, mul}
use Rattle.math.specs.Loops.{span}
use Rattle.math.specs.laws.Zips.{from_zip}
use Rattle.linalg.specs.Elimination.{less_known}

-- an entry and the value it stands at
abbrev pub less_next : Float → Float × Float → Float
less_next v p = sub v (mul p.0 p.1)

pub known_zip : (a x : List Float) (i n : ℕ) (v : Float) → i < n → i * 4 + n ≤ length a → n ≤ length x
    → span (less_known a x i) (i + 1) n v ≡ fold less_next v (zip (between (i * 4 + i + 1) (i * 4 + n) a) (between (i + 1) n x))
known_zip a x i n v p q r =
    let e : i * 4 + n - (i * 4 + i + 1) ≡ n - (i + 1) = omega arith in
    let g : i * 4 + i + 1 ≡ i * 4 + (i + 1) = omega arith in
    rw (e, g) (rw (zero-add (i + 1)) at (from_zip (λ a y v. less_next v (a, y)) nan nan (less_known a x i) a x (i * 4) 0 (λ j s. rw (zero-add j) refl) (i + 1) (n - (i + 1)) v (omega arith) (omega arith)))
