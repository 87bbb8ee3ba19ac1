-- A row times a group's effects, by index and side by side. Assumes nothing.
use Rattle.std.specs.Prelude.{◌≡◌, ℕ, ◌≤◌, List, [], fold, length, slice_index_or, Float}
use Rattle.std.specs.List.{zip}
use Rattle.std.specs.Float.{nan}
use Rattle.math.specs.Basic.{add, mul, zero}
use Rattle.math.specs.laws.Zips.{iter_zip}
use Rattle.block_solve.specs.Normal.{times_of}

-- an effect and the entry that it stands at
abbrev pub times_next : Float → Float × Float → Float
times_next t p = add t (mul p.1 p.0)

pub times_zip : (m : List (List Float)) (i : ℕ) (b : List Float) → length b ≤ length (slice_index_or m i [])
    → times_of m i b ≡ fold times_next zero (zip b (slice_index_or m i []))
unfolding times_of
times_zip m i b p = iter_zip (λ x a t. times_next t (x, a)) nan nan b (slice_index_or m i []) zero p
