-- A part of a text by its ends is the one by its length, also where it begins past its end. Assumes nothing.
use Rattle.std.proofs.Common.{◌≡◌, ℕ, ◌-◌, List, arith}
use Rattle.std.proofs.Math.Seq.{slice}
use Rattle.std.proofs.lemmas.List.{drop-take}
use Rattle.std.proofs.lemmas.Grind.{common_steps}
use Rattle.math.specs.Parts.{part}

pub part_is_slice : (f t : ℕ) (l : List ℕ) → slice f t l ≡ part f (t - f) l
part_is_slice f t l = grind (arith, common_steps, drop-take {X = ℕ})
