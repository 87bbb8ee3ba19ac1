-- Demand 3 of a search. Definitions only; `demand3` in the proofs shows the claim for every list of answers and every allowed number.
use Rattle.std.specs.Prelude.{◌≡◌, ℕ, ◌+◌, ◌≤◌, min}
use Rattle.golden.specs.declared.Found.{Found}

pub record Demand3 (allowed : ℕ) (r : Found) : Type 0 where
  pub at_most : r.narrowings ≤ 30
  pub exactly : r.narrowings ≡ min 26 allowed
  pub fits : r.fits ≡ r.narrowings + 3
