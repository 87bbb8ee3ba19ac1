-- How many values a curve has.
use Rattle.std.specs.Prelude.{ℕ, ◌≤◌, Bool, true, false, cond, eqb}
use Rattle.std.proofs.Common.{arith}
use Rattle.curves.specs.MeanFn.{n_params_of}

-- p lies between 2 and 4
pub params_few : (code : ℕ) → (2 ≤ n_params_of code) × (n_params_of code ≤ 4)
unfolding n_params_of
params_few code = few (eqb code 3) (eqb code 4)
  where
    few : (a b : Bool) → (2 ≤ cond a 2 (cond b 4 3)) × (cond a 2 (cond b 4 3) ≤ 4)
    few true b = (omega arith, omega arith)
    few false true = (omega arith, omega arith)
    few false false = (omega arith, omega arith)

pub params_most : (code : ℕ) → n_params_of code ≤ 4
params_most code = (params_few code).1
