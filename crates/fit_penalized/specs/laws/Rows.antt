-- A value of the definitions that tells near misses apart, computed. Assumes nothing.
use Rattle.std.specs.Prelude.{◌≡◌, refl, [], ◌∷◌, Float}
use Rattle.std.specs.Float.Ieee.{round, of_bits}
use Rattle.std.specs.Float.Ieee as Ieee
use Rattle.math.specs.Basic.{abs_of, max_of, min_of, is_finite}
use Rattle.math.specs.Loops.{iter}
use Rattle.math.specs.Rationals.{num}
use Rattle.re_cov.specs.laws.Computes.{re_cov_computes}
use Rattle.fit_refusals.specs.Problem.{problem_of}
use Rattle.fit_penalized.specs.Penalized.{penalty_sum}

-- the penalties of three groups
unfoldable pub penalties : Float
penalties = penalty_sum (problem_of 1 [] [] [] 3 (0 ∷ []) [] [] [] [] [] (num 1 ∷ [])) (num 2 ∷ num 3 ∷ num 4 ∷ [])

pub penalties_are : penalties ≡ num 29
unfolding re_cov_computes iter abs_of max_of min_of is_finite Ieee.lt Ieee.eq Ieee.is_nan penalty_sum penalties of_bits round
penalties_are = refl
