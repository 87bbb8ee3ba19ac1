-- What opens the covariance for computation.
use Rattle.std.specs.Float.Ieee as Ieee
use Rattle.math.specs.Basic.{max_of}
use Rattle.math.specs.laws.Computes.{ln_computes}
use Rattle.re_cov.specs.ReCov.{lower_chol_of, dot_of_two, sigma_of, sigma_det, inverse_from, sigma_inverse, log_det_of, lower_solve_of, penalty_of}

-- `unfolding re_cov_computes` opens all that the values above are computed by
unfoldable pub re_cov_computes : Unit {0}
unfolding ln_computes lower_chol_of dot_of_two sigma_of sigma_det inverse_from sigma_inverse log_det_of lower_solve_of penalty_of max_of Ieee.lt Ieee.is_nan
re_cov_computes = tt
