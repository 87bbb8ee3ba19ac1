-- What opens the four curves for computation.
use Rattle.std.specs.Float.Ieee as Ieee
use Rattle.math.specs.Basic.{abs_of, max_of, is_finite, is_infinite}
use Rattle.math.specs.laws.Computes.{exp_computes}
use Rattle.curves.specs.Sslogis.{parts_of, scal_gradient, sslogis_of}
use Rattle.curves.specs.Ssasymp.{ssasymp_of}
use Rattle.curves.specs.Ssmicmen.{micmen_of, overflow_of, ssmicmen_of}
use Rattle.curves.specs.Ssfpl.{ssfpl_of}
use Rattle.curves.specs.MeanFn.{n_params_of, eval_of, effective_of, eval_with_re_of}
use Rattle.curves.specs.Curve.{curve_of}

-- `unfolding curve_computes` opens all that a value of curve_of is computed by
unfoldable pub curve_computes : Unit {0}
unfolding exp_computes parts_of scal_gradient sslogis_of ssasymp_of micmen_of overflow_of ssmicmen_of ssfpl_of n_params_of eval_of effective_of eval_with_re_of curve_of abs_of max_of is_finite is_infinite Ieee.eq Ieee.is_nan
curve_computes = tt
