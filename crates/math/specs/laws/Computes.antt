-- What opens exp, ln and the square root for computation.
use Rattle.std.specs.Float.Ieee.{lt, of_bits, to_bits, of_int, eq}
use Rattle.std.specs.Float.Ieee as Ieee
use Rattle.math.specs.Basic.{is_finite}
use Rattle.math.specs.Words.{low12, add_exp, to_int, with_sign, is_zero}
use Rattle.math.specs.Exp.{poly_of, scale_of, primary_of, far_of, near_of, reduced_of, ends_of, large_of, exp_of}
use Rattle.math.specs.Ln.{tiny_of, mid_of, side_of, series_of, body_of, normal_of, ln_of}
use Rattle.math.specs.Sqrt.{root_from, root, nearest_root, normal_root, positive_root, sqrt_of}

-- `unfolding exp_computes` opens all that a value of exp_of is computed by
unfoldable pub exp_computes : Unit {0}
unfolding poly_of scale_of primary_of far_of near_of reduced_of ends_of large_of exp_of low12 add_exp to_int with_sign is_zero Ieee.add Ieee.sub Ieee.mul Ieee.div Ieee.neg lt Ieee.le of_bits to_bits of_int Ieee.to_signed
exp_computes = tt

-- `unfolding ln_computes` opens all that a value of ln_of is computed by
unfoldable pub ln_computes : Unit {0}
unfolding tiny_of mid_of side_of series_of body_of normal_of ln_of is_zero eq Ieee.add Ieee.sub Ieee.mul Ieee.div Ieee.neg of_bits to_bits of_int
ln_computes = tt

unfoldable pub sqrt_computes : Unit {0}
unfolding root_from root nearest_root normal_root positive_root sqrt_of is_finite low12 add_exp eq lt Ieee.mul of_bits to_bits
sqrt_computes = tt
