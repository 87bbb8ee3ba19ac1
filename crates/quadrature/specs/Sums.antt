-- The logarithm of a sum of exponentials, log_sum_exp of quadrature.rs.
use Rattle.std.specs.Prelude.{true, cond, List, eqb, length, fold, Float}
use Rattle.std.specs.Float.{inf}
use Rattle.math.specs.Basic.{add, sub, zero, max_of, is_finite}
use Rattle.math.specs.Exp.{exp_of}
use Rattle.math.specs.Ln.{ln_of}

-- m, xs.iter().copied().fold(f64::NEG_INFINITY, f64::max): a NaN is passed over
abbrev pub maximum_of : List Float → Float
maximum_of xs = fold max_of (inf true) xs

-- xs.iter().map(|&x| (x - m).exp()).sum(): from 0, in the list's order
abbrev pub add_shifted_exp : Float → Float → Float → Float
add_shifted_exp m s x = add s (exp_of (sub x m))

abbrev pub sum_exp_of : Float → List Float → Float
sum_exp_of m xs = fold (add_shifted_exp m) zero xs

-- -infinity of no terms, and where m is not finite
unfoldable pub log_sum_exp : List Float → Float
log_sum_exp xs =
    let m = maximum_of xs in
    cond (eqb (length xs) 0) (inf true) (cond (is_finite m) (add m (ln_of (sum_exp_of m xs))) (inf true))
