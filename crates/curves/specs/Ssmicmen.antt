-- Curve 3 (ssmicmen.rs): vmax * (x / (k + x)), each operation rounded once in the source's order.
use Rattle.std.specs.Prelude.{Bool, ◌&&◌, cond, Float}
use Rattle.std.specs.Float.Ieee.{neg}
use Rattle.math.specs.Basic.{add, mul, div, zero, one, abs_of, max_of, is_finite, is_infinite}
use Rattle.curves.specs.declared.Mean.{Mean}

-- `ssmicmen_eval` from the fraction on, where k + x is scale * denom
unfoldable pub micmen_of : Float → Float → Float → Float → Mean
micmen_of vmax fraction scale denom =
    let mu = mul vmax fraction in
    record { mu = mu; d0 = fraction; d1 = div (neg (div mu scale)) denom; d2 = zero; d3 = zero }

-- the sum is infinite and neither operand is
unfoldable pub overflow_of : Float → Float → Bool
overflow_of k x = is_infinite (add k x) && is_finite k && is_finite x

-- `ssmicmen_eval`: only a sum that overflows is scaled, by the larger size
unfoldable pub ssmicmen_of : Float → Float → Float → Mean
ssmicmen_of vmax k x =
    let denom = add k x in
    let scale = max_of (abs_of k) (abs_of x) in
    let scaled = add (div k scale) (div x scale) in
    cond (overflow_of k x) (micmen_of vmax (div (div x scale) scaled) scale scaled) (micmen_of vmax (div x denom) one denom)
