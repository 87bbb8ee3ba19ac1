-- Curve 2 (ssasymp.rs): asym - (asym - r0) * exp(-exp(lrc) * x), each operation rounded once in the source's order.
use Rattle.std.specs.Prelude.{Float}
use Rattle.std.specs.Float.Ieee.{neg}
use Rattle.math.specs.Basic.{sub, mul, zero, one}
use Rattle.math.specs.Exp.{exp_of}
use Rattle.curves.specs.declared.Mean.{Mean}

-- `ssasymp_eval`
unfoldable pub ssasymp_of : Float → Float → Float → Float → Mean
ssasymp_of asym r0 lrc x =
    let k = exp_of lrc in
    let e = exp_of (mul (neg k) x) in
    record { mu = sub asym (mul (sub asym r0) e); d0 = sub one e; d1 = e; d2 = mul (mul (mul (sub asym r0) x) k) e; d3 = zero }
