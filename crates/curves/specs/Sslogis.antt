-- Curve 1 (sslogis.rs): a / (1 + exp((xmid - x) / scal)), each operation rounded once in the source's order.
use Rattle.std.specs.Prelude.{◌&&◌, cond, Float}
use Rattle.std.specs.Float.Ieee.{le, eq, neg}
use Rattle.math.specs.Basic.{add, sub, mul, div, zero, one, abs_of, is_infinite}
use Rattle.math.specs.Exp.{exp_of}
use Rattle.curves.specs.declared.Mean.{Mean}
use Rattle.curves.specs.declared.sslogis.Logistic.{Logistic}

-- `logistic_parts`, with e = exp(-|t|): at or above 0 the fraction is e / (1 + e), below 0 and at a NaN it is 1 / (1 + e); the complement is the other, and
-- the slope is their product
unfoldable pub parts_of : Float → Logistic
parts_of t =
    let e = exp_of (neg (abs_of t)) in
    let denom = add one e in
    let small = div e denom in
    let large = div one denom in
    cond (le zero t) (record { fraction = small; complement = large; slope = mul small large })
    (record { fraction = large; complement = small; slope = mul small large })

-- the gradient by scal: +0 where t is infinite and the slope is a zero
unfoldable pub scal_gradient : Float → Float → Float → Float
scal_gradient t slope scaled = cond (is_infinite t && eq slope zero) zero (mul scaled t)

-- `sslogis_eval`
unfoldable pub sslogis_of : Float → Float → Float → Float → Mean
sslogis_of a xmid scal x =
    let t = div (sub xmid x) scal in
    let parts = parts_of t in
    let scaled = div (mul a parts.slope) scal in
    record { mu = mul a parts.fraction; d0 = parts.fraction; d1 = neg scaled; d2 = scal_gradient t parts.slope scaled; d3 = zero }
