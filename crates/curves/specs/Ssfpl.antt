-- Curve 4 (ssfpl.rs): a + (b - a) / (1 + exp((xmid - x) / scal)), each operation rounded once in the source's order.
use Rattle.std.specs.Prelude.{Float}
use Rattle.std.specs.Float.Ieee.{neg}
use Rattle.math.specs.Basic.{add, sub, mul, div}
use Rattle.curves.specs.declared.Mean.{Mean}
use Rattle.curves.specs.Sslogis.{parts_of, scal_gradient}

-- `ssfpl_eval`
unfoldable pub ssfpl_of : Float → Float → Float → Float → Float → Mean
ssfpl_of a b xmid scal x =
    let z = div (sub xmid x) scal in
    let parts = parts_of z in
    let scaled = div (mul (sub b a) parts.slope) scal in
    record {
      mu = add a (mul (sub b a) parts.fraction);
      d0 = parts.complement;
      d1 = parts.fraction;
      d2 = neg scaled;
      d3 = scal_gradient z parts.slope scaled;
    }
