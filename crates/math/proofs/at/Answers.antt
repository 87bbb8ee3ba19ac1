-- Past the end is the library's NaN, which is the definition's.
use Rattle.std.proofs.Common.{arith}
use lib.Ieee.{nan}
use Rattle.math.proofs.Basic.{nan_lem}
use Rattle.math.proofs.at.Goals as goal

pub returns : goal.returns
returns c = rw (c.unwrap_or.ensures, c.copied.ensures, nan_lem) (c.get.ensures.lookup.4 (omega arith) nan)
