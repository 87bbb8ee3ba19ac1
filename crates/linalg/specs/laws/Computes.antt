-- `unfolding linalg_computes` opens all that a solution, an inverse or a factor is computed by.
use Rattle.std.specs.Float.Ieee as Ieee
use Rattle.math.specs.Basic.{abs_of}
use Rattle.math.specs.laws.Computes.{sqrt_computes}
use Rattle.math.specs.Loops.{from}
use Rattle.linalg.specs.Loops.{down, tries}
use Rattle.linalg.specs.laws.Steps.{pair_steps, elimination_steps}

unfoldable pub linalg_computes : Unit {0}
unfolding sqrt_computes abs_of Ieee.add Ieee.sub Ieee.mul Ieee.div Ieee.neg Ieee.eq Ieee.lt Ieee.of_bits from down tries elimination_steps pair_steps
linalg_computes = tt
