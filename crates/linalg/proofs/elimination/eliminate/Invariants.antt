-- The first i columns are cleared, each with a pivot that is not zero.
use Rattle.std.proofs.Common.{◌≡◌, Some}
use Rattle.linalg.specs.Loops.{tries}
use Rattle.linalg.specs.Elimination.{column_of}
use Rattle.linalg.proofs.elimination.eliminate.Given as goal

abbrev pub invariant-loop-i : goal.invariant-loop-i
invariant-loop-i l = Some l.s ≡ tries (column_of l.n) l.i l.initial.s
