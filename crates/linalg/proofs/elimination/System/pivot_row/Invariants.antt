-- best is the pivot's row among those from i up to r.
use Rattle.std.proofs.Common.{◌≡◌, ◌<◌, ◌+◌}
use Rattle.math.specs.Loops.{span}
use Rattle.linalg.specs.Elimination.{better}
use Rattle.linalg.proofs.elimination.System.pivot_row.Given as goal

abbrev pub invariant-loop-r : goal.invariant-loop-r
invariant-loop-r l = (l.best < l.n) × (l.best ≡ span (better l.self.a l.i) (l.i + 1) l.r l.i)
