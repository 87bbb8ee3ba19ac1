-- The rows from i + 1 up to r are cleared.
use Rattle.std.proofs.Common.{◌≡◌, ◌+◌}
use Rattle.math.specs.Loops.{span}
use Rattle.linalg.specs.Elimination.{clear_row}
use Rattle.linalg.proofs.elimination.System.clear_column.Given as goal

abbrev pub invariant-loop-r : goal.invariant-loop-r
invariant-loop-r l = l.self ≡ span (clear_row l.n l.i) (l.i + 1) l.r l.initial.self
