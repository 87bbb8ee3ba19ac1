-- The first j entries of the two rows have changed places; the right-hand side is as it was.
use Rattle.std.proofs.Common.{◌≡◌}
use Rattle.math.specs.Loops.{span}
use Rattle.linalg.specs.Elimination.{swap_column}
use Rattle.linalg.proofs.elimination.System.swap_rows.Given as goal

abbrev pub invariant-loop-j : goal.invariant-loop-j
invariant-loop-j l = (l.self.a ≡ span (swap_column l.i l.q) 0 l.j l.initial.self.a) × (l.self.b ≡ l.initial.self.b)
