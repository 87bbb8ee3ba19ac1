-- The entries of row r from column i up to j are cleared; the right-hand side is as it was.
use Rattle.std.proofs.Common.{◌≡◌}
use Rattle.math.specs.Loops.{span}
use Rattle.linalg.specs.Elimination.{less_at}
use Rattle.linalg.proofs.elimination.System.clear_row.Given as goal

abbrev pub invariant-loop-j : goal.invariant-loop-j
invariant-loop-j l = (l.self.a ≡ span (less_at l.i l.r l.f) l.i l.j l.initial.self.a) × (l.self.b ≡ l.initial.self.b)
