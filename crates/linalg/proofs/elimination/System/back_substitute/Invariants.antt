-- What the i rows still to come make of x is the whole back substitution.
use Rattle.std.proofs.Common.{◌≡◌}
use Rattle.linalg.specs.Loops.{down}
use Rattle.linalg.specs.Elimination.{known, back_of}
use Rattle.linalg.proofs.elimination.System.back_substitute.Given as goal

abbrev pub invariant-loop-i : goal.invariant-loop-i
invariant-loop-i l = down (known l.n l.self) l.i l.x ≡ back_of l.n l.self
