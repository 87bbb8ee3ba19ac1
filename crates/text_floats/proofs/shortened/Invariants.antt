-- Shortening n and d as they are gives what shortening them at the start gives; d falls.
use Rattle.std.proofs.Common.{◌≡◌, ◌≤◌}
use Rattle.text_floats.specs.Floats.{shortened}
use Rattle.text_floats.proofs.shortened.Given as goal

abbrev pub invariant-loop-d : goal.invariant-loop-d
invariant-loop-d l = (l.d ≤ l.initial.d) × (shortened l.n l.d ≡ shortened l.initial.n l.initial.d)

abbrev pub decreases-loop-d : goal.decreases-loop-d
decreases-loop-d l = l.d
