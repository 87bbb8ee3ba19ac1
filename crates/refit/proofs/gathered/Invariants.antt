-- The words so far lie in the room. Assumes nothing.
use Rattle.std.proofs.Common.{◌≤◌, length}
use Rattle.refit.proofs.gathered.Given as goal

abbrev pub invariant-loop-i : goal.invariant-loop-i
invariant-loop-i g l = l.at ≤ length l.words
