-- The effects that are left bring the values reached so far to what all of them bring the first values to.
use Rattle.std.proofs.Common.{◌≡◌, length}
use Rattle.curves.specs.MeanFn.{effective_of}
use Rattle.curves.proofs.mean_fn.effective.Given as goal

abbrev pub invariant-loop-i : goal.invariant-loop-i
invariant-loop-i l =
    (length l.v ≡ 4) × (effective_of l.i-iterator.a.rest.now l.i-iterator.b.rest.now l.v ≡ effective_of l.places l.effects l.initial.v)
