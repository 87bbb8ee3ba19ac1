-- What stands and the last k digits are all d decimals.
use Rattle.std.proofs.Common.{◌≡◌}
use Rattle.text_buffer.specs.Text.{wrote}
use Rattle.text_floats.specs.Floats.{last_digits}
use Rattle.text_floats.proofs.fraction.Given as goal

abbrev pub invariant-loop-k : goal.invariant-loop-k
invariant-loop-k l = wrote l.out (last_digits l.k l.v.n) ≡ wrote l.initial.out (last_digits l.v.d l.v.n)
