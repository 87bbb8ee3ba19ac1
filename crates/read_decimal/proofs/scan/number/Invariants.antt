-- The digits left continue m to what all digits make of n, up to the limit.
use Rattle.std.proofs.Common.{◌≡◌, ◌≤◌, drop}
use Rattle.read_decimal.specs.Scan.{digits_value_from, capped_value, limit}
use Rattle.read_decimal.proofs.scan.number.Given as goal

abbrev pub invariant-loop-b : goal.invariant-loop-b
invariant-loop-b l = (l.m ≤ limit) × (capped_value (digits_value_from l.m (drop l.b-index l.digits)) ≡ capped_value (digits_value_from l.n l.digits))
