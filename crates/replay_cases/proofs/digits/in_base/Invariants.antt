-- The digits that are left, after those that make n, say the word's number.
use Rattle.std.proofs.Common.{◌≡◌, ◌<◌, ◌^◌, drop}
use Rattle.replay_cases.specs.Digits.{in_base_from, in_base_of}
use Rattle.replay_cases.proofs.digits.in_base.Given as goal

abbrev pub invariant-loop-b : goal.invariant-loop-b
invariant-loop-b l = (l.n < 2 ^ 64) × (in_base_from l.base l.n (drop l.b-index l.w) ≡ in_base_of l.base l.w)
