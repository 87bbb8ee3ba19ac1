-- A number that has reached the limit only grows. Assumes nothing.
use Rattle.std.proofs.Common.{◌+◌, arith, add-one, drop, drop-cons}
use Rattle.read_decimal.specs.Scan.{digits_value_from}
use Rattle.read_decimal.proofs.NumberLaws.{capped_from, grows}
use Rattle.read_decimal.proofs.scan.number.Goals as goal

pub loop-b-preserved : goal.loop-b-preserved
unfolding digits_value_from
loop-b-preserved c =
    let i = c.loop-b.b-index in
    let w = c.args.digits.now in
    (omega arith, rw (c.min-m-in-loop-b.ensures, c.from.ensures, c.saturating_sub.ensures, capped_from _ (drop (i + 1) w), add-one i) (rw (drop-cons w i 0 c.loop-b-test.true) at c.loop-b.invariant.1))

pub returns-then-m-eq-LIMIT : goal.returns-then-m-eq-LIMIT
returns-then-m-eq-LIMIT c =
    let w = drop c.loop-b.b-index c.args.digits.now in
    omega (arith, c.loop-b.invariant.1, c.if-m-eq-LIMIT.true, grows c.loop-b.m w)
