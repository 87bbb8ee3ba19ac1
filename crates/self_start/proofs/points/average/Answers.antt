-- What a turn does to the invariant is in `proofs/Loops.antt`.
use Rattle.std.proofs.Common.{◌<◌, length, sym, ◌∙◌, arith}
use borrow.Author.Tests.{eqb-false}
use Rattle.self_start.proofs.Loops.{turn_near, turn_far, turn_end}
use Rattle.self_start.proofs.points.average.Goals as goal
use Rattle.self_start.proofs.points.average.Goals.{then-near, else-near}

pub loop-i-preserved : goal.loop-i-preserved
loop-i-preserved c =
    let t = c.loop-i in
    let v = t.invariant in
    elim c.if-near.branch [
      | then-near w ↦ rw (w.readings-is, w.run-is, w.n-is) (record {
        before = omega (arith, v.before);
        counted = omega (arith, v.counted);
        so_far = turn_near _ _ _ _ _ _ _ v.so_far (omega arith) (sym c.near.ensures ∙ w.if-near.true);
      })
      | else-near w ↦ rw (w.readings-is, w.run-is, w.n-is, w.point.ensures, w.new-run-else-near.ensures) (record {
        before = omega (arith, v.before);
        counted = omega (arith, t.auto.i);
        so_far = turn_far _ _ _ _ _ _ _ v.so_far v.before (omega arith) (sym c.near.ensures ∙ w.if-near.false);
      })
    ]

pub returns : goal.returns
returns c =
    let t = c.loop-i in
    let some : 0 < length c.args.readings.now = omega (arith, eqb-false _ 0 (sym c.is_empty.ensures ∙ c.if-is_empty.false)) in
    rw c.point-2.ensures (turn_end _ _ _ _ _ _ _ t.invariant.so_far (omega (arith, t.invariant.before, some)) (omega (arith, some)))
