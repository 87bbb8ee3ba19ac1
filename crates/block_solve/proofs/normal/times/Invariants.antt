-- The effects that are left bring t to what all of them bring 0 to.
use Rattle.std.proofs.Common.{◌≡◌, ◌≤◌, length, fold}
use Rattle.std.specs.List.{zip}
use Rattle.block_solve.specs.Normal.{times_of}
use Rattle.block_solve.proofs.Rows.{times_next}
use Rattle.block_solve.proofs.normal.times.Given as goal

abbrev pub invariant-loop-x : goal.invariant-loop-x
invariant-loop-x l =
    let b = l.x-iterator.a.rest.now in
    let row = l.x-iterator.b.rest.now in
    record {
      each : length b ≤ length row;
      so_far : fold times_next l.t (zip b row) ≡ times_of l.fn.m l.i l.b;
    }
