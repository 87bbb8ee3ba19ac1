-- The columns that are left bring t to what all of them bring 0 to.
use Rattle.std.proofs.Common.{◌≡◌, ◌≤◌, length, fold}
use Rattle.std.specs.List.{zip}
use Rattle.group_blocks.specs.Components.{columns_times}
use Rattle.group_blocks.proofs.Laws.{columns_next}
use Rattle.group_blocks.proofs.Solution.columns_times.Given as goal

abbrev pub invariant-loop-a : goal.invariant-loop-a
invariant-loop-a l =
    let columns = l.a-iterator.a.rest.now in
    let x = l.a-iterator.b.rest.now in
    record {
      each : length columns ≤ length x;
      so_far : fold columns_next l.t (zip columns x) ≡ columns_times l.self.columns l.fn.x l.fn.shape.p;
    }
