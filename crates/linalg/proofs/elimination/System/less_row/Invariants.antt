-- The products that are left bring v to what all of them bring the first to.
use Rattle.std.proofs.Common.{◌≡◌, ◌+◌, length, fold, get_or}
use Rattle.std.specs.List.{zip}
use Rattle.std.specs.Float.{nan}
use Rattle.math.specs.Loops.{span}
use Rattle.linalg.specs.Elimination.{less_known}
use Rattle.linalg.proofs.Rows.{less_next}
use Rattle.linalg.proofs.elimination.System.less_row.Given as goal

abbrev pub invariant-loop-a : goal.invariant-loop-a
invariant-loop-a l =
    let row = l.a-iterator.a.rest.now in
    let x = l.a-iterator.b.rest.now in
    record {
      each : length x ≡ length row;
      so_far : fold less_next l.v (zip row x) ≡ span (less_known l.self.a l.fn.x l.i) (l.i + 1) l.n (get_or l.self.b l.i nan);
    }
