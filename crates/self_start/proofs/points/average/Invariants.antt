-- The points written so far, with what the open run and the readings after it give, are all the points.
use Rattle.std.proofs.Common.{◌≡◌, ◌≤◌, ◌<◌, ◌++◌, take, drop}
use Rattle.self_start.specs.Points.{points_of_run, averaged_of}
use Rattle.self_start.proofs.points.average.Given as goal

abbrev pub invariant-loop-i : goal.invariant-loop-i
invariant-loop-i l = record {
  before : l.n < l.i;
  counted : l.run.count ≤ l.i;
  so_far : take l.n l.readings ++ points_of_run l.run.dose l.run.sum l.run.count (drop l.i l.readings) ≡ averaged_of l.initial.readings;
}
