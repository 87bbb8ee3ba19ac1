-- Least and most over what is left, from those so far, are those of the whole list.
use Rattle.std.proofs.Common.{◌≡◌, drop}
use Rattle.std.specs.List.{fold}
use Rattle.math.specs.Basic.{max_of, min_of}
use Rattle.self_start.specs.Points.{seconds, most_of, least_of}
use Rattle.self_start.proofs.points.range_of.Given as goal

abbrev pub invariant-loop-gram : goal.invariant-loop-gram
invariant-loop-gram l =
    (fold min_of l.least (seconds (drop l.gram-index l.points.list.now)) ≡ least_of (seconds l.points.list.now))
    × (fold max_of l.most (seconds (drop l.gram-index l.points.list.now)) ≡ most_of (seconds l.points.list.now))
