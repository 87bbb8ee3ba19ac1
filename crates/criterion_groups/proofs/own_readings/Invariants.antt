-- The readings that are left bring the own ones so far to all of them.
use Rattle.std.proofs.Common.{◌≡◌, ◌+◌, ◌≤◌, length}
use Rattle.std.specs.List.{fold, zip}
use Rattle.criterion_groups.specs.Groups.{own_of}
use Rattle.criterion_groups.proofs.Laws.{own_next}
use Rattle.criterion_groups.proofs.own_readings.Given as goal

abbrev pub invariant-loop-h : goal.invariant-loop-h
invariant-loop-h l =
    let groups = l.h-iterator.a.rest.now in
    let list = l.h-iterator.b.rest.now in
    record {
      each : length groups ≤ length list;
      fits : length l.own.items + length groups ≤ 512;
      so_far : fold (own_next l.g) l.own.items (zip groups list) ≡ own_of l.groups l.g l.list;
    }
