-- The lines left make of what was read what all lines make; each turn goes on in the text.
use Rattle.std.proofs.Common.{◌≡◌, ◌-◌, ◌≤◌, length}
use Rattle.read_table.specs.Table.{table_lists, table_state, lines_of, table_of, CountsInBounds}
use Rattle.read_table.proofs.read_table.Given as goal

abbrev pub invariant-loop-p : goal.invariant-loop-p
invariant-loop-p l = record {
  same_end : lines_of (length l.text) l.text (table_state l.p l.doses l.grams l.groups l.names) ≡ table_of l.fn.text l.fn.doses l.fn.grams l.fn.groups l.fn.names;
  in_bounds : CountsInBounds (table_lists l.p.read l.doses l.grams l.groups l.names);
  few_lines : l.p.read.lines ≤ l.p.at;
}

abbrev pub decreases-loop-p : goal.decreases-loop-p
decreases-loop-p l = length l.text - l.p.at
