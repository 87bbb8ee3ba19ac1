-- What stands and the spaces from place i on are all the spaces.
use Rattle.std.proofs.Common.{◌≡◌, ◌-◌}
use Rattle.text_buffer.specs.Text.{wrote}
use Rattle.text_lines.specs.Lines.{spaces}
use Rattle.text_lines.proofs.columns.pad.Given as goal

abbrev pub invariant-loop-i : goal.invariant-loop-i
invariant-loop-i l = wrote l.out (spaces (l.width - l._i)) ≡ wrote l.initial.out (spaces (l.width - l.n))
