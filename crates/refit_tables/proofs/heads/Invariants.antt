-- The names so far are written.
use Rattle.std.proofs.Common.{◌≡◌, take}
use Rattle.std.specs.List.{flat_map}
use Rattle.text_buffer.specs.Text.{wrote}
use Rattle.text_lines.specs.Lines.{right_text}
use Rattle.refit_tables.proofs.heads.Given as goal

abbrev pub invariant-loop-name : goal.invariant-loop-name
invariant-loop-name l = l.out ≡ wrote l.initial.out (flat_map (λ w. right_text 13 w.now) (take l.name-index l.names))
