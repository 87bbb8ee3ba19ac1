-- What stands are the rows of the first g canisters.
use Rattle.std.proofs.Common.{◌≡◌}
use Rattle.text_buffer.specs.Text.{wrote}
use Rattle.svg_axes.specs.Subject.{subject_lists}
use Rattle.svg_marks.specs.Escape.{each_text}
use Rattle.refit_tables.specs.Tables.{canister_row}
use Rattle.refit_tables.proofs.canister_rows.Given as goal

abbrev pub invariant-loop-g : goal.invariant-loop-g
invariant-loop-g l = l.out ≡ wrote l.initial.out (each_text (canister_row (subject_lists l.s)) l.g)
