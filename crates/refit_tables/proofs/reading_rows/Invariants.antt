-- What stands are the rows of the first i readings.
use Rattle.std.proofs.Common.{◌≡◌}
use Rattle.std.specs.Prelude.{slice_index}
use Rattle.text_buffer.specs.Text.{wrote}
use Rattle.svg_axes.specs.Subject.{subject_lists}
use Rattle.svg_marks.specs.Escape.{each_text}
use Rattle.refit_tables.specs.Tables.{reading_row}
use Rattle.refit_tables.proofs.reading_rows.Given as goal

abbrev pub invariant-loop-i : goal.invariant-loop-i
invariant-loop-i l = l.out ≡ wrote l.initial.out (each_text (λ k. reading_row (subject_lists l.s) l.d (slice_index l.s.groups.now k) k) l.i)
