-- What stands are the first i values.
use Rattle.std.proofs.Common.{◌≡◌}
use Rattle.text_buffer.specs.Text.{wrote}
use Rattle.svg_axes.specs.Subject.{subject_lists}
use Rattle.svg_marks.specs.Escape.{each_text}
use Rattle.refit_tables.specs.Tables.{own_text}
use Rattle.refit_tables.proofs.own_values.Given as goal

abbrev pub invariant-loop-i : goal.invariant-loop-i
invariant-loop-i l = l.out ≡ wrote l.initial.out (each_text (own_text (subject_lists l.s) l.effect) l.i)
