-- What stands are the first j points.
use Rattle.std.proofs.Common.{◌≡◌}
use Rattle.text_buffer.specs.Text.{wrote}
use Rattle.svg_axes.specs.Subject.{subject_lists}
use Rattle.svg_marks.specs.Escape.{each_text}
use Rattle.svg_series.specs.Canister.{vertex_text}
use Rattle.svg_series.proofs.series.vertices.Given as goal

abbrev pub invariant-loop-j : goal.invariant-loop-j
invariant-loop-j l = l.out ≡ wrote l.initial.out (each_text (vertex_text (subject_lists l.s) l.f l.g) l.j)
