-- What stands are the marks of the first i readings.
use Rattle.std.proofs.Common.{◌≡◌, slice_index_or}
use Rattle.std.specs.Prelude.{slice_index}
use Rattle.std.specs.Float.{nan}
use Rattle.text_buffer.specs.Text.{wrote}
use Rattle.svg_marks.specs.Escape.{each_text}
use Rattle.svg_series.specs.Canister.{reading_text}
use Rattle.svg_series.proofs.series.marks.Given as goal

abbrev pub invariant-loop-i : goal.invariant-loop-i
invariant-loop-i l =
    l.out
    ≡ wrote l.initial.out (each_text (λ k. reading_text l.f l.g (slice_index l.s.groups.now k) (slice_index_or l.s.doses.now k nan) (slice_index_or l.s.grams.now k nan)) l.i)
