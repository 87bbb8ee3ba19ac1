-- What stands are the first i ticks.
use Rattle.std.proofs.Common.{◌≡◌}
use Rattle.text_buffer.specs.Text.{wrote}
use Rattle.svg_marks.specs.Escape.{each_text}
use Rattle.svg_picture.specs.Framing.{tick_text}
use Rattle.svg_picture.proofs.framing.ticks.Given as goal

abbrev pub invariant-loop-i : goal.invariant-loop-i
invariant-loop-i l = l.out ≡ wrote l.initial.out (each_text (tick_text l.a l.way) l.i)
