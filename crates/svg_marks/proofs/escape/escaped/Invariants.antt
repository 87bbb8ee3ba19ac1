-- What stands are the bytes so far, each escaped.
use Rattle.std.proofs.Common.{◌≡◌, take}
use Rattle.std.specs.List.{flat_map}
use Rattle.text_buffer.specs.Text.{wrote}
use Rattle.svg_marks.specs.Escape.{escaped_byte}
use Rattle.svg_marks.proofs.escape.escaped.Given as goal

abbrev pub invariant-loop-b : goal.invariant-loop-b
invariant-loop-b l = l.out ≡ wrote l.initial.out (flat_map escaped_byte (take l.b-index l.text))
