-- What stands are the first g canisters.
use Rattle.std.proofs.Common.{◌≡◌}
use Rattle.text_buffer.specs.Text.{wrote}
use Rattle.svg_axes.specs.Subject.{subject_lists}
use Rattle.svg_marks.specs.Escape.{each_text}
use Rattle.svg_picture.specs.Picture.{drawn_canister_text}
use Rattle.svg_picture.proofs.canisters.Given as goal

abbrev pub invariant-loop-g : goal.invariant-loop-g
invariant-loop-g l = l.out ≡ wrote l.initial.out (each_text (drawn_canister_text (subject_lists l.s) l.f) l.g)
