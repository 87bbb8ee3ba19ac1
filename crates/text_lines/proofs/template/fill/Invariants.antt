-- What stands and what is left of the template, with the numbers that are left, are the whole text.
use Rattle.std.proofs.Common.{◌≡◌, false}
use Rattle.std.specs.Slice.Iter.{iter_rest}
use Rattle.text_buffer.specs.Text.{wrote}
use Rattle.text_lines.specs.Lines.{fill_from, template_text}
use Rattle.text_lines.proofs.template.fill.Given as goal

abbrev pub invariant-loop-b : goal.invariant-loop-b
invariant-loop-b l =
    wrote l.out (fill_from false (iter_rest l.bytes) (iter_rest l.wholes) (iter_rest l.floats))
    ≡ wrote l.initial.out (template_text l.template l.fn.wholes l.fn.floats)
