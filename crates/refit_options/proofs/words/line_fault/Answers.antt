-- One text and then another is one text. Assumes nothing.
use Rattle.text_buffer.specs.laws.Text.{wrote_then}
use Rattle.refit_options.specs.Words.{line_fault_text}
use Rattle.refit_options.proofs.words.line_fault.Goals as goal

pub returns-in-Some : goal.returns-in-Some
unfolding line_fault_text
returns-in-Some c = rw (c.in-Some.is, wrote_then, wrote_then, wrote_then) cc
