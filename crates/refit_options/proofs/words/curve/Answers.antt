-- One text and then another is one text. Assumes nothing.
use Rattle.text_buffer.specs.laws.Text.{wrote_then}
use Rattle.refit_options.specs.Words.{curve_equation_text}
use Rattle.refit_options.proofs.words.curve.Goals as goal

pub returns : goal.returns
unfolding curve_equation_text
returns c = rw (wrote_then, wrote_then) cc
