-- The texts of the definition, one by one.
use Rattle.text_buffer.specs.laws.Text.{joined_none, joined_then}
use Rattle.refit_warnings.specs.Told.{warning_line_text}
use Rattle.refit_warnings.proofs.told.line.Goals as goal

pub returns : goal.returns
unfolding warning_line_text
returns c = simp (joined_then, joined_none) (cc)
