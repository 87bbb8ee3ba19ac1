-- The texts of the definition, one by one.
use Rattle.text_buffer.specs.laws.Text.{joined_none, joined_then}
use Rattle.refit_report.specs.Report.{report_beginning_text}
use Rattle.refit_report.proofs.beginning.beginning.Goals as goal

pub returns : goal.returns
unfolding report_beginning_text
returns c = simp (joined_then, joined_none) (cc)
