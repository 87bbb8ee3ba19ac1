-- The texts of the definition, one by one.
use Rattle.text_buffer.specs.laws.Text.{joined_none, joined_then}
use Rattle.refit_report.specs.Report.{report_curve_text}
use Rattle.refit_report.proofs.curve_of_all.Goals as goal

pub returns : goal.returns
unfolding report_curve_text
returns c = simp (joined_then, joined_none) (cc)
