-- The texts of the definition, one by one.
use Rattle.text_buffer.specs.laws.Text.{joined_none, joined_then}
use Rattle.refit_report.specs.Report.{warnings_section_text}
use Rattle.refit_report.proofs.all_warnings.Goals as goal

pub returns : goal.returns
unfolding warnings_section_text
returns c = simp (joined_then, joined_none) (cc)
