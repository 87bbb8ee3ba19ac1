-- What stands and the lines of the warnings left are the lines of all.
use Rattle.std.proofs.Common.{◌≡◌, drop}
use Rattle.text_buffer.specs.Text.{wrote}
use Rattle.refit_warnings.specs.Warnings.{findings_lists}
use Rattle.refit_warnings.specs.Told.{warning_lines_for}
use Rattle.refit_warnings.proofs.told.lines_for.Given as goal

abbrev pub invariant-loop-warning : goal.invariant-loop-warning
invariant-loop-warning l = wrote l.out (warning_lines_for (findings_lists l.f) (drop l.warning-index l.warnings)) ≡ wrote l.initial.out (warning_lines_for (findings_lists l.f) l.warnings)
