-- The lines of the names that are left make what is written so far the whole.
use Rattle.std.proofs.Common.{◌≡◌, drop, map}
use Rattle.text_buffer.specs.Text.{wrote}
use Rattle.refit_report.specs.Report.{value_lines}
use Rattle.refit_report.proofs.values_of.Given as goal

abbrev pub invariant-loop-name : goal.invariant-loop-name
invariant-loop-name l =
    wrote l.out (value_lines (map (λ w. w.now) (drop l.name-index l.names)) l.left) ≡ wrote l.initial.out (value_lines (map (λ w. w.now) l.names) l.values)
