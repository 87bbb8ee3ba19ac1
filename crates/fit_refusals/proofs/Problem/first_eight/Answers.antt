-- Each test that is passed answers one of the eight definitions. Assumes nothing.
use mathlib.Core.Path.{sym}
use Rattle.fit_refusals.specs.laws.Codes.{known}
use Rattle.fit_refusals.proofs.Laws.{passed}
use Rattle.fit_refusals.proofs.Problem.first_eight.Goals as goal

pub invariant_of-result : goal.invariant_of-result
invariant_of-result c =
    let p = c.n_params-p.ensures in
    record {
      valid = passed _ (known c.in_ok-curve.curve) (sym c.if-bad_readings.ensures) (sym c.if-bad_groups.ensures) (sym c.if-not-all_below.ensures)
          (sym (rw p at c.if-bad_effects.ensures)) (sym (rw p at c.if-bad_lengths.ensures)) (sym c.if-bad_numbers.ensures) (sym c.if-bad_order.ensures);
    }
