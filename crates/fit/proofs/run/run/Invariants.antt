-- i rounds have begun, and x is the state from which the next one goes, with its sums and curves.
use mathlib.Core.Path.{◌≡◌}
use Prim.Native.Nat.{◌-◌, ◌*◌, ◌≤◌}
use lib.ListN.{length}
use Rattle.fit_refusals.specs.Given.{checked}
use Rattle.fit_penalized.specs.Penalized.{Means}
use Rattle.fit_round.specs.Rounds.{evaluated_of}
use Rattle.fit_round.specs.Steps.{result_of}
use Rattle.fit.specs.Fit.{rounds}
use Rattle.fit.specs.Steps.{fit_run}
use Rattle.fit.proofs.run.run.Given as goal

abbrev pub invariant-loop-i : goal.invariant-loop-i
invariant-loop-i l =
    let q = checked l.q in
    record {
      few : l.trials ≤ 240 * l.i;
      long : length l.d ≡ length l.initial.d;
      sums : l.x ≡ evaluated_of q l.x.state;
      curves : Means q l.x.state l.means;
      whole : result_of q l.x.state l.i l.trials (rounds q (l.allowed - l.i) l.x.state l.lambda) ≡ fit_run q l.allowed;
    }
