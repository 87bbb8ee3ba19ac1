-- What is left of the definition ends as the whole does, whatever went before and whatever follows on a win.
use mathlib.Core.Path.{◌≡◌}
use Prim.Native.Nat.{ℕ, ◌+◌, ◌-◌, ◌*◌, ◌≤◌}
use lib.Ieee.{Float}
use lib.ListN.{length}
use Rattle.fit_refusals.specs.Given.{checked}
use Rattle.fit_step.specs.declared.State.{State}
use Rattle.fit_round.specs.declared.End.TheVariants.{Lost}
use Rattle.fit_round.specs.Round.{Trace, lengths, attempts}
use Rattle.fit_round.specs.Steps.{result_of}
use Rattle.fit_round.proofs.round.Given as goal

abbrev pub invariant-attempts : goal.invariant-attempts
invariant-attempts l =
    let q = checked l.q in
    let s = l.x.state in
    record {
      few : l.trials ≤ 20 * l.attempt;
      lost : l.end ≡ Lost;
      long : length l.d ≡ length l.initial.d;
      whole : (win : State → Float → Float → Trace) (r u : ℕ)
          → result_of q s r (u + l.trials) (attempts q s l.n l.x.sum win (12 - l.attempt) l.lambda) ≡ result_of q s r u (attempts q s l.n l.x.sum win 12 l.first);
    }

abbrev pub invariant-loop-t : goal.invariant-loop-t
invariant-loop-t l =
    let q = checked l.q in
    let s = l.x.state in
    record {
      few : l.trials ≡ l.initial.trials + l.t;
      lost : l.end ≡ Lost;
      whole : (win : State → Float → Float → Trace) (r u : ℕ)
          → result_of q s r (u + l.trials) (lengths q s l.n l.x.sum win (20 - l.t) (λ m. attempts q s l.n l.x.sum win (12 - (l.attempt + 1)) m) l.d l.lambda l.alpha)
          ≡ result_of q s r u (attempts q s l.n l.x.sum win 12 l.first);
    }
