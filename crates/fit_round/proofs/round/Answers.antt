-- A round goes through its attempts and lengths as the definition does; the first winner leaves both. Assumes nothing.
use mathlib.Core.Path.{◌≡◌, refl, sym, ap, ◌∙◌}
use mathlib.Core.Bool.{true, false, cond}
use Prim.Native.Nat.{◌+◌}
use native.Mathlib.Omega.{arith}
use Rattle.std.specs.Prelude.{Some, None}
use Rattle.fit_refusals.specs.Problem.{Problem}
use Rattle.fit_refusals.specs.Given.{checked}
use Rattle.fit_penalized.specs.Penalized.{penalized_rss}
use Rattle.fit_round.specs.declared.Evaluated.{Evaluated}
use Rattle.fit_round.specs.Rounds.{evaluated_of}
use Rattle.fit_round.specs.Round.{direction}
use Rattle.fit_round.specs.laws.Rounds.{evaluated_sum}
use Rattle.fit_round.specs.laws.Steps.{attempts_done, attempts_none, attempts_near, attempts_try, lengths_done, lengths_win, lengths_lose}
use Rattle.fit_round.proofs.Found.{direction_found}
use Rattle.fit_round.proofs.round.Goals as goal
use Rattle.fit_round.proofs.round.Goals.{After-solve}

-- what `solve` answers and leaves is the definition's direction
found : (c : After-solve) → direction (checked c.args.q.now) c.args.n c.attempts.lambda ≡ cond c.solve.result (Some c.solve.new.out) None
found c =
    direction_found (checked c.args.q.now) c.args.q.now.valid c.args.n c.attempts.lambda c.solve.new.out c.attempts.d c.solve.result
    (c.attempts.invariant.long ∙ c.requires) (rw c.n_params-p.ensures at c.solve.ensures)

none : (c : After-solve) → c.solve.result ≡ false → direction (checked c.args.q.now) c.args.n c.attempts.lambda ≡ None
none c h = found c ∙ rw h refl

some : (c : After-solve) → c.solve.result ≡ true → direction (checked c.args.q.now) c.args.n c.attempts.lambda ≡ Some c.solve.new.out
some c h = found c ∙ rw h refl

-- the sum that a trial is decided by is its state's
sum_of_lem : (q : Problem) (y : Evaluated) → y ≡ evaluated_of q y.state → y.sum ≡ penalized_rss q y.state
sum_of_lem q y e = ap (λ (z : Evaluated). z.sum) e ∙ evaluated_sum q y.state

pub attempts-init : goal.attempts-init
attempts-init c = record { few = omega arith; lost = refl; long = refl; whole = λ win r u. let e : u + 0 ≡ u = omega arith in rw e }

pub returns-then-not-solve-clause-comes : goal.returns-then-not-solve-clause-comes
returns-then-not-solve-clause-comes c =
    let A = c.attempts in
    let d = none (goal.at.returns-then-not-solve-clause-comes c).After-solve c.if-not-solve.true in
    λ win r u. sym (A.invariant.whole win r u) ∙ attempts_none _ _ _ _ win r (u + A.trials) 12 A.attempt A.lambda c.attempts-test.true d

pub returns-then-largest-clause-comes : goal.returns-then-largest-clause-comes
returns-then-largest-clause-comes c =
    let A = c.attempts in
    let d = some (goal.at.returns-then-largest-clause-comes c).After-solve c.if-not-solve.false in
    λ win r u. sym (A.invariant.whole win r u) ∙ attempts_near _ _ _ _ win r (u + A.trials) 12 A.attempt A.lambda _ _ c.attempts-test.true d c.largest.ensures c.if-largest.true

pub loop-t-init : goal.loop-t-init
loop-t-init c =
    let A = c.attempts in
    let d = some (goal.at.loop-t-init c).After-solve c.if-not-solve.false in
    record {
      few = omega arith;
      lost = A.invariant.lost;
      whole = λ win r u.
          sym (attempts_try _ _ _ _ win r (u + A.trials) 12 A.attempt A.lambda _ _ c.attempts-test.true d c.largest.ensures c.if-largest.false)
          ∙ A.invariant.whole win r u;
    }

pub loop-t-preserved : goal.loop-t-preserved
loop-t-preserved c =
    let M = c.loop-t in
    record {
      few = omega (arith, M.invariant.few);
      lost = M.invariant.lost;
      whole = λ win r u.
          let e : u + (M.trials + 1) ≡ u + M.trials + 1 = omega arith in
          rw e (sym (lengths_lose _ _ _ _ win r (u + M.trials) _ _ _ 20 M.t M.alpha c.evaluate_state-y.result c.loop-t-test.true (c.evaluate_state-y.ensures.same ∙ c.try_step.ensures) (sum_of_lem _ _ c.evaluate_state-y.ensures.sums) c.if-y-x.false) ∙ M.invariant.whole win r u);
    }

pub attempts-preserved : goal.attempts-preserved
attempts-preserved c =
    let M = c.loop-t in
    record {
      few = omega (arith, M.invariant.few, c.attempts.invariant.few, M.auto.t-end);
      lost = M.invariant.lost;
      long = c.solve.auto.out ∙ c.attempts.invariant.long;
      whole = λ win r u. rw c.raise_lambda-lambda.ensures (sym (lengths_done _ _ _ _ win r (u + M.trials) _ _ _ 20 M.t M.alpha c.loop-t-test.false) ∙ M.invariant.whole win r u);
    }

pub returns-after-attempts-clause-comes : goal.returns-after-attempts-clause-comes
returns-after-attempts-clause-comes c =
    let A = c.attempts in
    λ win r u. rw A.invariant.lost (sym (A.invariant.whole win r u) ∙ attempts_done _ _ _ _ win r (u + A.trials) 12 A.attempt A.lambda c.attempts-test.false)

pub returns-then-y-x-clause-comes : goal.returns-then-y-x-clause-comes
returns-then-y-x-clause-comes c =
    let M = c.loop-t in
    λ win r u.
    let e : u + (M.trials + 1) ≡ u + M.trials + 1 = omega arith in
    rw (e, c.lower_lambda.ensures, c.step_size.ensures)
    (sym (M.invariant.whole win r u)
    ∙ lengths_win _ _ _ _ win r (u + M.trials) _ _ _ 20 M.t M.alpha c.evaluate_state-y.result c.loop-t-test.true (c.evaluate_state-y.ensures.same ∙ c.try_step.ensures) (sum_of_lem _ _ c.evaluate_state-y.ensures.sums) c.if-y-x.true)
