-- Every theta that is asked is finite, whatever the criterion answers, and the narrowings are the definition's.
use mathlib.Core.Path.{◌≡◌, sym, ◌∙◌}
use Prim.Native.Nat.{min}
use mathlib.Core.Logic.{inl, inr}
use native.Mathlib.Omega.{arith}
use Rattle.golden.proofs.Loop.{begins, new_finite, last_finite, goes, counts, ends}
use Rattle.golden.proofs.optimize_theta_golden.Goals as goal
use Rattle.golden.proofs.optimize_theta_golden.Goals.{then-loop-t-test+else-narrowings-allowed, else-loop-t-test}

pub loop-t-init : goal.loop-t-init
loop-t-init g c = begins _ _ _ _ _ _ c.left_point-c.ensures c.right_point-d.ensures c.criterion.ensures c.criterion-2.ensures

pub criterion-requires-in-loop-t : goal.criterion-requires-in-loop-t
criterion-requires-in-loop-t g c = c.requires _ (new_finite _ _ _ _ _ c.loop-t.invariant _ c.new_point-t.ensures (sym c.is_wide.ensures ∙ c.loop-t-test.true))

pub loop-t-preserved : goal.loop-t-preserved
loop-t-preserved g c = rw c.narrowed-s.ensures (goes _ _ _ _ _ c.loop-t.invariant _ _ (sym c.is_wide.ensures ∙ c.loop-t-test.true) c.if-narrowings-allowed.true c.new_point-t.ensures c.criterion-in-loop-t.ensures)

pub criterion-last-requires : goal.criterion-last-requires
criterion-last-requires g c = c.requires _ (last_finite _ _ _ _ _ c.loop-t.invariant _ c.middle-theta.ensures)

pub returns-clause-demand3 : goal.returns-clause-demand3
returns-clause-demand3 g c =
    let l = c.loop-t in
    let made =
    elim c.loop-t-test.branch as (λ _. l.narrowings ≡ min 26 c.args.allowed) [
      | then-loop-t-test+else-narrowings-allowed w ↦ counts _ _ _ _ _ l.invariant (inr w.if-narrowings-allowed.false)
      | else-loop-t-test w ↦ counts _ _ _ _ _ l.invariant (inl (sym c.is_wide.ensures ∙ w.loop-t-test.false))
    ] in
    record { at_most = omega arith; exactly = made; fits = omega (arith, l.invariant.counted) }

pub returns-clause-search : goal.returns-clause-search
returns-clause-search g c =
    elim c.loop-t-test.branch [
      | then-loop-t-test+else-narrowings-allowed w ↦ ends _ _ _ _ _ c.loop-t.invariant _ _ _ (inr w.if-narrowings-allowed.false) c.middle-theta.ensures c.criterion-last.ensures c.has_converged.ensures
      | else-loop-t-test w ↦ ends _ _ _ _ _ c.loop-t.invariant _ _ _ (inl (sym c.is_wide.ensures ∙ w.loop-t-test.false)) c.middle-theta.ensures c.criterion-last.ensures c.has_converged.ensures
    ]
