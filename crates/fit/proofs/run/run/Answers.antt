-- The rounds go on as the definition does, each from the last winner with its sums and curves. Assumes nothing.
use mathlib.Core.Path.{◌≡◌, sym, ap, ◌∙◌}
use mathlib.Core.Bool.{false}
use mathlib.Core.List.{List}
use native.Mathlib.Omega.{arith}
use lib.Ieee.{Float}
use Rattle.fit_refusals.specs.Given.{checked}
use Rattle.fit_penalized.specs.Normal.{blocks_of, normal_blocks}
use Rattle.fit_round.specs.Steps.{stopped}
use Rattle.fit.specs.Steps.{ending_of}
use Rattle.fit.specs.laws.Steps.{rounds_done}
use Rattle.fit.proofs.Turns.{ends_as, round_lost, round_converged, round_near, round_on}
use Rattle.fit.proofs.run.run.Goals as goal
use Rattle.fit.proofs.run.run.Goals.{After-round-o}

-- the blocks are those of the state that the round goes from
blocks : (c : After-round-o) → c.normal-n.result ≡ normal_blocks (checked c.args.q.now) c.loop-i.x.state
blocks c = c.normal-n.ensures ∙ ap (λ (m : List (List Float)). blocks_of (checked c.args.q.now) m c.loop-i.x.state) c.sigma_inv_from_theta-inverse.ensures

pub returns-then-w : goal.returns-then-w
returns-then-w c =
    let L = c.loop-i in
    ap ending_of c.end_with.ensures ∙ round_near _ _ L.i L.x c.normal-n.result L.lambda L.trials c.round-o.result _ c.loop-i-test.true (blocks (goal.at.returns-then-w c).After-round-o)
    L.invariant.sums c.round-o.ensures.comes L.invariant.whole c.in-Won.w c.in-Won.is (rw c.in-Won.is at c.round-o.ensures.kept).0 c.if-w.true

pub returns-in-Converged : goal.returns-in-Converged
returns-in-Converged c =
    let L = c.loop-i in
    ap ending_of c.end_with-in-Converged.ensures ∙ round_converged _ _ L.i L.x c.normal-n.result L.lambda L.trials c.round-o.result _ c.loop-i-test.true (blocks (goal.at.returns-in-Converged c).After-round-o)
    L.invariant.sums c.round-o.ensures.comes L.invariant.whole c.in-Converged.is

pub returns-in-Lost : goal.returns-in-Lost
returns-in-Lost c =
    let L = c.loop-i in
    ap ending_of c.end_with-in-Lost.ensures ∙ round_lost _ _ L.i L.x c.normal-n.result L.lambda L.trials c.round-o.result _ c.loop-i-test.true (blocks (goal.at.returns-in-Lost c).After-round-o)
    L.invariant.sums c.round-o.ensures.comes L.invariant.whole c.in-Lost.is

pub loop-i-preserved : goal.loop-i-preserved
loop-i-preserved c =
    let L = c.loop-i in
    let kept = rw c.in-Won.is at c.round-o.ensures.kept in
    record {
      few = omega (arith, L.invariant.few, c.round-o.ensures.few);
      long = c.round-o.auto.d ∙ L.invariant.long;
      sums = kept.0;
      curves = kept.1;
      whole = round_on _ _ L.i L.x c.normal-n.result L.lambda L.trials c.round-o.result _ c.loop-i-test.true (blocks (goal.at.loop-i-preserved c).After-round-o)
          L.invariant.sums c.round-o.ensures.comes L.invariant.whole c.in-Won.w c.in-Won.is c.if-w.false;
    }

pub returns : goal.returns
returns c =
    let L = c.loop-i in
    let q = checked c.args.q.now in
    let e : c.args.allowed ≡ L.i = omega arith in
    ap ending_of c.end_with-2.ensures
    ∙ ends_as q c.args.allowed L.x false c.args.allowed L.trials L.invariant.sums
    ∙ ap (λ n. stopped q L.x.state false n L.trials) e
    ∙ sym (rounds_done q c.args.allowed L.i L.x.state L.lambda L.i L.trials c.loop-i-test.false)
    ∙ L.invariant.whole
