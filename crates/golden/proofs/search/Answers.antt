-- The criterion answers by the definition's at every finite theta, so the search is the definition's.
use mathlib.Core.Path.{sym, ap, ◌∙◌}
use borrow.Author.Rules.{rules}
use borrow.Author.Tests.{eq-eqb}
use Rattle.math.specs.laws.Loops.{pick_true}
use Rattle.fit_refusals.specs.Given.{checked}
use Rattle.golden.specs.Search.{Told, criterion_at, search_of}
use Rattle.golden.specs.declared.Found.{Found}
use Rattle.std.specs.Prelude.{Some}
use Rattle.golden.proofs.search.Goals as goal

pub returns : goal.returns
unfolding search_of
returns c =
    let a = c.args in
    let p = c.in_ok-problem in
    let found = c.optimize_theta_golden.ensures.search (criterion_at (checked p.problem) a.max_rounds a.reml a.n_agq) (λ t x f h. search rules) in
    let e = rw p.ensures.same at found in
    ap {B = Told} (λ (f : Found). record { number = 0; found = Some f }) e ∙ sym (pick_true _ _ _ (eq-eqb _ _ (sym p.ensures.number)))
