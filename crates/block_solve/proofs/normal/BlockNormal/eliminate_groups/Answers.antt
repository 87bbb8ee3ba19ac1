-- A group without a solution stops the definition too.
use Rattle.std.proofs.Common.{sym, ◌∙◌, ap}
use Rattle.std.specs.Prelude.{option_map}
use Rattle.linalg.specs.laws.Loops.{tries_stop}
use Rattle.block_solve.specs.Direction.{eliminated_of}
use Rattle.block_solve.proofs.normal.BlockNormal.eliminate_groups.Goals as goal

pub returns-in_err-solution : goal.returns-in_err-solution
unfolding eliminated_of
returns-in_err-solution c =
    let e = sym (rw c.group-group.ensures at c.solve.ensures) ∙ c.in_err-solution.was in
    c.from_residual.ensures ∙ tries_stop _ _ c.args.shape.group_count c.loop-g.g _ c.loop-g.invariant (ap (option_map _) e) c.loop-g-test.true
