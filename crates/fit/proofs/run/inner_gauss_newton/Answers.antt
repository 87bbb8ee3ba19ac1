-- The direction has p + group_count * k places, at most 68. Assumes nothing.
use mathlib.Core.Path.{sym}
use Prim.Native.Nat.{◌+◌, ◌*◌, ◌≤◌}
use native.Mathlib.Omega.{arith}
use lib.ListN.{length}
use Rattle.curves.specs.MeanFn.{code_of}
use Rattle.curves.specs.laws.Params.{params_most}
use Rattle.fit_step.specs.laws.Sized.{all_fit}
use Rattle.fit.proofs.Lists.{some_places}
use Rattle.fit.proofs.run.inner_gauss_newton.Goals as goal
use Rattle.fit.proofs.run.inner_gauss_newton.Goals.{After-n_params}

few : (c : After-n_params) → c.n_params.result + c.args.q.now.group_count * length c.args.q.now.places.now ≤ 68
few c =
    let z = c.args.q.now.valid.sizes in
    omega (arith, c.n_params.ensures, params_most (code_of c.args.q.now.curve), all_fit _ _ z.groups_high z.effects_high)

pub slice_bounds-run-end : goal.slice_bounds-run-end
slice_bounds-run-end c = sym (some_places _ _ (few (goal.at.slice_bounds-run-end c).After-n_params))

pub run-requires-clause-long : goal.run-requires-clause-long
run-requires-clause-long c = rw (← c.n_params.ensures) (some_places _ _ (few (goal.at.run-requires-clause-long c).After-n_params))
