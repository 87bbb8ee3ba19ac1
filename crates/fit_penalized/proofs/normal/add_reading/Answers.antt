-- A curve has at most the four values that its gradients are kept for, and as many effects as are kept.
use Rattle.std.proofs.Common.{length-take, arith}
use Rattle.curves.specs.MeanFn.{code_of}
use Rattle.curves.specs.laws.Params.{params_most}
use Rattle.fit_penalized.specs.Normal.{fixed_gradients}
use Rattle.fit_penalized.proofs.normal.add_reading.Goals as goal

pub slice_bounds-add_reading-end : goal.slice_bounds-add_reading-end
unfolding fixed_gradients
slice_bounds-add_reading-end c = rw (length-take, c.fixed_gradients-f.ensures, c.n_params-p.ensures) (omega (arith, params_most (code_of c.args.q.now.curve)))
