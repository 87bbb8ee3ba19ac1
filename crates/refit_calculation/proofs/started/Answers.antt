-- A curve has at most four values, so four bounds are enough; the rest is the contract of the search and what follows.
use Rattle.std.proofs.Common.{◌≡◌, ◌≤◌, ap, ◌∙◌, arith, take, replicate}
use lib.Ieee.{neg, inf, of_bits}
use mathlib.Core.Bool.{false}
use Rattle.std.proofs.lemmas.List.{take-replicate}
use Rattle.curves.specs.MeanFn.{n_params_of}
use Rattle.curves.specs.laws.Params.{params_most}
use Rattle.refit_calculation.specs.Refit.{with_starts}
use Rattle.refit_calculation.proofs.started.Goals as goal

pub shared_ref_as_front-problem : goal.shared_ref_as_front-problem
shared_ref_as_front-problem c = omega (arith, params_most c.args.r.now.code, c.n_params-p.ensures ∙ ap n_params_of c.requires)

pub returns : goal.returns
unfolding with_starts neg of_bits
returns c =
    let p = c.n_params-p.result in
    let e = c.n_params-p.ensures ∙ ap n_params_of c.requires in
    let few : p ≤ 4 = omega (arith, params_most c.args.r.now.code, e) in
    let lower : take p (replicate 4 (neg (inf false))) ≡ replicate p (neg (inf false)) = take-replicate p 4 _ few in
    let upper : take p (replicate 4 (inf false)) ≡ replicate p (inf false) = take-replicate p 4 _ few in
    rw (← e, ← lower, ← upper) c.searched.ensures
