-- A part of the zeros is as many zeros. Assumes nothing.
use Rattle.std.proofs.Common.{◌≡◌, take, replicate}
use Rattle.std.proofs.lemmas.List.{take-replicate}
use Rattle.math.specs.Basic.{zero}
use Rattle.refit_run.specs.Run.{refit_told, refit_told_from}
use Rattle.refit_run.proofs.answer.Goals as goal

pub returns : goal.returns
unfolding refit_told refit_told_from
returns c =
    let k = c.n_values-k.result in
    let n = c.args.readings.now.canisters in
    let values : take k (replicate 4 zero) ≡ replicate k zero = take-replicate k 4 zero c.n_values-k.ensures.few in
    let effects : take n (replicate 32 zero) ≡ replicate n zero = take-replicate n 32 zero c.requires.few_canisters in
    let fitted = rw (c.code.ensures, c.unwrap_or-starts.ensures) at c.refitted-answer.ensures in
    rw (← c.n_values-k.ensures.value, ← values, ← effects, fitted) c.told.ensures
