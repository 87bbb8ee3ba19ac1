-- The starts stand before the zeros that are left. Assumes nothing.
use Rattle.fit_refusals.specs.Given.{checked}
use Rattle.fit_step.proofs.Laws.{started_is}
use Rattle.fit_step.proofs.trial.starting_values.Goals as goal

pub returns : goal.returns
returns c = rw c.copy_from_slice.ensures.after (started_is (checked c.args.q.now) c.args.q.now.valid)
