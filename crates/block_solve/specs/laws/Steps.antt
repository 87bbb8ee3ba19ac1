-- What opens the definitions of a file in a proof.
use Rattle.block_solve.specs.Normal.{accumulate_of, times_of, prior_group, add_priors, prior_of}
use Rattle.block_solve.specs.Direction.{damped_fixed, damped_block, group_of, eliminated_of, finished_of, direction_of, solved_of}

-- opens the definitions of Normal.antt
unfoldable pub normal_steps : Unit {0}
unfolding accumulate_of times_of prior_group add_priors prior_of
normal_steps = tt

-- opens the definitions of Direction.antt
unfoldable pub direction_steps : Unit {0}
unfolding damped_fixed damped_block group_of eliminated_of finished_of direction_of solved_of
direction_steps = tt
