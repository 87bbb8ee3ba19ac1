-- `unfolding direction_computes` opens all that the normal blocks and a direction are computed by.
use Rattle.math.specs.Basic.{max_of, is_finite}
use Rattle.math.specs.Loops.{iter}
use Rattle.std.specs.Float.Ieee as Ieee
use Rattle.linalg.specs.laws.Computes.{linalg_computes}
use Rattle.group_blocks.specs.Components.{effects_of}
use Rattle.block_solve.specs.Normal.{add_reading}
use Rattle.group_blocks.specs.laws.Steps.{group_steps, component_steps}
use Rattle.block_solve.specs.laws.Steps.{normal_steps, direction_steps}

unfoldable pub direction_computes : Unit {0}
unfolding linalg_computes max_of is_finite Ieee.is_nan iter add_reading normal_steps group_steps effects_of component_steps direction_steps
direction_computes = tt
