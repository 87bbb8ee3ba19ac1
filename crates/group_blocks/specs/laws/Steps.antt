-- What opens the definitions of a file in a proof.
use Rattle.group_blocks.specs.Groups.{dot_of_effects, solved_columns, solution_of, reduce_row, reduce_by}
use Rattle.group_blocks.specs.Components.{columns_times, components_of}

-- opens the definitions of Groups.antt
unfoldable pub group_steps : Unit {0}
unfolding dot_of_effects solved_columns solution_of reduce_row reduce_by
group_steps = tt

-- opens the definitions of Components.antt
unfoldable pub component_steps : Unit {0}
unfolding columns_times components_of
component_steps = tt
