-- What opens the definitions of a file in a proof.
use Rattle.linalg.specs.Pair.{two_of, pair_of, inverse_of, cholesky_of}
use Rattle.linalg.specs.Elimination.{better, pivot_of, swap_of, clear_row, column_of, back_of, eliminate_of, solve_of}

-- opens the definitions of Pair.antt
unfoldable pub pair_steps : Unit {0}
unfolding two_of pair_of inverse_of cholesky_of
pair_steps = tt

-- opens the definitions of Elimination.antt
unfoldable pub elimination_steps : Unit {0}
unfolding better pivot_of swap_of clear_row column_of back_of eliminate_of solve_of
elimination_steps = tt
