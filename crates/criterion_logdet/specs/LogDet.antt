-- The log-determinant of the random effects (`random_effect_logdet`). The Rust fills the blocks of all groups in one walk over the readings; a reading changes the block of its own
-- group alone, so a group's block is the one of its own readings, in their order. For one effect the entries past the first are not read.
use Rattle.std.specs.Prelude.{ℕ, ◌*◌, false, cond, List, eqb, Float, Option, option_map, unwrap_or}
use Rattle.std.specs.Float.{inf}
use Rattle.math.specs.Basic.{add, mul, zero, two}
use Rattle.math.specs.Ln.{ln_of}
use Rattle.math.specs.Matrix.{entry}
use Rattle.math.specs.Parts.{part}
use Rattle.re_cov.specs.ReCov.{sigma_inverse, log_det_of}
use Rattle.linalg.specs.Loops.{tries}
use Rattle.linalg.specs.Pair.{cholesky_of}
use Rattle.fit_refusals.specs.Problem.{Problem, k}
use Rattle.criterion_groups.specs.Groups.{count_of, own_of, block_by}

-- the sum, from 0, of the logarithms of a factor's diagonal
unfoldable pub logs_of : ℕ → List (List Float) → Float
logs_of k f = cond (eqb k 1) (add zero (ln_of (entry f 0 0))) (add (add zero (ln_of (entry f 0 0))) (ln_of (entry f 1 1)))

module _ (q : Problem) (values b : List Float) where
  -- the factor of group g's block: the covariance's inverse, then the products of the group's own readings in order
  unfoldable pub group_factor : ℕ → Option (List (List Float))
  group_factor g =
      cholesky_of (k q) (block_by (λ x. x) q values (part (g * k q) (k q) b) (own_of q.groups g q.doses) (sigma_inverse (k q) q.theta))

  -- with group g's logarithms, of which there are none where its factor is none
  abbrev pub add_logs : ℕ → Float → Option Float
  add_logs g t = option_map (λ f. add t (mul two (logs_of (k q) f))) (group_factor g)

  -- every group counts, one without readings too; +infinity where a factor is none
  unfoldable pub logdet_of : Float
  logdet_of = unwrap_or (tries add_logs q.group_count (mul (count_of q.group_count) (log_det_of (k q) q.theta))) (inf false)
