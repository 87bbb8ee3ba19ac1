-- The penalised sum of a state (`penalized_rss`): the squares of the residuals, and each group's penalty. A state has four places for the curve values,
-- of which p count, and 64 for the effects, group after group, of which groups times k count.
use Rattle.std.specs.Prelude.{ℕ, ◌*◌, ◌<◌, ◌≡◌, List, Float, get_or, length}
use Rattle.std.specs.Float.{nan}
use Rattle.math.specs.Basic.{add, sub, mul, zero}
use Rattle.math.specs.Loops.{iter}
use Rattle.math.specs.Parts.{part}
use Rattle.curves.specs.declared.Mean.{Mean}
use Rattle.curves.specs.MeanFn.{eval_with_re_of}
use Rattle.re_cov.specs.ReCov.{penalty_of}
use Rattle.fit_refusals.specs.Problem.{Problem, k}
use Rattle.fit_step.specs.declared.State.{State}

-- what stands past the end of a list of curves; no place past its end is read
abbrev pub no_mean : Mean
no_mean = record { mu = nan; d0 = nan; d1 = nan; d2 = nan; d3 = nan }

abbrev pub squared : Float → Float
squared r = mul r r

module _ (q : Problem) where
  -- the curve of reading i, with its group's effects
  abbrev pub mean_at : State → ℕ → Mean
  mean_at s i = eval_with_re_of q.code s.values q.places (part (get_or q.groups i 0 * k q) (k q) s.effects) (get_or q.doses i nan)

  -- the rss: the squares in reading order, from 0
  abbrev pub square_at : State → ℕ → Float → Float
  square_at s i t = add t (squared (sub (get_or q.grams i nan) (mean_at s i).mu))

  unfoldable pub rss_of : State → Float
  rss_of s = iter (square_at s) (length q.doses) zero

  -- the penalties of the effects b in group order, from 0: each group's, one without readings too
  abbrev pub penalty_at : List Float → ℕ → Float → Float
  penalty_at b g t = add t (penalty_of (k q) q.theta (part (g * k q) (k q) b))

  unfoldable pub penalty_sum : List Float → Float
  penalty_sum b = iter (penalty_at b) q.group_count zero

  -- `penalized_rss`
  unfoldable pub penalized_rss : State → Float
  penalized_rss s = add (rss_of s) (penalty_sum s.effects)

  -- the list holds the curve of each reading
  abbrev pub Means : State → List Mean → Type 0
  Means s means = (i : ℕ) → i < length q.doses → get_or means i no_mean ≡ mean_at s i
