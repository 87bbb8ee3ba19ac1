-- The criterion and sigma2 at what a fit answers (`profile_objective`).
use Rattle.std.specs.Prelude.{ℕ, Bool, cond, List, Float, Option, Some, None, length}
use Rattle.math.specs.Basic.{add, sub, mul, div, bits, one, max_of}
use Rattle.math.specs.Ln.{ln_of}
use Rattle.re_cov.specs.ReCov.{1e-12, log_det_of}
use Rattle.fit_refusals.specs.Problem.{Problem, p, k, is_scalar}
use Rattle.fit_penalized.specs.Penalized.{penalty_sum}
use Rattle.criterion.specs.declared.profile.Profile.{Profile}
use Rattle.criterion_groups.specs.Groups.{count_of}
use Rattle.criterion_logdet.specs.LogDet.{logdet_of}
use Rattle.criterion_agq.specs.Agq.{agq_of}

-- 2 pi
abbrev pub two_pi : Float
two_pi = bits 0x4019_21fb_5444_2d18

-- the degrees of freedom of n readings and p curve values, those of equal bounds too
unfoldable pub df_of : Bool → ℕ → ℕ → Float
df_of reml n p = cond reml (max_of (sub (count_of n) (count_of p)) one) (count_of n)

-- by the rss alone, or with the penalties; a NaN becomes 1e-12
unfoldable pub sigma2_of : Bool → Float → Float → Float → Float
sigma2_of scalar rss pen df = max_of (div (cond scalar rss (add rss pen)) df) 1e-12

-- m, k and p are the numbers of groups, effects and curve values
abbrev pub scalar_of : Bool → ℕ → ℕ → Float → Float → Float → Float → Float → Float
scalar_of reml m p df sigma2 rss pen logdet =
    let c = add (add (add (mul df (ln_of (mul two_pi sigma2))) (div rss sigma2)) pen) logdet in
    cond reml (add c (mul (sub (count_of m) (count_of p)) (add one (ln_of sigma2)))) c

abbrev pub reml_of : ℕ → ℕ → ℕ → Float → Float → Float → Float → Float → Float
reml_of m k p df sigma2 rss pen logdet =
    add (add (add (mul df (ln_of (mul two_pi sigma2))) (div (add rss pen) sigma2)) logdet) (mul (sub (mul (count_of m) (count_of k)) (count_of p)) (add one (ln_of sigma2)))

abbrev pub ml_of : ℕ → Float → Float → Float
ml_of n sigma2 logdet = add (mul (count_of n) (add one (ln_of (mul two_pi sigma2)))) logdet

-- before the quadrature; n is the number of readings
unfoldable pub laplace_of : Bool → Bool → ℕ → ℕ → ℕ → ℕ → Float → Float → Float → Float → Float → Float
laplace_of scalar reml n m k p df sigma2 rss pen logdet =
    cond scalar (scalar_of reml m p df sigma2 rss pen logdet) (cond reml (reml_of m k p df sigma2 rss pen logdet) (ml_of n sigma2 logdet))

-- where the correction is none, nothing is added
abbrev pub corrected : Float → Option Float → Float
corrected c None = c
corrected c (Some q) = add c q

-- at the curve values and effects that a fit wrote, with its rss
module _ (q : Problem) (values b : List Float) where
  -- the scalar branch has no gradients in it
  unfoldable pub profile_logdet : Bool → Float
  profile_logdet scalar = cond scalar (mul (count_of q.group_count) (log_det_of (k q) q.theta)) (logdet_of q values b)

  unfoldable pub profile_from : Bool → ℕ → Float → Profile
  profile_from reml nAgq rss =
      let scalar = is_scalar q.code (k q) in
      let pen = penalty_sum q b in
      let df = df_of reml (length q.doses) (p q) in
      let sigma2 = sigma2_of scalar rss pen df in
      let c = laplace_of scalar reml (length q.doses) q.group_count (k q) (p q) df sigma2 rss pen (profile_logdet scalar) in
      record { criterion = corrected c (agq_of q values b sigma2 nAgq); sigma2 = sigma2 }
