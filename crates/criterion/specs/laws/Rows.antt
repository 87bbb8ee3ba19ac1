-- The criterion and sigma2 by computation, against what the Rust answers: a factor that is none in the determinant (+infinity, with REML a NaN; sigma2 1e-12), an inverse
-- or a factor that is none in the quadrature, a later group without curvature, groups without readings, fewer readings than values, and the scalar branch. Assumes nothing.
use Rattle.std.specs.Prelude.{ℕ, Bool, true, false, ◌&&◌, List, [], ◌∷◌, T, eqb, Float, replicate}
use Rattle.std.specs.Float.{inf, binary64}
use Rattle.std.specs.Float.Ieee.{to_bits}
use Rattle.std.specs.Float.Ieee as Ieee
use Rattle.math.specs.Basic.{bits, zero, half, one, two}
use Rattle.math.specs.Lists.{every}
use Rattle.math.specs.Rationals.{num}
use Rattle.curves.specs.MeanFn.{n_params_of}
use Rattle.curves.specs.laws.Computes.{curve_computes}
use Rattle.re_cov.specs.laws.Computes.{re_cov_computes}
use Rattle.block_solve.specs.laws.Computes.{direction_computes}
use Rattle.quadrature.specs.Orders.{gh_order_of, order_within_cap, capped_order}
use Rattle.quadrature.specs.Rules as Rules
use Rattle.quadrature.specs.Sums.{log_sum_exp}
use Rattle.fit_refusals.specs.Problem.{Problem, problem_of, is_scalar}
use Rattle.fit_penalized.specs.Normal.{random_gradients}
use Rattle.fit_step.specs.laws.Rows.{state_computes}
use Rattle.fit_penalized.specs.Penalized.{rss_of, penalty_sum}
use Rattle.fit.specs.Fit.{rounds, trace_of, fit_of}
use Rattle.criterion_groups.specs.Groups.{own_of, gradients_at, group_squares, add_by, block_by}
use Rattle.linalg.specs.Loops.{tries}
use Rattle.criterion_logdet.specs.LogDet.{logs_of, group_factor, logdet_of}
use Rattle.criterion_agq.specs.Agq.{scaling_of, node_of, effects_at_node, term_of, terms_of, add_group, group_at, groups_of, agq_of}
use Rattle.criterion.specs.Profile.{df_of, sigma2_of, laplace_of, profile_logdet, profile_from}
use Rattle.criterion.specs.Answer.{profile_of}

-- a problem without bounds, at its start: no round is allowed
abbrev pub case : ℕ → List Float → List Float → List ℕ → ℕ → List ℕ → List Float → List Float → Problem
case code doses grams groups group_count places starts theta =
    let low = replicate (n_params_of code) (inf true) in
    let high = replicate (n_params_of code) (inf false) in
    problem_of code doses grams groups group_count places starts low high low high theta

-- whether it is REML, the order asked, and the bits of the criterion and of sigma2
pub record Row : Type 0 where
  pub problem : Problem
  pub reml : Bool
  pub asked : ℕ
  pub criterion : ℕ
  pub sigma2 : ℕ

abbrev pub row : Problem → Bool → ℕ → ℕ → ℕ → Row
row q reml asked criterion sigma2 = record { problem = q; reml = reml; asked = asked; criterion = criterion; sigma2 = sigma2 }

abbrev pub holds : Row → Bool
holds r =
    let p = profile_of r.problem 0 r.reml r.asked in
    eqb (to_bits binary64 p.criterion) r.criterion && eqb (to_bits binary64 p.sigma2) r.sigma2

-- the reading (0, 1) of curve 3 at 8, 0; three readings in group 0 and one of dose 0 in group 1
abbrev pub no_curve : Problem
no_curve = case 3 (zero ∷ []) (one ∷ []) (0 ∷ []) 1 (0 ∷ []) (num 8 ∷ zero ∷ []) (one ∷ [])

abbrev pub flat_group : Float → Problem
flat_group theta =
    case 3 (one ∷ two ∷ num 3 ∷ zero ∷ []) (num 4 ∷ bits 0x4015_3333_3333_3333 ∷ num 6 ∷ bits 0x3fb9_9999_9999_999a ∷ []) (0 ∷ 0 ∷ 0 ∷ 1 ∷ []) 2 (0 ∷ []) (num 8 ∷ one ∷ []) (theta ∷ [])

-- one reading, and a group without
abbrev pub single : Problem
single = case 3 (num 3 ∷ []) (num 5 ∷ []) (0 ∷ []) 2 (0 ∷ []) (num 8 ∷ one ∷ []) (one ∷ [])

unfoldable pub rows : List Row
rows =
    row no_curve false 0 0x7ff0_0000_0000_0000 0x3d71_9799_812d_ea11
    ∷ row no_curve true 0 0x7ff8_0000_0000_0000 0x3d71_9799_812d_ea11
    -- 6.642147470562527
    ∷ row (case 3 (two ∷ []) (two ∷ []) (0 ∷ []) 1 (0 ∷ 1 ∷ []) (num 3 ∷ one ∷ []) (num 10000000 ∷ zero ∷ num 1000000 ∷ [])) false 3 0x401a_918f_1b45_19c8 0x3d71_9799_812d_ea11
    -- the same with and without the order
    ∷ row (flat_group (num 1000000000)) false 3 0x403d_7b78_81de_30bd 0x3f66_c16c_16c1_6c13
    ∷ row (flat_group (num 1000000000)) false 0 0x403d_7b78_81de_30bd 0x3f66_c16c_16c1_6c13
    ∷ row (flat_group (num 10000000)) false 3 0x4035_6d57_87ff_f2d0 0x3f66_c16c_16c1_6c13
    ∷ row single false 0 0x400a_45f7_dd25_b29e 0x3ff0_0000_0000_0000
    ∷ row single true 2 0x400e_25bb_7b46_795e 0x3ff0_0000_0000_0000
    ∷ row (case 3 (num 3 ∷ one ∷ []) (num 5 ∷ num 5 ∷ []) (0 ∷ 1 ∷ []) 2 (0 ∷ 1 ∷ []) (num 8 ∷ one ∷ []) (two ∷ one ∷ one ∷ [])) true 2 0x4028_7ce1_c6a9_3c36 0x4000_0000_0000_0000
    -- curve 2 with one effect
    ∷ row (case 2 (zero ∷ []) (num 30 ∷ []) (0 ∷ []) 2 (1 ∷ []) (num 90 ∷ num 20 ∷ zero ∷ []) (half ∷ [])) true 2 0xbfd5_822e_7df2_7826 0x4059_0000_0000_0000
    ∷ []

pub rows_hold : T (every holds rows)
unfolding rows Ieee.round Ieee.le Ieee.of_int to_bits curve_computes re_cov_computes direction_computes gh_order_of order_within_cap capped_order Rules.gh_nodes Rules.gh_weights Rules.z3 Rules.w3 log_sum_exp state_computes random_gradients rss_of penalty_sum rounds trace_of fit_of own_of gradients_at group_squares add_by block_by tries logs_of group_factor logdet_of scaling_of node_of effects_at_node term_of terms_of add_group group_at groups_of agq_of is_scalar df_of sigma2_of laplace_of profile_logdet profile_from profile_of
rows_hold = tt
