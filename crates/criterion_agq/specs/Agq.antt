-- The quadrature that the criterion adds (`agq_correction` for one effect, `agq_correction_product` for two).
use Rattle.std.specs.Prelude.{ℕ, ◌*◌, ◌/◌, ◌%◌, not, ◌||◌, cond, List, [], ◌∷◌, ◌++◌, eqb, Float, Option, Some, None, option_and_then, get_or, length}
use Rattle.std.specs.Float.{nan}
use Rattle.std.specs.Float.Ieee.{le}
use Rattle.math.specs.Basic.{add, sub, mul, div, bits, zero, half, one, is_finite}
use Rattle.math.specs.Ln.{ln_of}
use Rattle.math.specs.Sqrt.{sqrt_of}
use Rattle.math.specs.Loops.{iter}
use Rattle.math.specs.Matrix.{rows, entry}
use Rattle.math.specs.Parts.{part}
use Rattle.re_cov.specs.ReCov.{dot_of_two, sigma_inverse, penalty_of}
use Rattle.linalg.specs.Loops.{tries}
use Rattle.linalg.specs.Pair as Pair
use Rattle.quadrature.specs.Orders.{product_of}
use Rattle.quadrature.specs.Rules.{gh_rule}
use Rattle.quadrature.specs.Sums.{log_sum_exp}
use Rattle.fit_refusals.specs.Problem.{Problem, k}
use Rattle.criterion_agq.specs.declared.Node.{Node}
use Rattle.criterion_groups.specs.Groups.{own_of, group_squares, block_by}

-- EPSILON, 2^-52; -1/2 and -2
abbrev pub epsilon : Float
epsilon = bits 0x3cb0_0000_0000_0000

abbrev pub minus_half : Float
minus_half = bits 0xbfe0_0000_0000_0000

abbrev pub minus_two : Float
minus_two = bits 0xc000_0000_0000_0000

-- ---- what the nodes are multiplied by, from the curvature m

-- one effect: 1 / the root of the curvature, none where it is at most 2^-52 or not finite
abbrev pub scaling_of_one : Float → Option (List (List Float))
scaling_of_one a = cond (le a epsilon || not (is_finite a)) None (Some (rows (div one (sqrt_of a)) zero zero zero))

-- two: the lower Cholesky factor of the inverse, none where either is
unfoldable pub scaling_of : ℕ → List (List Float) → Option (List (List Float))
scaling_of k m = cond (eqb k 1) (scaling_of_one (entry m 0 0)) (option_and_then (Pair.cholesky_of 2) (Pair.inverse_of 2 m))

-- ---- a group's nodes

-- how many: the order to the k-th power
abbrev pub node_count_of : ℕ → ℕ → ℕ
node_count_of k order = cond (eqb k 1) order (order * order)

-- the t-th node: for two effects the first dimension is t mod order, the second t / order; the logarithm of its weight is summed from 0
abbrev pub line_node : ℕ → ℕ → Node
line_node order t = record { z0 = (gh_rule order t).z; z1 = zero; log_w = ln_of (gh_rule order t).w }

abbrev pub grid_node : ℕ → ℕ → ℕ → Node
grid_node order i j = record { z0 = (gh_rule order i).z; z1 = (gh_rule order j).z; log_w = add (add zero (ln_of (gh_rule order i).w)) (ln_of (gh_rule order j).w) }

unfoldable pub node_of : ℕ → ℕ → ℕ → Node
node_of k order t = cond (eqb k 1) (line_node order t) (grid_node order (t % order) (t / order))

-- the effects at a node: b and the scaling s times the node; for one effect the second place is +0
unfoldable pub effects_at_node : ℕ → List (List Float) → Node → List Float → List Float
effects_at_node k s n b =
    cond (eqb k 1) (add (get_or b 0 nan) (mul (entry s 0 0) n.z0) ∷ zero ∷ [])
    (add (get_or b 0 nan) (dot_of_two (entry s 0 0) (entry s 0 1) n.z0 n.z1) ∷ add (get_or b 1 nan) (dot_of_two (entry s 1 0) (entry s 1 1) n.z0 n.z1) ∷ [])

-- a node's term: the logarithm of its weight, less half of what the rss over sigma2 and the penalty gain
unfoldable pub term_of : Float → Float → Float → Float → Float → Float → Float
term_of sigma2 rssHat penHat logW rss pen =
    add logW (sub (mul minus_half (div (sub rss rssHat) sigma2)) (mul half (sub pen penHat)))

-- ---- a group, then all

-- of the order so many points in each dimension
module _ (q : Problem) (values : List Float) (sigma2 : Float) (order : ℕ) where
  -- at a group's readings and effects b
  module _ (doses grams b : List Float) where
    -- at the effects c of a node
    abbrev pub term_for : Float → List Float → Float
    term_for logW c =
        term_of sigma2 (group_squares q values b doses grams) (penalty_of (k q) q.theta b) logW (group_squares q values c doses grams) (penalty_of (k q) q.theta c)

    -- the term of node t, with the scaling s
    abbrev pub term_at : List (List Float) → ℕ → Float
    term_at s t =
        let n = node_of (k q) order t in
        term_for n.log_w (effects_at_node (k q) s n b)

    abbrev pub more_terms : List (List Float) → ℕ → List Float → List Float
    more_terms s t l = l ++ (term_at s t ∷ [])

    unfoldable pub terms_of : List (List Float) → List Float
    terms_of s = iter (more_terms s) (node_count_of (k q) order) []

    -- the sum so far, t, with -2 times the logarithm of the terms' sum; none where that is not finite, or where there is no scaling
    abbrev pub add_inner : Float → Float → Option Float
    add_inner t v = cond (is_finite v) (Some (add t (mul minus_two v))) None

    abbrev pub add_scaled : Float → List (List Float) → Option Float
    add_scaled t s = add_inner t (log_sum_exp (terms_of s))

    -- the curvature: the covariance's inverse, then the products of the readings' gradients, each divided by sigma2
    abbrev pub curvature_of : List (List Float)
    curvature_of = block_by (λ x. div x sigma2) q values b doses (sigma_inverse (k q) q.theta)

    -- readings that are none add nothing
    unfoldable pub add_group : Float → Option Float
    add_group t = cond (eqb (length doses) 0) (Some t) (option_and_then (add_scaled t) (scaling_of (k q) curvature_of))

  -- at the effects b of all groups
  module _ (b : List Float) where
    unfoldable pub group_at : ℕ → Float → Option Float
    group_at g t = add_group (own_of q.groups g q.doses) (own_of q.groups g q.grams) (part (g * k q) (k q) b) t

    -- the groups in order, from 0; none where one of them is, whatever came before it
    unfoldable pub groups_of : Option Float
    groups_of = tries group_at q.group_count zero

-- none also where no rule applies
unfoldable pub agq_of : Problem → List Float → List Float → Float → ℕ → Option Float
agq_of q values b sigma2 nAgq = option_and_then (λ order. groups_of q values sigma2 order b) (product_of nAgq (k q))
