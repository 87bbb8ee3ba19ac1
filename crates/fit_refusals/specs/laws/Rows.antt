-- Refusals by computation: which number wins among several faults, and the edges of each number. Assumes nothing.
use Rattle.std.specs.Prelude.{ℕ, ◌*◌, ◌≡◌, refl, Bool, true, false, ◌||◌, cond, List, [], ◌∷◌, map, eqb, Float, replicate}
use Rattle.std.specs.Float.{nan, inf}
use Rattle.std.specs.Float.Ieee.{lt}
use Rattle.std.specs.Float.Ieee as Ieee
use Rattle.math.specs.Basic.{is_finite, bits, zero, one, two}
use Rattle.curves.specs.MeanFn.{n_params_of}
use Rattle.fit_faults.specs.Lists.{in_order}
use Rattle.fit_faults.specs.Tests.{bad_code, bad_readings, bad_groups, bad_effects, bad_lengths, bad_theta, bad_numbers, bad_order, bad_outputs, too_many}
use Rattle.fit_refusals.specs.Problem.{Problem, problem_of, p, k}
use Rattle.fit_refusals.specs.Faults.{first_from, refusal_of, search_refusal_of}

-- `unfolding refusal_computes` opens all that a refusal is computed by
unfoldable pub refusal_computes : Unit {0}
unfolding n_params_of is_finite lt in_order bad_code bad_readings bad_groups bad_effects bad_lengths bad_theta bad_numbers bad_order bad_outputs too_many first_from refusal_of search_refusal_of
refusal_computes = tt

-- ---- which number wins

-- n is among the numbers
abbrev pub among : ℕ → List ℕ → Bool
among n [] = false
among n (m ∷ l) = eqb n m || among n l

-- a call that has the faults of these numbers and no other
module _ (faults : List ℕ) where
  abbrev pub put : {A : Type 0} → ℕ → A → A → A
  put n wrong right = cond (among n faults) wrong right

  abbrev pub faulty : Problem
  faulty =
      problem_of (put 1 5 1) (put 7 nan one ∷ one ∷ []) (put 2 (one ∷ []) (one ∷ one ∷ [])) (put 4 33 1 ∷ 0 ∷ []) (put 3 33 2) (put 5 3 2 ∷ [])
      (put 6 (one ∷ []) (one ∷ one ∷ one ∷ [])) (put 8 two one ∷ one ∷ one ∷ []) (one ∷ one ∷ one ∷ []) (replicate 3 (inf true)) (replicate 3 (inf false)) (one ∷ [])

  -- what the fit and the search refuse with
  abbrev pub numbers : ℕ × ℕ
  numbers = (refusal_of faulty 3 (put 9 3 2) (put 10 1001 1000), search_refusal_of faulty (put 10 1001 1000) 1000)

unfoldable pub winners : List (List ℕ × (ℕ × ℕ))
winners =
    ([], (0, 0))
    ∷ (1 ∷ [], (1, 1))
    ∷ (2 ∷ [], (2, 2))
    ∷ (3 ∷ [], (3, 3))
    ∷ (4 ∷ [], (4, 4))
    ∷ (5 ∷ [], (5, 5))
    ∷ (6 ∷ [], (6, 6))
    ∷ (7 ∷ [], (7, 7))
    ∷ (8 ∷ [], (8, 8))
    ∷ (9 ∷ [], (9, 0))
    ∷ (10 ∷ [], (10, 10))
    ∷ (1 ∷ 2 ∷ [], (1, 1))
    ∷ (2 ∷ 3 ∷ [], (2, 2))
    ∷ (3 ∷ 4 ∷ [], (3, 3))
    ∷ (4 ∷ 5 ∷ [], (4, 4))
    ∷ (5 ∷ 6 ∷ [], (5, 5))
    ∷ (6 ∷ 7 ∷ [], (6, 6))
    ∷ (7 ∷ 8 ∷ [], (7, 7))
    ∷ (8 ∷ 9 ∷ [], (8, 8))
    ∷ (9 ∷ 10 ∷ [], (9, 10))
    ∷ (1 ∷ 2 ∷ 3 ∷ 4 ∷ 5 ∷ 6 ∷ 7 ∷ 8 ∷ 9 ∷ 10 ∷ [], (1, 1))
    ∷ []

pub winners_hold : map (λ (r : List ℕ × (ℕ × ℕ)). numbers r.0) winners ≡ map (λ (r : List ℕ × (ℕ × ℕ)). r.1) winners
unfolding refusal_computes winners Ieee.of_bits
winners_hold = refl

-- ---- the edges

-- a call with this many readings, groups, these effects and theta, and these bounds at every place; group 0 alone has readings
pub record Edge : Type 0 where
  pub code : ℕ
  pub readings : ℕ
  pub group_count : ℕ
  pub places : List ℕ
  pub bounds : Float × Float
  pub group_bounds : Float × Float
  pub theta : List Float
  pub rounds : ℕ
  pub narrowings : ℕ

abbrev pub problem_at : Edge → Problem
problem_at e =
    let n = n_params_of e.code in
    problem_of e.code (replicate e.readings one) (replicate e.readings one) (replicate e.readings 0) e.group_count e.places (replicate n one)
    (replicate n e.bounds.0) (replicate n e.bounds.1) (replicate n e.group_bounds.0) (replicate n e.group_bounds.1) e.theta

abbrev pub numbers_at : Edge → ℕ × ℕ
numbers_at e =
    let q = problem_at e in
    (refusal_of q (p q) (q.group_count * k q) e.rounds, search_refusal_of q e.rounds e.narrowings)

-- no bounds, -0
abbrev pub free : Float × Float
free = (inf true, inf false)

abbrev pub minus_zero : Float
minus_zero = bits 0x8000_0000_0000_0000

abbrev pub edge : ℕ → ℕ → ℕ → List ℕ → Float × Float → Float × Float → List Float → ℕ → ℕ → Edge
edge code readings group_count places bounds group_bounds theta rounds narrowings =
    record {
      code = code;
      readings = readings;
      group_count = group_count;
      places = places;
      bounds = bounds;
      group_bounds = group_bounds;
      theta = theta;
      rounds = rounds;
      narrowings = narrowings;
    }

unfoldable pub edges : List (Edge × (ℕ × ℕ))
edges =
    -- codes
    (edge 0 1 1 (0 ∷ []) free free (one ∷ []) 0 0, (1, 1))
    ∷ (edge 4 1 1 (3 ∷ []) free free (one ∷ []) 0 0, (0, 0))
    ∷ (edge 5 1 1 (0 ∷ []) free free (one ∷ []) 0 0, (1, 1))
    -- readings and groups
    ∷ (edge 1 0 1 (0 ∷ []) free free (one ∷ []) 0 0, (2, 2))
    ∷ (edge 1 512 1 (0 ∷ []) free free (one ∷ []) 0 0, (0, 0))
    ∷ (edge 1 513 1 (0 ∷ []) free free (one ∷ []) 0 0, (2, 2))
    ∷ (edge 1 1 0 (0 ∷ []) free free (one ∷ []) 0 0, (3, 3))
    ∷ (edge 1 1 32 (0 ∷ []) free free (one ∷ []) 0 0, (0, 0))
    ∷ (edge 1 1 33 (0 ∷ []) free free (one ∷ []) 0 0, (3, 3))
    -- effects: none, three, an index p, two equal, two
    ∷ (edge 1 1 1 [] free free (one ∷ []) 0 0, (5, 5))
    ∷ (edge 1 1 1 (0 ∷ 1 ∷ 2 ∷ []) free free (one ∷ []) 0 0, (5, 5))
    ∷ (edge 3 1 1 (2 ∷ []) free free (one ∷ []) 0 0, (5, 5))
    ∷ (edge 1 1 1 (1 ∷ 1 ∷ []) free free (one ∷ one ∷ one ∷ []) 0 0, (5, 5))
    ∷ (edge 1 1 1 (2 ∷ 0 ∷ []) free free (one ∷ one ∷ one ∷ []) 0 0, (0, 10))
    -- theta's length, and its value
    ∷ (edge 1 1 1 (2 ∷ 0 ∷ []) free free (one ∷ []) 0 0, (6, 10))
    ∷ (edge 1 1 1 (0 ∷ []) free free (one ∷ one ∷ one ∷ []) 0 0, (6, 0))
    ∷ (edge 1 1 1 (0 ∷ []) free free (nan ∷ []) 0 0, (7, 0))
    ∷ (edge 1 1 1 (0 ∷ []) free free (minus_zero ∷ []) 0 0, (0, 0))
    -- bounds: a NaN, infinities on the wrong side, equal, both zeros, lower above upper
    ∷ (edge 1 1 1 (0 ∷ []) (nan, one) free (one ∷ []) 0 0, (7, 7))
    ∷ (edge 1 1 1 (0 ∷ []) (inf false, inf false) free (one ∷ []) 0 0, (7, 7))
    ∷ (edge 1 1 1 (0 ∷ []) free (inf true, inf true) (one ∷ []) 0 0, (7, 7))
    ∷ (edge 1 1 1 (0 ∷ []) (one, one) (two, two) (one ∷ []) 0 0, (0, 0))
    ∷ (edge 1 1 1 (0 ∷ []) (zero, minus_zero) free (one ∷ []) 0 0, (0, 0))
    ∷ (edge 1 1 1 (0 ∷ []) free (two, one) (one ∷ []) 0 0, (8, 8))
    -- two effects are refused after 8 by the search
    ∷ (edge 1 1 1 (0 ∷ 1 ∷ []) (two, one) free (one ∷ one ∷ one ∷ []) 0 0, (8, 8))
    -- rounds and narrowings
    ∷ (edge 1 1 1 (0 ∷ []) free free (one ∷ []) 1000 1000, (0, 0))
    ∷ (edge 1 1 1 (0 ∷ []) free free (one ∷ []) 1001 1000, (10, 10))
    ∷ (edge 1 1 1 (0 ∷ []) free free (one ∷ []) 1000 1001, (0, 10))
    ∷ []

pub edges_hold : map (λ (r : Edge × (ℕ × ℕ)). numbers_at r.0) edges ≡ map (λ (r : Edge × (ℕ × ℕ)). r.1) edges
unfolding refusal_computes edges Ieee.of_bits
edges_hold = refl
