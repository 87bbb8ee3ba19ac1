-- The numbered faults of a fit, a criterion and a search, in document 01's order.
use Rattle.std.specs.Prelude.{ℕ, suc, Bool, false, not, ◌||◌, cond, List, [], ◌∷◌, ◌++◌, eqb, length}
use Rattle.math.specs.Basic.{is_finite}
use Rattle.math.specs.Lists.{every}
use Rattle.fit_faults.specs.Tests.{all_below, bad_code, bad_readings, bad_groups, bad_effects, bad_lengths, bad_theta, bad_numbers, bad_order, bad_outputs, too_many}
use Rattle.fit_refusals.specs.Problem.{Problem, p, k}

module _ (q : Problem) where
  -- 1 to 5, of every operation
  abbrev pub early : List Bool
  early =
      bad_code q.code
      ∷ bad_readings (length q.doses) (length q.grams) (length q.groups)
      ∷ bad_groups q.group_count
      ∷ not (all_below q.group_count q.groups)
      ∷ bad_effects (p q) q.places
      ∷ []

  -- 6, 7 and 8 without theta
  abbrev pub wrong_lengths : Bool
  wrong_lengths =
      bad_lengths (p q) (length q.starts) (length q.lower) (length q.upper) (length q.group_lower) (length q.group_upper)

  abbrev pub wrong_numbers : Bool
  wrong_numbers = bad_numbers q.doses q.grams q.starts q.lower q.upper q.group_lower q.group_upper

  abbrev pub wrong_order : Bool
  wrong_order = bad_order q.lower q.upper q.group_lower q.group_upper

  -- 6 to 10 of a fit and of a criterion: values and effects are the lengths of the output lists
  abbrev pub fit_later : ℕ → ℕ → ℕ → List Bool
  fit_later values effects rounds =
      (wrong_lengths || bad_theta (k q) (length q.theta))
      ∷ (wrong_numbers || not (every is_finite q.theta))
      ∷ wrong_order
      ∷ bad_outputs (p q) q.group_count (k q) values effects
      ∷ too_many rounds
      ∷ []

  -- 6 to 10 of a search, which has no theta and writes no list: 10 also for two effects
  abbrev pub search_later : ℕ → ℕ → List Bool
  search_later rounds narrowings =
      wrong_lengths
      ∷ wrong_numbers
      ∷ wrong_order
      ∷ false
      ∷ (too_many rounds || eqb (k q) 2 || too_many narrowings)
      ∷ []

  -- 1 to 8, those of theta where it is read
  abbrev pub first_eight : Bool → List Bool
  first_eight reads_theta =
      early
      ++ cond reads_theta (wrong_lengths || bad_theta (k q) (length q.theta)) wrong_lengths
      ∷ cond reads_theta (wrong_numbers || not (every is_finite q.theta)) wrong_numbers
      ∷ wrong_order
      ∷ []

-- the number of the first fault, counted from i, and 0 where there is none
unfoldable pub first_from : ℕ → List Bool → ℕ
first_from i [] = 0
first_from i (b ∷ l) = cond b i (first_from (suc i) l)

-- what a fit and a criterion refuse with
unfoldable pub refusal_of : Problem → ℕ → ℕ → ℕ → ℕ
refusal_of q values effects rounds = first_from 1 (early q ++ fit_later q values effects rounds)

-- what a search refuses with
unfoldable pub search_refusal_of : Problem → ℕ → ℕ → ℕ
search_refusal_of q rounds narrowings = first_from 1 (early q ++ search_later q rounds narrowings)

-- the first of 1 to 8
unfoldable pub first_of_eight : Problem → Bool → ℕ
first_of_eight q reads_theta = first_from 1 (first_eight q reads_theta)
