-- What a fit, a criterion and a search are given.
use Rattle.std.specs.Prelude.{ℕ, ◌+◌, ◌*◌, Bool, ◌&&◌, List, [], ◌∷◌, eqb, Float, length}
use Rattle.curves.specs.MeanFn.{n_params_of}

-- readings, each with its group, the number of groups, the places of the effects among the curve values, and starts, bounds and group bounds by position; a search is given no theta, and has the empty list
pub record Problem : Type 0 where
  pub code : ℕ
  pub doses : List Float
  pub grams : List Float
  pub groups : List ℕ
  pub group_count : ℕ
  pub places : List ℕ
  pub starts : List Float
  pub lower : List Float
  pub upper : List Float
  pub group_lower : List Float
  pub group_upper : List Float
  pub theta : List Float

-- the problem of a call's arguments, in their order
abbrev pub problem_of : ℕ → List Float → List Float → List ℕ → ℕ → List ℕ → List Float → List Float → List Float → List Float → List Float → List Float → Problem
problem_of code doses grams groups group_count places starts lower upper group_lower group_upper theta =
    record {
      code = code;
      doses = doses;
      grams = grams;
      groups = groups;
      group_count = group_count;
      places = places;
      starts = starts;
      lower = lower;
      upper = upper;
      group_lower = group_lower;
      group_upper = group_upper;
      theta = theta;
    }

-- `scalar_ssasymp`, by the code and the number of effects: curve 2 with one effect
unfoldable pub is_scalar : ℕ → ℕ → Bool
is_scalar code k = eqb k 1 && eqb code 2

module _ (q : Problem) where
  -- p, the number of curve values, and k, the number of effects of a group
  abbrev pub p : ℕ
  p = n_params_of q.code

  abbrev pub k : ℕ
  k = length q.places

  -- how long a direction is: p numbers for the values, then k for the effects of each group
  abbrev pub direction_length : ℕ
  direction_length = p + q.group_count * k

  -- the fit that a search makes at theta t
  abbrev pub at_theta : Float → Problem
  at_theta t =
      problem_of q.code q.doses q.grams q.groups q.group_count q.places q.starts q.lower q.upper q.group_lower q.group_upper (t ∷ [])
