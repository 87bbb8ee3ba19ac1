-- The test for each of document 01's numbered faults, of its own arguments.
use Rattle.std.specs.Prelude.{ℕ, ◌*◌, Bool, true, false, not, ◌&&◌, ◌||◌, cond, List, eqb, ltb, Float, length, get_or}
use Rattle.std.specs.Float.{inf}
use Rattle.std.specs.Float.Ieee.{lt}
use Rattle.math.specs.Basic.{is_finite}
use Rattle.math.specs.Lists.{every}
use Rattle.fit_faults.specs.Lists.{in_order}

-- a bound that a lower bound may be: neither NaN nor +infinity; an upper: neither NaN nor -infinity
abbrev pub is_lower : Float → Bool
is_lower x = lt x (inf false)

abbrev pub is_upper : Float → Bool
is_upper x = lt (inf true) x

-- 1: a curve code not 1 to 4
unfoldable pub bad_code : ℕ → Bool
bad_code code = ltb code 1 || ltb 4 code

-- 2: no readings, over 512, or unequal lists
unfoldable pub bad_readings : ℕ → ℕ → ℕ → Bool
bad_readings doses grams groups = ltb doses 1 || ltb 512 doses || not (eqb grams doses) || not (eqb groups doses)

-- 3: no groups or over 32
unfoldable pub bad_groups : ℕ → Bool
bad_groups group_count = ltb group_count 1 || ltb 32 group_count

-- 4: a group number not below the group count; 5: a place of an effect not below p
abbrev pub all_below : ℕ → List ℕ → Bool
all_below bound l = every (λ (i : ℕ). ltb i bound) l

-- 5: effects not one or two, a place not below p, or two equal
unfoldable pub bad_effects : ℕ → List ℕ → Bool
bad_effects p l =
    ltb (length l) 1 || ltb 2 (length l) || not (all_below p l) || (eqb (length l) 2 && eqb (get_or l 0 0) (get_or l 1 0))

-- 6: a list of starts, bounds or group bounds that is not p long
unfoldable pub bad_lengths : ℕ → ℕ → ℕ → ℕ → ℕ → ℕ → Bool
bad_lengths p starts lower upper group_lower group_upper =
    not (eqb starts p) || not (eqb lower p) || not (eqb upper p) || not (eqb group_lower p) || not (eqb group_upper p)

-- 6: theta, 1 long, or 3 for two effects
unfoldable pub bad_theta : ℕ → ℕ → Bool
bad_theta k theta = not (eqb theta (cond (eqb k 2) 3 1))

-- 7: a non-finite reading or start, a bound that none may be
unfoldable pub bad_numbers : List Float → List Float → List Float → List Float → List Float → List Float → List Float → Bool
bad_numbers doses grams starts lower upper group_lower group_upper =
    not (every is_finite doses)
    || not (every is_finite grams)
    || not (every is_finite starts)
    || not (every is_lower lower)
    || not (every is_upper upper)
    || not (every is_lower group_lower)
    || not (every is_upper group_upper)

-- 8: a lower bound above its upper
unfoldable pub bad_order : List Float → List Float → List Float → List Float → Bool
bad_order lower upper group_lower group_upper = not (in_order lower upper) || not (in_order group_lower group_upper)

-- 9: an output list that is not p, or groups times k, long
unfoldable pub bad_outputs : ℕ → ℕ → ℕ → ℕ → ℕ → Bool
bad_outputs p group_count k values effects = not (eqb values p) || not (eqb effects (group_count * k))

-- 10: over 1,000 rounds, or narrowings
unfoldable pub too_many : ℕ → Bool
too_many allowed = ltb 1000 allowed
