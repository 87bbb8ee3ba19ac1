-- The effects fit their 64 places.
use Rattle.std.specs.Prelude.{ℕ, ◌+◌, ◌*◌, ◌≤◌, ◌<◌}
use Rattle.std.proofs.Common.{lt_of_lt_of_le, mul-le-mul_right, arith}
use Rattle.math.specs.laws.Parts.{group_fits}
use Rattle.curves.specs.laws.Params.{params_most}
use Rattle.fit_refusals.specs.Problem.{Problem}
use Rattle.fit_refusals.specs.Valid.{Sized}
use Rattle.fit_step.specs.Sized.{Effects, Readings}

-- the effects of at most 32 groups lie within the 64 places, and so do one group's
pub all_fit : (group_count k : ℕ) → group_count ≤ 32 → k ≤ 2 → group_count * k ≤ 64
all_fit group_count k p q = omega (arith, mul-le-mul_right k p)

pub slot_fits : (g group_count k : ℕ) → g < group_count → group_count ≤ 32 → k ≤ 2 → g * k + k ≤ 64
slot_fits g group_count k p q r = omega (arith, group_fits g group_count k p, all_fit group_count k q r)

-- a problem without the faults 1 to 5 has these sizes
module _ (q : Problem) (h : Sized q) where
  pub effects_sized : Effects q.places
  effects_sized = record { some = h.effects_low; two = h.effects_high; within = λ r i. lt_of_lt_of_le (h.index r i) (params_most q.code) }

  pub readings_sized : Readings q.doses q.grams q.groups
  readings_sized =
      record {
        many = h.readings_high;
        grams_each = h.grams;
        group_each = h.groups;
        grouped = λ i p. lt_of_lt_of_le (h.member i (rw h.groups p)) h.groups_high;
      }
