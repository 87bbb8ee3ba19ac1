-- The first of two lists of faults, and a problem that has none of the first eight. Assumes nothing.
use Prim.Native.Nat.{ℕ, suc, ◌+◌, ◌<◌}
use mathlib.Core.Path.{◌≡◌, refl}
use mathlib.Core.Bool.{Bool, true, false, cond, ◌||◌}
use mathlib.Core.List.{List, [], ◌∷◌, ◌++◌}
use native.Mathlib.Nat.{add-zero, zero-lt-suc}
use native.Mathlib.Omega.{arith}
use borrow.Author.Tests.{ne_eqb}
use lib.Dec.{eqb}
use lib.ListN.{length}
use Rattle.fit_faults.specs.Tests.{all_below, bad_code, bad_readings, bad_groups, bad_effects, bad_outputs, too_many}
use Rattle.fit_refusals.specs.Problem.{Problem, p, k}
use Rattle.fit_refusals.specs.Valid.{Valid}
use Rattle.fit_refusals.specs.laws.Valid.{sized, valid_of}
use Rattle.fit_refusals.specs.Faults.{wrong_lengths, wrong_numbers, wrong_order, first_from, first_eight, first_of_eight, refusal_of, search_refusal_of}

-- the first fault of a list, or of the one after it
abbrev then_later : ℕ → ℕ → ℕ
then_later n m = cond (eqb n 0) m n

first_then : (i : ℕ) (a b : List Bool) → 0 < i → first_from i (a ++ b) ≡ then_later (first_from i a) (first_from (i + length a) b)
unfolding first_from
first_then i [] b h = rw (add-zero i)
first_then i (true ∷ a) b h = let e : eqb i 0 ≡ false = ne_eqb i 0 (λ z. omega (arith, z, h)) in rw e
first_then i (false ∷ a) b h = let e : i + suc (length a) ≡ suc i + length a = omega arith in rw e (first_then (suc i) a b (zero-lt-suc i))

module _ (q : Problem) where
  pub fit_split : (values effects rounds : ℕ) → refusal_of q values effects rounds
      ≡ then_later (first_of_eight q true) (cond (bad_outputs (p q) q.group_count (k q) values effects) 9 (cond (too_many rounds) 10 0))
  unfolding refusal_of first_of_eight first_from
  fit_split values effects rounds = first_then 1 (first_eight q true) (bad_outputs (p q) q.group_count (k q) values effects ∷ too_many rounds ∷ []) (zero-lt-suc 0)

  pub search_split : (rounds narrowings : ℕ) → search_refusal_of q rounds narrowings
      ≡ then_later (first_of_eight q false) (cond (too_many rounds || eqb (k q) 2 || too_many narrowings) 10 0)
  unfolding search_refusal_of first_of_eight first_from
  search_split rounds narrowings = first_then 1 (first_eight q false) (false ∷ (too_many rounds || eqb (k q) 2 || too_many narrowings) ∷ []) (zero-lt-suc 0)

  -- a problem that passes each test has what `Valid` says
  pub passed : bad_code q.code ≡ false → bad_readings (length q.doses) (length q.grams) (length q.groups) ≡ false → bad_groups q.group_count ≡ false
      → all_below q.group_count q.groups ≡ true → bad_effects (p q) q.places ≡ false → wrong_lengths q ≡ false → wrong_numbers q ≡ false → wrong_order q ≡ false → Valid q
  unfolding first_from
  passed code readings group_count member effects = valid_of q (sized q (rw (code, readings, group_count, member, effects) refl))
