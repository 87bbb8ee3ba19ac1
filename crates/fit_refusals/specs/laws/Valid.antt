-- A fit or a search without faults has what specs/Valid.antt says. Assumes nothing.
use Rattle.std.specs.Prelude.{ℕ, zero, suc, ◌*◌, ◌≤◌, ◌<◌, ◌≡◌, Bool, true, List, [], ◌∷◌, ◌++◌, eqb, Float, get_or}
use Rattle.std.proofs.Math.Path.{refl}
use Rattle.std.proofs.Common.{zero-lt-suc, mul-le-mul, arith}
use Rattle.std.proofs.Math.Bool.{false}
use Rattle.std.proofs.Math.Dec.{ltb}
use Rattle.std.specs.Float.Ieee.{nan, lt, is_nan}
use Rattle.std.specs.Float.{inf, fin}
use borrow.Author.Tests.{ltb-true, ltb-false, eqb-true, eqb-false, eq-eqb, not-false}
use Rattle.math.specs.Basic.{is_finite}
use Rattle.math.specs.laws.Lists.{every_at}
use Rattle.math.specs.laws.Order.{clash', above_num}
use Rattle.std.proofs.lemmas.Bool.{or_parts}
use Rattle.fit_faults.specs.laws.Lists.{order_at}
use Rattle.fit_faults.specs.Tests.{is_lower, is_upper, bad_code, bad_readings, bad_groups, bad_effects, bad_lengths, bad_theta, bad_numbers, bad_order, bad_outputs, too_many}
use Rattle.fit_refusals.specs.Problem.{Problem, p, k, at_theta}
use Rattle.fit_refusals.specs.Valid.{Sized, Valid, ValidFit, ValidSearch}
use Rattle.fit_refusals.specs.Faults.{early, wrong_lengths, wrong_numbers, wrong_order, fit_later, search_later, first_from, refusal_of, search_refusal_of}

-- ---- no first fault: no fault

pub first_none : (i : ℕ) (b : Bool) (l : List Bool) → 0 < i → first_from i (b ∷ l) ≡ 0 → (b ≡ false) × (first_from (suc i) l ≡ 0)
unfolding first_from
first_none i true l p h = let no : ⊥ = omega (arith, p, h) in absurd no
first_none i false l p h = (refl, h)

none_at : (i : ℕ) (l : List Bool) → 0 < i → first_from i l ≡ 0 → (j : ℕ) → get_or l j false ≡ false
none_at i [] p h j = refl
none_at i (b ∷ l) p h zero = (first_none i b l p h).0
none_at i (b ∷ l) p h (suc j) = none_at (suc i) l (zero-lt-suc i) (first_none i b l p h).1 j

within : {i n l : ℕ} → l ≡ n → i < n → i < l
within e h = omega arith

-- without 1 to 5
module _ (q : Problem) (ok : first_from 1 (early q) ≡ 0) where
  no_early : (j : ℕ) → get_or (early q) j false ≡ false
  no_early = none_at 1 (early q) (zero-lt-suc 0) ok

  pub sized : Sized q
  unfolding bad_code bad_readings bad_groups bad_effects
  sized =
      let code = or_parts _ _ (no_early 0) in
      let fourth = or_parts _ _ (no_early 1) in
      let third = or_parts _ _ fourth.0 in
      let readings = or_parts _ _ third.0 in
      let group_count = or_parts _ _ (no_early 2) in
      let equal = or_parts _ _ (no_early 4) in
      let index = or_parts _ _ equal.0 in
      let effects = or_parts _ _ index.0 in
      record {
        code_low = ltb-false _ _ code.0;
        code_high = ltb-false _ _ code.1;
        readings_low = ltb-false _ _ readings.0;
        readings_high = ltb-false _ _ readings.1;
        grams = eqb-true _ _ (not-false _ third.1);
        groups = eqb-true _ _ (not-false _ fourth.1);
        groups_low = ltb-false _ _ group_count.0;
        groups_high = ltb-false _ _ group_count.1;
        member = λ i h. ltb-true _ _ (every_at (λ (g : ℕ). ltb g q.group_count) q.groups i 0 (not-false _ (no_early 3)) h);
        effects_low = ltb-false _ _ effects.0;
        effects_high = ltb-false _ _ effects.1;
        index = λ i h. ltb-true _ _ (every_at (λ (j : ℕ). ltb j (p q)) q.places i 0 (not-false _ index.1) h);
        distinct = λ e. eqb-false _ _ (rw (eq-eqb _ _ e) at equal.1);
      }

-- and without 6, 7 and 8, theta left out
module _ (q : Problem) (size : Sized q) (lengths : wrong_lengths q ≡ false) (numbers : wrong_numbers q ≡ false) (order : wrong_order q ≡ false) where
  pub valid_of : Valid q
  unfolding bad_lengths bad_numbers bad_order
  valid_of =
      let l5 = or_parts _ _ lengths in
      let l4 = or_parts _ _ l5.0 in
      let l3 = or_parts _ _ l4.0 in
      let l2 = or_parts _ _ l3.0 in
      let n7 = or_parts _ _ numbers in
      let n6 = or_parts _ _ n7.0 in
      let n5 = or_parts _ _ n6.0 in
      let n4 = or_parts _ _ n5.0 in
      let n3 = or_parts _ _ n4.0 in
      let n2 = or_parts _ _ n3.0 in
      let o = or_parts _ _ order in
      let starts = eqb-true _ _ (not-false _ l2.0) in
      let lower = eqb-true _ _ (not-false _ l2.1) in
      let upper = eqb-true _ _ (not-false _ l3.1) in
      let group_lower = eqb-true _ _ (not-false _ l4.1) in
      let group_upper = eqb-true _ _ (not-false _ l5.1) in
      record {
        sizes = size;
        starts = starts;
        lower = lower;
        upper = upper;
        group_lower = group_lower;
        group_upper = group_upper;
        dose_finite = λ i h. every_at is_finite q.doses i nan (not-false _ n2.0) h;
        gram_finite = λ i h. every_at is_finite q.grams i nan (not-false _ n2.1) (within size.grams h);
        start_finite = λ i h. every_at is_finite q.starts i nan (not-false _ n3.1) (within starts h);
        is_lower_lem = λ i h. every_at is_lower q.lower i nan (not-false _ n4.1) (within lower h);
        is_upper_lem = λ i h. every_at is_upper q.upper i nan (not-false _ n5.1) (within upper h);
        is_group_lower = λ i h. every_at is_lower q.group_lower i nan (not-false _ n6.1) (within group_lower h);
        is_group_upper = λ i h. every_at is_upper q.group_upper i nan (not-false _ n7.1) (within group_upper h);
        order = λ i h. order_at q.lower q.upper i (not-false _ o.0) (within lower h) (within upper h);
        group_order = λ i h. order_at q.group_lower q.group_upper i (not-false _ o.1) (within group_lower h) (within group_upper h);
      }

-- ---- a fit, a search

first_part : (i : ℕ) (a b : List Bool) → 0 < i → first_from i (a ++ b) ≡ 0 → first_from i a ≡ 0
unfolding first_from
first_part i [] b p h = refl
first_part i (x ∷ a) b p h = let r = first_none i x (a ++ b) p h in rw r.0 (first_part (suc i) a b (zero-lt-suc i) r.1)

module _ (q : Problem) (values effects rounds : ℕ) (ok : refusal_of q values effects rounds ≡ 0) where
  no_fault : (j : ℕ) → get_or (early q ++ fit_later q values effects rounds) j false ≡ false
  unfolding refusal_of
  no_fault = none_at 1 (early q ++ fit_later q values effects rounds) (zero-lt-suc 0) ok

  pub fit_valid : ValidFit q values effects rounds
  unfolding refusal_of bad_theta bad_outputs too_many
  fit_valid =
      let six = or_parts _ _ (no_fault 5) in
      let seven = or_parts _ _ (no_fault 6) in
      let nine = or_parts _ _ (no_fault 8) in
      record {
        valid = valid_of q (sized q (first_part 1 (early q) _ (zero-lt-suc 0) ok)) six.0 seven.0 (no_fault 7);
        theta = eqb-true _ _ (not-false _ six.1);
        theta_finite = λ i h. every_at is_finite q.theta i nan (not-false _ seven.1) h;
        values_long = eqb-true _ _ (not-false _ nine.0);
        effects_long = eqb-true _ _ (not-false _ nine.1);
        few_rounds = ltb-false _ _ (no_fault 9);
      }

one_theta : (n : ℕ) → eqb n 2 ≡ false → bad_theta n 1 ≡ false
unfolding bad_theta
one_theta n h = rw h

module _ (q : Problem) (rounds narrowings : ℕ) (ok : search_refusal_of q rounds narrowings ≡ 0) where
  no_search_fault : (j : ℕ) → get_or (early q ++ search_later q rounds narrowings) j false ≡ false
  unfolding search_refusal_of
  no_search_fault = none_at 1 (early q ++ search_later q rounds narrowings) (zero-lt-suc 0) ok

  pub search_valid : ValidSearch q rounds narrowings
  unfolding search_refusal_of too_many
  search_valid =
      let size = sized q (first_part 1 (early q) _ (zero-lt-suc 0) ok) in
      let ten = or_parts _ _ (no_search_fault 9) in
      let two = or_parts _ _ ten.0 in
      record {
        valid = valid_of q size (no_search_fault 5) (no_search_fault 6) (no_search_fault 7);
        one_effect = omega (arith, size.effects_low, size.effects_high, eqb-false _ _ two.1);
        few_rounds = ltb-false _ _ two.0;
        few_narrowings = ltb-false _ _ ten.1;
      }

  -- so every fit that it makes is without faults
  pub search_fits : (t : Float) → is_finite t ≡ true → refusal_of (at_theta q t) (p q) (q.group_count * k q) rounds ≡ 0
  unfolding refusal_of first_from bad_outputs
  search_fits t h =
      let ten = or_parts _ _ (no_search_fault 9) in
      let two = or_parts _ _ ten.0 in
      let few : too_many rounds ≡ false = two.0 in
      let theta : bad_theta (k q) 1 ≡ false = one_theta (k q) two.1 in
      simp (
        no_search_fault 0,
        no_search_fault 1,
        no_search_fault 2,
        no_search_fault 3,
        no_search_fault 4,
        no_search_fault 5,
        no_search_fault 6,
        no_search_fault 7,
        h,
        few,
        theta,
        eq-eqb (p q) (p q) refl,
        eq-eqb (q.group_count * k q) (q.group_count * k q) refl,
      )

-- ---- sizes and numbers

pub few_effects : (q : Problem) → Sized q → q.group_count * k q ≤ 64
few_effects q s = mul-le-mul s.groups_high s.effects_high

pub lower_number : (x : Float) → is_lower x ≡ true → is_nan x ≡ false
unfolding lt is_nan
lower_number nan h = clash' h
lower_number (inf s) h = refl
lower_number (fin s m e) h = refl

pub upper_number : (x : Float) → is_upper x ≡ true → is_nan x ≡ false
upper_number x h = above_num (inf true) x h
