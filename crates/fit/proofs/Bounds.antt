-- Of a valid problem the start, and each trial from a state in its bounds, has p values that are no NaN before the projection, and the
-- projection then puts them in their bounds, which are no NaN and in order. A trial's values are no NaN, if perhaps infinite, since a
-- direction is finite and a length is at most 1. Assumes nothing.
use mathlib.Core.Path.{◌≡◌, refl, sym, ◌∙◌, subst}
use mathlib.Core.Bool.{Bool, true, false, ◌||◌, cond}
use mathlib.Core.List.{List}
use Rattle.std.specs.Prelude.{Option, Some, None}
use Prim.Native.Nat.{ℕ, ◌+◌, ◌*◌, ◌<◌}
use native.Mathlib.Nat.{lt_of_lt_of_le}
use native.Mathlib.Omega.{arith}
use lib.Dec.{T}
use lib.Ieee.{Float, nan, lt, is_nan, of_bits}
use lib.ListN.{length, get_or, replicate, length-replicate, length-set}
use Rattle.math.specs.Basic as Basic
use Rattle.math.specs.Basic.{mul, is_finite, abs_of}
use Rattle.math.specs.laws.Lists.{every_at}
use Rattle.math.specs.laws.Order.{lt_self}
use Rattle.math.specs.laws.Numbers.{finite_number, add_number}
use Rattle.math.specs.Rationals.{1e-8}
use Rattle.curves.specs.MeanFn.{scal_index_of}
use Rattle.block_solve.proofs.Sound.{Sound}
use Rattle.fit_refusals.specs.Problem.{Problem, p, k}
use Rattle.fit_refusals.specs.Valid.{Valid}
use Rattle.fit_step.specs.declared.State.{State}
use Rattle.fit_step.specs.Constants.{three_fifty, 1e-6}
use Rattle.fit_step.specs.Project.{clamp_of, clamp_at, project_of, group_clamp, slot_at, slot_of, project_slot, project_groups}
use Rattle.fit_step.specs.Trial.{at_place, on_scal, adjusted, floored, start_at, started, start_state, moved_at, moved_of, values_tried, effects_tried, tried_of}
use Rattle.curves.specs.laws.Params.{params_most}
use Rattle.fit.specs.Demand3.{Inside, InBounds}
use Rattle.fit.proofs.Floats.{mul_finite, short}
use Rattle.fit_refusals.specs.laws.Valid.{lower_number, upper_number}
use Rattle.fit.proofs.Lists.{iter_length, alter_keeps, each_at_lem, each_length}
use Rattle.std.proofs.lemmas.Bool.{cond_both}

-- ---- the clamp

module _ (lo hi v : Float) (l : is_nan lo ≡ false) (h : is_nan hi ≡ false) (o : lt hi lo ≡ false) (n : is_nan v ≡ false) where
  picked : (b c : Bool) → lt v lo ≡ b → lt hi v ≡ c → Inside lo hi (cond b lo (cond c hi v))
  picked true c x y = record { number = l; low = lt_self lo; high = o }
  picked false true x y = record { number = h; low = o; high = lt_self hi }
  picked false false x y = record { number = n; low = x; high = y }

  clamp_inside : Inside lo hi (clamp_of lo hi v)
  clamp_inside = picked (lt v lo) (lt hi v) refl refl

-- ---- the first n elements are no NaN

abbrev Numbers : ℕ → List Float → Type 0
Numbers n l = (i : ℕ) → i < n → is_nan (get_or l i nan) ≡ false

-- ---- scal

place_numbers : (n : ℕ) (o : Option ℕ) (f : Float → Float) (l : List Float) → ((v : Float) → is_nan v ≡ false → is_nan (f v) ≡ false) → Numbers n l
    → Numbers n (at_place o f l)
place_numbers n None f l h x i b = x i b
place_numbers n (Some j) f l h x i b = alter_keeps (λ (v : Float). is_nan v ≡ false) l j i f h (x i b)

place_length : (o : Option ℕ) (f : Float → Float) (l : List Float) → length (at_place o f l) ≡ length l
place_length None f l = refl
place_length (Some j) f l = length-set l j (f (get_or l j nan))

scal_numbers : (n code : ℕ) (f : Float → Float) (l : List Float) → ((v : Float) → is_nan v ≡ false → is_nan (f v) ≡ false) → Numbers n l
    → Numbers n (on_scal code f l)
unfolding on_scal
scal_numbers n code f l h x = place_numbers n (scal_index_of code) f l h x

scal_length : (code : ℕ) (f : Float → Float) (l : List Float) → length (on_scal code f l) ≡ length l
unfolding on_scal
scal_length code f l = place_length (scal_index_of code) f l

number_350 : is_nan three_fifty ≡ false
unfolding is_nan of_bits
number_350 = refl

number_1e_6 : is_nan 1e-6 ≡ false
unfolding is_nan of_bits
number_1e_6 = refl

adjusted_number : (v : Float) → is_nan v ≡ false → is_nan (adjusted v) ≡ false
adjusted_number v h = cond_both (lt (abs_of v) 1e-8) three_fifty v (λ (x : Float). is_nan x ≡ false) (λ _. number_350) (λ _. h)

floored_number : (v : Float) → is_nan v ≡ false → is_nan (floored v) ≡ false
floored_number v h = cond_both (lt v 1e-6) 1e-6 v (λ (x : Float). is_nan x ≡ false) (λ _. number_1e_6) (λ _. h)

-- ---- the projection of the effects keeps their number

module _ (q : Problem) where
  slot_length : (values : List Float) (r : ℕ) (b : List Float) → length (project_slot q values r b) ≡ length b
  unfolding slot_of
  slot_length values r b =
      let lo = get_or q.group_lower (get_or q.places r 0) nan in
      let hi = get_or q.group_upper (get_or q.places r 0) nan in
      let beta = get_or values (get_or q.places r 0) nan in
      let f = group_clamp lo hi beta in
      cond_both (is_finite lo || is_finite hi) (slot_of q r lo hi beta b) b (λ (x : List Float). length x ≡ length b)
      (λ _. iter_length (slot_at q r f) (λ g l. length-set l (g * k q + r) (f (get_or l (g * k q + r) nan))) q.group_count b) (λ _. refl)

  groups_length : (values b : List Float) → length (project_groups q values b) ≡ length b
  unfolding project_groups
  groups_length values b = iter_length (project_slot q values) (slot_length values) (k q) b

module _ (q : Problem) (valid : Valid q) where
  reach : (i : ℕ) → i < p q → i < 4
  reach i x = lt_of_lt_of_le x (params_most q.code)

  -- ---- p numbers, projected, lie in the bounds
  project_inside : (l b : List Float) → length l ≡ 4 → length b ≡ 64 → Numbers (p q) l
      → InBounds q (record { values = project_of q l; effects = b })
  unfolding project_of
  project_inside l b e u h =
      record {
        size = each_length (clamp_at q.lower q.upper) (p q) l ∙ e;
        room = u;
        inside = λ i x.
            let lo = get_or q.lower i nan in
            let hi = get_or q.upper i nan in
            subst (λ (v : Float). Inside lo hi v) (sym (each_at_lem (clamp_at q.lower q.upper) l (p q) i x (subst (λ (n : ℕ). i < n) (sym e) (reach i x))))
            (clamp_inside lo hi (get_or l i nan) (lower_number lo (valid.is_lower_lem i x)) (upper_number hi (valid.is_upper_lem i x))
            (valid.order i x) (h i x));
      }

  -- ---- the start
  started_numbers : Numbers (p q) (started q)
  unfolding started
  started_numbers i x =
      subst (λ (v : Float). is_nan v ≡ false) (sym (each_at_lem (start_at q) (replicate 4 Basic.zero) (p q) i x (reach i x)))
      (finite_number (get_or q.starts i nan) (valid.start_finite i x))

  started_length : length (started q) ≡ 4
  unfolding started
  started_length = each_length (start_at q) (p q) (replicate 4 Basic.zero)

  pub start_inside : InBounds q (start_state q)
  unfolding start_state
  start_inside =
      let l = started q in
      project_inside (on_scal q.code adjusted l) (replicate 64 Basic.zero) (scal_length q.code adjusted l ∙ started_length) (length-replicate 64 Basic.zero)
      (scal_numbers (p q) q.code adjusted l adjusted_number started_numbers)

  -- ---- a trial
  module _ (s : State) (d : List Float) (alpha : Float) (b : InBounds q s) (sound : Sound (p q) (k q) q.group_count d) (a : T (short alpha)) where
    moved_numbers : Numbers (p q) (moved_of (p q) 0 d alpha s.values)
    unfolding moved_of
    moved_numbers i x =
        let step = get_or d (0 + i) nan in
        subst (λ (v : Float). is_nan v ≡ false)
        (sym (each_at_lem (moved_at 0 d alpha) s.values (p q) i x (subst (λ (n : ℕ). i < n) (sym b.size) (reach i x))))
        (add_number (get_or s.values i nan) (mul alpha step) (b.inside i x).number
        (mul_finite alpha step a (sound.held (0 + i)) (every_at is_finite d (0 + i) nan sound.finite (omega (arith, x, sound.size)))))

    moved_length : (n at : ℕ) (l : List Float) → length (moved_of n at d alpha l) ≡ length l
    unfolding moved_of
    moved_length n at l = each_length (moved_at at d alpha) n l

    pub tried_inside : InBounds q (tried_of q s d alpha)
    unfolding tried_of values_tried effects_tried
    tried_inside =
        let l = moved_of (p q) 0 d alpha s.values in
        let v = values_tried q d alpha s.values in
        let e = moved_of (q.group_count * k q) (p q) d alpha s.effects in
        project_inside (on_scal q.code floored l) (project_groups q v e)
        (scal_length q.code floored l ∙ moved_length (p q) 0 s.values ∙ b.size)
        (groups_length q v e ∙ moved_length (q.group_count * k q) (p q) s.effects ∙ b.room)
        (scal_numbers (p q) q.code floored l floored_number moved_numbers)
