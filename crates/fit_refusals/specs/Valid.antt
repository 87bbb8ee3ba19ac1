-- What a fit or a search without faults has, place by place.
use Rattle.std.specs.Prelude.{ℕ, ◌*◌, ◌≤◌, ◌<◌, ◌≡◌, true, false, cond, eqb, length, get_or}
use Rattle.std.specs.Float.{nan}
use Rattle.std.specs.Float.Ieee.{lt}
use Rattle.math.specs.Basic.{is_finite}
use Rattle.fit_faults.specs.Tests.{is_lower, is_upper}
use Rattle.fit_refusals.specs.Problem.{Problem, p, k}

-- without 1 to 5
pub record Sized (q : Problem) : Type 0 where
  pub code_low : 1 ≤ q.code
  pub code_high : q.code ≤ 4
  pub readings_low : 1 ≤ length q.doses
  pub readings_high : length q.doses ≤ 512
  pub grams : length q.grams ≡ length q.doses
  pub groups : length q.groups ≡ length q.doses
  pub groups_low : 1 ≤ q.group_count
  pub groups_high : q.group_count ≤ 32
  pub member : (i : ℕ) → i < length q.groups → get_or q.groups i 0 < q.group_count
  pub effects_low : 1 ≤ k q
  pub effects_high : k q ≤ 2
  pub index : (i : ℕ) → i < k q → get_or q.places i 0 < p q
  pub distinct : k q ≡ 2 → get_or q.places 0 0 ≡ get_or q.places 1 0 → ⊥

-- without 6, 7 and 8 either, theta left out: of the p places of each list
pub record Valid (q : Problem) : Type 0 where
  pub sizes : Sized q
  pub starts : length q.starts ≡ p q
  pub lower : length q.lower ≡ p q
  pub upper : length q.upper ≡ p q
  pub group_lower : length q.group_lower ≡ p q
  pub group_upper : length q.group_upper ≡ p q
  pub dose_finite : (i : ℕ) → i < length q.doses → is_finite (get_or q.doses i nan) ≡ true
  pub gram_finite : (i : ℕ) → i < length q.doses → is_finite (get_or q.grams i nan) ≡ true
  pub start_finite : (i : ℕ) → i < p q → is_finite (get_or q.starts i nan) ≡ true
  pub is_lower_lem : (i : ℕ) → i < p q → is_lower (get_or q.lower i nan) ≡ true
  pub is_upper_lem : (i : ℕ) → i < p q → is_upper (get_or q.upper i nan) ≡ true
  pub is_group_lower : (i : ℕ) → i < p q → is_lower (get_or q.group_lower i nan) ≡ true
  pub is_group_upper : (i : ℕ) → i < p q → is_upper (get_or q.group_upper i nan) ≡ true
  pub order : (i : ℕ) → i < p q → lt (get_or q.upper i nan) (get_or q.lower i nan) ≡ false
  pub group_order : (i : ℕ) → i < p q → lt (get_or q.group_upper i nan) (get_or q.group_lower i nan) ≡ false

-- a fit without faults, its output lists being values and effects long
pub record ValidFit (q : Problem) (values effects rounds : ℕ) : Type 0 where
  pub valid : Valid q
  pub theta : length q.theta ≡ cond (eqb (k q) 2) 3 1
  pub theta_finite : (i : ℕ) → i < length q.theta → is_finite (get_or q.theta i nan) ≡ true
  pub values_long : values ≡ p q
  pub effects_long : effects ≡ q.group_count * k q
  pub few_rounds : rounds ≤ 1000

-- a search without faults
pub record ValidSearch (q : Problem) (rounds narrowings : ℕ) : Type 0 where
  pub valid : Valid q
  pub one_effect : k q ≡ 1
  pub few_rounds : rounds ≤ 1000
  pub few_narrowings : narrowings ≤ 1000
