-- What document 01 says of every curve, proved from the definition: the order of the refusals, and the gradients past the p-th. Its marked rows stand in
-- crates/worked_examples. Assumes nothing.
use Rattle.std.specs.Prelude.{ℕ, ◌≡◌, refl, Bool, true, false, cond, List, [], ◌∷◌, map, get_or, Float}
use Rattle.std.specs.Float.{nan}
use Rattle.math.specs.Basic.{zero, one}
use Rattle.curves.specs.declared.Mean.{Mean}
use Rattle.curves.specs.Sslogis.{sslogis_of}
use Rattle.curves.specs.Ssasymp.{ssasymp_of}
use Rattle.curves.specs.Ssmicmen.{micmen_of, overflow_of, ssmicmen_of}
use Rattle.curves.specs.MeanFn.{four_of, eval_of}
use Rattle.curves.specs.Curve.{curve_of}
use Rattle.curves.specs.laws.Computes.{curve_computes}

-- the refusals of a code 0 to 5 with no values: 1 comes before 6
pub refusals_hold : map (λ (code : ℕ). (curve_of code [] one).0) (0 ∷ 1 ∷ 2 ∷ 3 ∷ 4 ∷ 5 ∷ []) ≡ 1 ∷ 6 ∷ 6 ∷ 6 ∷ 6 ∷ 1 ∷ []
unfolding curve_computes
refusals_hold = refl

-- ---- gradients past the p-th are +0, at every value and dose
both : (b : Bool) (m n : Mean) → (m.d2 ≡ zero) × (m.d3 ≡ zero) → (n.d2 ≡ zero) × (n.d3 ≡ zero) → ((cond b m n).d2 ≡ zero) × ((cond b m n).d3 ≡ zero)
both true m n p q = p
both false m n p q = q

pub past_sslogis : (v : List Float) (x : Float) → (eval_of 1 v x).d3 ≡ zero
unfolding eval_of sslogis_of
past_sslogis v x = refl

pub past_ssasymp : (v : List Float) (x : Float) → (eval_of 2 v x).d3 ≡ zero
unfolding eval_of ssasymp_of
past_ssasymp v x = refl

pub past_ssmicmen : (v : List Float) (x : Float) → ((eval_of 3 v x).d2 ≡ zero) × ((eval_of 3 v x).d3 ≡ zero)
unfolding eval_of ssmicmen_of micmen_of
past_ssmicmen v x = both (overflow_of (get_or v 1 nan) x) _ _ (refl, refl) (refl, refl)

-- ---- a curve reads four values at most
pub eval_four : (code : ℕ) (v : List Float) (x : Float) → eval_of code (four_of v) x ≡ eval_of code v x
unfolding eval_of
eval_four code v x = refl
