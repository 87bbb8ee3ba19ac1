-- The golden section search from 0.2 to 20 over any answers (`optimize_theta_golden`).
use Rattle.std.specs.Prelude.{ℕ, zero, suc, ◌+◌, Bool, cond, ◌&&◌, List, [], ◌∷◌, Float, get_or}
use Rattle.std.specs.Float.{nan}
use Rattle.std.specs.Float.Ieee.{lt, le}
use Rattle.math.specs.Basic.{add, sub, div, bits, one, two, abs_of, is_finite}
use Rattle.math.specs.Sqrt.{sqrt_of}
use Rattle.golden.specs.declared.Bracket.{Bracket}
use Rattle.golden.specs.declared.Found.{Found}

-- 0.2, 20, 1e-4 and 5, each tied to its decimal by laws/Literals.antt
abbrev pub start : Float
start = bits 0x3fc9_9999_9999_999a

abbrev pub end : Float
end = bits 0x4034_0000_0000_0000

abbrev pub tolerance : Float
tolerance = bits 0x3f1a_36e2_eb1c_432d

abbrev pub five : Float
five = bits 0x4014_0000_0000_0000

-- (1 + the rounded square root of 5) / 2
unfoldable pub factor : Float
factor = div (add one (sqrt_of five)) two

-- the inner points of the bracket from a to b
unfoldable pub left_point : Float → Float → Float
left_point a b = sub b (div (sub b a) factor)

unfoldable pub right_point : Float → Float → Float
right_point a b = add a (div (sub b a) factor)

abbrev pub width : Bracket → Float
width s = abs_of (sub s.b s.a)

unfoldable pub is_wide : Bracket → Bool
is_wide s = lt tolerance (width s)

-- the left part is kept where its criterion is strictly lower; where they are equal or one is a NaN, the right
abbrev pub keeps_left : Bracket → Bool
keeps_left s = lt s.fc s.fd

-- the inner point that a narrowing adds
unfoldable pub new_point : Bracket → Float
new_point s = cond (keeps_left s) (left_point s.a s.d) (right_point s.c s.b)

-- a narrowing; t is the new point, and x the criterion there
abbrev pub left_part : Bracket → Float → Float → Bracket
left_part s t x = record { a = s.a; b = s.d; c = t; d = s.c; fc = x; fd = s.fc }

abbrev pub right_part : Bracket → Float → Float → Bracket
right_part s t x = record { a = s.c; b = s.b; c = s.d; d = t; fc = s.fd; fd = x }

unfoldable pub narrowed : Bracket → Float → Float → Bracket
narrowed s t x = cond (keeps_left s) (left_part s t x) (right_part s t x)

-- half the sum of the ends
unfoldable pub theta_of : Bracket → Float
theta_of s = div (add s.a s.b) two

-- the narrowings made, the fits made, and the bracket that is left
pub record Run : Type 0 where
  pub made : ℕ
  pub fits : ℕ
  pub last : Bracket

abbrev pub run_ended : ℕ → ℕ → Bracket → Run
run_ended made fits s = record { made = made; fits = fits; last = s }

-- narrow enough and a finite last criterion
unfoldable pub converged_of : Bracket → Float → Bool
converged_of s x = le (width s) tolerance && is_finite x

-- what is answered; x is the criterion at theta, the last fit
abbrev pub found_with : Run → Float → Found
found_with r x =
    record { theta = theta_of r.last; criterion = x; narrowings = r.made; converged = converged_of r.last x; fits = r.fits + 1 }

-- ask i t is what the fit number i, counted from 0, answers at theta t
module _ (ask : ℕ → Float → Float) where
  abbrev pub first : Bracket
  first =
      let c = left_point start end in
      let d = right_point start end in
      record { a = start; b = end; c = c; d = d; fc = ask 0 c; fd = ask 1 d }

  -- with so many narrowings still allowed, after so many narrowings and fits
  unfoldable pub run : ℕ → ℕ → ℕ → Bracket → Run
  run zero made fits s = run_ended made fits s
  run (suc k) made fits s =
      let t = new_point s in
      let r = run k (made + 1) (fits + 1) (narrowed s t (ask fits t)) in
      cond (is_wide s) r (run_ended made fits s)

  -- the criterion once more, at theta
  unfoldable pub found_at : Run → Found
  found_at r = found_with r (ask r.fits (theta_of r.last))

  unfoldable pub golden_by : ℕ → Found
  golden_by allowed = found_at (run allowed 0 2 first)

  -- the answers, in the order of the fits
  unfoldable pub answers_from : ℕ → ℕ → Bracket → List Float
  answers_from zero fits s = ask fits (theta_of s) ∷ []
  answers_from (suc k) fits s =
      let t = new_point s in
      let x = ask fits t in
      let l = answers_from k (fits + 1) (narrowed s t x) in
      cond (is_wide s) (x ∷ l) (ask fits (theta_of s) ∷ [])

  unfoldable pub answers_by : ℕ → List Float
  answers_by allowed = ask 0 first.c ∷ ask 1 first.d ∷ answers_from allowed 2 first

-- The search over a list of answers, the first for the first fit, the second for the second, and so on; a NaN past its end. What theta is asked plays no part in the answer.
abbrev pub listed : List Float → ℕ → Float → Float
listed answers i t = get_or answers i nan

unfoldable pub golden_over : List Float → ℕ → Found
golden_over answers allowed = golden_by (listed answers) allowed
