-- The square root is correctly rounded: for every positive finite x of binary64, subnormal or not, `sqrt_of x` is a value of binary64, and each other value is farther from the real root of x.
-- In units of 2 ^ -1074, x is a, the root that is worked out is b, another value is c, and the real root is √(a * 2 ^ 1074). The middle of b and c, (b + c) / 2, lies on c's side of the real root,
-- and is never equal to it: there is no tie. Squared and times 4, that compares whole numbers. c = 0 is the value 0, and a negative value is farther still. Assumes nothing.
use Rattle.std.proofs.Common.{◌≡◌, ℕ, ◌+◌, ◌*◌, ◌^◌, ◌<◌, T, lt_trans, lt_of_lt_of_le, lt_irrefl, add_comm, mul-pos, arith, pow_pos}
use lib.Ieee.{Float, binary64, fits}
use lib.Ieee.Bits.{of_bits-fits}
use lib.Ieee.Positive.{positive}
use Rattle.math.specs.Values.{Units}
use Rattle.math.specs.Sqrt.{sqrt_of}
use Rattle.math.proofs.Values.{value, digits, one_value}
use Rattle.math.proofs.SqrtCases.{sqrt_case}
use Rattle.math.proofs.RootValue.{under_root, over_root}

pub record NearestRoot (x r : Float) : Type 0 where
  pub a : ℕ
  pub b : ℕ
  pub x_is : Units x a
  pub r_is : Units r b
  pub r_positive : 0 < b
  pub r_fits : T (fits binary64 r)
  pub below : (y : Float) (c : ℕ) → T (fits binary64 y) → Units y c → c < b → (b + c) * (b + c) < 4 * (a * 2 ^ 1074)
  pub above : (y : Float) (c : ℕ) → T (fits binary64 y) → Units y c → b < c → 4 * (a * 2 ^ 1074) < (b + c) * (b + c)

pub sqrt_nearest : (x : Float) → T (fits binary64 x) → T (positive x) → NearestRoot x (sqrt_of x)
sqrt_nearest x f p =
    let c = sqrt_case x f p in
    let w = c.root in
    record {
      a = c.a;
      b = w.s * 2 ^ c.k;
      x_is = c.x_is;
      r_is = rw w.r_is (value c.k w.s c.room w.low w.high);
      r_positive = mul-pos (lt_of_lt_of_le (pow_pos 52) w.low) (pow_pos c.k);
      r_fits = rw w.r_is (of_bits-fits binary64 (c.k * 2 ^ 52 + w.s));
      below = λ y d g u. under_root c.a c.k (sqrt_of x) w d (digits y d g u);
      above = λ y d g u. over_root c.a c.k (sqrt_of x) w d (digits y d g u);
    }

-- so the statement says which float the root is: two that are nearest are one number
module _ (x : Float) where
  not_below : (r r' : Float) (n : NearestRoot x r) (n' : NearestRoot x r') → n.b < n'.b → ⊥
  not_below r r' n n' h =
      let e : n.a ≡ n'.a = one_value x n.a n'.a n.x_is n'.x_is in
      let up : 4 * (n.a * 2 ^ 1074) < (n.b + n'.b) * (n.b + n'.b) = n.above r' n'.b n'.r_fits n'.r_is h in
      let down : (n'.b + n.b) * (n'.b + n.b) < 4 * (n'.a * 2 ^ 1074) = n'.below r n.b n.r_fits n.r_is h in
      lt_irrefl (4 * (n'.a * 2 ^ 1074)) (lt_trans (rw (e, add_comm n.b n'.b) at up) down)

  pub nearest_one : (r r' : Float) (n : NearestRoot x r) (n' : NearestRoot x r') → n.b ≡ n'.b
  nearest_one r r' n n' = omega (arith, not_below r r' n n', not_below r' r n' n)
