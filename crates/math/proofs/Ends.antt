-- What the tests before exp and ln leave: at a NaN, whose bits are not read, the definitions compute to a NaN too. Assumes nothing.
use Rattle.std.proofs.Common.{◌≡◌, ℕ, ◌*◌, ◌/◌, ◌%◌, ◌^◌, ◌<◌, ◌≤◌, pos, true, refl, arith, le-ltb, ne_eqb}
use borrow.Author.Tests.{lt-leb}
use Rattle.math.specs.Words.{pattern}
use lib.Ieee.{Float, nan, inf, fin, is_nan}
use Rattle.math.specs.Basic.{add}
use Rattle.math.specs.Exp.{exp_of}
use Rattle.math.specs.Ln.{normal_of, ln_of}
use Rattle.math.specs.laws.Computes.{exp_computes, ln_computes}
use Rattle.math.specs.laws.Order.{clash'}

pub exp_nan : (x : Float) → is_nan x ≡ true → exp_of x ≡ add x x
unfolding exp_computes is_nan
exp_nan nan h = refl
exp_nan (inf s) h = clash' h
exp_nan (fin s m e) h = clash' h

pub ln_nan : (x : Float) → is_nan x ≡ true → ln_of x ≡ add x x
unfolding ln_computes is_nan
ln_nan nan h = refl
ln_nan (inf s) h = clash' h
ln_nan (fin s m e) h = clash' h

-- a pattern from 2 ^ 52 up to infinity's is positive and normal, so that ln's rare cases are out
pub ln_normal : (x : Float) (b : ℕ) → b ≡ pattern x → 2 ^ 52 ≤ b → b < 2047 * 2 ^ 52 → normal_of x b (pos 0) ≡ ln_of x
unfolding ln_of
ln_normal x b e l u =
    rw (← e, ne_eqb (b % 2 ^ 63) 0 (λ (h : b % 2 ^ 63 ≡ 0). omega (arith, l, u, h)), lt-leb (2 ^ 63) b (omega (arith, u)), le-ltb (b / 2 ^ 32) 0x10_0000 (omega (arith, l)))
