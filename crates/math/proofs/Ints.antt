-- What the signed exponent k of exp and ln asks. Assumes nothing.
use Rattle.std.proofs.Common.{◌≡◌, ℕ, suc, ◌+◌, ◌-◌, ◌%◌, ◌^◌, ◌<◌, ◌≤◌, Bool, true, false, cond, ltb, ℤ, pos, negsuc, ◌+ℤ◌, refl, arith, to_z-of_z, w64, SFits, to_z, of_z, eq-eqb, ne_eqb}
use lib.Signed.{mag}
use lib.Ieee.{Float, fin, binary64, lt, le, to_signed, of_bits}
use lib.Ieee as Ieee
use lib.Ieee.Casts.{to_signed_in}
use Rattle.std.specs.Int.{cast_unsigned}
use Rattle.math.specs.Words.{low12, is_zero}

-- ---- the lowest 12 bits
pub low_lem : (k : ℤ) → SFits w64 k → cast_unsigned w64 k % 4096 ≡ low12 k
unfolding low12
low_lem (pos n) f = refl
low_lem (negsuc n) f = omega (arith, f.sfits)

-- ---- is it 0
pub zero_yes : (k : ℤ) → SFits w64 k → of_z w64 k ≡ 0 → is_zero k ≡ true
unfolding is_zero
zero_yes (pos n) f h = eq-eqb n 0 h
zero_yes (negsuc n) f h = absurd (omega (arith, f.sfits, h))

pub zero_no : (k : ℤ) → (of_z w64 k ≡ 0 → ⊥) → is_zero k ≡ false
unfolding is_zero
zero_no (pos n) h = ne_eqb n 0 h
zero_no (negsuc n) h = refl

-- ---- the range of `to_int`, and what it keeps
pub low_end : Ieee.neg (of_bits binary64 0x43e0_0000_0000_0000) ≡ fin true 1 (pos 63)
unfolding Ieee.neg of_bits
low_end = refl

pub high_end : of_bits binary64 0x43e0_0000_0000_0000 ≡ fin false 1 (pos 63)
unfolding of_bits
high_end = refl

pub to_signed_back : (v : Float) → to_z w64 (of_z w64 (to_signed 63 v)) ≡ to_signed 63 v
to_signed_back v = to_z-of_z {w = w64} (record { sfits = to_signed_in 63 v })

-- ---- a sum of small numbers is small
mag_sub : (a c : ℕ) (t : Bool) → mag (cond t (negsuc (c - suc a)) (pos (a - c))) ≤ a + c
mag_sub a c true = omega arith
mag_sub a c false = omega arith

pub mag_add : (a b : ℤ) → mag (a +ℤ b) ≤ suc (mag a + mag b)
mag_add (pos a) (pos b) = omega arith
mag_add (pos a) (negsuc b) = omega (arith, mag_sub a (suc b) (ltb a (suc b)))
mag_add (negsuc a) (pos b) = omega (arith, mag_sub b (suc a) (ltb b (suc a)))
mag_add (negsuc a) (negsuc b) = omega arith

pub sfits_small : (z : ℤ) → mag z < 2 ^ 20 → SFits w64 z
sfits_small z h = record { sfits = omega (arith, h) }
