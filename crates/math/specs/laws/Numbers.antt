-- Results that are numbers, if perhaps infinite ones: rounding gives no NaN, nor does a number plus a finite one, nor a number over a positive finite one. Assumes nothing.
use Rattle.std.specs.Prelude.{◌≡◌, ℕ, zero, suc, ◌+◌, ◌-◌, ◌*◌, ◌^◌, Bool, true, false, cond, ◌&&◌, T, nat_eq, nat_lt, refl, Float}
use Rattle.std.specs.Bool.{beq}
use Rattle.std.proofs.Common.{arith, ltb→lt, ne_eqb}
use Rattle.std.specs.Float.{nan, inf, fin, Format, binary64}
use Rattle.std.specs.Float.Ieee.{is_nan, odd, units, round, sum, low, prec, emax, up, down, unlike}
use Rattle.std.specs.Float.Ieee as Ieee
use Rattle.std.specs.Float.Ieee.Positive.{positive}
use Rattle.math.specs.Basic.{is_finite, add, div}
use Rattle.math.specs.laws.Order.{clash, clash'}

pub finite_number : (x : Float) → is_finite x ≡ true → is_nan x ≡ false
unfolding is_finite is_nan
finite_number nan h = clash' h
finite_number (inf s) h = refl
finite_number (fin s m e) h = refl

odd_number : (d : ℕ) (s : Bool) (q k l : ℕ) → is_nan (odd d s q k l) ≡ false
unfolding odd is_nan
odd_number d s zero k l = refl
odd_number d s (suc q) k l = refl

pick_number : (t : Bool) (x y : Float) → is_nan x ≡ false → is_nan y ≡ false → is_nan (cond t x y) ≡ false
pick_number true x y p q = p
pick_number false x y p q = q

inf_number : (s : Bool) → is_nan (inf s) ≡ false
unfolding is_nan
inf_number s = refl

units_number : (f : Format) (s : Bool) (q k : ℕ) → is_nan (units f s q k) ≡ false
unfolding units
units_number f s q k =
    pick_number (nat_lt (q * 2 ^ k) (2 ^ (low f + suc (emax f)))) (odd (suc (prec f)) s q k (low f)) (inf s) (odd_number (suc (prec f)) s q k (low f)) (inf_number s)

pub round_number : (f : Format) (s : Bool) (a b : ℕ) → is_nan (round f s a b) ≡ false
unfolding round
round_number f s a b = units_number f s _ _

sum_number : (f : Format) (s : Bool) (a : ℕ) (t : Bool) (b c : ℕ) → is_nan (sum f s a t b c) ≡ false
unfolding sum
sum_number f s a t b c =
    pick_number (beq s t) (round f s (a + b) c) (cond (nat_lt a b) (round f t (b - a) c) (round f (s && nat_lt b a) (a - b) c)) (round_number f s (a + b) c)
    (pick_number (nat_lt a b) (round f t (b - a) c) (round f (s && nat_lt b a) (a - b) c) (round_number f t (b - a) c) (round_number f (s && nat_lt b a) (a - b) c))

pub add_number : (x y : Float) → is_nan x ≡ false → is_finite y ≡ true → is_nan (add x y) ≡ false
unfolding Ieee.add is_finite is_nan
add_number nan y p q = clash p
add_number (inf s) nan p q = clash' q
add_number (inf s) (inf t) p q = clash' q
add_number (inf s) (fin t n d) p q = refl
add_number (fin s m e) nan p q = clash' q
add_number (fin s m e) (inf t) p q = clash' q
add_number (fin s m e) (fin t n d) p q = sum_number binary64 s (m * up e * down d) t (n * up d * down e) (down e * down d)

pub div_number : (x y : Float) → is_nan x ≡ false → T (positive y) → is_nan (div x y) ≡ false
unfolding Ieee.div is_nan
div_number nan y p q = clash p
div_number (inf s) nan p q = absurd q
div_number (inf s) (inf t) p q = absurd q
div_number (inf s) (fin t n d) p q = refl
div_number (fin s m e) nan p q = absurd q
div_number (fin s m e) (inf t) p q = absurd q
div_number (fin s m e) (fin true n d) p q = absurd q
div_number (fin s m e) (fin false n d) p q =
    let z : nat_eq n 0 ≡ false = ne_eqb n 0 (λ (h : n ≡ 0). omega (arith, ltb→lt 0 n q)) in
    rw z (round_number binary64 (unlike s false) (m * up e * down d) (n * up d * down e))
