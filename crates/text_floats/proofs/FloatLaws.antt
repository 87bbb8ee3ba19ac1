-- What the loop over the decimals needs of the definitions.
use Prim.Native.Char.{code}
use Rattle.std.proofs.Common.{◌≡◌, ℕ, zero, suc, ◌+◌, ◌-◌, ◌/◌, ◌%◌, ◌^◌, ◌<◌, [], ◌∷◌, arith, sub-one}
use native.Mathlib.Nat.{one-le-pow}
use Rattle.text_buffer.specs.Text.{Written, wrote}
use Rattle.text_buffer.specs.laws.Text.{wrote_none, wrote_then}
use Rattle.text_floats.specs.Floats.{last_digits, fraction_text}

pub ten_pos : (k : ℕ) → 0 < 10 ^ k
ten_pos k = one-le-pow k 10 (omega arith)

pub digits_none : (w : Written) (n k : ℕ) → k ≡ 0 → wrote w (last_digits k n) ≡ w
unfolding last_digits
digits_none w n k e = rw e (wrote_none w)

pub digits_then : (w : Written) (n k : ℕ) → 0 < k → wrote w (last_digits k n) ≡ wrote (wrote w ((code "0" + n / 10 ^ (k - 1) % 10) ∷ [])) (last_digits (k - 1) n)
unfolding last_digits
digits_then w n zero h = absurd (omega arith)
digits_then w n (suc k) h = rw sub-one (wrote_then w ((code "0" + n / 10 ^ k % 10) ∷ []) (last_digits k n))

pub fraction_none : (w : Written) (n d : ℕ) → d ≡ 0 → wrote w (fraction_text n d) ≡ w
unfolding fraction_text
fraction_none w n d e = rw e (wrote_none w)

pub fraction_then : (w : Written) (n d : ℕ) → 0 < d → wrote w (fraction_text n d) ≡ wrote (wrote w (code "." ∷ [])) (last_digits d n)
unfolding fraction_text
fraction_then w n zero h = absurd (omega arith)
fraction_then w n (suc d) h = wrote_then w (code "." ∷ []) (last_digits (suc d) n)

pub ruleset fractions = (ten_pos, digits_none, digits_then, fraction_none, fraction_then)
