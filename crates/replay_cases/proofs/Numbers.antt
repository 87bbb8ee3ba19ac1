-- A word's digits read from place i on, after those that make n. Assumes nothing.
use Rattle.std.proofs.Common.{◌≡◌, refl, ap, ℕ, suc, ◌+◌, ◌*◌, ◌^◌, ◌<◌, ◌≤◌, false, List, [], ◌∷◌, length, drop, get_or, Some, None, arith, add-one, lt-ltb, le-ltb, drop-cons, unwrap_or, drop_of_length-le}
use Rattle.std.proofs.Math.Bool.{and-false}
use Rattle.std.proofs.Math.Nat.{le_refl, mul-le-mul_left, mul-one}
use Rattle.replay_cases.specs.Digits.{digit_of, is_below, are_digits, digits_from, in_base_from}

-- digits that are appended make a number no smaller
grows : (base n : ℕ) (w : List ℕ) → 0 < base → n ≤ digits_from base n w
unfolding digits_from
grows base n [] p = le_refl n
grows base n (b ∷ w) p =
    let m : n * 1 ≤ n * base = mul-le-mul_left n p in
    let r = grows base (n * base + unwrap_or (digit_of b) 0) w p in
    omega (arith, mul-one n)

value_more : (base n b d : ℕ) (w : List ℕ) → digit_of b ≡ Some d → digits_from base n (b ∷ w) ≡ digits_from base (n * base + d) w
unfolding digits_from
value_more base n b d w e = ap (λ o. digits_from base (n * base + unwrap_or o 0) w) e

module _ (base n : ℕ) (w : List ℕ) (i : ℕ) (h : i < length w) where
  pub no_digit : is_below base (digit_of (get_or w i 0)) ≡ false → in_base_from base n (drop i w) ≡ None
  unfolding in_base_from are_digits
  no_digit e = rw (drop-cons w i 0, e)

  module _ (d : ℕ) (e : digit_of (get_or w i 0) ≡ Some d) (p : d < base) where
    pub digit_more : in_base_from base n (drop i w) ≡ in_base_from base (n * base + d) (drop (i + 1) w)
    unfolding in_base_from are_digits
    digit_more = rw (add-one i, drop-cons w i 0, value_more base n (get_or w i 0) d (drop (suc i) w) e, e, lt-ltb d base p)

    pub too_large : 2 ^ 64 ≤ n * base + d → in_base_from base n (drop i w) ≡ None
    unfolding in_base_from
    too_large q =
        let g : n * base + d ≤ digits_from base (n * base + d) (drop (i + 1) w) = grows base (n * base + d) (drop (i + 1) w) (omega arith) in
        rw digit_more (rw (le-ltb (digits_from base (n * base + d) (drop (i + 1) w)) (2 ^ 64) (omega arith), and-false) refl)

pub no_more : (base n : ℕ) (w : List ℕ) (i : ℕ) → n < 2 ^ 64 → length w ≤ i → in_base_from base n (drop i w) ≡ Some n
unfolding in_base_from are_digits digits_from
no_more base n w i p q = rw (drop_of_length-le w q, lt-ltb n (2 ^ 64) p)

pub ruleset digits = (no_digit, digit_more, too_large, no_more)
