-- Digits make a number no smaller, and one that was capped goes on as the number itself would. Assumes nothing.
use Prim.Native.Char.{code}
use Rattle.std.proofs.Common.{◌≡◌, ℕ, ◌+◌, ◌-◌, ◌*◌, ◌≤◌, Bool, true, false, leb, List, [], ◌∷◌, ◌++◌, refl, le_refl, arith, leb-true, leb-false, ap, sym, ◌∙◌}
use Rattle.read_decimal.specs.Scan.{digits_value_from, limit, capped_value}

pub grows : (n : ℕ) (w : List ℕ) → n ≤ digits_value_from n w
unfolding digits_value_from
grows n [] = le_refl n
grows n (b ∷ w) = let r : n * 10 + (b - code "0") ≤ digits_value_from (n * 10 + (b - code "0")) w = grows (n * 10 + (b - code "0")) w in omega arith

pub value_append : (n : ℕ) (u w : List ℕ) → digits_value_from n (u ++ w) ≡ digits_value_from (digits_value_from n u) w
unfolding digits_value_from
value_append n [] w = refl
value_append n (b ∷ u) w = value_append (n * 10 + (b - code "0")) u w

pub capped_from : (m : ℕ) (w : List ℕ) → capped_value (digits_value_from (capped_value m) w) ≡ capped_value (digits_value_from m w)
capped_from m w = go (leb m limit) refl
  where
    go : (b : Bool) → leb m limit ≡ b → capped_value (digits_value_from (capped_value m) w) ≡ capped_value (digits_value_from m w)
    go true e = let s : capped_value m ≡ m = omega (arith, leb-true m limit e) in rw s
    go false e =
        let s : capped_value m ≡ limit = omega (arith, leb-false m limit e) in
        rw s (omega (arith, leb-false m limit e, grows limit w, grows m w))

pub capped_more : (n : ℕ) (u w : List ℕ) → capped_value (digits_value_from (capped_value (digits_value_from n u)) w) ≡ capped_value (digits_value_from n (u ++ w))
capped_more n u w = capped_from (digits_value_from n u) w ∙ ap capped_value (sym (value_append n u w))
