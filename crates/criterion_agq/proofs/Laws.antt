-- An order that is taken has 3 to 11 points. Assumes nothing.
use Prim.Native.Nat.{ℕ, ◌≤◌}
use mathlib.Core.Path.{◌≡◌, sym, ◌∙◌}
use Rattle.std.specs.Prelude.{Some}
use native.Mathlib.Omega.{arith}
use Rattle.quadrature.specs.Orders.{product_of}
use Rattle.quadrature.proofs.OrderLaws.{order_range, product_is_order}

pub order_few : (n k o : ℕ) → 1 ≤ k → k ≤ 2 → product_of n k ≡ Some o → (1 ≤ o) × (o ≤ 11)
order_few n k o p q e = let r = order_range n o (sym (product_is_order n k p q) ∙ e) in (omega (arith, r.0), r.1)
