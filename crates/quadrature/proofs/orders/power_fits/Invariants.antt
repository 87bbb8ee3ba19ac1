-- p is the power so far, and no more than 400.
use Rattle.std.proofs.Common.{◌≡◌, ◌^◌, ◌≤◌}
use Rattle.quadrature.specs.Orders.{max_points}
use Rattle.quadrature.proofs.orders.power_fits.Given as goal

abbrev pub invariant-loop : goal.invariant-loop
invariant-loop l = (l.p ≡ l.ord ^ l.counter) × (l.p ≤ max_points)
