-- The definition's lists compute to the decimals of the code's list, rounded. Assumes nothing.
use lib.Ieee.{of_bits, round, neg}
use Rattle.std.proofs.Common.{◌≡◌, ◌+◌, ◌-◌, refl, arith}
use Rattle.quadrature.specs.Rules.{gh_nodes, gh_weights, z3, z5, z7, z9, z11, w3, w5, w7, w9, w11, all_points}
use Rattle.quadrature.proofs.rules.part.Goals as goal

pub returns : goal.returns
unfolding gh_nodes gh_weights z3 z5 z7 z9 z11 w3 w5 w7 w9 w11 all_points of_bits round neg
returns c =
    let e : c.args.from + c.args.n - c.args.from ≡ c.args.n = omega arith in
    rw e refl
