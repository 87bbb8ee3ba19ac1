-- The pair at i is the node and the weight there, and NaNs where the rule has no point i. Assumes nothing.
use lib.Ieee.{of_bits}
use Rattle.std.proofs.Common.{arith}
use Rattle.quadrature.proofs.RuleLaws.{point_of_order}
use Rattle.quadrature.proofs.rules.gh_rule.Goals as goal

pub returns : goal.returns
unfolding of_bits
returns c = grind (arith, point_of_order c.args.order c.args.i)
