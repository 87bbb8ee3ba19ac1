-- Each order's points are a part of the list. Assumes nothing.
use lib.Ieee.{round, neg}
use Rattle.std.proofs.Common.{refl, arith}
use Rattle.std.proofs.lemmas.Bool.Decides.{nat_tests}
use Rattle.quadrature.specs.Rules.{gh_nodes, gh_weights, z3, z5, z7, z9, z11, w3, w5, w7, w9, w11, all_points}
use Rattle.quadrature.proofs.rules.rule.Goals as goal

pub returns-in-3 : goal.returns-in-3
unfolding gh_nodes gh_weights z3 z5 z7 z9 z11 w3 w5 w7 w9 w11 all_points round neg
returns-in-3 c = rw (c.in-3.is, c.part.ensures) refl

pub returns-in-5 : goal.returns-in-5
unfolding gh_nodes gh_weights z3 z5 z7 z9 z11 w3 w5 w7 w9 w11 all_points round neg
returns-in-5 c = rw (c.in-5.is, c.part-in-5.ensures) refl

pub returns-in-7 : goal.returns-in-7
unfolding gh_nodes gh_weights z3 z5 z7 z9 z11 w3 w5 w7 w9 w11 all_points round neg
returns-in-7 c = rw (c.in-7.is, c.part-in-7.ensures) refl

pub returns-in-9 : goal.returns-in-9
unfolding gh_nodes gh_weights z3 z5 z7 z9 z11 w3 w5 w7 w9 w11 all_points round neg
returns-in-9 c = rw (c.in-9.is, c.part-in-9.ensures) refl

pub returns-in-11 : goal.returns-in-11
unfolding gh_nodes gh_weights z3 z5 z7 z9 z11 w3 w5 w7 w9 w11 all_points round neg
returns-in-11 c = rw (c.in-11.is, c.part-in-11.ensures) refl

pub returns-in_default : goal.returns-in_default
unfolding gh_nodes gh_weights
returns-in_default c = grind (arith, nat_tests)
