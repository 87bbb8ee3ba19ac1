-- After i turns x is 10 ^ i, each product rounded.
use Rattle.std.proofs.Common.{◌≡◌}
use Rattle.math.specs.Loops.{iter}
use Rattle.math.specs.Basic.{mul, bits, one}
use Rattle.svg_axes.proofs.axes.ten_to.Given as goal

abbrev pub invariant-loop-i : goal.invariant-loop-i
invariant-loop-i l = l.x ≡ iter (λ k y. mul y (bits 0x4024_0000_0000_0000)) l._i one
