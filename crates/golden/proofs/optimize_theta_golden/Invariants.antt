-- The loop keeps what `Going` says (proofs/Loop.antt), and each narrowing leaves one less to make.
use Prim.Native.Nat.{◌-◌}
use Rattle.golden.proofs.Loop.{Going}
use Rattle.golden.proofs.optimize_theta_golden.Given as goal

abbrev pub invariant-loop-t : goal.invariant-loop-t
invariant-loop-t g l = Going (λ t x. goal.F-post g l.criterion t x) l.allowed l.s l.narrowings l.fits

abbrev pub decreases-loop-t : goal.decreases-loop-t
decreases-loop-t g l = l.allowed - l.narrowings
