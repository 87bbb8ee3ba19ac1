-- One round of a fit (`inner_gauss_newton_status`), as a trace: what happens from a state on, with the attempts and lengths that are left. The rounds of a whole fit,
-- specs/Fit.antt of crate fit, are made of it. An outer loop goes on through `win` and `next`, so that the first winner leaves both the lengths and the attempts.
use Rattle.std.specs.Prelude.{ℕ, zero, suc, Bool, true, false, cond, Option, Some, None, List, [], ◌∷◌, Float}
use Rattle.std.specs.Float.Ieee.{lt}
use Rattle.math.specs.Basic.{mul, bits, half, one}
use Rattle.block_solve.specs.declared.normal.BlockNormal.{BlockNormal}
use Rattle.block_solve.specs.Direction.{direction_of}
use Rattle.fit_refusals.specs.Problem.{Problem, p, k}
use Rattle.fit_step.specs.declared.State.{State}
use Rattle.math.specs.Lists.{largest_of}
use Rattle.fit_step.specs.Trial.{tried_of, step_of, lowered, raised}
use Rattle.fit_penalized.specs.Penalized.{penalized_rss}

-- a proposal or a step below it ends the fit as converged; laws/Literals.antt ties it to its decimal
abbrev pub 1e-10 : Float
1e-10 = bits 0x3ddb_7cdf_d9d7_bdbb

-- a state tried, after floor and projection, and its penalised sum
pub record Trial : Type 0 where
  pub state : State
  pub sum : Float

-- what follows on a state: the states accepted and all trials, in order; the rounds begun; and whether it converged
pub record Trace : Type 0 where
  pub accepted : List State
  pub trials : List Trial
  pub rounds : ℕ
  pub converged : Bool

-- nothing follows
abbrev pub ended : Bool → Trace
ended c = record { accepted = []; trials = []; rounds = 0; converged = c }

-- first a trial; then t
abbrev pub tried : State → Float → Trace → Trace
tried z v t = record { accepted = t.accepted; trials = record { state = z; sum = v } ∷ t.trials; rounds = t.rounds; converged = t.converged }

-- the state accepted last, or s
abbrev pub last_accepted : State → List State → State
last_accepted s [] = s
last_accepted s (z ∷ l) = last_accepted z l

module _ (q : Problem) where
  abbrev pub direction : BlockNormal → Float → Option (List Float)
  direction n lambda = direction_of n (p q) (k q) q.group_count lambda

  -- one round, from the state s with the normal blocks n and the sum old. `win` goes on from a winner, with the new lambda and the step's size
  module _ (s : State) (n : BlockNormal) (old : Float) (win : State → Float → Float → Trace) where
    -- the lengths left, from alpha on; `next` goes on from the lambda of a failed attempt
    unfoldable pub lengths : ℕ → (Float → Trace) → List Float → Float → Float → Trace
    lengths zero next d lambda alpha = next (raised lambda)
    lengths (suc m) next d lambda alpha =
        let z = tried_of q s d alpha in
        let v = penalized_rss q z in
        let w = win z (lowered lambda) (step_of alpha d) in
        let r = lengths m next d lambda (mul alpha half) in
        tried z v (cond (lt v old) w r)

    -- an attempt: none where there is no direction, converged where the proposal is below 1e-10, else 20 lengths from 1
    abbrev pub along : (Float → Trace) → Float → Option (List Float) → Trace
    along next lambda None = ended false
    along next lambda (Some d) =
        let t = lengths 20 next d lambda one in
        cond (lt (largest_of d) 1e-10) (ended true) t

    -- the attempts left
    unfoldable pub attempts : ℕ → Float → Trace
    attempts zero lambda = ended false
    attempts (suc m) lambda = along (λ l. attempts m l) lambda (direction n lambda)
