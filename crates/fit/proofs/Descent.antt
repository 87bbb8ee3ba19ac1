-- What holds of every trace, by induction over lengths, attempts and rounds: the accepted states are those of the trials that win, every
-- trial lies in its bounds, and the trials and rounds are no more than allowed. A winner's sum is below the sum of the state that the round
-- began with, and the next round begins with the winner's state, hence with its sum. Assumes nothing.
use mathlib.Core.Path.{◌≡◌, refl, ap, ◌∙◌}
use mathlib.Core.Bool.{Bool, true, false, ◌&&◌, cond}
use mathlib.Core.List.{List, ◌∷◌}
use Rattle.std.specs.Prelude.{Option, Some, None}
use Prim.Native.Nat.{ℕ, zero, suc, ◌+◌, ◌*◌, ◌≤◌}
use native.Mathlib.Omega.{arith}
use lib.Dec.{T}
use lib.Ieee.{Float, lt, of_bits}
use lib.Ieee as Ieee
use lib.Ieee.Fits.{and_l, and_r}
use lib.ListN.{length}
use Rattle.math.specs.Basic.{mul, half, one}
use Rattle.math.specs.laws.Loops.{pick_true, pick_false}
use Rattle.block_solve.specs.declared.normal.BlockNormal.{BlockNormal}
use Rattle.block_solve.proofs.Sound.{Sound, direction_sound}
use Rattle.fit_refusals.specs.Problem.{Problem, p, k}
use Rattle.fit_refusals.specs.Valid.{Valid}
use Rattle.fit_step.specs.declared.State.{State}
use Rattle.math.specs.Lists.{largest_of}
use Rattle.fit_step.specs.Trial.{tried_of, step_of, lowered, raised}
use Rattle.fit_penalized.specs.Penalized.{penalized_rss}
use Rattle.fit_penalized.specs.Normal.{normal_blocks}
use Rattle.fit_round.specs.Round.{1e-10, Trial, Trace, ended, tried, direction, lengths, along, attempts}
use Rattle.fit.specs.Fit.{won, begun, rounds}
use Rattle.fit.specs.Demand3.{InBounds, winners_of}
use Rattle.fit.proofs.Floats.{short}
use Rattle.std.specs.List.{AllByRecursion}
use Rattle.std.proofs.lemmas.Bool.{cond_both}
use Rattle.curves.specs.laws.Params.{params_most}
use Rattle.fit.proofs.Bounds.{tried_inside}

-- the lengths 1, 1/2, .. are at most 1
abbrev short_from : ℕ → Float → Bool
short_from zero a = true
short_from (suc m) a = short a && short_from m (mul a half)

all_short : T (short_from 20 one)
unfolding Ieee.mul of_bits
all_short = tt

module _ (q : Problem) where
  -- a trial lies in its bounds, and its sum is its state's
  abbrev pub Tried : Trial → Type 0
  Tried t = InBounds q t.state × (t.sum ≡ penalized_rss q t.state)

  -- a trace from a state with the sum old: at most n rounds begin, and at most c trials beside 240 for each of them
  pub record TraceLaw (n c : ℕ) (old : Float) (t : Trace) : Type 0 where
    pub accepts : winners_of old t.trials ≡ t.accepted
    pub trials : AllByRecursion Tried t.trials
    pub few : length t.trials ≤ c + 240 * t.rounds
    pub begun : t.rounds ≤ n

  module _ (n : ℕ) (old : Float) where
    ended_law : (c : ℕ) (b : Bool) → TraceLaw n c old (ended b)
    unfolding winners_of
    ended_law c b = record { accepts = refl; trials = tt; few = omega arith; begun = omega arith }

    more : (c d : ℕ) (t : Trace) → c ≤ d → TraceLaw n c old t → TraceLaw n d old t
    more c d t h g = record { accepts = g.accepts; trials = g.trials; few = omega (arith, g.few, h); begun = g.begun }

    -- a lost trial, and what follows on the old state
    lost_law : (c : ℕ) (z : State) (t : Trace) → InBounds q z → lt (penalized_rss q z) old ≡ false → TraceLaw n c old t → TraceLaw n (suc c) old (tried z (penalized_rss q z) t)
    unfolding winners_of
    lost_law c z t b h g =
        record {
          accepts = pick_false (lt (penalized_rss q z) old) (z ∷ winners_of (penalized_rss q z) t.trials) (winners_of old t.trials) h ∙ g.accepts;
          trials = ((b, refl), g.trials);
          few = omega (arith, g.few);
          begun = g.begun;
        }

    -- a trial that wins, and what follows on its state
    won_law : (c : ℕ) (z : State) (t : Trace) → InBounds q z → lt (penalized_rss q z) old ≡ true → TraceLaw n c (penalized_rss q z) t
        → TraceLaw n (suc c) old (tried z (penalized_rss q z) (won z t))
    unfolding winners_of
    won_law c z t b h g =
        record {
          accepts = pick_true (lt (penalized_rss q z) old) (z ∷ winners_of (penalized_rss q z) t.trials) (winners_of old t.trials) h ∙ ap (λ (l : List State). z ∷ l) g.accepts;
          trials = ((b, refl), g.trials);
          few = omega (arith, g.few);
          begun = g.begun;
        }

    begun_law : (t : Trace) → TraceLaw n 240 old t → TraceLaw (suc n) 0 old (begun t)
    begun_law t g =
        record { accepts = g.accepts; trials = g.trials; few = omega (arith, g.few); begun = omega (arith, g.begun) }

  module _ (valid : Valid q) where
    -- ---- one round, after which n more may begin; `onward` goes on from a winner
    module _ (n : ℕ) (s : State) (blocks : BlockNormal) (onward : State → Float → Float → Trace) (inside : InBounds q s)
        (wins : (z : State) (l step : Float) → InBounds q z → TraceLaw n 0 (penalized_rss q z) (onward z l step))
      where
        abbrev old : Float
        old = penalized_rss q s

        abbrev win : State → Float → Float → Trace
        win z l step = won z (onward z l step)

        decided : (c : ℕ) (z : State) (w r : Trace) (t : Bool) → lt (penalized_rss q z) old ≡ t → InBounds q z → TraceLaw n 0 (penalized_rss q z) w → TraceLaw n c old r
            → TraceLaw n (suc c) old (tried z (penalized_rss q z) (cond t (won z w) r))
        decided c z w r true e b f g = won_law n old c z w b e (more n (penalized_rss q z) 0 c w (omega arith) f)
        decided c z w r false e b f g = lost_law n old c z r b e g

        module _ (c : ℕ) (next : Float → Trace) (nexts : (l : Float) → TraceLaw n c old (next l)) (d : List Float) (sound : Sound (p q) (k q) q.group_count d) (lambda : Float) where
          lengths_law : (m : ℕ) (alpha : Float) → T (short_from m alpha) → TraceLaw n (m + c) old (lengths q s blocks old win m next d lambda alpha)
          unfolding lengths
          lengths_law zero alpha a = more n old c (0 + c) (next (raised lambda)) (omega arith) (nexts (raised lambda))
          lengths_law (suc m) alpha a =
              let z = tried_of q s d alpha in
              let b : InBounds q z = tried_inside q valid s d alpha inside sound (and_l (short alpha) (short_from m (mul alpha half)) a) in
              let w = onward z (lowered lambda) (step_of alpha d) in
              let r = lengths q s blocks old win m next d lambda (mul alpha half) in
              let t = tried z (penalized_rss q z) (cond (lt (penalized_rss q z) old) (won z w) r) in
              more n old (suc (m + c)) (suc m + c) t (omega arith)
              (decided (m + c) z w r (lt (penalized_rss q z) old) refl b (wins z (lowered lambda) (step_of alpha d) b)
              (lengths_law m (mul alpha half) (and_r (short alpha) (short_from m (mul alpha half)) a)))

        along_law : (m : ℕ) (lambda : Float) → ((l : Float) → TraceLaw n (20 * m) old (attempts q s blocks old win m l)) → (o : Option (List Float))
            → direction q blocks lambda ≡ o → TraceLaw n (20 * suc m) old (along q s blocks old win (λ l. attempts q s blocks old win m l) lambda o)
        along_law m lambda rest None e = ended_law n old (20 * suc m) false
        along_law m lambda rest (Some d) e =
            let next : Float → Trace = λ l. attempts q s blocks old win m l in
            let t = lengths q s blocks old win 20 next d lambda one in
            let size = valid.sizes in
            let sound = direction_sound blocks (p q) (k q) q.group_count lambda d (params_most q.code) size.effects_low size.effects_high e in
            cond_both (lt (largest_of d) 1e-10) (ended true) t (TraceLaw n (20 * suc m) old) (λ _. ended_law n old (20 * suc m) true)
            (λ _. more n old (20 + 20 * m) (20 * suc m) t (omega arith) (lengths_law (20 * m) next rest d sound lambda 20 one all_short))

        attempts_law : (m : ℕ) (lambda : Float) → TraceLaw n (20 * m) old (attempts q s blocks old win m lambda)
        unfolding attempts
        attempts_law zero lambda = ended_law n old (20 * 0) false
        attempts_law (suc m) lambda = along_law m lambda (λ l. attempts_law m l) (direction q blocks lambda) refl

    -- ---- all rounds
    pub rounds_law : (m : ℕ) (s : State) (lambda : Float) → InBounds q s → TraceLaw m 0 (penalized_rss q s) (rounds q m s lambda)
    unfolding rounds
    rounds_law zero s lambda b = ended_law 0 (penalized_rss q s) 0 false
    rounds_law (suc m) s lambda b =
        let onward : State → Float → Float → Trace = λ z l step. cond (lt step 1e-10) (ended true) (rounds q m z l) in
        begun_law m (penalized_rss q s) (attempts q s (normal_blocks q s) (penalized_rss q s) (λ z l step. won z (onward z l step)) 12 lambda)
        (attempts_law m s (normal_blocks q s) onward b
        (λ z l step i. cond_both (lt step 1e-10) (ended true) (rounds q m z l) (TraceLaw m 0 (penalized_rss q z)) (λ _. ended_law m (penalized_rss q z) 0 true) (λ _. rounds_law m z l i))
        12 lambda)
