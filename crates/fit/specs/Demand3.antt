-- Demand 3 of a fit, as one claim about the list of its states and the list of its trials. Definitions only; `demand3` in the proofs shows
-- the claim for every fit without a numbered fault.
use Rattle.std.specs.Prelude.{◌≡◌, true, false, cond, List, [], ◌∷◌, ℕ, ◌-◌, ◌*◌, ◌≤◌, ◌<◌, Float, length, get_or, take}
use Rattle.std.specs.Float.{nan}
use Rattle.std.specs.Float.Ieee.{lt, is_nan}
use Rattle.fit_refusals.specs.Problem.{Problem, p, k}
use Rattle.fit_step.specs.declared.State.{State}
use Rattle.fit_step.specs.Trial.{start_state}
use Rattle.fit_penalized.specs.Penalized.{penalized_rss}
use Rattle.fit_round.specs.Round.{Trial}
use Rattle.fit.specs.Fit.{Fit, fit_answer}

-- A curve value lies in its bounds when it is neither NaN, nor below the lower, nor above the upper. It may be infinite where the bounds are:
-- a finite value plus a finite step can overflow.
pub record Inside (lo hi v : Float) : Type 0 where
  pub number : is_nan v ≡ false
  pub low : lt v lo ≡ false
  pub high : lt hi v ≡ false

-- Each of a state's p curve values lies in its bounds. The state has its four and 64 places.
pub record InBounds (q : Problem) (s : State) : Type 0 where
  pub size : length s.values ≡ 4
  pub room : length s.effects ≡ 64
  pub inside : (i : ℕ) → i < p q → Inside (get_or q.lower i nan) (get_or q.upper i nan) (get_or s.values i nan)

-- what `get_or` gives past the end of a list; the claim reads no such place
abbrev pub no_state : State
no_state = record { values = []; effects = [] }

abbrev pub no_trial : Trial
no_trial = record { state = no_state; sum = nan }

-- The states of the trials that win, in order. A trial wins when its sum is strictly lower than x, the sum of the state accepted last, or of
-- the start; a trial that wins is accepted. Against a NaN none wins.
unfoldable pub winners_of : Float → List Trial → List State
winners_of x [] = []
winners_of x (t ∷ l) = cond (lt t.sum x) (t.state ∷ winners_of t.sum l) (winners_of x l)

-- The claim about the fit f of the problem q with so many rounds allowed. Its list of states and its trials are those of the whole fit, over
-- all rounds and attempts.
pub record Demand3 (q : Problem) (allowed : ℕ) (f : Fit) : Type 0 where
  -- the states are the adjusted, projected start with zero effects, and then the state of each trial that wins, and no other
  pub accepts : f.states ≡ start_state q ∷ winners_of (penalized_rss q (start_state q)) f.trials
  -- each state's penalised sum is strictly lower than that of every earlier state, not only of the one before
  pub falls : (i j : ℕ) → i < j → j < length f.states → lt (penalized_rss q (get_or f.states j no_state)) (penalized_rss q (get_or f.states i no_state)) ≡ true
  -- the last state of the list is the fit's result
  pub last : get_or f.states (length f.states - 1) no_state ≡ f.state
  -- its p curve values, and its effects, group after group, are what is written, bit for bit
  pub values : take (p q) f.state.values ≡ (fit_answer q f).values
  pub effects : take (q.group_count * k q) f.state.effects ≡ (fit_answer q f).effects
  -- these are p values and groups times k effects, the lengths of a valid call's output lists
  pub written : (length (fit_answer q f).values ≡ p q) × (length (fit_answer q f).effects ≡ q.group_count * k q)
  -- every curve value of every state and of every trial, won or lost, lies in its bounds
  pub states : (i : ℕ) → i < length f.states → InBounds q (get_or f.states i no_state)
  pub trials : (i : ℕ) → i < length f.trials → InBounds q (get_or f.trials i no_trial).state
  -- the sum that a trial is decided by is the penalised sum of its state
  pub sums : (i : ℕ) → i < length f.trials → (get_or f.trials i no_trial).sum ≡ penalized_rss q (get_or f.trials i no_trial).state
  -- the number of trials returned is that of the trials, each counted once, won or lost
  pub counted : (fit_answer q f).trials ≡ length f.trials
  -- at most 12 attempts of 20 lengths for each round begun
  pub few : (fit_answer q f).trials ≤ 240 * (fit_answer q f).rounds
  -- no more rounds begin than are allowed
  pub begun : (fit_answer q f).rounds ≤ allowed
