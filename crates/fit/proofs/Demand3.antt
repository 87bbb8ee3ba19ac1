-- Demand 3 for every valid fit. The accepted states are the winners among the trials (Descent), so that each has a sum below the one before
-- it, hence below every earlier one, and lies in its bounds as the trials do. Assumes nothing.
use mathlib.Core.Path.{◌≡◌, refl, sym, ap, subst}
use mathlib.Core.Bool.{Bool, true, false, cond}
use mathlib.Core.List.{List, [], ◌∷◌}
use Prim.Native.Nat.{ℕ, zero, suc, ◌-◌, ◌*◌, ◌≤◌, ◌<◌}
use native.Mathlib.Nat.{le_of_suc-le-suc, not-suc-le-zero}
use native.Mathlib.Omega.{arith}
use lib.Ieee.{Float, lt}
use lib.ListN.{length, get_or, take}
use lib.Seq.{length-take-le}
use Rattle.math.specs.laws.Order.{lt_trans}
use Rattle.fit_refusals.specs.Problem.{Problem, p, k}
use Rattle.fit_refusals.specs.Faults.{refusal_of}
use Rattle.fit_refusals.specs.Valid.{Valid}
use Rattle.fit_refusals.specs.laws.Valid.{fit_valid, few_effects}
use Rattle.fit_step.specs.declared.State.{State}
use Rattle.fit_step.specs.Trial.{start_state, first_lambda}
use Rattle.fit_penalized.specs.Penalized.{penalized_rss}
use Rattle.fit_round.specs.Round.{Trial, Trace, last_accepted}
use Rattle.fit.specs.Fit.{rounds, trace_of, whole_of, fit_of}
use Rattle.fit.specs.Demand3 as Claim
use Rattle.fit.specs.Demand3.{InBounds, no_state, no_trial, winners_of}
use Rattle.std.specs.List.{AllByRecursion}
use Rattle.std.proofs.lemmas.List.Elements.{All-from_recursion}
use Rattle.curves.specs.laws.Params.{params_most}
use Rattle.fit.proofs.Bounds.{start_inside}
use Rattle.fit.proofs.Descent.{Tried, TraceLaw, rounds_law}

module _ (q : Problem) where
  -- each sum is below the one before it, the first below x
  abbrev Falls : Float → List State → Type 0
  Falls x [] = Unit {0}
  Falls x (z ∷ l) = (lt (penalized_rss q z) x ≡ true) × Falls (penalized_rss q z) l

  -- ---- the winners of trials fall from x, and lie in their bounds
  abbrev Winners : Float → List State → Type 0
  Winners x l = Falls x l × AllByRecursion (InBounds q) l

  first : (x v : Float) (z : State) (l r : List State) (b : Bool) → InBounds q z → v ≡ penalized_rss q z → lt v x ≡ b → Winners v l → Winners x r
      → Winners x (cond b (z ∷ l) r)
  first x v z l r true i e h w k = ((subst (λ (y : Float). lt y x ≡ true) e h, subst (λ (y : Float). Falls y l) e w.0), (i, w.1))
  first x v z l r false i e h w k = k

  winners : (x : Float) (l : List Trial) → AllByRecursion (Tried q) l → Winners x (winners_of x l)
  unfolding winners_of
  winners x [] h = (tt, tt)
  winners x (t ∷ l) h =
      first x t.sum t.state (winners_of t.sum l) (winners_of x l) (lt t.sum x) h.0.0 h.0.1 refl (winners t.sum l h.1) (winners x l h.1)

  -- ---- every later sum is below x, since each is below the one before it
  falls_below : (x : Float) (l : List State) → Falls x l → (j : ℕ) → j < length l → lt (penalized_rss q (get_or l j no_state)) x ≡ true
  falls_below x [] h j b = absurd (not-suc-le-zero b)
  falls_below x (z ∷ l) h zero b = h.0
  falls_below x (z ∷ l) h (suc j) b =
      lt_trans (penalized_rss q (get_or l j no_state)) (penalized_rss q z) x (falls_below (penalized_rss q z) l h.1 j (le_of_suc-le-suc b)) h.0

  falls_all : (s : State) (l : List State) → Falls (penalized_rss q s) l → (i j : ℕ) → i < j → j < suc (length l)
      → lt (penalized_rss q (get_or (s ∷ l) j no_state)) (penalized_rss q (get_or (s ∷ l) i no_state)) ≡ true
  falls_all s l h i zero a b = absurd (not-suc-le-zero a)
  falls_all s l h zero (suc j) a b = falls_below (penalized_rss q s) l h j (le_of_suc-le-suc b)
  falls_all s [] h (suc i) (suc j) a b = absurd (not-suc-le-zero (le_of_suc-le-suc b))
  falls_all s (z ∷ l) h (suc i) (suc j) a b = falls_all z l h.1 i j (le_of_suc-le-suc a) (le_of_suc-le-suc b)

  -- ---- the last state
  last_inside : (s : State) (l : List State) → InBounds q s → AllByRecursion (InBounds q) l → InBounds q (last_accepted s l)
  last_inside s [] b h = b
  last_inside s (z ∷ l) b h = last_inside z l h.0 h.1

  sizes : Valid q → (s : State) → InBounds q s → (length (take (p q) s.values) ≡ p q) × (length (take (q.group_count * k q) s.effects) ≡ q.group_count * k q)
  sizes valid s b = (
    length-take-le (p q) s.values (subst (λ (n : ℕ). p q ≤ n) (sym b.size) (params_most q.code)),
    length-take-le (q.group_count * k q) s.effects (subst (λ (n : ℕ). q.group_count * k q ≤ n) (sym b.room) (few_effects q valid.sizes)),
  )

last_at : (s : State) (l : List State) → get_or (s ∷ l) (length l) no_state ≡ last_accepted s l
last_at s [] = refl
last_at s (z ∷ l) = last_at z l

last_is : (s : State) (l : List State) → get_or (s ∷ l) (suc (length l) - 1) no_state ≡ last_accepted s l
last_is s l = let e : suc (length l) - 1 ≡ length l = omega arith in rw e (last_at s l)

whole : (q : Problem) (allowed : ℕ) (t : Trace) → Valid q → TraceLaw q allowed 0 (penalized_rss q (start_state q)) t → Claim.Demand3 q allowed (whole_of q (start_state q) t)
whole q allowed t valid g =
    let s = start_state q in
    let b = start_inside q valid in
    let w = subst (λ (l : List State). Winners q (penalized_rss q s) l) g.accepts (winners q (penalized_rss q s) t.trials g.trials) in
    record {
      accepts = ap (λ (l : List State). s ∷ l) (sym g.accepts);
      falls = falls_all q s t.accepted w.0;
      last = last_is s t.accepted;
      values = refl;
      effects = refl;
      written = sizes q valid (last_accepted s t.accepted) (last_inside q s t.accepted b w.1);
      states = λ i h. All-from_recursion (InBounds q) (s ∷ t.accepted) (b, w.1) i no_state h;
      trials = λ i h. (All-from_recursion (Tried q) t.trials g.trials i no_trial h).0;
      sums = λ i h. (All-from_recursion (Tried q) t.trials g.trials i no_trial h).1;
      counted = refl;
      few = omega (arith, g.few);
      begun = g.begun;
    }

pub demand3 : (q : Problem) (values effects allowed : ℕ) → refusal_of q values effects allowed ≡ 0 → Claim.Demand3 q allowed (fit_of q allowed)
unfolding fit_of trace_of
demand3 q values effects allowed ok =
    let valid = (fit_valid q values effects allowed ok).valid in
    whole q allowed (rounds q allowed (start_state q) (first_lambda q)) valid (rounds_law q valid allowed (start_state q) (first_lambda q) (start_inside q valid))
