-- An evaluated state's parts are the definitions' of that state.
use Rattle.std.specs.Prelude.{◌≡◌, refl}
use Rattle.std.proofs.Common.{◌∙◌, ap, sym}
use Rattle.fit_refusals.specs.Problem.{Problem}
use Rattle.fit_step.specs.declared.State.{State}
use Rattle.fit_penalized.specs.Penalized.{rss_of, penalized_rss}
use Rattle.fit_round.specs.declared.Evaluated.{Evaluated}
use Rattle.fit_round.specs.Rounds.{evaluated_of}

module _ (q : Problem) (s : State) where
  pub evaluated_state : (evaluated_of q s).state ≡ s
  evaluated_state = refl

  pub evaluated_rss : (evaluated_of q s).rss ≡ rss_of q s
  evaluated_rss = refl

  pub evaluated_sum : (evaluated_of q s).sum ≡ penalized_rss q s
  evaluated_sum = refl

-- what is made of a state is made of its own
module _ (q : Problem) where
  pub from_state : (z : State) → (evaluated_of q z).state ≡ z
  from_state z = refl

  pub state_of : (y : Evaluated) (z : State) → y ≡ evaluated_of q z → y.state ≡ z
  state_of y z e = ap (λ (x : Evaluated). x.state) e

  pub from_self : (y : Evaluated) (z : State) → y ≡ evaluated_of q z → y ≡ evaluated_of q y.state
  from_self y z e = e ∙ ap (evaluated_of q) (sym (state_of y z e))
