-- A line of an operation is counted of that one alone. Assumes nothing.
use Rattle.std.proofs.Common.{◌≡◌, sym, ap, ◌∙◌, ℕ, ◌<◌, List, length, map, set, get_or}
use Rattle.std.proofs.Math.Seq.{map-set_same, take-set-lt}
use Rattle.std.proofs.lemmas.List.{map-set, get_or-map, length-take-le}
use Rattle.replay_cases.specs.Counts.{Counts, counts_of, no_lines, agreed, differed}
use Rattle.replay_cases.specs.declared.tally.Operation.{Operation}

module _ (operations : List Operation) (op : ℕ) (before after : Operation) (h : before ≡ get_or operations op before) where
  pub names_stay : after.name ≡ before.name → map (λ (o : Operation). o.name) (set operations op after) ≡ map (λ (o : Operation). o.name) operations
  names_stay e = map-set_same (λ (o : Operation). o.name) operations op after before (e ∙ ap (λ (o : Operation). o.name) h)

  module _ (p : op < length operations) where
    counts_of_set : (f : Counts → Counts) → counts_of after ≡ f (counts_of before) → map counts_of (set operations op after) ≡ set (map counts_of operations) op (f (get_or (map counts_of operations) op no_lines))
    counts_of_set f e =
        map-set counts_of operations op after
        ∙ ap (set (map counts_of operations) op) (e ∙ ap f (ap counts_of h ∙ sym (get_or-map counts_of operations op before no_lines p)))

    pub one_agrees : counts_of after ≡ agreed (counts_of before) → map counts_of (set operations op after) ≡ set (map counts_of operations) op (agreed (get_or (map counts_of operations) op no_lines))
    one_agrees e = counts_of_set agreed e

    pub one_differs : (number : ℕ) → counts_of after ≡ differed number (counts_of before) → map counts_of (set operations op after) ≡ set (map counts_of operations) op (differed number (get_or (map counts_of operations) op no_lines))
    one_differs number e = counts_of_set (differed number) e

pub ruleset counting = (names_stay, one_agrees, one_differs, take-set-lt, length-take-le)
