-- The part that is filled has as many places as the list has elements.
use Rattle.std.proofs.Common.{◌∙◌, sym}
use Rattle.std.proofs.lemmas.List.{length-take-le}
use Rattle.replay_cases.proofs.Elements.{after_one_more, none_put, none_after, no_length, too_long}
use Rattle.replay_cases.proofs.words.Words.list_into.Goals as goal

pub returns-clause-rest : goal.returns-clause-rest
returns-clause-rest g c =
    c.in_ok-values.ensures.rest
    ∙ rw (length-take-le c.in_ok-len.len c.args.out.now c.if-len-out.false, c.in_ok-len.ensures.rest) (sym (after_one_more c.in_ok-len.len c.args.self.now))

pub returns-in_err-len-clause-out : goal.returns-in_err-len-clause-out
returns-in_err-len-clause-out g c =
    none_put _ _ _ (no_length _ _ (sym c.value.ensures.value ∙ c.in_err-len.was))

pub returns-in_err-len-clause-left : goal.returns-in_err-len-clause-left
returns-in_err-len-clause-left g c =
    c.value.ensures.rest ∙ none_after _ c.args.out.now _ (no_length _ _ (sym c.value.ensures.value ∙ c.in_err-len.was))

pub returns-then-len-out-clause-out : goal.returns-then-len-out-clause-out
returns-then-len-out-clause-out g c =
    none_put _ _ _ (too_long _ _ _ (sym c.value.ensures.value ∙ c.in_ok-len.was) c.if-len-out.true)

pub returns-then-len-out-clause-left : goal.returns-then-len-out-clause-left
returns-then-len-out-clause-left g c =
    c.value.ensures.rest ∙ none_after _ c.args.out.now _ (too_long _ _ _ (sym c.value.ensures.value ∙ c.in_ok-len.was) c.if-len-out.true)
