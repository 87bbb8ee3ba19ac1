use Rattle.std.proofs.Common.{rules, ◌≡◌, ◌≢◌, All, Err, length, take, sym, subst}
use Rattle.std.proofs.lemmas.List.{places}
use Rattle.replay_cases.specs.Lines.{held}
use Rattle.replay_cases.specs.declared.lines.Fault.{Fault}
use Rattle.replay_cases.proofs.Reading.{first_behind, none_behind, in_rest}
use Rattle.replay_cases.proofs.lines.Lines.read_line.Goals as goal

pub returns-in-Some-clause-line : goal.returns-in-Some-clause-line
returns-in-Some-clause-line g c =
    first_behind (held c.loop.self) c.loop.len c.loop.invariant.2 c.in-Some.more (in_rest _ _ _ _ _ c.held.ensures c.end_of_line.ensures c.in-Some.is)

pub returns-in_err-fill-clause-too_long : goal.returns-in_err-fill-clause-too_long
returns-in_err-fill-clause-too_long g c e =
    let is : c.fill.result ≡ Err Fault.TooLong = search rules in
    let full = c.fill.ensures.full is in
    let none : All (λ b. b ≢ 10) (held c.loop.self) = none_behind (held c.loop.self) c.loop.len c.loop.invariant.2 (in_rest _ _ _ _ _ c.held.ensures c.end_of_line.ensures (search rules)) in
    (subst (All (λ b. b ≢ 10)) (sym full.0) none, search rules)

pub returns-else-len-eq0-clause-no_end : goal.returns-else-len-eq0-clause-no_end
returns-else-len-eq0-clause-no_end g c _ =
    let none : All (λ b. b ≢ 10) (held c.loop.self) = none_behind (held c.loop.self) c.loop.len c.loop.invariant.2 (in_rest _ _ _ _ _ c.held.ensures c.end_of_line.ensures (search rules)) in
    let end = c.fill.ensures.end (search rules) in
    (search rules, subst (All (λ b. b ≢ 10)) (sym end.0) none, end.1)

pub loop-preserved : goal.loop-preserved
loop-preserved g c =
    let none : All (λ b. b ≢ 10) (held c.loop.self) = none_behind (held c.loop.self) c.loop.len c.loop.invariant.2 (in_rest _ _ _ _ _ c.held.ensures c.end_of_line.ensures (search rules)) in
    let kept : take (length c.held-len.result.now) (held c.fill.new.self) ≡ held c.loop.self = search rules in
    (search rules, search (rules, places), subst (All (λ b. b ≢ 10)) (sym kept) none, search rules)
