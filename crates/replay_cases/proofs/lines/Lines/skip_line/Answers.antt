use Rattle.std.proofs.Common.{rules, ◌≡◌, ◌≢◌, All, length, drop, sym, subst, ◌∙◌}
use Rattle.std.specs.Io.KnownBytes.{Keeps, prepend_known}
use Rattle.std.proofs.KnownBytes.{Keeps-trans}
use Rattle.std.proofs.Math.Seq.{drop-length}
use Rattle.replay_cases.specs.Lines.{held, bytes_ahead}
use Rattle.replay_cases.proofs.Reading.{none_at_all, after_line, after_line-found, after_line-read, after_line-end, end-kept}
use Rattle.replay_cases.proofs.lines.Lines.skip_line.Goals as goal

pub returns-in-Some-clause-bytes : goal.returns-in-Some-clause-bytes
returns-in-Some-clause-bytes g c _ =
    let found = after_line-found (g.R.Read.remaining c.loop.self.input) (held c.loop.self) (held c.pass.new.self) c.in-Some.len (search rules) c.pass.ensures.held in
    Keeps-trans _ (after_line (bytes_ahead g.R.Read.remaining c.loop.self)) _ c.loop.invariant.1 (subst (λ i. Keeps (after_line (bytes_ahead g.R.Read.remaining c.loop.self)) (prepend_known (held c.pass.new.self) (g.R.Read.remaining i))) (sym c.pass.ensures.input) found)

pub returns-then-not-branch-clause-end : goal.returns-then-not-branch-clause-end
returns-then-not-branch-clause-end g c _ =
    let none : All (λ b. b ≢ 10) (held c.loop.self) = none_at_all (held c.loop.self) (search rules) in
    let rest : held c.pass-in-loop.new.self ≡ drop (length (held c.loop.self)) (held c.loop.self) = search rules in
    let read = subst (λ i. Keeps (prepend_known (held c.pass-in-loop.new.self) (g.R.Read.remaining i)) (bytes_ahead g.R.Read.remaining c.fill.new.self)) c.pass-in-loop.ensures.input c.fill.ensures.bytes in
    let so_far = after_line-read (bytes_ahead g.R.Read.remaining c.args.self.now) _ (bytes_ahead g.R.Read.remaining c.fill.new.self) (held c.loop.self) (held c.pass-in-loop.new.self) c.loop.invariant.1 none rest read in
    let end = c.fill.ensures.end (search rules) in
    end-kept _ _ so_far (after_line-end _ _ (end.0 ∙ rest ∙ drop-length (held c.loop.self)) end.1)

pub loop-preserved : goal.loop-preserved
loop-preserved g c =
    let none : All (λ b. b ≢ 10) (held c.loop.self) = none_at_all (held c.loop.self) (search rules) in
    let rest : held c.pass-in-loop.new.self ≡ drop (length (held c.loop.self)) (held c.loop.self) = search rules in
    let read = subst (λ i. Keeps (prepend_known (held c.pass-in-loop.new.self) (g.R.Read.remaining i)) (bytes_ahead g.R.Read.remaining c.fill.new.self)) c.pass-in-loop.ensures.input c.fill.ensures.bytes in
    (search rules, after_line-read (bytes_ahead g.R.Read.remaining c.args.self.now) _ (bytes_ahead g.R.Read.remaining c.fill.new.self) (held c.loop.self) (held c.pass-in-loop.new.self) c.loop.invariant.1 none rest read)
