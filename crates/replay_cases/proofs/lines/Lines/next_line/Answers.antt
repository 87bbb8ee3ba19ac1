use Rattle.std.proofs.Common.{rules, ◌≡◌, Some, IfSome, ◌∷◌, [], ◌++◌, nat_eq, sym, subst}
use Rattle.std.specs.List.{position}
use Rattle.std.specs.Io.KnownBytes.{Keeps, prepend_known}
use Rattle.std.specs.Io.BufRead.{take_through, DropsThrough}
use Rattle.std.proofs.KnownBytes.{Keeps-trans}
use Rattle.replay_cases.specs.Lines.{held, bytes_ahead, bytes_left}
use Rattle.replay_cases.proofs.Reading.{handed_out, left_behind}
use Rattle.replay_cases.proofs.lines.Lines.next_line.Goals as goal

pub returns-clause-line : goal.returns-clause-line
returns-clause-line g c _ =
    let kept : Keeps (bytes_left g.R.Read.remaining c.args.self.now) (bytes_ahead g.R.Read.remaining c.read_line.new.self) = Keeps-trans _ _ _ (c.skip_long_line.ensures.bytes (search rules)) c.read_line.ensures.bytes in
    let at : position (λ b. nat_eq b 10) (held c.read_line.new.self) ≡ Some c.in-Some.len = search rules in
    subst (λ l. IfSome (bytes_left g.R.Read.remaining c.args.self.now) (λ all. take_through 10 all ≡ l ++ 10 ∷ [])) (sym c.hand_out.ensures.line) (handed_out _ _ (held c.read_line.new.self) c.in-Some.len kept at)

pub returns-clause-rest : goal.returns-clause-rest
returns-clause-rest g c _ =
    let kept : Keeps (bytes_left g.R.Read.remaining c.args.self.now) (bytes_ahead g.R.Read.remaining c.read_line.new.self) = Keeps-trans _ _ _ (c.skip_long_line.ensures.bytes (search rules)) c.read_line.ensures.bytes in
    let at : position (λ b. nat_eq b 10) (held c.read_line.new.self) ≡ Some c.in-Some.len = search rules in
    subst (λ i. DropsThrough (bytes_left g.R.Read.remaining c.args.self.now) (prepend_known (held c.hand_out.new.self) (g.R.Read.remaining i)) 10) (sym c.hand_out.ensures.input) (left_behind _ _ (held c.read_line.new.self) c.in-Some.len kept at (held c.hand_out.new.self) c.hand_out.ensures.held)
