use Rattle.replay_cases.proofs.Reading.{passed}
use Rattle.replay_cases.proofs.lines.Lines.pass.Goals as goal

pub returns-clause-held : goal.returns-clause-held
returns-clause-held g c = passed c.args.self.now.buf.now c.args.self.now.from c.args.self.now.to c.args.n c.requires
