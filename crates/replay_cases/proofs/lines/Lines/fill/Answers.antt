use Rattle.replay_cases.proofs.Reading.{behind}
use Rattle.replay_cases.proofs.lines.Lines.fill.Goals as goal

pub returns-in-Ok-clause-bytes : goal.returns-in-Ok-clause-bytes
returns-in-Ok-clause-bytes g c =
    behind _ _ c.args.self.now.buf.now c.move_down.new.buf c.read_behind.new.buf c.args.self.now.from c.args.self.now.to c.in-Ok.n c.move_down.ensures.front c.read_behind.ensures.front c.in-Ok.ensures.bytes.0
