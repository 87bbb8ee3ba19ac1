use Rattle.replay_cases.proofs.Reading.{newline_at}
use Rattle.replay_cases.proofs.lines.end_of_line.Goals as goal

pub returns : goal.returns
returns c = newline_at c.args.bytes.now _ c.memchr.ensures
