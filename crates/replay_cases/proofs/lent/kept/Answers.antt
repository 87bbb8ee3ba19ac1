-- `of_bits` promises the float of these bits. By this line, and not by search, other bits are refused for what they give.
use Rattle.replay_cases.proofs.lent.kept.Goals as goal

pub returns : goal.returns
returns c = c.of_bits.ensures
