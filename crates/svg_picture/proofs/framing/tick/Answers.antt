-- The texts of the definition, one by one.
use Rattle.text_buffer.specs.laws.Text.{joined_none, joined_then}
use Rattle.svg_picture.specs.Framing.{tick_text, tick_at}
use Rattle.svg_picture.proofs.framing.tick.Goals as goal

pub returns : goal.returns
unfolding tick_text tick_at
returns c = simp (joined_then, joined_none) (cc)
