-- The texts of the definition, one by one.
use Rattle.text_buffer.specs.laws.Text.{joined_none, joined_then}
use Rattle.svg_picture.specs.Framing.{title_text}
use Rattle.svg_picture.proofs.framing.title.Goals as goal

pub returns : goal.returns
unfolding title_text
returns c = simp (joined_then, joined_none) (cc)
