-- The texts of the definition, one by one, of the axis that it is.
use Rattle.text_buffer.specs.laws.Text.{joined_none, joined_then}
use Rattle.svg_picture.specs.Framing.{grid_text}
use Rattle.svg_picture.proofs.framing.grid.Goals as goal

pub returns-in-Across : goal.returns-in-Across
unfolding grid_text
returns-in-Across c = rw c.in-Across.is (simp (joined_then, joined_none) (cc))

pub returns-in-Up : goal.returns-in-Up
unfolding grid_text
returns-in-Up c = rw c.in-Up.is (simp (joined_then, joined_none) (cc))
