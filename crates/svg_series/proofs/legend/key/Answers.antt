-- The texts of the definition, one by one.
use Rattle.text_buffer.specs.laws.Text.{joined_none, joined_then}
use Rattle.svg_series.specs.Canister.{legend_key_text}
use Rattle.svg_series.proofs.legend.key.Goals as goal

pub returns : goal.returns
unfolding legend_key_text
returns c = simp (joined_then, joined_none) (cc)
