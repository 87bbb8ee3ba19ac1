-- The texts of the definition, one by one.
use Rattle.text_buffer.specs.laws.Text.{joined_none, joined_then}
use Rattle.refit_tables.specs.Tables.{readings_table_text}
use Rattle.refit_tables.proofs.readings.Goals as goal

pub returns : goal.returns
unfolding readings_table_text
returns c = simp (joined_then, joined_none) (cc)
