-- What is written is the text that the writer left in the room.
use Rattle.std.proofs.Common.{◌≡◌, refl, sym, rules}
use Rattle.text_buffer.specs.Text.{empty}
use Rattle.text_lines.proofs.columns.cell.Goals as goal

pub returns : goal.returns
returns g c =
    let begun : c.new-text.result ≡ empty c.new-text.result.out = rw c.new-text.ensures refl in
    (c.new-text.result.out, c.write.new.arg2, search rules, rw (sym begun) (search rules), search rules)
