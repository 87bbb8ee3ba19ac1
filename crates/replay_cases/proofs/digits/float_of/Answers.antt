-- The word `nan` has its own pattern, and any other word the bits that `hex` reads.
use Rattle.std.proofs.Common.{◌≡◌, rules, ap, ◌∙◌, Some, option_map}
use lib.Ieee.{of_bits, binary64}
use Rattle.math.specs.laws.Lists.{same_bytes_lem}
use Rattle.replay_cases.specs.Digits.{float_of, nan_word}
use Rattle.replay_cases.proofs.digits.float_of.Goals as goal

pub returns-then-eq : goal.returns-then-eq
unfolding float_of of_bits
returns-then-eq c = rw (← same_bytes_lem c.eq.result c.args.w.now nan_word (search rules), c.if-eq.true) (ap Some c.of_bits.ensures)

pub returns : goal.returns
unfolding float_of
returns c =
    let m : c.map.result ≡ option_map (of_bits binary64) c.hex.result = search rules in
    rw (← same_bytes_lem c.eq.result c.args.w.now nan_word (search rules), c.if-eq.false) (m ∙ ap (option_map (of_bits binary64)) c.hex.ensures)
