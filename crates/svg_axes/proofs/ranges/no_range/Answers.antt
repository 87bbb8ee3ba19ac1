-- The two infinities, by their bits.
use Rattle.std.proofs.Common.{refl}
use lib.Ieee.{of_bits}
use Rattle.svg_axes.proofs.ranges.no_range.Goals as goal

pub returns : goal.returns
unfolding of_bits
returns c = refl
