-- What a canister's curve says, and the ranges of what is drawn.
use Rattle.std.specs.Prelude.{ℕ, true, false, cond, List, [], ◌∷◌, length, pos, slice_index_or, Float, fold}
use Rattle.std.specs.Float.{nan, inf, binary64}
use Rattle.std.specs.Float.Ieee.{of_int}
use Rattle.math.specs.Basic.{add, sub, mul, div, bits, min_of, max_of, is_finite}
use Rattle.math.specs.Loops.{iter}
use Rattle.curves.specs.MeanFn.{four_of, eval_with_re_of}
use Rattle.svg_axes.specs.declared.ranges.Range.{Range}
use Rattle.svg_axes.specs.Subject.{SubjectLists}

-- the grams of the curve of canister g at a dose: its effect is added to the value at `place`
unfoldable pub canister_curve_at : SubjectLists → ℕ → Float → Float
canister_curve_at s g dose =
    (eval_with_re_of s.code (four_of s.values) (s.place ∷ []) (slice_index_or s.effects g nan ∷ []) dose).mu

-- the range of no number
abbrev pub no_range : Range
no_range = record { lo = inf false; hi = inf true }

-- a range with one number more; one that is not finite is left out
unfoldable pub wider_by : Range → Float → Range
wider_by r v = cond (is_finite v) (record { lo = min_of v r.lo; hi = max_of v r.hi }) r

unfoldable pub list_range : List Float → Range
list_range l = fold wider_by no_range l

-- the j-th of the 61 doses, 0 to 60, at which a curve is drawn
unfoldable pub sample_of : Range → ℕ → Float
sample_of r j = min_of (add r.lo (mul (div (of_int binary64 (pos j)) (bits 0x404e_0000_0000_0000)) (sub r.hi r.lo))) r.hi

-- a range with a curve's grams at those doses, and with every canister's
unfoldable pub range_with_curve : SubjectLists → Range → ℕ → Range → Range
range_with_curve s doses g grams = iter (λ j r. wider_by r (canister_curve_at s g (sample_of doses j))) 61 grams

unfoldable pub range_with_curves : SubjectLists → Range → Range → Range
range_with_curves s doses grams = iter (range_with_curve s doses) (length s.effects) grams
