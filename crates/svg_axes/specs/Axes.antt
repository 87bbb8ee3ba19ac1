-- An axis with round steps, and where a value stands in the frame, which is 600 wide from 70 and 400 high from 50.
use Rattle.std.specs.Prelude.{ℕ, cond, pos, ◌==◌, nat_le, int_lt, unsigned_abs, Float, Option, Some, None}
use Rattle.std.specs.Float.{binary64}
use Rattle.std.specs.Float.Ieee.{lt, le, neg, of_int}
use Rattle.math.specs.Basic.{add, sub, mul, div, bits, one, two, abs_of, max_of, is_finite}
use Rattle.math.specs.Words.{to_int}
use Rattle.math.specs.Loops.{iter}
use Rattle.text_floats.specs.Floats.{nearest_whole, in_tens}
use Rattle.text_floats.specs.declared.Scaled.{Scaled}
use Rattle.svg_axes.specs.declared.ranges.Range.{Range}
use Rattle.svg_axes.specs.declared.axes.Axis.{Axis}

-- 10 ^ n, each product rounded
unfoldable pub ten_to : ℕ → Float
ten_to n = iter (λ i x. mul x (bits 0x4024_0000_0000_0000)) n one

-- 1, 2, 5 or 10, the first that is not below m
unfoldable pub round_up : Float → Float
round_up m = cond (le m one) one (cond (le m two) two (cond (le m (bits 0x4014_0000_0000_0000)) (bits 0x4014_0000_0000_0000) (bits 0x4024_0000_0000_0000)))

-- the largest whole number that is not above x, of a size below 2 ^ 53
unfoldable pub floor_of : Float → Float
floor_of x = let k = of_int binary64 (to_int x) in cond (lt x k) (sub k one) k

-- a range of one point gets room on both sides: a tenth of its size, or 1
unfoldable pub widened_of : Range → Range
widened_of r =
    let room = max_of (mul (abs_of r.lo) (bits 0x3fb9_9999_9999_999a)) one in
    cond (lt r.lo r.hi) r (record { lo = sub r.lo room; hi = add r.hi room })

-- whole steps that hold a range whose ends are fewer than 10 ^ 12 steps from 0, so that none is lost in rounding
unfoldable pub stepped_of : Range → Float → ℕ → Option Axis
stepped_of r step decimals =
    let lo = div r.lo step in
    let hi = div r.hi step in
    let first = floor_of lo in
    let count = nearest_whole (sub (neg (floor_of (neg hi))) first) in
    let axis = cond (count == 0) None (Some (record { first = first; count = count; step = step; decimals = decimals })) in
    cond (lt (add (abs_of lo) (abs_of hi)) (bits 0x426d_1a94_a200_0000)) axis None

-- the step is m times the power of ten; below 1 it is m divided by it, of at most fifteen decimals
unfoldable pub with_step : Range → Float → Scaled → Option Axis
with_step r m s =
    let n = unsigned_abs s.power in
    cond (int_lt s.power (pos 0))
    (cond (nat_le n 15) (stepped_of r (div m (ten_to n)) n) None)
    (stepped_of r (mul m (ten_to n)) 0)

-- the steps are round and at least a fifth of the range
unfoldable pub axis_of : Range → Option Axis
axis_of range =
    let r = widened_of range in
    let raw = div (sub r.hi r.lo) (bits 0x4014_0000_0000_0000) in
    cond (is_finite raw) (with_step r (round_up (in_tens raw).mantissa) (in_tens raw)) None

-- the place nearest to x between two; of a NaN the first
unfoldable pub clamp_pixel : Float → Float → Float → Float
clamp_pixel x from to = cond (lt to x) to (cond (lt from x) x from)

-- 0 at the axis's first tick, 1 at its last
unfoldable pub along_of : Axis → Float → Float
along_of a x = div (sub (div x a.step) a.first) (of_int binary64 (pos a.count))

-- from 70 at the left to 670
unfoldable pub x_pixel : Axis → Float → Float
x_pixel a x = clamp_pixel (add (bits 0x4051_8000_0000_0000) (mul (along_of a x) (bits 0x4082_c000_0000_0000))) (bits 0x4051_8000_0000_0000) (bits 0x4084_f000_0000_0000)

-- from 450 at the bottom up to 50
unfoldable pub y_pixel : Axis → Float → Float
y_pixel a x = clamp_pixel (sub (bits 0x407c_2000_0000_0000) (mul (along_of a x) (bits 0x4079_0000_0000_0000))) (bits 0x4049_0000_0000_0000) (bits 0x407c_2000_0000_0000)
