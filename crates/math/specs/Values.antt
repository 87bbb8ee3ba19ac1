-- The value of a float as a whole number of 2 ^ -1074.
use Rattle.std.specs.Prelude.{ℕ, ◌*◌, ◌^◌, ◌<◌, ◌≤◌, false, Float}
use Rattle.std.specs.Float.Ieee.Exact.{HasValue}
use Rattle.math.specs.Words.{pattern}

-- x is finite, its sign is clear, and it is a * 2 ^ -1074. Every such value of binary64 has an a: 2 ^ -1074 is the least subnormal
abbrev pub Units : Float → ℕ → Type 0
Units x a = HasValue x false a (2 ^ 1074)

-- x is positive, and neither subnormal nor infinite nor a NaN
abbrev pub Normal : Float → Type 0
Normal x = (2 ^ 52 ≤ pattern x) × (pattern x < 2047 * 2 ^ 52)
