-- Whole directions, computed, and held to those of a model in another language that follows block_solve.rs. Assumes nothing.
use Rattle.std.proofs.Common.{◌≡◌, refl, ℕ, List, [], ◌∷◌, map, Option, Some, None}
use lib.Ieee.{Float, binary64, to_bits}
use Rattle.math.specs.Basic.{bits, zero, half, one, two}
use Rattle.block_solve.specs.declared.normal.BlockNormal.{BlockNormal}
use Rattle.block_solve.specs.Normal.{empty_of, accumulate_of, prior_of}
use Rattle.block_solve.specs.Direction.{direction_of}
use Rattle.block_solve.specs.laws.Computes.{direction_computes}

abbrev shown : Option (List Float) → List ℕ
shown None = []
shown (Some l) = map (to_bits binary64) l

abbrev three : Float
three = bits 0x4008_0000_0000_0000

abbrev four : Float
four = bits 0x4010_0000_0000_0000

abbrev quarter : Float
quarter = bits 0x3fd0_0000_0000_0000

-- three curve values, two effects, two groups, damping 0.01
abbrev blocks : BlockNormal
blocks =
    prior_of 2 2 ((two ∷ half ∷ []) ∷ (half ∷ one ∷ []) ∷ []) (zero ∷ quarter ∷ bits 0xbfe0_0000_0000_0000 ∷ one ∷ [])
    (accumulate_of 1 3 (three ∷ one ∷ one ∷ zero ∷ []) 2 (three ∷ one ∷ []) quarter
    (accumulate_of 1 3 (half ∷ bits 0xbff0_0000_0000_0000 ∷ four ∷ zero ∷ []) 2 (half ∷ four ∷ []) (bits 0xc000_0000_0000_0000)
    (accumulate_of 0 3 (one ∷ two ∷ zero ∷ zero ∷ []) 2 (one ∷ zero ∷ []) three empty_of)))

two_effects : shown (direction_of blocks 3 2 2 (bits 0x3f84_7ae1_47ae_147b))
    ≡ 0xbfe98cc86bfc4068 ∷ 0x3ffcf748b3354ad3 ∷ 0x3fe56fef7738bd1b ∷ 0x3fb03c092acaad70 ∷ 0xbfd1d9ce7104ce82 ∷ 0x3fd34f153da84556 ∷ 0xbfe5576882653d45 ∷ []
unfolding direction_computes
two_effects = refl

-- two curve values, one effect, three groups, the second without readings, damping 1e-4
abbrev scalars : BlockNormal
scalars =
    prior_of 1 3 ((four ∷ zero ∷ []) ∷ (zero ∷ zero ∷ []) ∷ []) (half ∷ zero ∷ bits 0xbfc0_0000_0000_0000 ∷ [])
    (accumulate_of 2 2 (bits 0x3fb9_9999_9999_999a ∷ zero ∷ zero ∷ zero ∷ []) 1 (bits 0x3fb9_9999_9999_999a ∷ zero ∷ []) (bits 0xc000_0000_0000_0000)
    (accumulate_of 0 2 (bits 0x3fe8_0000_0000_0000 ∷ bits 0xbff8_0000_0000_0000 ∷ zero ∷ zero ∷ []) 1 (bits 0x3fe8_0000_0000_0000 ∷ zero ∷ []) one empty_of))

one_effect : shown (direction_of scalars 2 1 3 (bits 0x3f1a_36e2_eb1c_432d))
    ≡ 0xc033e36bf875e9ad ∷ 0xc025b81b36c15638 ∷ 0xbfdffa0feb224746 ∷ 0x0000000000000000 ∷ 0x3fbfd882e86792d2 ∷ []
unfolding direction_computes
one_effect = refl
