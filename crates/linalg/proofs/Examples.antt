-- Values that the definitions give, computed: an exchange of rows, a singular system, the tie rule, an inverse and a factor. Assumes nothing.
use Rattle.std.proofs.Common.{◌≡◌, refl, [], ◌∷◌, Some, None}
use lib.Ieee.{Float}
use Rattle.math.specs.Basic.{bits, zero, half, one, two}
use Rattle.math.specs.Matrix.{rows}
use Rattle.linalg.specs.declared.elimination.System.{System}
use Rattle.linalg.specs.Elimination.{solve_of}
use Rattle.linalg.specs.Pair.{pair_of, inverse_of, cholesky_of}
use Rattle.linalg.specs.laws.Computes.{linalg_computes}

abbrev three : Float
three = bits 0x4008_0000_0000_0000

-- x + y = 2, 2 x + y = 3
abbrev system : System
system =
    record {
      a = one ∷ one ∷ zero ∷ zero ∷ two ∷ one ∷ zero ∷ zero ∷ zero ∷ zero ∷ zero ∷ zero ∷ zero ∷ zero ∷ zero ∷ zero ∷ [];
      b = two ∷ three ∷ zero ∷ zero ∷ [];
    }

exchanged : solve_of 2 system ≡ Some (one ∷ one ∷ zero ∷ zero ∷ [])
unfolding linalg_computes
exchanged = refl

singular : solve_of 3 system ≡ None
unfolding linalg_computes
singular = refl

-- 3 x + 8 y = 4, -3 x + 7 y = 2: a tie keeps the first row, and x is 0.2666666666666666; the later row would give 0.2666666666666668
tie : pair_of 2 ((three ∷ bits 0x4020_0000_0000_0000 ∷ []) ∷ (bits 0xc008_0000_0000_0000 ∷ bits 0x401c_0000_0000_0000 ∷ []) ∷ []) (bits 0x4010_0000_0000_0000) two
    ≡ Some (bits 0x3fd1_1111_1111_1110, bits 0x3fd9_9999_9999_999a)
unfolding linalg_computes
tie = refl

-- 2, 1; 0, 1
inverted : inverse_of 2 ((two ∷ one ∷ []) ∷ (zero ∷ one ∷ []) ∷ []) ≡ Some (rows half (bits 0xbfe0_0000_0000_0000) zero one)
unfolding linalg_computes
inverted = refl

-- 4, 0; 2, 2: the entry above the diagonal is not read
factored : cholesky_of 2 ((bits 0x4010_0000_0000_0000 ∷ zero ∷ []) ∷ (two ∷ two ∷ []) ∷ []) ≡ Some (rows two zero one one)
unfolding linalg_computes
factored = refl
