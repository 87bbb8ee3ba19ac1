-- What a call is lent (oracle/FORMAT.md), and what its lists are compared with.
use Rattle.std.specs.Prelude.{ℕ, Bool, List, Float, length, take, Result, Ok, Err}
use Rattle.math.specs.Basic.{bits}
use Rattle.math.specs.Lists.{same_lists}
use Rattle.refusal.specs.Refusal.{number_of}
use Rattle.refusal.specs.declared.Refusal.{Refusal}
use Rattle.replay_cases.specs.Same.{same_bits}

-- what every lent float holds before a call
abbrev pub kept_float : Float
kept_float = bits 0x4010_dead_0000_beef

-- a call's number, 0 where it is not refused, and what its outputs hold after it; a refusal keeps what they held before
abbrev pub outputs_of : {A : Type 0} → Result A Refusal → A → ℕ × A
outputs_of (Ok after) before = (0, after)
outputs_of (Err refusal) before = (number_of refusal, before)

-- the front of the stored list that is as long as the values has their bits; a stored list that is shorter has no such front
unfoldable pub begins_with : List Float → List Float → Bool
begins_with stored values = same_lists same_bits values (take (length values) stored)
