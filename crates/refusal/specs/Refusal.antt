-- Document 01's number for each fault that a call is refused for.
use Rattle.std.specs.Prelude.{ℕ}
use Rattle.refusal.specs.declared.Refusal.{Refusal}
use Rattle.refusal.specs.declared.Refusal.TheVariants.{Code, Readings, Groups, Group, Effects, Lengths, Numbers, Bounds, Outputs, Limits}

-- 1 comes first in the order of the tests, 10 last
abbrev pub number_of : Refusal → ℕ
number_of Code = 1
number_of Readings = 2
number_of Groups = 3
number_of Group = 4
number_of Effects = 5
number_of Lengths = 6
number_of Numbers = 7
number_of Bounds = 8
number_of Outputs = 9
number_of Limits = 10
