-- The numbers of the faults of a table.
use Rattle.std.specs.Prelude.{ℕ}
use Rattle.read_table.specs.declared.fault.TableFault.{TableFault}

abbrev pub fault_number : TableFault → ℕ
fault_number TableFault.NotThreeFields = 1
fault_number TableFault.DoseNotADecimal = 2
fault_number TableFault.GramsNotADecimal = 3
fault_number TableFault.TooManyDigits = 4
fault_number TableFault.PowerOutOfRange = 5
fault_number TableFault.NotAName = 6
fault_number TableFault.TooManyReadings = 7
fault_number TableFault.TooManyCanisters = 8
fault_number TableFault.NoReadings = 9
fault_number TableFault.DecimalComma = 10
fault_number TableFault.HeaderOutOfOrder = 11
