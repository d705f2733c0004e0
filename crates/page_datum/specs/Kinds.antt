-- The printed names of faults and refusals.
use Rattle.std.specs.Prelude.{ℕ, List, ◌++◌, codes}
use Rattle.page_datum.specs.Legible.{legible_path}
use Rattle.page_datum.specs.declared.fault.FaultKind.{FaultKind}
use Rattle.page_datum.specs.declared.fault.FaultKind.TheVariants as kind
use Rattle.page_datum.specs.declared.refused.DataRefused.{DataRefused}
use Rattle.page_datum.specs.declared.refused.DataRefused.TheVariants as refused

-- a kind of fault
abbrev pub fault_kind : FaultKind → List ℕ
fault_kind kind.NoField = codes "NoField"
fault_kind kind.NilField = codes "NilField"
fault_kind kind.NotIndexable = codes "NotIndexable"
fault_kind kind.IndexRange = codes "IndexRange"
fault_kind kind.KeyKind = codes "KeyKind"
fault_kind kind.NotComparable = codes "NotComparable"
fault_kind kind.WrongCount = codes "WrongCount"
fault_kind kind.NotRangeable = codes "NotRangeable"
fault_kind kind.NoLength = codes "NoLength"
fault_kind kind.BadFormat = codes "BadFormat"
fault_kind kind.Depth = codes "Depth"
fault_kind kind.Budget = codes "Budget"
fault_kind kind.SliceRange = codes "SliceRange"
fault_kind kind.TooLong = codes "TooLong"

-- a refusal of data, and with a number that is not whole its path
abbrev pub data_refusal : DataRefused → List ℕ
data_refusal (refused.TooLong len) = codes "TooLong"
data_refusal refused.TooDeep = codes "TooDeep"
data_refusal refused.NotJson = codes "NotJson"
data_refusal (refused.NotWhole path) = codes "NotWhole " ++ legible_path path
data_refusal refused.Memory = codes "Memory"
