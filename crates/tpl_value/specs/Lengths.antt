-- How long a value is (Go's `text/template`, "Functions", in a profile).
use Rattle.std.specs.Prelude.{ℤ, pos, length, Result, Ok, Err}
use Rattle.page_datum.specs.Data.{Data, text, list, dict, item_count, entry_count}
use Rattle.page_datum.specs.declared.fault.FaultKind.{FaultKind}
use Rattle.page_datum.specs.declared.fault.FaultKind.TheVariants.{NoLength}

-- the bytes of a text, the values of a list, and the entries of a dictionary
abbrev pub length_of : Data → Result ℤ FaultKind
length_of (text bytes) = Ok (pos (length bytes))
length_of (list items) = Ok (pos (item_count items))
length_of (dict entries) = Ok (pos (entry_count entries))
length_of datum = Err NoLength
