-- What is found in a value: a field, and the part at a key (Go's `text/template`, "Arguments" and "Functions", in a profile).
use Rattle.std.specs.Prelude.{◌≡◌, ℕ, zero, suc, ℤ, pos, negsuc, List, Result, Ok, Err, Option, Some, None}
use Rattle.page_datum.specs.Data.{Data, null, int, text, list, dict, DataList, no_items, item, value_at}
use Rattle.page_datum.specs.View.{view}
use Rattle.page_datum.specs.declared.fault.FaultKind.{FaultKind}
use Rattle.page_datum.specs.declared.fault.FaultKind.TheVariants.{NoField, NilField, NotIndexable, IndexRange, KeyKind}
use Rattle.tpl_value.specs.declared.pick.Picked.{Picked}
use Rattle.tpl_value.specs.declared.pick.Picked.TheVariants.{Value, Nothing}

-- What is found is a value, or nothing, which stands for null.

-- the item of a list with this number, counted from 0
abbrev pub item_at : ℕ → DataList → Result (Option Data) FaultKind
item_at n no_items = Err IndexRange
item_at zero (item value rest) = Ok (Some value)
item_at (suc n) (item value rest) = item_at n rest

abbrev pub item_of : ℤ → DataList → Result (Option Data) FaultKind
item_of (pos n) items = item_at n items
item_of (negsuc n) items = Err IndexRange

-- the value of a field; nothing where a dictionary lacks it
abbrev pub field_of : List ℕ → Data → Result (Option Data) FaultKind
field_of name (dict entries) = Ok (value_at name entries)
field_of name null = Err NilField
field_of name datum = Err NoField

-- the item of a list at a whole number, or the value of a dictionary at a text, and nothing where the dictionary lacks it
abbrev pub index_of : Data → Data → Result (Option Data) FaultKind
index_of (list items) (int n) = item_of n items
index_of (dict entries) (text key) = Ok (value_at key entries)
index_of (list _) key = Err KeyKind
index_of (dict _) key = Err KeyKind
index_of datum key = Err NotIndexable

-- how a call answers with what was found, or a fault
abbrev pub PickAnswers : Result (Option Data) FaultKind → Result Picked FaultKind → Type 0
PickAnswers outcome (Ok (Value value)) = outcome ≡ Ok (Some (view value.now))
PickAnswers outcome (Ok Nothing) = outcome ≡ Ok None
PickAnswers outcome (Err kind) = outcome ≡ Err kind
