-- What is left to print of a list or a dictionary.
use Rattle.std.proofs.Common.{ℕ, Bool, true, false, List}
use Rattle.page_datum.specs.Data.{DataList, DataDict}
use Rattle.page_datum.specs.Printed.{shown_items, spaced_items, shown_entries, spaced_entries}

-- the items from the first one on, or after one
abbrev pub left_items : Bool → DataList → List ℕ
left_items true items = shown_items items
left_items false items = spaced_items items

-- the entries from the first one on, or after one
abbrev pub left_entries : Bool → DataDict → List ℕ
left_entries true entries = shown_entries entries
left_entries false entries = spaced_entries entries
