-- Which values are true, where a condition is asked (Go's `text/template`, "Actions").
use Rattle.std.specs.Prelude.{Bool, true, false, not, ◌==◌, length, pos}
use Rattle.std.specs.Ordering.{int_eq}
use Rattle.page_datum.specs.Data.{Data, null, truth, int, text, list, dict, DataList, no_items, DataDict, no_entries}

abbrev pub has_items : DataList → Bool
has_items no_items = false
has_items _ = true

abbrev pub has_entries : DataDict → Bool
has_entries no_entries = false
has_entries _ = true

-- null, false, 0 and what is empty are false
abbrev pub truth_of : Data → Bool
truth_of null = false
truth_of (truth b) = b
truth_of (int n) = not (int_eq n (pos 0))
truth_of (text bytes) = not (length bytes == 0)
truth_of (list items) = has_items items
truth_of (dict entries) = has_entries entries
