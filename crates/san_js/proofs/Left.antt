-- What is left to write of a list or a dictionary.
use Rattle.std.proofs.Common.{ℕ, Bool, true, false, List}
use Rattle.js_lexer.specs.Sanitizers.{json_items, json_more_items, json_entries, json_more_entries}
use Rattle.page_datum.specs.Data.{DataList, DataDict}

-- the items from the first one on, or after one
abbrev pub left_in_list : Bool → DataList → List ℕ
left_in_list true items = json_items items
left_in_list false items = json_more_items items

-- the entries from the first one on, or after one
abbrev pub left_in_dict : Bool → DataDict → List ℕ
left_in_dict true entries = json_entries entries
left_in_dict false entries = json_more_entries entries
