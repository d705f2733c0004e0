-- Data as text.
use Rattle.std.specs.Prelude.{ℕ, List, [], ◌++◌, codes, true, false}
use Rattle.std.specs.Fmt.{signed_decimal}
use Rattle.page_datum.specs.Data.{Data, null, truth, int, text, list, dict, DataList, no_items}
use Rattle.page_datum.specs.Data.{item, DataDict, no_entries, entry}

abbrev mutual
  -- data inside other data
  pub shown : Data → List ℕ
  shown null = codes "<nil>"
  shown (truth true) = codes "true"
  shown (truth false) = codes "false"
  shown (int n) = signed_decimal n
  shown (text t) = t
  shown (list items) = codes "[" ++ (shown_items items ++ codes "]")
  shown (dict entries) = codes "map[" ++ (shown_entries entries ++ codes "]")

  -- items with a space between two
  pub shown_items : DataList → List ℕ
  shown_items no_items = []
  shown_items (item d rest) = shown d ++ spaced_items rest

  pub spaced_items : DataList → List ℕ
  spaced_items no_items = []
  spaced_items (item d rest) = codes " " ++ (shown d ++ spaced_items rest)

  -- entries with a space between two
  pub shown_entries : DataDict → List ℕ
  shown_entries no_entries = []
  shown_entries (entry key d rest) = key ++ (codes ":" ++ (shown d ++ spaced_entries rest))

  pub spaced_entries : DataDict → List ℕ
  spaced_entries no_entries = []
  spaced_entries (entry key d rest) =
      codes " " ++ (key ++ (codes ":" ++ (shown d ++ spaced_entries rest)))

-- data by itself: null is the empty text
abbrev pub printed : Data → List ℕ
printed null = []
printed d = shown d
