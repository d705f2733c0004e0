-- A size of data, which is larger than that of each of its parts: what a recursion over data goes
-- down by.
use Rattle.std.specs.Prelude.{ℕ, ◌+◌}
use Rattle.page_datum.specs.Data.{Data, null, truth, int, text, list, dict, DataList, no_items}
use Rattle.page_datum.specs.Data.{item, DataDict, no_entries, entry}

abbrev mutual
  pub data_size : Data → ℕ
  data_size null = 1
  data_size (truth b) = 1
  data_size (int n) = 1
  data_size (text t) = 1
  data_size (list items) = 1 + list_size items
  data_size (dict entries) = 1 + dict_size entries

  pub list_size : DataList → ℕ
  list_size no_items = 0
  list_size (item d rest) = 1 + data_size d + list_size rest

  pub dict_size : DataDict → ℕ
  dict_size no_entries = 0
  dict_size (entry key d rest) = 1 + data_size d + dict_size rest
