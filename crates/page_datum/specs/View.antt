-- The data that a `Datum` stands for, and those that a `DatumRef` stands for.
use Rattle.std.specs.Prelude.{ℕ, List, [], ◌∷◌}
use Rattle.page_datum.specs.Data.{Data, null, truth, int, text, list, dict, DataList, no_items}
use Rattle.page_datum.specs.Data.{item, DataDict, no_entries, entry}
use Rattle.page_datum.specs.declared.datum.Datum.{Datum}
use Rattle.page_datum.specs.declared.datum.Datum.TheVariants.{Null, Bool, Int, Text, List as Items}
use Rattle.page_datum.specs.declared.datum.Datum.TheVariants.{Dict}
use Rattle.page_datum.specs.declared.datum_ref.DatumRef.{DatumRef}
use Rattle.page_datum.specs.declared.datum_ref.DatumRef.TheVariants as lent

abbrev pub view : Datum → Data
view Null = null
view (Bool b) = truth b
view (Int n) = int n
view (Text t) = text t
view (Items items) = list items
view (Dict entries) = dict entries

abbrev pub items_view : List Datum → DataList
items_view [] = no_items
items_view (d ∷ ds) = item (view d) (items_view ds)

abbrev pub entries_view : List (List ℕ × Datum) → DataDict
entries_view [] = no_entries
entries_view (e ∷ es) = entry e.0 (view e.1) (entries_view es)

abbrev pub ref_view : DatumRef → Data
ref_view lent.Null = null
ref_view (lent.Bool b) = truth b
ref_view (lent.Int n) = int n
ref_view (lent.Text t) = text t.now
ref_view (lent.List ds) = list (items_view ds.now)
ref_view (lent.Dict es) = dict es.now
