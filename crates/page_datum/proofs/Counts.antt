-- How many values a list has, and how many entries a dictionary.
use Rattle.std.proofs.Common.{◌≡◌, ℕ, suc, List, [], ◌∷◌, length, refl, ap}
use Rattle.page_datum.specs.Data.{item_count, entry_count}
use Rattle.page_datum.specs.View.{items_view, entries_view}
use Rattle.page_datum.specs.declared.datum.Datum.{Datum}

pub item_count-items_view : (ds : List Datum) → length ds ≡ item_count (items_view ds)
item_count-items_view [] = refl
item_count-items_view (d ∷ ds) = ap suc (item_count-items_view ds)

pub entry_count-entries_view : (es : List (List ℕ × Datum)) → length es ≡ entry_count (entries_view es)
entry_count-entries_view [] = refl
entry_count-entries_view (e ∷ es) = ap suc (entry_count-entries_view es)
