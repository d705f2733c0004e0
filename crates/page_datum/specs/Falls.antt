-- No item of a list and no value of a dictionary is deeper than the whole is large.
use Rattle.std.specs.Prelude.{ℕ, ◌≤◌, max, List, [], ◌∷◌}
use Rattle.std.proofs.Common.{arith}
use Rattle.page_datum.specs.Sizes.{data_size, list_size, dict_size}
use Rattle.page_datum.specs.View.{view, items_view, entries_view}
use Rattle.page_datum.specs.declared.datum.Datum.{Datum}
use Rattle.page_datum.specs.declared.datum.Datum.TheVariants.{Null, Bool, Int, Text, List as Items}
use Rattle.page_datum.specs.declared.datum.Datum.TheVariants.{Dict}
use Rattle.page_datum.specs.declared.datum.Entries.TheDeep.{deep-Datum}
use denote.Param.Weighed.{most}

deep_le-data_size : (d : Datum) → deep-Datum d ≤ data_size (view d)
deep_le-data_size Null = omega arith
deep_le-data_size (Bool b) = omega arith
deep_le-data_size (Int n) = omega arith
deep_le-data_size (Text t) = omega arith
deep_le-data_size (Items _) = omega arith
deep_le-data_size (Dict _) = omega arith

pub most_le-list_size : (ds : List Datum) → most deep-Datum ds ≤ list_size (items_view ds)
most_le-list_size [] = omega arith
most_le-list_size (d ∷ ds) = omega (arith, deep_le-data_size d, most_le-list_size ds)

pub most_le-dict_size : (es : List (List ℕ × Datum))
    → most (λ e. max 0 (max (deep-Datum e.1) 0)) es ≤ dict_size (entries_view es)
most_le-dict_size [] = omega arith
most_le-dict_size (e ∷ es) = omega (arith, deep_le-data_size e.1, most_le-dict_size es)
