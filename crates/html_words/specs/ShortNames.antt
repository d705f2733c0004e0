-- The short name that is all of a name.
use Rattle.std.specs.Prelude.{ℕ, bytes_eq, List, [], ◌∷◌, Option, Some, None, if◌then◌else◌}
use Rattle.place_core.specs.page.References.{ReferenceRow}

abbrev pub short_in : List (ReferenceRow (List ℕ)) → List ℕ → Option ℕ
short_in [] name = None
short_in (r ∷ rows) name = if bytes_eq r.key name then Some r.code else short_in rows name
