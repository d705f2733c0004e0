-- The kind of an attribute's name with a prefix.
use Rattle.std.specs.Prelude.{ℕ, List, drop}
use Rattle.place_core.specs.page.Words.{kind_after_prefix, prefix_length}
use Rattle.place_core.specs.declared.kind.Kind.{Kind}

-- the kind of a name, which is read up to its first colon
abbrev pub kind_by_prefix : List ℕ → Kind
kind_by_prefix name = kind_after_prefix name (drop (prefix_length name) name)
