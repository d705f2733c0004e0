-- The law on formats: their grammar and their computing say the same.
use Rattle.std.specs.Prelude.{◌≡◌, ◌↔◌, ℕ, List, Some}
use Rattle.page_datum.specs.Data.{Data}
use Rattle.tpl_format.specs.Formats.{formatted_args}
use Rattle.tpl_format.specs.Grammar.{Makes}

-- what arguments make, byte by byte, is what the pieces of the format make
abbrev pub FormatsArePieces : Type 0
FormatsArePieces = (args : List Data) (made : List ℕ) → (formatted_args args ≡ Some made) ↔ Makes args made
