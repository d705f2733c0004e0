-- The rows of a table of replacements: which character has one, and what it is.
use Rattle.std.specs.Prelude.{◌≡◌, ℕ, Bool, true, not, ◌&&◌, ◌==◌, if◌then◌else◌, IsTrue, List, [], ◌∷◌, length, codes, None, Some, Option, is_some}
use Rattle.std.specs.Borrow.{Bor}
use Prim.Native.String.{String}

-- a character, and the bytes that are written for it
pub record EscapeRow : Type 0 where
  pub character : ℕ
  pub replacement : List ℕ

-- a row whose replacement is ASCII
abbrev pub escape_row : ℕ → String → EscapeRow
escape_row character replacement = record { character = character; replacement = codes replacement }

-- the rows of some characters, each with the replacement at its place
abbrev pub rows_of : List ℕ → List (Bor (List ℕ)) → List EscapeRow
rows_of [] replacements = []
rows_of (character ∷ characters) [] = []
rows_of (character ∷ characters) (replacement ∷ replacements) =
    record { character = character; replacement = replacement.now } ∷ rows_of characters replacements

-- the replacement of a character, if it has a row
abbrev pub found : List EscapeRow → ℕ → Option (List ℕ)
found [] character = None
found (escape_row ∷ rows) character =
    if escape_row.character == character then Some escape_row.replacement else found rows character

-- no character stands in two rows
abbrev pub is_distinct : List EscapeRow → Bool
is_distinct [] = true
is_distinct (escape_row ∷ rows) = not (is_some (found rows escape_row.character)) && is_distinct rows

-- the parts of a table: so many characters, a replacement for each, and no character twice
pub record IsTable (count : ℕ) (characters : List ℕ) (replacements : List (Bor (List ℕ))) : Type 0 where
  pub characters_count : length characters ≡ count
  pub replacements_count : length replacements ≡ count
  pub distinct : IsTrue (is_distinct (rows_of characters replacements))
