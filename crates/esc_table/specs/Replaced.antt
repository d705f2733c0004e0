-- A text with its characters replaced by a table.
use Rattle.std.specs.Prelude.{◌≡◌, ◌++◌, ℕ, List, flat_map, chars, encode_utf8, unwrap_or}
use Rattle.esc_table.specs.Rows.{EscapeRow, found}

-- what is written for a character: the replacement of its row, or itself if it has none
abbrev pub row_written : List EscapeRow → ℕ → List ℕ
row_written rows character = unwrap_or (found rows character) (encode_utf8 character)

-- what is written for each of some characters, one after the other
abbrev pub replaced_all : List EscapeRow → List ℕ → List ℕ
replaced_all rows characters = flat_map (row_written rows) characters

-- what is written for the characters of a text
abbrev pub replaced : List EscapeRow → List ℕ → List ℕ
replaced rows bytes = replaced_all rows (chars bytes)

-- what was written before a text is read and what is written after its prefix, before the rest that is left, come to the same
abbrev pub StepWrites : List EscapeRow → List ℕ → List ℕ → List ℕ → List ℕ → Type 0
StepWrites rows text rest before after = after ++ replaced rows rest ≡ before ++ replaced rows text
