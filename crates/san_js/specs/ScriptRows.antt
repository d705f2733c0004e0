-- The rows by which a text is written in a script, as the rows of a table of replacements.
use Rattle.std.specs.Prelude.{ℕ, Bool, true, false, ◌==◌, ◌||◌, List, [], ◌∷◌, map}
use Rattle.esc_table.specs.Rows.{EscapeRow}
use Rattle.js_lexer.specs.Sanitizers.{Rows, text_rows}

abbrev pub escape_rows_of : Rows → List EscapeRow
escape_rows_of rows = map (λ row. record { character = row.0; replacement = row.1 }) rows

-- whether a character is among these
abbrev pub is_among_characters : List ℕ → ℕ → Bool
is_among_characters [] character = false
is_among_characters (c ∷ cs) character = c == character || is_among_characters cs character

-- a row before others, unless its character has one already
abbrev pub row_unless : Bool → EscapeRow → List EscapeRow → List EscapeRow
row_unless true row rows = rows
row_unless false row rows = row ∷ rows

-- without the rows whose character is among these, or has a row before
abbrev pub each_row_once : List ℕ → List EscapeRow → List EscapeRow
each_row_once before [] = []
each_row_once before (row ∷ rows) = row_unless (is_among_characters before row.character) row (each_row_once (row.character ∷ before) rows)

-- those of a string of JSON, in which some controls have two
abbrev pub text_rows_once : List EscapeRow
text_rows_once = each_row_once [] (escape_rows_of text_rows)
