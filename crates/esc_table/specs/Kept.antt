-- The bytes with which no character of a table begins: a text of such bytes is left as it is.
use Rattle.std.specs.Prelude.{ℕ, Bool, true, false, List, [], ◌∷◌, map, get_or, set, replicate, encode_utf8}
use Rattle.esc_table.specs.Rows.{EscapeRow}

-- the byte with which a character begins
abbrev pub first_byte : ℕ → ℕ
first_byte character = get_or (encode_utf8 character) 0 0

-- the bytes that are kept, without those with which some characters begin
abbrev pub kept_of : List Bool → List ℕ → List Bool
kept_of kept [] = kept
kept_of kept (character ∷ characters) = kept_of (set kept (first_byte character) false) characters

abbrev pub characters_of : List EscapeRow → List ℕ
characters_of rows = map (λ row. row.character) rows

-- of all bytes, those with which no character of a table begins
abbrev pub kept_by : List EscapeRow → List Bool
kept_by rows = kept_of (replicate 256 true) (characters_of rows)

-- whether a byte is kept
abbrev pub is_kept_byte : List Bool → ℕ → Bool
is_kept_byte kept byte = get_or kept byte false
