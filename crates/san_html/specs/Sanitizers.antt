-- The sanitizers of HTML: what they write for a text, so that no character of it is read as markup (HTML Standard, sections 13.1.2.3 and 13.1.4).
use Rattle.std.specs.Prelude.{ℕ, Bool, not, ◌&&◌, ◌==◌, length, codes, List, [], ◌∷◌, if◌then◌else◌}
use Rattle.std.specs.Char.{is_ascii_alphanumeric}
use Rattle.std.specs.List.{list_all}
use Rattle.std.specs.Str.{str_to_ascii_lowercase}
use Rattle.esc_table.specs.Rows.{EscapeRow, escape_row}
use Rattle.esc_table.specs.Replaced.{replaced}
use Rattle.place_core.specs.page.Words.{is_special}

-- U+FFFD in UTF-8
abbrev pub as_replacement : List ℕ
as_replacement = 239 ∷ 191 ∷ 189 ∷ []

-- the characters of markup and of quotes, and `+`
abbrev pub markup_rows : List EscapeRow
markup_rows =
    escape_row 34 "&#34;" ∷ escape_row 38 "&amp;" ∷ escape_row 39 "&#39;" ∷ escape_row 43 "&#43;" ∷ escape_row 60 "&lt;" ∷ escape_row 62 "&gt;" ∷ []

-- besides, NUL is U+FFFD
abbrev pub html_rows : List EscapeRow
html_rows = record { character = 0; replacement = as_replacement } ∷ markup_rows

-- and in place of it NUL as a reference, white space, vertical tabs, and what ends an unquoted value or may not stand in one
abbrev pub attr_nospace_rows : List EscapeRow
attr_nospace_rows =
    escape_row 0 "&#xfffd;" ∷ escape_row 9 "&#9;" ∷ escape_row 10 "&#10;" ∷ escape_row 11 "&#11;" ∷ escape_row 12 "&#12;" ∷ escape_row 13 "&#13;" ∷ escape_row 32 "&#32;" ∷ escape_row 61 "&#61;" ∷ escape_row 96 "&#96;" ∷ markup_rows

-- what stands where a value may not
abbrev pub failsafe : List ℕ
failsafe = codes "ZgotmplZ"

-- for text, title, textarea and data blocks, and for quoted values
abbrev pub html : List ℕ → List ℕ
html text = replaced html_rows text

-- for unquoted values, which have a byte at least
abbrev pub attr_nospace : List ℕ → List ℕ
attr_nospace [] = failsafe
attr_nospace (b ∷ bs) = replaced attr_nospace_rows (b ∷ bs)

-- whether a text is the name of an attribute that data may make: letters and digits, one at least, and not special
abbrev pub is_attribute_name : List ℕ → Bool
is_attribute_name text = not (length text == 0) && (list_all is_ascii_alphanumeric text && not (is_special text))

-- for names of attributes
abbrev pub attr_name : List ℕ → List ℕ
attr_name text = if is_attribute_name text then str_to_ascii_lowercase text else failsafe
