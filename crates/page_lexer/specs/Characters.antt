-- The characters of bytes, one after the other, as UTF-8: a byte of no well formed character is U+FFFD (Encoding Standard, section 8.1.1). In the
-- value of an attribute references are undone (HTML Standard, sections 13.2.5.72 to 13.2.5.80).
use Rattle.std.specs.Prelude.{ℕ, Bool, true, false, encode_utf8, List, [], ◌∷◌, ◌++◌, drop, Option, Some, None, if◌then◌else◌}
use Rattle.std.specs.Str.{str_to_ascii_lowercase}
use lib.Utf8.{scalar}
use Rattle.place_core.specs.page.Characters.{char_at}
use Rattle.place_core.specs.page.References.{replacement}
use Rattle.place_core.specs.page.Utf8.{first_character}

-- the first character as it stands, as its code, and how many bytes it takes
abbrev pub raw_char_at : List ℕ → Option (ℕ × ℕ)
raw_char_at [] = None
raw_char_at (b ∷ bs) = Some (first_character b bs)

-- with references undone or not
abbrev pub first_of : Bool → List ℕ → Option (ℕ × ℕ)
first_of true bytes = char_at true false bytes
first_of false bytes = raw_char_at bytes

-- a character's bytes; a code that is no character's is U+FFFD
abbrev pub code_bytes : ℕ → List ℕ
code_bytes code = if scalar code then encode_utf8 code else encode_utf8 replacement

abbrev pub then_rest : Option (ℕ × ℕ) → (ℕ → List ℕ) → List ℕ
then_rest None rest = []
then_rest (Some first) rest = code_bytes first.0 ++ rest first.1

-- the characters of the bytes, at most one for each byte of the first list
abbrev pub shown_within : Bool → List ℕ → List ℕ → List ℕ
shown_within references [] bytes = []
shown_within references (_ ∷ turns) bytes = then_rest (first_of references bytes) (λ len. shown_within references turns (drop len bytes))

-- all characters: each takes a byte at least
abbrev pub shown_characters : Bool → List ℕ → List ℕ
shown_characters references bytes = shown_within references bytes bytes

abbrev pub shown_text : List ℕ → List ℕ
shown_text bytes = shown_characters false bytes

abbrev pub shown_value : List ℕ → List ℕ
shown_value bytes = shown_characters true bytes

-- a name, in lower case
abbrev pub name_text : List ℕ → List ℕ
name_text bytes = str_to_ascii_lowercase (shown_text bytes)
