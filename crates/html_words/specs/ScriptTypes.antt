-- The type of a script, compared with a word byte by byte, while its references are undone.
use Rattle.std.specs.Prelude.{ℕ, ◌==◌, ◌||◌, ◌&&◌, nat_lt, Bool, true, false, List, [], ◌∷◌, Option, Some, None, if◌then◌else◌}
use Rattle.std.specs.Char.{is_ascii_whitespace, to_ascii_lowercase}
use Rattle.std.specs.List.{list_any}
use Rattle.place_core.specs.page.Characters.{reference_at}
use Rattle.place_core.specs.page.References.{Closed, undone}

-- the value of an attribute with its references undone
abbrev pub undone_value : List ℕ → List ℕ
undone_value value = undone true Closed value

-- the character of the reference with which a value begins, or else its first byte, and how many bytes either takes
abbrev pub reference_or_byte : List ℕ → Option (ℕ × ℕ)
reference_or_byte [] = None
reference_or_byte (b ∷ bs) = Some (if b == 38 then reference_at true bs else (b, 1))

-- of bytes with references undone: the first, where it is of ASCII, and those after it
abbrev pub first_ascii : List ℕ → Option (ℕ × List ℕ)
first_ascii [] = None
first_ascii (b ∷ bs) = if nat_lt b 128 then Some (b, bs) else None

-- likewise, whether only white space stands before the first semicolon, or before the end
abbrev pub is_type_end : List ℕ → Bool
is_type_end [] = true
is_type_end (b ∷ bs) = b == 59 || (is_ascii_whitespace b && is_type_end bs)

-- likewise, whether they are a word of ASCII in any case of the letters, and then the end of a type; the word is in lower case
abbrev pub is_type_word : List ℕ → List ℕ → Bool
is_type_word [] bytes = is_type_end bytes
is_type_word (c ∷ cs) [] = false
is_type_word (c ∷ cs) (b ∷ bs) = (nat_lt b 128 && to_ascii_lowercase b == c) && is_type_word cs bs

-- whether they are one of these words
abbrev pub is_any_type : List (List ℕ) → List ℕ → Bool
is_any_type words bytes = list_any (λ word. is_type_word word bytes) words
