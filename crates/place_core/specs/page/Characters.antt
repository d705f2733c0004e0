-- The characters of a text with its references undone, one after the other, by looking ahead (HTML Standard, sections
-- 13.2.5.72 to 13.2.5.80). `References` reads the same byte by byte.
use Rattle.std.specs.Prelude.{ℕ, ◌+◌, ◌==◌, ◌||◌, ◌&&◌, nat_eq, Bool, true, false, zero, suc, bytes_eq, List, [], ◌∷◌, length, take, drop, Option, Some, None, if◌then◌else◌}
use Rattle.std.specs.Char.{is_ascii_alphanumeric, is_ascii_digit, is_ascii_hexdigit}
use Rattle.std.specs.List.{starts_with, prefix_len, list_all}
use Rattle.place_core.specs.page.References.{ReferenceRow, names, short_names, named_in, numbered_reference, number_in_reference}
use Rattle.place_core.specs.page.Utf8.{first_character}

-- an ampersand that begins no reference: itself, one byte
abbrev pub itself : ℕ × ℕ
itself = (38, 1)

-- a name of this length that no semicolon ends: in text a short name at its beginning, in a value a short name that is all of it
abbrev pub begins_at : List (ReferenceRow (List ℕ)) → List ℕ → ℕ × ℕ
begins_at [] name = itself
begins_at (r ∷ rows) name = if starts_with nat_eq name r.key then (r.code, length r.key + 1) else begins_at rows name

abbrev pub whole_at : List (ReferenceRow (List ℕ)) → List ℕ → ℕ × ℕ
whole_at [] name = itself
whole_at (r ∷ rows) name = if bytes_eq r.key name then (r.code, length name + 1) else whole_at rows name

abbrev pub short_at : Bool → Bool → List ℕ → ℕ × ℕ
short_at attribute equals name = if attribute then (if equals then itself else whole_at short_names name) else begins_at short_names name

-- a name, and what stands after it
abbrev pub reference_name_at : Bool → List ℕ → List ℕ → ℕ × ℕ
reference_name_at attribute name [] = short_at attribute false name
reference_name_at attribute name (b ∷ rest) = if b == 59 then (named_in names name, length name + 2) else short_at attribute (b == 61) name

-- a number in a base, with how many bytes stand before its digits, its digits, and what stands after them
abbrev pub semicolon_len : List ℕ → ℕ
semicolon_len [] = 0
semicolon_len (b ∷ rest) = if b == 59 then 1 else 0

abbrev pub number_from : ℕ → ℕ → List ℕ → List ℕ → ℕ × ℕ
number_from base before [] rest = itself
number_from base before (d ∷ ds) rest = (numbered_reference (number_in_reference base 0 (d ∷ ds)), before + (length (d ∷ ds) + semicolon_len rest))

abbrev pub letter_run : (ℕ → Bool) → List ℕ → List ℕ
letter_run passes bytes = take (prefix_len passes bytes) bytes

abbrev pub after_run : (ℕ → Bool) → List ℕ → List ℕ
after_run passes bytes = drop (prefix_len passes bytes) bytes

-- after `&#`
abbrev pub hashed_at : List ℕ → ℕ × ℕ
hashed_at [] = itself
hashed_at (b ∷ bs) =
    if b == 88 || b == 120 then number_from 16 3 (letter_run is_ascii_hexdigit bs) (after_run is_ascii_hexdigit bs)
    else number_from 10 2 (letter_run is_ascii_digit (b ∷ bs)) (after_run is_ascii_digit (b ∷ bs))

-- after `&`
abbrev pub reference_at : Bool → List ℕ → ℕ × ℕ
reference_at attribute [] = itself
reference_at attribute (b ∷ bs) =
    if b == 35 then hashed_at bs
    else (if is_ascii_alphanumeric b then reference_name_at attribute (letter_run is_ascii_alphanumeric (b ∷ bs)) (after_run is_ascii_alphanumeric (b ∷ bs))
    else itself)

-- After `&`: whether all that stands there up to the text's end is a reference that only its end breaks off. (`&` alone, or with letters and
-- digits, or `&#` with or without digits, or `&#x` with or without hexadecimal digits.)
abbrev pub is_broken_number : List ℕ → Bool
is_broken_number [] = true
is_broken_number (b ∷ bs) = if b == 88 || b == 120 then list_all is_ascii_hexdigit bs else list_all is_ascii_digit (b ∷ bs)

abbrev pub is_broken_off : List ℕ → Bool
is_broken_off [] = true
is_broken_off (b ∷ bs) = if b == 35 then is_broken_number bs else list_all is_ascii_alphanumeric (b ∷ bs)

-- the first character and how many bytes it takes: in a value of an attribute or not, and where the text is cut at its end or not. What a cut
-- breaks off is no reference.
abbrev pub character_at : Bool → Bool → ℕ → List ℕ → ℕ × ℕ
character_at attribute cut b bs =
    if b == 38 then (if cut && is_broken_off bs then itself else reference_at attribute bs)
    else first_character b bs

abbrev pub char_at : Bool → Bool → List ℕ → Option (ℕ × ℕ)
char_at attribute cut [] = None
char_at attribute cut (b ∷ bs) = Some (character_at attribute cut b bs)

-- One character after another, at most so many, each with the place of its first byte.
abbrev pub before_rest : Option (ℕ × ℕ) → ℕ → (ℕ → List (ℕ × ℕ)) → List (ℕ × ℕ)
before_rest None at rest = []
before_rest (Some first) at rest = (first.0, at) ∷ rest first.1

abbrev pub characters_within : ℕ → Bool → Bool → ℕ → List ℕ → List (ℕ × ℕ)
characters_within zero attribute cut at bytes = []
characters_within (suc most) attribute cut at bytes = before_rest (char_at attribute cut bytes) at (λ len. characters_within most attribute cut (at + len) (drop len bytes))

-- all characters of the bytes, from a place on: each takes a byte at least
abbrev pub characters_at : Bool → Bool → ℕ → List ℕ → List (ℕ × ℕ)
characters_at attribute cut at bytes = characters_within (length bytes) attribute cut at bytes
