-- Character references (HTML Standard, sections 13.2.5.72 to 13.2.5.80 and 13.5), for the names of a profile. A reference is
-- read byte by byte and pending back until it is known what it stands for.
use Rattle.std.specs.Prelude.{ℕ, ◌+◌, ◌-◌, ◌*◌, ◌==◌, ◌||◌, ◌&&◌, nat_le, nat_eq, Bool, false, codes, bytes_eq, encode_utf8, List, [], ◌∷◌, ◌++◌, length, drop, if◌then◌else◌}
use Rattle.std.specs.List.{starts_with}
use Rattle.place_core.specs.page.Classes.{LetterClass, HexadecimalLetter, LetterX, Class, NumberSign, Ampersand, Digit, Semicolon, Letter, class_of, is_equals_sign}

-- how far a reference has come: an ampersand (character reference state), a name (named), a number sign (numeric, and decimal start), decimal
-- digits (decimal), an x (hexadecimal start), hexadecimal digits (hexadecimal)
pub data Form : Type 0 where
  Begun : Form
  Named : Form
  Hashed : Form
  Decimal : Form
  HexMark : Form
  Hexadecimal : Form

-- what the next byte does to it: the reference goes on, or ends by its semicolon; or the byte is no part of it, and is read again after it
pub data ReferenceStep : Type 0 where
  Grows : Form → ReferenceStep
  Closes : ReferenceStep
  Breaks : ReferenceStep

abbrev pub letter_turn : LetterClass → Form → ReferenceStep
letter_turn l Begun = Grows Named
letter_turn l Named = Grows Named
letter_turn LetterX Hashed = Grows HexMark
letter_turn HexadecimalLetter HexMark = Grows Hexadecimal
letter_turn HexadecimalLetter Hexadecimal = Grows Hexadecimal
letter_turn l f = Breaks

abbrev pub turn : Class → Form → ReferenceStep
turn (Letter l) f = letter_turn l f
turn Digit Begun = Grows Named
turn Digit Named = Grows Named
turn Digit Hashed = Grows Decimal
turn Digit Decimal = Grows Decimal
turn Digit HexMark = Grows Hexadecimal
turn Digit Hexadecimal = Grows Hexadecimal
turn NumberSign Begun = Grows Hashed
turn Semicolon Named = Closes
turn Semicolon Decimal = Closes
turn Semicolon Hexadecimal = Closes
turn c f = Breaks

-- a row of a table of characters: what is found there, and the code of its character
pub record ReferenceRow (A : Type 0) : Type 0 where
  pub key : A
  pub code : ℕ

abbrev pub reference_row : {A : Type 0} → A → ℕ → ReferenceRow A
reference_row k c = record { key = k; code = c }

-- the names of the profile, each with the code of its character
abbrev pub names : List (ReferenceRow (List ℕ))
names =
    reference_row (codes "Tab") 9
    ∷ reference_row (codes "NewLine") 10
    ∷ reference_row (codes "excl") 33
    ∷ reference_row (codes "quot") 34
    ∷ reference_row (codes "QUOT") 34
    ∷ reference_row (codes "num") 35
    ∷ reference_row (codes "dollar") 36
    ∷ reference_row (codes "percnt") 37
    ∷ reference_row (codes "amp") 38
    ∷ reference_row (codes "AMP") 38
    ∷ reference_row (codes "apos") 39
    ∷ reference_row (codes "lpar") 40
    ∷ reference_row (codes "rpar") 41
    ∷ reference_row (codes "ast") 42
    ∷ reference_row (codes "midast") 42
    ∷ reference_row (codes "plus") 43
    ∷ reference_row (codes "comma") 44
    ∷ reference_row (codes "period") 46
    ∷ reference_row (codes "sol") 47
    ∷ reference_row (codes "colon") 58
    ∷ reference_row (codes "semi") 59
    ∷ reference_row (codes "lt") 60
    ∷ reference_row (codes "LT") 60
    ∷ reference_row (codes "equals") 61
    ∷ reference_row (codes "gt") 62
    ∷ reference_row (codes "GT") 62
    ∷ reference_row (codes "quest") 63
    ∷ reference_row (codes "commat") 64
    ∷ reference_row (codes "lsqb") 91
    ∷ reference_row (codes "lbrack") 91
    ∷ reference_row (codes "bsol") 92
    ∷ reference_row (codes "rsqb") 93
    ∷ reference_row (codes "rbrack") 93
    ∷ reference_row (codes "Hat") 94
    ∷ reference_row (codes "lowbar") 95
    ∷ reference_row (codes "UnderBar") 95
    ∷ reference_row (codes "grave") 96
    ∷ reference_row (codes "DiacriticalGrave") 96
    ∷ reference_row (codes "lcub") 123
    ∷ reference_row (codes "lbrace") 123
    ∷ reference_row (codes "verbar") 124
    ∷ reference_row (codes "vert") 124
    ∷ reference_row (codes "VerticalLine") 124
    ∷ reference_row (codes "rcub") 125
    ∷ reference_row (codes "rbrace") 125
    ∷ reference_row (codes "nbsp") 160
    ∷ []

-- the names that need no semicolon
abbrev pub short_names : List (ReferenceRow (List ℕ))
short_names =
    reference_row (codes "amp") 38
    ∷ reference_row (codes "lt") 60
    ∷ reference_row (codes "gt") 62
    ∷ reference_row (codes "quot") 34
    ∷ reference_row (codes "AMP") 38
    ∷ reference_row (codes "LT") 60
    ∷ reference_row (codes "GT") 62
    ∷ reference_row (codes "QUOT") 34
    ∷ reference_row (codes "nbsp") 160
    ∷ []

-- the numbers that stand for another character than their own (the table of 13.2.5.80)
abbrev pub numbers : List (ReferenceRow ℕ)
numbers =
    reference_row 128 8364
    ∷ reference_row 130 8218
    ∷ reference_row 131 402
    ∷ reference_row 132 8222
    ∷ reference_row 133 8230
    ∷ reference_row 134 8224
    ∷ reference_row 135 8225
    ∷ reference_row 136 710
    ∷ reference_row 137 8240
    ∷ reference_row 138 352
    ∷ reference_row 139 8249
    ∷ reference_row 140 338
    ∷ reference_row 142 381
    ∷ reference_row 145 8216
    ∷ reference_row 146 8217
    ∷ reference_row 147 8220
    ∷ reference_row 148 8221
    ∷ reference_row 149 8226
    ∷ reference_row 150 8211
    ∷ reference_row 151 8212
    ∷ reference_row 152 732
    ∷ reference_row 153 8482
    ∷ reference_row 154 353
    ∷ reference_row 155 8250
    ∷ reference_row 156 339
    ∷ reference_row 158 382
    ∷ reference_row 159 376
    ∷ []

-- U+FFFD, the character for what stands for none
abbrev pub replacement : ℕ
replacement = 65533

-- The character of a name. The profile is the names above; another name is U+FFFD in it.
abbrev pub named_in : List (ReferenceRow (List ℕ)) → List ℕ → ℕ
named_in [] name = replacement
named_in (r ∷ rows) name = if bytes_eq r.key name then r.code else named_in rows name

-- In text, a name without a semicolon: the character of a short name at its beginning and what stands after it, or all as it is.
abbrev pub begins_in : List (ReferenceRow (List ℕ)) → List ℕ → List ℕ
begins_in [] name = 38 ∷ name
begins_in (r ∷ rows) name = if starts_with nat_eq name r.key then encode_utf8 r.code ++ drop (length r.key) name else begins_in rows name

-- In the value of an attribute, a name without a semicolon: the character of a short name that is all of it, or all as it is.
abbrev pub whole_in : List (ReferenceRow (List ℕ)) → List ℕ → List ℕ
whole_in [] name = 38 ∷ name
whole_in (r ∷ rows) name = if bytes_eq r.key name then encode_utf8 r.code else whole_in rows name

abbrev pub number_at : List (ReferenceRow ℕ) → ℕ → ℕ
number_at [] n = n
number_at (r ∷ rows) n = if r.key == n then r.code else number_at rows n

-- the character of a number: U+FFFD for zero, surrogates and what is past the last code point
abbrev pub numbered_reference : ℕ → ℕ
numbered_reference n = if n == 0 || (nat_le 1114112 n || (nat_le 55296 n && nat_le n 57343)) then replacement else number_at numbers n

abbrev pub digit_of : ℕ → ℕ
digit_of b = if nat_le b 57 then b - 48 else (if nat_le b 70 then b - 55 else b - 87)

-- a number in a base, after the number so far
abbrev pub number_in_reference : ℕ → ℕ → List ℕ → ℕ
number_in_reference base n [] = n
number_in_reference base n (b ∷ bs) = number_in_reference base (n * base + digit_of b) bs

-- the character of a reference with its semicolon, from the bytes between `&` and `;`; the other forms never end by a semicolon
unfoldable pub meaning : Form → List ℕ → ℕ
meaning Named bytes = named_in names bytes
meaning Decimal bytes = numbered_reference (number_in_reference 10 0 (drop 1 bytes))
meaning Hexadecimal bytes = numbered_reference (number_in_reference 16 0 (drop 2 bytes))
meaning f bytes = replacement

-- a name that no semicolon ends: in text; in a value, where a name before an equals sign is no reference
abbrev pub flushed_name : Bool → Bool → List ℕ → List ℕ
flushed_name attribute equals name = if attribute then (if equals then 38 ∷ name else whole_in short_names name) else begins_in short_names name

-- the text of a reference that no semicolon ends, from the bytes after `&`, in a value or not, before an equals sign or not
unfoldable pub flushed : Bool → Bool → Form → List ℕ → List ℕ
flushed attribute equals Named bytes = flushed_name attribute equals bytes
flushed attribute equals Decimal bytes = encode_utf8 (numbered_reference (number_in_reference 10 0 (drop 1 bytes)))
flushed attribute equals Hexadecimal bytes = encode_utf8 (numbered_reference (number_in_reference 16 0 (drop 2 bytes)))
flushed attribute equals f bytes = 38 ∷ bytes

-- where a text with references stands: no reference is open, or one, with the bytes after its `&`
pub data Reference : Type 0 where
  Closed : Reference
  Open : Form → List ℕ → Reference

-- where a byte leads to where no reference is open, and what of the text it tells
abbrev pub begin_reference : Class → Reference
begin_reference Ampersand = Open Begun []
begin_reference _ = Closed

abbrev pub plain_bytes : Class → ℕ → List ℕ
plain_bytes Ampersand b = []
plain_bytes _ b = b ∷ []

-- likewise, and where one is open, by what the byte does to it
abbrev pub reference_turned : ReferenceStep → List ℕ → Class → ℕ → Reference
reference_turned (Grows g) bytes c b = Open g (bytes ++ b ∷ [])
reference_turned Closes bytes c b = Closed
reference_turned Breaks bytes c b = begin_reference c

abbrev pub turn_bytes : Bool → ReferenceStep → Form → List ℕ → Class → ℕ → List ℕ
turn_bytes attribute (Grows g) f bytes c b = []
turn_bytes attribute Closes f bytes c b = encode_utf8 (meaning f bytes)
turn_bytes attribute Breaks f bytes c b = flushed attribute (is_equals_sign c) f bytes ++ plain_bytes c b

-- where a byte of a text with references leads to
abbrev pub next_reference : Reference → Class → ℕ → Reference
next_reference Closed c b = begin_reference c
next_reference (Open f bytes) c b = reference_turned (turn c f) bytes c b

-- the bytes of the text, with references undone, that it tells; a reference's character in UTF-8
abbrev pub undone_byte : Bool → Reference → Class → ℕ → List ℕ
undone_byte attribute Closed c b = plain_bytes c b
undone_byte attribute (Open f bytes) c b = turn_bytes attribute (turn c f) f bytes c b

-- what is told of an open reference where the text ends
abbrev pub settled : Bool → Reference → List ℕ
settled attribute Closed = []
settled attribute (Open f bytes) = flushed attribute false f bytes

-- likewise, and where it is cut there: the bytes of the reference as they stand
abbrev pub as_it_stands : Reference → List ℕ
as_it_stands Closed = []
as_it_stands (Open f bytes) = 38 ∷ bytes

-- a text with its references undone, byte by byte, from where it stands
abbrev pub undone : Bool → Reference → List ℕ → List ℕ
undone attribute r [] = settled attribute r
undone attribute r (b ∷ bs) = undone_byte attribute r (class_of b) b ++ undone attribute (next_reference r (class_of b) b) bs
