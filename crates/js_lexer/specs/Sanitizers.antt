-- What is written for a value in a script: in a string, in a regular expression, and as data in code.
use Rattle.std.specs.Prelude.{ℕ, zero, suc, ◌-◌, ◌/◌, ◌%◌, ◌==◌, ◌||◌, nat_eq, Bool, true, false, codes, encode_utf8, length, map, reverse, take, List, [], ◌∷◌, ◌++◌, if◌then◌else◌}
use Rattle.std.specs.Char.{digit_char, is_ascii_alphanumeric}
use Rattle.std.specs.Fmt.{signed_decimal}
use Rattle.std.specs.List.{starts_with}
use Rattle.page_datum.specs.Data.{Data, null, truth, int, text, list, dict, DataList, no_items, item, DataDict, no_entries, entry}

-- A table has for a character what is written for it. At each place of a text the first row counts whose character stands there; what has no row
-- is written as it is.
abbrev pub Rows : Type 0
Rows = List (ℕ × List ℕ)

abbrev pub script_stands_at : ℕ → List ℕ → Bool
script_stands_at character bytes = starts_with nat_eq bytes (encode_utf8 character)

-- what is written for the character with which the bytes begin, and how many bytes it has besides the first
abbrev pub escaped_at : Rows → List ℕ → List ℕ
escaped_at [] bytes = take 1 bytes
escaped_at (row ∷ rows) bytes = if script_stands_at row.0 bytes then row.1 else escaped_at rows bytes

abbrev pub taken_at : Rows → List ℕ → ℕ
taken_at [] bytes = 0
taken_at (row ∷ rows) bytes = if script_stands_at row.0 bytes then length (encode_utf8 row.0) - 1 else taken_at rows bytes

-- the number of bytes at the beginning that belong to a character which is written already
abbrev pub escaped_from : Rows → ℕ → List ℕ → List ℕ
escaped_from rows n [] = []
escaped_from rows (suc n) (b ∷ bs) = escaped_from rows n bs
escaped_from rows zero (b ∷ bs) = escaped_at rows (b ∷ bs) ++ escaped_from rows (taken_at rows (b ∷ bs)) bs

abbrev pub escaped : Rows → List ℕ → List ℕ
escaped rows bytes = escaped_from rows 0 bytes

-- In a string: what ends it, what HTML or CSS may read, and what JavaScript reads as the end of a line (ECMA-262, section 12.9.4).
abbrev pub string_rows : Rows
string_rows =
    (0, codes "\\u0000") ∷ (9, codes "\\t") ∷ (10, codes "\\n") ∷ (11, codes "\\u000b") ∷ (12, codes "\\f") ∷ (13, codes "\\r")
    ∷ (34, codes "\\u0022") ∷ (96, codes "\\u0060") ∷ (38, codes "\\u0026") ∷ (39, codes "\\u0027") ∷ (43, codes "\\u002b") ∷ (47, codes "\\/")
    ∷ (60, codes "\\u003c") ∷ (62, codes "\\u003e") ∷ (92, codes "\\\\") ∷ (0x2028, codes "\\u2028") ∷ (0x2029, codes "\\u2029") ∷ []

abbrev pub js_string : List ℕ → List ℕ
js_string bytes = escaped string_rows bytes

-- In a regular expression: besides, the characters of its syntax (section 22.2.1). The empty one would begin a comment.
abbrev pub regexp_rows : Rows
regexp_rows = string_rows ++ map (λ c. (c, 92 ∷ c ∷ [])) (codes "$()*-.?[]^{|}")

abbrev pub empty_expression : List ℕ
empty_expression = codes "(?:)"

abbrev pub js_regexp : List ℕ → List ℕ
js_regexp [] = empty_expression
js_regexp (b ∷ bs) = escaped regexp_rows (b ∷ bs)

-- As data: JSON (RFC 8259) without blanks, in which no character is written that HTML may read, nor an end of a line. The other control characters
-- are `\u00` and two digits.
abbrev pub control_row : ℕ → ℕ × List ℕ
control_row c = (c, codes "\\u00" ++ (digit_char (c / 16) ∷ digit_char (c % 16) ∷ []))

abbrev pub controls : List ℕ
controls =
    0 ∷ 1 ∷ 2 ∷ 3 ∷ 4 ∷ 5 ∷ 6 ∷ 7 ∷ 8 ∷ 9 ∷ 10 ∷ 11 ∷ 12 ∷ 13 ∷ 14 ∷ 15 ∷ 16 ∷ 17 ∷ 18 ∷ 19 ∷ 20 ∷ 21 ∷ 22 ∷ 23 ∷ 24 ∷ 25 ∷ 26 ∷ 27 ∷ 28
    ∷ 29 ∷ 30 ∷ 31 ∷ []

abbrev pub text_rows : Rows
text_rows =
    (34, codes "\\\"") ∷ (92, codes "\\\\") ∷ (10, codes "\\n") ∷ (13, codes "\\r") ∷ (9, codes "\\t") ∷ (60, codes "\\u003c")
    ∷ (62, codes "\\u003e") ∷ (38, codes "\\u0026") ∷ (0x2028, codes "\\u2028") ∷ (0x2029, codes "\\u2029") ∷ map control_row controls

abbrev pub json_text : List ℕ → List ℕ
json_text bytes = 34 ∷ (escaped text_rows bytes ++ 34 ∷ [])

abbrev mutual
  pub json : Data → List ℕ
  json null = codes "null"
  json (truth true) = codes "true"
  json (truth false) = codes "false"
  json (int n) = signed_decimal n
  json (text t) = json_text t
  json (list items) = 91 ∷ (json_items items ++ 93 ∷ [])
  json (dict entries) = 123 ∷ (json_entries entries ++ 125 ∷ [])

  pub json_items : DataList → List ℕ
  json_items no_items = []
  json_items (item d rest) = json d ++ json_more_items rest

  pub json_more_items : DataList → List ℕ
  json_more_items no_items = []
  json_more_items (item d rest) = 44 ∷ (json d ++ json_more_items rest)

  pub json_entries : DataDict → List ℕ
  json_entries no_entries = []
  json_entries (entry key d rest) = json_text key ++ 58 ∷ (json d ++ json_more_entries rest)

  pub json_more_entries : DataDict → List ℕ
  json_more_entries no_entries = []
  json_more_entries (entry key d rest) = 44 ∷ (json_text key ++ 58 ∷ (json d ++ json_more_entries rest))

-- A space stands on both sides of what begins or ends as a word or a number does: it joins nothing beside it.
abbrev pub is_joined : ℕ → Bool
is_joined b = is_ascii_alphanumeric b || (b == 95 || b == 36)

abbrev pub begins_joined : List ℕ → Bool
begins_joined [] = false
begins_joined (b ∷ bs) = is_joined b

abbrev pub spaced : List ℕ → List ℕ
spaced bytes = if begins_joined bytes || begins_joined (reverse bytes) then 32 ∷ (bytes ++ 32 ∷ []) else bytes

abbrev pub js_value : Data → List ℕ
js_value d = spaced (json d)

-- In a comment nothing is written; in a value without quotes this word, since such a value has a byte at least.
abbrev pub script_failsafe : List ℕ
script_failsafe = codes "ZgotmplZ"
