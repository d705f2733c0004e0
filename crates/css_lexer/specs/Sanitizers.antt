-- What is written for a value in a style. A text is bytes of UTF-8.
use Rattle.std.specs.Prelude.{ℕ, ◌==◌, ◌||◌, nat_eq, Bool, true, codes, List, [], ◌∷◌, ◌++◌, filter, if◌then◌else◌}
use Rattle.std.specs.Char.{is_ascii_alphanumeric, is_ascii_hexdigit, is_ascii_whitespace}
use Rattle.std.specs.List.{list_any, starts_with}
use Rattle.std.specs.Str.{str_to_ascii_lowercase}
use Rattle.css_lexer.specs.Unescaping.{style_escapes_undone}

abbrev pub style_failsafe : List ℕ
style_failsafe = codes "ZgotmplZ"

-- In a string: what may end it, begin another token or be read by HTML is written as an escape. Its digits; none where a byte is not
-- written so.
abbrev pub string_digits : ℕ → List ℕ
string_digits b =
    if b == 0 then codes "0"
    else (if b == 9 then codes "9"
    else (if b == 10 then codes "a"
    else (if b == 12 then codes "c"
    else (if b == 13 then codes "d"
    else (if b == 34 then codes "22"
    else (if b == 38 then codes "26"
    else (if b == 39 then codes "27"
    else (if b == 40 then codes "28"
    else (if b == 41 then codes "29"
    else (if b == 43 then codes "2b"
    else (if b == 47 then codes "2f"
    else (if b == 58 then codes "3a"
    else (if b == 59 then codes "3b"
    else (if b == 60 then codes "3c"
    else (if b == 62 then codes "3e"
    else (if b == 123 then codes "7b"
    else (if b == 125 then codes "7d"
    else [])))))))))))))))))

-- What follows the digits must not go on with them: a space parts them from a digit, from white space, and from whatever stands behind
-- the value.
abbrev pub goes_on_with : List ℕ → Bool
goes_on_with [] = true
goes_on_with (b ∷ bs) = is_ascii_hexdigit b || is_ascii_whitespace b

-- a backslash is written twice
abbrev pub string_byte : List ℕ → ℕ → List ℕ → List ℕ
string_byte [] b rest = if b == 92 then codes "\\\\" else b ∷ []
string_byte (d ∷ ds) b rest = 92 ∷ d ∷ ds ++ (if goes_on_with rest then codes " " else [])

abbrev pub css_string : List ℕ → List ℕ
css_string [] = []
css_string (b ∷ bs) = string_byte (string_digits b) b bs ++ css_string bs

-- Elsewhere: the text with its escapes undone, or the failsafe where it has a byte that is not of words and plain text, or that may be
-- read otherwise,
abbrev pub forbidden_bytes : List ℕ
forbidden_bytes = 0 ∷ codes "\"'()*/;@[\\]{}<>`"

abbrev pub is_forbidden : ℕ → Bool
is_forbidden b = list_any (nat_eq b) forbidden_bytes

abbrev pub holds_word : List ℕ → List ℕ → Bool
holds_word part [] = starts_with nat_eq [] part
holds_word part (b ∷ bs) = starts_with nat_eq (b ∷ bs) part || holds_word part bs

-- or where its letters, digits and `_` alone, in lower case, spell a property that runs code.
abbrev pub is_spelled : ℕ → Bool
is_spelled b = is_ascii_alphanumeric b || b == 95

abbrev pub style_spelled : List ℕ → List ℕ
style_spelled text = str_to_ascii_lowercase (filter is_spelled text)

abbrev pub is_unsafe : List ℕ → Bool
is_unsafe text =
    list_any is_forbidden text
    || (holds_word (codes "--") text
    || (holds_word (codes "expression") (style_spelled text)
    || holds_word (codes "mozbinding") (style_spelled text)))

abbrev pub unless_unsafe : List ℕ → List ℕ
unless_unsafe text = if is_unsafe text then style_failsafe else text

abbrev pub css_value : List ℕ → List ℕ
css_value text = unless_unsafe (style_escapes_undone text)

-- What a text in a string stands for behind its escapes: itself, with U+FFFD for NUL.
abbrev pub as_text_byte : ℕ → List ℕ
as_text_byte b = if b == 0 then 239 ∷ 191 ∷ 189 ∷ [] else b ∷ []

abbrev pub style_as_text : List ℕ → List ℕ
style_as_text [] = []
style_as_text (b ∷ bs) = as_text_byte b ++ style_as_text bs
