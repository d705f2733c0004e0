-- The trail of a state: what refusals need of the bytes that were read (see `Trail`).
use Rattle.std.specs.Prelude.{ℕ, zero, suc, ◌==◌, ◌||◌, ◌&&◌, nat_le, nat_eq, not, Bool, true, false, bytes_eq, codes, encode_utf8, List, [], ◌∷◌, ◌++◌, length, if◌then◌else◌}
use Rattle.std.specs.Char.{is_ascii_digit, is_ascii_hexdigit, to_ascii_lowercase}
use Rattle.std.specs.List.{list_all, list_any, starts_with}
use Rattle.js_lexer.specs.States.{At, Code, Word, Number, Pluses, Minuses, Slash, LineComment, BlockComment, InString, InRegexp, PartLines, HasLine, NoLineYet, Trail, ScriptPoint}
use Rattle.js_lexer.specs.declared.sense.Sense.TheVariants as sense

abbrev pub is_empty : {A : Type 0} → List A → Bool
is_empty [] = true
is_empty (x ∷ xs) = false

-- What HTML and old browsers read in a script (HTML Standard, sections 13.2.5.15 to 13.2.5.31; ECMA-262, sections 12.5 and B.1.1). The first argument
-- says that it is in a template literal (true): outside of literals `<script` is nothing, as no `<!--` stands before it.
abbrev pub markup_words : Bool → List (List ℕ)
markup_words true = codes "<!--" ∷ codes "</script" ∷ codes "<script" ∷ codes "#!" ∷ codes "-->" ∷ []
markup_words false = codes "<!--" ∷ codes "</script" ∷ codes "#!" ∷ codes "-->" ∷ []

abbrev pub begins_markup : Bool → List ℕ → Bool
begins_markup inside bytes = list_any (λ word. starts_with nat_eq word bytes) (markup_words inside)

-- A state in which a `<`, a `#` or a `-` is punctuation of code. In the code of a template literal comments count too, and outside of literals they do
-- not.
abbrev pub is_markup_code : Bool → At → Bool
is_markup_code inside (Code s) = true
is_markup_code inside (Word w) = true
is_markup_code inside Number = true
is_markup_code inside (Pluses odd) = true
is_markup_code inside (Minuses odd) = true
is_markup_code inside (Slash sense.Re) = false
is_markup_code inside (Slash s) = true
is_markup_code inside (LineComment s) = inside
is_markup_code inside (BlockComment s star) = inside
is_markup_code inside a = false

-- The bytes go on with such a word; or else the byte begins one, in code. Of a run of `-` the last two count.
abbrev pub begun_markup : Bool → ℕ → List ℕ
begun_markup in_code b = if in_code && (b == 60 || (b == 35 || b == 45)) then b ∷ [] else []

abbrev pub longer_markup : Bool → Bool → List ℕ → ℕ → List ℕ
longer_markup true in_code bytes b = bytes ++ b ∷ []
longer_markup false in_code bytes b = if bytes_eq bytes (codes "--") && b == 45 then bytes else begun_markup in_code b

abbrev pub next_markup : (inside in_code : Bool) → List ℕ → ℕ → List ℕ
next_markup inside in_code [] b = begun_markup in_code b
next_markup inside in_code (c ∷ bytes) b = longer_markup (begins_markup inside (c ∷ (bytes ++ b ∷ []))) in_code (c ∷ bytes) b

-- by where the byte is read
abbrev pub markup_after : (inside : Bool) → At → List ℕ → ℕ → List ℕ
markup_after inside a bytes b = next_markup inside (is_markup_code inside a) bytes (to_ascii_lowercase b)

-- Escapes of strings and regular expressions (ECMA-262, sections 12.9.4 and 22.2.1) that more bytes may go on with: `\`, `\x` and at most one
-- hexadecimal digit, `\u` and at most three, `\` and one or two digits; in a string `\` and a carriage return, in a regular expression `\c`.
-- Of the letters behind the backslash:
abbrev pub are_few : (ℕ → Bool) → ℕ → List ℕ → Bool
are_few is_one most bytes = list_all is_one bytes && nat_le (length bytes) most

abbrev pub is_unfinished_after : Bool → List ℕ → Bool
is_unfinished_after regexp [] = true
is_unfinished_after regexp (b ∷ bs) =
    (b == 120 && are_few is_ascii_hexdigit 1 bs)
    || ((b == 117 && are_few is_ascii_hexdigit 3 bs)
    || ((is_ascii_digit b && are_few is_ascii_digit 1 bs)
    || (is_empty bs && (if regexp then b == 99 else b == 13))))

abbrev pub is_unfinished : Bool → List ℕ → Bool
is_unfinished regexp [] = false
is_unfinished regexp (b ∷ bs) = b == 92 && is_unfinished_after regexp bs

-- A backslash begins another escape, but behind a lone one.
abbrev pub next_unfinished : Bool → List ℕ → ℕ → List ℕ
next_unfinished regexp bytes b =
    if is_unfinished regexp (bytes ++ b ∷ []) then bytes ++ b ∷ []
    else (if b == 92 && not (bytes_eq bytes (codes "\\")) then b ∷ []
    else [])

-- by where the byte has led
abbrev pub escape_after : At → List ℕ → ℕ → List ℕ
escape_after (InString q e) bytes b = next_unfinished false bytes b
escape_after (InRegexp k e) bytes b = next_unfinished true bytes b
escape_after a bytes b = []

-- A `\u{` that no `}` has closed yet: how many bytes have been read since its backslash. The bytes of the escape before the byte are given.
abbrev pub next_brace : List ℕ → ℕ → ℕ → ℕ
next_brace bytes zero b = if bytes_eq bytes (codes "\\u") && b == 123 then 3 else 0
next_brace bytes (suc n) b = if b == 125 then 0 else suc (suc n)

abbrev pub brace_after : At → List ℕ → ℕ → ℕ → ℕ
brace_after (InString q e) bytes n b = next_brace bytes n b
brace_after (InRegexp k e) bytes n b = next_brace bytes n b
brace_after a bytes n b = 0

-- a `[` that is not closed yet
abbrev pub bracket_after : At → ℕ → ℕ
bracket_after (InRegexp true e) n = suc n
bracket_after a n = 0

-- the outermost template literal, where one is open
abbrev pub literal_after : List ℕ → ℕ → ℕ
literal_after [] n = 0
literal_after (m ∷ fs) n = suc n

-- The end of a line in a comment (ECMA-262, section 12.3): LF, CR, U+2028, U+2029.
abbrev pub line_ends : List (List ℕ)
line_ends = codes "\n" ∷ codes "\r" ∷ encode_utf8 0x2028 ∷ encode_utf8 0x2029 ∷ []

abbrev pub lines_of : List ℕ → PartLines
lines_of bytes =
    if list_any (bytes_eq bytes) line_ends then HasLine
    else (if list_any (λ end. starts_with nat_eq end bytes) line_ends then NoLineYet bytes else NoLineYet [])

abbrev pub may_end_line : List ℕ → Bool
may_end_line bytes = list_any (λ end. starts_with nat_eq end bytes) line_ends

abbrev pub lines_with : PartLines → ℕ → PartLines
lines_with HasLine b = HasLine
lines_with (NoLineYet begun) b = if may_end_line (begun ++ b ∷ []) then lines_of (begun ++ b ∷ []) else lines_of (b ∷ [])

-- by where the byte has led
abbrev pub lines_after : At → PartLines → ℕ → PartLines
lines_after (BlockComment s star) lines b = lines_with lines b
lines_after a lines b = NoLineYet []

-- The trail after a byte that has led from one point to another. The first argument says whether the byte released anything.
abbrev pub next_trail : Bool → Trail → ScriptPoint → ScriptPoint → ℕ → Trail
next_trail some t from to b = record {
  fresh = t.fresh && not some;
  markup = markup_after (not (is_empty from.literals)) from.at t.markup b;
  escape = escape_after to.at t.escape b;
  brace = brace_after to.at t.escape t.brace b;
  bracket = bracket_after to.at t.bracket;
  literal = literal_after to.literals t.literal;
  lines = lines_after to.at t.lines b;
}
