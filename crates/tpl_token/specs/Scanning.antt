-- The next token by computing: a plain way for small texts, and what the code is compared with.
use Rattle.std.specs.Prelude.{ℕ, zero, suc, ◌+◌, ◌-◌, ◌<◌, Bool, true, false, ◌&&◌, ◌==◌, nat_lt, if◌then◌else◌, codes, List, [], ◌∷◌, ◌++◌, length, take, drop, filter, Option, Some, None, option_map, Result, Ok, Err, ℤ, ◌≡◌}
use Rattle.std.specs.Char.{encode_utf8}
use Rattle.std.specs.List.{prefix_len}
use Rattle.tpl_token.specs.Characters.{begins, first_is, is_sign, is_white, is_word_byte, is_word_start}
use Rattle.tpl_token.specs.Grammar.{cursor, gap, open_len, rest_at}
use Rattle.tpl_token.specs.Numbers.{number}
use Rattle.tpl_token.specs.Refusals.{begins_number}
use Rattle.tpl_token.specs.Strings.{escaped_character, is_kept_plain, is_raw}
use Rattle.tpl_token.specs.Texts.{bytes_before, text_len, trims_before, kept_start, kept_end}
use Rattle.tpl_token.specs.declared.cursor.Cursor.{Cursor}
use Rattle.tpl_token.specs.declared.cursor.CursorState.{CursorState}
use Rattle.tpl_token.specs.declared.cursor.CursorState.TheVariants as state
use Rattle.tpl_token.specs.declared.refused.TokenRefused.{TokenRefused}
use Rattle.tpl_token.specs.declared.refused.TokenRefused.TheVariants as refused
use Rattle.tpl_token.specs.declared.token.Token.{Token}
use Rattle.tpl_token.specs.declared.token.TokenKind.{TokenKind}
use Rattle.tpl_token.specs.declared.token.TokenKind.TheVariants as kind

-- how long an escape with this beginning is, without its backslash
abbrev pub escape_len : List ℕ → ℕ
escape_len bytes = if begins (codes "x") bytes then 3 else if begins (codes "u") bytes then 5 else 1

-- the escape that the bytes after a backslash begin with: its character, and its length
abbrev pub escape_at : List ℕ → Option (ℕ × ℕ)
escape_at bytes = option_map (λ c. (c, escape_len bytes)) (escaped_character (take (escape_len bytes) bytes))

-- what stands after an opening quote: a string's value, and its bytes up to and with the closing quote; or its line or
-- the text ends; or, that many bytes on, a backslash begins no escape
pub data Quoted : Type 0 where
  ended : List ℕ → ℕ → Quoted
  cut : Quoted
  bad : ℕ → Quoted

-- the same, after bytes with this value
abbrev pub after_part : List ℕ → ℕ → Quoted → Quoted
after_part value n (ended more m) = ended (value ++ more) (n + m)
after_part value n cut = cut
after_part value n (bad m) = bad (n + m)

abbrev pub escape_len_of : Option (ℕ × ℕ) → ℕ
escape_len_of None = 0
escape_len_of (Some found) = found.1

abbrev pub after_backslash : Option (ℕ × ℕ) → Quoted → Quoted
after_backslash None later = bad 0
after_backslash (Some found) later = after_part (encode_utf8 found.0) 1 later

abbrev pub quoted_step : ℕ → Option (ℕ × ℕ) → Quoted → Quoted
quoted_step b found later =
    if b == 34 then ended [] 1
    else if b == 10 then cut
    else if b == 92 then after_backslash found later
    else after_part (b ∷ []) 1 later

-- where the first bytes, so many, belong to an escape before
abbrev pub quoted : ℕ → List ℕ → Quoted
quoted skip [] = cut
quoted (suc skip) (b ∷ bs) = after_part [] 1 (quoted skip bs)
quoted zero (b ∷ bs) = quoted_step b (escape_at bs) (quoted (if b == 92 then escape_len_of (escape_at bs) else 0) bs)

-- what is read of a string up to `at`, with the value `old`, goes on from `next` with the value `new`
abbrev pub ReadsOn : List ℕ → List ℕ → ℕ → List ℕ → ℕ → Type 0
ReadsOn text old at new next = (start : ℕ) (whole : Quoted) → start < at →
    after_part old (at - (start + 1)) (quoted 0 (drop at text)) ≡ whole → after_part new (next - (start + 1)) (quoted 0 (drop next text)) ≡ whole

-- a token of an action at this offset, and its length
abbrev pub Found : Type 0
Found = Result (TokenKind × ℕ) TokenRefused

abbrev pub string_found : ℕ → Quoted → Found
string_found at (ended value n) = Ok (kind.Str value, n + 1)
string_found at cut = Err (refused.UnclosedString at)
string_found at (bad n) = Err (refused.BadEscape (at + 1 + n))

-- how many bytes stand before a backquote
abbrev pub raw_len : List ℕ → ℕ
raw_len bytes = prefix_len is_raw bytes

abbrev pub without_returns : List ℕ → List ℕ
without_returns bytes = filter is_kept_plain bytes

abbrev pub raw_found : ℕ → List ℕ → Found
raw_found at body = if nat_lt (raw_len body) (length body) then Ok (kind.Str (without_returns (take (raw_len body) body)), raw_len body + 2) else Err (refused.UnclosedString at)

-- how many bytes a sign, letters, digits and `_` have
abbrev pub number_len : List ℕ → ℕ
number_len bytes = if first_is is_sign bytes then 1 + prefix_len is_word_byte (drop 1 bytes) else prefix_len is_word_byte bytes

abbrev pub number_read : ℕ → ℕ → Option ℤ → Found
number_read at len None = Err (refused.BadNumber at)
number_read at len (Some n) = Ok (kind.Number n, len)

abbrev pub number_found : ℕ → List ℕ → Found
number_found at bytes = if begins (codes ".") (drop (number_len bytes) bytes) then Err (refused.BadNumber at) else number_read at (number_len bytes) (number (take (number_len bytes) bytes))

-- the length of the name at the beginning, 0 where there is none
abbrev pub name_len : List ℕ → ℕ
name_len bytes = if first_is is_word_start bytes then prefix_len is_word_byte bytes else 0

abbrev pub dot_found : ℕ → TokenKind × ℕ
dot_found n = if n == 0 then (kind.Dot, 1) else (kind.Field, n + 1)

abbrev pub mark_found : ℕ → List ℕ → Found
mark_found at bytes =
    if begins (codes ":=") bytes then Ok (kind.Declare, 2)
    else if begins (codes "=") bytes then Ok (kind.Assign, 1)
    else if begins (codes "|") bytes then Ok (kind.Bar, 1)
    else if begins (codes ",") bytes then Ok (kind.Comma, 1)
    else if begins (codes "(") bytes then Ok (kind.Left, 1)
    else if begins (codes ")") bytes then Ok (kind.Right, 1)
    else Err (refused.BadCharacter at)

abbrev pub lexeme_at : ℕ → List ℕ → Found
lexeme_at at bytes =
    if first_is is_word_start bytes then Ok (kind.Name, prefix_len is_word_byte bytes)
    else if begins_number bytes then number_found at bytes
    else if begins (codes "\"") bytes then string_found at (quoted 0 (drop 1 bytes))
    else if begins (codes "`") bytes then raw_found at (drop 1 bytes)
    else if begins (codes ".") bytes then Ok (dot_found (name_len (drop 1 bytes)))
    else if begins (codes "$") bytes then Ok (kind.Variable, name_len (drop 1 bytes) + 1)
    else mark_found at bytes

-- a token, and how far the text is read with it
abbrev pub ScanStep : Type 0
ScanStep = Result (Token × Cursor) TokenRefused

-- a token of this kind and length, before this state
abbrev pub scan_step : TokenKind → ℕ → ℕ → CursorState → Token × Cursor
scan_step what at len m = (record { kind = what; start = at; end = at + len }, cursor m (at + len))

abbrev pub inner_step : ℕ → ℕ → Found → ScanStep
inner_step opened at (Ok found) = Ok (scan_step found.0 at found.1 (state.Action opened))
inner_step opened at (Err why) = Err why

-- after that many bytes of white space
abbrev pub inner_at : ℕ → ℕ → ℕ → List ℕ → ScanStep
inner_at opened spaces at bytes =
    if length bytes == 0 then Err (refused.UnclosedAction opened)
    else if begins (codes "}}") bytes then Ok (scan_step kind.Close at 2 (state.Text false))
    else if nat_lt 0 spaces && begins (codes "-}}") bytes then Ok (scan_step kind.Close at 3 (state.Text true))
    else inner_step opened at (lexeme_at at bytes)

abbrev pub inside_at : ℕ → ℕ → List ℕ → ScanStep
inside_at opened at rest = inner_at opened (prefix_len is_white rest) (at + prefix_len is_white rest) (drop (prefix_len is_white rest) rest)

abbrev pub comment_token_at : ℕ → ℕ → List ℕ → ScanStep
comment_token_at opened at body = if nat_lt (bytes_before (codes "*/") body) (length body) then Ok (scan_step kind.Comment at (bytes_before (codes "*/") body + 4) state.Commented) else Err (refused.UnclosedComment opened)

abbrev pub opened_at : Bool → ℕ → ℕ → List ℕ → ScanStep
opened_at trims opened at rest =
    if begins (gap trims ++ codes "/*") rest then comment_token_at opened (at + length (gap trims)) (drop (length (gap trims) + 2) rest)
    else inside_at opened at rest

abbrev pub commented_at : ℕ → List ℕ → ScanStep
commented_at at rest =
    if begins (codes "}}") rest then Ok (scan_step kind.Close at 2 (state.Text false))
    else if begins (codes " -}}") rest then Ok (scan_step kind.Close (at + 1) 3 (state.Text true))
    else Err (refused.BadDelimiter at)

abbrev pub open_at : ℕ → List ℕ → Option (Token × Cursor)
open_at at rest = if length rest == 0 then None else Some (scan_step kind.Open at (open_len (trims_before rest)) (state.Opened (trims_before rest) at))

abbrev pub text_token_at : Bool → ℕ → List ℕ → Option (Token × Cursor)
text_token_at trims at rest =
    if nat_lt (kept_start trims rest) (kept_end rest)
    then Some (record { kind = kind.Text; start = at + kept_start trims rest; end = at + kept_end rest }, cursor (state.Text false) (at + text_len rest))
    else open_at (at + text_len rest) (drop (text_len rest) rest)

-- the next token; nothing at the end
abbrev pub TokenAdvance : Type 0
TokenAdvance = Result (Option (Token × Cursor)) TokenRefused

abbrev pub some_next : ScanStep → TokenAdvance
some_next (Ok next) = Ok (Some next)
some_next (Err why) = Err why

abbrev pub advance_at : CursorState → ℕ → List ℕ → TokenAdvance
advance_at (state.Text trims) at rest = Ok (text_token_at trims at rest)
advance_at (state.Opened trims opened) at rest = some_next (opened_at trims opened at rest)
advance_at (state.Action opened) at rest = some_next (inside_at opened at rest)
advance_at state.Commented at rest = some_next (commented_at at rest)

abbrev pub token_advance : List ℕ → Cursor → TokenAdvance
token_advance text from = advance_at from.state from.at (rest_at text from)

-- what a step gives, and then the rest, where these tokens are before
abbrev pub lexer_go_on : TokenAdvance → List Token → (Cursor → List Token → Result (List Token) TokenRefused) → Result (List Token) TokenRefused
lexer_go_on (Ok (Some found)) done rest = rest found.1 (done ++ found.0 ∷ [])
lexer_go_on (Ok None) done rest = Ok done
lexer_go_on (Err why) done rest = Err why

-- all tokens, in fewer than that many steps, where these tokens are before; out of memory where they do not suffice
abbrev pub scan : ℕ → List ℕ → Cursor → List Token → Result (List Token) TokenRefused
scan zero text from done = Err refused.Memory
scan (suc n) text from done = lexer_go_on (token_advance text from) done (scan n text)
