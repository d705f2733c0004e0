-- What escapes stand for in a value of data (CSS Syntax Level 3, section 4.3.7): a backslash and one to six hexadecimal
-- digits, with one white space behind them if there is one, is a character; a backslash and any other byte is that byte. Texts are bytes of
-- UTF-8, so the other bytes of a character follow by themselves. So a value is undone before it is written in code. A string of CSS is not
-- always read so: in it a backslash and a line end stand for nothing (4.3.5). What is plain in a string has no line end.
use Rattle.std.specs.Prelude.{ℕ, zero, suc, ◌+◌, ◌-◌, ◌*◌, ◌==◌, ◌&&◌, ◌||◌, nat_lt, nat_le, Bool, false, List, [], ◌∷◌, ◌++◌, encode_utf8, if◌then◌else◌}
use Rattle.std.specs.Char.{is_ascii_hexdigit, is_ascii_whitespace}
use Rattle.url_lexer.specs.Back.{hexadecimal_value}

-- U+FFFD stands for zero, for surrogates, and for numbers past the last character
abbrev pub character_of : ℕ → ℕ
character_of n = if n == 0 || ((nat_le 55296 n && nat_le n 57343) || nat_lt 1114111 n) then 65533 else n

-- Where a text is undone: outside escapes; behind a backslash; behind a backslash and digits, with how many more there may be and the
-- number that they are.
pub data StyleUndoing : Type 0 where
  AsItIs : StyleUndoing
  Escaped : StyleUndoing
  Digits : (more number : ℕ) → StyleUndoing

abbrev pub goes_on : ℕ → ℕ → Bool
goes_on zero b = false
goes_on (suc more) b = is_ascii_hexdigit b

abbrev pub style_undone : StyleUndoing → List ℕ → List ℕ
style_undone AsItIs [] = []
style_undone Escaped [] = 92 ∷ []
style_undone (Digits more number) [] = encode_utf8 (character_of number)
style_undone AsItIs (b ∷ bs) = if b == 92 then style_undone Escaped bs else b ∷ style_undone AsItIs bs
style_undone Escaped (b ∷ bs) = if is_ascii_hexdigit b then style_undone (Digits 5 (hexadecimal_value b)) bs else b ∷ style_undone AsItIs bs
style_undone (Digits more number) (b ∷ bs) =
    if goes_on more b then style_undone (Digits (more - 1) (number * 16 + hexadecimal_value b)) bs
    else (if is_ascii_whitespace b then encode_utf8 (character_of number) ++ style_undone AsItIs bs
    else (if b == 92 then encode_utf8 (character_of number) ++ style_undone Escaped bs
    else encode_utf8 (character_of number) ++ b ∷ style_undone AsItIs bs))

-- a text with its escapes undone; a backslash at its end stays
abbrev pub style_escapes_undone : List ℕ → List ℕ
style_escapes_undone text = style_undone AsItIs text
