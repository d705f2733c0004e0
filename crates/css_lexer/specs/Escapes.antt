-- Escapes in words, strings and quoted URLs (CSS Syntax Level 3, section 4.3.7): a backslash takes the next byte with it, whatever it is.
-- For a lexer that is all. That up to six hexadecimal digits stand for one character is kept too, since nothing may come between them: no
-- end of a node, and no value of data.
use Rattle.std.specs.Prelude.{ℕ, suc, ◌==◌, ◌&&◌, nat_lt, Bool, true, false, if◌then◌else◌}
use Rattle.std.specs.Char.{is_ascii_hexdigit}

pub data StyleEscape : Type 0 where
  -- no escape is open
  NoEscape : StyleEscape
  -- right behind a backslash
  AfterBackslash : StyleEscape
  -- behind a backslash and that many hexadecimal digits, from 1 to 6: another digit, or one white space, may still belong to them
  HexDigits : ℕ → StyleEscape
  -- in a string, behind a backslash and a carriage return: a line feed still belongs to them
  AfterReturn : StyleEscape

-- The escape that is open behind a byte: that a backslash has taken, and in a string, where a backslash takes a carriage return and a
-- line feed as one;
abbrev pub behind_taken : ℕ → StyleEscape
behind_taken b = if is_ascii_hexdigit b then HexDigits 1 else NoEscape

abbrev pub behind_taken_in_string : StyleEscape → ℕ → StyleEscape
behind_taken_in_string AfterBackslash b = if b == 13 then AfterReturn else behind_taken b
behind_taken_in_string e b = NoEscape

-- that no backslash has taken, and that is none.
abbrev pub behind_byte : StyleEscape → ℕ → StyleEscape
behind_byte (HexDigits n) b = if is_ascii_hexdigit b && nat_lt n 6 then HexDigits (suc n) else NoEscape
behind_byte e b = NoEscape

-- whether a backslash takes this byte of a string
abbrev pub is_taken_in_style : StyleEscape → ℕ → Bool
is_taken_in_style AfterBackslash b = true
is_taken_in_style AfterReturn b = b == 10
is_taken_in_style e b = false
