-- The classes of bytes that the lexer of HTML tells apart.
use Rattle.std.specs.Prelude.{ℕ, ◌==◌, ◌||◌, Bool, true, false, if◌then◌else◌}
use Rattle.std.specs.Char.{is_ascii_whitespace, is_ascii_digit, is_ascii_hexdigit, is_ascii_alphabetic}

-- letters, of both cases: A to F, X, and the others
pub data LetterClass : Type 0 where
  HexadecimalLetter : LetterClass
  LetterX : LetterClass
  OtherLetter : LetterClass

-- tab, line feed, form feed, carriage return and space are white space
pub data Class : Type 0 where
  White : Class
  ExclamationMark : Class
  QuotationMark : Class
  NumberSign : Class
  Ampersand : Class
  Apostrophe : Class
  HyphenMinus : Class
  Solidus : Class
  Digit : Class
  Semicolon : Class
  LessThan : Class
  EqualsSign : Class
  GreaterThan : Class
  QuestionMark : Class
  GraveAccent : Class
  Letter : LetterClass → Class
  OtherByte : Class

unfoldable pub class_of : ℕ → Class
class_of b =
    if is_ascii_whitespace b then White
    else (if b == 33 then ExclamationMark
    else (if b == 34 then QuotationMark
    else (if b == 35 then NumberSign
    else (if b == 38 then Ampersand
    else (if b == 39 then Apostrophe
    else (if b == 45 then HyphenMinus
    else (if b == 47 then Solidus
    else (if is_ascii_digit b then Digit
    else (if b == 59 then Semicolon
    else (if b == 60 then LessThan
    else (if b == 61 then EqualsSign
    else (if b == 62 then GreaterThan
    else (if b == 63 then QuestionMark
    else (if b == 96 then GraveAccent
    else (if is_ascii_hexdigit b then Letter HexadecimalLetter
    else (if b == 88 || b == 120 then Letter LetterX
    else (if is_ascii_alphabetic b then Letter OtherLetter
    else OtherByte)))))))))))))))))

abbrev pub is_equals_sign : Class → Bool
is_equals_sign EqualsSign = true
is_equals_sign _ = false
