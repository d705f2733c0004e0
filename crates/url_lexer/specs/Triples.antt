-- A percent triple: `%` and two hexadecimal digits, one right behind the other (RFC 3986, section 2.1).
use Rattle.std.specs.Prelude.{ℕ}
use Rattle.url_lexer.specs.declared.class.UrlClass.{UrlClass}
use Rattle.url_lexer.specs.declared.class.UrlClass.TheVariants as class

-- none has begun; its `%` has been read; its `%` and the first digit
pub data Triple : Type 0 where
  NoTriple : Triple
  AfterPercent : Triple
  AfterDigit : Triple

abbrev pub next_triple : Triple → UrlClass → Triple
next_triple t class.Percent = AfterPercent
next_triple AfterPercent class.Hexadecimal = AfterDigit
next_triple t c = NoTriple

-- how many bytes of it have been read
abbrev pub triple_length : Triple → ℕ
triple_length NoTriple = 0
triple_length AfterPercent = 1
triple_length AfterDigit = 2
