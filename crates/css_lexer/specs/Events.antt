-- What the lexer of styles tells as it reads, byte by byte. Words, plain text, white space and comments are one run of bytes, in which
-- white space and comments that stand side by side are told as one blank. A run ends where any other event is told.
use Rattle.std.specs.Prelude.{ℕ, List, ◌++◌, map}
use Rattle.css_lexer.specs.States.{Quote}

-- `E` is what the URLs of styles tell
pub data StyleEvent (E : Type 0) : Type 0 where
  -- a byte of a run; white space or a comment of a run
  RunByte : ℕ → StyleEvent E
  RunBlank : StyleEvent E
  -- one of `( ) [ ] { } ; @`
  PunctuationByte : ℕ → StyleEvent E
  -- a string begins; a byte of it, escapes as they stand; its quote ends it; its line ends it
  StringBegins : Quote → StyleEvent E
  StringByte : ℕ → StyleEvent E
  StringEnds : StyleEvent E
  StringBroken : StyleEvent E
  -- the `(` behind the word `url`, whose bytes were told as bytes of a run; the quote of its URL; what the URL tells; that quote again;
  -- the `)`
  UrlBegins : StyleEvent E
  UrlQuoteBegins : Quote → StyleEvent E
  InsideUrl : E → StyleEvent E
  UrlQuoteEnds : StyleEvent E
  UrlEnds : StyleEvent E
  -- a url that is none, from the first byte that may not stand in one; its bytes; its `)`
  BadUrlBegins : StyleEvent E
  BadUrlByte : ℕ → StyleEvent E
  BadUrlEnds : StyleEvent E

-- Events are told the last first. What a URL tells is told of the style.
abbrev pub told_in_url : {E : Type 0} → List E → List (StyleEvent E) → List (StyleEvent E)
told_in_url es t = map InsideUrl es ++ t
