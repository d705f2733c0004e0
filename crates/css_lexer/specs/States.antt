-- The states in which a style is read (CSS Syntax Level 3, section 4.3).
use Rattle.std.specs.Prelude.{Bool, false}
use Rattle.css_lexer.specs.Escapes.{StyleEscape}

pub data Quote : Type 0 where
  DoubleQuote : Quote
  SingleQuote : Quote

-- how much of the word `url`, in any case, a word is so far
pub data UrlWord : Type 0 where
  SpellsU : UrlWord
  SpellsUr : UrlWord
  SpellsUrl : UrlWord
  SpellsOther : UrlWord

-- Outside url tokens.
pub data Outside : Type 0 where
  -- Between tokens, or in plain text; whether a blank is the last that was told (4.3.1).
  Between : Bool → Outside
  -- The same, right behind a `<`: the end of the element may begin with it.
  AfterLessThan : Outside
  -- In a word, with how much of `url` it is, and its escape (4.3.4, 4.3.11).
  Word : UrlWord → StyleEscape → Outside
  -- Behind a `/` that is not told yet: a comment may begin with it (4.3.2); whether a blank was told before it.
  AfterSolidus : Bool → Outside
  -- In a comment; whether its last byte is a `*` behind the opening (4.3.2).
  Comment : Bool → Outside
  -- In a string (4.3.5).
  InString : Quote → StyleEscape → Outside
  -- In a url that is none, up to its `)`, of pages alone (4.3.14).
  BadUrl : Outside
  -- Of paths alone, where text goes on behind the end of a node or a hole:
  -- right behind a hole; whether a `/`, and a `<`, stands before it, since the value may be empty;
  BehindHole : Bool → Bool → Outside
  -- in a word that goes on over the end of a node, or over a hole;
  SplitWord : StyleEscape → Outside
  -- behind a `/`, a `<`, and in a comment a `*`, in which a node ended.
  SolidusAtCut : Bool → Outside
  LessThanAtCut : Outside
  StarAtCut : Outside

-- Where in a url token a URL stands (4.3.6).
pub data UrlForm : Type 0 where
  -- behind `url(` and white space: before the URL, or its quote
  Fresh : UrlForm
  -- in a URL without quotes
  Bare : UrlForm
  -- in a URL in quotes: a string behind `url(` (4.3.4)
  Quoted : Quote → StyleEscape → UrlForm
  -- behind the URL: white space, up to the `)`
  Ended : UrlForm

-- `U` is the state of the URL, as far as it has been read
pub data Style (U : Type 0) : Type 0 where
  Out : Outside → Style U
  InUrl : UrlForm → U → Style U

-- a style begins between tokens, with nothing told
abbrev pub style_start : {U : Type 0} → Style U
style_start = Out (Between false)
