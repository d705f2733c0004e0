-- What a style needs of the language of URLs: a URL stands between `url(` and `)`. The definitions of styles hold for any such language.
use Rattle.std.specs.Prelude.{ℕ, List, Option}
use Rattle.css_lexer.specs.RefusalCodes.{RefusalCode, StyleCutRefusal}

-- `U` is the state of a URL, and `E` what it tells; lists of events have the last event first. A URL holds back nothing where a hole
-- begins.
pub record UrlReading (U E : Type 0) : Type 1 where
  -- where a URL begins
  pub start : U
  -- a byte leads to this state, and tells this; in the text of a template it may be refused
  pub feed : U → ℕ → U
  pub emits : U → ℕ → List E
  pub refuses : U → ℕ → Option RefusalCode
  -- what its end tells
  pub ends : U → List E
  -- the end of a node: why it is refused there, and where it leads a path
  pub refuses_cut : U → Option StyleCutRefusal
  pub after_cut : U → U
  -- a hole: why it is refused there; where it leads a path; where it leads a page, by the states before and after its bytes
  pub refuses_hole : U → Option RefusalCode
  pub after_hole : U → U
  pub behind : U → U → U
  -- plain bytes may lead a page from the one state to the other
  pub LeadsPlain : U → U → Type 0
  -- bytes that may be plain there, by themselves
  pub MayBePlain : U → List ℕ → Type 0
  -- a page in the second state reads the texts of a path as the path does in the first one
  pub AreAlike : U → U → Type 0
