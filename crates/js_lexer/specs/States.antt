-- The states in which a script is read (ECMA-262, section 12).
use Rattle.std.specs.Prelude.{ℕ, Bool, false, List, []}
use Rattle.js_lexer.specs.declared.sense.Sense.{Sense}
use Rattle.js_lexer.specs.declared.sense.Sense.TheVariants as sense

-- How much is held back of what may be `\<` or `\x3C`: nothing, `\`, `\x`, `\x3`. And behind `\` and a carriage return, which are one with a line
-- feed after them, nothing.
pub data ScriptEscape : Type 0 where
  NoEscape : ScriptEscape
  AfterBackslash : ScriptEscape
  AfterX : ScriptEscape
  AfterX3 : ScriptEscape
  AfterCarriageReturn : ScriptEscape

pub data At : Type 0 where
  -- in code, behind a token or at the beginning: what a slash would be
  Code : Sense → At
  -- in a word, with its bytes (section 12.7); in a number (section 12.9.3)
  Word : List ℕ → At
  Number : At
  -- in a run of `+`, of `-` (section 12.8): whether it is odd so far
  Pluses : Bool → At
  Minuses : Bool → At
  -- behind a slash that is held back, since it may begin a comment: what it is otherwise
  Slash : Sense → At
  -- in a comment (section 12.4): what a slash would be after it; in the second, whether its last byte was a `*` that closes it with a `/`, which the
  -- `*` of its `/*` is not
  LineComment : Sense → At
  BlockComment : Sense → Bool → At
  -- in a string (section 12.9.4), between quotation marks (true) or between apostrophes (false)
  InString : Bool → ScriptEscape → At
  -- in a regular expression (section 12.9.5), within `[ ]` (true) or not
  InRegexp : Bool → ScriptEscape → At
  -- in the characters of a template literal (section 12.9.6); whether the last one was a `$`
  InTemplate : ScriptEscape → Bool → At
  -- behind the backquote of a literal that nests too deep
  TooDeep : At

-- Of the part of a block comment that stands in one node: the end of a line is in it; or none yet, and these bytes may begin U+2028 or U+2029.
pub data PartLines : Type 0 where
  HasLine : PartLines
  NoLineYet : List ℕ → PartLines

-- What the refusals of a template's text, and the writing of it in an element, need besides. The reading of tokens does not depend on it, and two readings
-- with different trails tell the same.
-- - The node begins here, on a path.
-- - The bytes since a `<`, a `#` or a `-` of code, in lower case, as long as they begin `<!--`, `</script`, `#!` or `-->`; in a template literal
--   `<script` too.
-- - The bytes of an escape that has begun, in a string or a regular expression.
-- - How many bytes have been read since these began, with the first: a `\u{` that is not closed, a `[`, the outermost template literal.
-- - Of a block comment, whether the part of it in this node has the end of a line.
pub record Trail : Type 0 where
  pub fresh : Bool
  pub markup : List ℕ
  pub escape : List ℕ
  pub brace : ℕ
  pub bracket : ℕ
  pub literal : ℕ
  pub lines : PartLines

abbrev pub no_trail : Trail
no_trail = record { fresh = false; markup = []; escape = []; brace = 0; bracket = 0; literal = 0; lines = NoLineYet [] }

-- Where the reading of tokens stands. Each template literal in whose code it is, or in whose characters, has how many braces are open in its
-- code; the innermost comes first.
pub record ScriptPoint : Type 0 where
  pub literals : List ℕ
  pub at : At

abbrev pub point : List ℕ → At → ScriptPoint
point fs a = record { literals = fs; at = a }

-- The state: with the bytes that are held back of what may be white space.
pub record ScriptState : Type 0 where
  pub literals : List ℕ
  pub at : At
  pub held : List ℕ
  pub trail : Trail

-- where a script begins, a value's as well as an element's
abbrev pub script_start : ScriptState
script_start = record { literals = []; at = Code sense.Re; held = []; trail = no_trail }
