-- What the reading of a script tells, byte by byte. Events are told the last first: of two such calls, one in the other, the inner one is
-- told before.
use Rattle.std.specs.Prelude.{ℕ, List, [], ◌∷◌}

pub data ScriptEvent : Type 0 where
  -- a token begins: a word, a number, punctuation, a string, a regular expression, or a template literal with all that stands in it
  WordBegins : ScriptEvent
  NumberBegins : ScriptEvent
  PunctuatorBegins : ScriptEvent
  StringBegins : ScriptEvent
  RegexpBegins : ScriptEvent
  TemplateBegins : ScriptEvent
  -- a byte of the token, its delimiters among them; in strings, regular expressions and template literals `\<` and `\x3C` are a `<`
  ScriptByte : ℕ → ScriptEvent
  -- the `[` that was told begins the `[ ]` of a regular expression, in which a slash ends nothing
  BracketsBegin : ScriptEvent
  -- the end of a line cuts the string or the regular expression
  LineCuts : ScriptEvent
  -- too many template literals are open: all that follows belongs to the outermost one
  NestsTooDeep : ScriptEvent

abbrev pub script_bytes : List ℕ → List ScriptEvent → List ScriptEvent
script_bytes [] t = t
script_bytes (b ∷ bs) t = script_bytes bs (ScriptByte b ∷ t)
