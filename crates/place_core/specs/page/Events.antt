-- What the lexer of HTML tells as it reads, byte by byte.
use Rattle.std.specs.Prelude.{ℕ, Bool, List, [], ◌∷◌, ◌++◌, map}
use Rattle.std.specs.Char.{to_ascii_lowercase}
use Rattle.css_lexer.specs.Events.{StyleEvent}
use Rattle.js_lexer.specs.Events.{ScriptEvent}
use Rattle.place_core.specs.declared.kind.Kind.{Kind}
use Rattle.url_lexer.specs.Events.{ToldScheme, UrlEvent}

pub data LexEvent : Type 0 where
  -- a byte of a text, a title or a textarea, with references undone
  TextByte : ℕ → LexEvent
  -- a byte of a data block
  BlockByte : ℕ → LexEvent
  -- after a `<!--` in a data block or a script: HTML would read what follows otherwise (script data escaped states)
  Escape : LexEvent
  -- a hole in the text, block, name or value that is open there
  Mark : LexEvent
  -- a start tag or an end tag begins; a byte of its name, in lower case
  StartTagBegins : LexEvent
  EndTagBegins : LexEvent
  TagNameByte : ℕ → LexEvent
  -- an attribute begins; a byte of its name, in lower case; its name ends, and it has this kind; a byte of its value, with references undone
  AttributeBegins : LexEvent
  AttributeNameByte : ℕ → LexEvent
  AttributeNameEnds : Kind → LexEvent
  ValueByte : ℕ → LexEvent
  -- a value that is a URL ends, and this is its scheme
  ValueScheme : ToldScheme → LexEvent
  -- what a style tells, in place of its bytes
  InsideStyle : StyleEvent UrlEvent → LexEvent
  -- what a script tells, in place of its bytes
  InsideScript : ScriptEvent → LexEvent
  -- the tag ends, and closes itself or not
  TagEnds : Bool → LexEvent
  -- a comment begins; its bytes are not told. The texts of a template tell none, since no comment of theirs is written
  Comment : LexEvent
  -- a doctype begins; a byte of it, after its `<!`; it ends
  DoctypeBegins : LexEvent
  DoctypeByte : ℕ → LexEvent
  DoctypeEnds : LexEvent

-- Events are told the last first: of two such calls, one in the other, the inner one is told before.

abbrev pub event_text_bytes : List ℕ → List LexEvent → List LexEvent
event_text_bytes [] t = t
event_text_bytes (b ∷ bs) t = event_text_bytes bs (TextByte b ∷ t)

abbrev pub block_bytes : List ℕ → List LexEvent → List LexEvent
block_bytes [] t = t
block_bytes (b ∷ bs) t = block_bytes bs (BlockByte b ∷ t)

abbrev pub value_bytes : List ℕ → List LexEvent → List LexEvent
value_bytes [] t = t
value_bytes (b ∷ bs) t = value_bytes bs (ValueByte b ∷ t)

abbrev pub told_in_style : List (StyleEvent UrlEvent) → List LexEvent → List LexEvent
told_in_style es t = map InsideStyle es ++ t

abbrev pub told_in_script : List ScriptEvent → List LexEvent → List LexEvent
told_in_script es t = map InsideScript es ++ t

abbrev pub attribute_name_bytes : List ℕ → List LexEvent → List LexEvent
attribute_name_bytes [] t = t
attribute_name_bytes (b ∷ bs) t = attribute_name_bytes bs (AttributeNameByte b ∷ t)

abbrev pub doctype_bytes : List ℕ → List LexEvent → List LexEvent
doctype_bytes [] t = t
doctype_bytes (b ∷ bs) t = doctype_bytes bs (DoctypeByte b ∷ t)

-- the name of a tag, from its letters in any case
abbrev pub tag_name_bytes : List ℕ → List LexEvent → List LexEvent
tag_name_bytes [] t = t
tag_name_bytes (b ∷ bs) t = tag_name_bytes bs (TagNameByte (to_ascii_lowercase b) ∷ t)
