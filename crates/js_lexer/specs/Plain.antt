-- When the bytes of a hole in a script are plain in their place, and what they read back as.
use Rattle.std.specs.Prelude.{◌≡◌, ◌≢◌, ◌⊎◌, ⊤, ℕ, ℤ, suc, pos, negsuc, Bool, true, false, IsTrue, bytes_eq, codes, List, [], ◌∷◌, Option, Some, option_and_then, Ok}
use Rattle.std.specs.Fmt.{decimal}
use Rattle.std.specs.Str.{IsUtf8}
use Rattle.page_datum.specs.Data.{Data, null, truth, int, text, list, dict, DataList, no_items, item, DataDict, no_entries, entry}
use Rattle.page_datum.specs.Reading.{data_of}
use Rattle.json.specs.Json as grammar
use Rattle.json.specs.Lex.{tokens}
use Rattle.serde_json.specs.Data as json
use Rattle.serde_json.specs.Read.{of_json}
use Rattle.js_lexer.specs.Events.{ScriptEvent, WordBegins, NumberBegins, PunctuatorBegins, StringBegins, ScriptByte, script_bytes}
use Rattle.js_lexer.specs.Feeding.{read_on, script_reading}
use Rattle.js_lexer.specs.Holes.{script_settled, script_emits_settled, ScriptLeadsPlain}
use Rattle.js_lexer.specs.Sanitizers.{json_text, js_value, empty_expression, script_failsafe}
use Rattle.js_lexer.specs.States.{At, LineComment, BlockComment, InString, InRegexp, ScriptState}
use Rattle.js_lexer.specs.Undone.{script_escapes_undone}

-- the tokens of a literal of JSON
abbrev pub word_events : List ℕ → List ScriptEvent → List ScriptEvent
word_events bytes t = script_bytes bytes (WordBegins ∷ t)

abbrev pub punctuator_event : ℕ → List ScriptEvent → List ScriptEvent
punctuator_event b t = ScriptByte b ∷ PunctuatorBegins ∷ t

abbrev pub number_events : ℤ → List ScriptEvent → List ScriptEvent
number_events (pos n) t = script_bytes (decimal n) (NumberBegins ∷ t)
number_events (negsuc n) t = script_bytes (decimal (suc n)) (NumberBegins ∷ punctuator_event 45 t)

abbrev pub text_events : List ℕ → List ScriptEvent → List ScriptEvent
text_events bytes t = script_bytes (json_text bytes) (StringBegins ∷ t)

abbrev mutual
  pub literal_events : Data → List ScriptEvent → List ScriptEvent
  literal_events null t = word_events (codes "null") t
  literal_events (truth true) t = word_events (codes "true") t
  literal_events (truth false) t = word_events (codes "false") t
  literal_events (int n) t = number_events n t
  literal_events (text bytes) t = text_events bytes t
  literal_events (list items) t = punctuator_event 93 (item_events items (punctuator_event 91 t))
  literal_events (dict entries) t = punctuator_event 125 (entry_events entries (punctuator_event 123 t))

  pub item_events : DataList → List ScriptEvent → List ScriptEvent
  item_events no_items t = t
  item_events (item d rest) t = more_item_events rest (literal_events d t)

  pub more_item_events : DataList → List ScriptEvent → List ScriptEvent
  more_item_events no_items t = t
  more_item_events (item d rest) t = more_item_events rest (literal_events d (punctuator_event 44 t))

  pub entry_events : DataDict → List ScriptEvent → List ScriptEvent
  entry_events no_entries t = t
  entry_events (entry key d rest) t = more_entry_events rest (literal_events d (punctuator_event 58 (text_events key t)))

  pub more_entry_events : DataDict → List ScriptEvent → List ScriptEvent
  more_entry_events no_entries t = t
  more_entry_events (entry key d rest) t = more_entry_events rest (literal_events d (punctuator_event 58 (text_events key (punctuator_event 44 t))))

-- nothing was told but bytes of the string or the regular expression
abbrev pub only_bytes : List ScriptEvent → Bool
only_bytes [] = true
only_bytes (ScriptByte b ∷ t) = only_bytes t
only_bytes (_ ∷ t) = false

-- What the bytes of a hole tell, with nothing told before: in a string or a regular expression bytes of it; in a comment nothing; in code the tokens of
-- one literal.
abbrev pub TellsPlain : At → List ScriptEvent → Type 0
TellsPlain (InString q e) t = IsTrue (only_bytes t)
TellsPlain (InRegexp k e) t = IsTrue (only_bytes t)
TellsPlain (LineComment s) t = t ≡ []
TellsPlain (BlockComment s star) t = t ≡ []
TellsPlain a t = (d : Data) × (t ≡ literal_events d [])

-- Blanks and comments tell nothing, so what a hole tells does not say that its bytes stay where they are: `*/ /*` leaves a comment and begins another.
-- Therefore the bytes themselves: in a comment none, or the failsafe; in code what is written of a datum, in which there is no blank and no comment
-- besides, and no `-` apart from its digits. In a string and a regular expression no byte is silent; and in the latter there is one at least, since `//`
-- would begin a comment.
abbrev pub HasPlainBytes : At → List ℕ → Type 0
HasPlainBytes (InString q e) bytes = ⊤
HasPlainBytes (InRegexp k e) bytes = bytes ≢ []
HasPlainBytes (LineComment s) bytes = (bytes ≡ []) ⊎ (bytes ≡ script_failsafe)
HasPlainBytes (BlockComment s star) bytes = (bytes ≡ []) ⊎ (bytes ≡ script_failsafe)
HasPlainBytes a bytes = (d : Data) × (bytes ≡ js_value d)

-- Plain in place. No token of what stands before lies partly in the hole: it is read the same where what is held back is told before.
pub record IsPlainInScript (bytes : List ℕ) (s : ScriptState) : Type 0 where
  pub apart : read_on bytes (script_reading s []) ≡ read_on bytes (script_reading (script_settled s) (script_emits_settled s []))
  pub leads : ScriptLeadsPlain (script_settled s) (read_on bytes (script_reading (script_settled s) [])).state
  pub tells : TellsPlain (script_settled s).at (read_on bytes (script_reading (script_settled s) [])).told
  pub written : HasPlainBytes (script_settled s).at bytes

-- The value that bytes are as JSON, in which lists and dictionaries nest no deeper than that.
abbrev pub json_value : ℕ → List ℕ → Option json.Data
json_value depth bytes = option_and_then of_json (option_and_then (λ p. grammar.if_last p.0 p.1) (grammar.value depth (tokens bytes)))

-- The bytes are JSON that stands for this datum. How long they are and how deep they nest does not matter, unlike in `IsDatum`: what is written of a
-- datum may be longer than the text that it was read from, and data may be built that nest deeper than any text that is read.
pub record StandsFor (bytes : List ℕ) (d : Data) : Type 0 where
  pub depth : ℕ
  pub value : json.Data
  pub utf8 : IsUtf8 bytes
  pub reads : json_value depth bytes ≡ Some value
  pub stands : data_of value ≡ Ok d

-- Read back: in code as JSON, and as the tokens of this very datum's literal; in a string and a regular expression with escapes undone. The expression
-- `(?:)` is the empty text, and no other bytes are.
pub record IsDataBack (d : Data) (bytes : List ℕ) (told : List ScriptEvent) : Type 0 where
  pub json : StandsFor bytes d
  pub tokens : told ≡ literal_events d []

abbrev pub IsStringBack : List ℕ → List ℕ → Type 0
IsStringBack value bytes = script_escapes_undone bytes ≡ value

abbrev pub IsRegexpBack : List ℕ → List ℕ → Type 0
IsRegexpBack [] bytes = bytes ≡ empty_expression
IsRegexpBack (b ∷ bs) bytes = (script_escapes_undone bytes ≡ b ∷ bs) × (bytes_eq bytes empty_expression ≡ false)
