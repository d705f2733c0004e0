-- When the bytes of a hole are plain in their place: they lie in one token, no reference lies partly in them, and they begin and end nothing else.
use Rattle.std.specs.Prelude.{⊤, ◌≡◌, ◌≢◌, ℕ, ◌==◌, Bool, true, false, not, IsTrue, List, [], ◌∷◌}
use Rattle.std.specs.Char.{is_ascii_alphanumeric, is_ascii_whitespace}
use Rattle.std.specs.List.{list_all}
use Rattle.std.specs.Str.{str_to_ascii_lowercase}
use Rattle.css_lexer.specs.States.{AfterLessThan, Out}
use Rattle.place_core.specs.page.Contents.{settled_content, emits_settled_content}
use Rattle.place_core.specs.page.Events.{LexEvent, TextByte, BlockByte, AttributeBegins, attribute_name_bytes, value_bytes}
use Rattle.place_core.specs.page.Html.{read}
use Rattle.place_core.specs.page.References.{Reference, Closed}
use Rattle.place_core.specs.page.States.{Page, LexState, Text, BeforeAttributeName, AfterAttributeName, AfterAttributeValue, SelfClosingStartTag, AttributeName, BeforeAttributeValue, AttributeValue, Content, Characters, Bytes, InLanguage, Pending, Nothing, InContent, Config, config}
use Rattle.place_core.specs.page.Tags.{Tag, Value, ValueOf, Deciding, Quoting, Unquoted, attribute_value_of, without_value, ValueLanguage, settled_value, emitted_settled, fed_state, emits_fed, languages, ValueState, OfKind, OfUrl, OfStyle, OfScript}
use Rattle.place_core.specs.page.Words.{is_special}
use Rattle.place_core.specs.declared.element.Element.{Element}
use Rattle.place_core.specs.declared.kind.Kind.{Kind}
use Rattle.place_core.specs.declared.kind.Kind.TheVariants as kind

-- nothing was told but bytes of a text, or of a data block
abbrev pub only_text : List LexEvent → Bool
only_text [] = true
only_text (TextByte b ∷ t) = only_text t
only_text (_ ∷ t) = false

abbrev pub only_block : List LexEvent → Bool
only_block [] = true
only_block (BlockByte b ∷ t) = only_block t
only_block (_ ∷ t) = false

-- The bytes are one whole name of an attribute, letters and digits, and no name that data may not make; the lexer is in it. What stands after
-- the hole may still add to the name: that is seen where the name ends.
pub record IsPlainName (tag : Tag) (bytes : List ℕ) (d : Config ValueState) : Type 0 where
  pub within : d.at ≡ AttributeName tag (str_to_ascii_lowercase bytes)
  pub emitted : d.emitted ≡ attribute_name_bytes (str_to_ascii_lowercase bytes) (AttributeBegins ∷ [])
  pub some : bytes ≢ []
  pub letters : list_all is_ascii_alphanumeric bytes ≡ true
  pub harmless : is_special bytes ≡ false

-- an unquoted value has one byte at least
abbrev pub HasBytes : Quoting → List ℕ → Type 0
HasBytes Unquoted bytes = bytes ≢ []
HasBytes q bytes = ⊤

-- These bytes, with references undone, are the bytes `value`. A style and a script do not tell each of their bytes: there it is what a value of kind
-- Plain tells of the same bytes.
abbrev pub in_plain_value : Quoting → Tag → LexState ValueState
in_plain_value q tag = AttributeValue q tag (ValueOf (OfKind kind.Plain)) Closed

abbrev pub AreRead : ValueState → Quoting → Tag → (bytes value : List ℕ) → Config ValueState → Type 0
AreRead (OfKind k) q tag bytes value d = d.emitted ≡ value_bytes value []
AreRead (OfUrl u) q tag bytes value d = d.emitted ≡ value_bytes value []
AreRead (OfStyle s) q tag bytes value d =
    read Page bytes (config (in_plain_value q tag) []) ≡ config (in_plain_value q tag) (value_bytes value [])
AreRead (OfScript s) q tag bytes value d =
    read Page bytes (config (in_plain_value q tag) []) ≡ config (in_plain_value q tag) (value_bytes value [])

-- The bytes lie in a value, which reads these bytes of them, with their references undone, and in its language they are plain.
pub record IsPlainInState (v : ValueState) (q : Quoting) (tag : Tag) (bytes : List ℕ) (d : Config ValueState) : Type 0 where
  pub value : List ℕ
  pub after : ValueState
  pub within : d.at ≡ AttributeValue q tag (ValueOf after) Closed
  pub emitted : AreRead v q tag bytes value d
  pub some : HasBytes q value
  pub leads : languages.LeadsPlain v value after

-- in the value of an attribute; where it decides how an element is read, no bytes are plain
abbrev pub IsPlainValue : Value ValueState → Quoting → Tag → List ℕ → Config ValueState → Type 0
IsPlainValue (ValueOf v) q tag bytes d = IsPlainInState v q tag bytes d
IsPlainValue (Deciding k before) q tag bytes d = ⊥

-- where an unquoted value is to begin: the value begins with the first byte
abbrev pub begins_at_once : List ℕ → Bool
begins_at_once [] = false
begins_at_once (b ∷ bs) = not (is_ascii_whitespace b)

abbrev pub IsPlainBefore : Kind → Tag → List ℕ → Config ValueState → Type 0
IsPlainBefore k tag bytes d = (begins_at_once bytes ≡ true) × IsPlainValue (attribute_value_of languages k) Unquoted tag bytes d

-- inside a text, a value: no reference is open where the hole begins
abbrev pub WhereClosed : Reference → Type 0 → Type 0
WhereClosed Closed fact = fact
WhereClosed _ fact = ⊥

-- In an element, whether the style stands right behind a `<`; in a script no value begins with a `/`. A hole without bytes may stand between
-- that and the bytes at hand: they are read alike before and after it, but a `/` would be part of the end tag.
abbrev pub is_behind_less : ValueState → Bool
is_behind_less (OfStyle (Out AfterLessThan)) = true
is_behind_less v = false

abbrev pub begins_with_solidus : List ℕ → Bool
begins_with_solidus [] = false
begins_with_solidus (b ∷ bs) = b == 47

-- The bytes lie in the content of an element that is read by a language: it reads all of them, and nothing else does; nothing of them is pending at
-- their end; and in it they are plain.
pub record IsPlainInContent (v : ValueState) (e : Element) (bytes : List ℕ) (d : Config ValueState) : Type 0 where
  pub within : d.at ≡ InContent e (InLanguage (fed_state languages v bytes)) Nothing
  pub emitted : d.emitted ≡ emits_fed languages v bytes []
  pub begins : is_behind_less v ≡ true → begins_with_solidus bytes ≡ false
  pub leads : languages.LeadsPlain v bytes (fed_state languages v bytes)

-- in a title or a textarea, in a data block, and in a language, where nothing is pending back
abbrev pub IsPlainContent : Pending → Content ValueState → Element → List ℕ → Config ValueState → Type 0
IsPlainContent Nothing (Characters r) e bytes d = WhereClosed r ((d.at ≡ InContent e (Characters Closed) Nothing) × IsTrue (only_text d.emitted))
IsPlainContent Nothing Bytes e bytes d = (d.at ≡ InContent e Bytes Nothing) × IsTrue (only_block d.emitted)
IsPlainContent Nothing (InLanguage v) e bytes d = IsPlainInContent v e bytes d
IsPlainContent _ y e bytes d = ⊥

-- Bytes that read from this state, with nothing told, to `d` are plain there. In text, title, textarea and data block they are bytes of that
-- very text; in a value, in a style and in a script of that value, that style and that script; in a tag they are one whole name. In the other
-- states none are plain, nor are bytes at whose beginning or end the lexer holds something back, even where it could come to nothing (`</`
-- before an `x`, in a title), nor a whole `<!--` in a data block.
abbrev pub IsPlainFrom : LexState ValueState → List ℕ → Config ValueState → Type 0
IsPlainFrom (Text r) bytes d = WhereClosed r ((d.at ≡ Text Closed) × IsTrue (only_text d.emitted))
IsPlainFrom (InContent e y h) bytes d = IsPlainContent h y e bytes d
IsPlainFrom (BeforeAttributeName tag) bytes d = IsPlainName tag bytes d
IsPlainFrom (AfterAttributeName tag k) bytes d = IsPlainName (without_value tag k) bytes d
IsPlainFrom (AfterAttributeValue tag) bytes d = IsPlainName tag bytes d
IsPlainFrom (SelfClosingStartTag tag) bytes d = IsPlainName tag bytes d
IsPlainFrom (BeforeAttributeValue tag k) bytes d = IsPlainBefore k tag bytes d
IsPlainFrom (AttributeValue q tag v r) bytes d = WhereClosed r (IsPlainValue v q tag bytes d)
IsPlainFrom _ bytes d = ⊥

-- Where a hole begins in an element that a language reads, the language reads first what is pending, and then tells what it still holds back, as
-- in a value; but in a token of a script what is pending stays so. The other states need no such telling: where they, or a token of a script,
-- hold something back no hole is plain.
abbrev pub settled_state : {B : Type 0} → ValueLanguage B → LexState B → LexState B
settled_state x (AttributeValue q tag v r) = AttributeValue q tag (settled_value x v) r
settled_state x (InContent e y h) = settled_content x e y h
settled_state x s = s

abbrev pub emits_settled_state : {B : Type 0} → ValueLanguage B → LexState B → List LexEvent → List LexEvent
emits_settled_state x (AttributeValue q tag v r) t = emitted_settled x v t
emits_settled_state x (InContent e y h) t = emits_settled_content x y h t
emits_settled_state x s t = t

abbrev pub settled_config : {B : Type 0} → ValueLanguage B → Config B → Config B
settled_config x c = config (settled_state x c.at) (emits_settled_state x c.at c.emitted)

-- Plain in its place, and no token of what stands before lies partly in it. No bytes lie in none: a `<` before them stays a `<`, since text behind
-- them that begins with a `/` is refused, and no bytes of another hole that do are plain.
abbrev pub IsPlain : List ℕ → Config ValueState → Type 0
IsPlain bytes c =
    (bytes ≢ [] → read Page bytes c ≡ read Page bytes (settled_config languages c))
    × IsPlainFrom (settled_state languages c.at) bytes (read Page bytes (config (settled_state languages c.at) []))
