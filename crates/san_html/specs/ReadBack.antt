-- What each sanitizer promises of its bytes in their place: they are plain there, and are read back as the text. A place is a state in
-- which the lexer holds nothing back: no reference is open, and no `<`. Whoever writes a text before a value has to see to that.
use Rattle.std.specs.Prelude.{◌≡◌, ℕ, Bool, true, false, ◌==◌, List, [], ◌∷◌, ◌++◌, if◌then◌else◌}
use Rattle.std.specs.Str.{str_to_ascii_lowercase}
use Rattle.place_core.specs.page.Events.{LexEvent, AttributeBegins, event_text_bytes, block_bytes, attribute_name_bytes}
use Rattle.place_core.specs.page.Html.{read}
use Rattle.place_core.specs.page.Plain.{IsPlain}
use Rattle.place_core.specs.page.References.{Closed, undone}
use Rattle.place_core.specs.page.States.{Page, LexState, Text, InContent, Characters, Bytes, Nothing, BeforeAttributeName, AfterAttributeName, AfterAttributeValue, SelfClosingStartTag, AttributeName, BeforeAttributeValue, AttributeValue, Config, config}
use Rattle.place_core.specs.page.Tags.{Tag, Value, ValueOf, ValueState, OfKind, languages, attribute_value_of, with_bytes, emitted_bytes, Quoting, Unquoted, without_value}
use Rattle.place_core.specs.declared.element.Element.{Element}
use Rattle.place_core.specs.declared.element.Element.TheVariants as element
use Rattle.place_core.specs.declared.kind.Kind.{Kind}
use Rattle.place_core.specs.declared.kind.Kind.TheVariants as kind
use Rattle.san_html.specs.Sanitizers.{as_replacement, failsafe, is_attribute_name}

-- a text as it is read back: NUL is U+FFFD, and every other byte is as it was
abbrev pub as_byte : ℕ → List ℕ
as_byte b = if b == 0 then as_replacement else b ∷ []

abbrev pub read_as_text : List ℕ → List ℕ
read_as_text [] = []
read_as_text (b ∷ bs) = as_byte b ++ read_as_text bs

-- an unquoted value is never empty
abbrev pub as_unquoted : List ℕ → List ℕ
as_unquoted [] = failsafe
as_unquoted (b ∷ bs) = read_as_text (b ∷ bs)

-- in text, and in title and textarea: bytes of that very text, which are the text with its references undone
pub record IsBackInText (text bytes : List ℕ) : Type 0 where
  pub plain : (t : List LexEvent) → IsPlain bytes (config (Text Closed) t)
  pub reads : (t : List LexEvent) → read Page bytes (config (Text Closed) t) ≡ config (Text Closed) (event_text_bytes (read_as_text text) t)

abbrev pub in_rcdata : Element → LexState ValueState
in_rcdata e = InContent e (Characters Closed) Nothing

pub record IsBackInRcdata (text bytes : List ℕ) : Type 0 where
  pub plain : (e : Element) (t : List LexEvent) → IsPlain bytes (config (in_rcdata e) t)
  pub reads : (e : Element) (t : List LexEvent) → read Page bytes (config (in_rcdata e) t) ≡ config (in_rcdata e) (event_text_bytes (read_as_text text) t)

-- in a data block: bytes of that very block, as they are; with their references undone by themselves they are the text
abbrev pub in_block : LexState ValueState
in_block = InContent element.DataBlock Bytes Nothing

pub record IsBackInBlock (text bytes : List ℕ) : Type 0 where
  pub plain : (t : List LexEvent) → IsPlain bytes (config in_block t)
  pub reads : (t : List LexEvent) → read Page bytes (config in_block t) ≡ config in_block (block_bytes bytes t)
  pub undoes : undone false Closed bytes ≡ read_as_text text

-- in a quoted value: plain where the attribute is of kind Plain; and whatever the value is so far, of any kind, and also in the type of a
-- script, it goes on with the text
abbrev pub reads_quoted : Quoting → Bool
reads_quoted Unquoted = false
reads_quoted _ = true

-- a value that has begun, and where no reference is open, and what is read of a text in it
abbrev pub in_value : Quoting → Tag → Value ValueState → LexState ValueState
in_value q tag v = AttributeValue q tag v Closed

abbrev pub read_value : Quoting → Tag → Value ValueState → List ℕ → List LexEvent → Config ValueState
read_value q tag v text t = config (in_value q tag (with_bytes languages v text)) (emitted_bytes languages v text t)

pub record IsBackInQuoted (text bytes : List ℕ) : Type 0 where
  pub plain : (q : Quoting) (tag : Tag) (t : List LexEvent) →
      reads_quoted q ≡ true → IsPlain bytes (config (in_value q tag (ValueOf (OfKind kind.Plain))) t)
  pub reads : (q : Quoting) (tag : Tag) (v : Value ValueState) (t : List LexEvent) →
      reads_quoted q ≡ true → read Page bytes (config (in_value q tag v) t) ≡ read_value q tag v (read_as_text text) t

-- in an unquoted value that has begun, of any kind, and where one is to begin
pub record IsBackInUnquoted (text bytes : List ℕ) : Type 0 where
  pub plain : (tag : Tag) (t : List LexEvent) → IsPlain bytes (config (in_value Unquoted tag (ValueOf (OfKind kind.Plain))) t)
  pub reads : (tag : Tag) (v : Value ValueState) (t : List LexEvent) →
      read Page bytes (config (in_value Unquoted tag v) t) ≡ read_value Unquoted tag v (as_unquoted text) t
  pub plain_unbegun : (tag : Tag) (t : List LexEvent) → IsPlain bytes (config (BeforeAttributeValue tag kind.Plain) t)
  pub reads_unbegun : (tag : Tag) (k : Kind) (t : List LexEvent) →
      read Page bytes (config (BeforeAttributeValue tag k) t) ≡ read_value Unquoted tag (attribute_value_of languages k) (as_unquoted text) t

-- a name as it is read back: in lower case
abbrev pub as_name : List ℕ → List ℕ
as_name text = str_to_ascii_lowercase (if is_attribute_name text then text else failsafe)

-- where the name of an attribute may begin: before names, after one, after a quoted value and after a solidus; and the tag, as it is after
-- what stands there
abbrev pub BeginsName : LexState ValueState → Tag → Type 0
BeginsName (BeforeAttributeName tag) after = after ≡ tag
BeginsName (AfterAttributeName tag k) after = after ≡ without_value tag k
BeginsName (AfterAttributeValue tag) after = after ≡ tag
BeginsName (SelfClosingStartTag tag) after = after ≡ tag
BeginsName _ after = ⊥

-- in a tag: the bytes are one whole name there
pub record IsBackInTag (text bytes : List ℕ) : Type 0 where
  pub plain : (s : LexState ValueState) (tag : Tag) (t : List LexEvent) → BeginsName s tag → IsPlain bytes (config s t)
  pub reads : (s : LexState ValueState) (tag : Tag) (t : List LexEvent) → BeginsName s tag → read Page bytes (config s t) ≡ config (AttributeName tag (as_name text)) (attribute_name_bytes (as_name text) (AttributeBegins ∷ t))
