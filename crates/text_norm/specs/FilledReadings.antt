-- The path read with the text of each value in its hole. Where the text determines the run that fills a mark, a page fills a path with
-- texts exactly where it reads as the path with these texts does.
use Rattle.std.specs.Prelude.{◌≡◌, ℕ, suc, List, [], ◌∷◌, length, ⊤}
use Rattle.place_core.specs.page.Events.{AttributeBegins, LexEvent, attribute_name_bytes, event_text_bytes}
use Rattle.place_core.specs.page.Html.{read, start}
use Rattle.place_core.specs.page.Paths.{Hole, Symbol, Written, at_hole, read_node}
use Rattle.place_core.specs.page.References.{Closed, Reference}
use Rattle.place_core.specs.page.States.{AfterAttributeName, AfterAttributeValue, AttributeValue, BeforeAttributeName, BeforeAttributeValue, Bytes, Characters, Config, Content, InContent, InLanguage, LexState, Nothing, Page, Pending, SelfClosingStartTag, Text, WholeAttributeName, config}
use Rattle.place_core.specs.page.Tags.{Quoting, Tag, Deciding, Unquoted, Value, ValueOf, ValueState, OfKind, OfUrl, OfStyle, OfScript, attribute_value_of, languages, without_value}
use Rattle.place_core.specs.place.Errors.{node}
use Rattle.place_core.specs.declared.kind.Kind.TheVariants as kind
use Rattle.san_html.specs.ReadBack.{as_name, as_unquoted, read_as_text, read_value}
use Rattle.text_norm.specs.Fillings.{FillsPath}

-- what a value reads as that has this text
abbrev pub value_text : Quoting → List ℕ → List ℕ
value_text Unquoted text = as_unquoted text
value_text q text = read_as_text text

-- A hole emits its text in the place of a mark. A hole in a comment emits nothing. In a data block, in a URL, in a style and in a script the
-- text does not say which bytes stand there: of a path with a hole in one no law below speaks.
abbrev pub name_filled : Tag → List ℕ → List LexEvent → Config ValueState
name_filled tag text t = config (WholeAttributeName tag kind.Plain) (attribute_name_bytes (as_name text) (AttributeBegins ∷ t))

abbrev pub holes_filled : LexState ValueState → List ℕ → List LexEvent → Config ValueState
holes_filled (Text r) text t = config (Text r) (event_text_bytes (read_as_text text) t)
holes_filled (InContent e (Characters r) Nothing) text t = config (InContent e (Characters r) Nothing) (event_text_bytes (read_as_text text) t)
holes_filled (AttributeValue q tag v r) text t = read_value q tag v (value_text q text) t
holes_filled (BeforeAttributeValue tag k) text t = read_value Unquoted tag (attribute_value_of languages k) (as_unquoted text) t
holes_filled (BeforeAttributeName tag) text t = name_filled tag text t
holes_filled (AfterAttributeName tag k) text t = name_filled (without_value tag k) text t
holes_filled (AfterAttributeValue tag) text t = name_filled tag text t
holes_filled (SelfClosingStartTag tag) text t = name_filled tag text t
holes_filled s text t = config s t

-- where the texts run out the reading stops, and spare texts are not read
abbrev pub read_filled : List Symbol → List (List ℕ) → Config ValueState → Config ValueState
read_filled [] texts c = c
read_filled (Written bytes ∷ symbols) texts c = read_filled symbols texts (read_node languages bytes c)
read_filled (Hole ∷ symbols) [] c = c
read_filled (Hole ∷ symbols) (text ∷ texts) c = read_filled symbols texts (holes_filled c.at text c.emitted)

abbrev pub holes_in : List Symbol → ℕ
holes_in [] = 0
holes_in (Written bytes ∷ symbols) = holes_in symbols
holes_in (Hole ∷ symbols) = suc (holes_in symbols)

-- The text of a value says which bytes stand in its hole: it stands neither in a data block, where references may be written otherwise, nor in a URL,
-- where percent triples may, nor in a style, of a value or of an element, nor in a script, where escapes may.
abbrev pub IsSaidInValue : Value ValueState → Type 0
IsSaidInValue (ValueOf (OfKind k)) = ⊤
IsSaidInValue (ValueOf (OfUrl u)) = ⊥
IsSaidInValue (ValueOf (OfStyle s)) = ⊥
IsSaidInValue (ValueOf (OfScript s)) = ⊥
IsSaidInValue (Deciding k before) = ⊤

abbrev pub IsSaidByText : LexState ValueState → Type 0
IsSaidByText (InContent e Bytes h) = ⊥
IsSaidByText (InContent e (InLanguage v) h) = ⊥
IsSaidByText (AttributeValue q tag v r) = IsSaidInValue v
IsSaidByText (BeforeAttributeValue tag k) = IsSaidInValue (attribute_value_of languages k)
IsSaidByText s = ⊤

-- so do all texts of a path
abbrev pub AreSaidByTexts : List Symbol → LexState ValueState → Type 0
AreSaidByTexts [] s = ⊤
AreSaidByTexts (Written bytes ∷ symbols) s = AreSaidByTexts symbols (node bytes s)
AreSaidByTexts (Hole ∷ symbols) s = IsSaidByText s × AreSaidByTexts symbols (at_hole languages s)

-- A page that fills its path reads as the path does with the texts in its holes.
abbrev pub FilledPathsAreReadings : Type 0
FilledPathsAreReadings = (symbols : List Symbol) (texts : List (List ℕ)) (page : List ℕ) → holes_in symbols ≡ length texts
    → AreSaidByTexts symbols start.at → FillsPath symbols texts page → read Page page start ≡ read_filled symbols texts start

-- where a mark is filled, and by one run: neither in a data block, a URL, a style or a script, nor where nothing fills it
abbrev pub TakesContent : Content ValueState → Pending → Type 0
TakesContent (Characters r) Nothing = ⊤
TakesContent y h = ⊥

abbrev pub TakesValue : Value ValueState → Reference → Type 0
TakesValue (ValueOf (OfKind k)) Closed = ⊤
TakesValue v r = ⊥

abbrev pub TakesHole : LexState ValueState → Type 0
TakesHole (InContent e y h) = TakesContent y h
TakesHole (AttributeValue q tag v r) = TakesValue v r
TakesHole (BeforeAttributeValue tag k) = TakesValue (attribute_value_of languages k) Closed
TakesHole s = ⊤

-- each hole of a path has a text, and is so
abbrev pub HolesTake : List Symbol → List (List ℕ) → LexState ValueState → Type 0
HolesTake [] texts s = ⊤
HolesTake (Written bytes ∷ symbols) texts s = HolesTake symbols texts (node bytes s)
HolesTake (Hole ∷ symbols) [] s = ⊥
HolesTake (Hole ∷ symbols) (text ∷ texts) s = TakesHole s × HolesTake symbols texts (at_hole languages s)

-- The other way, a page that reads as its path with these texts fills the path with them.
abbrev pub ReadingsAreFilledPaths : Type 0
ReadingsAreFilledPaths = (symbols : List Symbol) (texts : List (List ℕ)) (page : List ℕ) → HolesTake symbols texts start.at
    → read Page page start ≡ read_filled symbols texts start → FillsPath symbols texts page
