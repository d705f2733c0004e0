-- What is promised of a page: it has the shape of the path of its templates, whatever the data; each value is plain in its place, and
-- reads back there; and the page as bytes alone reads as that path with its marks filled by the values.
use Rattle.std.specs.Prelude.{◌≡◌, ℕ, false, List, [], ◌∷◌, ⊤}
use Rattle.css_lexer.specs.Sanitizers.{style_as_text, unless_unsafe}
use Rattle.css_lexer.specs.States.{Comment, InString, InUrl, Out, Outside, StarAtCut, Style}
use Rattle.css_lexer.specs.Unescaping.{style_escapes_undone}
use Rattle.js_lexer.specs.Events.{ScriptEvent}
use Rattle.js_lexer.specs.Feeding.{read_on, script_reading}
use Rattle.js_lexer.specs.Plain.{IsDataBack, IsRegexpBack, IsStringBack}
use Rattle.js_lexer.specs.States as script
use Rattle.js_lexer.specs.States.{At, ScriptState}
use Rattle.page_datum.specs.Data.{Data}
use Rattle.page_datum.specs.Printed.{printed}
use Rattle.page_path.specs.Pages.{PagePiece, page_bytes, page_parts, pieces_of, value, words}
use Rattle.place_core.specs.page.Events.{AttributeBegins, attribute_name_bytes, event_text_bytes}
use Rattle.place_core.specs.page.Html.{read, start}
use Rattle.place_core.specs.page.Paths.{Hole, Symbol, Written, read_path}
use Rattle.place_core.specs.page.Plain.{IsPlain, settled_config}
use Rattle.place_core.specs.page.References.{Closed, undone}
use Rattle.place_core.specs.page.Shape.{PageReads, ShapePart, marked}
use Rattle.place_core.specs.page.States.{AfterAttributeName, AfterAttributeValue, AttributeName, AttributeValue, BeforeAttributeName, BeforeAttributeValue, Bytes, Characters, Config, InContent, InLanguage, Nothing, Page, SelfClosingStartTag, LexState, Text, config}
use Rattle.place_core.specs.page.Tags.{Deciding, OfKind, OfScript, OfStyle, OfUrl, Quoting, Tag, Unquoted, Value, ValueOf, ValueState, emits_fed, fed_state, languages, attribute_value_of, without_value}
use Rattle.place_core.specs.declared.element.Element.{Element}
use Rattle.san_html.specs.ReadBack.{read_value, as_name, read_as_text}
use Rattle.text_norm.specs.FilledReadings.{value_text}
use Rattle.text_norm.specs.Fillings.{FillsPath, url_bytes}
use Rattle.tpl_events.specs.Events.{Emission, ExecEvent, enters, gives_hole, gives_text, leaves}
use Rattle.tpl_exec.specs.Meaning.{Finish, finish_of, finished, meaning, stopped}
use Rattle.tpl_exec.specs.Runs.{End}
use Rattle.tpl_paths.specs.Edges.{Edge, calls, fills, finish_point, passes, picks, writes}
use Rattle.tpl_paths.specs.Paths.{IsPath, Move, along, at_root, back, choices_of, reached, signs_of, open_standing}
use Rattle.page_path.specs.Taken.{choices, signs}
use Rattle.tpl_tree.specs.Forests.{ForestData}
use Rattle.url_lexer.specs.Back.{ReadsBack}
use Rattle.url_lexer.specs.States.{Url}

-- what a path has for a reader: its texts, and its holes
abbrev pub edge_symbols : Edge → List Symbol → List Symbol
edge_symbols (writes n bytes to) rest = Written bytes ∷ rest
edge_symbols (fills n pipe to) rest = Hole ∷ rest
edge_symbols (calls n name to) rest = rest
edge_symbols (picks from choice to) rest = rest
edge_symbols (passes from to) rest = rest

abbrev pub path_symbols : List Move → List Symbol
path_symbols [] = []
path_symbols (along e ∷ ms) = edge_symbols e (path_symbols ms)
path_symbols (back ∷ ms) = path_symbols ms

-- A value reads back in its place. In text, title and textarea its bytes, with references undone, are the text of the value, with NUL as
-- U+FFFD. In a data block the same, where they are undone by themselves. In a value of an attribute they go on with that text, and where
-- the value has no quotes and the text is empty, with the failsafe `ZgotmplZ`. In a URL they go on with bytes that are the text with percent triples
-- undone, as its part says, and without quotes, where there are none, with `ZgotmplZ`. In a style they read as such bytes do: in a string of it
-- as bytes that are the text, with NUL as U+FFFD, where their escapes are undone; in a URL of it as in any URL; in a comment of it as none, of which
-- a style tells nothing; and elsewhere as the text, of which the escapes are undone, or as `ZgotmplZ`, where that may not stand there: but how long
-- white space is, a style does not tell. In the element `style` the bytes themselves are read so, all of them by the style. In a script they read as
-- bytes that in a string are the text, where their escapes are undone; in a regular expression likewise, or `(?:)` for the empty text; in a comment
-- none; and in code JSON that stands for the value, read as the tokens of its literal. In a tag they are the name of an attribute: the text in lower
-- case, or `ZgotmplZ`, where data may not make that name.
abbrev pub IsNameBack : Tag → LexState ValueState → List ℕ → List ℕ → Type 0
IsNameBack tag s text bytes =
    read Page bytes (config s []) ≡ config (AttributeName tag (as_name text)) (attribute_name_bytes (as_name text) (AttributeBegins ∷ []))

pub record IsUrlBack (q : Quoting) (tag : Tag) (u : Url) (s : LexState ValueState) (text bytes : List ℕ) : Type 0 where
  pub characters : List ℕ
  pub goes_on : read Page bytes (config s []) ≡ read_value q tag (ValueOf (OfUrl u)) (url_bytes q characters) []
  pub reads : ReadsBack u.part text characters

-- in a style, by where the page is in it when nothing is pending
abbrev pub ReadsBackOutside : Outside → List ℕ → List ℕ → Type 0
ReadsBackOutside (InString q e) text characters = style_escapes_undone characters ≡ style_as_text text
ReadsBackOutside (Comment star) text characters = characters ≡ []
ReadsBackOutside StarAtCut text characters = characters ≡ []
ReadsBackOutside s text characters = characters ≡ unless_unsafe (style_escapes_undone text)

abbrev pub ReadsBackInStyle : Style Url → List ℕ → List ℕ → Type 0
ReadsBackInStyle (Out s) text characters = ReadsBackOutside s text characters
ReadsBackInStyle (InUrl f u) text characters = ReadsBack u.part text characters

pub record IsStyleBack (q : Quoting) (tag : Tag) (style : Style Url) (s : LexState ValueState) (text bytes : List ℕ) : Type 0 where
  pub characters : List ℕ
  pub goes_on : read Page bytes (config s []) ≡ read_value q tag (ValueOf (OfStyle style)) (url_bytes q characters) []
  pub reads : ReadsBackInStyle style text characters

-- in the element of a style, which reads the bytes as they are
pub record IsElementBack (e : Element) (style : Style Url) (text bytes : List ℕ) : Type 0 where
  pub goes_on : read Page bytes (config (InContent e (InLanguage (OfStyle style)) Nothing) [])
      ≡ config (InContent e (InLanguage (fed_state languages (OfStyle style) bytes)) Nothing) (emits_fed languages (OfStyle style) bytes [])
  pub reads : ReadsBackInStyle style text bytes

-- in a script, by where the page is in it when nothing is pending
abbrev pub ReadsBackAt : At → Data → (characters : List ℕ) → List ScriptEvent → Type 0
ReadsBackAt (script.InString q e) datum characters told = IsStringBack (printed datum) characters
ReadsBackAt (script.InRegexp k e) datum characters told = IsRegexpBack (printed datum) characters
ReadsBackAt (script.LineComment s) datum characters told = characters ≡ []
ReadsBackAt (script.BlockComment s star) datum characters told = characters ≡ []
ReadsBackAt a datum characters told = IsDataBack datum characters told

pub record IsScriptBack (q : Quoting) (tag : Tag) (script : ScriptState) (s : LexState ValueState) (datum : Data) (bytes : List ℕ) : Type 0 where
  pub characters : List ℕ
  pub goes_on : read Page bytes (config s []) ≡ read_value q tag (ValueOf (OfScript script)) (url_bytes q characters) []
  pub reads : ReadsBackAt script.at datum characters (read_on characters (script_reading script [])).told

-- in the element of a script, likewise
pub record IsScriptElementBack (e : Element) (script : ScriptState) (datum : Data) (bytes : List ℕ) : Type 0 where
  pub goes_on : read Page bytes (config (InContent e (InLanguage (OfScript script)) Nothing) [])
      ≡ config (InContent e (InLanguage (fed_state languages (OfScript script) bytes)) Nothing) (emits_fed languages (OfScript script) bytes [])
  pub reads : ReadsBackAt script.at datum bytes (read_on bytes (script_reading script [])).told

-- in a value of an attribute, by how it is read
abbrev pub IsValueBack : Quoting → Tag → Value ValueState → LexState ValueState → Data → List ℕ → Type 0
IsValueBack q tag (ValueOf (OfKind k)) s datum bytes =
    read Page bytes (config s []) ≡ read_value q tag (ValueOf (OfKind k)) (value_text q (printed datum)) []
IsValueBack q tag (ValueOf (OfUrl u)) s datum bytes = IsUrlBack q tag u s (printed datum) bytes
IsValueBack q tag (ValueOf (OfStyle style)) s datum bytes = IsStyleBack q tag style s (printed datum) bytes
IsValueBack q tag (ValueOf (OfScript script)) s datum bytes = IsScriptBack q tag script s datum bytes
IsValueBack q tag (Deciding k before) s datum bytes =
    read Page bytes (config s []) ≡ read_value q tag (Deciding k before) (value_text q (printed datum)) []

abbrev pub IsBack : LexState ValueState → Data → List ℕ → Type 0
IsBack (Text r) datum bytes = read Page bytes (config (Text r) []) ≡ config (Text Closed) (event_text_bytes (read_as_text (printed datum)) [])
IsBack (InContent e (Characters r) Nothing) datum bytes =
    read Page bytes (config (InContent e (Characters r) Nothing) [])
    ≡ config (InContent e (Characters Closed) Nothing) (event_text_bytes (read_as_text (printed datum)) [])
IsBack (InContent e Bytes Nothing) datum bytes = undone false Closed bytes ≡ read_as_text (printed datum)
IsBack (InContent e (InLanguage (OfStyle style)) Nothing) datum bytes = IsElementBack e style (printed datum) bytes
IsBack (InContent e (InLanguage (OfScript script)) Nothing) datum bytes = IsScriptElementBack e script datum bytes
IsBack (AttributeValue q tag v r) datum bytes = IsValueBack q tag v (AttributeValue q tag v r) datum bytes
IsBack (BeforeAttributeValue tag k) datum bytes =
    IsValueBack Unquoted tag (attribute_value_of languages k) (BeforeAttributeValue tag k) datum bytes
IsBack (BeforeAttributeName tag) datum bytes = IsNameBack tag (BeforeAttributeName tag) (printed datum) bytes
IsBack (AfterAttributeName tag k) datum bytes = IsNameBack (without_value tag k) (AfterAttributeName tag k) (printed datum) bytes
IsBack (AfterAttributeValue tag) datum bytes = IsNameBack tag (AfterAttributeValue tag) (printed datum) bytes
IsBack (SelfClosingStartTag tag) datum bytes = IsNameBack tag (SelfClosingStartTag tag) (printed datum) bytes
IsBack s datum bytes = ⊥

-- along the pieces of a page, each value is plain in its place and reads back there
abbrev pub AreValuesBack : List PagePiece → Config ValueState → Type 0
AreValuesBack [] c = ⊤
AreValuesBack (words bytes ∷ ps) c = AreValuesBack ps (read Page bytes c)
AreValuesBack (value datum bytes ∷ ps) c = IsPlain bytes c × IsBack (settled_config languages c).at datum bytes × AreValuesBack ps (marked bytes c)

-- the texts of the values that an execution gives, in order
abbrev pub event_texts : ExecEvent → List (List ℕ) → List (List ℕ)
event_texts (gives_text n) rest = rest
event_texts (gives_hole n datum) rest = printed datum ∷ rest
event_texts (enters n) rest = rest
event_texts leaves rest = rest

abbrev pub texts_of : List Emission → List (List ℕ)
texts_of [] = []
texts_of (g ∷ gs) = event_texts g.event (texts_of gs)

-- an execution that comes to the end of its root
abbrev pub IsFinished : Finish → Type 0
IsFinished (finished steps) = ⊤
IsFinished (stopped why) = ⊥

abbrev pub IsDone : End → Type 0
IsDone end = IsFinished (finish_of end)

-- What a reader of a path comes to: its texts are read as they are, and each of its holes is a mark.
abbrev pub path_read : List Move → Config ValueState
path_read path = read_path languages (path_symbols path) start

-- The path that an execution takes: it is one of the root's, it makes the choices of the execution, it has its texts, holes and calls, and it
-- comes to the root's end.
pub record TakesPath (forest : ForestData) (root : List ℕ) (datum : Data) : Type 0 where
  pub path : List Move
  pub walk : IsPath forest (at_root forest root) path
  pub taken : choices_of path ≡ choices (meaning forest root datum).choices
  pub same : signs_of path ≡ signs (meaning forest root datum).events
  pub whole : reached forest (at_root forest root) path ≡ open_standing [] root finish_point

-- Parts of a page read as a path, with a mark in the place of each value: they come to where the path comes, and to nothing else, and the
-- path ends in text.
pub record ReadsAs (parts : List ShapePart) (path : List Move) : Type 0 where
  pub reads : PageReads parts start (path_read path)
  pub no_other : (end : Config ValueState) → PageReads parts start end → end ≡ path_read path
  pub in_text : (path_read path).at ≡ Text Closed

-- The page of a root with a datum is sound.
-- 1. The execution comes to the end of its root.
-- 2. The page is the bytes of the execution's pieces.
-- 3. The execution takes a path of its templates.
-- 4. Read with a mark in the place of each value, the page comes to where that path comes, so its shape is the path's own.
-- 5. Each value is plain in its place, and reads back there.
-- 6. The whole page, read as bytes alone, without knowing where values begin and end, comes to where the path comes, and emits what the path
--    emits, but in the place of each mark the events of that value alone. And where a hole is the first of a URL, the URL's end tells a scheme that
--    is none, `http`, `https` or `mailto`. And in a style the page tells one blank for white space and comments that stand side by side, where the
--    path and a value, or two values, have them there. That no percent triple and no escape of a style lies over an edge of a value, and that only
--    the first value of a URL ends its scheme, the fifth says.
pub record IsSound (forest : ForestData) (root : List ℕ) (datum : Data) (page : List ℕ) : Type 0 where
  pub finished : IsDone (meaning forest root datum).end
  pub bytes : page ≡ page_bytes (pieces_of forest root datum)
  pub takes : TakesPath forest root datum
  pub reads : ReadsAs (page_parts (pieces_of forest root datum)) takes.path
  pub values : AreValuesBack (pieces_of forest root datum) start
  pub raw : FillsPath (path_symbols takes.path) (texts_of (meaning forest root datum).events) page
