-- The page read as bytes alone, beside its path read with a mark for each value. The page emits what the path emits, but in the place of
-- each mark it emits a run of events that fits the mark. Which runs fit depends on where the mark stands, and each language of values says
-- it. And where a hole is the first of a URL, the page tells at the URL's end which scheme data has chosen; and in a style a blank of the
-- path may be the one in which the value before it ended. A script tells all that is not a value's as on the path.
use Rattle.std.specs.Prelude.{⊤, ◌≡◌, ◌⊎◌, ℕ, Bool, true, false, List, [], ◌∷◌, ◌++◌, if◌then◌else◌}
use Rattle.css_lexer.specs.Escapes.{NoEscape}
use Rattle.css_lexer.specs.Events.{RunBlank, InsideUrl}
use Rattle.css_lexer.specs.Paths as styles
use Rattle.css_lexer.specs.Plain.{IsPlainInStyle, MayStandInUrl}
use Rattle.css_lexer.specs.Sanitizers.{style_as_text, unless_unsafe}
use Rattle.css_lexer.specs.States.{Quote, Between, InString, Style, Out, InUrl}
use Rattle.css_lexer.specs.Unescaping.{style_escapes_undone}
use Rattle.css_lexer.specs.Urls.{urls}
use Rattle.js_lexer.specs.Holes.{settled_at, script_has_mark}
use Rattle.js_lexer.specs.BackLaws.{in_string, in_regexp}
use Rattle.js_lexer.specs.Plain.{literal_events, IsPlainInScript, IsRegexpBack, IsStringBack}
use Rattle.js_lexer.specs.States.{At, ScriptState, no_trail}
use Rattle.js_lexer.specs.States as script
use Rattle.page_datum.specs.Data.{Data}
use Rattle.page_datum.specs.Printed.{printed}
use Rattle.place_core.specs.page.Events.{LexEvent, InsideStyle, Mark, ValueScheme, attribute_name_bytes, block_bytes, event_text_bytes, told_in_script, value_bytes}
use Rattle.place_core.specs.page.Html.{read, start}
use Rattle.place_core.specs.page.Paths.{Hole, Symbol, Written, at_hole, read_path}
use Rattle.place_core.specs.page.References.{Closed, undone}
use Rattle.place_core.specs.page.States.{AfterAttributeName, AfterAttributeValue, AttributeValue, BeforeAttributeName, BeforeAttributeValue, Bytes, Characters, InContent, InLanguage, LexState, Nothing, Page, SelfClosingStartTag, Text}
use Rattle.place_core.specs.page.Tags.{Quoting, Deciding, DoubleQuoted, Unquoted, Value, ValueOf, ValueState, OfKind, OfUrl, OfStyle, OfScript, attribute_value_of, emitted_bytes, languages}
use Rattle.place_core.specs.place.Errors.{node}
use Rattle.san_html.specs.ReadBack.{as_name, as_unquoted, read_as_text}
use Rattle.san_html.specs.Sanitizers.{failsafe}
use Rattle.url_lexer.specs.Back.{ReadsBack}
use Rattle.url_lexer.specs.Events.{ToldScheme, Named, NoScheme, Free, UrlByte, UrlEnds}
use Rattle.url_lexer.specs.Parts.{UrlPart}
use Rattle.url_lexer.specs.Plain.{ArePlainBytes}
use Rattle.url_lexer.specs.Schemes.{is_safe_scheme}
use Rattle.url_lexer.specs.States.{Url}

-- where a mark stands: in text, a title or a textarea; in a data block; in a value between quotes, or without them; as the name of an
-- attribute; in a value that is a URL, by how it is written and the part of the URL; in a value that is a style: in words and plain text, in
-- a string of it, by its quotes, or in a URL of it; or in a value that is a script: in its code, in a string of it, between quotation marks (true)
-- or apostrophes (false), or in a regular expression of it. In the element of a style or a script a value stands as in one between quotes: it may be empty.
pub data MarkSite : Type 0 where
  TextSite : MarkSite
  BlockSite : MarkSite
  QuotedSite : MarkSite
  UnquotedSite : MarkSite
  NameSite : MarkSite
  UrlSite : Quoting → UrlPart → MarkSite
  CodeSite : Quoting → MarkSite
  StringSite : Quoting → Quote → MarkSite
  StyleUrlSite : Quoting → UrlPart → MarkSite
  ScriptCodeSite : MarkSite
  ScriptStringSite : Quoting → Bool → MarkSite
  ScriptRegexpSite : MarkSite

-- what fills a mark: the text of a value, and where the mark stands
pub record Filling : Type 0 where
  pub site : MarkSite
  pub text : List ℕ

abbrev pub filling : MarkSite → List ℕ → Filling
filling site text = record { site = site; text = text }

-- In a style, white space and comments that stand side by side are told as one blank. So behind a value in code a blank of the path may be the one
-- that the page has told last: the value has ended in it, or has no bytes and stands behind it.
abbrev pub IsCodeSite : MarkSite → Type 0
IsCodeSite (CodeSite q) = ⊤
IsCodeSite site = ⊥

abbrev pub LastIsBlank : List LexEvent → Type 0
LastIsBlank (InsideStyle RunBlank ∷ page) = ⊤
LastIsBlank page = ⊥

abbrev pub BlankIsTold : List Filling → List LexEvent → Type 0
BlankIsTold [] page = ⊥
BlankIsTold (v ∷ vs) page = IsCodeSite v.site × LastIsBlank page

-- The page's events, beside the path's. Lists of events have the last event first, and so have the fillings; the relation goes along the
-- path's list, from its last event back. `Fits v before run` says that a mark before which the page has emitted `before` may be filled by
-- `v` with the events `run`. `Alike e f` says that for the path's event `e` the page may have `f`.
abbrev pub FillsBy : (Filling → List LexEvent → List LexEvent → Type 0) → (LexEvent → LexEvent → Type 0)
    → List LexEvent → List Filling → List LexEvent → Type 0
FillsBy Fits Alike [] vs page = (vs ≡ []) × (page ≡ [])
FillsBy Fits Alike (Mark ∷ path) vs page =
    (v : Filling) × (ws : List Filling) × (run : List LexEvent) × (rest : List LexEvent)
    × (vs ≡ v ∷ ws) × (page ≡ run ++ rest) × Fits v rest run × FillsBy Fits Alike path ws rest
FillsBy Fits Alike (InsideStyle RunBlank ∷ path) vs page =
    ((f : LexEvent) × (rest : List LexEvent) × (page ≡ f ∷ rest) × Alike (InsideStyle RunBlank) f × FillsBy Fits Alike path vs rest)
    ⊎ (BlankIsTold vs page × FillsBy Fits Alike path vs page)
FillsBy Fits Alike (e ∷ path) vs page =
    (f : LexEvent) × (rest : List LexEvent) × (page ≡ f ∷ rest) × Alike e f × FillsBy Fits Alike path vs rest

-- In a data block the run is bytes of the block, which are the text where their references are undone by themselves.
pub record IsBlockRun (text : List ℕ) (run : List LexEvent) : Type 0 where
  pub bytes : List ℕ
  pub emitted : run ≡ block_bytes bytes []
  pub undoes : undone false Closed bytes ≡ read_as_text text

-- In a URL it is bytes of the value that may stand in that part, and are the text with percent triples undone. Where there are none, a value without
-- quotes has the failsafe; so it is in a style.
abbrev pub url_bytes : Quoting → List ℕ → List ℕ
url_bytes Unquoted [] = failsafe
url_bytes q bytes = bytes

pub record IsUrlRun (q : Quoting) (part : UrlPart) (text : List ℕ) (run : List LexEvent) : Type 0 where
  pub bytes : List ℕ
  pub emitted : run ≡ value_bytes (url_bytes q bytes) []
  pub allowed : ArePlainBytes part (url_bytes q bytes)
  pub reads : ReadsBack part text bytes

-- In a style: what it tells of bytes, from this state.
abbrev pub style_run : Style Url → List ℕ → List LexEvent
style_run s bytes = emitted_bytes languages (ValueOf (OfStyle s)) bytes []

-- In code it tells the text with its escapes undone, or the failsafe, as words and plain text. A blank with which that begins may be the one that
-- the page has told last.
pub record IsCodeRun (q : Quoting) (text : List ℕ) (before run : List LexEvent) : Type 0 where
  pub behind_blank : Bool
  pub told : behind_blank ≡ true → LastIsBlank before
  pub emitted : run ≡ style_run (Out (Between behind_blank)) (url_bytes q (unless_unsafe (style_escapes_undone text)))

-- in a string, bytes that are plain there, and are the text with escapes undone
pub record IsStringRun (q : Quoting) (quote : Quote) (text : List ℕ) (run : List LexEvent) : Type 0 where
  pub bytes : List ℕ
  pub emitted : run ≡ style_run (Out (InString quote NoEscape)) (url_bytes q bytes)
  pub plain : IsPlainInStyle urls (url_bytes q bytes) (Out (InString quote NoEscape))
  pub reads : style_escapes_undone bytes ≡ style_as_text text

-- in a URL of it, bytes of that URL, as in any other; none is white space, a control byte or a backslash
abbrev pub style_url_bytes : List ℕ → List LexEvent → List LexEvent
style_url_bytes [] t = t
style_url_bytes (b ∷ bs) t = style_url_bytes bs (InsideStyle (InsideUrl (UrlByte b)) ∷ t)

pub record IsStyleUrlRun (q : Quoting) (part : UrlPart) (text : List ℕ) (run : List LexEvent) : Type 0 where
  pub bytes : List ℕ
  pub emitted : run ≡ style_url_bytes (url_bytes q bytes) []
  pub plain : MayStandInUrl (url_bytes q bytes)
  pub allowed : ArePlainBytes part (url_bytes q bytes)
  pub reads : ReadsBack part text bytes

-- In a script: what it tells of bytes, from this state.
abbrev pub script_run : ScriptState → List ℕ → List LexEvent
script_run s bytes = emitted_bytes languages (ValueOf (OfScript s)) bytes []

-- In code it tells the tokens of one literal, of a datum that is printed as the text.
pub record IsLiteralRun (text : List ℕ) (run : List LexEvent) : Type 0 where
  pub datum : Data
  pub prints : printed datum ≡ text
  pub emitted : run ≡ told_in_script (literal_events datum []) []

-- In a string and in a regular expression, bytes that are plain there, and are the text with escapes undone. The regular expression of no text is
-- `(?:)`, and no value in a regular expression is empty.
pub record IsScriptStringRun (q : Quoting) (quote : Bool) (text : List ℕ) (run : List LexEvent) : Type 0 where
  pub bytes : List ℕ
  pub emitted : run ≡ script_run (in_string quote no_trail) (url_bytes q bytes)
  pub plain : IsPlainInScript (url_bytes q bytes) (in_string quote no_trail)
  pub reads : IsStringBack text bytes

pub record IsRegexpRun (text : List ℕ) (run : List LexEvent) : Type 0 where
  pub bytes : List ℕ
  pub emitted : run ≡ script_run (in_regexp no_trail) bytes
  pub plain : IsPlainInScript bytes (in_regexp no_trail)
  pub reads : IsRegexpBack text bytes

-- Elsewhere the run is the text of the value, as bytes of the very token in which the mark stands: of a value without quotes the failsafe,
-- where the text is empty; of a name the whole name. Only in the code of a style does it matter what the page has told before it.
abbrev pub FitsAt : MarkSite → List ℕ → (before run : List LexEvent) → Type 0
FitsAt TextSite text before run = run ≡ event_text_bytes (read_as_text text) []
FitsAt BlockSite text before run = IsBlockRun text run
FitsAt QuotedSite text before run = run ≡ value_bytes (read_as_text text) []
FitsAt UnquotedSite text before run = run ≡ value_bytes (as_unquoted text) []
FitsAt NameSite text before run = run ≡ attribute_name_bytes (as_name text) []
FitsAt (UrlSite q part) text before run = IsUrlRun q part text run
FitsAt (CodeSite q) text before run = IsCodeRun q text before run
FitsAt (StringSite q quote) text before run = IsStringRun q quote text run
FitsAt (StyleUrlSite q part) text before run = IsStyleUrlRun q part text run
FitsAt ScriptCodeSite text before run = IsLiteralRun text run
FitsAt (ScriptStringSite q quote) text before run = IsScriptStringRun q quote text run
FitsAt ScriptRegexpSite text before run = IsRegexpRun text run

-- The scheme that a URL tells at its end. One that data chooses on the path is none on the page, or one that data may choose.
abbrev pub IsChosen : ToldScheme → Type 0
IsChosen (Named letters) = is_safe_scheme letters ≡ true
IsChosen NoScheme = ⊤
IsChosen Free = ⊥

abbrev pub ToldAlike : ToldScheme → ToldScheme → Type 0
ToldAlike (Named letters) s = s ≡ Named letters
ToldAlike NoScheme s = s ≡ NoScheme
ToldAlike Free s = IsChosen s

-- HTML: what fits a mark depends on its site, and every other event but a scheme is the path's own.
abbrev pub HtmlFits : Filling → List LexEvent → List LexEvent → Type 0
HtmlFits v before run = FitsAt v.site v.text before run

abbrev pub HtmlAlike : LexEvent → LexEvent → Type 0
HtmlAlike (ValueScheme s) f = (r : ToldScheme) × (f ≡ ValueScheme r) × ToldAlike s r
HtmlAlike (InsideStyle (InsideUrl (UrlEnds s))) f = (r : ToldScheme) × (f ≡ InsideStyle (InsideUrl (UrlEnds r))) × ToldAlike s r
HtmlAlike e f = f ≡ e

abbrev pub Fills : List LexEvent → List Filling → List LexEvent → Type 0
Fills path vs page = FillsBy HtmlFits HtmlAlike path vs page

-- The fillings along a path, the last first, by the path's own states. A hole in a comment has no mark, and so no filling, of a style and a
-- script too.
-- A mark in the type of a script, in a reference of a value, or in a title where something is pending has none either, since no value may
-- stand there: no page fills a path with such a mark. Nor does one with a mark in a URL behind a scheme that is code, since there no run
-- fits.
abbrev pub quoted_site : Quoting → MarkSite
quoted_site Unquoted = UnquotedSite
quoted_site q = QuotedSite

abbrev pub style_site : Quoting → Style Url → MarkSite
style_site q (Out (InString quote e)) = StringSite q quote
style_site q (Out s) = CodeSite q
style_site q (InUrl f u) = StyleUrlSite q u.part

-- A slash behind which a hole stands begins a regular expression or is a token.
abbrev pub script_site_at : Quoting → At → MarkSite
script_site_at q (script.InString quote e) = ScriptStringSite q quote
script_site_at q (script.InRegexp k e) = ScriptRegexpSite
script_site_at q a = ScriptCodeSite

abbrev pub script_site : Quoting → ScriptState → MarkSite
script_site q s = script_site_at q (settled_at s.at)

abbrev pub value_fillings : Value ValueState → Quoting → List ℕ → List Filling → List Filling
value_fillings (ValueOf (OfKind k)) q text vs = filling (quoted_site q) text ∷ vs
value_fillings (ValueOf (OfUrl u)) q text vs = filling (UrlSite q u.part) text ∷ vs
value_fillings (ValueOf (OfStyle s)) q text vs = if styles.has_mark s then filling (style_site q s) text ∷ vs else vs
value_fillings (ValueOf (OfScript s)) q text vs = if script_has_mark s then filling (script_site q s) text ∷ vs else vs
value_fillings (Deciding k before) q text vs = vs

abbrev pub fillings_at : LexState ValueState → List ℕ → List Filling → List Filling
fillings_at (Text r) text vs = filling TextSite text ∷ vs
fillings_at (InContent e (Characters r) Nothing) text vs = filling TextSite text ∷ vs
fillings_at (InContent e Bytes h) text vs = filling BlockSite text ∷ vs
fillings_at (InContent e (InLanguage v) Nothing) text vs = value_fillings (ValueOf v) DoubleQuoted text vs
fillings_at (AttributeValue q tag v Closed) text vs = value_fillings v q text vs
fillings_at (BeforeAttributeValue tag k) text vs = value_fillings (attribute_value_of languages k) Unquoted text vs
fillings_at (BeforeAttributeName tag) text vs = filling NameSite text ∷ vs
fillings_at (AfterAttributeName tag k) text vs = filling NameSite text ∷ vs
fillings_at (AfterAttributeValue tag) text vs = filling NameSite text ∷ vs
fillings_at (SelfClosingStartTag tag) text vs = filling NameSite text ∷ vs
fillings_at s text vs = vs

-- where the texts run out the path is not read on
abbrev pub fillings_along : List Symbol → List (List ℕ) → LexState ValueState → List Filling → List Filling
fillings_along [] texts s vs = vs
fillings_along (Written bytes ∷ symbols) texts s vs = fillings_along symbols texts (node bytes s) vs
fillings_along (Hole ∷ symbols) [] s vs = vs
fillings_along (Hole ∷ symbols) (text ∷ texts) s vs = fillings_along symbols texts (at_hole languages s) (fillings_at s text vs)

-- A whole page, read as bytes alone, without knowing where values begin and end in it, comes to where its path comes, and emits what the
-- path emits, with the marks filled by values with these texts, in order.
pub record FillsPath (symbols : List Symbol) (texts : List (List ℕ)) (page : List ℕ) : Type 0 where
  pub ends : (read Page page start).at ≡ (read_path languages symbols start).at
  pub events : Fills (read_path languages symbols start).emitted (fillings_along symbols texts start.at []) (read Page page start).emitted
