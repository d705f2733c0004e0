-- What the lexer of HTML remembers of the tag that it reads, and of the value in it.
use Rattle.std.specs.Prelude.{◌≡◌, ℕ, Bool, true, false, ◌||◌, bytes_eq, codes, List, [], ◌∷◌, ◌++◌, Option, Some, None, option_map, if◌then◌else◌, IsTrue}
use Rattle.css_lexer.specs.Alike.{StylesAlike}
use Rattle.css_lexer.specs.Elements.{refuses_less_than_cut}
use Rattle.css_lexer.specs.Paths as styles
use Rattle.css_lexer.specs.Paths.{style_after_cut, style_settled, style_emits_settled, style_after_hole, style_behind}
use Rattle.css_lexer.specs.Plain.{StyleLeadsPlain, MayBePlain, tells_plain}
use Rattle.css_lexer.specs.RefusalCodes as style
use Rattle.css_lexer.specs.RefusalCodes.{StyleCutRefusal}
use Rattle.css_lexer.specs.Refusals.{style_refuses, style_refuses_cut}
use Rattle.css_lexer.specs.States.{Style, style_start}
use Rattle.css_lexer.specs.Steps.{feed_style, style_emits, style_ends, read_style, style_reading}
use Rattle.css_lexer.specs.Urls.{urls}
use Rattle.js_lexer.specs.Alike.{ScriptsAlike}
use Rattle.js_lexer.specs.Elements.{script_may_end}
use Rattle.js_lexer.specs.Feeding.{feed_script, script_emits, script_ends, script_reading, read_on}
use Rattle.js_lexer.specs.Holes.{script_after_cut, script_settled, script_emits_settled, script_has_mark, script_after_hole, script_behind, ScriptLeadsPlain}
use Rattle.js_lexer.specs.Plain.{TellsPlain, HasPlainBytes}
use Rattle.js_lexer.specs.Refusals as script
use Rattle.js_lexer.specs.Refusals.{script_refuses, script_refuses_cut}
use Rattle.js_lexer.specs.States.{ScriptState, script_start}
use Rattle.url_lexer.specs.Alike.{UrlsAlike}
use Rattle.url_lexer.specs.Events.{told_scheme}
use Rattle.url_lexer.specs.Holes.{url_after_cut, url_after_hole, url_behind}
use Rattle.url_lexer.specs.Plain.{UrlLeadsPlain, ArePlainBytes}
use Rattle.url_lexer.specs.Refusals.{UrlRefusal, AmbigContext, BadHTML, PartialEscape, url_refuses, url_refuses_cut}
use Rattle.url_lexer.specs.States.{Url, url_start, feed_url}
use Rattle.place_core.specs.page.Events.{LexEvent, Mark, ValueByte, ValueScheme, told_in_style, told_in_script}
use Rattle.place_core.specs.page.Words.{is_script_type}
use Rattle.place_core.specs.declared.code.Code.{Code}
use Rattle.place_core.specs.declared.code.Code.TheVariants as code
use Rattle.place_core.specs.declared.element.Element.{Element}
use Rattle.place_core.specs.declared.element.Element.TheVariants as element
use Rattle.place_core.specs.declared.kind.Kind.{Kind}
use Rattle.place_core.specs.declared.kind.Kind.TheVariants as kind
use Rattle.place_core.specs.declared.tag_of.TagOf.{TagOf}
use Rattle.place_core.specs.declared.tag_of.TagOf.TheVariants as tag

-- a tag that has begun, and whether a `type` has been read in it
pub record Tag : Type 0 where
  pub tag : TagOf
  pub typed : Bool

-- the element of a start tag, by its name in lower case
abbrev pub element_of : List ℕ → Element
element_of name =
    if bytes_eq name (codes "title") then element.Title
    else (if bytes_eq name (codes "textarea") then element.Textarea
    else (if bytes_eq name (codes "style") then element.Style
    else (if bytes_eq name (codes "script") then element.Script
    else element.Other)))

-- the tag that has this name; the first argument says whether it is an end tag
abbrev pub tag_of_name : Bool → List ℕ → TagOf
tag_of_name true name = tag.End
tag_of_name false name = tag.Start (element_of name)

abbrev pub tag_named : Bool → List ℕ → Tag
tag_named ends name = record { tag = tag_of_name ends name; typed = false }

abbrev pub end_tag : Tag
end_tag = record { tag = tag.End; typed = false }

-- the element on which the attributes of a tag stand; those of an end tag are as on any other element
abbrev pub element_on : TagOf → Element
element_on tag.End = element.Other
element_on (tag.Start e) = e

abbrev pub is_start : TagOf → Bool
is_start tag.End = false
is_start (tag.Start e) = true

-- Why the end of a node is refused, how many bytes before it that stands, and how many before it the lexeme begins in which it stands.
pub record CutRefusal : Type 0 where
  pub code : Code
  pub back : ℕ
  pub shown : ℕ

-- A language of values, and of the content of elements: how the bytes of a value are read, with references undone, and those of a content. `start` is
-- its state where a value of a kind, or such a content, begins.
-- - A byte leads to the state `feed` and tells `emits`; in the text of a template it may be refused (`refuses`). Where `refuses_names` says so,
--   a reference by a name that stands for no character is refused there. The end of the value, or of the content, tells `ends`.
-- - The end of a node leads a path to the state `after_cut`, where it is not refused (`refuses_cut`). In the content of an element it may stand behind
--   a `<`: by the state before that, `refuses_less` says whether the `<` may not be cut from what follows, with which it may be an end tag.
-- - The content of an element may be a script (`is_script`): then HTML reads it as script data. And where a text of a template stands in such a state, an end
--   tag may end it (`may_end`); in a page it does so everywhere.
-- - A hole: what is pending back before it is told first (`emits_settled`), which leads to the state `settled`. It has a mark unless nothing of it is
--   told there (`has_mark`). It leads a path to the state `after_hole`, and a page to the state `behind`, by the state before the bytes of the
--   hole and the one after them. `LeadsPlain` says that these bytes, of which the value has such, are plain, and lead from the one to the other.
-- - A page that stands for a path is in a state that is alike (`AreAlike`): so it tells the same of the bytes that follow.
pub record ValueLanguage (B : Type 0) : Type 1 where
  pub start : Kind → B
  pub feed : B → ℕ → B
  pub emits : B → ℕ → List LexEvent → List LexEvent
  pub refuses : B → ℕ → Option Code
  pub refuses_names : B → Bool
  pub ends : B → List LexEvent → List LexEvent
  pub after_cut : B → B
  pub refuses_cut : B → Option Code
  pub refuses_less : B → Option CutRefusal
  pub is_script : B → Bool
  pub may_end : B → Bool
  pub settled : B → B
  pub emits_settled : B → List LexEvent → List LexEvent
  pub has_mark : B → Bool
  pub after_hole : B → B
  pub behind : B → B → B
  pub LeadsPlain : B → List ℕ → B → Type 0
  pub AreAlike : B → B → Type 0

-- A value of which the bytes are told and nothing else is read, by its kind; a URL; a style, with the URLs in it; and a script.
pub data ValueState : Type 0 where
  OfKind : Kind → ValueState
  OfUrl : Url → ValueState
  OfStyle : Style Url → ValueState
  OfScript : ScriptState → ValueState

-- A script begins as a text of it does: in code, where nothing stands before that it could go on with.
abbrev pub value_start : Kind → ValueState
value_start kind.Url = OfUrl url_start
value_start kind.Style = OfStyle style_start
value_start kind.Script = OfScript (script_after_cut script_start)
value_start k = OfKind k

abbrev pub feed_value : ValueState → ℕ → ValueState
feed_value (OfKind k) b = OfKind k
feed_value (OfUrl u) b = OfUrl (feed_url u b)
feed_value (OfStyle s) b = OfStyle (feed_style urls s b)
feed_value (OfScript s) b = OfScript (feed_script s b)

-- a style and a script tell what they read, and not their bytes
abbrev pub emits_state : ValueState → ℕ → List LexEvent → List LexEvent
emits_state (OfKind k) b t = ValueByte b ∷ t
emits_state (OfUrl u) b t = ValueByte b ∷ t
emits_state (OfStyle s) b t = told_in_style (style_emits urls s b []) t
emits_state (OfScript s) b t = told_in_script (script_emits s b []) t

-- the code of what is refused in a URL, in a style, and in a script
abbrev pub refusal_code : UrlRefusal → Code
refusal_code AmbigContext = code.AmbigContext
refusal_code BadHTML = code.BadHTML
refusal_code PartialEscape = code.PartialEscape

abbrev pub style_code : style.RefusalCode → Code
style_code style.AmbigContext = code.AmbigContext
style_code style.BadHTML = code.BadHTML
style_code style.PartialEscape = code.PartialEscape
style_code style.SplitToken = code.SplitToken
style_code style.BadString = code.BadString

abbrev pub script_code : script.Refusal → Code
script_code script.PartialCharset = code.PartialCharset
script_code script.PartialEscape = code.PartialEscape
script_code script.SlashAmbig = code.SlashAmbig
script_code script.JSTemplate = code.JSTemplate
script_code script.SplitToken = code.SplitToken
script_code script.BadString = code.BadString
script_code script.HtmlInScript = code.HtmlInScript

-- A script that is no element's. The byte at hand is the one at which the cause is known; where it stands, `Errors.antt` says.
abbrev pub refuses_in_value : ValueState → ℕ → Option Code
refuses_in_value (OfKind k) b = None
refuses_in_value (OfUrl u) b = option_map refusal_code (url_refuses u b)
refuses_in_value (OfStyle s) b = option_map style_code (style_refuses urls s b)
refuses_in_value (OfScript s) b = option_map (λ e. script_code e.refusal) (script_refuses false s b)

abbrev pub refuses_value_names : ValueState → Bool
refuses_value_names (OfKind k) = false
refuses_value_names (OfUrl u) = true
refuses_value_names (OfStyle s) = true
refuses_value_names (OfScript s) = true

-- the end of a URL tells its scheme, and that of a style or a script what is pending
abbrev pub ends_state : ValueState → List LexEvent → List LexEvent
ends_state (OfKind k) t = t
ends_state (OfUrl u) t = ValueScheme (told_scheme u.free u.scheme) ∷ t
ends_state (OfStyle s) t = told_in_style (style_ends urls s []) t
ends_state (OfScript s) t = told_in_script (script_ends s []) t

abbrev pub value_after_cut : ValueState → ValueState
value_after_cut (OfKind k) = OfKind k
value_after_cut (OfUrl u) = OfUrl (url_after_cut u)
value_after_cut (OfStyle s) = OfStyle (style_after_cut urls s)
value_after_cut (OfScript s) = OfScript (script_after_cut s)

-- in a URL a percent triple that has begun, in a style an escape or such a triple of its URL, and in a script what no node may end in
abbrev pub refuses_value_cut : ValueState → Option Code
refuses_value_cut (OfKind k) = None
refuses_value_cut (OfUrl u) = option_map (λ e. refusal_code e.refusal) (url_refuses_cut u)
refuses_value_cut (OfStyle s) = option_map (λ e. style_code e.code) (style_refuses_cut urls s)
refuses_value_cut (OfScript s) = option_map (λ e. script_code e.refusal) (script_refuses_cut s)

-- A `<` that ends a node in the element: a style says where it may not.
abbrev pub style_cut : StyleCutRefusal → CutRefusal
style_cut e = record { code = style_code e.code; back = e.back; shown = e.shown }

abbrev pub refuses_value_less : ValueState → Option CutRefusal
refuses_value_less (OfKind k) = None
refuses_value_less (OfUrl u) = None
refuses_value_less (OfStyle s) = option_map style_cut (refuses_less_than_cut urls s)
refuses_value_less (OfScript s) = None

-- In a string, a regular expression and a template literal of a template's script an end tag is text.
abbrev pub value_is_script : ValueState → Bool
value_is_script (OfScript s) = true
value_is_script v = false

abbrev pub value_may_end : ValueState → Bool
value_may_end (OfScript s) = script_may_end s
value_may_end v = true

-- where a hole begins, a style or a script tells a `/` that is pending; in a comment of these a hole has no mark
abbrev pub value_settled : ValueState → ValueState
value_settled (OfStyle s) = OfStyle (style_settled s)
value_settled (OfScript s) = OfScript (script_settled s)
value_settled v = v

abbrev pub emits_value_settled : ValueState → List LexEvent → List LexEvent
emits_value_settled (OfStyle s) t = told_in_style (style_emits_settled s []) t
emits_value_settled (OfScript s) t = told_in_script (script_emits_settled s []) t
emits_value_settled v t = t

abbrev pub value_has_mark : ValueState → Bool
value_has_mark (OfStyle s) = styles.has_mark s
value_has_mark (OfScript s) = script_has_mark s
value_has_mark v = true

abbrev pub value_after_hole : ValueState → ValueState
value_after_hole (OfKind k) = OfKind k
value_after_hole (OfUrl u) = OfUrl (url_after_hole u)
value_after_hole (OfStyle s) = OfStyle (style_after_hole urls s)
value_after_hole (OfScript s) = OfScript (script_after_hole s)

abbrev pub value_state_behind : ValueState → ValueState → ValueState
value_state_behind (OfUrl u) (OfUrl w) = OfUrl (url_behind u w)
value_state_behind (OfStyle s) (OfStyle r) = OfStyle (style_behind urls s r)
value_state_behind (OfScript s) (OfScript r) = OfScript (script_behind s r)
value_state_behind before after = after

-- In a style bytes lead to a state behind which the path's is alike, are allowed there, and tell nothing but what is inside one token.
pub record LeadsPlainInStyle (s : Style Url) (bytes : List ℕ) (r : Style Url) : Type 0 where
  pub leads : StyleLeadsPlain urls s r
  pub allowed : MayBePlain urls bytes s
  pub tells : IsTrue (tells_plain s (read_style urls bytes (style_reading s [])).told)

-- In a script, where what was pending has been told: bytes lead to such a state, tell what is plain there, and are written so (`js_lexer`).
pub record LeadsPlainInScript (s : ScriptState) (bytes : List ℕ) (r : ScriptState) : Type 0 where
  pub leads : ScriptLeadsPlain s r
  pub tells : TellsPlain s.at (read_on bytes (script_reading s [])).told
  pub written : HasPlainBytes s.at bytes

-- Of a value that is text all bytes are plain, and of a URL, a style and a script those that `url_lexer`, `css_lexer` and `js_lexer` say. Of the other
-- kinds none are, since no hole may stand there.
abbrev pub LeadsPlainState : ValueState → List ℕ → ValueState → Type 0
LeadsPlainState (OfKind kind.Plain) bytes after = after ≡ OfKind kind.Plain
LeadsPlainState (OfUrl u) bytes (OfUrl w) = UrlLeadsPlain u w × ArePlainBytes u.part bytes
LeadsPlainState (OfStyle s) bytes (OfStyle r) = LeadsPlainInStyle s bytes r
LeadsPlainState (OfScript s) bytes (OfScript r) = LeadsPlainInScript s bytes r
LeadsPlainState before bytes after = ⊥

abbrev pub StatesAlike : ValueState → ValueState → Type 0
StatesAlike (OfKind k) after = after ≡ OfKind k
StatesAlike (OfUrl u) (OfUrl w) = UrlsAlike u w
StatesAlike (OfStyle s) (OfStyle r) = StylesAlike urls s r
StatesAlike (OfScript s) (OfScript r) = ScriptsAlike s r
StatesAlike before after = ⊥

-- the languages that are read so far
abbrev pub languages : ValueLanguage ValueState
languages = record {
  start = value_start;
  feed = feed_value;
  emits = emits_state;
  refuses = refuses_in_value;
  refuses_names = refuses_value_names;
  ends = ends_state;
  after_cut = value_after_cut;
  refuses_cut = refuses_value_cut;
  refuses_less = refuses_value_less;
  is_script = value_is_script;
  may_end = value_may_end;
  settled = value_settled;
  emits_settled = emits_value_settled;
  has_mark = value_has_mark;
  after_hole = value_after_hole;
  behind = value_state_behind;
  LeadsPlain = LeadsPlainState;
  AreAlike = StatesAlike;
}

-- How the value of an attribute is read: in its language; or, where it decides how the content of the element is read, as bytes that are
-- kept, with the kind that says what they decide.
pub data Value (B : Type 0) : Type 0 where
  ValueOf : B → Value B
  Deciding : Kind → List ℕ → Value B

abbrev pub attribute_value_of : {B : Type 0} → ValueLanguage B → Kind → Value B
attribute_value_of x kind.ScriptType = Deciding kind.ScriptType []
attribute_value_of x k = ValueOf (x.start k)

-- How bytes are read one by one: where a byte leads, why it is refused, and whether a reference by a name that stands for no character is. The
-- value of one path is read so, and the values of all paths at a place together.
pub record Feeding (S : Type 0) : Type 0 where
  pub feed : S → ℕ → S
  pub refuses : S → ℕ → Option Code
  pub refuses_names : S → Bool

abbrev pub feed_bytes : {S : Type 0} → Feeding S → S → List ℕ → S
feed_bytes m s [] = s
feed_bytes m s (b ∷ bs) = feed_bytes m (m.feed s b) bs

-- the content of an element, which is in a language: the state after bytes, and what they tell
abbrev pub language_feeding : {B : Type 0} → ValueLanguage B → Feeding B
language_feeding x = record { feed = x.feed; refuses = x.refuses; refuses_names = x.refuses_names }

abbrev pub fed_state : {B : Type 0} → ValueLanguage B → B → List ℕ → B
fed_state x v bytes = feed_bytes (language_feeding x) v bytes

abbrev pub emits_fed : {B : Type 0} → ValueLanguage B → B → List ℕ → List LexEvent → List LexEvent
emits_fed x v [] t = t
emits_fed x v (b ∷ bs) t = emits_fed x (x.feed v b) bs (x.emits v b t)

abbrev pub with_byte : {B : Type 0} → ValueLanguage B → Value B → ℕ → Value B
with_byte x (ValueOf v) b = ValueOf (x.feed v b)
with_byte x (Deciding k before) b = Deciding k (before ++ b ∷ [])

abbrev pub with_bytes : {B : Type 0} → ValueLanguage B → Value B → List ℕ → Value B
with_bytes x v [] = v
with_bytes x v (b ∷ bs) = with_bytes x (with_byte x v b) bs

-- what bytes of a value tell, and what its end does
abbrev pub emitted_byte : {B : Type 0} → ValueLanguage B → Value B → ℕ → List LexEvent → List LexEvent
emitted_byte x (ValueOf v) b t = x.emits v b t
emitted_byte x (Deciding k before) b t = ValueByte b ∷ t

abbrev pub emitted_bytes : {B : Type 0} → ValueLanguage B → Value B → List ℕ → List LexEvent → List LexEvent
emitted_bytes x v [] t = t
emitted_bytes x v (b ∷ bs) t = emitted_bytes x (with_byte x v b) bs (emitted_byte x v b t)

-- what refuses a byte of a value, a name in it, and the end of a node
abbrev pub refuses_byte : {B : Type 0} → ValueLanguage B → Value B → ℕ → Option Code
refuses_byte x (ValueOf v) b = x.refuses v b
refuses_byte x (Deciding k before) b = None

abbrev pub refuses_names_in : {B : Type 0} → ValueLanguage B → Value B → Bool
refuses_names_in x (ValueOf v) = x.refuses_names v
refuses_names_in x (Deciding k before) = false

abbrev pub feeding : {B : Type 0} → ValueLanguage B → Feeding (Value B)
feeding x = record { feed = with_byte x; refuses = refuses_byte x; refuses_names = refuses_names_in x }

abbrev pub refuses_cut_of : {B : Type 0} → ValueLanguage B → Value B → Option Code
refuses_cut_of x (ValueOf v) = x.refuses_cut v
refuses_cut_of x (Deciding k before) = None

-- a value after the end of a node, and after a hole on a path
abbrev pub cut_value : {B : Type 0} → ValueLanguage B → Value B → Value B
cut_value x (ValueOf v) = ValueOf (x.after_cut v)
cut_value x (Deciding k before) = Deciding k before

abbrev pub holed_value : {B : Type 0} → ValueLanguage B → Value B → Value B
holed_value x (ValueOf v) = ValueOf (x.after_hole v)
holed_value x (Deciding k before) = Deciding k before

-- a value where a hole begins, and what is told there
abbrev pub settled_value : {B : Type 0} → ValueLanguage B → Value B → Value B
settled_value x (ValueOf v) = ValueOf (x.settled v)
settled_value x (Deciding k before) = Deciding k before

abbrev pub emitted_settled : {B : Type 0} → ValueLanguage B → Value B → List LexEvent → List LexEvent
emitted_settled x (ValueOf v) t = x.emits_settled v t
emitted_settled x (Deciding k before) t = t

-- what a hole in a value tells: its mark, where it has one, after what is pending
abbrev pub has_mark_in : {B : Type 0} → ValueLanguage B → Value B → Bool
has_mark_in x (ValueOf v) = x.has_mark v
has_mark_in x (Deciding k before) = true

abbrev pub mark_if : Bool → List LexEvent → List LexEvent
mark_if true t = Mark ∷ t
mark_if false t = t

abbrev pub emitted_hole : {B : Type 0} → ValueLanguage B → Value B → List LexEvent → List LexEvent
emitted_hole x v t = mark_if (has_mark_in x v) (emitted_settled x v t)

-- a value of a page after the bytes of a hole, by what it was before them and what they have made of it
abbrev pub value_behind : {B : Type 0} → ValueLanguage B → Option (Value B) → Value B → Value B
value_behind x (Some (ValueOf v)) (ValueOf w) = ValueOf (x.behind v w)
value_behind x before after = after

abbrev pub emitted_end : {B : Type 0} → ValueLanguage B → Value B → List LexEvent → List LexEvent
emitted_end x (ValueOf v) t = x.ends v t
emitted_end x (Deciding k before) t = t

-- What the value of a `type` decides: the first one of a script whose type is no script's makes it a data block. It is read on a start tag
-- alone.
abbrev pub tag_by_type : TagOf → Bool → TagOf
tag_by_type (tag.Start element.Script) false = tag.Start element.DataBlock
tag_by_type t is_script = t

abbrev pub typed_by : Tag → List ℕ → Tag
typed_by t type = record { tag = tag_by_type t.tag (t.typed || is_script_type type); typed = is_start t.tag || t.typed }

-- the tag after a value of this kind, after any value, and after an attribute without a value, which is read as the empty one
abbrev pub decided_by : Kind → Tag → List ℕ → Tag
decided_by kind.ScriptType t value = typed_by t value
decided_by k t value = t

abbrev pub tag_with_value : {B : Type 0} → Tag → Value B → Tag
tag_with_value t (ValueOf v) = t
tag_with_value t (Deciding k value) = decided_by k t value

abbrev pub without_value : Tag → Kind → Tag
without_value t k = decided_by k t []

-- whether an attribute of this kind is a second `type`, which decides nothing and is refused
abbrev pub is_second_type : Bool → Kind → Bool
is_second_type typed kind.ScriptType = typed
is_second_type typed k = false

-- how a value is written: between quotation marks, between apostrophes, or without
pub data Quoting : Type 0 where
  DoubleQuoted : Quoting
  SingleQuoted : Quoting
  Unquoted : Quoting
