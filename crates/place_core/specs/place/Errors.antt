-- Where a text of a template is refused, and by which code: the conditions that stand on the places of paths, byte by byte, at the end of a
-- node and at a hole. The checks of a byte have one order, whether one path stands at a place or several do.
use Rattle.std.specs.Prelude.{◌≡◌, ℕ, zero, suc, ◌+◌, ◌-◌, ◌==◌, nat_lt, bytes_eq, encode_utf8, Bool, true, false, ◌&&◌, ◌||◌, codes, List, [], ◌∷◌, ◌++◌, length, Option, Some, None, option_map, if◌then◌else◌}
use Rattle.js_lexer.specs.Elements.{script_may_end}
use Rattle.js_lexer.specs.Feeding.{feed_script}
use Rattle.js_lexer.specs.Holes.{script_after_cut}
use Rattle.js_lexer.specs.Refusals as script
use Rattle.js_lexer.specs.Refusals.{Cause, refuses_end, script_refuses, script_refuses_cut}
use Rattle.js_lexer.specs.States.{ScriptState, script_start}
use Rattle.place_core.specs.page.Classes.{Class, White, ExclamationMark, QuotationMark, Apostrophe, HyphenMinus, Solidus, LessThan, EqualsSign, GreaterThan, GraveAccent, Letter, is_equals_sign, class_of}
use Rattle.place_core.specs.page.Contents.{ScriptStep, Reads, EndsContent, script_step, is_name_of, may_be_name_of, pending_bytes}
use Rattle.place_core.specs.page.Html.{next, ends_value}
use Rattle.place_core.specs.page.Paths.{at_cut}
use Rattle.place_core.specs.page.References.{Form, Named, Reference, Closed, Open, ReferenceStep, Grows, Closes, Breaks, turn, names, named_in, replacement, meaning, flushed, plain_bytes, settled, as_it_stands}
use Rattle.place_core.specs.place.LastLexeme.{last_lexeme_start, language_reference}
use Rattle.place_core.specs.place.ScriptParts.{script_js_before}
use Rattle.place_core.specs.place.StatePlaces.{placed, value_spot, value_body_before, tag_spot, only_name, only_before, only_inside, only_after, quotes_at}
use Rattle.place_core.specs.page.States.{Template, LexState, Text, TagOpen, EndTagOpen, DeclarationOpen, InComment, Broken, CommentState, BogusComment, InDoctype, TagName, WholeTagName, BeforeAttributeName, AttributeName, WholeAttributeName, AfterAttributeName, BeforeAttributeValue, AttributeValue, AfterAttributeValue, SelfClosingStartTag, Characters, Bytes, InLanguage, Pending, Nothing, PendingLess, LessAtCut, PendingName, PendingBang, PendingBangDash, PendingOpening, InContent}
use Rattle.place_core.specs.page.Tags.{Tag, is_second_type, Value, attribute_value_of, ValueOf, Deciding, ValueLanguage, CutRefusal, with_bytes, Feeding, feeding, language_feeding, feed_bytes, fed_state, refuses_cut_of, tag_with_value, ValueState, OfScript, languages, script_code, tag_of_name, element_on}
use Rattle.place_core.specs.page.Words.{kind_of}
use Rattle.place_core.specs.declared.bare.Bare.{Bare}
use Rattle.place_core.specs.declared.body.Body.{Body}
use Rattle.place_core.specs.declared.body.Body.TheVariants as body
use Rattle.place_core.specs.declared.code.Code.{Code}
use Rattle.place_core.specs.declared.code.Code.TheVariants as code
use Rattle.place_core.specs.declared.css.Css.{Css}
use Rattle.place_core.specs.declared.css.Css.TheVariants as css
use Rattle.place_core.specs.declared.element.Element.{Element}
use Rattle.place_core.specs.declared.kind.Kind.{Kind}
use Rattle.place_core.specs.declared.kind.Kind.TheVariants as kind
use Rattle.place_core.specs.declared.place.Place.{Place}
use Rattle.place_core.specs.declared.place.Place.TheVariants as place
use Rattle.place_core.specs.declared.quotes.Quotes.{Quotes}
use Rattle.place_core.specs.declared.quotes.Quotes.TheVariants as quotes
use Rattle.place_core.specs.declared.step_err.StepErr.{StepErr}
use Rattle.place_core.specs.declared.tag_of.TagOf.{TagOf}
use Rattle.place_core.specs.declared.tag_place.TagPlace.{TagPlace}
use Rattle.place_core.specs.declared.value_place.ValuePlace.{ValuePlace}

abbrev pub body_error : Body → Option Code
body_error body.Plain = None
body_error body.NoHole = None
body_error (body.Url parts) = None
body_error (body.Js j) = None
body_error (body.Css c) = None

-- A byte in a tag, by the spots at which paths stand. An equals sign begins a value after a name alone. A quotation mark, an apostrophe or a `<`
-- is part of no name. A byte that begins a name goes on with none that has ended.
abbrev pub equals_error : Bool → Bool → Option Code
equals_error true before = Some code.SplitToken
equals_error false true = Some code.BadHTML
equals_error false false = None

abbrev pub tag_error : TagPlace → Class → Option Code
tag_error t White = None
tag_error t Solidus = None
tag_error t GreaterThan = None
tag_error t EqualsSign = equals_error t.spots.name t.spots.before
tag_error t QuotationMark = Some (if t.spots.name then code.SplitToken else code.BadHTML)
tag_error t Apostrophe = Some (if t.spots.name then code.SplitToken else code.BadHTML)
tag_error t LessThan = Some (if t.spots.name then code.SplitToken else code.BadHTML)
tag_error t c = if t.spots.name || t.spots.inside then Some code.SplitToken else None

-- A byte in a value without quotes, or before one: white space ends the one and does nothing to the other, and a quotation mark is part of
-- the one and opens the other.
abbrev pub bare_error : TagOf → Bare → Class → Option Code
bare_error t b White = if b.uq && b.unbegun then Some code.AmbigContext else None
bare_error t b QuotationMark = if b.uq then Some code.BadHTML else None
bare_error t b Apostrophe = if b.uq then Some code.BadHTML else None
bare_error t b LessThan = Some code.BadHTML
bare_error t b EqualsSign = Some code.BadHTML
bare_error t b GraveAccent = Some code.BadHTML
bare_error t b c = None

abbrev pub quotes_error : TagOf → Quotes → Class → Option Code
quotes_error t quotes.Dq c = None
quotes_error t quotes.Sq c = None
quotes_error t (quotes.Bare b) c = bare_error t b c

abbrev pub first_error : Option Code → Option Code → Option Code
first_error (Some e) o = Some e
first_error None o = o

-- a byte in a value, but for what its language refuses
abbrev pub value_error : ValuePlace → Class → Option Code
value_error v c = first_error (body_error v.body) (quotes_error v.tag v.quotes c)

-- Where a node ended in what may have been the end of a comment, a byte that would go on with it.
abbrev pub comment_error : Bool → Class → Option Code
comment_error true HyphenMinus = Some code.SplitToken
comment_error true ExclamationMark = Some code.SplitToken
comment_error true GreaterThan = Some code.SplitToken
comment_error dash c = None

-- Where a node ended in `<` in a data block, a byte that would go on with it.
abbrev pub block_error : Bool → Class → Option Code
block_error true Solidus = Some code.SplitToken
block_error true ExclamationMark = Some code.SplitToken
block_error lt c = None

-- a byte at a place, but for what the language of a value or an element refuses
abbrev pub place_error : Place → Class → Option Code
place_error place.Text c = None
place_error place.Doctype c = None
place_error (place.Comment dash) c = comment_error dash c
place_error (place.Rcdata e) c = None
place_error (place.Tag t) c = tag_error t c
place_error (place.Value v) c = value_error v c
place_error (place.Script js) c = None
place_error (place.Style s) c = None
place_error (place.Block lt) c = block_error lt c

-- A cause stands at the byte at hand, or that many bytes of the text before it (`back`). The place that is shown for it is the one before the
-- lexeme in which it stands, which begins that many bytes before the one at hand (`shown`).
pub record PathCause : Type 0 where
  pub code : Code
  pub back : ℕ
  pub shown : ℕ

abbrev pub cause_back : ℕ → Option Code → Option PathCause
cause_back back None = None
cause_back back (Some e) = Some (record { code = e; back = back; shown = back })

abbrev pub at_hand : Option Code → Option PathCause
at_hand o = cause_back 0 o

abbrev pub first_cause : Option PathCause → Option PathCause → Option PathCause
first_cause (Some e) o = Some e
first_cause None o = o

-- A second `type` of a script stands at its first byte, and is seen where its name ends.
abbrev pub unless_second : Bool → ℕ → Option Code → Option PathCause
unless_second true len o = Some (record { code = code.BadHTML; back = len; shown = len })
unless_second false len o = at_hand o

-- In a data block, by what is pending back before the byte: the third byte after the `<` of a `<!--` is its last one.
abbrev pub block_byte_error : Pending → Class → Option PathCause
block_byte_error LessAtCut c = at_hand (block_error true c)
block_byte_error PendingBangDash HyphenMinus = cause_back 3 (Some code.HtmlInScript)
block_byte_error h c = None

-- A node that ends in a data block in what its end tag, or a `<!--`, begins with.
abbrev pub block_cut_error : Pending → Option PathCause
block_cut_error (PendingName letters) = Some (record { code = code.SplitToken; back = 0; shown = length letters + 2 })
block_cut_error PendingBang = Some (record { code = code.SplitToken; back = 0; shown = 2 })
block_cut_error PendingBangDash = Some (record { code = code.SplitToken; back = 0; shown = 3 })
block_cut_error Nothing = None
block_cut_error PendingLess = None
block_cut_error LessAtCut = None
block_cut_error (PendingOpening letters) = None

-- a byte within a name of a tag, and of an attribute, of which that many bytes have been read
abbrev pub tag_name_error : TagOf → Class → Option Code
tag_name_error t QuotationMark = Some code.BadHTML
tag_name_error t Apostrophe = Some code.BadHTML
tag_name_error t LessThan = Some code.BadHTML
tag_name_error t c = None

abbrev pub attribute_name_error : TagOf → Bool → Kind → ℕ → Class → Option PathCause
attribute_name_error t typed k len White = unless_second (is_second_type typed k) len None
attribute_name_error t typed k len Solidus = unless_second (is_second_type typed k) len None
attribute_name_error t typed k len GreaterThan = unless_second (is_second_type typed k) len None
attribute_name_error t typed k len EqualsSign = unless_second (is_second_type typed k) len None
attribute_name_error t typed k len QuotationMark = at_hand (Some code.BadHTML)
attribute_name_error t typed k len Apostrophe = at_hand (Some code.BadHTML)
attribute_name_error t typed k len LessThan = at_hand (Some code.BadHTML)
attribute_name_error t typed k len c = None

-- In a value: what its language refuses of the bytes that it is fed. The bytes of a reference that is written as a character stand at its `&`; those
-- of one that is text as it stands (`written`) stand each at its own place.
abbrev pub fed_error : {S : Type 0} → Feeding S → S → List ℕ → Bool → ℕ → Option PathCause
fed_error m s [] written back = None
fed_error m s (b ∷ bs) written back =
    first_cause (cause_back back (m.refuses s b)) (fed_error m (m.feed s b) bs written (if written then back - 1 else back))

unfoldable pub is_written : Bool → Form → List ℕ → Bool
is_written equals f bytes = bytes_eq (flushed true equals f bytes) (38 ∷ bytes)

abbrev pub flushed_error : {S : Type 0} → Feeding S → S → Bool → Form → List ℕ → Option PathCause
flushed_error m s equals f bytes = fed_error m s (flushed true equals f bytes) (is_written equals f bytes) (length bytes + 1)

-- A reference by a name that stands for no character of the profile is refused at its `&`, where what it stands for matters.
unfoldable pub is_unknown_name : Form → List ℕ → Bool
is_unknown_name Named bytes = named_in names bytes == replacement
is_unknown_name f bytes = false

abbrev pub name_error : Bool → ℕ → Option PathCause
name_error true back = cause_back back (Some code.BadHTML)
name_error false back = None

abbrev pub turned_error : {S : Type 0} → Feeding S → S → ReferenceStep → Form → List ℕ → Class → ℕ → Option PathCause
turned_error m s (Grows g) f bytes c b = None
turned_error m s Closes f bytes c b =
    first_cause (name_error (m.refuses_names s && is_unknown_name f bytes) (length bytes + 1))
    (fed_error m s (encode_utf8 (meaning f bytes)) false (length bytes + 1))
turned_error m s Breaks f bytes c b =
    first_cause (flushed_error m s (is_equals_sign c) f bytes) (fed_error m (feed_bytes m s (flushed true (is_equals_sign c) f bytes)) (plain_bytes c b) false 0)

-- the first argument says whether the byte ends the value
abbrev pub language_error : {S : Type 0} → Feeding S → Bool → S → Reference → Class → ℕ → Option PathCause
language_error m true s Closed c b = None
language_error m true s (Open f bytes) c b = flushed_error m s false f bytes
language_error m false s Closed c b = fed_error m s (plain_bytes c b) false 0
language_error m false s (Open f bytes) c b = turned_error m s (turn c f) f bytes c b

-- where a value is to begin, the byte that begins it without quotes
abbrev pub first_byte_error : {S : Type 0} → Feeding S → S → Class → ℕ → Option PathCause
first_byte_error m s White b = None
first_byte_error m s QuotationMark b = None
first_byte_error m s Apostrophe b = None
first_byte_error m s GreaterThan b = None
first_byte_error m s c b = fed_error m s (plain_bytes c b) false 0

-- In the content of an element that is read by a language: what it refuses of the pending bytes that come to nothing at a byte, each at its own
-- place, and then of the byte at hand. A `<` is not read yet, but pending.
abbrev pub loose_byte_error : {S : Type 0} → Feeding S → S → Class → ℕ → Option Code
loose_byte_error m s LessThan b = None
loose_byte_error m s c b = m.refuses s b

abbrev pub pending_error : {S : Type 0} → Feeding S → S → List ℕ → Option PathCause
pending_error m s bytes = fed_error m s bytes true (length bytes)

abbrev pub released_error : {S : Type 0} → Feeding S → S → List ℕ → Class → ℕ → Option PathCause
released_error m s bytes c b = first_cause (pending_error m s bytes) (at_hand (loose_byte_error m (feed_bytes m s bytes) c b))

-- after `<`, and after `</` and letters; of what the end tag goes on with, and of its end, nothing is refused
abbrev pub less_error : {S : Type 0} → Feeding S → S → Class → ℕ → Option PathCause
less_error m s Solidus b = None
less_error m s c b = released_error m s (codes "<") c b

abbrev pub end_name_error : {S : Type 0} → Feeding S → S → (grows whole : Bool) → Class → ℕ → List ℕ → Option PathCause
end_name_error m s true whole (Letter l) b letters = None
end_name_error m s grows true White b letters = None
end_name_error m s grows true Solidus b letters = None
end_name_error m s grows true GreaterThan b letters = None
end_name_error m s grows whole c b letters = released_error m s (codes "</" ++ letters) c b

abbrev pub content_byte_error : {S : Type 0} → Feeding S → Element → S → Pending → Class → ℕ → Option PathCause
content_byte_error m e s Nothing c b = at_hand (loose_byte_error m s c b)
content_byte_error m e s PendingLess c b = less_error m s c b
content_byte_error m e s LessAtCut c b = released_error m s (codes "<") c b
content_byte_error m e s (PendingName letters) c b = end_name_error m s (may_be_name_of e (letters ++ b ∷ [])) (is_name_of e letters) c b letters
content_byte_error m e s PendingBang c b = released_error m s (codes "<!") c b
content_byte_error m e s PendingBangDash c b = released_error m s (codes "<!-") c b
content_byte_error m e s (PendingOpening letters) c b = released_error m s (codes "<" ++ letters) c b

-- The end of a node there: the pending bytes, each at its own place; then a `<` that the language may not cut from what follows (`refuses_less`, by
-- the state before it), and more of the end tag.
abbrev pub split_error : {S : Type 0} → (refuses_less : S → Option PathCause) → S → Pending → Option PathCause
split_error refuses_less s PendingLess = refuses_less s
split_error refuses_less s h = block_cut_error h

abbrev pub content_end_cut_error : {S : Type 0} → Feeding S → (refuses_less : S → Option PathCause) → S → Pending → Option PathCause
content_end_cut_error m refuses_less s h = first_cause (pending_error m s (pending_bytes h)) (split_error refuses_less s h)

abbrev pub cut_cause : CutRefusal → PathCause
cut_cause e = record { code = e.code; back = e.back; shown = e.shown }

-- How a script is read, as `Feeding` is of any language: the causes of what is refused at a byte, where the node ends in it, and where it ends itself.
-- `may_end` says whether an end tag may end it. The script of one path is read so, and the scripts of all paths at a place together.
pub record ScriptFeeding (S : Type 0) : Type 0 where
  pub feed : S → ℕ → S
  pub refuses : S → ℕ → Option Cause
  pub refuses_cut : S → Option Cause
  pub refuses_end : S → Option Cause
  pub may_end : S → Bool

-- of one path: `element` says whether it is that of an element
abbrev pub script_reading_in : (element : Bool) → ScriptFeeding ScriptState
script_reading_in element = record {
  feed = feed_script;
  refuses = script_refuses element;
  refuses_cut = script_refuses_cut;
  refuses_end = refuses_end;
  may_end = script_may_end;
}

abbrev pub one_script : ScriptFeeding ScriptState
one_script = script_reading_in false

abbrev pub element_script : ScriptFeeding ScriptState
element_script = script_reading_in true

-- In an element each byte stands at its own place: a cause that is known at a byte which stands so many bytes before the one at hand. So it is of bytes
-- that the script reads at once, of the last of which that is said.
abbrev pub script_cause_back : ℕ → Option Cause → Option PathCause
script_cause_back n None = None
script_cause_back n (Some e) = Some (record { code = script_code e.refusal; back = e.back + n; shown = e.shown + n })

abbrev pub script_read : {S : Type 0} → ScriptFeeding S → S → List ℕ → S
script_read m s [] = s
script_read m s (b ∷ bs) = script_read m (m.feed s b) bs

abbrev pub read_error : {S : Type 0} → ScriptFeeding S → S → List ℕ → ℕ → Option PathCause
read_error m s [] n = None
read_error m s (b ∷ bs) n = first_cause (script_cause_back (length bs + n) (m.refuses s b)) (read_error m (m.feed s b) bs n)

-- A `<` that is held back is asked at once whether the script refuses it: behind a slash of which it is not known what it is, it does, whatever comes behind
-- the `<`. So nothing is pending behind such a slash.
abbrev pub step_asks : List ℕ → Pending → List ℕ
step_asks bytes PendingLess = bytes ++ codes "<"
step_asks bytes h = bytes

-- where the last of these bytes stands, before the byte at hand
abbrev pub asks_back : Pending → ℕ
asks_back PendingLess = 0
asks_back h = length (pending_bytes h)

-- The script that an end tag ends is judged as that of a value is.
abbrev pub step_error : {S : Type 0} → ScriptFeeding S → S → ScriptStep → Option PathCause
step_error m s (Reads bytes h) = read_error m s (step_asks bytes h) (asks_back h)
step_error m s (EndsContent letters) = script_cause_back (length letters + 2) (m.refuses_end s)

abbrev pub script_content_error : {S : Type 0} → ScriptFeeding S → Element → S → Pending → Class → ℕ → Option PathCause
script_content_error m e s h c b = step_error m s (script_step (m.may_end s) e h c b)

-- at the end of a node what is pending is read
abbrev pub script_content_cut_error : {S : Type 0} → ScriptFeeding S → S → Pending → Option PathCause
script_content_cut_error m s h =
    first_cause (read_error m s (pending_bytes h) 1) (script_cause_back 0 (m.refuses_cut (script_read m s (pending_bytes h))))

-- the content of an element that a language reads, on one path
abbrev pub language_content_error : Element → ValueState → Pending → Class → ℕ → Option PathCause
language_content_error e (OfScript s) h c b = script_content_error element_script e s h c b
language_content_error e v h c b = content_byte_error (language_feeding languages) e v h c b

abbrev pub language_cut_error : ValueState → Pending → Option PathCause
language_cut_error (OfScript s) h = script_content_cut_error element_script s h
language_cut_error v h = content_end_cut_error (language_feeding languages) (λ s. option_map cut_cause (languages.refuses_less s)) v h

-- the tag where a value ends
abbrev pub ending_tag : {B : Type 0} → ValueLanguage B → Tag → Value B → Reference → Tag
ending_tag x t v r = tag_with_value t (with_bytes x v (settled true r))

-- What stands on one path, in the state that it has come to.
abbrev pub is_broken : CommentState → Bool
is_broken Broken = true
is_broken s = false

abbrev pub byte_error : LexState ValueState → Class → ℕ → Option PathCause
byte_error (Text r) c b = None
byte_error (TagOpen r) c b = None
byte_error (EndTagOpen r) c b = None
byte_error (DeclarationOpen r pending) c b = None
byte_error (InComment s) c b = at_hand (comment_error (is_broken s) c)
byte_error BogusComment c b = None
byte_error InDoctype c b = None
byte_error (TagName ends name) c b = at_hand (tag_name_error (tag_of_name ends name) c)
byte_error (WholeTagName t) c b = at_hand (tag_error (tag_spot t only_name None) c)
byte_error (BeforeAttributeName t) c b = at_hand (tag_error (tag_spot t only_before None) c)
byte_error (AttributeName t name) c b = attribute_name_error t.tag t.typed (kind_of (element_on t.tag) name) (length name) c
byte_error (WholeAttributeName t k) c b = at_hand (tag_error (tag_spot t only_inside (Some k)) c)
byte_error (AfterAttributeName t k) c b = at_hand (tag_error (tag_spot t only_after (Some k)) c)
byte_error (BeforeAttributeValue t k) c b =
    first_cause (first_byte_error (feeding languages) (attribute_value_of languages k) c b) (at_hand (bare_error t.tag (record { uq = false; unbegun = true }) c))
byte_error (AttributeValue q t v r) c b =
    first_cause (language_error (feeding languages) (ends_value q c) v r c b) (at_hand (quotes_error (ending_tag languages t v r).tag (quotes_at q) c))
byte_error (AfterAttributeValue t) c b = at_hand (tag_error (tag_spot t only_before None) c)
byte_error (SelfClosingStartTag t) c b = at_hand (tag_error (tag_spot t only_before None) c)
byte_error (InContent e (Characters r) h) c b = None
byte_error (InContent e Bytes h) c b = block_byte_error h c
byte_error (InContent e (InLanguage v) h) c b = language_content_error e v h c b

-- A node that ends: a second `type`, the value of a type, and in a data block what its end tag begins with.
abbrev pub begun_cut_error : Kind → Option Code
begun_cut_error kind.Plain = None
begun_cut_error kind.NoHole = None
begun_cut_error kind.Url = None
begun_cut_error kind.Script = None
begun_cut_error kind.Style = None
begun_cut_error kind.ScriptType = Some code.BadHTML

abbrev pub cut_error : LexState ValueState → Option PathCause
cut_error (Text r) = None
cut_error (TagOpen r) = None
cut_error (EndTagOpen r) = None
cut_error (DeclarationOpen r pending) = None
cut_error (InComment s) = None
cut_error BogusComment = None
cut_error InDoctype = None
cut_error (TagName ends name) = None
cut_error (WholeTagName t) = None
cut_error (BeforeAttributeName t) = None
cut_error (AttributeName t name) = unless_second (is_second_type t.typed (kind_of (element_on t.tag) name)) (length name) None
cut_error (WholeAttributeName t k) = None
cut_error (AfterAttributeName t k) = None
cut_error (BeforeAttributeValue t k) = at_hand (begun_cut_error k)
cut_error (AttributeValue q t (ValueOf v) r) = fed_error (feeding languages) (ValueOf v) (as_it_stands r) true (length (as_it_stands r))
cut_error (AttributeValue q t (Deciding k before) r) = at_hand (Some code.BadHTML)
cut_error (AfterAttributeValue t) = None
cut_error (SelfClosingStartTag t) = None
cut_error (InContent e (Characters r) h) = None
cut_error (InContent e Bytes h) = block_cut_error h
cut_error (InContent e (InLanguage v) h) = language_cut_error v h

-- What the language of a value or a content refuses at the end of a node, as a lexeme that has begun.
abbrev pub lexeme_error : LexState ValueState → Option Code
lexeme_error (AttributeValue q t v r) = refuses_cut_of languages (with_bytes languages v (as_it_stands r))
lexeme_error (InContent e (InLanguage v) h) = languages.refuses_cut (fed_state languages v (pending_bytes h))
lexeme_error s = None

-- Where a value of data may not stand: in a name, which it would go on with, and where it would decide how the page is read; in a URL behind a
-- scheme that is code. Of paths that stand in several parts of a URL see `ClashesHole` of `PathPairs.antt`.
abbrev pub url_hole_error : Bool → Option Code
url_hole_error true = Some code.BadHTML
url_hole_error false = None

-- in a style, in a value or an element, none behind the URL of a url token
abbrev pub css_hole_error : Css → Option Code
css_hole_error (css.Code x) = None
css_hole_error css.Dq = None
css_hole_error css.Sq = None
css_hole_error css.UrlFresh = None
css_hole_error (css.Url parts) = url_hole_error parts.bad
css_hole_error (css.UrlDq parts) = url_hole_error parts.bad
css_hole_error (css.UrlSq parts) = url_hole_error parts.bad
css_hole_error css.UrlEnd = Some code.BadString
css_hole_error (css.Comment star) = None

abbrev pub body_hole_error : Body → Option Code
body_hole_error body.Plain = None
body_hole_error body.NoHole = Some code.BadHTML
body_hole_error (body.Url parts) = url_hole_error parts.bad
body_hole_error (body.Js js) = None
body_hole_error (body.Css c) = css_hole_error c

abbrev pub hole_error : Place → Option Code
hole_error place.Text = None
hole_error place.Doctype = Some code.BadHTML
hole_error (place.Comment dash) = None
hole_error (place.Rcdata e) = None
hole_error (place.Tag t) = if t.spots.name || t.spots.inside then Some code.SplitToken else None
hole_error (place.Value v) = body_hole_error v.body
hole_error (place.Script js) = None
hole_error (place.Style c) = css_hole_error c
hole_error (place.Block lt) = if lt then Some code.SplitToken else None

-- What is refused of a text, and at which of its bytes; an error of the node's end stands at its length, or before that. And the byte before which
-- the lexeme begins in which it stands.
pub record PathRefusal : Type 0 where
  pub code : Code
  pub at : ℕ
  pub shown : ℕ

abbrev pub first_path_refusal : Option PathRefusal → Option PathRefusal → Option PathRefusal
first_path_refusal (Some e) o = Some e
first_path_refusal None o = o

-- A script counts the bytes that it is fed, with references undone, so of each it is kept where it stands in the text. The bytes that the byte at `k`
-- feeds a value: those of a reference that is written as a character stand at its `&`.
pub record FedByte : Type 0 where
  pub byte : ℕ
  pub place : ℕ

abbrev pub placed_bytes : (written : Bool) → ℕ → List ℕ → List FedByte
placed_bytes written k [] = []
placed_bytes written k (b ∷ bs) = record { byte = b; place = k } ∷ placed_bytes written (if written then k + 1 else k) bs

abbrev pub flushed_places : ℕ → (equals : Bool) → Form → List ℕ → List FedByte
flushed_places k equals f bytes = placed_bytes (is_written equals f bytes) (k - (length bytes + 1)) (flushed true equals f bytes)

abbrev pub turned_places : ℕ → ReferenceStep → Form → List ℕ → Class → ℕ → List FedByte
turned_places k (Grows g) f bytes c b = []
turned_places k Closes f bytes c b = placed_bytes false (k - (length bytes + 1)) (encode_utf8 (meaning f bytes))
turned_places k Breaks f bytes c b = flushed_places k (is_equals_sign c) f bytes ++ placed_bytes false k (plain_bytes c b)

-- the first argument says whether the byte ends the value
abbrev pub fed_places : (ends : Bool) → ℕ → Reference → Class → ℕ → List FedByte
fed_places true k Closed c b = []
fed_places true k (Open f bytes) c b = flushed_places k false f bytes
fed_places false k Closed c b = placed_bytes false k (plain_bytes c b)
fed_places false k (Open f bytes) c b = turned_places k (turn c f) f bytes c b

-- where a value is to begin, the byte that begins it without quotes
abbrev pub first_places : ℕ → Class → ℕ → List FedByte
first_places k White b = []
first_places k QuotationMark b = []
first_places k Apostrophe b = []
first_places k GreaterThan b = []
first_places k c b = placed_bytes false k (plain_bytes c b)

-- at the end of the node, the bytes of a reference that is open there
abbrev pub cut_places : ℕ → Reference → List FedByte
cut_places k r = placed_bytes true (k - length (as_it_stands r)) (as_it_stands r)

-- the places so far, the last one first
abbrev pub places_with : List FedByte → List ℕ → List ℕ
places_with [] before = before
places_with (x ∷ xs) before = places_with xs (x.place ∷ before)

abbrev pub script_fed : {S : Type 0} → ScriptFeeding S → S → List FedByte → S
script_fed m s [] = s
script_fed m s (x ∷ xs) = script_fed m (m.feed s x.byte) xs

-- the place of the byte so many before the last one; of what begins before the text the first one is shown
abbrev pub place_back : ℕ → List ℕ → ℕ
place_back n [] = 0
place_back n (p ∷ []) = p
place_back zero (p ∷ q ∷ ps) = p
place_back (suc n) (p ∷ q ∷ ps) = place_back n (q ∷ ps)

-- What is refused of a script stands in the text where the bytes do that it is told by: at a byte, and at an end, which stands as a byte does.
abbrev pub script_refusal_at : List ℕ → Option Cause → Option PathRefusal
script_refusal_at places None = None
script_refusal_at places (Some e) =
    Some (record { code = script_code e.refusal; at = place_back e.back places; shown = place_back e.shown places })

abbrev pub script_fed_refusal : {S : Type 0} → ScriptFeeding S → List ℕ → S → List FedByte → Option PathRefusal
script_fed_refusal m places s [] = None
script_fed_refusal m places s (x ∷ xs) =
    first_path_refusal (script_refusal_at (x.place ∷ places) (m.refuses s x.byte)) (script_fed_refusal m (x.place ∷ places) (m.feed s x.byte) xs)

-- Where a value ends: a slash after `}` is refused there. Literals that nest too deep are refused where the node ends.
abbrev pub is_told_at_node_end : script.Refusal → Bool
is_told_at_node_end script.JSTemplate = true
is_told_at_node_end r = false

abbrev pub at_value_end : Option Cause → Option Cause
at_value_end None = None
at_value_end (Some e) = if is_told_at_node_end e.refusal then None else Some e

abbrev pub deep_at : List ℕ → Option Cause → Option ℕ
deep_at places None = None
deep_at places (Some e) = if is_told_at_node_end e.refusal then Some (place_back e.shown places) else None

abbrev pub value_end_cause : {S : Type 0} → ScriptFeeding S → (ends : Bool) → S → Option Cause
value_end_cause m true s = m.refuses_end s
value_end_cause m false s = None

-- of the bytes that the byte at `k` feeds the script, and then of its end, if the byte ends the value
abbrev pub script_places_refusal : {S : Type 0} → ScriptFeeding S → (ends : Bool) → ℕ → List ℕ → S → List FedByte → Option PathRefusal
script_places_refusal m ends k places s xs =
    first_path_refusal (script_fed_refusal m places s xs)
    (script_refusal_at (k ∷ places_with xs places) (at_value_end (value_end_cause m ends (script_fed m s xs))))

-- of the end of the node, at `k`, with the bytes of a reference that is open there
abbrev pub script_ending_refusal : {S : Type 0} → ScriptFeeding S → ℕ → List ℕ → S → List FedByte → Option PathRefusal
script_ending_refusal m k places s xs =
    first_path_refusal (script_fed_refusal m places s xs) (script_refusal_at (k ∷ places_with xs places) (m.refuses_cut (script_fed m s xs)))

-- where the value ends in literals that nest too deep, the place before the outermost one
abbrev pub deep_place : {S : Type 0} → ScriptFeeding S → (ends : Bool) → ℕ → List ℕ → S → List FedByte → Option ℕ
deep_place m ends k places s xs = deep_at (k ∷ places_with xs places) (value_end_cause m ends (script_fed m s xs))

-- on one path
abbrev pub script_byte_refusal : ℕ → List ℕ → LexState ValueState → Class → ℕ → Option PathRefusal
script_byte_refusal k places (AttributeValue q t (ValueOf (OfScript s)) r) c b =
    script_places_refusal one_script (ends_value q c) k places s (fed_places (ends_value q c) k r c b)
script_byte_refusal k places (BeforeAttributeValue t kind.Script) c b =
    script_places_refusal one_script false k [] (script_after_cut script_start) (first_places k c b)
script_byte_refusal k places s c b = None

abbrev pub script_cut_refusal : ℕ → List ℕ → LexState ValueState → Option PathRefusal
script_cut_refusal k places (AttributeValue q t (ValueOf (OfScript s)) r) = script_ending_refusal one_script k places s (cut_places k r)
script_cut_refusal k places s = None

-- What is kept of the bytes of a text that have been read, since it says where what is refused later stands: the place of the last `%` or `\`; the
-- places of the bytes that the script of the open value was fed, the last one first; and where a value has ended in literals that nest too deep, the
-- place before the outermost one.
pub record TextRead : Type 0 where
  pub last : ℕ
  pub fed : List ℕ
  pub deep : Option ℕ

abbrev pub nothing_read : TextRead
nothing_read = record { last = 0; fed = []; deep = None }

abbrev pub fed_behind : ℕ → List ℕ → LexState ValueState → Class → ℕ → List ℕ
fed_behind k places (AttributeValue q t (ValueOf (OfScript s)) r) c b = places_with (fed_places (ends_value q c) k r c b) places
fed_behind k places (BeforeAttributeValue t kind.Script) c b = places_with (first_places k c b) []
fed_behind k places s c b = []

abbrev pub or_deep : Option ℕ → Option ℕ → Option ℕ
or_deep (Some shown) o = Some shown
or_deep None o = o

abbrev pub deep_behind : ℕ → List ℕ → LexState ValueState → Class → ℕ → Option ℕ
deep_behind k places (AttributeValue q t (ValueOf (OfScript s)) r) c b =
    deep_place one_script (ends_value q c) k places s (fed_places (ends_value q c) k r c b)
deep_behind k places s c b = None

abbrev pub read_behind : ℕ → TextRead → LexState ValueState → Class → ℕ → TextRead
read_behind k since s c b = record {
  last = last_lexeme_start k since.last (language_reference s) c b;
  fed = fed_behind k since.fed s c b;
  deep = or_deep since.deep (deep_behind k since.fed s c b);
}

abbrev pub standing_at : ℕ → Option PathCause → Option PathRefusal → Option PathRefusal
standing_at k None rest = rest
standing_at k (Some e) rest = Some (record { code = e.code; at = k - e.back; shown = k - e.shown })

-- A script may refuse a byte that stands before the one by which that is known: then it comes first.
abbrev pub before_cause : ℕ → PathRefusal → Option PathCause → PathRefusal
before_cause k x None = x
before_cause k x (Some e) = if nat_lt x.at (k - e.back) then x else record { code = e.code; at = k - e.back; shown = k - e.shown }

abbrev pub unless_in_script : ℕ → Option PathRefusal → Option PathCause → Option PathRefusal → Option PathRefusal
unless_in_script k None o rest = standing_at k o rest
unless_in_script k (Some x) o rest = Some (before_cause k x o)

-- a lexeme that is refused at the end of a text, and where it begins
abbrev pub broken_off : ℕ → ℕ → Option Code → Option PathRefusal
broken_off k since None = None
broken_off k since (Some e) = Some (record { code = e; at = k; shown = since })

-- literals of a value that nest too deep
abbrev pub nests_too_deep : ℕ → Option ℕ → Option PathRefusal
nests_too_deep k None = None
nests_too_deep k (Some shown) = Some (record { code = code.JSTemplate; at = k; shown = shown })

-- of bytes that stand at `k` in their text, where `since` is what is kept of those before
abbrev pub refusal_from : ℕ → TextRead → List ℕ → LexState ValueState → Option PathRefusal
refusal_from k since [] s =
    unless_in_script k (script_cut_refusal k since.fed s) (cut_error s)
    (first_path_refusal (nests_too_deep k since.deep) (broken_off k since.last (lexeme_error s)))
refusal_from k since (b ∷ bs) s =
    unless_in_script k (script_byte_refusal k since.fed s (class_of b) b) (byte_error s (class_of b) b)
    (refusal_from (k + 1) (read_behind k since s (class_of b) b) bs (next languages Template s (class_of b) b))

abbrev pub path_refusal : List ℕ → LexState ValueState → Option PathRefusal
path_refusal bytes s = refusal_from 0 nothing_read bytes s

-- the state that a text leads to, byte by byte, and as a whole node
abbrev pub states : List ℕ → LexState ValueState → LexState ValueState
states [] s = s
states (b ∷ bs) s = states bs (next languages Template s (class_of b) b)

abbrev pub node : List ℕ → LexState ValueState → LexState ValueState
node bytes s = at_cut languages (states bytes s)

-- The place before the bytes that are left of a text, as it is shown: where the text would end there. In a value the reference that stands before
-- them is read with them: it is behind them where the next byte breaks it, and else it has not begun.
abbrev pub value_before : ReferenceStep → Value ValueState → Class → Form → List ℕ → Value ValueState
value_before Breaks v c f bytes = with_bytes languages v (flushed true (is_equals_sign c) f bytes)
value_before step v c f bytes = v

-- So is what may be the end tag of an element whose content a language reads: it is behind it where the next byte is none of it, and else before it.
abbrev pub name_goes_on : (grows whole : Bool) → Class → Bool
name_goes_on grows whole (Letter l) = grows
name_goes_on grows whole White = whole
name_goes_on grows whole Solidus = whole
name_goes_on grows whole GreaterThan = whole
name_goes_on grows whole c = false

abbrev pub unless_it_goes_on : Bool → Pending → Pending
unless_it_goes_on true h = Nothing
unless_it_goes_on false h = h

abbrev pub pending_before : Element → Pending → Class → ℕ → Pending
pending_before e PendingLess Solidus b = Nothing
pending_before e (PendingName letters) c b =
    unless_it_goes_on (name_goes_on (may_be_name_of e (letters ++ b ∷ [])) (is_name_of e letters) c) (PendingName letters)
pending_before e h c b = h

-- in a script it is shown within more lexemes than a node may end in
abbrev pub content_before : Element → ValueState → Pending → Option Place
content_before e (OfScript s) h = option_map place.Script (script_js_before (script_read element_script s (pending_bytes h)))
content_before e v h = placed (at_cut languages (InContent e (InLanguage v) h))

abbrev pub place_before_bytes : LexState ValueState → List ℕ → Option Place
place_before_bytes (AttributeValue q t v (Open f bytes)) (b ∷ bs) =
    value_spot t (quotes_at q) (value_body_before (value_before (turn (class_of b) f) v (class_of b) f bytes))
place_before_bytes (AttributeValue q t v r) bs = value_spot t (quotes_at q) (value_body_before (with_bytes languages v (as_it_stands r)))
place_before_bytes (InContent e (InLanguage v) h) (b ∷ bs) = content_before e v (pending_before e h (class_of b) b)
place_before_bytes (InContent e (InLanguage v) h) [] = content_before e v h
place_before_bytes (AttributeName t name) bs = Some (place.Tag (tag_spot t only_inside (Some (kind_of (element_on t.tag) name))))
place_before_bytes s bs = placed (at_cut languages s)

abbrev pub or_place : Option Place → Option Place → Option Place
or_place (Some p) before = Some p
or_place None before = before

-- The place shown before a byte of a text: the last one that there is up to this byte. In the value of a script's `type` there is none.
abbrev pub shown_from : ℕ → List ℕ → LexState ValueState → Option Place → Option Place
shown_from zero bytes s before = or_place (place_before_bytes s bytes) before
shown_from (suc k) [] s before = or_place (place_before_bytes s []) before
shown_from (suc k) (b ∷ bs) s before =
    shown_from k bs (next languages Template s (class_of b) b) (or_place (place_before_bytes s (b ∷ bs)) before)

abbrev pub shown_place : ℕ → List ℕ → LexState ValueState → Option Place
shown_place k bytes s = shown_from k bytes s None

-- A text is refused on the path that has come to a state: by this code, at this byte, and the place before its lexeme is this one.
pub record PathRefuses (bytes : List ℕ) (s : LexState ValueState) (e : StepErr Place) : Type 0 where
  pub shown : ℕ
  pub stands : path_refusal bytes s ≡ Some (record { code = e.code; at = e.at; shown = shown })
  pub before : shown_place shown bytes s ≡ Some e.before

-- A hole is refused on the path that has come to a state, which is at a place.
pub record RefusesHole (s : LexState ValueState) (e : Code) : Type 0 where
  pub own : Place
  pub stands : placed s ≡ Some own
  pub refused : hole_error own ≡ Some e
