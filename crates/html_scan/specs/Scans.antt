-- How a text is stepped, byte by byte, for all the paths that stand at a place together. Between lexemes they are at a place, which has
-- sets; in a lexeme they are all in the same one. In a lexeme or a reference of a URL or a style, in a script, and in what may be the end tag of the
-- elements `style` and `script`, what is a set all the same is kept: the parts of a URL, what paths of a style or a script ended in before the text, and
-- what a slash would be. What is left out of the states of the lexer is what no place depends on: references in text and in values that are text.
use Rattle.std.specs.Prelude.{ℕ, Bool, true, false, ◌||◌, ◌&&◌, codes, List, [], ◌∷◌, ◌++◌, length, Option, Some, None, option_map, if◌then◌else◌}
use Rattle.std.specs.Char.{to_ascii_lowercase}
use Rattle.place_core.specs.page.Classes.{Class, White, ExclamationMark, QuotationMark, Apostrophe, HyphenMinus, Solidus, LessThan, EqualsSign, GreaterThan, Letter, class_of, is_equals_sign}
use Rattle.place_core.specs.page.Comments.{Declaration, OpensComment, OpensDoctype, Undecided, OpensNothing, declared_by, next_comment, closes_comment}
use Rattle.place_core.specs.page.Contents.{ScriptStep, Reads, EndsContent, script_step, may_be_name_of, is_name_of, pending_bytes}
use Rattle.css_lexer.specs.Classes.{style_class}
use Rattle.css_lexer.specs.Elements.{less_than_cut_escape, less_than_cut_string}
use Rattle.css_lexer.specs.RefusalCodes.{SplitToken, StyleCutRefusal, at_end}
use Rattle.js_lexer.specs.Elements.{script_may_end}
use Rattle.js_lexer.specs.declared.sense.Sense.TheVariants as sense
use Rattle.js_step.specs.KeptWords.{kept_scan}
use Rattle.js_step.specs.ScriptScans.{ScriptScan, script_scan_start, script_shared, script_scan_next, script_scan_error, script_scan_place, script_scan_shown, script_scan_cut_error, script_scan_end_error}
use Rattle.css_step.specs.StyleScans.{StyleScan, ScanCode, ScanWord, ScanSplitEscape, ScanSolidus, ScanLessThan, ScanComment, ScanStarBefore, ScanString, ScanFresh, ScanBareUrl, ScanQuotedUrl, ScanEnded, style_scan_start, style_scan_next, style_scan_error, style_scan_place, style_scan_cut_error, is_style_start}
use Rattle.place_core.specs.place.Errors.{PathCause, PathRefusal, FedByte, ScriptFeeding, fed_places, first_places, cut_places, places_with, script_places_refusal, script_ending_refusal, script_content_error, script_content_cut_error, deep_place, place_error, value_error, fed_error, language_error, first_byte_error, first_cause, at_hand, quotes_error, block_byte_error, block_cut_error, content_byte_error, content_end_cut_error, cut_cause, pending_before, tag_name_error, attribute_name_error, unless_second}
use Rattle.place_core.specs.page.Html.{ends_value}
use Rattle.place_core.specs.page.References.{Form, Reference, Closed, Open, ReferenceStep, Breaks, turn, flushed, next_reference, undone_byte, settled, as_it_stands}
use Rattle.place_core.specs.place.ScriptParts.{script_senses, script_no_tails}
use Rattle.place_core.specs.place.StyleParts.{style_tails}
use Rattle.place_core.specs.place.StatePlaces.{only_name, only_before, only_inside, only_after, unbegun, body_at, quotes_at}
use Rattle.place_core.specs.page.States.{CommentState, Started, Inside, Broken, Pending, Nothing, PendingLess, LessAtCut, PendingName, PendingBang, PendingBangDash, PendingOpening}
use Rattle.place_core.specs.page.Tags.{is_second_type, is_start, tag_of_name, element_on, Value, ValueState, languages, value_start, attribute_value_of, with_bytes, Feeding, feed_bytes, refusal_code, style_code, script_code, style_cut, tag_with_value, Quoting, DoubleQuoted, SingleQuoted, Unquoted}
use Rattle.place_core.specs.page.Words.{kind_of}
use Rattle.place_core.specs.declared.body.Body.{Body}
use Rattle.place_core.specs.declared.body.Body.TheVariants as body
use Rattle.place_core.specs.declared.code.Code.{Code}
use Rattle.place_core.specs.declared.code.Code.TheVariants as code
use Rattle.place_core.specs.declared.css.Css.TheVariants as css
use Rattle.place_core.specs.declared.element.Element.{Element}
use Rattle.place_core.specs.declared.element.Element.TheVariants as element
use Rattle.place_core.specs.declared.js.Js.TheVariants as js
use Rattle.place_core.specs.declared.kind.Kind.{Kind}
use Rattle.place_core.specs.declared.kind.Kind.TheVariants as kind
use Rattle.place_core.specs.declared.parts.Parts.{Parts}
use Rattle.place_core.specs.declared.place.Place.{Place}
use Rattle.place_core.specs.declared.place.Place.TheVariants as place
use Rattle.place_core.specs.declared.quotes.Quotes.{Quotes}
use Rattle.place_core.specs.declared.quotes.Quotes.TheVariants as quotes
use Rattle.place_core.specs.declared.spots.Spots.{Spots}
use Rattle.place_core.specs.declared.tag_of.TagOf.{TagOf}
use Rattle.place_core.specs.declared.tag_of.TagOf.TheVariants as tag
use Rattle.place_core.specs.declared.tag_place.TagPlace.{TagPlace}
use Rattle.place_core.specs.declared.value_place.ValuePlace.{ValuePlace}
use Rattle.url_lexer.specs.Classes.{url_class_of}
use Rattle.url_lexer.specs.Triples.{Triple, NoTriple, AfterPercent, AfterDigit, next_triple}
use Rattle.url_step.specs.PartSets.{parts_next, parts_error}

pub data Scan : Type 0 where
  -- at a place
  At : Place → Scan
  -- in text, after `<`, after `</`, and after `<!` and some bytes
  AfterLess : Scan
  AfterLessSolidus : Scan
  InDeclaration : List ℕ → Scan
  -- in the name of a tag, an end tag or not; in the name of an attribute, of this tag, in which a `type` may have been seen
  InTagName : Bool → List ℕ → Scan
  InAttributeName : TagOf → Bool → List ℕ → Scan
  -- at the beginning of a comment, or in what may be its end
  InCommentEnd : CommentState → Scan
  -- in a value that is a URL, in a percent triple or a reference
  InUrl : ValuePlace → Triple → Reference → Scan
  -- in a value that is a style, in a lexeme of it or a reference: its place, but for the body, which is that of an empty style, since the
  -- scan state of the style has it; and the reference that is open
  InStyle : ValuePlace → StyleScan → Reference → Scan
  -- in a value that is a script, behind a byte of this text or in a reference: likewise
  InScript : ValuePlace → ScriptScan → Reference → Scan
  -- in a title, a textarea or a data block, in what may be its end tag, or in the latter a `<!--`
  InContentEnd : Element → Pending → Scan
  -- in the element `style`, in a lexeme of the style or in what may be its end tag: the scan state of the style before that
  InStyleElement : StyleScan → Pending → Scan
  -- in the element `script`, behind a byte of this text: likewise
  InScriptElement : ScriptScan → Pending → Scan
  -- before the value of the `type` of a script, of this tag; and in it, with what it is so far, and the reference that is open in it
  BeforeType : TagOf → Scan
  InType : TagOf → Quoting → Value ValueState → Reference → Scan

abbrev pub typed_with : TagOf → Bool → Kind → Bool
typed_with t typed kind.ScriptType = is_start t || typed
typed_with t typed k = typed

abbrev pub in_tag : TagOf → Bool → Spots → Option Kind → Scan
in_tag t typed spots k = At (place.Tag (record { tag = t; typed = typed; spots = spots; kind = k }))

-- after the end of a tag
abbrev pub content_scan : TagOf → Scan
content_scan tag.End = At place.Text
content_scan (tag.Start element.Title) = At (place.Rcdata element.Title)
content_scan (tag.Start element.Textarea) = At (place.Rcdata element.Textarea)
content_scan (tag.Start element.Style) = At (place.Style (css.Code (style_tails false false false)))
content_scan (tag.Start element.Script) = At (place.Script (js.Code (script_senses sense.Re) script_no_tails))
content_scan (tag.Start element.DataBlock) = At (place.Block false)
content_scan (tag.Start element.Other) = At place.Text

-- where a value begins after an equals sign
abbrev pub body_scan : TagOf → Bool → Option Body → Scan
body_scan t typed (Some b) = At (place.Value (record { tag = t; typed = typed; quotes = unbegun; body = b }))
body_scan t typed None = At place.Text

abbrev pub value_scan : TagOf → Bool → Option Kind → Scan
value_scan t typed (Some kind.ScriptType) = BeforeType t
value_scan t typed (Some k) = body_scan t typed (body_at (value_start k))
value_scan t typed None = At place.Text

-- in text, and in title, textarea and data blocks
abbrev pub text_scan : Class → Scan
text_scan LessThan = AfterLess
text_scan c = At place.Text

abbrev pub rest_place : Element → Place
rest_place element.DataBlock = place.Block false
rest_place e = place.Rcdata e

abbrev pub content_next : Class → Element → Scan
content_next LessThan e = InContentEnd e PendingLess
content_next c e = At (rest_place e)

-- after `<` there; a data block alone has `<!`
abbrev pub pending_less_next : Class → Element → Scan
pending_less_next Solidus e = InContentEnd e (PendingName [])
pending_less_next ExclamationMark element.DataBlock = InContentEnd element.DataBlock PendingBang
pending_less_next c e = content_next c e

-- in a doctype, and in a comment
abbrev pub doctype_next : Class → Scan
doctype_next GreaterThan = At place.Text
doctype_next c = At place.Doctype

abbrev pub comment_scan : CommentState → Scan
comment_scan Inside = At (place.Comment false)
comment_scan Broken = At (place.Comment true)
comment_scan s = InCommentEnd s

abbrev pub comment_closed : Bool → Scan
comment_closed true = At place.Text
comment_closed false = At (place.Comment false)

abbrev pub comment_next : Class → CommentState → Scan
comment_next GreaterThan s = comment_closed (closes_comment s)
comment_next c s = comment_scan (next_comment s c)

abbrev pub comment_state : Bool → CommentState
comment_state true = Broken
comment_state false = Inside

-- in a tag, and in a value
abbrev pub after_white : Spots → Spots
after_white s = record { name = false; before = s.name || s.before; inside = false; after = s.inside || s.after }

abbrev pub tag_next : TagPlace → Class → ℕ → Scan
tag_next t White b = in_tag t.tag t.typed (after_white t.spots) t.kind
tag_next t Solidus b = in_tag t.tag t.typed only_before None
tag_next t GreaterThan b = content_scan t.tag
tag_next t EqualsSign b = value_scan t.tag t.typed t.kind
tag_next t c b = InAttributeName t.tag t.typed (to_ascii_lowercase b ∷ [])

abbrev pub value_between : ValuePlace → Quotes → ValuePlace
value_between v q = record { tag = v.tag; typed = v.typed; quotes = q; body = v.body }

abbrev pub with_quotes : ValuePlace → Quotes → Scan
with_quotes v q = At (place.Value (value_between v q))

abbrev pub bare_begun : Quotes
bare_begun = quotes.Bare (record { uq = true; unbegun = false })

-- In a URL, after bytes that it is fed, on all paths together: the sets of its parts, the percent triple, and the reference.
abbrev pub parts_feeding : Feeding Parts
parts_feeding = record {
  feed = λ s b. parts_next s (url_class_of b) b;
  refuses = λ s b. option_map refusal_code (parts_error s (url_class_of b));
  refuses_names = λ s. true;
}

abbrev pub triple_behind : Triple → List ℕ → Triple
triple_behind t [] = t
triple_behind t (b ∷ bs) = triple_behind (next_triple t (url_class_of b)) bs

abbrev pub url_scan : ValuePlace → Triple → Reference → Scan
url_scan v NoTriple Closed = At (place.Value v)
url_scan v t r = InUrl v t r

abbrev pub with_parts : ValuePlace → Quotes → Parts → ValuePlace
with_parts v q s = record { tag = v.tag; typed = v.typed; quotes = q; body = body.Url s }

-- In a style, on all paths together: its own scan state.
abbrev pub style_feeding : Feeding StyleScan
style_feeding = record {
  feed = λ s b. style_scan_next s (style_class b) b;
  refuses = λ s b. option_map style_code (style_scan_error s (style_class b) b);
  refuses_names = λ s. true;
}

abbrev pub empty_style_between : ValuePlace → Quotes → ValuePlace
empty_style_between v q = record { tag = v.tag; typed = v.typed; quotes = q; body = body.Css (css.Code (style_tails false false false)) }

abbrev pub with_body : ValuePlace → Body → Place
with_body v x = place.Value (record { tag = v.tag; typed = v.typed; quotes = v.quotes; body = x })

abbrev pub with_style : ValuePlace → StyleScan → Place
with_style v s = with_body v (body.Css (style_scan_place s))

-- at the place, where no reference is open, and a text that begins there is stepped as from here
abbrev pub style_scan : ValuePlace → StyleScan → Reference → Scan
style_scan v s Closed = if is_style_start s then At (with_style v s) else InStyle v s Closed
style_scan v s r = InStyle v s r

-- In a script, on all paths together: its own scan state, with what is kept of its words, with the codes of what is refused, and with the
-- causes.
abbrev pub script_fed_byte : ScriptScan → ℕ → ScriptScan
script_fed_byte n b = kept_scan (script_scan_next n b)

abbrev pub script_feeding : Feeding ScriptScan
script_feeding = record {
  feed = script_fed_byte;
  refuses = λ n b. option_map (λ e. script_code e.refusal) (script_scan_error false n b);
  refuses_names = λ n. true;
}

abbrev pub script_scan_may_end : ScriptScan → Bool
script_scan_may_end n = script_may_end (script_shared n)

abbrev pub scripts_reading_in : (element : Bool) → ScriptFeeding ScriptScan
scripts_reading_in element = record {
  feed = script_fed_byte;
  refuses = script_scan_error element;
  refuses_cut = script_scan_cut_error;
  refuses_end = script_scan_end_error;
  may_end = script_scan_may_end;
}

abbrev pub all_scripts : ScriptFeeding ScriptScan
all_scripts = scripts_reading_in false

abbrev pub all_element_scripts : ScriptFeeding ScriptScan
all_element_scripts = scripts_reading_in true

abbrev pub empty_script_between : ValuePlace → Quotes → ValuePlace
empty_script_between v q =
    record { tag = v.tag; typed = v.typed; quotes = q; body = body.Js (js.Code (script_senses sense.Re) script_no_tails) }

abbrev pub with_script : ValuePlace → ScriptScan → Place
with_script v n = with_body v (body.Js (script_scan_place n))

-- Behind the first byte no text begins in the value any more.
abbrev pub script_fed_next : ValuePlace → ScriptScan → Reference → Class → ℕ → Scan
script_fed_next v n r c b = InScript v (feed_bytes script_feeding n (undone_byte true r c b)) (next_reference r c b)

abbrev pub style_fed : ValuePlace → StyleScan → Reference → Class → ℕ → Scan
style_fed v s r c b = style_scan v (feed_bytes style_feeding s (undone_byte true r c b)) (next_reference r c b)

-- A value goes on, between these quotes, with the bytes that it is fed.
abbrev pub value_fed : ValuePlace → Quotes → Body → Triple → Reference → Class → ℕ → Scan
value_fed v q (body.Url s) t r c b =
    url_scan (with_parts v q (feed_bytes parts_feeding s (undone_byte true r c b))) (triple_behind t (undone_byte true r c b)) (next_reference r c b)
value_fed v q (body.Css p) t r c b = style_fed (empty_style_between v q) (style_scan_start p) r c b
value_fed v q (body.Js j) t r c b = script_fed_next (empty_script_between v q) (script_scan_start j) r c b
value_fed v q x t r c b = with_quotes v q

abbrev pub bare_white : ValuePlace → Bool → Scan
bare_white v true = in_tag v.tag v.typed only_before None
bare_white v false = with_quotes v unbegun

-- Where a byte leads by the quotes; `goes_on` is where the value goes on with it, between these quotes.
abbrev pub bare_leads : ValuePlace → Bool → Class → (goes_on : Scan) → Scan
bare_leads v uq White goes_on = bare_white v uq
bare_leads v uq QuotationMark goes_on = with_quotes v quotes.Dq
bare_leads v uq Apostrophe goes_on = with_quotes v quotes.Sq
bare_leads v uq GreaterThan goes_on = content_scan v.tag
bare_leads v uq c goes_on = goes_on

abbrev pub quotes_lead : ValuePlace → Quotes → Class → (goes_on : Quotes → Scan) → Scan
quotes_lead v quotes.Dq QuotationMark goes_on = in_tag v.tag v.typed only_before None
quotes_lead v quotes.Sq Apostrophe goes_on = in_tag v.tag v.typed only_before None
quotes_lead v (quotes.Bare s) c goes_on = bare_leads v s.uq c (goes_on bare_begun)
quotes_lead v q c goes_on = goes_on q

abbrev pub bare_next : ValuePlace → Bool → Triple → Reference → Class → ℕ → Scan
bare_next v uq t r c b = bare_leads v uq c (value_fed v bare_begun v.body t r c b)

abbrev pub quoted_next : ValuePlace → Quotes → Triple → Reference → Class → ℕ → Scan
quoted_next v q t r c b = quotes_lead v q c (λ p. value_fed v p v.body t r c b)

abbrev pub value_next : ValuePlace → Triple → Reference → Class → ℕ → Scan
value_next v t r c b = quoted_next v v.quotes t r c b

-- in a lexeme of a style, or a reference
abbrev pub style_value_next : ValuePlace → StyleScan → Reference → Class → ℕ → Scan
style_value_next v s r c b = quotes_lead v v.quotes c (λ p. style_fed (value_between v p) s r c b)

-- in a script behind a byte of the text, or in a reference
abbrev pub script_value_next : ValuePlace → ScriptScan → Reference → Class → ℕ → Scan
script_value_next v n r c b = quotes_lead v v.quotes c (λ p. script_fed_next (value_between v p) n r c b)

-- What is refused in a value: by its language, and then by its quotes.
abbrev pub quoted_error : {S : Type 0} → Feeding S → Quotes → S → Reference → Class → ℕ → Option PathCause
quoted_error m quotes.Dq s r c b = language_error m (ends_value DoubleQuoted c) s r c b
quoted_error m quotes.Sq s r c b = language_error m (ends_value SingleQuoted c) s r c b
quoted_error m (quotes.Bare x) s r c b = if x.uq then language_error m (ends_value Unquoted c) s r c b else first_byte_error m s c b

abbrev pub body_cause : Body → Quotes → Reference → Class → ℕ → Option PathCause
body_cause (body.Url s) q r c b = quoted_error parts_feeding q s r c b
body_cause (body.Css p) q r c b = quoted_error style_feeding q (style_scan_start p) r c b
body_cause (body.Js j) q r c b = quoted_error script_feeding q (script_scan_start j) r c b
body_cause x q r c b = None

abbrev pub value_cause : ValuePlace → Reference → Class → ℕ → Option PathCause
value_cause v r c b = first_cause (body_cause v.body v.quotes r c b) (at_hand (value_error v c))

abbrev pub style_cause : ValuePlace → StyleScan → Reference → Class → ℕ → Option PathCause
style_cause v s r c b = first_cause (quoted_error style_feeding v.quotes s r c b) (at_hand (value_error v c))

abbrev pub script_cause : ValuePlace → ScriptScan → Reference → Class → ℕ → Option PathCause
script_cause v n r c b = first_cause (quoted_error script_feeding v.quotes n r c b) (at_hand (value_error v c))

-- Where that stands in the text, and the places of the bytes that the byte at `k` feeds a script, by its quotes: what `Errors.antt` says
-- of one path.
abbrev pub quoted_places : Quotes → ℕ → Reference → Class → ℕ → List FedByte
quoted_places quotes.Dq k r c b = fed_places (ends_value DoubleQuoted c) k r c b
quoted_places quotes.Sq k r c b = fed_places (ends_value SingleQuoted c) k r c b
quoted_places (quotes.Bare x) k r c b = if x.uq then fed_places (ends_value Unquoted c) k r c b else first_places k c b

abbrev pub ends_quoted : Quotes → Class → Bool
ends_quoted quotes.Dq c = ends_value DoubleQuoted c
ends_quoted quotes.Sq c = ends_value SingleQuoted c
ends_quoted (quotes.Bare x) c = x.uq && ends_value Unquoted c

abbrev pub script_step_refusal : Quotes → ℕ → List ℕ → ScriptScan → Reference → Class → ℕ → Option PathRefusal
script_step_refusal q k places n r c b = script_places_refusal all_scripts (ends_quoted q c) k places n (quoted_places q k r c b)

abbrev pub script_step_deep : Quotes → ℕ → List ℕ → ScriptScan → Reference → Class → ℕ → Option ℕ
script_step_deep q k places n r c b = deep_place all_scripts (ends_quoted q c) k places n (quoted_places q k r c b)

abbrev pub begun_script_refusal : Body → Quotes → ℕ → Class → ℕ → Option PathRefusal
begun_script_refusal (body.Js j) q k c b = script_step_refusal q k [] (script_scan_start j) Closed c b
begun_script_refusal x q k c b = None

abbrev pub begun_script_deep : Body → Quotes → ℕ → Class → ℕ → Option ℕ
begun_script_deep (body.Js j) q k c b = script_step_deep q k [] (script_scan_start j) Closed c b
begun_script_deep x q k c b = None

abbrev pub begun_script_fed : Body → Quotes → ℕ → Class → ℕ → List ℕ
begun_script_fed (body.Js j) q k c b = places_with (quoted_places q k Closed c b) []
begun_script_fed x q k c b = []

-- The value of a script's `type`: where it begins, and the tag after it, by what the value is. Behind it a `type` has been seen, but in an
-- end tag, of which none is remembered.
abbrev pub type_begun : Value ValueState
type_begun = attribute_value_of languages kind.ScriptType

abbrev pub type_tag : TagOf → Value ValueState → TagOf
type_tag t v = (tag_with_value (record { tag = t; typed = false }) v).tag

-- a byte of it
abbrev pub type_read : Value ValueState → Reference → ℕ → Value ValueState
type_read v r b = with_bytes languages v (undone_byte true r (class_of b) b)

abbrev pub in_type : TagOf → Quoting → Value ValueState → Reference → ℕ → Scan
in_type t q v r b = InType t q (type_read v r b) (next_reference r (class_of b) b)

abbrev pub before_type_next : Class → ℕ → TagOf → Scan
before_type_next White b t = BeforeType t
before_type_next QuotationMark b t = InType t DoubleQuoted type_begun Closed
before_type_next Apostrophe b t = InType t SingleQuoted type_begun Closed
before_type_next GreaterThan b t = content_scan (type_tag t type_begun)
before_type_next c b t = in_type t Unquoted type_begun Closed b

abbrev pub after_type : Quoting → Class → TagOf → Scan
after_type Unquoted GreaterThan t = content_scan t
after_type q c t = in_tag t (is_start t) only_before None

-- the first argument says whether the byte ends the value
abbrev pub ended_type : Value ValueState → Reference → Value ValueState
ended_type v r = with_bytes languages v (settled true r)

abbrev pub type_next : Bool → Class → ℕ → TagOf → Quoting → Value ValueState → Reference → Scan
type_next true c b t q v r = after_type q c (type_tag t (ended_type v r))
type_next false c b t q v r = in_type t q v r b

-- In the element `style`, where nothing is pending back: at the place, where a text that begins there is stepped as from here; and a byte.
abbrev pub element_scan : StyleScan → Scan
element_scan s = if is_style_start s then At (place.Style (style_scan_place s)) else InStyleElement s Nothing

abbrev pub element_next : StyleScan → Class → ℕ → Scan
element_next s LessThan b = InStyleElement s PendingLess
element_next s c b = element_scan (style_scan_next s (style_class b) b)

-- after `<`, and after `</` and letters: bytes that come to nothing are fed to the style first
abbrev pub released_next : StyleScan → List ℕ → Class → ℕ → Scan
released_next s bytes c b = element_next (feed_bytes style_feeding s bytes) c b

abbrev pub element_less_next : StyleScan → Class → ℕ → Scan
element_less_next s Solidus b = InStyleElement s (PendingName [])
element_less_next s c b = released_next s (codes "<") c b

abbrev pub element_name_next : StyleScan → (grows whole : Bool) → Class → ℕ → List ℕ → Scan
element_name_next s true whole (Letter l) b letters = InStyleElement s (PendingName (letters ++ b ∷ []))
element_name_next s grows true White b letters = in_tag tag.End false only_before None
element_name_next s grows true Solidus b letters = in_tag tag.End false only_before None
element_name_next s grows true GreaterThan b letters = At place.Text
element_name_next s grows whole c b letters = released_next s (codes "</" ++ letters) c b

abbrev pub element_pending_next : StyleScan → Pending → Class → ℕ → Scan
element_pending_next s Nothing c b = element_next s c b
element_pending_next s PendingLess c b = element_less_next s c b
element_pending_next s LessAtCut c b = released_next s (codes "<") c b
element_pending_next s (PendingName letters) c b =
    element_name_next s (may_be_name_of element.Style (letters ++ b ∷ [])) (is_name_of element.Style letters) c b letters
element_pending_next s PendingBang c b = released_next s (codes "<!") c b
element_pending_next s PendingBangDash c b = released_next s (codes "<!-") c b
element_pending_next s (PendingOpening letters) c b = released_next s (codes "<" ++ letters) c b

-- In the element `script`, by what the byte does (`script_step`).
abbrev pub behind_end_name : Class → Scan
behind_end_name White = in_tag tag.End false only_before None
behind_end_name Solidus = in_tag tag.End false only_before None
behind_end_name c = At place.Text

abbrev pub scan_by_step : ScriptScan → ScriptStep → Class → Scan
scan_by_step n (Reads bytes h) c = InScriptElement (feed_bytes script_feeding n bytes) h
scan_by_step n (EndsContent letters) c = behind_end_name c

abbrev pub script_scan_step : ScriptScan → Pending → Class → ℕ → ScriptStep
script_scan_step n h c b = script_step (script_scan_may_end n) element.Script h c b

abbrev pub script_element_next : ScriptScan → Pending → Class → ℕ → Scan
script_element_next n h c b = scan_by_step n (script_scan_step n h c b) c

abbrev pub place_next : Place → Class → ℕ → Scan
place_next place.Text c b = text_scan c
place_next place.Doctype c b = doctype_next c
place_next (place.Comment dash) c b = comment_next c (comment_state dash)
place_next (place.Rcdata e) c b = content_next c e
place_next (place.Tag t) c b = tag_next t c b
place_next (place.Value v) c b = value_next v NoTriple Closed c b
place_next (place.Block lt) c b = content_next c element.DataBlock
place_next (place.Style p) c b = element_next (style_scan_start p) c b
place_next (place.Script j) c b = script_element_next (script_scan_start j) Nothing c b

-- in a lexeme
abbrev pub less_next : Class → ℕ → Scan
less_next (Letter l) b = InTagName false (to_ascii_lowercase b ∷ [])
less_next Solidus b = AfterLessSolidus
less_next ExclamationMark b = InDeclaration []
less_next c b = text_scan c

abbrev pub solidus_next : Class → ℕ → Scan
solidus_next (Letter l) b = InTagName true (to_ascii_lowercase b ∷ [])
solidus_next c b = text_scan c

abbrev pub declaration_next : Declaration → Class → ℕ → List ℕ → Scan
declaration_next OpensComment c b pending = InCommentEnd Started
declaration_next OpensDoctype c b pending = At place.Doctype
declaration_next Undecided c b pending = InDeclaration (pending ++ b ∷ [])
declaration_next OpensNothing c b pending = text_scan c

abbrev pub tag_name_next : Class → ℕ → Bool → List ℕ → Scan
tag_name_next White b ends name = in_tag (tag_of_name ends name) false only_before None
tag_name_next Solidus b ends name = in_tag (tag_of_name ends name) false only_before None
tag_name_next GreaterThan b ends name = content_scan (tag_of_name ends name)
tag_name_next c b ends name = InTagName ends (name ++ to_ascii_lowercase b ∷ [])

-- the argument of a kind is that of the name so far
abbrev pub attribute_name_next : Class → ℕ → TagOf → Bool → Kind → List ℕ → Scan
attribute_name_next White b t typed k name = in_tag t (typed_with t typed k) only_after (Some k)
attribute_name_next Solidus b t typed k name = in_tag t (typed_with t typed k) only_before None
attribute_name_next GreaterThan b t typed k name = content_scan t
attribute_name_next EqualsSign b t typed k name = value_scan t typed (Some k)
attribute_name_next c b t typed k name = InAttributeName t typed (name ++ to_ascii_lowercase b ∷ [])

abbrev pub end_name_next : Bool → Bool → Class → ℕ → Element → List ℕ → Scan
end_name_next true whole (Letter l) b e letters = InContentEnd e (PendingName (letters ++ b ∷ []))
end_name_next grows true White b e letters = in_tag tag.End false only_before None
end_name_next grows true Solidus b e letters = in_tag tag.End false only_before None
end_name_next grows true GreaterThan b e letters = At place.Text
end_name_next grows whole c b e letters = content_next c e

abbrev pub bang_next : Class → Element → Scan
bang_next HyphenMinus e = InContentEnd e PendingBangDash
bang_next c e = content_next c e

abbrev pub content_end_next : Pending → Class → ℕ → Element → Scan
content_end_next PendingLess c b e = pending_less_next c e
content_end_next PendingBang c b e = bang_next c e
content_end_next (PendingName letters) c b e = end_name_next (may_be_name_of e (letters ++ b ∷ [])) (is_name_of e letters) c b e letters
content_end_next h c b e = content_next c e

-- the step, and what it refuses
abbrev pub scan_next : Scan → Class → ℕ → Scan
scan_next (At p) c b = place_next p c b
scan_next AfterLess c b = less_next c b
scan_next AfterLessSolidus c b = solidus_next c b
scan_next (InDeclaration pending) c b = declaration_next (declared_by (pending ++ b ∷ [])) c b pending
scan_next (InTagName ends name) c b = tag_name_next c b ends name
scan_next (InAttributeName t typed name) c b = attribute_name_next c b t typed (kind_of (element_on t) name) name
scan_next (InCommentEnd s) c b = comment_next c s
scan_next (InContentEnd e h) c b = content_end_next h c b e
scan_next (InStyleElement s h) c b = element_pending_next s h c b
scan_next (InScriptElement n h) c b = script_element_next n h c b
scan_next (InUrl v t r) c b = value_next v t r c b
scan_next (InStyle v s r) c b = style_value_next v s r c b
scan_next (InScript v n r) c b = script_value_next v n r c b
scan_next (BeforeType t) c b = before_type_next c b t
scan_next (InType t q v r) c b = type_next (ends_value q c) c b t q v r

abbrev pub content_end_error : Element → Pending → Class → Option PathCause
content_end_error element.DataBlock h c = block_byte_error h c
content_end_error e h c = None

abbrev pub element_cause : StyleScan → Pending → Class → ℕ → Option PathCause
element_cause s h c b = content_byte_error style_feeding element.Style s h c b

abbrev pub place_cause : Place → Class → ℕ → Option PathCause
place_cause (place.Value v) c b = value_cause v Closed c b
place_cause (place.Style p) c b = element_cause (style_scan_start p) Nothing c b
place_cause (place.Script j) c b = script_content_error all_element_scripts element.Script (script_scan_start j) Nothing c b
place_cause p c b = at_hand (place_error p c)

abbrev pub scan_error : Scan → Class → ℕ → Option PathCause
scan_error (At p) c b = place_cause p c b
scan_error (InUrl v t r) c b = value_cause v r c b
scan_error (InStyle v s r) c b = style_cause v s r c b
scan_error (InScript v n r) c b = script_cause v n r c b
scan_error (InTagName ends name) c b = at_hand (tag_name_error (tag_of_name ends name) c)
scan_error (InAttributeName t typed name) c b = attribute_name_error t typed (kind_of (element_on t) name) (length name) c
scan_error AfterLess c b = None
scan_error AfterLessSolidus c b = None
scan_error (InDeclaration pending) c b = None
scan_error (InCommentEnd s) c b = None
scan_error (InContentEnd e h) c b = content_end_error e h c
scan_error (InStyleElement s h) c b = element_cause s h c b
scan_error (InScriptElement n h) c b = script_content_error all_element_scripts element.Script n h c b
scan_error (BeforeType t) c b = at_hand (quotes_error t unbegun c)
scan_error (InType t q v r) c b = at_hand (quotes_error (type_tag t (ended_type v r)) (quotes_at q) c)

-- the place where the text ends, and what is refused there; in the value of a type it is refused
abbrev pub content_end_place : Element → Pending → Place
content_end_place element.DataBlock PendingLess = place.Block true
content_end_place e h = rest_place e

abbrev pub whole_name_place : TagOf → Bool → Kind → Place
whole_name_place t typed k = place.Tag (record { tag = t; typed = typed_with t typed k; spots = only_inside; kind = Some k })

-- A reference with which a text ends in a URL or a style is text as it stands.
abbrev pub parts_with : Body → List ℕ → Body
parts_with (body.Url s) bytes = body.Url (feed_bytes parts_feeding s bytes)
parts_with x bytes = x

abbrev pub scan_place : Scan → Place
scan_place (At p) = p
scan_place (InUrl v t r) = with_body v (parts_with v.body (as_it_stands r))
scan_place (InStyle v s r) = with_style v (feed_bytes style_feeding s (as_it_stands r))
scan_place (InScript v n r) = with_script v (feed_bytes script_feeding n (as_it_stands r))
scan_place AfterLess = place.Text
scan_place AfterLessSolidus = place.Text
scan_place (InDeclaration pending) = place.Text
scan_place (InTagName ends name) = place.Tag (record { tag = tag_of_name ends name; typed = false; spots = only_name; kind = None })
scan_place (InAttributeName t typed name) = whole_name_place t typed (kind_of (element_on t) name)
scan_place (InCommentEnd s) = place.Comment true
scan_place (InContentEnd e h) = content_end_place e h
scan_place (InStyleElement s h) = place.Style (style_scan_place (feed_bytes style_feeding s (pending_bytes h)))
scan_place (InScriptElement n h) = place.Script (script_scan_place (feed_bytes script_feeding n (pending_bytes h)))
scan_place (BeforeType t) = place.Text
scan_place (InType t q v r) = place.Text

-- The place that is shown there, before the bytes that are left: in the value of a script's `type` there is none. In a URL and a style
-- the reference that stands before them is read with them: it is behind them where the next byte breaks it, and else it has not begun.
abbrev pub parts_before : ReferenceStep → Body → Class → Form → List ℕ → Body
parts_before Breaks x c f bytes = parts_with x (flushed true (is_equals_sign c) f bytes)
parts_before step x c f bytes = x

abbrev pub url_before : ValuePlace → Reference → List ℕ → Place
url_before v (Open f bytes) (b ∷ bs) = with_body v (parts_before (turn (class_of b) f) v.body (class_of b) f bytes)
url_before v r bs = with_body v (parts_with v.body (as_it_stands r))

abbrev pub style_before : ReferenceStep → StyleScan → Class → Form → List ℕ → StyleScan
style_before Breaks s c f bytes = feed_bytes style_feeding s (flushed true (is_equals_sign c) f bytes)
style_before step s c f bytes = s

abbrev pub style_scan_before : StyleScan → Reference → List ℕ → StyleScan
style_scan_before s (Open f bytes) (b ∷ bs) = style_before (turn (class_of b) f) s (class_of b) f bytes
style_scan_before s r bs = feed_bytes style_feeding s (as_it_stands r)

abbrev pub script_before_turn : ReferenceStep → ScriptScan → Class → Form → List ℕ → ScriptScan
script_before_turn Breaks n c f bytes = feed_bytes script_feeding n (flushed true (is_equals_sign c) f bytes)
script_before_turn step n c f bytes = n

abbrev pub script_scan_before : ScriptScan → Reference → List ℕ → ScriptScan
script_scan_before n (Open f bytes) (b ∷ bs) = script_before_turn (turn (class_of b) f) n (class_of b) f bytes
script_scan_before n r bs = feed_bytes script_feeding n (as_it_stands r)

-- what is pending back in the element `style` or `script`, before the bytes that are left
abbrev pub pending_left : Element → Pending → List ℕ → Pending
pending_left e h [] = h
pending_left e h (b ∷ bs) = pending_before e h (class_of b) b

abbrev pub scan_shown : Scan → List ℕ → Option Place
scan_shown (InUrl v t r) bs = Some (url_before v r bs)
scan_shown (InStyle v s r) bs = Some (with_style v (style_scan_before s r bs))
scan_shown (InScript v n r) bs = option_map (λ j. with_body v (body.Js j)) (script_scan_shown (script_scan_before n r bs))
scan_shown (InStyleElement s h) bs = Some (scan_place (InStyleElement s (pending_left element.Style h bs)))
scan_shown (InScriptElement n h) bs =
    option_map place.Script (script_scan_shown (feed_bytes script_feeding n (pending_bytes (pending_left element.Script h bs))))
scan_shown (BeforeType t) bs = None
scan_shown (InType t q v r) bs = None
scan_shown f bs = Some (scan_place f)

abbrev pub content_cut_error : Element → Pending → Option PathCause
content_cut_error element.DataBlock h = block_cut_error h
content_cut_error e h = None

-- The bytes of a reference with which a text ends in a URL or a style are refused each at its own place.
abbrev pub written_error : {S : Type 0} → Feeding S → S → List ℕ → Option PathCause
written_error m s bytes = fed_error m s bytes true (length bytes)

abbrev pub open_cut_error : Body → List ℕ → Option PathCause
open_cut_error (body.Url s) bytes = written_error parts_feeding s bytes
open_cut_error x bytes = None

-- Where the element's text ends in a `<`: in a string, a URL and behind a backslash it may not be cut from what follows. The scan state
-- is the one before the `<`.
abbrev pub style_less_cut : StyleScan → Option StyleCutRefusal
style_less_cut (ScanCode x) = None
style_less_cut (ScanWord w e) = less_than_cut_escape e
style_less_cut (ScanSplitEscape e) = less_than_cut_escape e
style_less_cut ScanSolidus = None
style_less_cut ScanLessThan = None
style_less_cut (ScanComment star) = None
style_less_cut ScanStarBefore = None
style_less_cut (ScanString q e) = less_than_cut_string e
style_less_cut ScanFresh = at_end SplitToken 1
style_less_cut (ScanBareUrl s t) = at_end SplitToken 1
style_less_cut (ScanQuotedUrl q e s t) = less_than_cut_string e
style_less_cut ScanEnded = None

abbrev pub style_less_cause : StyleScan → Option PathCause
style_less_cause s = option_map cut_cause (option_map style_cut (style_less_cut s))

abbrev pub scan_cut_error : Scan → Option PathCause
scan_cut_error (InAttributeName t typed name) = unless_second (is_second_type typed (kind_of (element_on t) name)) (length name) None
scan_cut_error (At p) = None
scan_cut_error (InUrl v t r) = open_cut_error v.body (as_it_stands r)
scan_cut_error (InStyle v s r) = written_error style_feeding s (as_it_stands r)
scan_cut_error (InScript v n r) = written_error script_feeding n (as_it_stands r)
scan_cut_error AfterLess = None
scan_cut_error AfterLessSolidus = None
scan_cut_error (InDeclaration pending) = None
scan_cut_error (InTagName ends name) = None
scan_cut_error (InCommentEnd s) = None
scan_cut_error (InContentEnd e h) = content_cut_error e h
scan_cut_error (InStyleElement s h) = content_end_cut_error style_feeding style_less_cause s h
scan_cut_error (InScriptElement n h) = script_content_cut_error all_element_scripts n h
scan_cut_error (BeforeType t) = at_hand (Some code.BadHTML)
scan_cut_error (InType t q v r) = at_hand (Some code.BadHTML)

-- What is refused at the end of a text as a lexeme that has begun: a percent triple of a URL; in a style also an escape.
abbrev pub if_unfinished : Triple → Option Code
if_unfinished NoTriple = None
if_unfinished AfterPercent = Some code.PartialEscape
if_unfinished AfterDigit = Some code.PartialEscape

abbrev pub scan_lexeme_error : Scan → Option Code
scan_lexeme_error (InUrl v t r) = if_unfinished (triple_behind t (as_it_stands r))
scan_lexeme_error (InStyle v s r) = option_map (λ e. style_code e.code) (style_scan_cut_error (feed_bytes style_feeding s (as_it_stands r)))
scan_lexeme_error (InStyleElement s h) = option_map (λ e. style_code e.code) (style_scan_cut_error (feed_bytes style_feeding s (pending_bytes h)))
scan_lexeme_error f = None

-- What a script refuses, and where it stands in the text, by what is kept of the bytes before: at a byte, and at the end of the node; and
-- what is kept behind the byte. So it is on one path (`Errors.antt` of `place_core`).
abbrev pub scan_script_refusal : ℕ → List ℕ → Scan → Class → ℕ → Option PathRefusal
scan_script_refusal k places (InScript v n r) c b = script_step_refusal v.quotes k places n r c b
scan_script_refusal k places (At (place.Value v)) c b = begun_script_refusal v.body v.quotes k c b
scan_script_refusal k places f c b = None

abbrev pub scan_script_cut_refusal : ℕ → List ℕ → Scan → Option PathRefusal
scan_script_cut_refusal k places (InScript v n r) = script_ending_refusal all_scripts k places n (cut_places k r)
scan_script_cut_refusal k places f = None

abbrev pub scan_fed_behind : ℕ → List ℕ → Scan → Class → ℕ → List ℕ
scan_fed_behind k places (InScript v n r) c b = places_with (quoted_places v.quotes k r c b) places
scan_fed_behind k places (At (place.Value v)) c b = begun_script_fed v.body v.quotes k c b
scan_fed_behind k places f c b = []

abbrev pub scan_deep_behind : ℕ → List ℕ → Scan → Class → ℕ → Option ℕ
scan_deep_behind k places (InScript v n r) c b = script_step_deep v.quotes k places n r c b
scan_deep_behind k places (At (place.Value v)) c b = begun_script_deep v.body v.quotes k c b
scan_deep_behind k places f c b = None

-- the reference that is open in a URL or a style
abbrev pub scan_reference : Scan → Reference
scan_reference (InUrl v t r) = r
scan_reference (InStyle v s r) = r
scan_reference f = Closed
