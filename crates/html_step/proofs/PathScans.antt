-- The scan state of a path, and what it is for a byte and the end of a text to be the same from it as on the path.
use Rattle.std.proofs.Common.{◌≡◌, ℕ, Bool, true, false, List, [], ◌∷◌, Option, Some, None, ◌⊎◌, refl}
use Rattle.std.specs.Prelude.{⊤, ◌||◌, if◌then◌else◌}
use Rattle.std.specs.Option.{option_map}
use Rattle.css_step.specs.StyleScans.{StyleScan}
use Rattle.css_step.specs.StyleScanLaws.{style_scanned}
use Rattle.js_lexer.specs.States.{ScriptState}
use Rattle.js_step.specs.ScriptScans.{ScriptScan}
use Rattle.place_core.specs.page.Classes.{Class, class_of, is_equals_sign}
use Rattle.place_core.specs.place.LastLexeme.{language_reference}
use Rattle.place_core.specs.place.Errors.{byte_error, cut_error, at_hand, deep_behind, fed_behind, flushed_error, unless_second, PathCause, pending_error, place_before_bytes, lexeme_error, read_error, script_byte_refusal, script_cut_refusal}
use Rattle.place_core.specs.page.Contents.{pending_bytes}
use Rattle.place_core.specs.page.Html.{next, after_tag}
use Rattle.place_core.specs.page.Paths.{at_cut}
use Rattle.place_core.specs.page.References.{Reference, Closed, Open, Breaks, turn}
use Rattle.place_core.specs.place.ScriptParts.{script_body, script_js}
use Rattle.place_core.specs.place.StatePlaces.{tag_spot, only_name, only_before, only_inside, only_after, value_spot, value_body, quotes_at, unbegun, placed}
use Rattle.place_core.specs.page.States.{Template, LexState, Text, TagOpen, EndTagOpen, DeclarationOpen, InComment, BogusComment, InDoctype, TagName, WholeTagName, BeforeAttributeName, AttributeName, WholeAttributeName, AfterAttributeName, BeforeAttributeValue, AttributeValue, AfterAttributeValue, SelfClosingStartTag, Characters, Bytes, InLanguage, Pending, Nothing, PendingLess, PendingName, PendingBang, PendingBangDash, PendingOpening, InContent, LessAtCut}
use Rattle.place_core.specs.page.Tags.{Tag, Value, ValueOf, Deciding, ValueState, OfKind, OfUrl, OfStyle, OfScript, languages, feed_value, feeding, feed_bytes, attribute_value_of, tag_by_type, with_bytes, tag_with_value, without_value, Quoting, is_second_type}
use Rattle.place_core.specs.place.UrlParts.{parts_of}
use Rattle.place_core.specs.declared.body.Body.{Body}
use Rattle.place_core.specs.declared.body.Body.TheVariants as body
use Rattle.place_core.specs.declared.code.Code.{Code}
use Rattle.place_core.specs.declared.element.Element.{Element}
use Rattle.place_core.specs.declared.element.Element.TheVariants as element
use Rattle.place_core.specs.declared.js.Js.{Js}
use Rattle.place_core.specs.declared.kind.Kind.{Kind}
use Rattle.place_core.specs.declared.kind.Kind.TheVariants as kind
use Rattle.place_core.specs.declared.parts.Parts.{Parts}
use Rattle.place_core.specs.declared.place.Place.TheVariants as place
use Rattle.place_core.specs.declared.quotes.Quotes.{Quotes}
use Rattle.place_core.specs.declared.tag_of.TagOf.{TagOf}
use Rattle.place_core.specs.declared.tag_of.TagOf.TheVariants as tag
use Rattle.place_core.specs.declared.value_place.ValuePlace.{ValuePlace}
use Rattle.html_scan.specs.Scans.{Scan, At, AfterLess, AfterLessSolidus, InDeclaration, InTagName, InAttributeName, InContentEnd, InScript, InScriptElement, InStyleElement, all_element_scripts, comment_scan, element_scan, content_scan, pending_left, typed_with, scan_next, scan_error, scan_place, scan_cut_error, BeforeType, InType, scan_shown, url_scan, scan_lexeme_error, scan_deep_behind, scan_fed_behind, scan_reference, scan_script_cut_refusal, scan_script_refusal, script_feeding, style_feeding, style_scan, written_error}
use Rattle.html_step.proofs.ScriptPaths.{kept_script_scanned, script_value}
use Rattle.html_step.proofs.StylePaths.{HasValue, StandsHere, style_value}
use Rattle.url_lexer.specs.States.{Url, feed_url, feed_all}

-- the scan state of a path's state
abbrev pub content_scanned : Pending → Element → Option Scan
content_scanned Nothing element.Title = Some (At (place.Rcdata element.Title))
content_scanned Nothing element.Textarea = Some (At (place.Rcdata element.Textarea))
content_scanned PendingLess element.Title = Some (InContentEnd element.Title PendingLess)
content_scanned PendingLess element.Textarea = Some (InContentEnd element.Textarea PendingLess)
content_scanned (PendingName letters) element.Title = Some (InContentEnd element.Title (PendingName letters))
content_scanned (PendingName letters) element.Textarea = Some (InContentEnd element.Textarea (PendingName letters))
content_scanned h e = None

abbrev pub block_scanned : Pending → Element → Option Scan
block_scanned Nothing element.DataBlock = Some (At (place.Block false))
block_scanned LessAtCut element.DataBlock = Some (At (place.Block true))
block_scanned PendingLess element.DataBlock = Some (InContentEnd element.DataBlock PendingLess)
block_scanned (PendingName letters) element.DataBlock = Some (InContentEnd element.DataBlock (PendingName letters))
block_scanned PendingBang element.DataBlock = Some (InContentEnd element.DataBlock PendingBang)
block_scanned PendingBangDash element.DataBlock = Some (InContentEnd element.DataBlock PendingBangDash)
block_scanned h e = None

-- In the element `style` it has the scan state of the style, before what is pending back.
abbrev pub element_scanned : Pending → StyleScan → Option Scan
element_scanned Nothing n = Some (element_scan n)
element_scanned PendingLess n = Some (InStyleElement n PendingLess)
element_scanned (PendingName letters) n = Some (InStyleElement n (PendingName letters))
element_scanned h n = None

abbrev pub style_element_scanned : Pending → Option StyleScan → Option Scan
style_element_scanned h (Some n) = element_scanned h n
style_element_scanned h None = None

-- In the element `script` it has the scan state of the script; but where a text begins it is at the place.
abbrev pub script_element_there : Pending → Option ScriptScan → Option Scan
script_element_there h o = option_map (λ n. InScriptElement n h) o

abbrev pub script_element_unless_placed : Option Js → Option ScriptScan → Option Scan
script_element_unless_placed (Some j) o = Some (At (place.Script j))
script_element_unless_placed None o = script_element_there Nothing o

abbrev pub script_element_scanned : Pending → ScriptState → Option Scan
script_element_scanned Nothing s = script_element_unless_placed (script_js s) (kept_script_scanned s)
script_element_scanned PendingLess s = script_element_there PendingLess (kept_script_scanned s)
script_element_scanned LessAtCut s = None
script_element_scanned (PendingName letters) s = script_element_there (PendingName letters) (kept_script_scanned s)
script_element_scanned PendingBang s = script_element_there PendingBang (kept_script_scanned s)
script_element_scanned PendingBangDash s = script_element_there PendingBangDash (kept_script_scanned s)
script_element_scanned (PendingOpening letters) s = script_element_there (PendingOpening letters) (kept_script_scanned s)

abbrev pub language_scanned : Pending → Element → ValueState → Option Scan
language_scanned h element.Style (OfStyle s) = style_element_scanned h (style_scanned s)
language_scanned h element.Script (OfScript s) = script_element_scanned h s
language_scanned h e v = None

-- where a second `type` is not refused
abbrev pub first_type : Tag → Kind → Scan → Option Scan
first_type t k f = if is_second_type t.typed k then None else Some f

-- In a URL it has the percent triple and the reference; the parts are those of the path.
abbrev pub url_value : Tag → Quotes → Parts → ValuePlace
url_value t q s = record { tag = t.tag; typed = t.typed; quotes = q; body = body.Url s }

abbrev pub url_scanned : Quoting → Tag → Url → Reference → Scan
url_scanned q t u r = url_scan (url_value t (quotes_at q) (parts_of u.part)) u.triple r

-- In a style it has the scan state of the style and the reference.
abbrev pub style_value_scanned : Quoting → Tag → Option StyleScan → Reference → Option Scan
style_value_scanned q t o r = option_map (λ n. style_scan (style_value t (quotes_at q)) n r) o

-- In a script it has the scan state of the script and the reference; but where a text begins it is at the place.
abbrev pub script_there : Quoting → Tag → Option ScriptScan → Reference → Option Scan
script_there q t o r = option_map (λ n. InScript (script_value t (quotes_at q)) n r) o

abbrev pub script_unless_placed : Quoting → Tag → Option Body → Option ScriptScan → Option Scan
script_unless_placed q t (Some x) o = option_map At (value_spot t (quotes_at q) (Some x))
script_unless_placed q t None o = script_there q t o Closed

abbrev pub script_value_scanned : Quoting → Tag → ScriptState → Reference → Option Scan
script_value_scanned q t s Closed = script_unless_placed q t (script_body s) (kept_script_scanned s)
script_value_scanned q t s (Open f bytes) = script_there q t (kept_script_scanned s) (Open f bytes)

abbrev pub before_scanned : Tag → Value ValueState → Option Scan
before_scanned t (ValueOf v) = option_map At (value_spot t unbegun (value_body (ValueOf v)))
before_scanned t (Deciding kind.ScriptType before) = first_type t kind.ScriptType (BeforeType t.tag)
before_scanned t (Deciding k before) = None

abbrev pub value_scanned : Quoting → Tag → Value ValueState → Reference → Option Scan
value_scanned q t (ValueOf (OfKind k)) r = option_map At (value_spot t (quotes_at q) (value_body (ValueOf (OfKind k))))
value_scanned q t (ValueOf (OfUrl u)) r = Some (url_scanned q t u r)
value_scanned q t (ValueOf (OfStyle s)) r = style_value_scanned q t (style_scanned s) r
value_scanned q t (ValueOf (OfScript s)) r = script_value_scanned q t s r
value_scanned q t (Deciding kind.ScriptType before) r = first_type t kind.ScriptType (InType t.tag q (Deciding kind.ScriptType before) r)
value_scanned q t (Deciding k before) r = None

abbrev pub scanned : LexState ValueState → Option Scan
scanned (Text r) = Some (At place.Text)
scanned (TagOpen r) = Some AfterLess
scanned (EndTagOpen r) = Some AfterLessSolidus
scanned (DeclarationOpen r pending) = Some (InDeclaration pending)
scanned (InComment s) = Some (comment_scan s)
scanned BogusComment = None
scanned InDoctype = Some (At place.Doctype)
scanned (TagName ends name) = Some (InTagName ends name)
scanned (WholeTagName t) = Some (At (place.Tag (tag_spot t only_name None)))
scanned (BeforeAttributeName t) = Some (At (place.Tag (tag_spot t only_before None)))
scanned (AttributeName t name) = Some (InAttributeName t.tag t.typed name)
scanned (WholeAttributeName t k) = first_type t k (At (place.Tag (tag_spot t only_inside (Some k))))
scanned (AfterAttributeName t k) = first_type t k (At (place.Tag (tag_spot t only_after (Some k))))
scanned (BeforeAttributeValue t k) = before_scanned t (attribute_value_of languages k)
scanned (AttributeValue q t v r) = value_scanned q t v r
scanned (AfterAttributeValue t) = Some (At (place.Tag (tag_spot t only_before None)))
scanned (SelfClosingStartTag t) = Some (At (place.Tag (tag_spot t only_before None)))
scanned (InContent e (Characters r) h) = content_scanned h e
scanned (InContent e Bytes h) = block_scanned h e
scanned (InContent e (InLanguage v) h) = language_scanned h e v

-- Of the bytes of a script the places are kept; where a value is at a place, no byte of it has been read.
abbrev pub FitsValue : List ℕ → Value ValueState → Reference → Type 0
FitsValue places (ValueOf (OfScript s)) Closed = (x : Body) → script_body s ≡ Some x → places ≡ []
FitsValue places v r = Unit {0}

abbrev pub FitsFed : List ℕ → LexState ValueState → Type 0
FitsFed places (AttributeValue q t v r) = FitsValue places v r
FitsFed places s = Unit {0}

-- what a script refuses at a byte, and where, and what is kept of the bytes that have been read
abbrev pub ScriptsAgree : ℕ → List ℕ → LexState ValueState → Scan → Class → ℕ → Type 0
ScriptsAgree k places s f c b =
    (script_byte_refusal k places s c b ≡ scan_script_refusal k places f c b)
    × (fed_behind k places s c b ≡ scan_fed_behind k places f c b)
    × (scan_script_refusal k places f c b ≡ None → deep_behind k places s c b ≡ scan_deep_behind k places f c b)

-- A state and its scan state refuse the same, and step alike where nothing is refused.
pub record Agrees (s : LexState ValueState) (f : Scan) (c : Class) (b : ℕ) : Type 0 where
  pub errors : byte_error s c b ≡ scan_error f c b
  pub scripts : (k : ℕ) (places : List ℕ) → FitsFed places s → ScriptsAgree k places s f c b
  pub steps : scan_error f c b ≡ None → scanned (next languages Template s c b) ≡ Some (scan_next f c b)

abbrev pub WhereScanned : Option Scan → (Scan → Type 0) → Type 0
WhereScanned None P = ⊤
WhereScanned (Some f) P = P f

pub same-with : (t : Tag) (bs : List ℕ) (v : ValueState) → tag_with_value t (with_bytes languages (ValueOf v) bs) ≡ t
same-with t [] v = refl
same-with t (b ∷ bs) v = same-with t bs (feed_value v b)

-- what an attribute without a value does to its tag: an empty `type` is that of a script
untyped-tag : (t : TagOf) (typed : Bool) → tag_by_type t (typed || true) ≡ t
untyped-tag tag.End typed = refl
untyped-tag (tag.Start element.Script) true = refl
untyped-tag (tag.Start element.Script) false = refl
untyped-tag (tag.Start _) typed = refl

pub same-tag : (t : Tag) (k : Kind) → (without_value t k).tag ≡ t.tag
same-tag t kind.ScriptType = untyped-tag t.tag t.typed
same-tag t _ = refl

pub same-typed : (t : Tag) (k : Kind) → (without_value t k).typed ≡ typed_with t.tag t.typed k
same-typed t kind.ScriptType = refl
same-typed t _ = refl

-- what is refused is no step
pub some : {A : Type 0} (x : A) → Some x ≡ None → ⊥
some x e = cc

pub none-at-hand : (o : Option Code) → at_hand o ≡ None → o ≡ None
none-at-hand None e = refl
none-at-hand (Some e) h = absurd (some _ h)

pub none-unless : (second : Bool) (len : ℕ) (o : Option Code) → unless_second second len o ≡ None → o ≡ None
none-unless true len o h = absurd (some _ h)
none-unless false len o h = none-at-hand o h

-- what is not refused is no second type
pub not-second : (t : Tag) (k : Kind) (f : Scan) → is_second_type t.typed k ≡ false → first_type t k f ≡ Some f
not-second t k f e = rw e refl

pub unless-first : (second : Bool) (len : ℕ) (o : Option Code) → unless_second second len o ≡ None → second ≡ false
unless-first true len o h = absurd (some _ h)
unless-first false len o h = refl

-- A URL is fed byte by byte as the set of its part is.
pub with-url : (u : Url) (bs : List ℕ) → with_bytes languages (ValueOf (OfUrl u)) bs ≡ ValueOf (OfUrl (feed_all u bs))
with-url u [] = refl
with-url u (b ∷ bs) = with-url (feed_url u b) bs

pub with-fed : (z : Value ValueState) (bs : List ℕ) → with_bytes languages z bs ≡ feed_bytes (feeding languages) z bs
with-fed z [] = refl
with-fed z (b ∷ bs) = with-fed ((feeding languages).feed z b) bs

-- Whether the place before the bytes that are left of a text is shown: no reference is open there, or nothing is refused of it.
abbrev pub refused_next : Scan → List ℕ → Option PathCause
refused_next f [] = scan_cut_error f
refused_next f (b ∷ bs) = scan_error f (class_of b) b

-- In a script, that nothing is refused of a reference that stands before the bytes.
abbrev pub IsScriptShown : ScriptScan → Reference → List ℕ → Type 0
IsScriptShown n Closed bs = Unit {0}
IsScriptShown n (Open f bytes) [] = written_error script_feeding n (38 ∷ bytes) ≡ None
IsScriptShown n (Open f bytes) (b ∷ bs) =
    turn (class_of b) f ≡ Breaks → flushed_error script_feeding n (is_equals_sign (class_of b)) f bytes ≡ None

-- In the element, that nothing is refused of what is pending back and comes to nothing there.
abbrev pub IsShown : Scan → List ℕ → Type 0
IsShown (InStyleElement n h) bs = pending_error style_feeding n (pending_bytes (pending_left element.Style h bs)) ≡ None
IsShown (InScriptElement n h) bs = read_error all_element_scripts n (pending_bytes (pending_left element.Script h bs)) 1 ≡ None
IsShown (InScript v n r) bs = IsScriptShown n r bs
IsShown f bs = (scan_reference f ≡ Closed) ⊎ StandsHere (refused_next f bs)

-- the end of a text is refused neither by what is read there nor by a script
pub record TakesEnd (f : Scan) : Type 0 where
  pub cut : scan_cut_error f ≡ None
  pub at : ℕ
  pub places : List ℕ
  pub scripts : scan_script_cut_refusal at places f ≡ None

-- the reference that is open in a value; a scan state in a script has it, and the quotes of a value that has begun
abbrev pub value_reference : LexState ValueState → Reference
value_reference (AttributeValue q t v r) = r
value_reference s = Closed

-- In the element `script` no `<` is pending from before the text.
abbrev pub NoPendingCut : Pending → Type 0
NoPendingCut LessAtCut = ⊥
NoPendingCut h = Unit {0}

abbrev pub ScriptFacts : LexState ValueState → Scan → Type 0
ScriptFacts s (InScript v n r) = HasValue v.quotes × (value_reference s ≡ r)
ScriptFacts s (InScriptElement n h) = NoPendingCut h
ScriptFacts s f = Unit {0}

-- the end of a text, the reference that is open there, and the place that is shown before the bytes that are left
pub record Ends (s : LexState ValueState) (f : Scan) : Type 0 where
  pub errors : cut_error s ≡ scan_cut_error f
  pub scripts : (k : ℕ) (places : List ℕ) → script_cut_refusal k places s ≡ scan_script_cut_refusal k places f
  pub facts : ScriptFacts s f
  pub lexeme : TakesEnd f → lexeme_error s ≡ scan_lexeme_error f
  pub reference : language_reference s ≡ scan_reference f
  pub place : TakesEnd f → placed (at_cut languages s) ≡ Some (scan_place f)
  pub shown : (bs : List ℕ) → IsShown f bs → place_before_bytes s bs ≡ scan_shown f bs

-- the end of a tag
pub tag-ends : (t : TagOf) → scanned (after_tag languages t) ≡ Some (content_scan t)
tag-ends tag.End = refl
tag-ends (tag.Start element.Other) = refl
tag-ends (tag.Start element.Title) = refl
tag-ends (tag.Start element.Textarea) = refl
tag-ends (tag.Start element.Style) = refl
tag-ends (tag.Start element.Script) = refl
tag-ends (tag.Start element.DataBlock) = refl
