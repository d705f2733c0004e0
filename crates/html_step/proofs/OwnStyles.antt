-- At the place of a path before a value that is a style, the style is empty.
use Rattle.std.proofs.Common.{◌≡◌, Bool, true, false, Option, Some, None, option_map, if◌then◌else◌, refl, sym, ◌∙◌, subst}
use Rattle.css_step.specs.StyleScans.{StyleScan, is_style_start, style_scan_place}
use Rattle.css_step.specs.StyleScanLaws.{style_scanned}
use Rattle.place_core.specs.page.References.{Reference, Closed, Open}
use Rattle.place_core.specs.place.StatePlaces.{only_after, only_inside, quotes_at, tag_spot}
use Rattle.place_core.specs.place.UrlParts.{parts_of}
use Rattle.place_core.specs.page.States.{LexState, Text, TagOpen, EndTagOpen, DeclarationOpen, InComment, Inside, Broken, BogusComment, InDoctype, TagName, WholeTagName, BeforeAttributeName, AttributeName, WholeAttributeName, AfterAttributeName, BeforeAttributeValue, AttributeValue, AfterAttributeValue, SelfClosingStartTag, Characters, Bytes, InLanguage, Pending, Nothing, PendingLess, PendingName, PendingBang, PendingBangDash, PendingOpening, InContent, LessAtCut}
use Rattle.place_core.specs.page.Tags.{Tag, Value, ValueOf, Deciding, ValueState, OfKind, OfUrl, OfStyle, OfScript, Quoting, DoubleQuoted, SingleQuoted, Unquoted, is_second_type}
use Rattle.place_core.specs.declared.body.Body.{Body}
use Rattle.place_core.specs.declared.body.Body.TheVariants as body
use Rattle.place_core.specs.declared.css.Css.{Css}
use Rattle.place_core.specs.declared.element.Element.{Element}
use Rattle.place_core.specs.declared.element.Element.TheVariants as element
use Rattle.place_core.specs.declared.kind.Kind.{Kind}
use Rattle.place_core.specs.declared.kind.Kind.TheVariants as kind
use Rattle.place_core.specs.declared.place.Place.TheVariants as place
use Rattle.place_core.specs.declared.parts.Parts.{Parts}
use Rattle.place_core.specs.declared.quotes.Quotes.{Quotes}
use Rattle.place_core.specs.declared.quotes.Quotes.TheVariants as quotes
use Rattle.place_core.specs.declared.value_place.ValuePlace.{ValuePlace}
use Rattle.html_scan.specs.Scans.{Scan, At, InStyle, InStyleElement, BeforeType, InType, style_scan, url_scan, with_style}
use Rattle.html_step.proofs.OwnScans.{IsOwn}
use Rattle.html_step.proofs.PathScans.{WhereScanned, block_scanned, content_scanned, language_scanned, scanned, style_element_scanned, url_value}
use Rattle.html_step.proofs.ScriptSteps.{where-scripted}
use Rattle.html_step.proofs.StylePaths.{empty_css, style_value}
use Rattle.url_lexer.specs.Triples.{Triple, NoTriple, AfterPercent, AfterDigit}
use Rattle.html_step.proofs.ScriptElementSteps.{where-script-element}

no : true ≡ false → ⊥
no e = cc

-- where a value has not begun
abbrev pub has_begun : Quotes → Bool
has_begun (quotes.Bare s) = s.uq
has_begun q = true

abbrev EmptyBefore : Quotes → Body → Type 0
EmptyBefore q b = (p : Css) → has_begun q ≡ false → b ≡ body.Css p → p ≡ empty_css

abbrev IsEmptyBefore : Scan → Type 0
IsEmptyBefore (At (place.Value v)) = EmptyBefore v.quotes v.body
IsEmptyBefore f = Unit {0}

first-empty : (second : Bool) (f : Scan) → IsEmptyBefore f → WhereScanned (if second then None else Some f) IsEmptyBefore
first-empty true f h = tt
first-empty false f h = h

content-empty : (h : Pending) (e : Element) → WhereScanned (content_scanned h e) IsEmptyBefore
content-empty Nothing element.Title = tt
content-empty Nothing element.Textarea = tt
content-empty PendingLess element.Title = tt
content-empty PendingLess element.Textarea = tt
content-empty (PendingName l) element.Title = tt
content-empty (PendingName l) element.Textarea = tt
content-empty LessAtCut e = tt
content-empty PendingBang e = tt
content-empty PendingBangDash e = tt
content-empty (PendingOpening letters) e = tt
content-empty Nothing _ = tt
content-empty PendingLess _ = tt
content-empty (PendingName l) _ = tt

block-empty : (h : Pending) (e : Element) → WhereScanned (block_scanned h e) IsEmptyBefore
block-empty Nothing element.DataBlock = tt
block-empty LessAtCut element.DataBlock = tt
block-empty PendingLess element.DataBlock = tt
block-empty (PendingName l) element.DataBlock = tt
block-empty PendingBang element.DataBlock = tt
block-empty PendingBangDash element.DataBlock = tt
block-empty (PendingOpening letters) element.DataBlock = tt
block-empty Nothing _ = tt
block-empty LessAtCut _ = tt
block-empty PendingLess _ = tt
block-empty (PendingName l) _ = tt
block-empty PendingBang _ = tt
block-empty PendingBangDash _ = tt
block-empty (PendingOpening letters) _ = tt

one-css : (p q : Css) → body.Css p ≡ body.Css q → q ≡ p
one-css p q e = cc

before-empty : (t : Tag) (k : Kind) → WhereScanned (scanned (BeforeAttributeValue t k)) IsEmptyBefore
before-empty t kind.Plain = λ p n e. cc
before-empty t kind.NoHole = λ p n e. cc
before-empty t kind.Url = λ p n e. cc
before-empty t kind.Script = λ p n e. cc
before-empty t kind.Style = λ p n e. one-css empty_css p e
before-empty t kind.ScriptType = first-empty t.typed (BeforeType t.tag) tt

begun : (q : Quoting) → has_begun (quotes_at q) ≡ true
begun DoubleQuoted = refl
begun SingleQuoted = refl
begun Unquoted = refl

never : (q : Quoting) (b : Body) → EmptyBefore (quotes_at q) b
never q b p n e = absurd (no (sym (begun q) ∙ n))

url-empty : (t : Tag) (q : Quoting) (s : Parts) (x : Triple) (r : Reference) → IsEmptyBefore (url_scan (url_value t (quotes_at q) s) x r)
url-empty t q s NoTriple Closed = never q (body.Url s)
url-empty t q s NoTriple (Open f bytes) = tt
url-empty t q s AfterPercent r = tt
url-empty t q s AfterDigit r = tt

start-empty : (t : Tag) (q : Quoting) (n : StyleScan) (x : Bool)
    → IsEmptyBefore (if x then At (with_style (style_value t (quotes_at q)) n) else InStyle (style_value t (quotes_at q)) n Closed)
start-empty t q n true = never q (body.Css _)
start-empty t q n false = tt

scan-empty : (t : Tag) (q : Quoting) (n : StyleScan) (r : Reference) → IsEmptyBefore (style_scan (style_value t (quotes_at q)) n r)
scan-empty t q n Closed = start-empty t q n (is_style_start n)
scan-empty t q n (Open f bytes) = tt

style-empty : (t : Tag) (q : Quoting) (o : Option StyleScan) (r : Reference)
    → WhereScanned (option_map (λ n. style_scan (style_value t (quotes_at q)) n r) o) IsEmptyBefore
style-empty t q (Some n) r = scan-empty t q n r
style-empty t q None r = tt

value-empty : (q : Quoting) (t : Tag) (v : Value ValueState) (r : Reference) → WhereScanned (scanned (AttributeValue q t v r)) IsEmptyBefore
value-empty q t (ValueOf (OfKind kind.Plain)) r = never q body.Plain
value-empty q t (ValueOf (OfKind kind.NoHole)) r = never q body.NoHole
value-empty q t (ValueOf (OfKind _)) r = tt
value-empty q t (ValueOf (OfStyle s)) r = style-empty t q (style_scanned s) r
value-empty q t (ValueOf (OfScript s)) r =
    where-scripted q t s r IsEmptyBefore (λ j e h. never q (body.Js j)) (λ n h. tt)
value-empty q t (ValueOf (OfUrl u)) r = url-empty t q (parts_of u.part) u.triple r
value-empty q t (Deciding kind.ScriptType before) r = first-empty t.typed (InType t.tag q (Deciding kind.ScriptType before) r) tt
value-empty q t (Deciding _ before) r = tt

-- in the element `style` no value has not begun
loose-empty : (x : Bool) (n : StyleScan) → IsEmptyBefore (if x then At (place.Style (style_scan_place n)) else InStyleElement n Nothing)
loose-empty true n = tt
loose-empty false n = tt

element-empty : (h : Pending) (o : Option StyleScan) → WhereScanned (style_element_scanned h o) IsEmptyBefore
element-empty Nothing (Some n) = loose-empty (is_style_start n) n
element-empty PendingLess (Some n) = tt
element-empty (PendingName l) (Some n) = tt
element-empty LessAtCut (Some n) = tt
element-empty PendingBang (Some n) = tt
element-empty PendingBangDash (Some n) = tt
element-empty (PendingOpening letters) (Some n) = tt
element-empty h None = tt

language-empty : (h : Pending) (e : Element) (v : ValueState) → WhereScanned (language_scanned h e v) IsEmptyBefore
language-empty h element.Style (OfStyle s) = element-empty h (style_scanned s)
language-empty h element.Style (OfKind k) = tt
language-empty h element.Style (OfUrl u) = tt
language-empty h element.Style (OfScript v) = tt
language-empty h element.Script (OfScript v) = where-script-element h v IsEmptyBefore (λ j e i. tt) (λ n i. tt)
language-empty h element.Script (OfKind k) = tt
language-empty h element.Script (OfUrl u) = tt
language-empty h element.Script (OfStyle s) = tt
language-empty h _ v = tt

own-empty : (s : LexState ValueState) → WhereScanned (scanned s) IsEmptyBefore
own-empty (Text r) = tt
own-empty (TagOpen r) = tt
own-empty (EndTagOpen r) = tt
own-empty (DeclarationOpen r pending) = tt
own-empty (InComment Inside) = tt
own-empty (InComment Broken) = tt
own-empty (InComment _) = tt
own-empty BogusComment = tt
own-empty InDoctype = tt
own-empty (TagName ends name) = tt
own-empty (WholeTagName t) = tt
own-empty (BeforeAttributeName t) = tt
own-empty (AttributeName t name) = tt
own-empty (WholeAttributeName t k) = first-empty (is_second_type t.typed k) (At (place.Tag (tag_spot t only_inside (Some k)))) tt
own-empty (AfterAttributeName t k) = first-empty (is_second_type t.typed k) (At (place.Tag (tag_spot t only_after (Some k)))) tt
own-empty (BeforeAttributeValue t k) = before-empty t k
own-empty (AttributeValue q t v r) = value-empty q t v r
own-empty (AfterAttributeValue t) = tt
own-empty (SelfClosingStartTag t) = tt
own-empty (InContent e (Characters r) p) = content-empty p e
own-empty (InContent e Bytes p) = block-empty p e
own-empty (InContent e (InLanguage v) p) = language-empty p e v

pub own-unbegun : (v : ValuePlace) (p : Css) → IsOwn (At (place.Value v)) → has_begun v.quotes ≡ false → v.body ≡ body.Css p → p ≡ empty_css
own-unbegun v p h n e = subst (λ (o : Option Scan). WhereScanned o IsEmptyBefore) h.1 (own-empty h.0) p n e
