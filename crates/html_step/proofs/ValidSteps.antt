-- A step leads from what is valid to what is valid.
use Rattle.std.proofs.Common.{◌≡◌, inl, ℕ, Bool, true, false, ◌||◌, List, [], ◌∷◌, ◌++◌, codes, Option, Some, None, if◌then◌else◌, refl, sym, subst}
use Rattle.place_core.specs.page.Classes.{Class, White, QuotationMark, Apostrophe, Solidus, LessThan, EqualsSign, GreaterThan, Letter, ExclamationMark, HyphenMinus}
use Rattle.place_core.specs.page.Comments.{Declaration, OpensComment, OpensDoctype, Undecided, OpensNothing, closes_comment, declared_by, next_comment}
use Rattle.place_core.specs.page.Contents.{ScriptStep, Reads, EndsContent, is_name_of, may_be_name_of, pending_bytes}
use Rattle.place_core.specs.place.Places.{IsValid, IsValidBody, IsValidTag, is_rcdata}
use Rattle.place_core.specs.page.States.{CommentState, Inside, Broken, Pending, Nothing, PendingLess, PendingName, PendingBang, PendingBangDash, PendingOpening, LessAtCut}
use Rattle.place_core.specs.page.Tags.{tag_of_name, element_on, feed_bytes, Quoting, DoubleQuoted, SingleQuoted, Unquoted, Value, ValueState}
use Rattle.place_core.specs.page.Words.{kind_of}
use Rattle.place_core.specs.declared.element.Element.{Element}
use Rattle.place_core.specs.declared.element.Element.TheVariants as element
use Rattle.place_core.specs.declared.kind.Kind.{Kind}
use Rattle.place_core.specs.declared.kind.Kind.TheVariants as kind
use Rattle.place_core.specs.declared.place.Place.{Place}
use Rattle.place_core.specs.declared.place.Place.TheVariants as place
use Rattle.place_core.specs.declared.quotes.Quotes.{Quotes}
use Rattle.place_core.specs.declared.quotes.Quotes.TheVariants as quotes
use Rattle.place_core.specs.declared.tag_of.TagOf.{TagOf}
use Rattle.place_core.specs.declared.tag_of.TagOf.TheVariants as tag
use Rattle.place_core.specs.declared.tag_place.TagPlace.{TagPlace}
use Rattle.place_core.specs.declared.value_place.ValuePlace.{ValuePlace}
use Rattle.html_scan.specs.Scans.{Scan, At, AfterLess, AfterLessSolidus, InDeclaration, InTagName, InAttributeName, InUrl, InStyle, InScript, InScriptElement, InStyleElement, InCommentEnd, InContentEnd, behind_end_name, scan_by_step, script_scan_step, element_less_next, element_name_next, element_next, element_pending_next, released_next, attribute_name_next, bare_begun, bare_white, comment_closed, comment_scan, comment_next, comment_state, content_end_next, content_scan, content_next, declaration_next, end_name_next, scan_next, scan_place, tag_name_next, tag_next, value_scan, BeforeType, InType, rest_place, content_end_place, pending_less_next, before_type_next, after_type, type_next, type_begun, type_tag, ended_type, parts_feeding, parts_with, triple_behind, url_scan, value_fed, with_parts, place_cause, scan_error, value_next, empty_style_between, quotes_lead, style_fed, style_feeding, style_scan, style_value_next, value_between, with_style, script_fed_next, script_feeding, script_value_next}
use Rattle.html_step.proofs.ScanOrder.{HasBegun, ScanValid, UrlWithin, begun-valid}
use Rattle.html_step.proofs.ScriptElementOrder.{ScriptStepValid, element-byte-valid}
use Rattle.html_step.proofs.ScriptOrder.{script-fed-valid, script-start-valid}
use Rattle.html_step.proofs.ScriptPaths.{empty_js}
use Rattle.html_step.proofs.StyleOrder.{start-valid, style-fed-valid}
use Rattle.js_step.specs.ScriptScans.{ScriptScan, script_scan_start}
use Rattle.js_step.specs.ScriptValidity.{IsScriptScan}
use Rattle.js_step.proofs.ValidScripts.{scripts-stay-valid}
use Rattle.html_step.proofs.StylePaths.{empty_css}
use Rattle.html_step.proofs.UrlOrder.{fed-valid}
use Rattle.css_step.specs.StyleScans.{StyleScan, is_style_start, style_scan_place, style_scan_start}
use Rattle.place_core.specs.place.LanguagePlaces.{IsValidCss}
use Rattle.place_core.specs.page.Html.{ends_value}
use Rattle.place_core.specs.page.References.{Reference, Closed, Open, as_it_stands, next_reference, undone_byte}
use Rattle.place_core.specs.declared.body.Body.{Body}
use Rattle.place_core.specs.declared.body.Body.TheVariants as body
use Rattle.url_lexer.specs.Triples.{Triple, NoTriple, AfterPercent, AfterDigit}

some-white : (n b i a : Bool) → (n || (b || (i || a))) ≡ true → ((n || b) || (i || a)) ≡ true
some-white true b i a h = refl
some-white false true i a h = refl
some-white false false i a h = h

content-valid : (t : TagOf) → ScanValid (content_scan t)
content-valid tag.End = tt
content-valid (tag.Start element.Title) = refl
content-valid (tag.Start element.Textarea) = refl
content-valid (tag.Start element.DataBlock) = tt
content-valid (tag.Start element.Script) = refl
content-valid (tag.Start _) = tt

begins-valid : (t : TagOf) (typed : Bool) (k : Kind) → ScanValid (value_scan t typed (Some k))
begins-valid t typed kind.Plain = (refl, tt)
begins-valid t typed kind.NoHole = (refl, tt)
begins-valid t typed kind.Url = (refl, (refl, tt))
begins-valid t typed kind.Style = (refl, tt)
begins-valid t typed kind.Script = (refl, refl)
begins-valid t typed kind.ScriptType = tt

equals-valid : (t : TagOf) (typed : Bool) (o : Option Kind) → ScanValid (value_scan t typed o)
equals-valid t typed (Some k) = begins-valid t typed k
equals-valid t typed None = tt

tag-valid : (t : TagPlace) (c : Class) (b : ℕ) → IsValidTag t → ScanValid (tag_next t c b)
tag-valid t White b v = (some-white t.spots.name t.spots.before t.spots.inside t.spots.after v.0, v.1)
tag-valid t Solidus b v = (refl, refl)
tag-valid t GreaterThan b v = content-valid t.tag
tag-valid t EqualsSign b v = equals-valid t.tag t.typed t.kind
tag-valid t _ b v = tt

-- values
white-valid : (v : ValuePlace) (uq : Bool) → IsValidBody v.body → ScanValid (bare_white v uq)
white-valid v true h = (refl, refl)
white-valid v false h = (refl, h)

pub within-valid : (b : Body) → UrlWithin b → IsValidBody b
within-valid (body.Url s) w = w
within-valid _ w = absurd w

pub with-within : (b : Body) (bytes : List ℕ) → UrlWithin b → UrlWithin (parts_with b bytes)
with-within (body.Url s) bytes w = fed-valid bytes s w
with-within _ bytes w = absurd w

pub url-valid : (v : ValuePlace) (t : Triple) (r : Reference) → HasBegun v.quotes → UrlWithin v.body → ScanValid (url_scan v t r)
url-valid v NoTriple Closed g w = (begun-valid v.quotes g, within-valid v.body w)
url-valid v NoTriple (Open f bytes) g w = (g, w)
url-valid v AfterPercent r g w = (g, w)
url-valid v AfterDigit r g w = (g, w)

style-valid-by : (v : ValuePlace) (n : StyleScan) (x : Bool) → HasBegun v.quotes → v.body ≡ body.Css empty_css → IsValidCss (style_scan_place n)
    → ScanValid (if x then At (with_style v n) else InStyle v n Closed)
style-valid-by v n true g e w = (begun-valid v.quotes g, w)
style-valid-by v n false g e w = (g, e, w)

pub style-valid : (v : ValuePlace) (n : StyleScan) (r : Reference) → HasBegun v.quotes → v.body ≡ body.Css empty_css → IsValidCss (style_scan_place n)
    → ScanValid (style_scan v n r)
style-valid v n Closed g e w = style-valid-by v n (is_style_start n) g e w
style-valid v n (Open f bytes) g e w = (g, e, w)

fed-value-valid : (v : ValuePlace) (q : Quotes) (x : Body) (t : Triple) (r : Reference) (c : Class) (b : ℕ) → HasBegun q → IsValidBody v.body → IsValidBody x
    → ScanValid (value_fed v q x t r c b)
fed-value-valid v q (body.Url s) t r c b g h k =
    let bytes = undone_byte true r c b in
    url-valid (with_parts v q (feed_bytes parts_feeding s bytes)) (triple_behind t bytes) (next_reference r c b) g (fed-valid bytes s k)
fed-value-valid v q (body.Css p) t r c b g h k =
    let bytes = undone_byte true r c b in
    style-valid (empty_style_between v q) (feed_bytes style_feeding (style_scan_start p) bytes) (next_reference r c b) g refl
    (style-fed-valid bytes (style_scan_start p) (start-valid p k))
fed-value-valid v q (body.Js p) t r c b g h k = (g, refl, script-fed-valid (undone_byte true r c b) (script_scan_start p) (script-start-valid p k))
fed-value-valid v q _ t r c b g h k = (begun-valid q g, h)

-- a byte of a value, by its quotes
lead-valid : (v : ValuePlace) (q : Quotes) (c : Class) (f : Quotes → Scan) → IsValidBody v.body → ((p : Quotes) → HasBegun p → ScanValid (f p))
    → ScanValid (quotes_lead v q c f)
lead-valid v quotes.Dq QuotationMark f h g = (refl, refl)
lead-valid v quotes.Dq c f h g = g quotes.Dq tt
lead-valid v quotes.Sq Apostrophe f h g = (refl, refl)
lead-valid v quotes.Sq c f h g = g quotes.Sq tt
lead-valid v (quotes.Bare s) White f h g = white-valid v s.uq h
lead-valid v (quotes.Bare s) QuotationMark f h g = (tt, h)
lead-valid v (quotes.Bare s) Apostrophe f h g = (tt, h)
lead-valid v (quotes.Bare s) GreaterThan f h g = content-valid v.tag
lead-valid v (quotes.Bare s) c f h g = g bare_begun (refl, refl)

value-valid : (v : ValuePlace) (t : Triple) (r : Reference) (c : Class) (b : ℕ) → IsValidBody v.body → ScanValid (value_next v t r c b)
value-valid v t r c b h = lead-valid v v.quotes c (λ p. value_fed v p v.body t r c b) h (λ p g. fed-value-valid v p v.body t r c b g h h)

style-next-valid : (v : ValuePlace) (n : StyleScan) (r : Reference) (c : Class) (b : ℕ) → v.body ≡ body.Css empty_css → IsValidCss (style_scan_place n)
    → ScanValid (style_value_next v n r c b)
style-next-valid v n r c b e w =
    lead-valid v v.quotes c (λ p. style_fed (value_between v p) n r c b) (subst IsValidBody (sym e) tt)
    (λ p g. let bytes = undone_byte true r c b in
    style-valid (value_between v p) (feed_bytes style_feeding n bytes) (next_reference r c b) g e (style-fed-valid bytes n w))

script-next-valid : (v : ValuePlace) (n : ScriptScan) (r : Reference) (c : Class) (b : ℕ) → v.body ≡ body.Js empty_js → IsScriptScan n
    → ScanValid (script_value_next v n r c b)
script-next-valid v n r c b e w =
    lead-valid v v.quotes c (λ p. script_fed_next (value_between v p) n r c b) (subst IsValidBody (sym e) refl)
    (λ p g. (g, e, script-fed-valid (undone_byte true r c b) n w))

closed-valid : (closed : Bool) → ScanValid (comment_closed closed)
closed-valid true = tt
closed-valid false = tt

scan-of-valid : (s : CommentState) → ScanValid (comment_scan s)
scan-of-valid Inside = tt
scan-of-valid Broken = tt
scan-of-valid _ = tt

comment-valid : (s : CommentState) (c : Class) → ScanValid (comment_next c s)
comment-valid s GreaterThan = closed-valid (closes_comment s)
comment-valid s _ = scan-of-valid (next_comment s _)

loose-valid : (c : Class) (e : Element) → IsValid (rest_place e) → ScanValid (content_next c e)
loose-valid LessThan e v = v
loose-valid _ e v = v

pending-less-valid : (c : Class) (e : Element) → IsValid (rest_place e) → ScanValid (pending_less_next c e)
pending-less-valid Solidus e v = v
pending-less-valid ExclamationMark element.DataBlock v = v
pending-less-valid ExclamationMark element.Title v = v
pending-less-valid ExclamationMark element.Textarea v = v
pending-less-valid ExclamationMark element.Script v = v
pending-less-valid ExclamationMark element.Style v = v
pending-less-valid ExclamationMark element.Other v = v
pending-less-valid LessThan e v = v
pending-less-valid _ e v = v

rcdata-rest : (e : Element) → is_rcdata e ≡ true → IsValid (rest_place e)
rcdata-rest element.DataBlock v = tt
rcdata-rest element.Title v = v
rcdata-rest element.Textarea v = v
rcdata-rest element.Script v = v
rcdata-rest element.Style v = v
rcdata-rest element.Other v = v

-- in the element `style`
element-valid-by : (n : StyleScan) (x : Bool) → IsValidCss (style_scan_place n)
    → ScanValid (if x then At (place.Style (style_scan_place n)) else InStyleElement n Nothing)
element-valid-by n true v = v
element-valid-by n false v = (v, tt)

element-loose-valid : (c : Class) (b : ℕ) (n : StyleScan) → IsValidCss (style_scan_place n) → ScanValid (element_next n c b)
element-loose-valid LessThan b n v = (v, tt)
element-loose-valid _ b n v =
    let m = style_feeding.feed n b in element-valid-by m (is_style_start m) (style-fed-valid (b ∷ []) n v)

element-released-valid : (bytes : List ℕ) (c : Class) (b : ℕ) (n : StyleScan) → IsValidCss (style_scan_place n) → ScanValid (released_next n bytes c b)
element-released-valid bytes c b n v = element-loose-valid c b (feed_bytes style_feeding n bytes) (style-fed-valid bytes n v)

element-less-valid : (c : Class) (b : ℕ) (n : StyleScan) → IsValidCss (style_scan_place n) → ScanValid (element_less_next n c b)
element-less-valid Solidus b n v = (v, refl)
element-less-valid c b n v = element-released-valid (codes "<") c b n v

element-name-valid : (grows whole : Bool) (c : Class) (b : ℕ) (letters : List ℕ) (n : StyleScan)
    → may_be_name_of element.Style (letters ++ b ∷ []) ≡ grows → IsValidCss (style_scan_place n) → ScanValid (element_name_next n grows whole c b letters)
element-name-valid true whole (Letter l) b letters n e v = (v, e)
element-name-valid true true White b letters n e v = (refl, refl)
element-name-valid true true Solidus b letters n e v = (refl, refl)
element-name-valid true true GreaterThan b letters n e v = tt
element-name-valid true true c b letters n e v = element-released-valid (codes "</" ++ letters) c b n v
element-name-valid true false c b letters n e v = element-released-valid (codes "</" ++ letters) c b n v
element-name-valid false true White b letters n e v = (refl, refl)
element-name-valid false true Solidus b letters n e v = (refl, refl)
element-name-valid false true GreaterThan b letters n e v = tt
element-name-valid false true c b letters n e v = element-released-valid (codes "</" ++ letters) c b n v
element-name-valid false false c b letters n e v = element-released-valid (codes "</" ++ letters) c b n v

element-valid : (h : Pending) (c : Class) (b : ℕ) (n : StyleScan) → IsValidCss (style_scan_place n) → ScanValid (element_pending_next n h c b)
element-valid Nothing c b n v = element-loose-valid c b n v
element-valid PendingLess c b n v = element-less-valid c b n v
element-valid LessAtCut c b n v = element-released-valid (codes "<") c b n v
element-valid (PendingName letters) c b n v =
    element-name-valid (may_be_name_of element.Style (letters ++ b ∷ [])) (is_name_of element.Style letters) c b letters n refl v
element-valid PendingBang c b n v = element-released-valid (codes "<!") c b n v
element-valid PendingBangDash c b n v = element-released-valid (codes "<!-") c b n v
element-valid (PendingOpening letters) c b n v = element-released-valid (codes "<" ++ letters) c b n v

-- in the element `script`
behind-name-valid : (c : Class) → ScanValid (behind_end_name c)
behind-name-valid White = (refl, refl)
behind-name-valid Solidus = (refl, refl)
behind-name-valid c = tt

by-step-valid : (x : ScriptStep) (c : Class) (n : ScriptScan) → ScriptStepValid x n → ScanValid (scan_by_step n x c)
by-step-valid (Reads bytes h) c n v = v
by-step-valid (EndsContent letters) c n v = behind-name-valid c

place-valid : (p : Place) (c : Class) (b : ℕ) → IsValid p → place_cause p c b ≡ None → ScanValid (scan_next (At p) c b)
place-valid place.Text LessThan b v n = tt
place-valid place.Text _ b v n = tt
place-valid place.Doctype GreaterThan b v n = tt
place-valid place.Doctype _ b v n = tt
place-valid (place.Comment dash) c b v n = comment-valid (comment_state dash) c
place-valid (place.Rcdata e) c b v n = loose-valid c e (rcdata-rest e v)
place-valid (place.Tag t) c b v n = tag-valid t c b v
place-valid (place.Value x) c b v n = value-valid x NoTriple Closed c b v.1
place-valid (place.Script j) c b v n =
    by-step-valid (script_scan_step (script_scan_start j) Nothing c b) c (script_scan_start j)
    (element-byte-valid Nothing (script_scan_start j) c b (script-start-valid j v) (inl refl) n)
place-valid (place.Style j) c b v n = element-loose-valid c b (style_scan_start j) (start-valid j v)
place-valid (place.Block lt) c b v n = loose-valid c element.DataBlock tt

declaration-valid : (d : Declaration) (c : Class) (b : ℕ) (pending : List ℕ) → ScanValid (declaration_next d c b pending)
declaration-valid OpensComment c b pending = tt
declaration-valid OpensDoctype c b pending = tt
declaration-valid Undecided c b pending = tt
declaration-valid OpensNothing LessThan b pending = tt
declaration-valid OpensNothing _ b pending = tt

name-valid : (c : Class) (b : ℕ) (ends : Bool) (name : List ℕ) → ScanValid (tag_name_next c b ends name)
name-valid White b ends name = (refl, refl)
name-valid Solidus b ends name = (refl, refl)
name-valid GreaterThan b ends name = content-valid (tag_of_name ends name)
name-valid _ b ends name = tt

attribute-valid : (c : Class) (b : ℕ) (t : TagOf) (typed : Bool) (k : Kind) (name : List ℕ) → ScanValid (attribute_name_next c b t typed k name)
attribute-valid White b t typed k name = (refl, refl)
attribute-valid Solidus b t typed k name = (refl, refl)
attribute-valid GreaterThan b t typed k name = content-valid t
attribute-valid EqualsSign b t typed k name = begins-valid t typed k
attribute-valid _ b t typed k name = tt

end-name-valid : (grows whole : Bool) (c : Class) (b : ℕ) (e : Element) (letters : List ℕ) → IsValid (rest_place e)
    → ScanValid (end_name_next grows whole c b e letters)
end-name-valid true whole (Letter l) b e letters v = v
end-name-valid true true White b e letters v = (refl, refl)
end-name-valid true true Solidus b e letters v = (refl, refl)
end-name-valid true true GreaterThan b e letters v = tt
end-name-valid true true LessThan b e letters v = v
end-name-valid true true _ b e letters v = v
end-name-valid true false LessThan b e letters v = v
end-name-valid true false _ b e letters v = v
end-name-valid false true White b e letters v = (refl, refl)
end-name-valid false true Solidus b e letters v = (refl, refl)
end-name-valid false true GreaterThan b e letters v = tt
end-name-valid false true LessThan b e letters v = v
end-name-valid false true _ b e letters v = v
end-name-valid false false LessThan b e letters v = v
end-name-valid false false _ b e letters v = v

content-end-valid : (h : Pending) (c : Class) (b : ℕ) (e : Element) → IsValid (rest_place e) → ScanValid (content_end_next h c b e)
content-end-valid PendingLess c b e v = pending-less-valid c e v
content-end-valid (PendingName letters) c b e v = end-name-valid (may_be_name_of e (letters ++ b ∷ [])) (is_name_of e letters) c b e letters v
content-end-valid Nothing c b e v = loose-valid c e v
content-end-valid PendingBang HyphenMinus b e v = v
content-end-valid PendingBang LessThan b e v = v
content-end-valid PendingBang _ b e v = v
content-end-valid LessAtCut c b e v = loose-valid c e v
content-end-valid PendingBangDash c b e v = loose-valid c e v
content-end-valid (PendingOpening letters) c b e v = loose-valid c e v

before-type-valid : (t : TagOf) (c : Class) (b : ℕ) → ScanValid (before_type_next c b t)
before-type-valid t GreaterThan b = content-valid (type_tag t type_begun)
before-type-valid t _ b = tt

after-type-valid : (q : Quoting) (c : Class) (t : TagOf) → ScanValid (after_type q c t)
after-type-valid Unquoted GreaterThan t = content-valid t
after-type-valid Unquoted _ t = (refl, refl)
after-type-valid DoubleQuoted c t = (refl, refl)
after-type-valid SingleQuoted c t = (refl, refl)

type-valid : (ends : Bool) (t : TagOf) (q : Quoting) (w : Value ValueState) (r : Reference) (c : Class) (b : ℕ) → ScanValid (type_next ends c b t q w r)
type-valid true t q w r c b = after-type-valid q c (type_tag t (ended_type w r))
type-valid false t q w r c b = tt

pub scan-valid : (f : Scan) (c : Class) (b : ℕ) → ScanValid f → scan_error f c b ≡ None → ScanValid (scan_next f c b)
scan-valid (At p) c b v n = place-valid p c b v n
scan-valid AfterLess Solidus b v n = tt
scan-valid AfterLess LessThan b v n = tt
scan-valid AfterLess _ b v n = tt
scan-valid AfterLessSolidus LessThan b v n = tt
scan-valid AfterLessSolidus _ b v n = tt
scan-valid (InDeclaration pending) c b v n = declaration-valid (declared_by (pending ++ b ∷ [])) c b pending
scan-valid (InUrl x t r) c b v n = value-valid x t r c b (within-valid x.body v.1)
scan-valid (InStyle x s r) c b v n = style-next-valid x s r c b v.1 v.2
scan-valid (InScript x s r) c b v n = script-next-valid x s r c b v.1 v.2
scan-valid (InTagName ends name) c b v n = name-valid c b ends name
scan-valid (InAttributeName t typed name) c b v n = attribute-valid c b t typed (kind_of (element_on t) name) name
scan-valid (InCommentEnd s) c b v n = comment-valid s c
scan-valid (InContentEnd e h) c b v n = content-end-valid h c b e v
scan-valid (InStyleElement s h) c b v n = element-valid h c b s v.0
scan-valid (InScriptElement k h) c b v n = by-step-valid (script_scan_step k h c b) c k (element-byte-valid h k c b v.0 v.1 n)
scan-valid (BeforeType t) c b v n = before-type-valid t c b
scan-valid (InType t q w r) c b v n = type-valid (ends_value q c) t q w r c b

-- and so is the place at which a text ends
content-end-place-valid : (e : Element) (h : Pending) → IsValid (rest_place e) → IsValid (content_end_place e h)
content-end-place-valid element.DataBlock PendingLess v = tt
content-end-place-valid element.DataBlock _ v = v
content-end-place-valid element.Title h v = v
content-end-place-valid element.Textarea h v = v
content-end-place-valid element.Script h v = v
content-end-place-valid element.Style h v = v
content-end-place-valid element.Other h v = v

pub end-valid : (f : Scan) → ScanValid f → IsValid (scan_place f)
end-valid (At p) v = v
end-valid (InUrl x t r) v = (begun-valid x.quotes v.0, within-valid (parts_with x.body (as_it_stands r)) (with-within x.body (as_it_stands r) v.1))
end-valid (InStyle x s r) v = (begun-valid x.quotes v.0, style-fed-valid (as_it_stands r) s v.2)
end-valid (InScript x s r) v = (begun-valid x.quotes v.0, scripts-stay-valid.place (feed_bytes script_feeding s (as_it_stands r)) (script-fed-valid (as_it_stands r) s v.2))
end-valid AfterLess v = tt
end-valid AfterLessSolidus v = tt
end-valid (InDeclaration pending) v = tt
end-valid (InTagName ends name) v = (refl, refl)
end-valid (InAttributeName t typed name) v = (refl, refl)
end-valid (InCommentEnd s) v = tt
end-valid (InContentEnd e h) v = content-end-place-valid e h v
end-valid (InStyleElement s h) v = style-fed-valid (pending_bytes h) s v.0
end-valid (InScriptElement k h) v = scripts-stay-valid.place (feed_bytes script_feeding k (pending_bytes h)) (script-fed-valid (pending_bytes h) k v.0)
end-valid (BeforeType t) v = tt
end-valid (InType t q w r) v = tt
