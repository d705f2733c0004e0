-- Paths in the beginning of a URL, be it in a value or in the element `style`: what keeps them there, what the reference before a byte has to do with it, and the path of which it is not known
-- what it has spelled.
use Rattle.std.proofs.Common.{◌≡◌, ℕ, Bool, true, false, List, [], ◌∷◌, ◌++◌, Option, Some, None, ◌&&◌, codes, is_some, option_map, if◌then◌else◌, refl, sym, ap, ◌∙◌, subst, inl, inr}
use Rattle.place_core.specs.page.Classes.{Class, White, ExclamationMark, HyphenMinus, Solidus, LessThan, GreaterThan, Letter, is_equals_sign, class_of}
use Rattle.place_core.specs.page.Contents.{content_after, is_name_of, may_be_name_of, next_bang, next_end_name, next_in_content, next_less, next_loose, pending_bytes}
use Rattle.place_core.specs.page.Html.{next, next_value, next_after_value, next_before_name, after_tag, ends_value}
use Rattle.place_core.specs.page.Paths.{at_cut}
use Rattle.place_core.specs.page.References.{Reference, Closed, Open, Form, ReferenceStep, Grows, Closes, Breaks, turn, flushed, plain_bytes, undone_byte, next_reference, settled, as_it_stands}
use Rattle.place_core.specs.page.States.{Template, LexState, Text, TagOpen, EndTagOpen, DeclarationOpen, Started, StartedDash, Inside, Dash, DashDash, Bang, Broken, InComment, BogusComment, InDoctype, TagName, WholeTagName, BeforeAttributeName, AttributeName, WholeAttributeName, AfterAttributeName, BeforeAttributeValue, AttributeValue, AfterAttributeValue, SelfClosingStartTag, Characters, Bytes, InLanguage, Pending, Nothing, PendingLess, LessAtCut, PendingName, PendingBang, PendingBangDash, PendingOpening, InContent}
use Rattle.place_core.specs.page.Tags.{Tag, is_second_type, Value, ValueOf, Deciding, ValueState, OfKind, OfUrl, OfStyle, languages, end_tag, fed_state, with_bytes, tag_with_value, cut_value, feed_value, Quoting, DoubleQuoted, SingleQuoted, Unquoted, OfScript}
use Rattle.place_core.specs.place.ApartPlaces.{beginning_at, beginning_in_body, beginning_in_css, side}
use Rattle.place_core.specs.place.Errors.{node, value_before}
use Rattle.place_core.specs.place.Membership.{Bears}
use Rattle.place_core.specs.place.PathPairs.{ApartBefore, ClashesApart, Keeps, PartWithin, is_in_open, read_before, state_before, is_in_beginning, unknown_beginning, url_in_style}
use Rattle.place_core.specs.place.UrlParts.{parts_of}
use Rattle.place_core.specs.place.StyleParts.{style_body, style_css}
use Rattle.place_core.specs.place.StatePlaces.{placed, value_spot, quotes_at}
use Rattle.place_core.specs.declared.code.Code.{Code}
use Rattle.place_core.specs.declared.body.Body.{Body}
use Rattle.place_core.specs.declared.body.Body.TheVariants as body
use Rattle.place_core.specs.declared.css.Css.{Css}
use Rattle.place_core.specs.declared.css.Css.TheVariants as css
use Rattle.place_core.specs.declared.element.Element.{Element}
use Rattle.place_core.specs.declared.element.Element.TheVariants as element
use Rattle.place_core.specs.declared.kind.Kind.TheVariants as kind
use Rattle.place_core.specs.declared.parts.Parts.{Parts}
use Rattle.place_core.specs.declared.place.Place.{Place}
use Rattle.place_core.specs.declared.place.Place.TheVariants as place
use Rattle.place_core.specs.declared.quotes.Quotes.{Quotes}
use Rattle.place_core.specs.declared.tag_of.TagOf.{TagOf}
use Rattle.place_core.specs.declared.tag_of.TagOf.TheVariants as tag
use Rattle.place_core.specs.declared.tag_place.TagPlace.{TagPlace}
use Rattle.place_core.specs.declared.value_place.ValuePlace.{ValuePlace}
use Rattle.place_core.proofs.ApartPlacesFacts.{has-side, turned-apart}
use Rattle.place_core.proofs.Semilattices.{none_some, one_value}
use Rattle.css_lexer.specs.States.{Style}
use Rattle.place_core.specs.place.ScriptParts.{script_js}
use Rattle.html_step.proofs.Parentheses.{NoOpening, OpensAtEnds, ReferenceOpensNone, ends-before, flushed-opens, last-ends, next-opens, plain-last, stands-ends, step-ends}
use Rattle.html_step.proofs.EndTagNames.{hyphen-opens-none, last-nil, less-opens-none, name-opens-none, no-opening-more, no-opening-nil, opens-behind, opens-last, solidus-opens-none}
use Rattle.html_step.proofs.StylePaths.{ends-no-equals}
use Rattle.html_step.specs.Origins.{loose_fed}
use Rattle.html_step.proofs.UrlPlaces.{body_url, element-url-part, url-part}
use Rattle.html_step.proofs.ValueBeginnings.{away-bytes, begins_in, begun-before, cut-begins, cut-unknown, fed-more, fed_value, first-or, is_away, unknown-bytes, unknown_value, with-value}
use Rattle.url_lexer.specs.Parts.{UrlPart, UrlStart, UrlOpen, UrlOpenhole, UrlPrequery, UrlQuery, UrlBad}
use Rattle.url_lexer.specs.States.{Url, feed_url}
use Rattle.url_lexer.specs.Spots.{where_whole}
use Rattle.url_lexer.specs.Triples.{Triple, NoTriple, AfterPercent, AfterDigit}
use Rattle.url_lexer.specs.TwoPaths.{is_open}
use Rattle.place_core.specs.declared.js.Js.{Js}

no : false ≡ true → ⊥
no e = cc

-- The reference before a byte.
pub with-append : (xs ys : List ℕ) (v : Value ValueState) → with_bytes languages v (xs ++ ys) ≡ with_bytes languages (with_bytes languages v xs) ys
with-append [] ys v = refl
with-append (x ∷ xs) ys (ValueOf v) = with-append xs ys _
with-append (x ∷ xs) ys (Deciding k before) = with-append xs ys _

broken-next : (e : Bool) (q : Quoting) (t : Tag) (v : Value ValueState) (f : Form) (bytes : List ℕ) (c : Class) (b : ℕ) → ends_value q c ≡ e → turn c f ≡ Breaks
    → next_value languages e q c b t (value_before Breaks v c f bytes) Closed ≡ next_value languages e q c b t v (Open f bytes)
broken-next true q t v f bytes c b e h =
    ap (λ (x : Bool). next_after_value languages q c b (tag_with_value t (with_bytes languages v (flushed true x f bytes)))) (ends-no-equals q c e)
broken-next false q t v f bytes c b e h =
    rw h (ap (λ (x : Value ValueState). AttributeValue q t x (next_reference Closed c b)) (sym (with-append (flushed true (is_equals_sign c) f bytes) (plain_bytes c b) v)))

before-by : (x : ReferenceStep) (q : Quoting) (t : Tag) (v : Value ValueState) (f : Form) (bytes : List ℕ) (c : Class) (b : ℕ) → turn c f ≡ x
    → next languages Template (read_before x (AttributeValue q t (value_before Breaks v c f bytes) Closed) (AttributeValue q t v (Open f bytes))) c b
    ≡ next languages Template (AttributeValue q t v (Open f bytes)) c b
before-by (Grows g) q t v f bytes c b h = refl
before-by Closes q t v f bytes c b h = refl
before-by Breaks q t v f bytes c b h = broken-next (ends_value q c) q t v f bytes c b refl h

pub before-next : (s : LexState ValueState) (b : ℕ) (bs : List ℕ)
    → next languages Template (state_before s (b ∷ bs)) (class_of b) b ≡ next languages Template s (class_of b) b
before-next (AttributeValue q t v (Open f bytes)) b bs = before-by (turn (class_of b) f) q t v f bytes (class_of b) b refl
before-next (AttributeValue q t v Closed) b bs = refl
before-next _ b bs = refl

pub before-none : (s : LexState ValueState) → state_before s [] ≡ s
before-none (AttributeValue q t v (Open f bytes)) = refl
before-none (AttributeValue q t v Closed) = refl
before-none _ = refl

pub before-node : (bytes : List ℕ) (s : LexState ValueState) → node bytes (state_before s bytes) ≡ node bytes s
before-node [] s = ap (node []) (before-none s)
before-node (b ∷ bs) s = ap (node bs) (before-next s b bs)

-- what was kept, and the two sides
pub stays-there : (bytes : List ℕ) (s : LexState ValueState) → Keeps bytes s → Bears (node bytes s) side
stays-there [] s h = h
stays-there (b ∷ bs) s h = stays-there bs (next languages Template s (class_of b) b) h.1

kept-before : (bytes : List ℕ) (s : LexState ValueState) → Keeps bytes (state_before s bytes) → Bears (node bytes s) side
kept-before bytes s h = subst (λ (x : LexState ValueState). Bears x side) (before-node bytes s) (stays-there bytes (state_before s bytes) h)

pub sides-within : (bytes : List ℕ) (s r : LexState ValueState) → PartWithin bytes s r → Bears (node bytes s) side × Bears (node bytes r) side
sides-within [] s r h = absurd h
sides-within (b ∷ bs) s r (inl h) =
    (kept-before bs (next languages Template s (class_of b) b) h.1, kept-before bs (next languages Template r (class_of b) b) h.2)
sides-within (b ∷ bs) s r (inr h) = sides-within bs (next languages Template s (class_of b) b) (next languages Template r (class_of b) b) h

-- it does not matter which one is first
pub turned-before : (bytes : List ℕ) (s r : LexState ValueState) → ApartBefore bytes s r → ApartBefore bytes r s
turned-before bytes s r h = record {
  own = h.other_own;
  other_own = h.own;
  stands = h.other_stands;
  other_stands = h.stands;
  between = h.other_between;
  other_between = h.between;
  apart = turned-apart h.own h.other_own h.apart;
}

pub turned-within : (bytes : List ℕ) (s r : LexState ValueState) → PartWithin bytes s r → PartWithin bytes r s
turned-within [] s r h = h
turned-within (b ∷ bs) s r (inl h) =
    inl (turned-before bs (next languages Template s (class_of b) b) (next languages Template r (class_of b) b) h.0, h.2, h.1)
turned-within (b ∷ bs) s r (inr h) = inr (turned-within bs (next languages Template s (class_of b) b) (next languages Template r (class_of b) b) h)

pub turned-clash : (bytes : List ℕ) (s r : LexState ValueState) (e : Code) (at : ℕ) → ClashesApart bytes s r e at → ClashesApart bytes r s e at
turned-clash bytes s r e at h = record { is = h.is; one = h.other; other = h.one }

-- A path that bears the side is in the beginning.
abbrev pub on_side : Option Place → Bool
on_side None = false
on_side (Some p) = is_some (beginning_at p)

url-begins : (t : Tag) (q : Quotes) (x : Triple) (p : UrlPart)
    → on_side (value_spot t q (option_map (λ (a : UrlPart). body.Url (parts_of a)) (where_whole x p))) ≡ true → is_open p ≡ true
url-begins t q NoTriple UrlStart h = h
url-begins t q NoTriple (UrlOpen p) h = h
url-begins t q NoTriple UrlOpenhole h = h
url-begins t q NoTriple UrlPrequery h = h
url-begins t q NoTriple UrlQuery h = h
url-begins t q NoTriple UrlBad h = h
url-begins t q AfterPercent p h = absurd (no h)
url-begins t q AfterDigit p h = absurd (no h)

-- in a style
record BodyBegins (b : Body) : Type 0 where
  parts : Parts
  is : body_url b ≡ Some parts
  opened : is_some parts.opened ≡ true

css-begins : (c : Css) → is_some (beginning_in_css c) ≡ true → BodyBegins (body.Css c)
css-begins (css.Url s) h = record { parts = s; is = refl; opened = h }
css-begins (css.UrlDq s) h = record { parts = s; is = refl; opened = h }
css-begins (css.UrlSq s) h = record { parts = s; is = refl; opened = h }
css-begins (css.Code x) h = absurd (no h)
css-begins css.Dq h = absurd (no h)
css-begins css.Sq h = absurd (no h)
css-begins css.UrlFresh h = absurd (no h)
css-begins css.UrlEnd h = absurd (no h)
css-begins (css.Comment star) h = absurd (no h)

body-begins : (b : Body) → is_some (beginning_in_body b) ≡ true → BodyBegins b
body-begins (body.Url s) h = record { parts = s; is = refl; opened = h }
body-begins (body.Css c) h = css-begins c h
body-begins (body.Js j) h = absurd (no h)
body-begins body.Plain h = absurd (no h)
body-begins body.NoHole h = absurd (no h)

part-opened : (p : UrlPart) → is_some (parts_of p).opened ≡ true → is_open p ≡ true
part-opened (UrlOpen p) h = refl
part-opened UrlStart h = absurd (no h)
part-opened UrlOpenhole h = absurd (no h)
part-opened UrlPrequery h = absurd (no h)
part-opened UrlQuery h = absurd (no h)
part-opened UrlBad h = absurd (no h)

open-by : (o : Option Url) (p : UrlPart) → option_map (λ (u : Url). u.part) o ≡ Some p → is_open p ≡ true → is_in_open o ≡ true
open-by (Some u) p e h = ap is_open (one_value u.part p e) ∙ h
open-by None p e h = absurd (none_some p e)

style-begins : (q : Quoting) (t : Tag) (s : Style Url) (o : Option Body) → style_body s ≡ o → on_side (value_spot t (quotes_at q) o) ≡ true
    → is_in_open (url_in_style s) ≡ true
style-begins q t s None e h = absurd (no h)
style-begins q t s (Some b) e h =
    let d = body-begins b h in
    let v : ValuePlace = record { tag = t.tag; typed = t.typed; quotes = quotes_at q; body = b } in
    let a = url-part (AttributeValue q t (ValueOf (OfStyle s)) Closed) v d.parts (ap (value_spot t (quotes_at q)) e) d.is in
    open-by (url_in_style s) a.part a.is (part-opened a.part (sym (ap (λ (r : Parts). is_some r.opened) a.parts) ∙ d.opened))

-- and in the element
element-begins : (s : Style Url) (o : Option Css) → style_css s ≡ o → on_side (option_map place.Style o) ≡ true → is_in_open (url_in_style s) ≡ true
element-begins s None e h = absurd (no h)
element-begins s (Some c) e h =
    let d = css-begins c h in
    let a = element-url-part (InContent element.Style (InLanguage (OfStyle s)) Nothing) c d.parts (ap (option_map place.Style) e) d.is in
    open-by (url_in_style s) a.part a.is (part-opened a.part (sym (ap (λ (r : Parts). is_some r.opened) a.parts) ∙ d.opened))

-- none is in a script
script-no-side : (t : Tag) (q : Quotes) (o : Option Js) → on_side (value_spot t q (option_map body.Js o)) ≡ true → ⊥
script-no-side t q (Some j) h = no h
script-no-side t q None h = no h

element-no-side : (o : Option Js) → on_side (option_map place.Script o) ≡ true → ⊥
element-no-side (Some j) h = no h
element-no-side None h = no h

second-not : (second : Bool) (t : TagPlace) → on_side (if second then None else Some (place.Tag t)) ≡ true → ⊥
second-not true t h = no h
second-not false t h = no h

pub placed-begins : (s : LexState ValueState) → on_side (placed s) ≡ true → is_in_beginning s ≡ true
placed-begins (Text Closed) h = absurd (no h)
placed-begins (Text (Open f bytes)) h = absurd (no h)
placed-begins (TagOpen r) h = absurd (no h)
placed-begins (EndTagOpen r) h = absurd (no h)
placed-begins (DeclarationOpen r pending) h = absurd (no h)
placed-begins (InComment Inside) h = absurd (no h)
placed-begins (InComment Broken) h = absurd (no h)
placed-begins (InComment Started) h = absurd (no h)
placed-begins (InComment StartedDash) h = absurd (no h)
placed-begins (InComment Dash) h = absurd (no h)
placed-begins (InComment DashDash) h = absurd (no h)
placed-begins (InComment Bang) h = absurd (no h)
placed-begins BogusComment h = absurd (no h)
placed-begins InDoctype h = absurd (no h)
placed-begins (TagName ends name) h = absurd (no h)
placed-begins (WholeTagName t) h = absurd (no h)
placed-begins (BeforeAttributeName t) h = absurd (no h)
placed-begins (AttributeName t name) h = absurd (no h)
placed-begins (WholeAttributeName t k) h = absurd (second-not (is_second_type t.typed k) _ h)
placed-begins (AfterAttributeName t k) h = absurd (second-not (is_second_type t.typed k) _ h)
placed-begins (BeforeAttributeValue t kind.ScriptType) h = absurd (no h)
placed-begins (BeforeAttributeValue t kind.Plain) h = absurd (no h)
placed-begins (BeforeAttributeValue t kind.NoHole) h = absurd (no h)
placed-begins (BeforeAttributeValue t kind.Url) h = absurd (no h)
placed-begins (BeforeAttributeValue t kind.Script) h = absurd (no h)
placed-begins (BeforeAttributeValue t kind.Style) h = absurd (no h)
placed-begins (AttributeValue q t (ValueOf (OfKind kind.Plain)) Closed) h = absurd (no h)
placed-begins (AttributeValue q t (ValueOf (OfKind kind.NoHole)) Closed) h = absurd (no h)
placed-begins (AttributeValue q t (ValueOf (OfKind kind.Url)) Closed) h = absurd (no h)
placed-begins (AttributeValue q t (ValueOf (OfKind kind.Script)) Closed) h = absurd (no h)
placed-begins (AttributeValue q t (ValueOf (OfKind kind.Style)) Closed) h = absurd (no h)
placed-begins (AttributeValue q t (ValueOf (OfKind kind.ScriptType)) Closed) h = absurd (no h)
placed-begins (AttributeValue q t (ValueOf (OfUrl u)) Closed) h = url-begins t (quotes_at q) u.triple u.part h
placed-begins (AttributeValue q t (ValueOf (OfStyle s)) Closed) h = style-begins q t s (style_body s) refl h
placed-begins (AttributeValue q t (ValueOf (OfScript s)) Closed) h = absurd (script-no-side t (quotes_at q) (script_js s) h)
placed-begins (AttributeValue q t (Deciding k before) Closed) h = absurd (no h)
placed-begins (AttributeValue q t v (Open f bytes)) h = absurd (no h)
placed-begins (AfterAttributeValue t) h = absurd (no h)
placed-begins (SelfClosingStartTag t) h = absurd (no h)
placed-begins (InContent element.Title (Characters Closed) Nothing) h = absurd (no h)
placed-begins (InContent element.Textarea (Characters Closed) Nothing) h = absurd (no h)
placed-begins (InContent element.DataBlock (Characters Closed) Nothing) h = absurd (no h)
placed-begins (InContent element.Script (Characters Closed) Nothing) h = absurd (no h)
placed-begins (InContent element.Style (Characters Closed) Nothing) h = absurd (no h)
placed-begins (InContent element.Other (Characters Closed) Nothing) h = absurd (no h)
placed-begins (InContent x (Characters (Open f bytes)) Nothing) h = absurd (no h)
placed-begins (InContent element.DataBlock Bytes Nothing) h = absurd (no h)
placed-begins (InContent element.Title Bytes Nothing) h = absurd (no h)
placed-begins (InContent element.Textarea Bytes Nothing) h = absurd (no h)
placed-begins (InContent element.Script Bytes Nothing) h = absurd (no h)
placed-begins (InContent element.Style Bytes Nothing) h = absurd (no h)
placed-begins (InContent element.Other Bytes Nothing) h = absurd (no h)
placed-begins (InContent element.Style (InLanguage (OfStyle s)) Nothing) h = element-begins s (style_css s) refl h
placed-begins (InContent element.Style (InLanguage (OfKind k)) Nothing) h = absurd (no h)
placed-begins (InContent element.Style (InLanguage (OfScript k)) Nothing) h = absurd (no h)
placed-begins (InContent element.Style (InLanguage (OfUrl u)) Nothing) h = absurd (no h)
placed-begins (InContent element.Title (InLanguage v) Nothing) h = absurd (no h)
placed-begins (InContent element.Textarea (InLanguage v) Nothing) h = absurd (no h)
placed-begins (InContent element.DataBlock (InLanguage v) Nothing) h = absurd (no h)
placed-begins (InContent element.Script (InLanguage (OfScript s)) Nothing) h = absurd (element-no-side (script_js s) h)
placed-begins (InContent element.Script (InLanguage (OfKind k)) Nothing) h = absurd (no h)
placed-begins (InContent element.Script (InLanguage (OfUrl u)) Nothing) h = absurd (no h)
placed-begins (InContent element.Script (InLanguage (OfStyle s)) Nothing) h = absurd (no h)
placed-begins (InContent element.Other (InLanguage v) Nothing) h = absurd (no h)
placed-begins (InContent x (InLanguage v) LessAtCut) h = absurd (no h)
placed-begins (InContent x (Characters r) LessAtCut) h = absurd (no h)
placed-begins (InContent element.DataBlock Bytes LessAtCut) h = absurd (no h)
placed-begins (InContent element.Title Bytes LessAtCut) h = absurd (no h)
placed-begins (InContent element.Textarea Bytes LessAtCut) h = absurd (no h)
placed-begins (InContent element.Script Bytes LessAtCut) h = absurd (no h)
placed-begins (InContent element.Style Bytes LessAtCut) h = absurd (no h)
placed-begins (InContent element.Other Bytes LessAtCut) h = absurd (no h)
placed-begins (InContent x y PendingLess) h = absurd (no h)
placed-begins (InContent x y (PendingName letters)) h = absurd (no h)
placed-begins (InContent x y PendingBang) h = absurd (no h)
placed-begins (InContent x y PendingBangDash) h = absurd (no h)
placed-begins (InContent x y (PendingOpening letters)) h = absurd (no h)

pub side-begins : (s : LexState ValueState) → Bears s side → is_in_beginning s ≡ true
side-begins s h = placed-begins s (ap on_side h.stands ∙ has-side h.own h.has)

-- So at the end of a node, and then its text ended in the value, which is a URL or a style, or in the element `style`.
abbrev pub may_begin : Value ValueState → Bool
may_begin (ValueOf (OfUrl u)) = true
may_begin (ValueOf (OfStyle s)) = true
may_begin v = false

abbrev pub is_url_value : LexState ValueState → Bool
is_url_value (AttributeValue q t v r) = may_begin v
is_url_value (InContent e (InLanguage (OfStyle s)) Nothing) = is_in_open (url_in_style s)
is_url_value (InContent e (InLanguage (OfStyle s)) h) = true
is_url_value s = false

pub begins-value : (s : LexState ValueState) → is_in_beginning s ≡ true → is_url_value s ≡ true
begins-value (AttributeValue q t (ValueOf (OfUrl u)) r) h = refl
begins-value (AttributeValue q t (ValueOf (OfStyle s)) r) h = refl
begins-value (AttributeValue q t (ValueOf (OfKind k)) r) h = absurd (no h)
begins-value (AttributeValue q t (ValueOf (OfScript k)) r) h = absurd (no h)
begins-value (AttributeValue q t (Deciding k before) r) h = absurd (no h)
begins-value (InContent e (InLanguage (OfStyle s)) Nothing) h = h
begins-value (InContent e (InLanguage (OfStyle s)) PendingLess) h = refl
begins-value (InContent e (InLanguage (OfStyle s)) LessAtCut) h = refl
begins-value (InContent e (InLanguage (OfStyle s)) (PendingName letters)) h = refl
begins-value (InContent e (InLanguage (OfStyle s)) PendingBang) h = refl
begins-value (InContent e (InLanguage (OfStyle s)) PendingBangDash) h = refl
begins-value (InContent e (InLanguage (OfStyle s)) (PendingOpening letters)) h = refl
begins-value (InContent e (InLanguage (OfKind k)) x) h = absurd (no h)
begins-value (InContent e (InLanguage (OfScript k)) x) h = absurd (no h)
begins-value (InContent e (InLanguage (OfUrl u)) x) h = absurd (no h)
begins-value _ h = absurd (no h)

with-url-value : (bytes : List ℕ) (v : Value ValueState) → may_begin (with_bytes languages v bytes) ≡ may_begin v
with-url-value [] v = refl
with-url-value (b ∷ bs) (ValueOf (OfUrl u)) = with-url-value bs (ValueOf (OfUrl (feed_url u b)))
with-url-value (b ∷ bs) (ValueOf (OfKind k)) = with-url-value bs (ValueOf (OfKind k))
with-url-value (b ∷ bs) (ValueOf (OfScript k)) = with-url-value bs (ValueOf (feed_value (OfScript k) b))
with-url-value (b ∷ bs) (ValueOf (OfStyle s)) = with-url-value bs (ValueOf (feed_value (OfStyle s) b))
with-url-value (b ∷ bs) (Deciding k before) = with-url-value bs (Deciding k (before ++ b ∷ []))

cut-url-value : (v : Value ValueState) → may_begin (cut_value languages v) ≡ may_begin v
cut-url-value (ValueOf (OfUrl u)) = refl
cut-url-value (ValueOf (OfKind k)) = refl
cut-url-value (ValueOf (OfScript k)) = refl
cut-url-value (ValueOf (OfStyle s)) = refl
cut-url-value (Deciding k before) = refl

-- The element: its state is that of a style, and stays it.
abbrev pub is_style_value : ValueState → Bool
is_style_value (OfStyle s) = true
is_style_value v = false

fed-is : (bytes : List ℕ) (v : ValueState) → fed_state languages v bytes ≡ fed_value v bytes
fed-is [] v = refl
fed-is (b ∷ bs) v = fed-is bs (feed_value v b)

fed-style : (bytes : List ℕ) (v : ValueState) → is_style_value (fed_value v bytes) ≡ is_style_value v
fed-style [] v = refl
fed-style (b ∷ bs) (OfStyle s) = fed-style bs (feed_value (OfStyle s) b)
fed-style (b ∷ bs) (OfKind k) = fed-style bs (OfKind k)
fed-style (b ∷ bs) (OfScript k) = fed-style bs (feed_value (OfScript k) b)
fed-style (b ∷ bs) (OfUrl u) = fed-style bs (OfUrl (feed_url u b))

cut-style : (v : ValueState) → is_style_value (languages.after_cut v) ≡ is_style_value v
cut-style (OfStyle s) = refl
cut-style (OfKind k) = refl
cut-style (OfScript k) = refl
cut-style (OfUrl u) = refl

in-element : (e : Element) (v : ValueState) (h : Pending) → is_in_beginning (InContent e (InLanguage v) h) ≡ (is_style_value v && begins_in v)
in-element e (OfStyle s) h = refl
in-element e (OfKind k) h = refl
in-element e (OfScript k) h = refl
in-element e (OfUrl u) h = refl

unknown-element : (e : Element) (v : ValueState) (h : Pending) → is_style_value v ≡ true
    → unknown_beginning (InContent e (InLanguage v) h) ≡ InContent e (InLanguage (unknown_value v)) h
unknown-element e (OfStyle s) h i = refl
unknown-element e (OfKind k) h i = absurd (no i)
unknown-element e (OfScript k) h i = absurd (no i)
unknown-element e (OfUrl u) h i = absurd (no i)

both-true : (x y : Bool) → (x && y) ≡ true → (x ≡ true) × (y ≡ true)
both-true true true h = (refl, refl)
both-true true false h = absurd (no h)
both-true false y h = absurd (no h)

-- what is in the beginning there
element-in : (e : Element) (v : ValueState) (h : Pending) → is_in_beginning (InContent e (InLanguage v) h) ≡ true
    → (is_style_value v ≡ true) × (begins_in v ≡ true)
element-in e v h k = both-true (is_style_value v) (begins_in v) (sym (in-element e v h) ∙ k)

in-of : (e : Element) (v : ValueState) (h : Pending) → is_style_value v ≡ true → begins_in v ≡ true → is_in_beginning (InContent e (InLanguage v) h) ≡ true
in-of e v h i k = in-element e v h ∙ rw (i, k) refl

-- and at the end of a node behind what is pending
cut-element : (e : Element) (v : ValueState) (h : Pending) → is_in_beginning (at_cut languages (InContent e (InLanguage v) h)) ≡ true
    → (is_style_value v ≡ true) × (begins_in (fed_value v (pending_bytes h)) ≡ true)
cut-element e v h k =
    let fed = fed_state languages v (pending_bytes h) in
    let i = element-in e (languages.after_cut fed) Nothing k in (
      sym (fed-style (pending_bytes h) v) ∙ sym (ap is_style_value (fed-is (pending_bytes h) v)) ∙ sym (cut-style fed) ∙ i.0,
      sym (ap begins_in (fed-is (pending_bytes h) v)) ∙ sym (cut-begins fed) ∙ i.1,
    )

element-value : (e : Element) (v : ValueState) (h : Pending) → is_style_value v ≡ true → (h ≡ Nothing → begins_in v ≡ true)
    → is_url_value (InContent e (InLanguage v) h) ≡ true
element-value e (OfStyle s) Nothing i k = k refl
element-value e (OfStyle s) PendingLess i k = refl
element-value e (OfStyle s) LessAtCut i k = refl
element-value e (OfStyle s) (PendingName letters) i k = refl
element-value e (OfStyle s) PendingBang i k = refl
element-value e (OfStyle s) PendingBangDash i k = refl
element-value e (OfStyle s) (PendingOpening letters) i k = refl
element-value e (OfKind k) h i j = absurd (no i)
element-value e (OfScript k) h i j = absurd (no i)
element-value e (OfUrl u) h i j = absurd (no i)

cut-value : (s : LexState ValueState) → is_in_beginning (at_cut languages s) ≡ true → is_url_value s ≡ true
cut-value (AttributeValue q t v r) h =
    let bytes = as_it_stands r in
    sym (cut-url-value (with_bytes languages v bytes) ∙ with-url-value bytes v) ∙ begins-value (AttributeValue q t (cut_value languages (with_bytes languages v bytes)) Closed) h
cut-value (InContent e (InLanguage v) x) h =
    let i = cut-element e v x h in
    element-value e v x i.0 (λ k. subst (λ (y : Pending). begins_in (fed_value v (pending_bytes y)) ≡ true) k i.1)
cut-value _ h = absurd (no h)

-- where the reference before the bytes that are left is read, a path is in a URL if it is in one where the reference is open
before-url : (x : ReferenceStep) (q : Quoting) (t : Tag) (v : Value ValueState) (f : Form) (bytes : List ℕ) (c : Class)
    → is_url_value (read_before x (AttributeValue q t (value_before Breaks v c f bytes) Closed) (AttributeValue q t v (Open f bytes))) ≡ may_begin v
before-url (Grows g) q t v f bytes c = refl
before-url Closes q t v f bytes c = refl
before-url Breaks q t v f bytes c = with-url-value (flushed true (is_equals_sign c) f bytes) v

pub before-value : (s : LexState ValueState) (bs : List ℕ) → is_url_value (state_before s bs) ≡ is_url_value s
before-value (AttributeValue q t v Closed) bs = refl
before-value (AttributeValue q t v (Open f bytes)) [] = refl
before-value (AttributeValue q t v (Open f bytes)) (b ∷ bs) = before-url (turn (class_of b) f) q t v f bytes (class_of b)
before-value _ bs = refl

pub kept-value : (bytes : List ℕ) (s : LexState ValueState) → Keeps bytes s → is_url_value s ≡ true
kept-value [] s h = cut-value s (side-begins (node [] s) h)
kept-value (b ∷ bs) s h = begins-value s h.0

-- A path in a value is in the beginning where its value is.
begins-is : (q : Quoting) (t : Tag) (v : ValueState) (r : Reference) → is_in_beginning (AttributeValue q t (ValueOf v) r) ≡ begins_in v
begins-is q t (OfKind k) r = refl
begins-is q t (OfScript k) r = refl
begins-is q t (OfUrl u) r = refl
begins-is q t (OfStyle s) r = refl

unknown-is : (q : Quoting) (t : Tag) (v : ValueState) (r : Reference)
    → unknown_beginning (AttributeValue q t (ValueOf v) r) ≡ AttributeValue q t (ValueOf (unknown_value v)) r
unknown-is q t (OfKind k) r = refl
unknown-is q t (OfScript k) r = refl
unknown-is q t (OfUrl u) r = refl
unknown-is q t (OfStyle s) r = refl

-- No `(` is in the reference that is open, nor in what is pending back, with which a style could leave a URL and begin another one at one byte of a text.
abbrev pub OpensNone : LexState ValueState → Type 0
OpensNone (AttributeValue q t v r) = ReferenceOpensNone r
OpensNone (InContent e (InLanguage v) h) = NoOpening (pending_bytes h)
OpensNone s = Unit {0}

pub placed-opens : (s : LexState ValueState) (a : Place) → placed s ≡ Some a → OpensNone s
placed-opens (AttributeValue q t v Closed) a h = tt
placed-opens (AttributeValue q t v (Open f bytes)) a h = absurd (none_some a h)
placed-opens (InContent e (InLanguage v) Nothing) a h = tt
placed-opens (InContent e (InLanguage v) PendingLess) a h = absurd (none_some a h)
placed-opens (InContent e (InLanguage v) LessAtCut) a h = absurd (none_some a h)
placed-opens (InContent e (InLanguage v) (PendingName letters)) a h = absurd (none_some a h)
placed-opens (InContent e (InLanguage v) PendingBang) a h = absurd (none_some a h)
placed-opens (InContent e (InLanguage v) PendingBangDash) a h = absurd (none_some a h)
placed-opens (InContent e (InLanguage v) (PendingOpening letters)) a h = absurd (none_some a h)
placed-opens _ a h = tt

-- what keeps is in the beginning behind the bytes that it is fed at the end of its text
cut-part : (q : Quoting) (t : Tag) (v : ValueState) (r : Reference) → Bears (node [] (AttributeValue q t (ValueOf v) r)) side
    → begins_in (fed_value v (as_it_stands r)) ≡ true
cut-part q t v r h =
    let end = fed_value v (as_it_stands r) in
    sym (cut-begins end)
    ∙ sym (begins-is q t (languages.after_cut end) Closed)
    ∙ sym (ap (λ (z : Value ValueState). is_in_beginning (AttributeValue q t (cut_value languages z) Closed)) (with-value (as_it_stands r) v))
    ∙ side-begins (node [] (AttributeValue q t (ValueOf v) r)) h

kept-part : (bs xs : List ℕ) (q : Quoting) (t : Tag) (v : ValueState) (r : Reference) → OpensAtEnds (xs ++ as_it_stands r) → begins_in v ≡ true
    → Keeps bs (AttributeValue q t (ValueOf (fed_value v xs)) r) → begins_in (fed_value v xs) ≡ true
kept-part [] xs q t v r o h k = begun-before xs (as_it_stands r) v o h (cut-part q t (fed_value v xs) r k)
kept-part (b ∷ bs) xs q t v r o h k = sym (begins-is q t (fed_value v xs) r) ∙ k.0

content-not : (e : Element) → is_url_value (after_tag languages (tag.Start e)) ≡ false
content-not element.Title = refl
content-not element.Textarea = refl
content-not element.Style = refl
content-not element.Script = refl
content-not element.DataBlock = refl
content-not element.Other = refl

tag-not : (t : TagOf) → is_url_value (after_tag languages t) ≡ false
tag-not tag.End = refl
tag-not (tag.Start e) = content-not e

name-not : (c : Class) (b : ℕ) (t : Tag) → is_url_value (next_before_name languages c b t) ≡ false
name-not White b t = refl
name-not Solidus b t = refl
name-not GreaterThan b t = tag-not t.tag
name-not _ b t = refl

after-not : (q : Quoting) (c : Class) (b : ℕ) (t : Tag) → is_url_value (next_after_value languages q c b t) ≡ false
after-not Unquoted c b t = name-not c b t
after-not DoubleQuoted c b t = refl
after-not SingleQuoted c b t = refl

-- The path of which it is not known what it has spelled reads on as the path does.
record GoesUnknown (s r : LexState ValueState) : Type 0 where
  goes : s ≡ unknown_beginning r
  begins : is_in_beginning r ≡ true

step-unknown : (e : Bool) (bs : List ℕ) (q : Quoting) (t : Tag) (v : ValueState) (r : Reference) (c : Class) (b : ℕ) → ReferenceOpensNone r
    → begins_in v ≡ true → Keeps bs (next_value languages e q c b t (ValueOf v) r)
    → GoesUnknown (next_value languages e q c b t (ValueOf (unknown_value v)) r) (next_value languages e q c b t (ValueOf v) r)
step-unknown true bs q t v r c b n h k =
    absurd (no (sym (after-not q c b _) ∙ kept-value bs (next_after_value languages q c b (tag_with_value t (with_bytes languages (ValueOf v) (settled true r)))) k))
step-unknown false bs q t v r c b n h k =
    let fed = undone_byte true r c b in
    let last = next_reference r c b in
    let e = with-value fed v in
    let o = step-ends r c b n in
    let kept : Keeps bs (AttributeValue q t (ValueOf (fed_value v fed)) last) = subst (λ (z : Value ValueState). Keeps bs (AttributeValue q t z last)) e k in
    let there = kept-part bs fed q t v last o h kept in
    let same = unknown-bytes fed v (ends-before fed (as_it_stands last) o) h there in
    record {
      goes = ap (λ (z : Value ValueState). AttributeValue q t z last) (with-value fed (unknown_value v))
          ∙ ap (λ (w : ValueState). AttributeValue q t (ValueOf w) last) same
          ∙ sym (unknown-is q t (fed_value v fed) last)
          ∙ sym (ap (λ (z : Value ValueState). unknown_beginning (AttributeValue q t z last)) e);
      begins = ap (λ (z : Value ValueState). is_in_beginning (AttributeValue q t z last)) e ∙ begins-is q t (fed_value v fed) last ∙ there;
    }

next-value-unknown : (bs : List ℕ) (b : ℕ) (q : Quoting) (t : Tag) (v : ValueState) (r : Reference) → ReferenceOpensNone r
    → is_in_beginning (AttributeValue q t (ValueOf v) r) ≡ true → Keeps bs (next languages Template (AttributeValue q t (ValueOf v) r) (class_of b) b)
    → GoesUnknown (next languages Template (unknown_beginning (AttributeValue q t (ValueOf v) r)) (class_of b) b)
    (next languages Template (AttributeValue q t (ValueOf v) r) (class_of b) b)
next-value-unknown bs b q t v r n h k =
    subst (λ (s : LexState ValueState). GoesUnknown (next languages Template s (class_of b) b) (next languages Template (AttributeValue q t (ValueOf v) r) (class_of b) b))
    (sym (unknown-is q t v r))
    (step-unknown (ends_value q (class_of b)) bs q t v r (class_of b) b n (sym (begins-is q t v r) ∙ h) k)

-- In the element: a byte where nothing is pending, behind bytes that have come to nothing.
abbrev loose_pending : Class → Pending
loose_pending LessThan = PendingLess
loose_pending c = Nothing

loose-is : (c : Class) (b : ℕ) (e : Element) (v : ValueState)
    → next_loose languages c b e (InLanguage v) ≡ InContent e (InLanguage (fed_value v (loose_fed c b))) (loose_pending c)
loose-is LessThan b e v = refl
loose-is _ b e v = refl

released-is : (bytes : List ℕ) (c : Class) (b : ℕ) (e : Element) (v : ValueState)
    → next_loose languages c b e (content_after languages (InLanguage v) bytes) ≡ InContent e (InLanguage (fed_value v (bytes ++ loose_fed c b))) (loose_pending c)
released-is bytes c b e v =
    loose-is c b e (fed_state languages v bytes)
    ∙ ap (λ (w : ValueState). InContent e (InLanguage w) (loose_pending c))
    (ap (λ (w : ValueState). fed_value w (loose_fed c b)) (fed-is bytes v) ∙ sym (fed-more bytes (loose_fed c b) v))

loose-ends : (bytes : List ℕ) (c : Class) (b : ℕ) → NoOpening bytes → OpensAtEnds ((bytes ++ loose_fed c b) ++ pending_bytes (loose_pending c))
loose-ends bytes LessThan b n = last-ends _ (opens-last _ (no-opening-more (bytes ++ []) 60 (no-opening-nil bytes n) less-opens-none))
loose-ends bytes _ b n = last-ends _ (last-nil (bytes ++ b ∷ []) (opens-behind bytes b n))

element-kept : (bs xs : List ℕ) (e : Element) (v : ValueState) (h : Pending) → OpensAtEnds (xs ++ pending_bytes h) → begins_in v ≡ true
    → Keeps bs (InContent e (InLanguage (fed_value v xs)) h) → (is_style_value (fed_value v xs) ≡ true) × (begins_in (fed_value v xs) ≡ true)
element-kept [] xs e v h o i k =
    let c = cut-element e (fed_value v xs) h (side-begins (node [] (InContent e (InLanguage (fed_value v xs)) h)) k) in
    (c.0, begun-before xs (pending_bytes h) v o i c.1)
element-kept (b ∷ bs) xs e v h o i k = element-in e (fed_value v xs) h k.0

element-goes : (bs xs : List ℕ) (e : Element) (v : ValueState) (h : Pending) (s r : LexState ValueState)
    → s ≡ InContent e (InLanguage (fed_value (unknown_value v) xs)) h → r ≡ InContent e (InLanguage (fed_value v xs)) h
    → OpensAtEnds (xs ++ pending_bytes h) → begins_in v ≡ true → Keeps bs r → GoesUnknown s r
element-goes bs xs e v h s r i j o b k =
    let w = element-kept bs xs e v h o b (subst (Keeps bs) j k) in
    record {
      goes = i
          ∙ ap (λ (z : ValueState). InContent e (InLanguage z) h) (unknown-bytes xs v (ends-before xs (pending_bytes h) o) b w.1)
          ∙ sym (unknown-element e (fed_value v xs) h w.0)
          ∙ ap unknown_beginning (sym j);
      begins = ap is_in_beginning j ∙ in-of e (fed_value v xs) h w.0 w.1;
    }

released-unknown : (bs bytes : List ℕ) (c : Class) (b : ℕ) (e : Element) (v : ValueState) → NoOpening bytes → begins_in v ≡ true
    → Keeps bs (next_loose languages c b e (content_after languages (InLanguage v) bytes))
    → GoesUnknown (next_loose languages c b e (content_after languages (InLanguage (unknown_value v)) bytes))
    (next_loose languages c b e (content_after languages (InLanguage v) bytes))
released-unknown bs bytes c b e v n i k =
    element-goes bs (bytes ++ loose_fed c b) e v (loose_pending c) _ _ (released-is bytes c b e (unknown_value v)) (released-is bytes c b e v)
    (loose-ends bytes c b n) i k

held-unknown : (bs : List ℕ) (e : Element) (v : ValueState) (h : Pending) → NoOpening (pending_bytes h) → begins_in v ≡ true
    → Keeps bs (InContent e (InLanguage v) h) → GoesUnknown (InContent e (InLanguage (unknown_value v)) h) (InContent e (InLanguage v) h)
held-unknown bs e v h n i k = element-goes bs [] e v h _ _ refl refl (last-ends (pending_bytes h) (opens-last (pending_bytes h) n)) i k

less-unknown : (bs : List ℕ) (c : Class) (b : ℕ) (e : Element) (v : ValueState) → begins_in v ≡ true → Keeps bs (next_less languages c b e (InLanguage v))
    → GoesUnknown (next_less languages c b e (InLanguage (unknown_value v))) (next_less languages c b e (InLanguage v))
less-unknown bs Solidus b e v i k = held-unknown bs e v (PendingName []) (less-opens-none, (solidus-opens-none, tt)) i k
less-unknown bs ExclamationMark b e v i k = released-unknown bs (codes "<") ExclamationMark b e v (less-opens-none, tt) i k
less-unknown bs c b e v i k = released-unknown bs (codes "<") c b e v (less-opens-none, tt) i k

not-kept : (bs : List ℕ) (s r : LexState ValueState) → is_url_value s ≡ false → Keeps bs s → GoesUnknown r s
not-kept bs s r h k = absurd (no (sym h ∙ kept-value bs s k))

name-unknown : (grows whole : Bool) (bs : List ℕ) (c : Class) (b : ℕ) (e : Element) (v : ValueState) (letters : List ℕ) → class_of b ≡ c
    → NoOpening (codes "</" ++ letters) → begins_in v ≡ true → Keeps bs (next_end_name languages grows whole c b e (InLanguage v) letters)
    → GoesUnknown (next_end_name languages grows whole c b e (InLanguage (unknown_value v)) letters)
    (next_end_name languages grows whole c b e (InLanguage v) letters)
name-unknown true whole bs (Letter l) b e v letters j n i k =
    held-unknown bs e v (PendingName (letters ++ b ∷ [])) (name-opens-none letters b l j n) i k
name-unknown true true bs White b e v letters j n i k = not-kept bs (BeforeAttributeName end_tag) (BeforeAttributeName end_tag) refl k
name-unknown true true bs Solidus b e v letters j n i k = not-kept bs (SelfClosingStartTag end_tag) (SelfClosingStartTag end_tag) refl k
name-unknown true true bs GreaterThan b e v letters j n i k = not-kept bs (Text Closed) (Text Closed) refl k
name-unknown true true bs c b e v letters j n i k = released-unknown bs (codes "</" ++ letters) c b e v n i k
name-unknown true false bs c b e v letters j n i k = released-unknown bs (codes "</" ++ letters) c b e v n i k
name-unknown false true bs White b e v letters j n i k = not-kept bs (BeforeAttributeName end_tag) (BeforeAttributeName end_tag) refl k
name-unknown false true bs Solidus b e v letters j n i k = not-kept bs (SelfClosingStartTag end_tag) (SelfClosingStartTag end_tag) refl k
name-unknown false true bs GreaterThan b e v letters j n i k = not-kept bs (Text Closed) (Text Closed) refl k
name-unknown false true bs c b e v letters j n i k = released-unknown bs (codes "</" ++ letters) c b e v n i k
name-unknown false false bs c b e v letters j n i k = released-unknown bs (codes "</" ++ letters) c b e v n i k

bang-unknown : (bs : List ℕ) (c : Class) (b : ℕ) (e : Element) (v : ValueState) → NoOpening (codes "<!") → begins_in v ≡ true
    → Keeps bs (next_bang languages c b e (InLanguage v)) → GoesUnknown (next_bang languages c b e (InLanguage (unknown_value v))) (next_bang languages c b e (InLanguage v))
bang-unknown bs HyphenMinus b e v n i k = held-unknown bs e v PendingBangDash (n.0, (n.1.0, (hyphen-opens-none, tt))) i k
bang-unknown bs c b e v n i k = released-unknown bs (codes "<!") c b e v n i k

content-unknown : (h : Pending) (bs : List ℕ) (b : ℕ) (e : Element) (v : ValueState) → NoOpening (pending_bytes h) → begins_in v ≡ true
    → Keeps bs (next_in_content languages h (class_of b) b e (InLanguage v))
    → GoesUnknown (next_in_content languages h (class_of b) b e (InLanguage (unknown_value v))) (next_in_content languages h (class_of b) b e (InLanguage v))
content-unknown Nothing bs b e v n i k = released-unknown bs [] (class_of b) b e v tt i k
content-unknown PendingLess bs b e v n i k = less-unknown bs (class_of b) b e v i k
content-unknown LessAtCut bs b e v n i k = released-unknown bs (codes "<") (class_of b) b e v n i k
content-unknown (PendingName letters) bs b e v n i k =
    name-unknown (may_be_name_of e (letters ++ b ∷ [])) (is_name_of e letters) bs (class_of b) b e v letters refl n i k
content-unknown PendingBang bs b e v n i k = bang-unknown bs (class_of b) b e v n i k
content-unknown PendingBangDash bs b e v n i k = released-unknown bs (codes "<!-") (class_of b) b e v n i k
content-unknown (PendingOpening letters) bs b e v n i k = released-unknown bs (codes "<" ++ letters) (class_of b) b e v n i k

element-next-unknown : (bs : List ℕ) (b : ℕ) (e : Element) (v : ValueState) (h : Pending) → NoOpening (pending_bytes h)
    → is_in_beginning (InContent e (InLanguage v) h) ≡ true → Keeps bs (next languages Template (InContent e (InLanguage v) h) (class_of b) b)
    → GoesUnknown (next languages Template (unknown_beginning (InContent e (InLanguage v) h)) (class_of b) b)
    (next languages Template (InContent e (InLanguage v) h) (class_of b) b)
element-next-unknown bs b e (OfKind x) h n i k = absurd (no i)
element-next-unknown bs b e (OfUrl u) h n i k = absurd (no i)
element-next-unknown bs b e (OfScript s) h n i k = absurd (no i)
element-next-unknown bs b e (OfStyle z) h n i k =
    let v = OfStyle z in
    let w = element-in e v h i in
    subst (λ (s : LexState ValueState). GoesUnknown (next languages Template s (class_of b) b) (next languages Template (InContent e (InLanguage v) h) (class_of b) b))
    (sym (unknown-element e v h w.0)) (content-unknown h bs b e v n w.1 k)

next-unknown : (bs : List ℕ) (b : ℕ) (s : LexState ValueState) → OpensNone s → is_in_beginning s ≡ true → Keeps bs (next languages Template s (class_of b) b)
    → GoesUnknown (next languages Template (unknown_beginning s) (class_of b) b) (next languages Template s (class_of b) b)
next-unknown bs b (AttributeValue q t (ValueOf v) r) n h k = next-value-unknown bs b q t v r n h k
next-unknown bs b (AttributeValue q t (Deciding x before) r) n h k = absurd (no h)
next-unknown bs b (InContent e (InLanguage v) x) n h k = element-next-unknown bs b e v x n h k
next-unknown bs b _ n h k = absurd (no h)

end-value-unknown : (q : Quoting) (t : Tag) (v : ValueState) (r : Reference) → ReferenceOpensNone r → begins_in v ≡ true
    → Bears (node [] (AttributeValue q t (ValueOf v) r)) side
    → node [] (AttributeValue q t (ValueOf (unknown_value v)) r) ≡ unknown_beginning (node [] (AttributeValue q t (ValueOf v) r))
end-value-unknown q t v r n h k =
    let bytes = as_it_stands r in
    let cut = λ (z : Value ValueState). AttributeValue q t (cut_value languages z) Closed in
    ap cut (with-value bytes (unknown_value v))
    ∙ ap (λ (w : ValueState). cut (ValueOf w)) (unknown-bytes bytes v (stands-ends r n) h (cut-part q t v r k))
    ∙ ap (λ (w : ValueState). AttributeValue q t (ValueOf w) Closed) (cut-unknown (fed_value v bytes))
    ∙ sym (unknown-is q t (languages.after_cut (fed_value v bytes)) Closed)
    ∙ sym (ap (λ (z : Value ValueState). unknown_beginning (cut z)) (with-value bytes v))

element-end-unknown : (e : Element) (v : ValueState) (h : Pending) → NoOpening (pending_bytes h) → is_in_beginning (InContent e (InLanguage v) h) ≡ true
    → Bears (node [] (InContent e (InLanguage v) h)) side
    → node [] (unknown_beginning (InContent e (InLanguage v) h)) ≡ unknown_beginning (node [] (InContent e (InLanguage v) h))
element-end-unknown e v h n i k =
    let bytes = pending_bytes h in
    let cut = λ (z : ValueState). InContent e (InLanguage (languages.after_cut z)) Nothing in
    let w = element-in e v h i in
    let c = cut-element e v h (side-begins (node [] (InContent e (InLanguage v) h)) k) in
    let fed = fed_value v bytes in
    ap (node []) (unknown-element e v h w.0)
    ∙ ap cut (fed-is bytes (unknown_value v))
    ∙ ap cut (unknown-bytes bytes v (last-ends bytes (opens-last bytes n)) w.1 c.1)
    ∙ ap (λ (z : ValueState). InContent e (InLanguage z) Nothing) (cut-unknown fed)
    ∙ sym (unknown-element e (languages.after_cut fed) Nothing (cut-style fed ∙ fed-style bytes v ∙ w.0))
    ∙ sym (ap (λ (z : ValueState). unknown_beginning (cut z)) (fed-is bytes v))

end-unknown : (s : LexState ValueState) → OpensNone s → is_in_beginning s ≡ true → Bears (node [] s) side
    → node [] (unknown_beginning s) ≡ unknown_beginning (node [] s)
end-unknown (AttributeValue q t (ValueOf v) r) n h k =
    ap (node []) (unknown-is q t v r) ∙ end-value-unknown q t v r n (sym (begins-is q t v r) ∙ h) k
end-unknown (AttributeValue q t (Deciding x before) r) n h k = absurd (no h)
end-unknown (InContent e (InLanguage v) x) n h k = element-end-unknown e v x n h k
end-unknown _ n h k = absurd (no h)

-- what is opened by none stays so, where the path goes on in the value
opens-next : (e : Bool) (q : Quoting) (t : Tag) (v : Value ValueState) (r : Reference) (b : ℕ) → ReferenceOpensNone r
    → is_in_beginning (next_value languages e q (class_of b) b t v r) ≡ true → OpensNone (next_value languages e q (class_of b) b t v r)
opens-next true q t v r b n h = absurd (no (sym (after-not q (class_of b) b _) ∙ begins-value _ h))
opens-next false q t v r b n h = next-opens r b n

-- in the element
loose-opens : (c : Class) (b : ℕ) (e : Element) (v : ValueState) → OpensNone (next_loose languages c b e (InLanguage v))
loose-opens LessThan b e v = (less-opens-none, tt)
loose-opens _ b e v = tt

less-opens : (c : Class) (b : ℕ) (e : Element) (v : ValueState) → OpensNone (next_less languages c b e (InLanguage v))
less-opens Solidus b e v = (less-opens-none, (solidus-opens-none, tt))
less-opens ExclamationMark b e v = loose-opens ExclamationMark b e (fed_state languages v (codes "<"))
less-opens c b e v = loose-opens c b e (fed_state languages v (codes "<"))

end-name-opens : (grows whole : Bool) (c : Class) (b : ℕ) (e : Element) (v : ValueState) (letters : List ℕ) → class_of b ≡ c → NoOpening (codes "</" ++ letters)
    → OpensNone (next_end_name languages grows whole c b e (InLanguage v) letters)
end-name-opens true whole (Letter l) b e v letters j n = name-opens-none letters b l j n
end-name-opens true true White b e v letters j n = tt
end-name-opens true true Solidus b e v letters j n = tt
end-name-opens true true GreaterThan b e v letters j n = tt
end-name-opens true true c b e v letters j n = loose-opens c b e (fed_state languages v (codes "</" ++ letters))
end-name-opens true false c b e v letters j n = loose-opens c b e (fed_state languages v (codes "</" ++ letters))
end-name-opens false true White b e v letters j n = tt
end-name-opens false true Solidus b e v letters j n = tt
end-name-opens false true GreaterThan b e v letters j n = tt
end-name-opens false true c b e v letters j n = loose-opens c b e (fed_state languages v (codes "</" ++ letters))
end-name-opens false false c b e v letters j n = loose-opens c b e (fed_state languages v (codes "</" ++ letters))

bang-opens : (c : Class) (b : ℕ) (e : Element) (v : ValueState) → NoOpening (codes "<!") → OpensNone (next_bang languages c b e (InLanguage v))
bang-opens HyphenMinus b e v n = (n.0, (n.1.0, (hyphen-opens-none, tt)))
bang-opens c b e v n = loose-opens c b e (fed_state languages v (codes "<!"))

content-opens : (h : Pending) (b : ℕ) (e : Element) (v : ValueState) → NoOpening (pending_bytes h)
    → OpensNone (next_in_content languages h (class_of b) b e (InLanguage v))
content-opens Nothing b e v n = loose-opens (class_of b) b e v
content-opens PendingLess b e v n = less-opens (class_of b) b e v
content-opens LessAtCut b e v n = loose-opens (class_of b) b e (fed_state languages v (codes "<"))
content-opens (PendingName letters) b e v n =
    end-name-opens (may_be_name_of e (letters ++ b ∷ [])) (is_name_of e letters) (class_of b) b e v letters refl n
content-opens PendingBang b e v n = bang-opens (class_of b) b e v n
content-opens PendingBangDash b e v n = loose-opens (class_of b) b e (fed_state languages v (codes "<!-"))
content-opens (PendingOpening letters) b e v n = loose-opens (class_of b) b e (fed_state languages v (codes "<" ++ letters))

pub next-opens-none : (s : LexState ValueState) (b : ℕ) → OpensNone s → is_in_beginning s ≡ true
    → is_in_beginning (next languages Template s (class_of b) b) ≡ true → OpensNone (next languages Template s (class_of b) b)
next-opens-none (AttributeValue q t v r) b n h k = opens-next (ends_value q (class_of b)) q t v r b n k
next-opens-none (InContent e (InLanguage (OfStyle s)) x) b n h k = content-opens x b e (OfStyle s) n
next-opens-none _ b n h k = absurd (no h)

pub node-unknown : (bytes : List ℕ) (s : LexState ValueState) → OpensNone s → is_in_beginning s ≡ true → Keeps bytes s
    → node bytes (unknown_beginning s) ≡ unknown_beginning (node bytes s)
node-unknown [] s o h k = end-unknown s o h k
node-unknown (b ∷ bs) s o h k =
    let n = next-unknown bs b s o h k.1 in
    ap (node bs) n.goes ∙ node-unknown bs (next languages Template s (class_of b) b) (next-opens-none s b o h n.begins) n.begins k.1

-- A path that stays in the beginning behind a byte was in it before the byte, where the reference that is open has been read.
away-not : (e : Bool) (q : Quoting) (t : Tag) (v : ValueState) (c : Class) (b : ℕ) → is_away v ≡ true
    → is_in_beginning (next_value languages e q c b t (ValueOf v) Closed) ≡ true → ⊥
away-not true q t v c b p h = no (sym (after-not q c b _) ∙ begins-value _ h)
away-not false q t v c b p h =
    let fed = undone_byte true Closed c b in
    away-bytes fed v (plain-last c b) p
    (sym (begins-is q t (fed_value v fed) (next_reference Closed c b))
    ∙ sym (ap (λ (z : Value ValueState). is_in_beginning (AttributeValue q t z (next_reference Closed c b))) (with-value fed v)) ∙ h)

broken-begins : (x : ReferenceStep) (q : Quoting) (t : Tag) (v : ValueState) (f : Form) (bytes : List ℕ) (c : Class) (b : ℕ) → NoOpening bytes
    → begins_in v ≡ true
    → is_in_beginning (next languages Template (read_before x (AttributeValue q t (value_before Breaks (ValueOf v) c f bytes) Closed)
    (AttributeValue q t (ValueOf v) (Open f bytes))) c b) ≡ true
    → is_in_beginning (read_before x (AttributeValue q t (value_before Breaks (ValueOf v) c f bytes) Closed) (AttributeValue q t (ValueOf v) (Open f bytes)))
    ≡ true
broken-begins (Grows g) q t v f bytes c b n h k = begins-is q t v (Open f bytes) ∙ h
broken-begins Closes q t v f bytes c b n h k = begins-is q t v (Open f bytes) ∙ h
broken-begins Breaks q t v f bytes c b n h k =
    let fl = flushed true (is_equals_sign c) f bytes in
    let e = with-value fl v in
    ap (λ (z : Value ValueState). is_in_beginning (AttributeValue q t z Closed)) e
    ∙ begins-is q t (fed_value v fl) Closed
    ∙ elim (first-or fl v (flushed-opens (is_equals_sign c) f bytes n) h) [
      | inl x ↦ x
      | inr x ↦ absurd (away-not (ends_value q c) q t (fed_value v fl) c b x
          (subst (λ (z : Value ValueState). is_in_beginning (next_value languages (ends_value q c) q c b t z Closed) ≡ true) e k))
    ]

pub before-begins : (s : LexState ValueState) (b : ℕ) (bs : List ℕ) → OpensNone s → is_in_beginning s ≡ true
    → is_in_beginning (next languages Template s (class_of b) b) ≡ true → is_in_beginning (state_before s (b ∷ bs)) ≡ true
before-begins (AttributeValue q t (ValueOf v) Closed) b bs n h k = h
before-begins (AttributeValue q t (ValueOf v) (Open f bytes)) b bs n h k =
    broken-begins (turn (class_of b) f) q t v f bytes (class_of b) b n (sym (begins-is q t v (Open f bytes)) ∙ h)
    (ap is_in_beginning (before-next (AttributeValue q t (ValueOf v) (Open f bytes)) b bs) ∙ k)
before-begins (AttributeValue q t (Deciding x before) r) b bs n h k = absurd (no h)
before-begins (InContent e y x) b bs n h k = h
before-begins _ b bs n h k = absurd (no h)

-- the state in which the reference is read opens none either
read-opens : (x : ReferenceStep) (q : Quoting) (t : Tag) (v w : Value ValueState) (f : Form) (bytes : List ℕ) → NoOpening bytes
    → OpensNone (read_before x (AttributeValue q t w Closed) (AttributeValue q t v (Open f bytes)))
read-opens (Grows g) q t v w f bytes n = n
read-opens Closes q t v w f bytes n = n
read-opens Breaks q t v w f bytes n = tt

pub before-opens : (s : LexState ValueState) (bs : List ℕ) → OpensNone s → OpensNone (state_before s bs)
before-opens (AttributeValue q t v Closed) bs n = n
before-opens (AttributeValue q t v (Open f bytes)) [] n = n
before-opens (AttributeValue q t v (Open f bytes)) (b ∷ bs) n =
    read-opens (turn (class_of b) f) q t v (value_before Breaks v (class_of b) f bytes) f bytes n
before-opens (InContent e y x) bs n = n
before-opens _ bs n = tt

pub keeps-back : (bs : List ℕ) (s : LexState ValueState) → is_in_beginning s ≡ true → Keeps bs (state_before s bs) → Keeps bs s
keeps-back [] s h k = subst (Keeps []) (before-none s) k
keeps-back (b ∷ bs) s h k = (h, subst (Keeps bs) (before-next s b bs) k.1)

pub keeps-fore : (b : ℕ) (bs : List ℕ) (s : LexState ValueState) → is_in_beginning (state_before s (b ∷ bs)) ≡ true
    → Keeps bs (next languages Template s (class_of b) b) → Keeps (b ∷ bs) (state_before s (b ∷ bs))
keeps-fore b bs s h k = (h, subst (Keeps bs) (sym (before-next s b bs)) k)
