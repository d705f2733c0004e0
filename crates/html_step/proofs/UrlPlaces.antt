-- The place of a path in a URL has the part of the path alone.
use Rattle.js_lexer.specs.States.{ScriptState}
use Rattle.js_step.proofs.ScriptPaths.{script-paths-are-scanned}
use Rattle.place_core.specs.place.ScriptParts.{script_body, script_js}
use Rattle.std.proofs.Common.{◌≡◌, Bool, true, false, Option, Some, None, option_map, if◌then◌else◌, refl, sym, ◌∙◌, subst}
use Rattle.css_lexer.specs.Escapes.{StyleEscape, NoEscape, AfterBackslash, HexDigits, AfterReturn}
use Rattle.css_lexer.specs.PartSpots.{has_read_nothing}
use Rattle.css_lexer.specs.Spots.{UrlSpot, QuotedUrlSpot}
use Rattle.css_lexer.specs.States.{Quote, DoubleQuote, SingleQuote, Outside, Between, AfterLessThan, Word, AfterSolidus, InString, BadUrl, BehindHole, SplitWord, SolidusAtCut, LessThanAtCut, StarAtCut, UrlForm, Fresh, Bare, Quoted, Ended, Style, Out}
use Rattle.css_lexer.specs.States as style
use Rattle.place_core.proofs.Semilattices.{none_some, one_value}
use Rattle.place_core.specs.place.PathPairs.{url_in_style, url_part_at}
use Rattle.place_core.specs.place.StyleParts.{style_body, style_css, style_place}
use Rattle.place_core.specs.page.References.{Closed, Open}
use Rattle.place_core.specs.place.StatePlaces.{content_spot, only_after, only_inside, placed, quotes_at, tag_spot, value_spot}
use Rattle.place_core.specs.place.UrlParts.{parts_of}
use Rattle.place_core.specs.page.States.{LexState, Text, TagOpen, EndTagOpen, DeclarationOpen, InComment, Started, StartedDash, Inside, Dash, DashDash, Bang, Broken, BogusComment, InDoctype, TagName, WholeTagName, BeforeAttributeName, AttributeName, WholeAttributeName, AfterAttributeName, BeforeAttributeValue, AttributeValue, AfterAttributeValue, SelfClosingStartTag, Content, Characters, Bytes, InLanguage, Pending, Nothing, PendingLess, PendingName, PendingBang, PendingBangDash, PendingOpening, InContent, LessAtCut}
use Rattle.place_core.specs.page.Tags.{Tag, is_second_type, ValueOf, Deciding, ValueState, OfKind, OfUrl, OfStyle, OfScript, Quoting, DoubleQuoted}
use Rattle.place_core.specs.declared.body.Body.{Body}
use Rattle.place_core.specs.declared.body.Body.TheVariants as body
use Rattle.place_core.specs.declared.css.Css.{Css}
use Rattle.place_core.specs.declared.css.Css.TheVariants as css
use Rattle.place_core.specs.declared.js.Js.{Js}
use Rattle.place_core.specs.declared.element.Element.{Element}
use Rattle.place_core.specs.declared.element.Element.TheVariants as element
use Rattle.place_core.specs.declared.kind.Kind.{Kind}
use Rattle.place_core.specs.declared.kind.Kind.TheVariants as kind
use Rattle.place_core.specs.declared.parts.Parts.{Parts}
use Rattle.place_core.specs.declared.place.Place.{Place}
use Rattle.place_core.specs.declared.place.Place.TheVariants as place
use Rattle.place_core.specs.declared.tag_of.TagOf.TheVariants as tag
use Rattle.place_core.specs.declared.value_place.ValuePlace.{ValuePlace}
use Rattle.html_step.proofs.ElementSteps.{body-css}
use Rattle.url_lexer.specs.Parts.{UrlPart}
use Rattle.url_lexer.specs.States.{Url}
use Rattle.url_lexer.specs.Triples.{Triple, NoTriple, AfterPercent, AfterDigit}
use Rattle.url_lexer.specs.Spots.{where_whole}

-- The parts of the URL in which a value is, which may be one in a style.
abbrev pub css_url : Css → Option Parts
css_url (css.Url s) = Some s
css_url (css.UrlDq s) = Some s
css_url (css.UrlSq s) = Some s
css_url (css.Code x) = None
css_url css.Dq = None
css_url css.Sq = None
css_url css.UrlFresh = None
css_url css.UrlEnd = None
css_url (css.Comment star) = None

abbrev pub body_url : Body → Option Parts
body_url (body.Url s) = Some s
body_url (body.Css c) = css_url c
body_url (body.Js j) = None
body_url body.Plain = None
body_url body.NoHole = None

abbrev pub place_url : Place → Option Parts
place_url (place.Value v) = body_url v.body
place_url (place.Style c) = css_url c
place_url p = None

abbrev Fits : Option UrlPart → Place → Type 0
Fits (Some p) (place.Value v) = body_url v.body ≡ Some (parts_of p)
Fits (Some p) (place.Style c) = css_url c ≡ Some (parts_of p)
Fits (Some p) a = ⊥
Fits None (place.Value v) = body_url v.body ≡ None
Fits None (place.Style c) = css_url c ≡ None
Fits None a = Unit {0}

abbrev WhereFits : Option UrlPart → Option Place → Type 0
WhereFits o None = Unit {0}
WhereFits o (Some a) = Fits o a

spot-fits : (second : Bool) (p : Place) → Fits None p → WhereFits None (if second then None else Some p)
spot-fits true p h = tt
spot-fits false p h = h

abbrev IsNoLanguage : Content ValueState → Type 0
IsNoLanguage (InLanguage v) = ⊥
IsNoLanguage x = Unit {0}

content-fits : (h : Pending) (x : Content ValueState) (e : Element) → IsNoLanguage x → WhereFits None (content_spot h x e)
content-fits Nothing (Characters (Open f bytes)) e i = tt
content-fits Nothing (Characters Closed) element.Title i = tt
content-fits Nothing (Characters Closed) element.Textarea i = tt
content-fits Nothing (Characters Closed) _ i = tt
content-fits Nothing Bytes element.DataBlock i = tt
content-fits Nothing Bytes _ i = tt
content-fits LessAtCut Bytes element.DataBlock i = tt
content-fits LessAtCut Bytes _ i = tt
content-fits LessAtCut (Characters r) e i = tt
content-fits PendingLess x e i = tt
content-fits (PendingName letters) x e i = tt
content-fits PendingBang x e i = tt
content-fits PendingBangDash x e i = tt
content-fits (PendingOpening letters) x e i = tt
content-fits Nothing (InLanguage v) e i = absurd i
content-fits LessAtCut (InLanguage v) e i = absurd i

url-fits : (x : Triple) (p : UrlPart) (q : Quoting) (t : Tag)
    → WhereFits (Some p) (value_spot t (quotes_at q) (option_map (λ z. body.Url (parts_of z)) (where_whole x p)))
url-fits NoTriple p q t = refl
url-fits AfterPercent p q t = tt
url-fits AfterDigit p q t = tt

before-fits : (t : Tag) (k : Kind) → WhereFits (url_part_at (BeforeAttributeValue t k)) (placed (BeforeAttributeValue t k))
before-fits t kind.Plain = refl
before-fits t kind.NoHole = refl
before-fits t kind.Url = refl
before-fits t kind.Script = refl
before-fits t kind.Style = refl
before-fits t kind.ScriptType = tt

value-fits : (q : Quoting) (t : Tag) (k : Kind)
    → WhereFits None (placed (AttributeValue q t (ValueOf (OfKind k)) Closed))
value-fits q t kind.Plain = refl
value-fits q t kind.NoHole = refl
value-fits q t kind.Url = tt
value-fits q t kind.Script = tt
value-fits q t kind.Style = tt
value-fits q t kind.ScriptType = tt

-- in a style
abbrev StyleFits : Quoting → Tag → Style Url → Type 0
StyleFits q t s = WhereFits (option_map (λ u. u.part) (url_in_style s)) (value_spot t (quotes_at q) (style_body s))

string-fits : (x : Quote) (e : StyleEscape) (q : Quoting) (t : Tag) → StyleFits q t (Out (InString x e))
string-fits DoubleQuote NoEscape q t = refl
string-fits SingleQuote NoEscape q t = refl
string-fits x AfterBackslash q t = tt
string-fits x (HexDigits k) q t = tt
string-fits x AfterReturn q t = tt

split-fits : (e : StyleEscape) (q : Quoting) (t : Tag) → StyleFits q t (Out (SplitWord e))
split-fits NoEscape q t = refl
split-fits AfterBackslash q t = tt
split-fits (HexDigits k) q t = tt
split-fits AfterReturn q t = tt

outside-fits : (s : Outside) (q : Quoting) (t : Tag) → StyleFits q t (Out s)
outside-fits (Between k) q t = refl
outside-fits AfterLessThan q t = tt
outside-fits (Word w e) q t = tt
outside-fits (AfterSolidus k) q t = tt
outside-fits (style.Comment true) q t = tt
outside-fits (style.Comment false) q t = refl
outside-fits (InString x e) q t = string-fits x e q t
outside-fits BadUrl q t = tt
outside-fits (BehindHole solidus less) q t = refl
outside-fits (SplitWord e) q t = split-fits e q t
outside-fits (SolidusAtCut k) q t = refl
outside-fits LessThanAtCut q t = refl
outside-fits StarAtCut q t = refl

fresh-fits : (read : Bool) (q : Quoting) (t : Tag) → WhereFits None (value_spot t (quotes_at q) (if read then Some (body.Css css.UrlFresh) else None))
fresh-fits true q t = refl
fresh-fits false q t = tt

bare-fits : (x : Triple) (p : UrlPart) (q : Quoting) (t : Tag)
    → WhereFits (Some p) (value_spot t (quotes_at q) (option_map (λ z. body.Css (style_place z)) (option_map UrlSpot (where_whole x p))))
bare-fits NoTriple p q t = refl
bare-fits AfterPercent p q t = tt
bare-fits AfterDigit p q t = tt

quoted-fits : (y : Quote) (x : Triple) (p : UrlPart) (q : Quoting) (t : Tag)
    → WhereFits (Some p) (value_spot t (quotes_at q) (option_map (λ z. body.Css (style_place z)) (option_map (QuotedUrlSpot y) (where_whole x p))))
quoted-fits DoubleQuote NoTriple p q t = refl
quoted-fits SingleQuote NoTriple p q t = refl
quoted-fits y AfterPercent p q t = tt
quoted-fits y AfterDigit p q t = tt

in-url-fits : (f : UrlForm) (u : Url) (q : Quoting) (t : Tag) → StyleFits q t (style.InUrl f u)
in-url-fits Fresh u q t = fresh-fits (has_read_nothing u) q t
in-url-fits Bare u q t = bare-fits u.triple u.part q t
in-url-fits (Quoted y NoEscape) u q t = quoted-fits y u.triple u.part q t
in-url-fits (Quoted y AfterBackslash) u q t = tt
in-url-fits (Quoted y (HexDigits k)) u q t = tt
in-url-fits (Quoted y AfterReturn) u q t = tt
in-url-fits Ended u q t = refl

style-fits : (s : Style Url) (q : Quoting) (t : Tag) → StyleFits q t s
style-fits (Out s) q t = outside-fits s q t
style-fits (style.InUrl f u) q t = in-url-fits f u q t

-- likewise in the element, whose place has what a body has
element-fits-by : (o : Option UrlPart) (c : Option Css) (q : Quoting) (t : Tag)
    → WhereFits o (value_spot t (quotes_at q) (option_map body.Css c)) → WhereFits o (option_map place.Style c)
element-fits-by (Some p) (Some c) q t h = h
element-fits-by None (Some c) q t h = h
element-fits-by o None q t h = tt

element-fits : (s : Style Url) → WhereFits (option_map (λ u. u.part) (url_in_style s)) (option_map place.Style (style_css s))
element-fits s =
    let t : Tag = record { tag = tag.End; typed = false } in
    let o = option_map (λ (u : Url). u.part) (url_in_style s) in
    element-fits-by o (style_css s) DoubleQuoted t
    (subst (λ (z : Option Body). WhereFits o (value_spot t (quotes_at DoubleQuoted) z)) (body-css s) (style-fits s DoubleQuoted t))

script-fits : (o : Option Body) (s : ScriptState) (q : Quoting) (t : Tag) → script_body s ≡ o → WhereFits None (value_spot t (quotes_at q) o)
script-fits None s q t e = tt
script-fits (Some x) s q t e =
    let j = script-paths-are-scanned.is_script s x e in
    subst (λ (z : Body). WhereFits None (value_spot t (quotes_at q) (Some z))) (sym j.1) refl

script-element-fits : (o : Option Js) → WhereFits None (option_map place.Script o)
script-element-fits (Some c) = tt
script-element-fits None = tt

language-fits : (h : Pending) (e : Element) (v : ValueState) → WhereFits (url_part_at (InContent e (InLanguage v) h)) (content_spot h (InLanguage v) e)
language-fits Nothing element.Style (OfStyle s) = element-fits s
language-fits Nothing element.Style (OfKind k) = tt
language-fits Nothing element.Style (OfUrl u) = tt
language-fits Nothing element.Style (OfScript v) = tt
language-fits Nothing element.Script (OfScript s) = script-element-fits (script_js s)
language-fits Nothing element.Script (OfKind k) = tt
language-fits Nothing element.Script (OfUrl u) = tt
language-fits Nothing element.Script (OfStyle s) = tt
language-fits Nothing _ v = tt
language-fits LessAtCut e v = tt
language-fits PendingLess e v = tt
language-fits (PendingName letters) e v = tt
language-fits PendingBang e v = tt
language-fits PendingBangDash e v = tt
language-fits (PendingOpening letters) e v = tt

fits : (s : LexState ValueState) → WhereFits (url_part_at s) (placed s)
fits (Text Closed) = tt
fits (Text (Open f bytes)) = tt
fits (TagOpen r) = tt
fits (EndTagOpen r) = tt
fits (DeclarationOpen r pending) = tt
fits (InComment Inside) = tt
fits (InComment Broken) = tt
fits (InComment Started) = tt
fits (InComment StartedDash) = tt
fits (InComment Dash) = tt
fits (InComment DashDash) = tt
fits (InComment Bang) = tt
fits BogusComment = tt
fits InDoctype = tt
fits (TagName ends name) = tt
fits (WholeTagName t) = tt
fits (BeforeAttributeName t) = tt
fits (AttributeName t name) = tt
fits (WholeAttributeName t k) = spot-fits (is_second_type t.typed k) (place.Tag (tag_spot t only_inside (Some k))) tt
fits (AfterAttributeName t k) = spot-fits (is_second_type t.typed k) (place.Tag (tag_spot t only_after (Some k))) tt
fits (BeforeAttributeValue t k) = before-fits t k
fits (AttributeValue q t (ValueOf (OfKind k)) Closed) = value-fits q t k
fits (AttributeValue q t (ValueOf (OfUrl u)) Closed) = url-fits u.triple u.part q t
fits (AttributeValue q t (ValueOf (OfStyle s)) Closed) = style-fits s q t
fits (AttributeValue q t (ValueOf (OfScript s)) Closed) = script-fits (script_body s) s q t refl
fits (AttributeValue q t (Deciding k before) Closed) = tt
fits (AttributeValue q t v (Open f bytes)) = tt
fits (AfterAttributeValue t) = tt
fits (SelfClosingStartTag t) = tt
fits (InContent e (Characters r) h) = content-fits h (Characters r) e tt
fits (InContent e Bytes h) = content-fits h Bytes e tt
fits (InContent e (InLanguage v) h) = language-fits h e v

fits-at : (s : LexState ValueState) (a : Place) → placed s ≡ Some a → Fits (url_part_at s) a
fits-at s a e = subst (WhereFits (url_part_at s)) e (fits s)

-- of a path at a place, what its part says of the place
pub record InUrl (a : Place) (p : UrlPart) : Type 0 where
  pub parts : place_url a ≡ Some (parts_of p)

in-url-by : (o : Option UrlPart) (p : UrlPart) (a : Place) → Fits o a → o ≡ Some p → InUrl a p
in-url-by (Some r) p (place.Value v) h e = record { parts = subst (λ (z : Option UrlPart). Fits z (place.Value v)) e h }
in-url-by (Some r) p (place.Style c) h e = record { parts = subst (λ (z : Option UrlPart). Fits z (place.Style c)) e h }
in-url-by None p a h e = absurd (none_some p e)
in-url-by (Some r) p _ h e = absurd h

pub url-place : (s : LexState ValueState) (p : UrlPart) (a : Place) → url_part_at s ≡ Some p → placed s ≡ Some a → InUrl a p
url-place s p a e h = in-url-by (url_part_at s) p a (fits-at s a h) e

-- and the place of its part
pub record AtPart (s : LexState ValueState) (r : Parts) : Type 0 where
  pub part : UrlPart
  pub is : url_part_at s ≡ Some part
  pub parts : r ≡ parts_of part

at-part-by : (s : LexState ValueState) (o : Option UrlPart) (v : ValuePlace) (r : Parts) → url_part_at s ≡ o → Fits o (place.Value v) → body_url v.body ≡ Some r → AtPart s r
at-part-by s (Some p) v r e h b = record { part = p; is = e; parts = one_value r (parts_of p) (sym b ∙ h) }
at-part-by s None v r e h b = absurd (none_some r (sym h ∙ b))

pub url-part : (s : LexState ValueState) (v : ValuePlace) (r : Parts) → placed s ≡ Some (place.Value v) → body_url v.body ≡ Some r → AtPart s r
url-part s v r h b = at-part-by s (url_part_at s) v r refl (fits-at s (place.Value v) h) b

pub element-url-part : (s : LexState ValueState) (c : Css) (r : Parts) → placed s ≡ Some (place.Style c) → css_url c ≡ Some r → AtPart s r
element-url-part s c r h b = element-part-by s (url_part_at s) c r refl (fits-at s (place.Style c) h) b
  where
    element-part-by : (s : LexState ValueState) (o : Option UrlPart) (c : Css) (r : Parts) → url_part_at s ≡ o → Fits o (place.Style c) → css_url c ≡ Some r → AtPart s r
    element-part-by s (Some p) c r e h b = record { part = p; is = e; parts = one_value r (parts_of p) (sym b ∙ h) }
    element-part-by s None c r e h b = absurd (none_some r (sym h ∙ b))
