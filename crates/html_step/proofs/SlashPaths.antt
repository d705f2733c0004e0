-- What a slash would be on a path in a script where a text begins, by what its place has.
use Rattle.std.proofs.Common.{◌≡◌, Bool, true, false, ◌&&◌, ◌||◌, Option, Some, None, option_map, if◌then◌else◌, refl, sym, ap, ◌∙◌, subst}
use Rattle.css_lexer.specs.States.{Style}
use Rattle.js_lexer.specs.Refusals.{is_cut_markup, within_escape}
use Rattle.js_lexer.specs.Spots.{Spot, Tail, CodeSpot, RegexpSpot, spot_at, tail_of, unless_within, StringSpot, MinusTail, NumberTail, PlusTail, SlashTail, WordTail}
use Rattle.js_lexer.specs.States.{At, Code, Word, Number, Pluses, Minuses, Slash, LineComment, BlockComment, InString, InRegexp, InTemplate, TooDeep, ScriptState, Trail}
use Rattle.js_lexer.specs.Steps.{sense_if_odd}
use Rattle.js_lexer.specs.Words.{sense_after}
use Rattle.js_lexer.specs.Trails.{is_empty}
use Rattle.js_lexer.specs.declared.sense.Sense.{Sense}
use Rattle.js_lexer.specs.declared.sense.Sense.TheVariants as sense
use Rattle.js_step.specs.ScriptScans.{script_scan_start}
use Rattle.place_core.proofs.Semilattices.{none_some}
use Rattle.place_core.specs.page.References.{Reference, Closed, Open}
use Rattle.place_core.specs.page.States.{LexState, Text, TagOpen, EndTagOpen, DeclarationOpen, Started, StartedDash, Inside, Dash, DashDash, Bang, Broken, InComment, BogusComment, InDoctype, TagName, WholeTagName, BeforeAttributeName, AttributeName, WholeAttributeName, AfterAttributeName, BeforeAttributeValue, AttributeValue, AfterAttributeValue, SelfClosingStartTag, Characters, Bytes, InLanguage, Pending, Nothing, PendingLess, LessAtCut, PendingName, PendingBang, PendingBangDash, PendingOpening, InContent}
use Rattle.place_core.specs.page.Tags.{Tag, Quoting, ValueOf, Deciding, ValueState, OfKind, OfUrl, OfStyle, OfScript, is_second_type}
use Rattle.place_core.specs.place.Membership.{IsIn, Bears}
use Rattle.place_core.specs.place.LanguagePlaces.{js_has}
use Rattle.place_core.specs.place.PathPairs.{sense_at_text, slash_sense}
use Rattle.place_core.specs.place.Places.{Below, Has, body_has, joined_bodies, quotes_have}
use Rattle.place_core.specs.place.ScriptParts.{script_body, script_js, script_may_begin_text, script_place, script_senses, script_tails}
use Rattle.place_core.specs.place.StatePlaces.{block_place, content_place, content_spot, only_after, only_inside, placed, quotes_at, tag_spot, value_spot}
use Rattle.place_core.specs.place.StyleParts.{style_body, style_css}
use Rattle.place_core.specs.place.UrlParts.{parts_of}
use Rattle.place_core.specs.declared.body.Body.{Body}
use Rattle.place_core.specs.declared.body.Body.TheVariants as body
use Rattle.place_core.specs.declared.css.Css.{Css}
use Rattle.place_core.specs.declared.element.Element.{Element}
use Rattle.place_core.specs.declared.element.Element.TheVariants as element
use Rattle.place_core.specs.declared.js.Js.{Js}
use Rattle.place_core.specs.declared.js.Js.TheVariants as js
use Rattle.place_core.specs.declared.kind.Kind.{Kind}
use Rattle.place_core.specs.declared.kind.Kind.TheVariants as kind
use Rattle.place_core.specs.declared.member.Member.TheVariants as member
use Rattle.place_core.specs.declared.place.Place.{Place}
use Rattle.place_core.specs.declared.place.Place.TheVariants as place
use Rattle.place_core.specs.declared.quotes.Quotes.{Quotes}
use Rattle.place_core.specs.declared.quotes.Quotes.TheVariants as quotes
use Rattle.place_core.specs.declared.value_place.ValuePlace.{ValuePlace}
use Rattle.url_lexer.specs.Parts.{UrlPart}
use Rattle.url_lexer.specs.Spots.{where_whole}
use Rattle.url_lexer.specs.States.{Url}
use Rattle.url_lexer.specs.Triples.{Triple, NoTriple, AfterPercent, AfterDigit}
use Rattle.html_scan.specs.Scans as scans
use Rattle.html_step.proofs.ElementSteps.{body-css}
use Rattle.html_step.proofs.FromTexts.{own-has}
use Rattle.html_step.proofs.JsPlaces.{under-script}
use Rattle.html_step.proofs.PlaceParts.{below-value}
use Rattle.html_step.proofs.ScriptTold.{body_differs, scan_differs, script_differs}

no : false ≡ true → ⊥
no e = cc

-- by the place of a script
record JsFits (o : Option Sense) (c : Js) : Type 0 where
  re : js_has c member.SenseRe ≡ true → o ≡ Some sense.Re
  div : js_has c member.SenseDiv ≡ true → o ≡ Some sense.Div

abbrev BodyFits : Option Sense → Body → Type 0
BodyFits o (body.Js c) = JsFits o c
BodyFits o b = Unit {0}

abbrev OptionFits : Option Sense → Option Js → Type 0
OptionFits o (Some c) = JsFits o c
OptionFits o None = Unit {0}

abbrev WhereFits : Option Sense → Option Place → Type 0
WhereFits o (Some (place.Value v)) = BodyFits o v.body
WhereFits o (Some (place.Script c)) = JsFits o c
WhereFits o p = Unit {0}

code-fits : (s : Sense) (x : Tail) → JsFits (Some s) (js.Code (script_senses s) (script_tails x))
code-fits sense.Re x = record { re = λ h. refl; div = λ h. absurd (no h) }
code-fits sense.Div x = record { re = λ h. absurd (no h); div = λ h. refl }
code-fits sense.Brace x = record { re = λ h. absurd (no h); div = λ h. absurd (no h) }

line-fits : (s : Sense) → JsFits (Some s) (js.Line (script_senses s))
line-fits sense.Re = record { re = λ h. refl; div = λ h. absurd (no h) }
line-fits sense.Div = record { re = λ h. absurd (no h); div = λ h. refl }
line-fits sense.Brace = record { re = λ h. absurd (no h); div = λ h. absurd (no h) }

block-fits : (s : Sense) (star : Bool) → JsFits (Some s) (js.Block (script_senses s) star)
block-fits sense.Re star = record { re = λ h. refl; div = λ h. absurd (no h) }
block-fits sense.Div star = record { re = λ h. absurd (no h); div = λ h. refl }
block-fits sense.Brace star = record { re = λ h. absurd (no h); div = λ h. absurd (no h) }

string-fits : (q : Bool) (o : Option Sense) → JsFits o (script_place (StringSpot q))
string-fits true o = record { re = λ h. absurd (no h); div = λ h. absurd (no h) }
string-fits false o = record { re = λ h. absurd (no h); div = λ h. absurd (no h) }

regexp-fits : (x : Bool) (o : Option Sense) → JsFits o (script_place (RegexpSpot x))
regexp-fits x o = record { re = λ h. absurd (no h); div = λ h. absurd (no h) }

abbrev SpotFits : Option Sense → Option Spot → Type 0
SpotFits o (Some p) = JsFits o (script_place p)
SpotFits o None = Unit {0}

within-fits : (x : Bool) (o : Option Sense) (p : Spot) → JsFits o (script_place p) → SpotFits o (unless_within x p)
within-fits true o p h = tt
within-fits false o p h = h

at-fits : (a : At) (t : Trail) → SpotFits (sense_at_text a) (spot_at a t)
at-fits (Code s) t = within-fits (is_cut_markup t.markup) (Some s) (CodeSpot s (tail_of t.markup)) (code-fits s (tail_of t.markup))
at-fits (Word w) t = code-fits (sense_after w) WordTail
at-fits Number t = code-fits sense.Div NumberTail
at-fits (Pluses odd) t = code-fits (sense_if_odd odd) PlusTail
at-fits (Minuses odd) t =
    within-fits (is_cut_markup t.markup) (Some (sense_if_odd odd)) (CodeSpot (sense_if_odd odd) MinusTail) (code-fits (sense_if_odd odd) MinusTail)
at-fits (Slash sense.Re) t = within-fits (is_cut_markup t.markup) None (RegexpSpot true) (regexp-fits true None)
at-fits (Slash sense.Div) t = code-fits sense.Re SlashTail
at-fits (Slash sense.Brace) t = tt
at-fits (LineComment s) t = line-fits s
at-fits (BlockComment s star) t = block-fits s star
at-fits (InString q e) t = within-fits (within_escape t) None (StringSpot q) (string-fits q None)
at-fits (InRegexp true e) t = tt
at-fits (InRegexp false e) t = within-fits (within_escape t || is_cut_markup t.markup) None (RegexpSpot false) (regexp-fits false None)
at-fits (InTemplate e d) t = tt
at-fits TooDeep t = tt

js-fits : (x y : Bool) (o : Option Sense) (p : Option Spot) → SpotFits o p → OptionFits o (if x then option_map script_place (if y then p else None) else None)
js-fits true true o (Some p) h = h
js-fits true true o None h = tt
js-fits true false o p h = tt
js-fits false y o p h = tt

script-js-fits : (s : ScriptState) → OptionFits (sense_at_text s.at) (script_js s)
script-js-fits s =
    js-fits (script_may_begin_text s) (is_empty s.literals && is_empty s.held) (sense_at_text s.at) (spot_at s.at s.trail) (at-fits s.at s.trail)

in-value-fits : (o : Option Sense) (c : Option Js) (q : Quoting) (t : Tag) → OptionFits o c → WhereFits o (value_spot t (quotes_at q) (option_map body.Js c))
in-value-fits o (Some c) q t h = h
in-value-fits o None q t h = tt

script-fits : (s : ScriptState) (q : Quoting) (t : Tag) → WhereFits (sense_at_text s.at) (value_spot t (quotes_at q) (script_body s))
script-fits s q t = in-value-fits (sense_at_text s.at) (script_js s) q t (script-js-fits s)

in-element-fits : (o : Option Sense) (c : Option Js) → OptionFits o c → WhereFits o (option_map place.Script c)
in-element-fits o (Some c) h = h
in-element-fits o None h = tt

-- elsewhere
second-fits : (x : Bool) (o : Option Sense) (p : Place) → WhereFits o (Some p) → WhereFits o (if x then None else Some p)
second-fits true o p h = tt
second-fits false o p h = h

before-fits : (t : Tag) (k : Kind) → WhereFits (slash_sense (BeforeAttributeValue t k)) (placed (BeforeAttributeValue t k))
before-fits t kind.Plain = tt
before-fits t kind.NoHole = tt
before-fits t kind.Url = tt
before-fits t kind.Script = record { re = λ h. refl; div = λ h. absurd (no h) }
before-fits t kind.Style = tt
before-fits t kind.ScriptType = tt

kind-fits : (q : Quoting) (t : Tag) (k : Kind) → WhereFits None (placed (AttributeValue q t (ValueOf (OfKind k)) Closed))
kind-fits q t kind.Plain = tt
kind-fits q t kind.NoHole = tt
kind-fits q t kind.Url = tt
kind-fits q t kind.Script = tt
kind-fits q t kind.Style = tt
kind-fits q t kind.ScriptType = tt

url-fits : (x : Triple) (p : UrlPart) (q : Quoting) (t : Tag)
    → WhereFits None (value_spot t (quotes_at q) (option_map (λ z. body.Url (parts_of z)) (where_whole x p)))
url-fits NoTriple p q t = tt
url-fits AfterPercent p q t = tt
url-fits AfterDigit p q t = tt

css-fits : (c : Option Css) (q : Quoting) (t : Tag) → WhereFits None (value_spot t (quotes_at q) (option_map body.Css c))
css-fits (Some c) q t = tt
css-fits None q t = tt

style-fits : (s : Style Url) (q : Quoting) (t : Tag) → WhereFits None (value_spot t (quotes_at q) (style_body s))
style-fits s q t = subst (λ (z : Option Body). WhereFits None (value_spot t (quotes_at q) z)) (sym (body-css s)) (css-fits (style_css s) q t)

element-fits : (c : Option Css) → WhereFits None (option_map place.Style c)
element-fits (Some c) = tt
element-fits None = tt

rest-fits : (e : Element) → WhereFits None (content_place e)
rest-fits element.Title = tt
rest-fits element.Textarea = tt
rest-fits element.DataBlock = tt
rest-fits element.Script = tt
rest-fits element.Style = tt
rest-fits element.Other = tt

block-place-fits : (e : Element) (x : Bool) → WhereFits None (block_place e x)
block-place-fits element.DataBlock x = tt
block-place-fits element.Title x = tt
block-place-fits element.Textarea x = tt
block-place-fits element.Script x = tt
block-place-fits element.Style x = tt
block-place-fits element.Other x = tt

language-fits : (h : Pending) (e : Element) (v : ValueState) → WhereFits (slash_sense (InContent e (InLanguage v) h)) (content_spot h (InLanguage v) e)
language-fits Nothing element.Script (OfScript s) = in-element-fits (sense_at_text s.at) (script_js s) (script-js-fits s)
language-fits Nothing element.Script (OfKind k) = tt
language-fits Nothing element.Script (OfUrl u) = tt
language-fits Nothing element.Script (OfStyle s) = tt
language-fits Nothing element.Style (OfStyle s) = element-fits (style_css s)
language-fits Nothing element.Style (OfKind k) = tt
language-fits Nothing element.Style (OfUrl u) = tt
language-fits Nothing element.Style (OfScript s) = tt
language-fits Nothing element.Title v = tt
language-fits Nothing element.Textarea v = tt
language-fits Nothing element.DataBlock v = tt
language-fits Nothing element.Other v = tt
language-fits LessAtCut e v = tt
language-fits PendingLess e v = tt
language-fits (PendingName letters) e v = tt
language-fits PendingBang e v = tt
language-fits PendingBangDash e v = tt
language-fits (PendingOpening letters) e v = tt

characters-fits : (h : Pending) (r : Reference) (e : Element) → WhereFits None (content_spot h (Characters r) e)
characters-fits Nothing Closed e = rest-fits e
characters-fits Nothing (Open f bytes) e = tt
characters-fits _ r e = tt

bytes-fits : (h : Pending) (e : Element) → WhereFits None (content_spot h Bytes e)
bytes-fits Nothing e = block-place-fits e false
bytes-fits LessAtCut e = block-place-fits e true
bytes-fits _ e = tt

fits : (s : LexState ValueState) → WhereFits (slash_sense s) (placed s)
fits (Text Closed) = tt
fits (Text (Open f bytes)) = tt
fits (TagOpen r) = tt
fits (EndTagOpen r) = tt
fits (DeclarationOpen r pending) = tt
fits (InComment Inside) = tt
fits (InComment Broken) = tt
fits (InComment Started) = tt
fits (InComment StartedDash) = tt
fits (InComment Dash) = tt
fits (InComment DashDash) = tt
fits (InComment Bang) = tt
fits BogusComment = tt
fits InDoctype = tt
fits (TagName ends name) = tt
fits (WholeTagName t) = tt
fits (BeforeAttributeName t) = tt
fits (AttributeName t name) = tt
fits (WholeAttributeName t k) = second-fits (is_second_type t.typed k) None (place.Tag (tag_spot t only_inside (Some k))) tt
fits (AfterAttributeName t k) = second-fits (is_second_type t.typed k) None (place.Tag (tag_spot t only_after (Some k))) tt
fits (BeforeAttributeValue t k) = before-fits t k
fits (AttributeValue q t (ValueOf (OfKind k)) Closed) = kind-fits q t k
fits (AttributeValue q t (ValueOf (OfUrl u)) Closed) = url-fits u.triple u.part q t
fits (AttributeValue q t (ValueOf (OfStyle s)) Closed) = style-fits s q t
fits (AttributeValue q t (ValueOf (OfScript s)) Closed) = script-fits s q t
fits (AttributeValue q t (Deciding k before) Closed) = tt
fits (AttributeValue q t v (Open f bytes)) = tt
fits (AfterAttributeValue t) = tt
fits (SelfClosingStartTag t) = tt
fits (InContent e (Characters r) h) = characters-fits h r e
fits (InContent e Bytes h) = bytes-fits h e
fits (InContent e (InLanguage v) h) = language-fits h e v

fits-at : (s : LexState ValueState) (u : ValuePlace) (i : Js) → placed s ≡ Some (place.Value u) → u.body ≡ body.Js i → JsFits (slash_sense s) i
fits-at s u i e b = subst (BodyFits (slash_sense s)) b (subst (WhereFits (slash_sense s)) e (fits s))

fits-in-element : (s : LexState ValueState) (c : Js) → placed s ≡ Some (place.Script c) → JsFits (slash_sense s) c
fits-in-element s c e = subst (WhereFits (slash_sense s)) e (fits s)

-- what a value has of this, its script has
quotes-no-div : (q : Quotes) (x : Bool) → (quotes_have q member.SenseDiv || x) ≡ true → x ≡ true
quotes-no-div quotes.Dq x h = h
quotes-no-div quotes.Sq x h = h
quotes-no-div (quotes.Bare y) x h = h

quotes-no-re : (q : Quotes) (x : Bool) → (quotes_have q member.SenseRe || x) ≡ true → x ≡ true
quotes-no-re quotes.Dq x h = h
quotes-no-re quotes.Sq x h = h
quotes-no-re (quotes.Bare y) x h = h

-- the place of a path below one of a script
pub record ScriptAbove (p : Place) : Type 0 where
  pub value : ValuePlace
  pub all : Js
  pub is : p ≡ place.Value value
  pub script : value.body ≡ body.Js all
  pub differ : script_differs (script_scan_start all) ≡ true

pub record ElementAbove (p : Place) : Type 0 where
  pub all : Js
  pub is : p ≡ place.Script all
  pub differ : script_differs (script_scan_start all) ≡ true

pub data DiffersAt (p : Place) : Type 0 where
  in_value : ScriptAbove p → DiffersAt p
  in_element : ElementAbove p → DiffersAt p

value-above : (v : ValuePlace) (x : Body) → v.body ≡ x → body_differs x ≡ true → ScriptAbove (place.Value v)
value-above v (body.Js j) d h = record { value = v; all = j; is = refl; script = d; differ = h }
value-above v _ d h = absurd (no h)

pub script-above : (p : Place) → scan_differs (scans.At p) ≡ true → DiffersAt p
script-above (place.Value v) h = in_value (value-above v v.body refl h)
script-above (place.Script j) h = in_element (record { all = j; is = refl; differ = h })
script-above _ h = absurd (no h)

script-of : (b : Body) (j : Js) → joined_bodies b (body.Js j) ≡ Some (body.Js j) → (i : Js) × (b ≡ body.Js i)
script-of (body.Js i) j h = (i, refl)
script-of _ j h = absurd (none_some (body.Js j) h)

value-of : (v : ValuePlace) (a : Place) → Below a (place.Value v) → (u : ValuePlace) × (a ≡ place.Value u)
value-of v (place.Value u) h = (u, refl)
value-of v _ h = absurd (none_some (place.Value v) h)

record OwnScript (a : Place) : Type 0 where
  value : ValuePlace
  own : Js
  is : a ≡ place.Value value
  script : value.body ≡ body.Js own

own-script : (p a : Place) → ScriptAbove p → Below a p → OwnScript a
own-script p a w l =
    let here : Below a (place.Value w.value) = subst (Below a) w.is l in
    let u = value-of w.value a here in
    let d = below-value u.0 w.value (subst (λ (x : Place). Below x (place.Value w.value)) u.1 here) in
    let i = script-of u.0.body w.all (subst (λ (x : Body). joined_bodies u.0.body x ≡ Some x) w.script d.body) in
    record { value = u.0; own = i.0; is = u.1; script = i.1 }

value-div : (p : Place) (s : LexState ValueState) → ScriptAbove p → IsIn p s → Bears s member.SenseDiv → slash_sense s ≡ Some sense.Div
value-div p s w i b =
    let o = own-script p i.own w i.below in
    let h : Has (place.Value o.value) member.SenseDiv = subst (λ (a : Place). Has a member.SenseDiv) o.is (own-has p s member.SenseDiv i b) in
    (fits-at s o.value o.own (i.stands ∙ ap Some o.is) o.script).div
    (subst (λ (x : Body). body_has x member.SenseDiv ≡ true) o.script (quotes-no-div o.value.quotes (body_has o.value.body member.SenseDiv) h))

value-re : (p : Place) (s : LexState ValueState) → ScriptAbove p → IsIn p s → Bears s member.SenseRe → slash_sense s ≡ Some sense.Re
value-re p s w i b =
    let o = own-script p i.own w i.below in
    let h : Has (place.Value o.value) member.SenseRe = subst (λ (a : Place). Has a member.SenseRe) o.is (own-has p s member.SenseRe i b) in
    (fits-at s o.value o.own (i.stands ∙ ap Some o.is) o.script).re
    (subst (λ (x : Body). body_has x member.SenseRe ≡ true) o.script (quotes-no-re o.value.quotes (body_has o.value.body member.SenseRe) h))

-- in the element the place has what its script has
own-in-element : (p a : Place) → ElementAbove p → Below a p → (c : Js) × (a ≡ place.Script c)
own-in-element p a w l = under-script (λ (d : Place). (c : Js) × (d ≡ place.Script c)) w.all (λ c m. (c, refl)) a (subst (Below a) w.is l)

element-div : (p : Place) (s : LexState ValueState) → ElementAbove p → IsIn p s → Bears s member.SenseDiv → slash_sense s ≡ Some sense.Div
element-div p s w i b =
    let o = own-in-element p i.own w i.below in
    (fits-in-element s o.0 (i.stands ∙ ap Some o.1)).div (subst (λ (a : Place). Has a member.SenseDiv) o.1 (own-has p s member.SenseDiv i b))

element-re : (p : Place) (s : LexState ValueState) → ElementAbove p → IsIn p s → Bears s member.SenseRe → slash_sense s ≡ Some sense.Re
element-re p s w i b =
    let o = own-in-element p i.own w i.below in
    (fits-in-element s o.0 (i.stands ∙ ap Some o.1)).re (subst (λ (a : Place). Has a member.SenseRe) o.1 (own-has p s member.SenseRe i b))

pub bears-div : (p : Place) (s : LexState ValueState) → DiffersAt p → IsIn p s → Bears s member.SenseDiv → slash_sense s ≡ Some sense.Div
bears-div p s (in_value w) i b = value-div p s w i b
bears-div p s (in_element w) i b = element-div p s w i b

pub bears-re : (p : Place) (s : LexState ValueState) → DiffersAt p → IsIn p s → Bears s member.SenseRe → slash_sense s ≡ Some sense.Re
bears-re p s (in_value w) i b = value-re p s w i b
bears-re p s (in_element w) i b = element-re p s w i b
