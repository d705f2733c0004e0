-- Holes, place by place.
use Rattle.std.proofs.Common.{◌≡◌, Option, Some, None, option_map, Ok, Err, refl, sym, ap, ◌∙◌, subst, Bool, true, false, if◌then◌else◌}
use Rattle.place_core.specs.place.Errors.{hole_error}
use Rattle.place_core.specs.page.Paths.{at_hole}
use Rattle.place_core.specs.page.References.{Closed, Open}
use Rattle.place_core.specs.place.StatePlaces.{placed, tag_spot, value_spot, quotes_at, only_inside, only_after}
use Rattle.place_core.specs.place.UrlParts.{parts_of}
use Rattle.place_core.specs.page.States.{LexState, Text, TagOpen, EndTagOpen, DeclarationOpen, InComment, Started, StartedDash, Inside, Dash, DashDash, Bang, Broken, BogusComment, InDoctype, TagName, WholeTagName, BeforeAttributeName, AttributeName, WholeAttributeName, AfterAttributeName, BeforeAttributeValue, AttributeValue, AfterAttributeValue, SelfClosingStartTag, Characters, Bytes, InLanguage, Nothing, PendingLess, PendingName, PendingBang, PendingBangDash, PendingOpening, InContent, LessAtCut}
use Rattle.place_core.specs.page.Tags.{Tag, ValueOf, Deciding, ValueState, OfKind, OfUrl, OfStyle, OfScript, languages, style_code, Quoting, DoubleQuoted, SingleQuoted, Unquoted, is_second_type}
use Rattle.css_lexer.specs.RefusalCodes.{RefusalCode}
use Rattle.css_lexer.specs.Paths.{style_after_hole}
use Rattle.css_lexer.specs.States.{Style}
use Rattle.css_lexer.specs.Urls.{urls}
use Rattle.css_step.specs.StyleChains.{style_hole_with_chain}
use Rattle.css_step.specs.StyleScans.{style_at_hole, style_hole_error, style_scan_place}
use Rattle.css_step.specs.StyleScanViews.{style_or_refusal}
use Rattle.js_lexer.specs.States.{ScriptState}
use Rattle.js_lexer.specs.Holes.{script_after_hole}
use Rattle.js_step.specs.ScriptScans.{script_at_hole}
use Rattle.js_step.proofs.ScriptPaths.{script-paths-are-scanned}
use Rattle.place_core.specs.place.ScriptParts.{script_body, script_js}
use Rattle.html_step.proofs.StylePaths.{StyleHole, style-at-place, style-hole}
use Rattle.place_core.specs.place.StyleParts.{style_body, style_css}
use Rattle.place_core.specs.declared.body.Body.{Body}
use Rattle.place_core.specs.declared.body.Body.TheVariants as body
use Rattle.place_core.specs.declared.css.Css.{Css}
use Rattle.place_core.specs.declared.js.Js.{Js}
use Rattle.place_core.specs.declared.value_place.ValuePlace.{ValuePlace}
use Rattle.place_core.specs.declared.element.Element.TheVariants as element
use Rattle.place_core.specs.declared.kind.Kind.{Kind}
use Rattle.place_core.specs.declared.kind.Kind.TheVariants as kind
use Rattle.place_core.specs.declared.place.Place.{Place}
use Rattle.place_core.specs.declared.place.Place.TheVariants as place
use Rattle.place_core.specs.declared.quotes.Quotes.{Quotes}
use Rattle.html_step.specs.Holes.{Holed, after_hole, css_holed, element_holed, holed_quotes, js_holed}
use Rattle.html_step.proofs.ElementSteps.{body-css, css-is}
use Rattle.html_step.proofs.JsPlaces.{js-of-body}
use Rattle.html_step.proofs.PathScans.{same-tag}
use Rattle.url_lexer.specs.Parts.{UrlPart, UrlStart, UrlOpen, UrlOpenhole, UrlPrequery, UrlQuery, UrlBad, part_at_hole}
use Rattle.url_lexer.specs.Spots.{where_whole}
use Rattle.url_lexer.specs.States.{Url}
use Rattle.url_lexer.specs.Triples.{Triple, NoTriple, AfterPercent, AfterDigit}

-- the answer at the place of a path
abbrev pub OwnHole : Holed → Place → LexState ValueState → Type 0
OwnHole (Ok h) p s = (hole_error p ≡ None) × (placed (at_hole languages s) ≡ Some h.0)
OwnHole (Err e) p s = hole_error p ≡ Some e

-- where a place is that of a state
abbrev WherePlaced : Option Place → LexState ValueState → Type 0
WherePlaced None s = Unit {0}
WherePlaced (Some p) s = OwnHole (after_hole p) p s

-- in a URL, from the part of the path
holed-same : (q : Quoting) → holed_quotes (quotes_at q) ≡ quotes_at q
holed-same DoubleQuoted = refl
holed-same SingleQuoted = refl
holed-same Unquoted = refl

in-part : Tag → Quotes → UrlPart → Place
in-part t q p = place.Value (record { tag = t.tag; typed = t.typed; quotes = q; body = body.Url (parts_of p) })

part-own : (p : UrlPart) (q : Quotes) (t : Tag) (s : LexState ValueState) → placed (at_hole languages s) ≡ Some (in-part t (holed_quotes q) (part_at_hole p))
    → OwnHole (after_hole (in-part t q p)) (in-part t q p) s
unfolding in-part
part-own UrlStart q t s e = (refl, e)
part-own (UrlOpen x) q t s e = (refl, e)
part-own UrlOpenhole q t s e = (refl, e)
part-own UrlPrequery q t s e = (refl, e)
part-own UrlQuery q t s e = (refl, e)
part-own UrlBad q t s e = refl

url-own : (x : Triple) (u : Url) (q : Quoting) (t : Tag)
    → WherePlaced (value_spot t (quotes_at q) (option_map (λ p. body.Url (parts_of p)) (where_whole x u.part))) (AttributeValue q t (ValueOf (OfUrl u)) Closed)
unfolding in-part
url-own NoTriple u q t =
    part-own u.part (quotes_at q) t (AttributeValue q t (ValueOf (OfUrl u)) Closed)
    (ap (λ (z : Quotes). Some (in-part t z (part_at_hole u.part))) (sym (holed-same q)))
url-own AfterPercent u q t = tt
url-own AfterDigit u q t = tt

-- in a style
in-style : Tag → Quotes → Css → ValuePlace
in-style t q c = record { tag = t.tag; typed = t.typed; quotes = q; body = body.Css c }

css-own : (o : Option RefusalCode) (v : Style Url) (c : Css) (q : Quoting) (t : Tag) → style_hole_error c ≡ o → StyleHole v c
    → OwnHole (css_holed (in-style t (quotes_at q) c) c (style_or_refusal o (style_at_hole c))) (place.Value (in-style t (quotes_at q) c))
    (AttributeValue q t (ValueOf (OfStyle v)) Closed)
unfolding in-style
css-own None v c q t e h = (
  h.error ∙ ap (option_map style_code) e,
  ap (value_spot t (quotes_at q)) (h.after e) ∙ ap (λ (z : Quotes). Some (place.Value (in-style t z (style_at_hole c)))) (sym (holed-same q)),
)
css-own (Some x) v c q t e h = h.error ∙ ap (option_map style_code) e

style-own : (o : Option Body) (v : Style Url) (q : Quoting) (t : Tag) → style_body v ≡ o
    → WherePlaced (value_spot t (quotes_at q) o) (AttributeValue q t (ValueOf (OfStyle v)) Closed)
unfolding in-style
style-own None v q t e = tt
style-own (Some b) v q t e =
    let a = style-at-place v b e in
    let c = style_scan_place a.scan in
    subst (λ (z : Body). WherePlaced (value_spot t (quotes_at q) (Some z)) (AttributeValue q t (ValueOf (OfStyle v)) Closed)) (sym a.place)
    (css-own (style_hole_error c) v c q t refl (style-hole v c (e ∙ ap Some a.place)))

-- in a script
in-script : Tag → Quotes → Js → ValuePlace
in-script t q j = record { tag = t.tag; typed = t.typed; quotes = q; body = body.Js j }

js-own : (v : ScriptState) (j : Js) (q : Quoting) (t : Tag) → script_body v ≡ Some (body.Js j)
    → OwnHole (js_holed (in-script t (quotes_at q) j) j) (place.Value (in-script t (quotes_at q) j)) (AttributeValue q t (ValueOf (OfScript v)) Closed)
unfolding in-script
js-own v j q t e = (
  refl,
  ap (value_spot t (quotes_at q)) (script-paths-are-scanned.stands v j e).behind_hole
      ∙ ap (λ (z : Quotes). Some (place.Value (in-script t z (script_at_hole j)))) (sym (holed-same q)),
)

script-own : (o : Option Body) (v : ScriptState) (q : Quoting) (t : Tag) → script_body v ≡ o
    → WherePlaced (value_spot t (quotes_at q) o) (AttributeValue q t (ValueOf (OfScript v)) Closed)
unfolding in-script
script-own None v q t e = tt
script-own (Some x) v q t e =
    let j = script-paths-are-scanned.is_script v x e in
    subst (λ (z : Body). WherePlaced (value_spot t (quotes_at q) (Some z)) (AttributeValue q t (ValueOf (OfScript v)) Closed)) (sym j.1)
    (js-own v j.0 q t (e ∙ ap Some j.1))

-- and in the element
element-hole : (o : Option RefusalCode) (v : Style Url) (c : Css) → style_hole_error c ≡ o → StyleHole v c
    → OwnHole (element_holed (style_hole_with_chain c (style_or_refusal o (style_at_hole c)))) (place.Style c) (InContent element.Style (InLanguage (OfStyle v)) Nothing)
element-hole None v c e h = (
  h.error ∙ ap (option_map style_code) e,
  ap (option_map place.Style) (css-is (style_after_hole urls v) (style_at_hole c) (h.after e)),
)
element-hole (Some x) v c e h = h.error ∙ ap (option_map style_code) e

element-own : (o : Option Css) (v : Style Url) → style_css v ≡ o → WherePlaced (option_map place.Style o) (InContent element.Style (InLanguage (OfStyle v)) Nothing)
element-own None v e = tt
element-own (Some c) v e = element-hole (style_hole_error c) v c refl (style-hole v c (body-css v ∙ ap (option_map body.Css) e))

-- of a script too
script-element-own : (o : Option Js) (v : ScriptState) → script_js v ≡ o
    → WherePlaced (option_map place.Script o) (InContent element.Script (InLanguage (OfScript v)) Nothing)
script-element-own None v e = tt
script-element-own (Some j) v e = (
  refl,
  ap (option_map place.Script)
      (js-of-body (script_js (script_after_hole v)) (script_at_hole j) (script-paths-are-scanned.stands v j (ap (option_map body.Js) e)).behind_hole),
)

value-own : (q : Quoting) (t : Tag) (v : ValueState) → WherePlaced (placed (AttributeValue q t (ValueOf v) Closed)) (AttributeValue q t (ValueOf v) Closed)
value-own DoubleQuoted t (OfKind kind.Plain) = (refl, refl)
value-own SingleQuoted t (OfKind kind.Plain) = (refl, refl)
value-own Unquoted t (OfKind kind.Plain) = (refl, refl)
value-own q t (OfKind kind.NoHole) = refl
value-own q t (OfKind kind.Url) = tt
value-own q t (OfKind kind.Script) = tt
value-own q t (OfKind kind.Style) = tt
value-own q t (OfKind kind.ScriptType) = tt
value-own q t (OfUrl u) = url-own u.triple u q t
value-own q t (OfStyle s) = style-own (style_body s) s q t refl
value-own q t (OfScript s) = script-own (script_body s) s q t refl

before-own : (t : Tag) (k : Kind) → WherePlaced (placed (BeforeAttributeValue t k)) (BeforeAttributeValue t k)
before-own t kind.Plain = (refl, refl)
before-own t kind.NoHole = refl
before-own t kind.Url = (refl, refl)
before-own t kind.Script = (refl, refl)
before-own t kind.Style = (refl, refl)
before-own t kind.ScriptType = tt

after-own : (second : Bool) (t : Tag) (k : Kind) → WherePlaced (if second then None else Some (place.Tag (tag_spot t only_after (Some k)))) (AfterAttributeName t k)
after-own true t k = tt
after-own false t k = (refl, rw (same-tag t k) refl)

whole-own : (second : Bool) (t : Tag) (k : Kind) → WherePlaced (if second then None else Some (place.Tag (tag_spot t only_inside (Some k)))) (WholeAttributeName t k)
whole-own true t k = tt
whole-own false t k = refl

own-hole : (s : LexState ValueState) → WherePlaced (placed s) s
own-hole (Text Closed) = (refl, refl)
own-hole (Text (Open f bytes)) = tt
own-hole (TagOpen r) = tt
own-hole (EndTagOpen r) = tt
own-hole (DeclarationOpen r pending) = tt
own-hole (InComment Inside) = (refl, refl)
own-hole (InComment Broken) = (refl, refl)
own-hole (InComment Started) = tt
own-hole (InComment StartedDash) = tt
own-hole (InComment Dash) = tt
own-hole (InComment DashDash) = tt
own-hole (InComment Bang) = tt
own-hole BogusComment = tt
own-hole InDoctype = refl
own-hole (TagName ends name) = tt
own-hole (WholeTagName t) = refl
own-hole (BeforeAttributeName t) = (refl, refl)
own-hole (AttributeName t name) = tt
own-hole (WholeAttributeName t k) = whole-own (is_second_type t.typed k) t k
own-hole (AfterAttributeName t k) = after-own (is_second_type t.typed k) t k
own-hole (BeforeAttributeValue t k) = before-own t k
own-hole (AttributeValue q t (ValueOf v) Closed) = value-own q t v
own-hole (AttributeValue q t (Deciding k before) Closed) = tt
own-hole (AttributeValue q t v (Open f bytes)) = tt
own-hole (AfterAttributeValue t) = (refl, refl)
own-hole (SelfClosingStartTag t) = (refl, refl)
own-hole (InContent element.Title (Characters Closed) Nothing) = (refl, refl)
own-hole (InContent element.Textarea (Characters Closed) Nothing) = (refl, refl)
own-hole (InContent element.DataBlock (Characters Closed) Nothing) = tt
own-hole (InContent element.Script (Characters Closed) Nothing) = tt
own-hole (InContent element.Style (Characters Closed) Nothing) = tt
own-hole (InContent element.Other (Characters Closed) Nothing) = tt
own-hole (InContent x (Characters (Open f bytes)) Nothing) = tt
own-hole (InContent element.DataBlock Bytes Nothing) = (refl, refl)
own-hole (InContent element.Title Bytes Nothing) = tt
own-hole (InContent element.Textarea Bytes Nothing) = tt
own-hole (InContent element.Script Bytes Nothing) = tt
own-hole (InContent element.Style Bytes Nothing) = tt
own-hole (InContent element.Other Bytes Nothing) = tt
own-hole (InContent element.Style (InLanguage (OfStyle s)) Nothing) = element-own (style_css s) s refl
own-hole (InContent element.Style (InLanguage (OfKind k)) Nothing) = tt
own-hole (InContent element.Style (InLanguage (OfUrl u)) Nothing) = tt
own-hole (InContent element.Style (InLanguage (OfScript s)) Nothing) = tt
own-hole (InContent element.Title (InLanguage v) Nothing) = tt
own-hole (InContent element.Textarea (InLanguage v) Nothing) = tt
own-hole (InContent element.DataBlock (InLanguage v) Nothing) = tt
own-hole (InContent element.Script (InLanguage (OfScript s)) Nothing) = script-element-own (script_js s) s refl
own-hole (InContent element.Script (InLanguage (OfKind k)) Nothing) = tt
own-hole (InContent element.Script (InLanguage (OfUrl u)) Nothing) = tt
own-hole (InContent element.Script (InLanguage (OfStyle s)) Nothing) = tt
own-hole (InContent element.Other (InLanguage v) Nothing) = tt
own-hole (InContent x (InLanguage v) LessAtCut) = tt
own-hole (InContent x (Characters r) LessAtCut) = tt
own-hole (InContent element.DataBlock Bytes LessAtCut) = refl
own-hole (InContent element.Title Bytes LessAtCut) = tt
own-hole (InContent element.Textarea Bytes LessAtCut) = tt
own-hole (InContent element.Script Bytes LessAtCut) = tt
own-hole (InContent element.Style Bytes LessAtCut) = tt
own-hole (InContent element.Other Bytes LessAtCut) = tt
own-hole (InContent x y PendingLess) = tt
own-hole (InContent x y (PendingName letters)) = tt
own-hole (InContent x y PendingBang) = tt
own-hole (InContent x y PendingBangDash) = tt
own-hole (InContent x y (PendingOpening letters)) = tt

pub own-at : (p : Place) (s : LexState ValueState) → placed s ≡ Some p → OwnHole (after_hole p) p s
own-at p s e = subst (λ (o : Option Place). WherePlaced o s) e (own-hole s)
