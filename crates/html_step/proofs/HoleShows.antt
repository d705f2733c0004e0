-- Members behind a hole, and what shows that one is refused.
use Rattle.std.proofs.Common.{◌≡◌, Bool, true, false, ◌||◌, Option, Some, None, option_map, Ok, Err, if◌then◌else◌, refl, sym, ap, ◌∙◌, subst, ◌⊎◌, inl, inr}
use Rattle.place_core.specs.page.States.{LexState}
use Rattle.place_core.specs.page.Tags.{ValueState, refusal_code, style_code}
use Rattle.place_core.specs.place.Errors.{body_error, body_hole_error, css_hole_error, hole_error, url_hole_error}
use Rattle.place_core.specs.place.PathPairs.{ClashesHole, parts_clash, url_part_at}
use Rattle.place_core.specs.place.Membership.{IsIn, Bears}
use Rattle.place_core.specs.place.LanguagePlaces.{css_has, css_star_has, css_tails_have, js_has, parts_have}
use Rattle.place_core.specs.place.Places.{Below, Has, IsValid, body_has, is_whole, joined_bodies, joined_quotes, quotes_have, typed_has}
use Rattle.place_core.specs.place.StatePlaces.{only_inside, placed}
use Rattle.place_core.specs.declared.body.Body.{Body}
use Rattle.place_core.specs.declared.body.Body.TheVariants as body
use Rattle.place_core.specs.declared.chain.Chain.{Chain}
use Rattle.place_core.specs.declared.code.Code.{Code}
use Rattle.place_core.specs.declared.code.Code.TheVariants as code
use Rattle.place_core.specs.declared.kind.Kind.TheVariants as kind
use Rattle.place_core.specs.declared.member.Member.{Member}
use Rattle.place_core.specs.declared.member.Member.TheVariants as member
use Rattle.place_core.specs.declared.parts.Parts.{Parts}
use Rattle.place_core.specs.declared.place.Place.{Place}
use Rattle.place_core.specs.declared.place.Place.TheVariants as place
use Rattle.place_core.specs.declared.quotes.Quotes.{Quotes}
use Rattle.place_core.specs.declared.quotes.Quotes.TheVariants as quotes
use Rattle.place_core.specs.declared.tag_place.TagPlace.{TagPlace}
use Rattle.place_core.specs.declared.value_place.ValuePlace.{ValuePlace}
use Rattle.place_core.proofs.Semilattices.{none_some}
use Rattle.html_scan.specs.Scans.{Scan, bare_begun, scan_place, At}
use Rattle.html_step.specs.Laws.{EvidenceData, apart, one, two}
use Rattle.html_step.specs.HoleOrigins.{body_hole_origin, css_hole_origin, css_hole_shows, fresh_hole_origin, hole_origin, hole_shows, js_hole_origin, part_hole_origin, quotes_origin, slash_hole_origin, url_hole_shows, value_hole_shows, word_hole_origin}
use Rattle.html_step.specs.Origins.{in_value_origin, typed_origin}
use Rattle.html_step.specs.HoleLaws.{IsHoleOrigin, IsHoleEvidence, FromHole, HoleEvidence}
use Rattle.html_step.specs.Holes.{Holed, after_hole, css_holed, element_holed, holed_quotes, js_holed, named_by_data, plain_hole, url_holed, value_hole, block_hole}
use Rattle.html_step.proofs.BelowScans.{tag-place, value-place, below-at-block, element-place}
use Rattle.html_step.proofs.FromParts.{or-either, or-first}
use Rattle.html_step.proofs.FromSteps.{false-or, no, or-false, or-last}
use Rattle.html_step.proofs.FromValues.{in-body, in-quotes, in-typed, in-whole, out-part, part-kept, typed-more, typed-only, value-cases, value_has}
use Rattle.html_step.proofs.FromTexts.{own-has}
use Rattle.html_step.proofs.ScanOrder.{block-below, plain-same, style-below-place}
use Rattle.html_step.proofs.HoleOrder.{css-of-below, grows-hole, js-of-below, one-hole}
use Rattle.html_step.proofs.HoleMembers.{part-behind}
use Rattle.html_step.proofs.HolesShown.{HoleShown, ShownWhere, hole-where, on_bad, on_two}
use Rattle.html_step.proofs.JsPlaces.{under-script}
use Rattle.html_step.proofs.ScriptFrom.{IsScriptMember, js-is, kept-member}
use Rattle.html_step.proofs.PlaceParts.{TagBelow, Under, ValueBelow, below-value}
use Rattle.html_step.proofs.ScanOrder.{parts-of-below}
use Rattle.html_step.proofs.UrlPlaces.{AtPart, body_url, css_url, element-url-part, place_url, url-part}
use Rattle.url_lexer.specs.Parts.{UrlPart}
use Rattle.url_lexer.specs.Refusals.{UrlRefusal, AmbigContext, BadHTML, PartialEscape}
use Rattle.css_lexer.specs.RefusalCodes.{RefusalCode}
use Rattle.css_lexer.specs.Urls.{url_code, url_refusal}
use Rattle.css_step.specs.StyleChains.{style_hole_with_chain}
use Rattle.css_step.specs.StyleScans.{style_at_hole, style_hole_error}
use Rattle.css_step.specs.StyleScanViews.{style_or_refusal}
use Rattle.css_step.specs.StyleSetLaws.{StyleBelow}
use Rattle.js_step.specs.ScriptScans.{script_at_hole}
use Rattle.js_step.specs.ScriptSetLaws.{ScriptBelow}
use Rattle.place_core.specs.declared.css.Css.{Css}
use Rattle.place_core.specs.declared.css.Css.TheVariants as css
use Rattle.place_core.specs.declared.css_tails.CssTails.{CssTails}
use Rattle.place_core.specs.declared.js.Js.{Js}
use Rattle.place_core.specs.declared.js.Js.TheVariants as js
use Rattle.place_core.specs.declared.js_tails.JsTails.{JsTails}
use Rattle.place_core.specs.declared.senses.Senses.{Senses}
use Rattle.url_lexer.specs.TwoPaths.{refuses_hole_on_two}
use Rattle.url_step.specs.PartOrigins.{PartBears}
use Rattle.url_step.specs.PartSets.{parts_at_hole, parts_hole_error, parts_or_refusal}

-- Members.
abbrev HasAfter : Holed → Member → Type 0
HasAfter (Ok h) y = Has h.0 y
HasAfter (Err e) y = Unit {0}

record FromPlace (p : Place) (y x : Member) : Type 0 where
  there : Has p x
  leads : (a : Place) → Below a p → Has a x → HasAfter (after_hole a) y

abbrev FromTo : Holed → Place → Member → Member → Type 0
FromTo (Ok h) p y x = Has h.0 y → FromPlace p y x
FromTo (Err e) p y x = Unit {0}

text-stays : (a : Place) (y : Member) → Below a place.Text → Has a y → HasAfter (after_hole a) y
text-stays place.Text y l h = h
text-stays a y l h = absurd (none_some place.Text l)

comment-stays : (d : Bool) (a : Place) (y : Member) → Below a (place.Comment d) → Has a y → HasAfter (after_hole a) y
comment-stays d (place.Comment x) y l h = h
comment-stays d a y l h = absurd (none_some (place.Comment d) l)

rcdata-stays : (e : _) (a : Place) (y : Member) → Below a (place.Rcdata e) → Has a y → HasAfter (after_hole a) y
rcdata-stays e (place.Rcdata x) y l h = h
rcdata-stays e a y l h = absurd (none_some (place.Rcdata e) l)

block-has : (x : Bool) (y : Member) → Under x false → Has (place.Block x) y → HasAfter (block_hole x) y
block-has true y u h = tt
block-has false y u h = h

block-stays : (a : Place) (y : Member) → Below a (place.Block false) → Has a y → HasAfter (after_hole a) y
block-stays (place.Block x) y l h = block-has x y (block-below x false l) h
block-stays a y l h = absurd (none_some (place.Block false) l)

named-has : (u : TagPlace) (n : Bool) (y : Member) → Has (place.Tag (record { tag = u.tag; typed = u.typed; spots = only_inside; kind = Some kind.Plain })) y → HasAfter (named_by_data n u) y
named-has u true y h = tt
named-has u false y h = h

from-tag : (t : TagPlace) (y x : Member) → Has (place.Tag t) x → ((u : TagPlace) → TagBelow u t → Has (place.Tag u) x → Has (place.Tag (record { tag = u.tag; typed = u.typed; spots = only_inside; kind = Some kind.Plain })) y) → FromPlace (place.Tag t) y x
from-tag t y x h f = record {
  there = h;
  leads = λ a l o. tag-place (λ (g : Scan). Has (scan_place g) x → HasAfter (after_hole (scan_place g)) y) t (λ u b o. named-has u (u.spots.name || u.spots.inside) y (f u b o)) a l o;
}

tag-from : (t : TagPlace) (n : Bool) (y : Member) → FromTo (named_by_data n t) (place.Tag t) y (typed_origin y)
tag-from t true y = tt
tag-from t false member.Whole = λ h. from-tag t member.Whole member.Whole refl (λ u b o. refl)
tag-from t false member.Typed = λ h. from-tag t member.Typed member.Typed h (λ u b o. o)
tag-from t false member.InsideSpot = λ h. from-tag t member.InsideSpot member.Whole refl (λ u b o. refl)
tag-from t false _ = λ h. absurd (no h)

-- in a value
from-value : (t : ValuePlace) (y x : Member) → Has (place.Value t) x → ((u : ValuePlace) → ValueBelow u t → Has (place.Value u) x → HasAfter (value_hole u.body u) y) → FromPlace (place.Value t) y x
from-value t y x h f = record {
  there = h;
  leads = λ a l o. value-place (λ (g : Scan). Has (scan_place g) x → HasAfter (after_hole (scan_place g)) y) t (λ u b o. f u b o) a l o;
}

plain-of : (u t : ValuePlace) → ValueBelow u t → t.body ≡ body.Plain → u.body ≡ body.Plain
plain-of u t l e = plain-same u.body (subst (λ (z : Body). joined_bodies u.body z ≡ Some z) e l.body)

-- what has quotes stays as it is
quoted-after : (u : ValuePlace) (q r : Quotes) (y : Member) → u.quotes ≡ q → joined_quotes q r ≡ Some r → (r ≡ quotes.Dq) ⊎ (r ≡ quotes.Sq) → Has (place.Value u) y → HasAfter (plain_hole q u) y
quoted-after u quotes.Dq r y e j d h = h
quoted-after u quotes.Sq r y e j d h = h
quoted-after u (quotes.Bare s) quotes.Dq y e j d h = absurd (none_some quotes.Dq j)
quoted-after u (quotes.Bare s) quotes.Sq y e j d h = absurd (none_some quotes.Sq j)
quoted-after u (quotes.Bare s) (quotes.Bare r) y e j (inl d) h = cc
quoted-after u (quotes.Bare s) (quotes.Bare r) y e j (inr d) h = cc

quoted-from : (t : ValuePlace) (r : Quotes) (y : Member) → t.quotes ≡ r → (r ≡ quotes.Dq) ⊎ (r ≡ quotes.Sq) → t.body ≡ body.Plain → Has (place.Value t) y → FromPlace (place.Value t) y y
quoted-from t r y e d b h =
    from-value t y y h
    (λ u l o. subst (λ (z : Body). HasAfter (value_hole z u) y) (sym (plain-of u t l b)) (quoted-after u u.quotes r y refl (subst (λ (z : Quotes). joined_quotes u.quotes z ≡ Some z) e l.quotes) d o))

-- a value without quotes has begun
abbrev Begun : ValuePlace → Member → Type 0
Begun u y = (is_whole y || (typed_has u.typed y || (quotes_have bare_begun y || body_has body.Plain y))) ≡ true

bare-after : (u : ValuePlace) (q : Quotes) (s : _) (y : Member) → joined_quotes q (quotes.Bare s) ≡ Some (quotes.Bare s) → u.body ≡ body.Plain → Begun u y → HasAfter (plain_hole q u) y
bare-after u (quotes.Bare r) s y j b h = subst (λ (z : Body). (is_whole y || (typed_has u.typed y || (quotes_have bare_begun y || body_has z y))) ≡ true) (sym b) h
bare-after u quotes.Dq s y j b h = absurd (none_some (quotes.Bare s) j)
bare-after u quotes.Sq s y j b h = absurd (none_some (quotes.Bare s) j)

bare-from-by : (t : ValuePlace) (s : _) (y x : Member) → t.quotes ≡ quotes.Bare s → t.body ≡ body.Plain → Has (place.Value t) x → ((u : ValuePlace) → u.body ≡ body.Plain → Has (place.Value u) x → Begun u y) → FromPlace (place.Value t) y x
bare-from-by t s y x e b h f =
    from-value t y x h
    (λ u l o. let c = plain-of u t l b in subst (λ (z : Body). HasAfter (value_hole z u) y) (sym c) (bare-after u u.quotes s y (subst (λ (z : Quotes). joined_quotes u.quotes z ≡ Some z) e l.quotes) c (f u c o)))

typed-of-value : (x : Bool) (q : Quotes) (b : Body) → b ≡ body.Plain → (x || (quotes_have q member.Typed || body_has b member.Typed)) ≡ true → x ≡ true
typed-of-value x q b e h = typed-only x q b (ap body_error e) h

bare-from : (t : ValuePlace) (s : _) (y : Member) → t.quotes ≡ quotes.Bare s → t.body ≡ body.Plain → Begun t y → FromPlace (place.Value t) y (in_value_origin y)
bare-from t s member.Whole e b h = bare-from-by t s member.Whole member.Whole e b refl (λ u c o. refl)
bare-from t s member.Typed e b h = bare-from-by t s member.Typed member.Typed e b (rw (or-false t.typed h) refl) (λ u c o. false-or u.typed (typed-of-value u.typed u.quotes u.body c o))
bare-from t s member.UnquotedValue e b h = bare-from-by t s member.UnquotedValue member.Whole e b refl (λ u c o. refl)
bare-from t s _ e b h = absurd (no h)

plain-from : (t : ValuePlace) (q : Quotes) (y : Member) → t.quotes ≡ q → t.body ≡ body.Plain → FromTo (plain_hole q t) (place.Value t) y (quotes_origin q y)
plain-from t quotes.Dq y e b = λ h. quoted-from t quotes.Dq y e (inl refl) b h
plain-from t quotes.Sq y e b = λ h. quoted-from t quotes.Sq y e (inr refl) b h
plain-from t (quotes.Bare s) y e b = λ h. bare-from t s y e b (subst (λ (z : Body). (is_whole y || (typed_has t.typed y || (quotes_have bare_begun y || body_has z y))) ≡ true) b h)

-- in a URL
after-url : (u : ValuePlace) (s : Parts) (y : Member) (o : Option UrlRefusal)
    → value_has u.typed (holed_quotes u.quotes) (body.Url (parts_at_hole s)) y ≡ true
    → HasAfter (url_holed u s (parts_or_refusal o (parts_at_hole s))) y
after-url u s y None h = h
after-url u s y (Some e) h = tt

from-url-by : (t : ValuePlace) (p : Parts) (y x : Member) → t.body ≡ body.Url p → Has (place.Value t) x
    → ((u : ValuePlace) (s : Parts) → ValueBelow u t → value_has u.typed u.quotes (body.Url s) x ≡ true
    → value_has u.typed (holed_quotes u.quotes) (body.Url (parts_at_hole s)) y ≡ true)
    → FromPlace (place.Value t) y x
from-url-by t p y x b h f =
    from-value t y x h
    (λ u l o. let w = parts-of-below u.body p (subst (λ (z : Body). joined_bodies u.body z ≡ Some z) b l.body) in
    subst (λ (z : Body). HasAfter (value_hole z u) y) (sym w.1)
    (after-url u w.0 y (parts_hole_error w.0) (f u w.0 l (subst (λ (z : Body). value_has u.typed u.quotes z x ≡ true) w.1 o))))

whole-origin : (p : Parts) (q : Quotes) (y : Member) → is_whole y ≡ true → part_hole_origin p (quotes_origin q y) ≡ member.Whole
whole-origin p quotes.Dq member.Whole h = refl
whole-origin p quotes.Sq member.Whole h = refl
whole-origin p (quotes.Bare b) member.Whole h = refl
whole-origin p q _ h = absurd (no h)

typed-from : (p : Parts) (q : Quotes) (x : Bool) (y : Member) → typed_has x y ≡ true
    → (part_hole_origin p (quotes_origin q y) ≡ member.Typed) × (x ≡ true)
typed-from p quotes.Dq x member.Typed h = (refl, h)
typed-from p quotes.Sq x member.Typed h = (refl, h)
typed-from p (quotes.Bare b) x member.Typed h = (refl, h)
typed-from p q x _ h = absurd (no h)

quoted-origin : (p : Parts) (q : Quotes) (y : Member) → quotes_have (holed_quotes q) y ≡ true → part_hole_origin p (quotes_origin q y) ≡ member.Whole
quoted-origin p (quotes.Bare b) member.UnquotedValue h = refl
quoted-origin p (quotes.Bare b) _ h = absurd (no h)
quoted-origin p quotes.Dq y h = absurd (no h)
quoted-origin p quotes.Sq y h = absurd (no h)

holed-has : (r q : Quotes) (y : Member) → joined_quotes r q ≡ Some q → quotes_have (holed_quotes q) y ≡ true → quotes_have (holed_quotes r) y ≡ true
holed-has (quotes.Bare s) (quotes.Bare b) y j h = h
holed-has quotes.Dq (quotes.Bare b) y j h = absurd (none_some (quotes.Bare b) j)
holed-has quotes.Sq (quotes.Bare b) y j h = absurd (none_some (quotes.Bare b) j)
holed-has r quotes.Dq y j h = absurd (no h)
holed-has r quotes.Sq y j h = absurd (no h)

kept-part : (s : Parts) (q : Quotes) (y : Member) → parts_have s y ≡ true → quotes_origin q y ≡ y
kept-part s quotes.Dq y h = refl
kept-part s quotes.Sq y h = refl
kept-part s (quotes.Bare b) y h = part-kept s y h

url-from : (t : ValuePlace) (p : Parts) (o : Option UrlRefusal) (y : Member) → t.body ≡ body.Url p
    → FromTo (url_holed t p (parts_or_refusal o (parts_at_hole p))) (place.Value t) y (part_hole_origin p (quotes_origin t.quotes y))
url-from t p (Some e) y b = tt
url-from t p None y b =
    let From : Member → Type 0 = FromPlace (place.Value t) y in
    λ h. value-cases (From (part_hole_origin p (quotes_origin t.quotes y))) t.typed (holed_quotes t.quotes) (body.Url (parts_at_hole p)) y h
    (λ k. subst From (sym (whole-origin p t.quotes y k))
    (from-url-by t p y member.Whole b refl (λ u s l o. in-whole u.typed (holed_quotes u.quotes) (body.Url (parts_at_hole s)) y k)))
    (λ k. let m = typed-from p t.quotes t.typed y k in
    subst From (sym m.0)
    (from-url-by t p y member.Typed b (in-typed t.typed t.quotes t.body member.Typed m.1)
    (λ u s l o. in-typed u.typed (holed_quotes u.quotes) (body.Url (parts_at_hole s)) y
    (typed-more t.typed u.typed y k (typed-only u.typed u.quotes (body.Url s) refl o)))))
    (λ k. subst From (sym (quoted-origin p t.quotes y k))
    (from-url-by t p y member.Whole b refl
    (λ u s l o. in-quotes u.typed (holed_quotes u.quotes) (body.Url (parts_at_hole s)) y (holed-has u.quotes t.quotes y l.quotes k))))
    (λ k. let m = part-behind p y k in
    let x = part_hole_origin p y in
    subst (λ (z : Member). From (part_hole_origin p z)) (sym (kept-part (parts_at_hole p) t.quotes y k))
    (from-url-by t p y x b (subst (λ (z : Body). value_has t.typed t.quotes z x ≡ true) (sym b) (in-body t.typed t.quotes (body.Url p) x m.there))
    (λ u s l o. in-body u.typed (holed_quotes u.quotes) (body.Url (parts_at_hole s)) y (m.leads s (out-part p s u.typed u.quotes x m.there o)))))

-- in a style
record CssBehind (p : Css) (y x : Member) : Type 0 where
  there : (x ≡ member.Whole) ⊎ (css_has p x ≡ true)
  leads : (c : Css) → StyleBelow c p → (css_has p x ≡ true → css_has c x ≡ true) → css_has (style_at_hole c) y ≡ true

whole-behind : (p : Css) (y : Member) → ((c : Css) → StyleBelow c p → css_has (style_at_hole c) y ≡ true) → CssBehind p y member.Whole
whole-behind p y f = record { there = inl refl; leads = λ c l k. f c l }

code-word : (s : CssTails) (c : Css) → StyleBelow c (css.Code s) → css_has (style_at_hole c) member.CssWord ≡ true
code-word s (css.Code r) l = refl
code-word s c l = absurd (none_some (css.Code s) l)

code-slash : (s : CssTails) (c : Css) → StyleBelow c (css.Code s) → css_has c member.CssSlash ≡ true → css_has (style_at_hole c) member.CssSlash ≡ true
code-slash s (css.Code r) l k = k
code-slash s c l k = absurd (none_some (css.Code s) l)

code-less : (s : CssTails) (c : Css) → StyleBelow c (css.Code s) → css_has c member.CssLt ≡ true → css_has (style_at_hole c) member.CssLt ≡ true
code-less s (css.Code r) l k = k
code-less s c l k = absurd (none_some (css.Code s) l)

code-behind : (s : CssTails) (y : Member) → css_has (style_at_hole (css.Code s)) y ≡ true → CssBehind (css.Code s) y (word_hole_origin y)
code-behind s member.CssWord h = whole-behind (css.Code s) member.CssWord (code-word s)
code-behind s member.CssSlash h = record { there = inr h; leads = λ c l k. code-slash s c l (k h) }
code-behind s member.CssLt h = record { there = inr h; leads = λ c l k. code-less s c l (k h) }
code-behind s _ h = absurd (no h)

fresh-open : (c : Css) → StyleBelow c css.UrlFresh → css_has (style_at_hole c) member.PartOpenhole ≡ true
fresh-open css.UrlFresh l = refl
fresh-open c l = absurd (none_some css.UrlFresh l)

fresh-behind : (y : Member) → css_has (style_at_hole css.UrlFresh) y ≡ true → CssBehind css.UrlFresh y (fresh_hole_origin y)
fresh-behind member.PartOpenhole h = whole-behind css.UrlFresh member.PartOpenhole fresh-open
fresh-behind _ h = absurd (no h)

star-stays : (x : Bool) (y : Member) (c : Css) → StyleBelow c (css.Comment x) → css_has c y ≡ true → css_has (style_at_hole c) y ≡ true
star-stays x y (css.Comment z) l k = k
star-stays x y c l k = absurd (none_some (css.Comment x) l)

bare-leads : (s : Parts) (y x : Member) → ((t : Parts) → parts_have t x ≡ true → parts_have (parts_at_hole t) y ≡ true) → (c : Css) → StyleBelow c (css.Url s)
    → css_has c x ≡ true → css_has (style_at_hole c) y ≡ true
bare-leads s y x f (css.Url t) l k = f t k
bare-leads s y x f c l k = absurd (none_some (css.Url s) l)

dq-leads : (s : Parts) (y x : Member) → ((t : Parts) → parts_have t x ≡ true → parts_have (parts_at_hole t) y ≡ true) → (c : Css) → StyleBelow c (css.UrlDq s)
    → css_has c x ≡ true → css_has (style_at_hole c) y ≡ true
dq-leads s y x f (css.UrlDq t) l k = f t k
dq-leads s y x f c l k = absurd (none_some (css.UrlDq s) l)

sq-leads : (s : Parts) (y x : Member) → ((t : Parts) → parts_have t x ≡ true → parts_have (parts_at_hole t) y ≡ true) → (c : Css) → StyleBelow c (css.UrlSq s)
    → css_has c x ≡ true → css_has (style_at_hole c) y ≡ true
sq-leads s y x f (css.UrlSq t) l k = f t k
sq-leads s y x f c l k = absurd (none_some (css.UrlSq s) l)

css-behind : (p : Css) (y : Member) → css_has (style_at_hole p) y ≡ true → CssBehind p y (css_hole_origin p y)
css-behind (css.Code s) y h = code-behind s y h
css-behind css.UrlFresh y h = fresh-behind y h
css-behind (css.Url s) y h =
    (let m = part-behind s y h in record { there = inr m.there; leads = λ c l k. bare-leads s y (part_hole_origin s y) m.leads c l (k m.there) })
css-behind (css.UrlDq s) y h =
    (let m = part-behind s y h in record { there = inr m.there; leads = λ c l k. dq-leads s y (part_hole_origin s y) m.leads c l (k m.there) })
css-behind (css.UrlSq s) y h =
    (let m = part-behind s y h in record { there = inr m.there; leads = λ c l k. sq-leads s y (part_hole_origin s y) m.leads c l (k m.there) })
css-behind (css.Comment x) y h = record { there = inr h; leads = λ c l k. star-stays x y c l (k h) }
css-behind css.Dq y h = absurd (no h)
css-behind css.Sq y h = absurd (no h)
css-behind css.UrlEnd y h = absurd (no h)

-- a member of a style is none of the others
css-lacks : (p : Css) → (css_has p member.Whole ≡ false) × (css_has p member.Typed ≡ false) × (css_has p member.UnquotedValue ≡ false) × (css_has p member.UnbegunValue ≡ false)
css-lacks (css.Code s) = (refl, refl, refl, refl)
css-lacks css.Dq = (refl, refl, refl, refl)
css-lacks css.Sq = (refl, refl, refl, refl)
css-lacks css.UrlFresh = (refl, refl, refl, refl)
css-lacks (css.Url s) = (refl, refl, refl, refl)
css-lacks (css.UrlDq s) = (refl, refl, refl, refl)
css-lacks (css.UrlSq s) = (refl, refl, refl, refl)
css-lacks css.UrlEnd = (refl, refl, refl, refl)
css-lacks (css.Comment x) = (refl, refl, refl, refl)

whole-no-css : (p : Css) (y : Member) → is_whole y ≡ true → css_has p y ≡ true → ⊥
whole-no-css p member.Whole h k = no (sym (css-lacks p).0 ∙ k)
whole-no-css p _ h k = no h

typed-no-css : (p : Css) (x : Bool) (y : Member) → typed_has x y ≡ true → css_has p y ≡ true → ⊥
typed-no-css p x member.Typed h k = no (sym (css-lacks p).1 ∙ k)
typed-no-css p x _ h k = no h

quotes-no-css : (p : Css) (q : Quotes) (y : Member) → quotes_have q y ≡ true → css_has p y ≡ true → ⊥
quotes-no-css p (quotes.Bare b) member.UnquotedValue h k = no (sym (css-lacks p).2 ∙ k)
quotes-no-css p (quotes.Bare b) member.UnbegunValue h k = no (sym (css-lacks p).3 ∙ k)
quotes-no-css p (quotes.Bare b) _ h k = no h
quotes-no-css p quotes.Dq y h k = no h
quotes-no-css p quotes.Sq y h k = no h

css-out : (p c : Css) (z : Bool) (w : Quotes) (y : Member) → css_has p y ≡ true → value_has z w (body.Css c) y ≡ true → css_has c y ≡ true
css-out p c z w y h k =
    value-cases (css_has c y ≡ true) z w (body.Css c) y k (λ e. absurd (whole-no-css p y e h)) (λ e. absurd (typed-no-css p z y e h))
    (λ e. absurd (quotes-no-css p w y e h)) (λ e. e)

quotes-typed : (q : Quotes) → quotes_have q member.Typed ≡ true → ⊥
quotes-typed (quotes.Bare b) h = no h
quotes-typed quotes.Dq h = no h
quotes-typed quotes.Sq h = no h

css-typed : (x : Bool) (q : Quotes) (c : Css) → value_has x q (body.Css c) member.Typed ≡ true → x ≡ true
css-typed x q c h =
    value-cases (x ≡ true) x q (body.Css c) member.Typed h (λ e. absurd (no e)) (λ e. e) (λ e. absurd (quotes-typed q e))
    (λ e. absurd (no (sym (css-lacks c).1 ∙ e)))

-- where the others come from
css-whole-origin : (p : Css) → css_hole_origin p member.Whole ≡ member.Whole
css-whole-origin (css.Code s) = refl
css-whole-origin css.UrlFresh = refl
css-whole-origin (css.Url s) = refl
css-whole-origin (css.UrlDq s) = refl
css-whole-origin (css.UrlSq s) = refl
css-whole-origin _ = refl

css-typed-origin : (p : Css) → css_hole_origin p member.Typed ≡ member.Typed
css-typed-origin (css.Code s) = refl
css-typed-origin css.UrlFresh = refl
css-typed-origin (css.Url s) = refl
css-typed-origin (css.UrlDq s) = refl
css-typed-origin (css.UrlSq s) = refl
css-typed-origin _ = refl

whole-by-quotes : (q : Quotes) (y : Member) → is_whole y ≡ true → quotes_origin q y ≡ member.Whole
whole-by-quotes quotes.Dq member.Whole h = refl
whole-by-quotes quotes.Sq member.Whole h = refl
whole-by-quotes (quotes.Bare b) member.Whole h = refl
whole-by-quotes q _ h = absurd (no h)

typed-by-quotes : (q : Quotes) (x : Bool) (y : Member) → typed_has x y ≡ true → (quotes_origin q y ≡ member.Typed) × (x ≡ true)
typed-by-quotes quotes.Dq x member.Typed h = (refl, h)
typed-by-quotes quotes.Sq x member.Typed h = (refl, h)
typed-by-quotes (quotes.Bare b) x member.Typed h = (refl, h)
typed-by-quotes q x _ h = absurd (no h)

begun-by-quotes : (q : Quotes) (y : Member) → quotes_have (holed_quotes q) y ≡ true → quotes_origin q y ≡ member.Whole
begun-by-quotes (quotes.Bare b) member.UnquotedValue h = refl
begun-by-quotes (quotes.Bare b) _ h = absurd (no h)
begun-by-quotes quotes.Dq y h = absurd (no h)
begun-by-quotes quotes.Sq y h = absurd (no h)

tails-kept : (s : CssTails) (y : Member) → css_tails_have s y ≡ true → in_value_origin y ≡ y
tails-kept s member.CssWord h = refl
tails-kept s member.CssSlash h = refl
tails-kept s member.CssLt h = refl
tails-kept s _ h = absurd (no h)

star-kept : (x : Bool) (y : Member) → css_star_has x y ≡ true → in_value_origin y ≡ y
star-kept x member.CssStar h = refl
star-kept x _ h = absurd (no h)

css-kept : (c : Css) (y : Member) → css_has c y ≡ true → in_value_origin y ≡ y
css-kept (css.Code s) y h = tails-kept s y h
css-kept (css.Url s) y h = part-kept s y h
css-kept (css.UrlDq s) y h = part-kept s y h
css-kept (css.UrlSq s) y h = part-kept s y h
css-kept (css.Comment x) y h = star-kept x y h
css-kept css.Dq y h = absurd (no h)
css-kept css.Sq y h = absurd (no h)
css-kept css.UrlFresh y h = absurd (no h)
css-kept css.UrlEnd y h = absurd (no h)

kept-by-quotes : (c : Css) (q : Quotes) (y : Member) → css_has c y ≡ true → quotes_origin q y ≡ y
kept-by-quotes c quotes.Dq y h = refl
kept-by-quotes c quotes.Sq y h = refl
kept-by-quotes c (quotes.Bare b) y h = css-kept c y h

after-css : (u : ValuePlace) (c : Css) (y : Member) (o : Option RefusalCode) → value_has u.typed (holed_quotes u.quotes) (body.Css (style_at_hole c)) y ≡ true
    → HasAfter (css_holed u c (style_or_refusal o (style_at_hole c))) y
after-css u c y None h = h
after-css u c y (Some e) h = tt

from-css-by : (t : ValuePlace) (p : Css) (y x : Member) → t.body ≡ body.Css p → Has (place.Value t) x
    → ((u : ValuePlace) (c : Css) → ValueBelow u t → StyleBelow c p → value_has u.typed u.quotes (body.Css c) x ≡ true
    → value_has u.typed (holed_quotes u.quotes) (body.Css (style_at_hole c)) y ≡ true)
    → FromPlace (place.Value t) y x
from-css-by t p y x b h f =
    from-value t y x h
    (λ u l o. let w = css-of-below u.body p (subst (λ (z : Body). joined_bodies u.body z ≡ Some z) b l.body) in
    subst (λ (z : Body). HasAfter (value_hole z u) y) (sym w.1)
    (after-css u w.0 y (style_hole_error w.0) (f u w.0 l w.2 (subst (λ (z : Body). value_has u.typed u.quotes z x ≡ true) w.1 o))))

css-there : (t : ValuePlace) (p : Css) (x : Member) → t.body ≡ body.Css p → (x ≡ member.Whole) ⊎ (css_has p x ≡ true) → Has (place.Value t) x
css-there t p x b (inl e) = subst (Has (place.Value t)) (sym e) refl
css-there t p x b (inr h) = subst (λ (z : Body). value_has t.typed t.quotes z x ≡ true) (sym b) (in-body t.typed t.quotes (body.Css p) x h)

css-from : (t : ValuePlace) (p : Css) (o : Option RefusalCode) (y : Member) → t.body ≡ body.Css p
    → FromTo (css_holed t p (style_or_refusal o (style_at_hole p))) (place.Value t) y (css_hole_origin p (quotes_origin t.quotes y))
css-from t p (Some e) y b = tt
css-from t p None y b =
    let From : Member → Type 0 = FromPlace (place.Value t) y in
    λ h. value-cases (From (css_hole_origin p (quotes_origin t.quotes y))) t.typed (holed_quotes t.quotes) (body.Css (style_at_hole p)) y h
    (λ k. subst From (sym (ap (css_hole_origin p) (whole-by-quotes t.quotes y k) ∙ css-whole-origin p))
    (from-css-by t p y member.Whole b refl (λ u c l m o. in-whole u.typed (holed_quotes u.quotes) (body.Css (style_at_hole c)) y k)))
    (λ k. let e = typed-by-quotes t.quotes t.typed y k in
    subst From (sym (ap (css_hole_origin p) e.0 ∙ css-typed-origin p))
    (from-css-by t p y member.Typed b (in-typed t.typed t.quotes t.body member.Typed e.1)
    (λ u c l m o. in-typed u.typed (holed_quotes u.quotes) (body.Css (style_at_hole c)) y (typed-more t.typed u.typed y k (css-typed u.typed u.quotes c o)))))
    (λ k. subst From (sym (ap (css_hole_origin p) (begun-by-quotes t.quotes y k) ∙ css-whole-origin p))
    (from-css-by t p y member.Whole b refl
    (λ u c l m o. in-quotes u.typed (holed_quotes u.quotes) (body.Css (style_at_hole c)) y (holed-has u.quotes t.quotes y l.quotes k))))
    (λ k. let n = css-behind p y k in
    let x = css_hole_origin p y in
    subst (λ (z : Member). From (css_hole_origin p z)) (sym (kept-by-quotes (style_at_hole p) t.quotes y k))
    (from-css-by t p y x b (css-there t p x b n.there)
    (λ u c l m o. in-body u.typed (holed_quotes u.quotes) (body.Css (style_at_hole c)) y (n.leads c m (λ i. css-out p c u.typed u.quotes x i o)))))

-- in a script
record JsBehind (p : Js) (y x : Member) : Type 0 where
  there : (x ≡ member.Whole) ⊎ (js_has p x ≡ true)
  leads : (c : Js) → ScriptBelow c p → (js_has p x ≡ true → js_has c x ≡ true) → js_has (script_at_hole c) y ≡ true

code-divides : (s : Senses) (x : JsTails) (c : Js) → ScriptBelow c (js.Code s x) → js_has (script_at_hole c) member.SenseDiv ≡ true
code-divides s x (js.Code t z) l = refl
code-divides s x c l = absurd (none_some (js.Code s x) l)

js-code-behind : (s : Senses) (x : JsTails) (y : Member) → js_has (script_at_hole (js.Code s x)) y ≡ true
    → JsBehind (js.Code s x) y (slash_hole_origin y)
js-code-behind s x member.SenseDiv h = record { there = inl refl; leads = λ c l k. code-divides s x c l }
js-code-behind s x _ h = absurd (no h)

line-stays : (s : Senses) (y : Member) (c : Js) → ScriptBelow c (js.Line s) → js_has c y ≡ true → js_has (script_at_hole c) y ≡ true
line-stays s y (js.Line t) l k = k
line-stays s y c l k = absurd (none_some (js.Line s) l)

block-comment-stays : (s : Senses) (x : Bool) (y : Member) (c : Js) → ScriptBelow c (js.Block s x) → js_has c y ≡ true
    → js_has (script_at_hole c) y ≡ true
block-comment-stays s x y (js.Block t z) l k = k
block-comment-stays s x y c l k = absurd (none_some (js.Block s x) l)

no-slash-behind : (x : Bool) (y : Member) → js_has (script_at_hole (js.Regexp x)) y ≡ true → ⊥
no-slash-behind x member.RegexpSlash h = no h
no-slash-behind x _ h = no h

js-behind : (p : Js) (y : Member) → js_has (script_at_hole p) y ≡ true → JsBehind p y (js_hole_origin p y)
js-behind (js.Code s x) y h = js-code-behind s x y h
js-behind (js.Line s) y h = record { there = inr h; leads = λ c l k. line-stays s y c l (k h) }
js-behind (js.Block s x) y h = record { there = inr h; leads = λ c l k. block-comment-stays s x y c l (k h) }
js-behind (js.Regexp x) y h = absurd (no-slash-behind x y h)
js-behind js.Dq y h = absurd (no h)
js-behind js.Sq y h = absurd (no h)

-- a member of a script is none of the others
whole-no-script : (y : Member) → is_whole y ≡ true → IsScriptMember y → ⊥
whole-no-script member.Whole h i = i
whole-no-script _ h i = no h

typed-no-script : (x : Bool) (y : Member) → typed_has x y ≡ true → IsScriptMember y → ⊥
typed-no-script x member.Typed h i = i
typed-no-script x _ h i = no h

quotes-no-script : (q : Quotes) (y : Member) → quotes_have q y ≡ true → IsScriptMember y → ⊥
quotes-no-script (quotes.Bare b) member.UnquotedValue h i = i
quotes-no-script (quotes.Bare b) member.UnbegunValue h i = i
quotes-no-script (quotes.Bare b) _ h i = no h
quotes-no-script quotes.Dq y h i = no h
quotes-no-script quotes.Sq y h i = no h

js-out : (p c : Js) (z : Bool) (w : Quotes) (y : Member) → js_has p y ≡ true → value_has z w (body.Js c) y ≡ true → js_has c y ≡ true
js-out p c z w y h k =
    value-cases (js_has c y ≡ true) z w (body.Js c) y k (λ e. absurd (whole-no-script y e (js-is p y h)))
    (λ e. absurd (typed-no-script z y e (js-is p y h))) (λ e. absurd (quotes-no-script w y e (js-is p y h))) (λ e. e)

js-whole-origin : (p : Js) → js_hole_origin p member.Whole ≡ member.Whole
js-whole-origin (js.Code s x) = refl
js-whole-origin _ = refl

js-typed-origin : (p : Js) → js_hole_origin p member.Typed ≡ member.Typed
js-typed-origin (js.Code s x) = refl
js-typed-origin _ = refl

script-by-quotes : (q : Quotes) (y : Member) → IsScriptMember y → quotes_origin q y ≡ y
script-by-quotes quotes.Dq y h = refl
script-by-quotes quotes.Sq y h = refl
script-by-quotes (quotes.Bare b) y h = kept-member y h

from-js-by : (t : ValuePlace) (p : Js) (y x : Member) → t.body ≡ body.Js p → Has (place.Value t) x
    → ((u : ValuePlace) (c : Js) → ValueBelow u t → ScriptBelow c p → value_has u.typed u.quotes (body.Js c) x ≡ true
    → value_has u.typed (holed_quotes u.quotes) (body.Js (script_at_hole c)) y ≡ true)
    → FromPlace (place.Value t) y x
from-js-by t p y x b h f =
    from-value t y x h
    (λ u l o. let w = js-of-below u.body p (subst (λ (z : Body). joined_bodies u.body z ≡ Some z) b l.body) in
    subst (λ (z : Body). HasAfter (value_hole z u) y) (sym w.1)
    (f u w.0 l w.2 (subst (λ (z : Body). value_has u.typed u.quotes z x ≡ true) w.1 o)))

js-there : (t : ValuePlace) (p : Js) (x : Member) → t.body ≡ body.Js p → (x ≡ member.Whole) ⊎ (js_has p x ≡ true) → Has (place.Value t) x
js-there t p x b (inl e) = subst (Has (place.Value t)) (sym e) refl
js-there t p x b (inr h) = subst (λ (z : Body). value_has t.typed t.quotes z x ≡ true) (sym b) (in-body t.typed t.quotes (body.Js p) x h)

js-from : (t : ValuePlace) (p : Js) (y : Member) → t.body ≡ body.Js p
    → FromTo (js_holed t p) (place.Value t) y (js_hole_origin p (quotes_origin t.quotes y))
js-from t p y b =
    let From : Member → Type 0 = FromPlace (place.Value t) y in
    λ h. value-cases (From (js_hole_origin p (quotes_origin t.quotes y))) t.typed (holed_quotes t.quotes) (body.Js (script_at_hole p)) y h
    (λ k. subst From (sym (ap (js_hole_origin p) (whole-by-quotes t.quotes y k) ∙ js-whole-origin p))
    (from-js-by t p y member.Whole b refl (λ u c l m o. in-whole u.typed (holed_quotes u.quotes) (body.Js (script_at_hole c)) y k)))
    (λ k. let e = typed-by-quotes t.quotes t.typed y k in
    subst From (sym (ap (js_hole_origin p) e.0 ∙ js-typed-origin p))
    (from-js-by t p y member.Typed b (in-typed t.typed t.quotes t.body member.Typed e.1)
    (λ u c l m o. in-typed u.typed (holed_quotes u.quotes) (body.Js (script_at_hole c)) y
    (typed-more t.typed u.typed y k (typed-only u.typed u.quotes (body.Js c) refl o)))))
    (λ k. subst From (sym (ap (js_hole_origin p) (begun-by-quotes t.quotes y k) ∙ js-whole-origin p))
    (from-js-by t p y member.Whole b refl
    (λ u c l m o. in-quotes u.typed (holed_quotes u.quotes) (body.Js (script_at_hole c)) y (holed-has u.quotes t.quotes y l.quotes k))))
    (λ k. let n = js-behind p y k in
    let x = js_hole_origin p y in
    subst (λ (z : Member). From (js_hole_origin p z)) (sym (script-by-quotes t.quotes y (js-is (script_at_hole p) y k)))
    (from-js-by t p y x b (js-there t p x b n.there)
    (λ u c l m o. in-body u.typed (holed_quotes u.quotes) (body.Js (script_at_hole c)) y (n.leads c m (λ i. js-out p c u.typed u.quotes x i o)))))

value-from-to : (t : ValuePlace) (b : Body) (y : Member) → t.body ≡ b → FromTo (value_hole b t) (place.Value t) y (body_hole_origin b (quotes_origin t.quotes y))
value-from-to t body.Plain y e = plain-from t t.quotes y refl e
value-from-to t body.NoHole y e = tt
value-from-to t (body.Url p) y e = url-from t p (parts_hole_error p) y e
value-from-to t (body.Js p) y e = js-from t p y e
value-from-to t (body.Css p) y e = css-from t p (style_hole_error p) y e

-- in the element `style`
after-element : (c : Css) (y : Member) (o : Option RefusalCode) → Has (place.Style (style_at_hole c)) y
    → HasAfter (element_holed (style_hole_with_chain c (style_or_refusal o (style_at_hole c)))) y
after-element c y None h = h
after-element c y (Some e) h = tt

from-element-by : (p : Css) (y x : Member) → Has (place.Style p) x
    → ((c : Css) → StyleBelow c p → Has (place.Style c) x → Has (place.Style (style_at_hole c)) y) → FromPlace (place.Style p) y x
from-element-by p y x h f = record {
  there = h;
  leads = λ a l o. element-place (λ (g : Scan). Has (scan_place g) x → HasAfter (after_hole (scan_place g)) y) p
      (λ c m o. after-element c y (style_hole_error c) (f c m o)) a l o;
}

element-there : (p : Css) (x : Member) → (x ≡ member.Whole) ⊎ (css_has p x ≡ true) → Has (place.Style p) x
element-there p x (inl e) = subst (Has (place.Style p)) (sym e) refl
element-there p x (inr h) = or-last (is_whole x) (css_has p x) h

-- what has it, has it in its set
element-out : (p c : Css) (y : Member) → css_has p y ≡ true → Has (place.Style c) y → css_has c y ≡ true
element-out p c y h k = or-either (css_has c y ≡ true) (is_whole y) (css_has c y) k (λ e. absurd (whole-no-css p y e h)) (λ e. e)

whole-is : (y : Member) → is_whole y ≡ true → y ≡ member.Whole
whole-is member.Whole h = refl
whole-is _ h = absurd (no h)

element-from : (p : Css) (o : Option RefusalCode) (y : Member)
    → FromTo (element_holed (style_hole_with_chain p (style_or_refusal o (style_at_hole p)))) (place.Style p) y (css_hole_origin p y)
element-from p (Some e) y = tt
element-from p None y =
    let From : Member → Type 0 = FromPlace (place.Style p) y in
    λ h. or-either (From (css_hole_origin p y)) (is_whole y) (css_has (style_at_hole p) y) h
    (λ k. subst From (sym (ap (css_hole_origin p) (whole-is y k) ∙ css-whole-origin p))
    (from-element-by p y member.Whole refl (λ c m o. or-first (is_whole y) (css_has (style_at_hole c) y) k)))
    (λ k. let n = css-behind p y k in
    let x = css_hole_origin p y in
    from-element-by p y x (element-there p x n.there)
    (λ c m o. or-last (is_whole y) (css_has (style_at_hole c) y) (n.leads c m (λ i. element-out p c x i o))))

-- in the element `script`
from-script-by : (p : Js) (y x : Member) → Has (place.Script p) x
    → ((c : Js) → ScriptBelow c p → Has (place.Script c) x → Has (place.Script (script_at_hole c)) y) → FromPlace (place.Script p) y x
from-script-by p y x h f = record {
  there = h;
  leads = λ a l o. under-script (λ (d : Place). Has d x → HasAfter (after_hole d) y) p f a l o;
}

script-there : (p : Js) (x : Member) → (x ≡ member.Whole) ⊎ (js_has p x ≡ true) → Has (place.Script p) x
script-there p x (inl e) = subst (Has (place.Script p)) (sym e) refl
script-there p x (inr h) = or-last (is_whole x) (js_has p x) h

script-out : (p c : Js) (y : Member) → js_has p y ≡ true → Has (place.Script c) y → js_has c y ≡ true
script-out p c y h k = or-either (js_has c y ≡ true) (is_whole y) (js_has c y) k (λ e. absurd (whole-no-script y e (js-is p y h))) (λ e. e)

script-element-from : (p : Js) (y : Member) → FromTo (after_hole (place.Script p)) (place.Script p) y (js_hole_origin p y)
script-element-from p y =
    let From : Member → Type 0 = FromPlace (place.Script p) y in
    λ h. or-either (From (js_hole_origin p y)) (is_whole y) (js_has (script_at_hole p) y) h
    (λ k. subst From (sym (ap (js_hole_origin p) (whole-is y k) ∙ js-whole-origin p))
    (from-script-by p y member.Whole refl (λ c m o. or-first (is_whole y) (js_has (script_at_hole c) y) k)))
    (λ k. let n = js-behind p y k in
    let x = js_hole_origin p y in
    from-script-by p y x (script-there p x n.there)
    (λ c m o. or-last (is_whole y) (js_has (script_at_hole c) y) (n.leads c m (λ i. script-out p c x i o))))

from-to : (p : Place) (y : Member) → FromTo (after_hole p) p y (hole_origin p y)
from-to place.Text y = λ h. record { there = h; leads = λ a l o. text-stays a y l o }
from-to place.Doctype y = tt
from-to (place.Comment d) y = λ h. record { there = h; leads = λ a l o. comment-stays d a y l o }
from-to (place.Rcdata e) y = λ h. record { there = h; leads = λ a l o. rcdata-stays e a y l o }
from-to (place.Tag t) y = tag-from t (t.spots.name || t.spots.inside) y
from-to (place.Value t) y = value-from-to t t.body y refl
from-to (place.Script j) y = script-element-from j y
from-to (place.Style j) y = element-from j (style_hole_error j) y
from-to (place.Block true) y = tt
from-to (place.Block false) y = λ h. record { there = h; leads = λ a l o. block-stays a y l o }

pub from-hole-at : (p q : Place) (c : Chain) (y : Member) → IsValid p → after_hole p ≡ Ok (q, c) → Has q y → IsHoleOrigin p y (hole_origin p y)
from-hole-at p q c y v h k =
    let r = subst (λ (o : Holed). FromTo o p y (hole_origin p y)) h (from-to p y) k in (
      r.there,
      λ s i o.
          let g = grows-hole i.own p q c i.valid v i.below h in
          record {
            own = g.0;
            stands = ((one-hole i.own s i.stands).0 g.0 c g.1).1;
            has = subst (λ (o : Holed). HasAfter o y) g.1 (r.leads i.own i.below (own-has p s (hole_origin p y) i o));
          },
    )

pub from-hole : FromHole
from-hole p q c y v h k = (hole_origin p y, from-hole-at p q c y v h k)

-- What is refused.
record ShownPlace (p : Place) (e : Code) (x : Member) : Type 0 where
  there : Has p x
  refuses : (a : Place) → Below a p → Has a x → hole_error a ≡ Some e

abbrev ShownAt : Place → Code → EvidenceData → Type 0
ShownAt p e (one x) = ShownPlace p e x
ShownAt p e (two x y) = IsHoleEvidence p e (two x y)
ShownAt p e apart = ⊥

abbrev ShownTo : Holed → Place → EvidenceData → Type 0
ShownTo (Ok h) p z = Unit {0}
ShownTo (Err e) p z = ShownAt p e z

evidence-tag : (t : TagPlace) (x : Member) → Has (place.Tag t) x → ((u : TagPlace) → TagBelow u t → Has (place.Tag u) x → (u.spots.name || u.spots.inside) ≡ true) → ShownPlace (place.Tag t) code.SplitToken x
evidence-tag t x h f = record {
  there = h;
  refuses = λ a l o. tag-place (λ (g : Scan). Has (scan_place g) x → hole_error (scan_place g) ≡ Some code.SplitToken) t (λ u b o. ap (λ (z : Bool). if z then Some code.SplitToken else None) (f u b o)) a l o;
}

tag-evidence : (t : TagPlace) (n i : Bool) → t.spots.name ≡ n → t.spots.inside ≡ i → ShownTo (named_by_data (n || i) t) (place.Tag t) (one (if n then member.NameSpot else member.InsideSpot))
tag-evidence t true i n j = evidence-tag t member.NameSpot n (λ u b o. ap (λ (z : Bool). z || u.spots.inside) o)
tag-evidence t false true n j = evidence-tag t member.InsideSpot j (λ u b o. or-last u.spots.name u.spots.inside o)
tag-evidence t false false n j = tt

-- in a value that is no URL and no style
abbrev IsNoUrl : Body → Type 0
IsNoUrl (body.Url p) = ⊥
IsNoUrl (body.Css c) = ⊥
IsNoUrl b = Unit {0}

same-hole-error : (b c : Body) → IsNoUrl c → joined_bodies b c ≡ Some c → body_hole_error b ≡ body_hole_error c
same-hole-error body.Plain body.Plain n h = refl
same-hole-error body.NoHole body.NoHole n h = refl
same-hole-error (body.Url p) (body.Url q) n h = absurd n
same-hole-error (body.Js p) (body.Js q) n h = refl
same-hole-error (body.Css p) (body.Css q) n h = absurd n
same-hole-error body.Plain c n h = absurd (none_some c h)
same-hole-error body.NoHole c n h = absurd (none_some c h)
same-hole-error (body.Url p) c n h = absurd (none_some c h)
same-hole-error (body.Js p) c n h = absurd (none_some c h)
same-hole-error (body.Css p) c n h = absurd (none_some c h)

evidence-value : (t : ValuePlace) (e : Code) → IsNoUrl t.body → body_hole_error t.body ≡ Some e → ShownPlace (place.Value t) e member.Whole
evidence-value t e i n = record {
  there = refl;
  refuses = λ a l o. value-place (λ (g : Scan). hole_error (scan_place g) ≡ Some e) t (λ u b. same-hole-error u.body t.body i b.body ∙ n) a l;
}

evidence-body : (t : ValuePlace) (b : Body) (e : Code) → t.body ≡ b → IsNoUrl b → body_hole_error b ≡ Some e → ShownPlace (place.Value t) e member.Whole
evidence-body t b e d i n = evidence-value t e (subst IsNoUrl (sym d) i) (ap body_hole_error d ∙ n)

plain-evidence : (t : ValuePlace) (q : Quotes) (z : EvidenceData) → ShownTo (plain_hole q t) (place.Value t) z
plain-evidence t quotes.Dq z = tt
plain-evidence t quotes.Sq z = tt
plain-evidence t (quotes.Bare b) z = tt

-- in a URL: a path that bears a part is in it
record BearsPart (s : LexState ValueState) (x : Member) : Type 0 where
  part : UrlPart
  is : url_part_at s ≡ Some part
  bears : PartBears part x

bears-part : (t : ValuePlace) (p : Parts) (s : LexState ValueState) (x : Member) → t.body ≡ body.Url p → parts_have p x ≡ true → IsIn (place.Value t) s
    → Bears s x → BearsPart s x
bears-part t p s x d h i o =
    value-place (λ (g : Scan). placed s ≡ Some (scan_place g) → Has (scan_place g) x → BearsPart s x) t
    (λ u l e k. let w = parts-of-below u.body p (subst (λ (z : Body). joined_bodies u.body z ≡ Some z) d l.body) in
    let m = url-part s u w.0 e (ap body_url w.1) in
    record {
      part = m.part;
      is = m.is;
      bears = subst (λ (z : Parts). parts_have z x ≡ true) m.parts
          (out-part p w.0 u.typed u.quotes x h (subst (λ (z : Body). value_has u.typed u.quotes z x ≡ true) w.1 k));
    })
    i.own i.below i.stands (own-has (place.Value t) s x i o)

has-part : (t : ValuePlace) (p : Parts) (x : Member) → t.body ≡ body.Url p → parts_have p x ≡ true → Has (place.Value t) x
has-part t p x d h = subst (λ (z : Body). value_has t.typed t.quotes z x ≡ true) (sym d) (in-body t.typed t.quotes (body.Url p) x h)

bad-refuses : (t : ValuePlace) (p : Parts) → t.body ≡ body.Url p → p.bad ≡ true → ShownPlace (place.Value t) code.BadHTML member.PartBad
bad-refuses t p d h = record {
  there = has-part t p member.PartBad d h;
  refuses = λ a l o. value-place (λ (g : Scan). Has (scan_place g) member.PartBad → hole_error (scan_place g) ≡ Some code.BadHTML) t
      (λ u b k. let w = parts-of-below u.body p (subst (λ (z : Body). joined_bodies u.body z ≡ Some z) d b.body) in
      ap body_hole_error w.1
      ∙ ap url_hole_error (out-part p w.0 u.typed u.quotes member.PartBad h (subst (λ (z : Body). value_has u.typed u.quotes z member.PartBad ≡ true) w.1 k)))
      a l o;
}

two-clash : (s r : LexState ValueState) (e : Code) (x y : Member) → BearsPart s x → BearsPart r y
    → ((p q : UrlPart) → PartBears p x → PartBears q y → option_map refusal_code (refuses_hole_on_two p q) ≡ Some e) → ClashesHole s r e
two-clash s r e x y b d f =
    ap (λ (z : Option UrlPart). parts_clash z (url_part_at r)) b.is ∙ ap (parts_clash (Some b.part)) d.is ∙ f b.part d.part b.bears d.bears

url-shown : (t : ValuePlace) (p : Parts) (e : Code) (z : EvidenceData) → t.body ≡ body.Url p → HoleShown p e z → ShownAt (place.Value t) e z
url-shown t p e _ d (on_bad h i) = subst (λ (c : Code). ShownPlace (place.Value t) c member.PartBad) (sym i) (bad-refuses t p d h)
url-shown t p e _ d (on_two x y h k f) = (
  has-part t p x d h,
  has-part t p y d k,
  λ s r i b j o. two-clash s r e x y (bears-part t p s x d h i b) (bears-part t p r y d k j o) f,
)

url-evidence : (t : ValuePlace) (p : Parts) (o : Option UrlRefusal) → t.body ≡ body.Url p → ShownWhere p o
    → ShownTo (url_holed t p (parts_or_refusal o (parts_at_hole p))) (place.Value t) (url_hole_shows (parts_or_refusal o (parts_at_hole p)) p)
url-evidence t p None d h = tt
url-evidence t p (Some e) d h = url-shown t p (refusal_code e) (url_hole_shows (parts_or_refusal (Some e) (parts_at_hole p)) p) d h

-- in a style
end-hole-error : (c : Css) → StyleBelow c css.UrlEnd → css_hole_error c ≡ Some code.BadString
end-hole-error css.UrlEnd l = refl
end-hole-error c l = absurd (none_some css.UrlEnd l)

-- What a place in a value that is a style and a place in the element have: below it are such places alone, by the order of styles, each with its style's
-- members, URL and refusals.
record StyleAt (a : Place) (c : Css) : Type 0 where
  refuses : hole_error a ≡ css_hole_error c
  url : place_url a ≡ css_url c

record InStyleOf (p : Place) (d : Css) : Type 0 where
  has : (x : Member) → css_has d x ≡ true → Has p x
  below : (a : Place) → Below a p → (c : Css) × StyleBelow c d × StyleAt a c × ((x : Member) → css_has d x ≡ true → Has a x → css_has c x ≡ true)
  part : (s : LexState ValueState) (a : Place) (r : Parts) → Below a p → placed s ≡ Some a → place_url a ≡ Some r → AtPart s r

value-style-at : (u : ValuePlace) (c : Css) → u.body ≡ body.Css c → StyleAt (place.Value u) c
value-style-at u c e = record { refuses = ap body_hole_error e; url = ap body_url e }

value-part : (t : ValuePlace) (s : LexState ValueState) (a : Place) (r : Parts) → Below a (place.Value t) → placed s ≡ Some a → place_url a ≡ Some r → AtPart s r
value-part t s (place.Value v) r l h b = url-part s v r h b
value-part t s _ r l h b = absurd (none_some (place.Value t) l)

value-below-style : (t : ValuePlace) (p : Css) → t.body ≡ body.Css p → (a : Place) → Below a (place.Value t)
    → (c : Css) × StyleBelow c p × StyleAt a c × ((x : Member) → css_has p x ≡ true → Has a x → css_has c x ≡ true)
value-below-style t p b (place.Value u) l =
    let w = css-of-below u.body p (subst (λ (z : Body). joined_bodies u.body z ≡ Some z) b (below-value u t l).body) in (
      w.0,
      w.2,
      value-style-at u w.0 w.1,
      λ x h k. css-out p w.0 u.typed u.quotes x h (subst (λ (z : Body). value_has u.typed u.quotes z x ≡ true) w.1 k),
    )
value-below-style t p b _ l = absurd (none_some (place.Value t) l)

value-in-style : (t : ValuePlace) (p : Css) → t.body ≡ body.Css p → InStyleOf (place.Value t) p
value-in-style t p b = record {
  has = λ x h. css-there t p x b (inr h);
  below = value-below-style t p b;
  part = value-part t;
}

element-part : (d : Css) (s : LexState ValueState) (a : Place) (r : Parts) → Below a (place.Style d) → placed s ≡ Some a → place_url a ≡ Some r → AtPart s r
element-part d s (place.Style c) r l h b = element-url-part s c r h b
element-part d s _ r l h b = absurd (none_some (place.Style d) l)

element-below-style : (d : Css) (a : Place) → Below a (place.Style d)
    → (c : Css) × StyleBelow c d × StyleAt a c × ((x : Member) → css_has d x ≡ true → Has a x → css_has c x ≡ true)
element-below-style d (place.Style c) l = (c, style-below-place c d l, record { refuses = refl; url = refl }, λ x h k. element-out d c x h k)
element-below-style d _ l = absurd (none_some (place.Style d) l)

element-in-style : (d : Css) → InStyleOf (place.Style d) d
element-in-style d = record { has = λ x h. element-there d x (inr h); below = element-below-style d; part = element-part d }

end-refuses : (p : Place) → Has p member.Whole → InStyleOf p css.UrlEnd → ShownPlace p code.BadString member.Whole
end-refuses p w i = record { there = w; refuses = λ a l o. let b = i.below a l in b.2.refuses ∙ end-hole-error b.0 b.1 }

css-bears-part : (p : Place) (d : Css) (s : LexState ValueState) (x : Member) → InStyleOf p d → css_has d x ≡ true
    → ((c : Css) → StyleBelow c d → (r : Parts) × (css_url c ≡ Some r) × (css_has c x ≡ true → parts_have r x ≡ true)) → IsIn p s
    → Bears s x → BearsPart s x
css-bears-part p d s x w h f i o =
    let b = w.below i.own i.below in
    let r = f b.0 b.1 in
    let m = w.part s i.own r.0 i.below i.stands (b.2.url ∙ r.1) in
    record {
      part = m.part;
      is = m.is;
      bears = subst (λ (z : Parts). parts_have z x ≡ true) m.parts (r.2 (b.3 x h (own-has p s x i o)));
    }

abbrev PartsIn : Css → Css → Type 0
PartsIn p c = (r : Parts) × (css_url c ≡ Some r) × ((x : Member) → css_has c x ≡ true → parts_have r x ≡ true) × (css_hole_error c ≡ url_hole_error r.bad)

css-bad-refuses : (p : Place) (d : Css) → InStyleOf p d → ((c : Css) → StyleBelow c d → PartsIn d c) → css_has d member.PartBad ≡ true
    → ShownPlace p code.BadHTML member.PartBad
css-bad-refuses p d w f h = record {
  there = w.has member.PartBad h;
  refuses = λ a l o.
      let b = w.below a l in
      let r = f b.0 b.1 in
      b.2.refuses ∙ (r.3 ∙ ap url_hole_error (r.2 member.PartBad (b.3 member.PartBad h o)));
}

css-url-shown : (p : Place) (d : Css) (s : Parts) (e : Code) (z : EvidenceData) → InStyleOf p d → ((x : Member) → parts_have s x ≡ true → css_has d x ≡ true)
    → ((c : Css) → StyleBelow c d → PartsIn d c) → HoleShown s e z → ShownAt p e z
css-url-shown p d s e _ w g f (on_bad h i) =
    subst (λ (c : Code). ShownPlace p c member.PartBad) (sym i) (css-bad-refuses p d w f (g member.PartBad h))
css-url-shown p d s e _ w g f (on_two x y h k m) = (
  w.has x (g x h),
  w.has y (g y k),
  λ v r i b j o. two-clash v r e x y
      (css-bears-part p d v x w (g x h) (λ c l. let n = f c l in (n.0, n.1, n.2 x)) i b)
      (css-bears-part p d r y w (g y k) (λ c l. let n = f c l in (n.0, n.1, n.2 y)) j o)
      m,
)

same-code : (e : UrlRefusal) → style_code (url_code e) ≡ refusal_code e
same-code AmbigContext = refl
same-code BadHTML = refl
same-code PartialEscape = refl

-- what is answered of a hole, where it is refused in the style
abbrev ShownWhereRefused : Option RefusalCode → Place → EvidenceData → Type 0
ShownWhereRefused None p z = Unit {0}
ShownWhereRefused (Some e) p z = ShownAt p (style_code e) z

css-url-evidence : (p : Place) (d : Css) (s : Parts) (o : Option UrlRefusal) → InStyleOf p d
    → ((x : Member) → parts_have s x ≡ true → css_has d x ≡ true) → ((c : Css) → StyleBelow c d → PartsIn d c) → ShownWhere s o
    → ShownWhereRefused (url_refusal o) p (url_hole_shows (parts_or_refusal o (parts_at_hole s)) s)
css-url-evidence p d s None w g f h = tt
css-url-evidence p d s (Some e) w g f h =
    subst (λ (c : Code). ShownAt p c (url_hole_shows (parts_or_refusal (Some e) (parts_at_hole s)) s)) (sym (same-code e))
    (css-url-shown p d s (refusal_code e) (url_hole_shows (parts_or_refusal (Some e) (parts_at_hole s)) s) w g f h)

url-in : (s : Parts) (c : Css) → StyleBelow c (css.Url s) → PartsIn (css.Url s) c
url-in s (css.Url r) l = (r, refl, λ x h. h, refl)
url-in s c l = absurd (none_some (css.Url s) l)

dq-in : (s : Parts) (c : Css) → StyleBelow c (css.UrlDq s) → PartsIn (css.UrlDq s) c
dq-in s (css.UrlDq r) l = (r, refl, λ x h. h, refl)
dq-in s c l = absurd (none_some (css.UrlDq s) l)

sq-in : (s : Parts) (c : Css) → StyleBelow c (css.UrlSq s) → PartsIn (css.UrlSq s) c
sq-in s (css.UrlSq r) l = (r, refl, λ x h. h, refl)
sq-in s c l = absurd (none_some (css.UrlSq s) l)

css-evidence : (p : Place) (d : Css) → Has p member.Whole → InStyleOf p d → ShownWhereRefused (style_hole_error d) p (css_hole_shows d)
css-evidence p (css.Url s) k w = css-url-evidence p (css.Url s) s (parts_hole_error s) w (λ x h. h) (url-in s) (hole-where s)
css-evidence p (css.UrlDq s) k w = css-url-evidence p (css.UrlDq s) s (parts_hole_error s) w (λ x h. h) (dq-in s) (hole-where s)
css-evidence p (css.UrlSq s) k w = css-url-evidence p (css.UrlSq s) s (parts_hole_error s) w (λ x h. h) (sq-in s) (hole-where s)
css-evidence p css.UrlEnd k w = end-refuses p k w
css-evidence p (css.Code x) k w = tt
css-evidence p css.Dq k w = tt
css-evidence p css.Sq k w = tt
css-evidence p css.UrlFresh k w = tt
css-evidence p (css.Comment x) k w = tt

-- in a value, and in the element
value-answer : (t : ValuePlace) (p : Css) (o : Option RefusalCode) (z : EvidenceData) → ShownWhereRefused o (place.Value t) z
    → ShownTo (css_holed t p (style_or_refusal o (style_at_hole p))) (place.Value t) z
value-answer t p None z h = tt
value-answer t p (Some e) z h = h

element-answer : (p : Css) (o : Option RefusalCode) (z : EvidenceData) → ShownWhereRefused o (place.Style p) z
    → ShownTo (element_holed (style_hole_with_chain p (style_or_refusal o (style_at_hole p)))) (place.Style p) z
element-answer p None z h = tt
element-answer p (Some e) z h = h

value-evidence : (t : ValuePlace) (b : Body) → t.body ≡ b → ShownTo (value_hole b t) (place.Value t) (value_hole_shows b)
value-evidence t body.Plain e = plain-evidence t t.quotes (one member.Whole)
value-evidence t body.NoHole e = evidence-body t body.NoHole code.BadHTML e tt refl
value-evidence t (body.Url p) e = url-evidence t p (parts_hole_error p) e (hole-where p)
value-evidence t (body.Js p) e = tt
value-evidence t (body.Css p) e = value-answer t p (style_hole_error p) (css_hole_shows p) (css-evidence (place.Value t) p refl (value-in-style t p e))

doctype-refuses : (a : Place) → Below a place.Doctype → hole_error a ≡ Some code.BadHTML
doctype-refuses place.Doctype h = refl
doctype-refuses a h = absurd (none_some place.Doctype h)

block-evidence : (less : Bool) → ShownTo (block_hole less) (place.Block less) (one member.BlockLt)
block-evidence true = record { there = refl; refuses = λ a l o. below-at-block (λ (g : Scan). Has (scan_place g) member.BlockLt → hole_error (scan_place g) ≡ Some code.SplitToken) true (λ x u o. rw o refl) (At a) l o }
block-evidence false = tt

evidence-to : (p : Place) → ShownTo (after_hole p) p (hole_shows p)
evidence-to place.Text = tt
evidence-to place.Doctype = record { there = refl; refuses = λ a l o. doctype-refuses a l }
evidence-to (place.Comment d) = tt
evidence-to (place.Rcdata e) = tt
evidence-to (place.Tag t) = tag-evidence t t.spots.name t.spots.inside refl refl
evidence-to (place.Value t) = value-evidence t t.body refl
evidence-to (place.Script j) = tt
evidence-to (place.Style j) = element-answer j (style_hole_error j) (css_hole_shows j) (css-evidence (place.Style j) j refl (element-in-style j))
evidence-to (place.Block less) = block-evidence less

show : (p : Place) (e : Code) (z : EvidenceData) → ShownAt p e z → IsHoleEvidence p e z
show p e (one x) h = (h.there, λ s i o. record { own = i.own; stands = i.stands; refused = h.refuses i.own i.below (own-has p s x i o) })
show p e (two x y) h = h
show p e apart h = absurd h

pub evidence-hole-at : (p : Place) (e : Code) → IsValid p → after_hole p ≡ Err e → IsHoleEvidence p e (hole_shows p)
evidence-hole-at p e v h = show p e (hole_shows p) (subst (λ (o : Holed). ShownTo o p (hole_shows p)) h (evidence-to p))

pub evidence-hole : HoleEvidence
evidence-hole p e v h = (hole_shows p, evidence-hole-at p e v h)
