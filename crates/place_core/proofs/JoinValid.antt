-- The join of places that paths can come to is one too.
use Rattle.std.proofs.Common.{◌≡◌, Bool, true, false, ◌||◌, Option, Some, None, is_some, option_map, if◌then◌else◌, refl, ap, ap₂, ◌∙◌}
use Rattle.std.specs.Prelude.{IfSome}
use Rattle.place_core.specs.place.JoinLaws.{JoinKeepsValid}
use Rattle.place_core.specs.place.Places.{both_spots, both_bare, same_kind, same_element}
use Rattle.place_core.specs.place.LanguagePlaces.{both_senses, both_prefixes, both_parts, same_prefix}
use Rattle.place_core.specs.place.Places.{joined, joined_tags, joined_kinds, joined_quotes, joined_bodies, tag_place, value_place, joined_tag_places, joined_value_places}
use Rattle.place_core.specs.place.LanguagePlaces.{joined_js, joined_css}
use Rattle.place_core.specs.place.Places.{some_spot, some_bare, is_rcdata, IsValid, IsValidQuotes, IsValidBody, IsValidTag}
use Rattle.place_core.specs.place.LanguagePlaces.{some_sense, some_part, IsSpelled, IsValidParts, IsValidJs, IsValidCss}
use Rattle.place_core.specs.declared.bare.Bare.{Bare}
use Rattle.place_core.specs.declared.body.Body.{Body}
use Rattle.place_core.specs.declared.body.Body.TheVariants as body
use Rattle.place_core.specs.declared.css.Css.{Css}
use Rattle.place_core.specs.declared.css.Css.TheVariants as css
use Rattle.place_core.specs.declared.element.Element.{Element}
use Rattle.place_core.specs.declared.js.Js.{Js}
use Rattle.place_core.specs.declared.js.Js.TheVariants as js
use Rattle.place_core.specs.declared.kind.Kind.{Kind}
use Rattle.place_core.specs.declared.parts.Parts.{Parts}
use Rattle.place_core.specs.declared.place.Place.{Place}
use Rattle.place_core.specs.declared.place.Place.TheVariants as place
use Rattle.place_core.specs.declared.prefix.Prefix.{Prefix}
use Rattle.place_core.specs.declared.prefix.Prefix.TheVariants as prefix
use Rattle.place_core.specs.declared.quotes.Quotes.{Quotes}
use Rattle.place_core.specs.declared.quotes.Quotes.TheVariants as quotes
use Rattle.place_core.specs.declared.senses.Senses.{Senses}
use Rattle.place_core.specs.declared.spots.Spots.{Spots}
use Rattle.place_core.specs.declared.tag_of.TagOf.{TagOf}
use Rattle.place_core.specs.declared.tag_place.TagPlace.{TagPlace}
use Rattle.place_core.proofs.JoinMembers.{four, prefixes_or}
use Rattle.place_core.proofs.Semilattices.{for_map, of_some}

-- sets that have a member
spots_some : (s t : Spots) → some_spot (both_spots s t) ≡ (some_spot s || some_spot t)
spots_some s t = ap (λ z. (s.name || t.name) || ((s.before || t.before) || z)) (four s.inside t.inside s.after t.after)
    ∙ ap (λ z. (s.name || t.name) || z) (four s.before t.before (s.inside || s.after) (t.inside || t.after))
    ∙ four s.name t.name (s.before || (s.inside || s.after)) (t.before || (t.inside || t.after))

bare_some : (s t : Bare) → some_bare (both_bare s t) ≡ (some_bare s || some_bare t)
bare_some s t = four s.uq t.uq s.unbegun t.unbegun

senses_some : (s t : Senses) → some_sense (both_senses s t) ≡ (some_sense s || some_sense t)
senses_some s t = ap (λ z. (s.re || t.re) || z) (four s.div t.div s.brace t.brace) ∙ four s.re t.re (s.div || s.brace) (t.div || t.brace)

parts_some : (s t : Parts) → some_part (both_parts s t) ≡ (some_part s || some_part t)
parts_some s t = ap (λ z. (s.start || t.start) || (z || ((s.openhole || t.openhole) || ((s.prequery || t.prequery) || ((s.query || t.query) || (s.bad || t.bad)))))) (prefixes_or s.opened t.opened)
    ∙ ap (λ z. (s.start || t.start) || ((is_some s.opened || is_some t.opened) || ((s.openhole || t.openhole) || ((s.prequery || t.prequery) || z)))) (four s.query t.query s.bad t.bad)
    ∙ ap (λ z. (s.start || t.start) || ((is_some s.opened || is_some t.opened) || ((s.openhole || t.openhole) || z))) (four s.prequery t.prequery (s.query || s.bad) (t.query || t.bad))
    ∙ ap (λ z. (s.start || t.start) || ((is_some s.opened || is_some t.opened) || z)) (four s.openhole t.openhole (s.prequery || (s.query || s.bad)) (t.prequery || (t.query || t.bad)))
    ∙ ap (λ z. (s.start || t.start) || z) (four (is_some s.opened) (is_some t.opened) (s.openhole || (s.prequery || (s.query || s.bad))) (t.openhole || (t.prequery || (t.query || t.bad))))
    ∙ four s.start t.start (is_some s.opened || (s.openhole || (s.prequery || (s.query || s.bad)))) (is_some t.opened || (t.openhole || (t.prequery || (t.query || t.bad))))

of_first : (c a b : Bool) → c ≡ (a || b) → a ≡ true → c ≡ true
of_first c a b e h = e ∙ ap (λ z. z || b) h

two_valid : (p q : Prefix) (x : Bool) → IsSpelled (Some p) → IsSpelled (Some (if x then p else prefix.Differs))
two_valid p q true h = h
two_valid p q false h = tt

pub prefixes_valid : (p q : Option Prefix) → IsSpelled p → IsSpelled q → IsSpelled (both_prefixes p q)
prefixes_valid None q h k = k
prefixes_valid (Some p) None h k = h
prefixes_valid (Some p) (Some q) h k = two_valid p q (same_prefix p q) h

parts_valid : (s t : Parts) → IsValidParts s → IsValidParts t → IsValidParts (both_parts s t)
parts_valid s t h k = (of_first (some_part (both_parts s t)) (some_part s) (some_part t) (parts_some s t) h.0, prefixes_valid s.opened t.opened h.1 k.1)

sense_valid : (s t : Senses) → some_sense s ≡ true → some_sense (both_senses s t) ≡ true
sense_valid s t h = of_first (some_sense (both_senses s t)) (some_sense s) (some_sense t) (senses_some s t) h

-- rows
js_valid : (i j : Js) → IsValidJs i → IsValidJs j → IfSome (joined_js i j) IsValidJs
js_valid (js.Code s x) (js.Code t y) h k = sense_valid s t h
js_valid js.Dq js.Dq h k = tt
js_valid js.Sq js.Sq h k = tt
js_valid (js.Regexp x) (js.Regexp y) h k = tt
js_valid (js.Line s) (js.Line t) h k = sense_valid s t h
js_valid (js.Block s x) (js.Block t y) h k = sense_valid s t h
js_valid _ _ h k = tt

css_valid : (i j : Css) → IsValidCss i → IsValidCss j → IfSome (joined_css i j) IsValidCss
css_valid (css.Url s) (css.Url t) h k = parts_valid s t h k
css_valid (css.UrlDq s) (css.UrlDq t) h k = parts_valid s t h k
css_valid (css.UrlSq s) (css.UrlSq t) h k = parts_valid s t h k
css_valid (css.Code x) (css.Code y) h k = tt
css_valid css.Dq css.Dq h k = tt
css_valid css.Sq css.Sq h k = tt
css_valid css.UrlFresh css.UrlFresh h k = tt
css_valid css.UrlEnd css.UrlEnd h k = tt
css_valid (css.Comment x) (css.Comment y) h k = tt
css_valid _ _ h k = tt

quotes_valid : (i j : Quotes) → IsValidQuotes i → IsValidQuotes j → IfSome (joined_quotes i j) IsValidQuotes
quotes_valid (quotes.Bare s) (quotes.Bare t) h k = of_first (some_bare (both_bare s t)) (some_bare s) (some_bare t) (bare_some s t) h
quotes_valid quotes.Dq quotes.Dq h k = tt
quotes_valid quotes.Sq quotes.Sq h k = tt
quotes_valid _ _ h k = tt

bodies_valid : (i j : Body) → IsValidBody i → IsValidBody j → IfSome (joined_bodies i j) IsValidBody
bodies_valid (body.Url s) (body.Url t) h k = parts_valid s t h k
bodies_valid (body.Js i) (body.Js j) h k = for_map body.Js IsValidBody (joined_js i j) (js_valid i j h k)
bodies_valid (body.Css i) (body.Css j) h k = for_map body.Css IsValidBody (joined_css i j) (css_valid i j h k)
bodies_valid body.Plain body.Plain h k = tt
bodies_valid body.NoHole body.NoHole h k = tt
bodies_valid _ _ h k = tt

kind_some : (k : Kind) (x : Bool) → IfSome (if x then Some (Some k) else None) (λ l. is_some l ≡ true)
kind_some k true = refl
kind_some k false = tt

kinds_some : (k l : Option Kind) → IfSome (joined_kinds k l) (λ z. is_some z ≡ (is_some k || is_some l))
kinds_some None l = refl
kinds_some (Some k) None = refl
kinds_some (Some k) (Some l) = kind_some k (same_kind k l)

tag_place_valid : (typed : Bool) (s : Spots) (t : Option TagOf) (k : Option (Option Kind)) (r : Bool) → some_spot s ≡ true → r ≡ (s.inside || s.after)
    → IfSome k (λ z. is_some z ≡ r) → IfSome (tag_place typed s t k) IsValidTag
tag_place_valid typed s (Some t) (Some k) r h e f = (h, f ∙ e)
tag_place_valid typed s (Some t) None r h e f = tt
tag_place_valid typed s None k r h e f = tt

tags_valid : (x y : TagPlace) → IsValidTag x → IsValidTag y → IfSome (joined_tag_places x y) IsValidTag
tags_valid x y h k = tag_place_valid (x.typed || y.typed) (both_spots x.spots y.spots) (joined_tags x.tag y.tag) (joined_kinds x.kind y.kind)
    (is_some x.kind || is_some y.kind)
    (of_first (some_spot (both_spots x.spots y.spots)) (some_spot x.spots) (some_spot y.spots) (spots_some x.spots y.spots) h.0)
    (ap₂ ◌||◌ h.1 k.1 ∙ four x.spots.inside x.spots.after y.spots.inside y.spots.after)
    (kinds_some x.kind y.kind)

value_place_valid : (typed : Bool) (t : Option TagOf) (q : Option Quotes) (b : Option Body) → IfSome q IsValidQuotes → IfSome b IsValidBody
    → IfSome (value_place typed t q b) (λ z. IsValidQuotes z.quotes × IsValidBody z.body)
value_place_valid typed (Some t) (Some q) (Some b) h k = (h, k)
value_place_valid typed (Some t) (Some q) None h k = tt
value_place_valid typed (Some t) None b h k = tt
value_place_valid typed None q b h k = tt

element_valid : (e : Element) (x : Bool) → is_rcdata e ≡ true → IfSome (option_map place.Rcdata (if x then Some e else None)) IsValid
element_valid e true h = h
element_valid e false h = tt

pub places_valid : (a b : Place) → IsValid a → IsValid b → IfSome (joined a b) IsValid
places_valid (place.Rcdata e) (place.Rcdata f) h k = element_valid e (same_element e f) h
places_valid (place.Tag x) (place.Tag y) h k = for_map place.Tag IsValid (joined_tag_places x y) (tags_valid x y h k)
places_valid (place.Value x) (place.Value y) h k = for_map place.Value IsValid (joined_value_places x y)
    (value_place_valid (x.typed || y.typed) (joined_tags x.tag y.tag) (joined_quotes x.quotes y.quotes) (joined_bodies x.body y.body)
    (quotes_valid x.quotes y.quotes h.0 k.0) (bodies_valid x.body y.body h.1 k.1))
places_valid (place.Script i) (place.Script j) h k = for_map place.Script IsValid (joined_js i j) (js_valid i j h k)
places_valid (place.Style i) (place.Style j) h k = for_map place.Style IsValid (joined_css i j) (css_valid i j h k)
places_valid place.Text place.Text h k = tt
places_valid place.Doctype place.Doctype h k = tt
places_valid (place.Comment x) (place.Comment y) h k = tt
places_valid (place.Block x) (place.Block y) h k = tt
places_valid _ _ h k = tt

pub the_join_valid : JoinKeepsValid
the_join_valid a b c h k e = of_some IsValid (joined a b) c (places_valid a b h k) e
