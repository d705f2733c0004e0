-- A join has the members of both places, and no others.
use Rattle.std.proofs.Common.{◌≡◌, Bool, true, false, ◌||◌, ◌⊎◌, inl, inr, Option, Some, None, is_some, option_map, refl, sym, ap, ap₂, ◌∙◌}
use Rattle.std.specs.Prelude.{IfSome}
use Rattle.place_core.specs.place.JoinLaws.{JoinHas, HasGrows}
use Rattle.place_core.specs.place.Places.{both_spots, both_bare}
use Rattle.place_core.specs.place.LanguagePlaces.{both_senses, both_js_tails, both_css_tails, both_prefixes, both_parts}
use Rattle.place_core.specs.place.Places.{joined, joined_elements, joined_tags, joined_kinds, joined_quotes, joined_bodies, tag_place, value_place, joined_tag_places, joined_value_places}
use Rattle.place_core.specs.place.LanguagePlaces.{joined_js, joined_css}
use Rattle.place_core.specs.place.Places.{spots_have, bare_has, dash_has, block_has, typed_has, quotes_have, body_has, part_has, is_whole}
use Rattle.place_core.specs.place.LanguagePlaces.{senses_have, js_tails_have, css_tails_have, parts_have, regexp_has, js_star_has, css_star_has, js_has, css_has}
use Rattle.place_core.specs.declared.bare.Bare.{Bare}
use Rattle.place_core.specs.declared.body.Body.{Body}
use Rattle.place_core.specs.declared.body.Body.TheVariants as body
use Rattle.place_core.specs.declared.css.Css.{Css}
use Rattle.place_core.specs.declared.css.Css.TheVariants as css
use Rattle.place_core.specs.declared.css_tails.CssTails.{CssTails}
use Rattle.place_core.specs.declared.element.Element.{Element}
use Rattle.place_core.specs.declared.js.Js.{Js}
use Rattle.place_core.specs.declared.js.Js.TheVariants as js
use Rattle.place_core.specs.declared.js_tails.JsTails.{JsTails}
use Rattle.place_core.specs.declared.kind.Kind.{Kind}
use Rattle.place_core.specs.declared.member.Member.{Member}
use Rattle.place_core.specs.declared.member.Member.TheVariants as member
use Rattle.place_core.specs.declared.parts.Parts.{Parts}
use Rattle.place_core.specs.declared.place.Place.{Place}
use Rattle.place_core.specs.declared.place.Place.TheVariants as place
use Rattle.place_core.specs.declared.prefix.Prefix.{Prefix}
use Rattle.place_core.specs.declared.quotes.Quotes.{Quotes}
use Rattle.place_core.specs.declared.quotes.Quotes.TheVariants as quotes
use Rattle.place_core.specs.declared.senses.Senses.{Senses}
use Rattle.place_core.specs.declared.spots.Spots.{Spots}
use Rattle.place_core.specs.declared.tag_of.TagOf.{TagOf}
use Rattle.place_core.specs.declared.tag_place.TagPlace.{TagPlace}
use Rattle.place_core.specs.declared.value_place.ValuePlace.{ValuePlace}
use Rattle.place_core.proofs.Semilattices.{for_map, of_some}

-- sets
spots_or : (s t : Spots) (m : Member) → spots_have (both_spots s t) m ≡ (spots_have s m || spots_have t m)
spots_or s t member.NameSpot = refl
spots_or s t member.BeforeSpot = refl
spots_or s t member.InsideSpot = refl
spots_or s t member.AfterSpot = refl
spots_or s t _ = refl

bare_or : (s t : Bare) (m : Member) → bare_has (both_bare s t) m ≡ (bare_has s m || bare_has t m)
bare_or s t member.UnquotedValue = refl
bare_or s t member.UnbegunValue = refl
bare_or s t _ = refl

senses_or : (s t : Senses) (m : Member) → senses_have (both_senses s t) m ≡ (senses_have s m || senses_have t m)
senses_or s t member.SenseRe = refl
senses_or s t member.SenseDiv = refl
senses_or s t member.SenseBrace = refl
senses_or s t _ = refl

js_tails_or : (s t : JsTails) (m : Member) → js_tails_have (both_js_tails s t) m ≡ (js_tails_have s m || js_tails_have t m)
js_tails_or s t member.JsWord = refl
js_tails_or s t member.JsNum = refl
js_tails_or s t member.JsLt = refl
js_tails_or s t member.JsSlash = refl
js_tails_or s t member.JsPlus = refl
js_tails_or s t member.JsMinus = refl
js_tails_or s t member.JsHash = refl
js_tails_or s t _ = refl

css_tails_or : (s t : CssTails) (m : Member) → css_tails_have (both_css_tails s t) m ≡ (css_tails_have s m || css_tails_have t m)
css_tails_or s t member.CssWord = refl
css_tails_or s t member.CssSlash = refl
css_tails_or s t member.CssLt = refl
css_tails_or s t _ = refl

pub prefixes_or : (p q : Option Prefix) → is_some (both_prefixes p q) ≡ (is_some p || is_some q)
prefixes_or None q = refl
prefixes_or (Some p) None = refl
prefixes_or (Some p) (Some q) = refl

parts_or : (s t : Parts) (m : Member) → parts_have (both_parts s t) m ≡ (parts_have s m || parts_have t m)
parts_or s t member.PartStart = refl
parts_or s t member.PartOpen = prefixes_or s.opened t.opened
parts_or s t member.PartOpenhole = refl
parts_or s t member.PartPrequery = refl
parts_or s t member.PartQuery = refl
parts_or s t member.PartBad = refl
parts_or s t _ = refl

-- truth values
regexp_or : (x y : Bool) (m : Member) → regexp_has (x || y) m ≡ (regexp_has x m || regexp_has y m)
regexp_or x y member.RegexpSlash = refl
regexp_or x y _ = refl

js_star_or : (x y : Bool) (m : Member) → js_star_has (x || y) m ≡ (js_star_has x m || js_star_has y m)
js_star_or x y member.JsStar = refl
js_star_or x y _ = refl

css_star_or : (x y : Bool) (m : Member) → css_star_has (x || y) m ≡ (css_star_has x m || css_star_has y m)
css_star_or x y member.CssStar = refl
css_star_or x y _ = refl

dash_or : (x y : Bool) (m : Member) → dash_has (x || y) m ≡ (dash_has x m || dash_has y m)
dash_or x y member.CommentDash = refl
dash_or x y _ = refl

block_or : (x y : Bool) (m : Member) → block_has (x || y) m ≡ (block_has x m || block_has y m)
block_or x y member.BlockLt = refl
block_or x y _ = refl

typed_or : (x y : Bool) (m : Member) → typed_has (x || y) m ≡ (typed_has x m || typed_has y m)
typed_or x y member.Typed = refl
typed_or x y _ = refl

-- two pairs, in two orders
pub four : (a b c d : Bool) → ((a || b) || (c || d)) ≡ ((a || c) || (b || d))
four true b c d = refl
four false true true d = refl
four false true false d = refl
four false false c d = refl

-- rows
js_or : (i j : Js) (m : Member) → IfSome (joined_js i j) (λ k. js_has k m ≡ (js_has i m || js_has j m))
js_or (js.Code s x) (js.Code t y) m = ap₂ ◌||◌ (senses_or s t m) (js_tails_or x y m) ∙ four (senses_have s m) (senses_have t m) (js_tails_have x m) (js_tails_have y m)
js_or js.Dq js.Dq m = refl
js_or js.Sq js.Sq m = refl
js_or (js.Regexp x) (js.Regexp y) m = regexp_or x y m
js_or (js.Line s) (js.Line t) m = senses_or s t m
js_or (js.Block s x) (js.Block t y) m = ap₂ ◌||◌ (senses_or s t m) (js_star_or x y m) ∙ four (senses_have s m) (senses_have t m) (js_star_has x m) (js_star_has y m)
js_or _ _ m = tt

css_or : (i j : Css) (m : Member) → IfSome (joined_css i j) (λ k. css_has k m ≡ (css_has i m || css_has j m))
css_or (css.Code x) (css.Code y) m = css_tails_or x y m
css_or css.Dq css.Dq m = refl
css_or css.Sq css.Sq m = refl
css_or css.UrlFresh css.UrlFresh m = refl
css_or (css.Url s) (css.Url t) m = parts_or s t m
css_or (css.UrlDq s) (css.UrlDq t) m = parts_or s t m
css_or (css.UrlSq s) (css.UrlSq t) m = parts_or s t m
css_or css.UrlEnd css.UrlEnd m = refl
css_or (css.Comment x) (css.Comment y) m = css_star_or x y m
css_or _ _ m = tt

quotes_or : (i j : Quotes) (m : Member) → IfSome (joined_quotes i j) (λ k. quotes_have k m ≡ (quotes_have i m || quotes_have j m))
quotes_or quotes.Dq quotes.Dq m = refl
quotes_or quotes.Sq quotes.Sq m = refl
quotes_or (quotes.Bare s) (quotes.Bare t) m = bare_or s t m
quotes_or _ _ m = tt

bodies_or : (i j : Body) (m : Member) → IfSome (joined_bodies i j) (λ k. body_has k m ≡ (body_has i m || body_has j m))
bodies_or body.Plain body.Plain m = refl
bodies_or body.NoHole body.NoHole m = refl
bodies_or (body.Url s) (body.Url t) m = parts_or s t m
bodies_or (body.Js i) (body.Js j) m = for_map body.Js (λ k. body_has k m ≡ (js_has i m || js_has j m)) (joined_js i j) (js_or i j m)
bodies_or (body.Css i) (body.Css j) m = for_map body.Css (λ k. body_has k m ≡ (css_has i m || css_has j m)) (joined_css i j) (css_or i j m)
bodies_or _ _ m = tt

tag_place_has : (typed : Bool) (s : Spots) (t : Option TagOf) (k : Option (Option Kind)) (m : Member) (r : Bool) → (typed_has typed m || spots_have s m) ≡ r
    → IfSome (tag_place typed s t k) (λ z. (typed_has z.typed m || spots_have z.spots m) ≡ r)
tag_place_has typed s (Some t) (Some k) m r h = h
tag_place_has typed s (Some t) None m r h = tt
tag_place_has typed s None k m r h = tt

tags_or : (x y : TagPlace) (m : Member) → IfSome (joined_tag_places x y) (λ z. (typed_has z.typed m || spots_have z.spots m)
    ≡ ((typed_has x.typed m || spots_have x.spots m) || (typed_has y.typed m || spots_have y.spots m)))
tags_or x y m = tag_place_has (x.typed || y.typed) (both_spots x.spots y.spots) (joined_tags x.tag y.tag) (joined_kinds x.kind y.kind) m
    ((typed_has x.typed m || spots_have x.spots m) || (typed_has y.typed m || spots_have y.spots m))
    (ap₂ ◌||◌ (typed_or x.typed y.typed m) (spots_or x.spots y.spots m) ∙ four (typed_has x.typed m) (typed_has y.typed m) (spots_have x.spots m) (spots_have y.spots m))

value_place_has : (typed : Bool) (t : Option TagOf) (q : Option Quotes) (b : Option Body) (m : Member) (r u : Bool)
    → IfSome q (λ k. quotes_have k m ≡ r) → IfSome b (λ k. body_has k m ≡ u)
    → IfSome (value_place typed t q b) (λ z. (typed_has z.typed m || (quotes_have z.quotes m || body_has z.body m)) ≡ (typed_has typed m || (r || u)))
value_place_has typed (Some t) (Some q) (Some b) m r u h k = ap₂ (λ x y. typed_has typed m || (x || y)) h k
value_place_has typed (Some t) (Some q) None m r u h k = tt
value_place_has typed (Some t) None b m r u h k = tt
value_place_has typed None q b m r u h k = tt

six : (a b c d e f : Bool) → ((a || b) || ((c || d) || (e || f))) ≡ ((a || (c || e)) || (b || (d || f)))
six a b c d e f = ap (λ z. (a || b) || z) (four c d e f) ∙ four a b (c || e) (d || f)

values_or : (x y : ValuePlace) (m : Member) → IfSome (joined_value_places x y) (λ z. (typed_has z.typed m || (quotes_have z.quotes m || body_has z.body m))
    ≡ ((typed_has x.typed m || (quotes_have x.quotes m || body_has x.body m)) || (typed_has y.typed m || (quotes_have y.quotes m || body_has y.body m))))
values_or x y m = rw (← six (typed_has x.typed m) (typed_has y.typed m) (quotes_have x.quotes m) (quotes_have y.quotes m) (body_has x.body m) (body_has y.body m), ← typed_or x.typed y.typed m)
    (value_place_has (x.typed || y.typed) (joined_tags x.tag y.tag) (joined_quotes x.quotes y.quotes) (joined_bodies x.body y.body) m
    (quotes_have x.quotes m || quotes_have y.quotes m) (body_has x.body m || body_has y.body m) (quotes_or x.quotes y.quotes m) (bodies_or x.body y.body m))

none_has : (o : Option Element) (m : Member) → IfSome (option_map place.Rcdata o) (λ c. part_has c m ≡ false)
none_has (Some e) m = refl
none_has None m = tt

pub places_or : (a b : Place) (m : Member) → IfSome (joined a b) (λ c. part_has c m ≡ (part_has a m || part_has b m))
places_or place.Text place.Text m = refl
places_or place.Doctype place.Doctype m = refl
places_or (place.Comment x) (place.Comment y) m = dash_or x y m
places_or (place.Rcdata e) (place.Rcdata f) m = none_has (joined_elements e f) m
places_or (place.Tag x) (place.Tag y) m = for_map place.Tag (λ c. part_has c m ≡ (part_has (place.Tag x) m || part_has (place.Tag y) m)) (joined_tag_places x y) (tags_or x y m)
places_or (place.Value x) (place.Value y) m = for_map place.Value (λ c. part_has c m ≡ (part_has (place.Value x) m || part_has (place.Value y) m)) (joined_value_places x y) (values_or x y m)
places_or (place.Script i) (place.Script j) m = for_map place.Script (λ c. part_has c m ≡ (js_has i m || js_has j m)) (joined_js i j) (js_or i j m)
places_or (place.Style i) (place.Style j) m = for_map place.Style (λ c. part_has c m ≡ (css_has i m || css_has j m)) (joined_css i j) (css_or i j m)
places_or (place.Block x) (place.Block y) m = block_or x y m
places_or _ _ m = tt

-- the laws
have_either : (w c a b : Bool) → c ≡ (a || b) → (w || c) ≡ true → ((w || a) ≡ true) ⊎ ((w || b) ≡ true)
have_either true c a b e h = inl refl
have_either false c true b e h = inl refl
have_either false c false b e h = inr (sym e ∙ h)

have_left : (w c a b : Bool) → c ≡ (a || b) → (w || a) ≡ true → (w || c) ≡ true
have_left true c a b e h = refl
have_left false c a b e h = e ∙ ap (λ z. z || b) h

pub or_true : (a : Bool) → (a || true) ≡ true
or_true true = refl
or_true false = refl

have_right : (w c a b : Bool) → c ≡ (a || b) → (w || b) ≡ true → (w || c) ≡ true
have_right true c a b e h = refl
have_right false c a b e h = e ∙ ap (λ z. a || z) h ∙ or_true a

joined_or : (a b c : Place) (m : Member) → joined a b ≡ Some c → part_has c m ≡ (part_has a m || part_has b m)
joined_or a b c m e = of_some (λ c. part_has c m ≡ (part_has a m || part_has b m)) (joined a b) c (places_or a b m) e

pub the_join_has : JoinHas
the_join_has a b c m e = (
  have_either (is_whole m) (part_has c m) (part_has a m) (part_has b m) (joined_or a b c m e),
  have_left (is_whole m) (part_has c m) (part_has a m) (part_has b m) (joined_or a b c m e),
  have_right (is_whole m) (part_has c m) (part_has a m) (part_has b m) (joined_or a b c m e),
)

pub the_has_grows : HasGrows
the_has_grows a b m e h = have_left (is_whole m) (part_has b m) (part_has a m) (part_has b m) (joined_or a b b m e) h
