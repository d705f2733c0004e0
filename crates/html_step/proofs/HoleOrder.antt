-- Holes, over the order of places.
use Rattle.std.proofs.Common.{◌≡◌, Bool, true, false, ◌||◌, List, [], ◌∷◌, ◌++◌, Option, Some, None, option_map, Ok, Err, refl, sym, ap, ◌∙◌, subst}
use Rattle.place_core.specs.page.States.{LexState}
use Rattle.place_core.specs.page.Tags.{ValueState, refusal_code}
use Rattle.place_core.specs.place.Errors.{hole_error}
use Rattle.place_core.specs.place.PathPairs.{parts_clash, url_part_at}
use Rattle.place_core.specs.place.Membership.{IsIn}
use Rattle.place_core.specs.place.LanguagePlaces.{IsValidCss, IsValidJs, IsValidParts, both_parts}
use Rattle.place_core.specs.place.Places.{Below, IsValid, IsValidBody, IsValidQuotes, joined_bodies, joined_quotes}
use Rattle.place_core.specs.place.StatePlaces.{only_inside}
use Rattle.place_core.specs.place.UrlParts.{parts_of}
use Rattle.place_core.specs.declared.body.Body.{Body}
use Rattle.place_core.specs.declared.body.Body.TheVariants as body
use Rattle.place_core.specs.declared.chain.Chain.{Chain}
use Rattle.place_core.specs.declared.code.Code.{Code}
use Rattle.place_core.specs.declared.css.Css.{Css}
use Rattle.place_core.specs.declared.css.Css.TheVariants as css
use Rattle.place_core.specs.declared.js.Js.{Js}
use Rattle.place_core.specs.declared.js.Js.TheVariants as js
use Rattle.place_core.specs.declared.kind.Kind.TheVariants as kind
use Rattle.place_core.specs.declared.parts.Parts.{Parts}
use Rattle.place_core.specs.declared.place.Place.{Place}
use Rattle.place_core.specs.declared.place.Place.TheVariants as place
use Rattle.place_core.specs.declared.quotes.Quotes.{Quotes}
use Rattle.place_core.specs.declared.quotes.Quotes.TheVariants as quotes
use Rattle.place_core.specs.declared.san.San.{San}
use Rattle.place_core.specs.declared.tag_place.TagPlace.{TagPlace}
use Rattle.place_core.specs.declared.value_place.ValuePlace.{ValuePlace}
use Rattle.place_core.proofs.Semilattices.{none_some, one_value}
use Rattle.html_scan.specs.Scans.{bare_begun}
use Rattle.html_step.specs.HoleLaws.{AcceptsHole, CoversHole, GrowsHole, OneHole, ValidHole}
use Rattle.html_step.specs.Holes.{Holed, after_hole, both_of, css_chain, css_holed, element_holed, holed_quotes, js_holed, last_of, named_by_data, only, plain_hole, url_holed, value_hole, block_hole}
use Rattle.css_lexer.specs.RefusalCodes.{RefusalCode}
use Rattle.css_step.specs.StyleChains.{style_hole_with_chain, style_sans}
use Rattle.css_step.specs.StyleScans.{style_at_hole, style_hole_error}
use Rattle.css_step.specs.StyleScanViews.{style_or_refusal}
use Rattle.css_step.specs.StyleSetLaws.{StyleBelow}
use Rattle.css_step.proofs.StyleGrowth.{styles-grow, url-none}
use Rattle.css_step.proofs.StyleParts.{styles-stay-valid}
use Rattle.html_step.proofs.EscapeOrder.{css-dq-one, css-sq-one, css-url-one}
use Rattle.html_step.proofs.JsPlaces.{js-below-place, js-place-below}
use Rattle.html_step.proofs.ScriptOrder.{below-js, js-below}
use Rattle.html_step.proofs.StyleOrder.{below-css, css-below}
use Rattle.js_step.specs.ScriptSanitizers.{script_sanitizer}
use Rattle.js_step.specs.ScriptScans.{script_at_hole}
use Rattle.js_step.specs.ScriptSetLaws.{ScriptBelow}
use Rattle.js_step.proofs.ScriptGrowth.{scripts-grow}
use Rattle.js_step.proofs.ValidScripts.{scripts-stay-valid}
use Rattle.url_step.specs.Chains.{chain_of}
use Rattle.html_step.proofs.ScanOrder.{one-spot, parts-below, value-from, block-below, plain-same, style-below-place, style-place-below}
use Rattle.html_step.proofs.HoleSteps.{OwnHole, own-at}
use Rattle.html_step.proofs.OnePart.{same-chain, same-sans}
use Rattle.html_step.proofs.PlaceParts.{TagBelow, Under, ValueBelow, below-tag, below-value, value-below, under-both, under-none}
use Rattle.html_step.proofs.ScanOrder.{parts-of-below}
use Rattle.html_step.proofs.UrlPlaces.{InUrl, body_url, css_url, url-place}
use Rattle.url_lexer.specs.Parts.{UrlPart}
use Rattle.url_lexer.specs.Refusals.{UrlRefusal}
use Rattle.url_lexer.specs.TwoPaths.{refuses_hole_on_two}
use Rattle.url_step.specs.PartSets.{PartsBelow, parts_at_hole, parts_hole_error, parts_or_refusal}
use Rattle.url_step.proofs.Covering.{parts-agree}
use Rattle.url_step.proofs.Growth.{parts-grow}
use Rattle.url_step.proofs.ValidParts.{parts-stay-valid}

no : false ≡ true → ⊥
no e = cc

-- The place below.
abbrev GrowsTo : Holed → Place → Type 0
GrowsTo (Ok h) p = (a : Place) × (after_hole p ≡ Ok (a, h.1)) × Below a h.0
GrowsTo (Err e) p = Unit {0}

tag-grows : (x y : TagPlace) (n : Bool) → TagBelow x y → (y.spots.name || y.spots.inside) ≡ n → GrowsTo (named_by_data n y) (place.Tag x)
tag-grows x y true h e = tt
tag-grows x y false h e =
    let goes : (x.spots.name || x.spots.inside) ≡ false = under-none (x.spots.name || x.spots.inside) (y.spots.name || y.spots.inside) (under-both x.spots.name y.spots.name x.spots.inside y.spots.inside h.name h.inside) e in
    (place.Tag (record { tag = x.tag; typed = x.typed; spots = only_inside; kind = Some kind.Plain }), ap (λ (b : Bool). named_by_data b x) goes, one-spot x.tag y.tag x.typed y.typed only_inside (Some kind.Plain) h.tag h.typed)

plain-grows : (x y : ValuePlace) (q r : Quotes) → ValueBelow x y → x.quotes ≡ q → joined_quotes q r ≡ Some r → y.quotes ≡ r → x.body ≡ body.Plain → GrowsTo (plain_hole r y) (place.Value x)
plain-grows x y quotes.Dq quotes.Dq h e j f b = (place.Value x, ap (λ (z : Body). value_hole z x) b ∙ ap (λ (z : Quotes). plain_hole z x) e, value-below x y h)
plain-grows x y quotes.Sq quotes.Sq h e j f b = (place.Value x, ap (λ (z : Body). value_hole z x) b ∙ ap (λ (z : Quotes). plain_hole z x) e, value-below x y h)
plain-grows x y (quotes.Bare s) (quotes.Bare r) h e j f b = (
  place.Value (record { tag = x.tag; typed = x.typed; quotes = bare_begun; body = x.body }),
  ap (λ (z : Body). value_hole z x) b ∙ ap (λ (z : Quotes). plain_hole z x) e,
  value-from x.tag y.tag x.typed y.typed bare_begun bare_begun x.body y.body h.tag h.typed refl h.body,
)
plain-grows x y quotes.Dq r h e j f b = absurd (none_some r j)
plain-grows x y quotes.Sq r h e j f b = absurd (none_some r j)
plain-grows x y (quotes.Bare s) r h e j f b = absurd (none_some r j)

-- in a URL
same-last : (q r : Quotes) → joined_quotes q r ≡ Some r → last_of q ≡ last_of r
same-last quotes.Dq quotes.Dq h = refl
same-last quotes.Sq quotes.Sq h = refl
same-last (quotes.Bare s) (quotes.Bare t) h = refl
same-last quotes.Dq r h = absurd (none_some r h)
same-last quotes.Sq r h = absurd (none_some r h)
same-last (quotes.Bare s) r h = absurd (none_some r h)

holed-below : (q r : Quotes) → joined_quotes q r ≡ Some r → joined_quotes (holed_quotes q) (holed_quotes r) ≡ Some (holed_quotes r)
holed-below quotes.Dq quotes.Dq h = refl
holed-below quotes.Sq quotes.Sq h = refl
holed-below (quotes.Bare s) (quotes.Bare t) h = refl
holed-below quotes.Dq r h = absurd (none_some r h)
holed-below quotes.Sq r h = absurd (none_some r h)
holed-below (quotes.Bare s) r h = absurd (none_some r h)

url-after : ValuePlace → Parts → Place
url-after x s = place.Value (record { tag = x.tag; typed = x.typed; quotes = holed_quotes x.quotes; body = body.Url (parts_at_hole s) })

url-grows : (x y : ValuePlace) (s p : Parts) (o : Option UrlRefusal) → ValueBelow x y → IsValidParts s → x.body ≡ body.Url s → PartsBelow s p
    → parts_hole_error p ≡ o → GrowsTo (url_holed y p (parts_or_refusal o (parts_at_hole p))) (place.Value x)
unfolding url-after
url-grows x y s p (Some e) h v b l n = tt
url-grows x y s p None h v b l n =
    let g = parts-grow s p l in (
      url-after x s,
      ap (λ (z : Body). value_hole z x) b ∙ ap (λ (z : Option UrlRefusal). url_holed x s (parts_or_refusal z (parts_at_hole s))) (g.hole_error n)
          ∙ ap (λ (z : Chain). Ok (url-after x s, z)) (same-chain s p (last_of x.quotes) (last_of y.quotes) (same-last x.quotes y.quotes h.quotes) v.0 l n),
      value-from x.tag y.tag x.typed y.typed (holed_quotes x.quotes) (holed_quotes y.quotes) (body.Url (parts_at_hole s)) (body.Url (parts_at_hole p))
          h.tag h.typed (holed-below x.quotes y.quotes h.quotes) (ap (λ (z : Parts). Some (body.Url z)) g.at_hole),
    )

-- in a style
pub url-parts : (s r : Parts) → StyleBelow (css.Url s) (css.Url r) → PartsBelow s r
url-parts s r h = css-url-one (both_parts s r) r (one_value (css.Url (both_parts s r)) (css.Url r) h)

pub dq-parts : (s r : Parts) → StyleBelow (css.UrlDq s) (css.UrlDq r) → PartsBelow s r
dq-parts s r h = css-dq-one (both_parts s r) r (one_value (css.UrlDq (both_parts s r)) (css.UrlDq r) h)

pub sq-parts : (s r : Parts) → StyleBelow (css.UrlSq s) (css.UrlSq r) → PartsBelow s r
sq-parts s r h = css-sq-one (both_parts s r) r (one_value (css.UrlSq (both_parts s r)) (css.UrlSq r) h)

same-style-sans : (c d : Css) → IsValidCss c → StyleBelow c d → style_hole_error d ≡ None → style_sans c ≡ style_sans d
same-style-sans (css.Code s) (css.Code r) v h n = refl
same-style-sans css.Dq css.Dq v h n = refl
same-style-sans css.Sq css.Sq v h n = refl
same-style-sans css.UrlFresh css.UrlFresh v h n = refl
same-style-sans (css.Url s) (css.Url r) v h n = same-sans s r v.0 (url-parts s r h) (url-none (parts_hole_error r) n)
same-style-sans (css.UrlDq s) (css.UrlDq r) v h n = same-sans s r v.0 (dq-parts s r h) (url-none (parts_hole_error r) n)
same-style-sans (css.UrlSq s) (css.UrlSq r) v h n = same-sans s r v.0 (sq-parts s r h) (url-none (parts_hole_error r) n)
same-style-sans css.UrlEnd css.UrlEnd v h n = refl
same-style-sans (css.Comment s) (css.Comment r) v h n = refl
same-style-sans (css.Code s) d v h n = absurd (none_some d h)
same-style-sans css.Dq d v h n = absurd (none_some d h)
same-style-sans css.Sq d v h n = absurd (none_some d h)
same-style-sans css.UrlFresh d v h n = absurd (none_some d h)
same-style-sans (css.Url s) d v h n = absurd (none_some d h)
same-style-sans (css.UrlDq s) d v h n = absurd (none_some d h)
same-style-sans (css.UrlSq s) d v h n = absurd (none_some d h)
same-style-sans css.UrlEnd d v h n = absurd (none_some d h)
same-style-sans (css.Comment s) d v h n = absurd (none_some d h)

same-css-chain : (c d : Css) (x y : San) → x ≡ y → IsValidCss c → StyleBelow c d → style_hole_error d ≡ None → css_chain c x ≡ css_chain d y
same-css-chain c d x y e v h n =
    ap (css_chain c) e ∙ ap (λ (z : List San). chain_of (z ++ y ∷ [])) (same-style-sans c d v h n)

style-after : ValuePlace → Css → Place
style-after x c = place.Value (record { tag = x.tag; typed = x.typed; quotes = holed_quotes x.quotes; body = body.Css (style_at_hole c) })

css-grows : (x y : ValuePlace) (c d : Css) (o : Option RefusalCode) → ValueBelow x y → IsValidCss c → x.body ≡ body.Css c → StyleBelow c d
    → style_hole_error d ≡ o → GrowsTo (css_holed y d (style_or_refusal o (style_at_hole d))) (place.Value x)
unfolding style-after
css-grows x y c d (Some e) h v b l n = tt
css-grows x y c d None h v b l n =
    let g = styles-grow.places c d l in (
      style-after x c,
      ap (λ (z : Body). value_hole z x) b ∙ ap (λ (z : Option RefusalCode). css_holed x c (style_or_refusal z (style_at_hole c))) (g.hole_error n)
          ∙ ap (λ (z : Chain). Ok (style-after x c, z)) (same-css-chain c d (last_of x.quotes) (last_of y.quotes) (same-last x.quotes y.quotes h.quotes) v l n),
      value-from x.tag y.tag x.typed y.typed (holed_quotes x.quotes) (holed_quotes y.quotes) (body.Css (style_at_hole c)) (body.Css (style_at_hole d))
          h.tag h.typed (holed-below x.quotes y.quotes h.quotes) (below-css (style_at_hole c) (style_at_hole d) g.at_hole),
    )

-- and in the element
element-hole-grows : (c d : Css) (o : Option RefusalCode) → IsValidCss c → StyleBelow c d → style_hole_error d ≡ o
    → GrowsTo (element_holed (style_hole_with_chain d (style_or_refusal o (style_at_hole d)))) (place.Style c)
element-hole-grows c d (Some e) v l n = tt
element-hole-grows c d None v l n =
    let g = styles-grow.places c d l in (
      place.Style (style_at_hole c),
      ap (λ (z : Option RefusalCode). element_holed (style_hole_with_chain c (style_or_refusal z (style_at_hole c)))) (g.hole_error n)
          ∙ ap (λ (z : List San). Ok (place.Style (style_at_hole c), chain_of z)) (same-style-sans c d v l n),
      style-place-below (style_at_hole c) (style_at_hole d) g.at_hole,
    )

-- below a style is one
pub css-of-below : (b : Body) (d : Css) → joined_bodies b (body.Css d) ≡ Some (body.Css d) → (c : Css) × (b ≡ body.Css c) × StyleBelow c d
css-of-below (body.Css c) d h = (c, refl, css-below c d h)
css-of-below body.Plain d h = absurd (none_some (body.Css d) h)
css-of-below body.NoHole d h = absurd (none_some (body.Css d) h)
css-of-below (body.Js j) d h = absurd (none_some (body.Css d) h)
css-of-below (body.Url s) d h = absurd (none_some (body.Css d) h)

-- in a script
same-sanitizer : (c d : Js) → ScriptBelow c d → script_sanitizer c ≡ script_sanitizer d
same-sanitizer (js.Code s x) (js.Code t y) h = refl
same-sanitizer js.Dq js.Dq h = refl
same-sanitizer js.Sq js.Sq h = refl
same-sanitizer (js.Regexp x) (js.Regexp y) h = refl
same-sanitizer (js.Line s) (js.Line t) h = refl
same-sanitizer (js.Block s x) (js.Block t y) h = refl
same-sanitizer (js.Code s x) d h = absurd (none_some d h)
same-sanitizer js.Dq d h = absurd (none_some d h)
same-sanitizer js.Sq d h = absurd (none_some d h)
same-sanitizer (js.Regexp x) d h = absurd (none_some d h)
same-sanitizer (js.Line s) d h = absurd (none_some d h)
same-sanitizer (js.Block s x) d h = absurd (none_some d h)

same-js-chain : (c d : Js) (x y : San) → x ≡ y → ScriptBelow c d → both_of (script_sanitizer c) x ≡ both_of (script_sanitizer d) y
same-js-chain c d x y e h = ap (both_of (script_sanitizer c)) e ∙ ap (λ (z : San). both_of z y) (same-sanitizer c d h)

js-after : ValuePlace → Js → Place
js-after x c = place.Value (record { tag = x.tag; typed = x.typed; quotes = holed_quotes x.quotes; body = body.Js (script_at_hole c) })

js-grows : (x y : ValuePlace) (c d : Js) → ValueBelow x y → x.body ≡ body.Js c → ScriptBelow c d → GrowsTo (js_holed y d) (place.Value x)
unfolding js-after
js-grows x y c d h b l = (
  js-after x c,
  ap (λ (z : Body). value_hole z x) b
      ∙ ap (λ (z : Chain). Ok (js-after x c, z)) (same-js-chain c d (last_of x.quotes) (last_of y.quotes) (same-last x.quotes y.quotes h.quotes) l),
  value-from x.tag y.tag x.typed y.typed (holed_quotes x.quotes) (holed_quotes y.quotes) (body.Js (script_at_hole c)) (body.Js (script_at_hole d))
      h.tag h.typed (holed-below x.quotes y.quotes h.quotes) (below-js (script_at_hole c) (script_at_hole d) (scripts-grow.at_hole c d l)),
)

-- and in the element
script-hole-grows : (c d : Js) → ScriptBelow c d → GrowsTo (after_hole (place.Script d)) (place.Script c)
script-hole-grows c d h = (
  place.Script (script_at_hole c),
  ap (λ (z : San). Ok (place.Script (script_at_hole c), only z)) (same-sanitizer c d h),
  js-place-below (script_at_hole c) (script_at_hole d) (scripts-grow.at_hole c d h),
)

-- below a script is one
pub js-of-below : (b : Body) (d : Js) → joined_bodies b (body.Js d) ≡ Some (body.Js d) → (c : Js) × (b ≡ body.Js c) × ScriptBelow c d
js-of-below (body.Js c) d h = (c, refl, js-below c d h)
js-of-below body.Plain d h = absurd (none_some (body.Js d) h)
js-of-below body.NoHole d h = absurd (none_some (body.Js d) h)
js-of-below (body.Css c) d h = absurd (none_some (body.Js d) h)
js-of-below (body.Url s) d h = absurd (none_some (body.Js d) h)

value-grows : (x y : ValuePlace) (b : Body) → ValueBelow x y → IsValid (place.Value x) → y.body ≡ b → GrowsTo (value_hole b y) (place.Value x)
value-grows x y body.Plain h v e =
    let same : x.body ≡ body.Plain = plain-same x.body (subst (λ (z : Body). joined_bodies x.body z ≡ Some z) e h.body) in
    plain-grows x y x.quotes y.quotes h refl h.quotes refl same
value-grows x y body.NoHole h v e = tt
value-grows x y (body.Url p) h v e =
    let w = parts-of-below x.body p (subst (λ (z : Body). joined_bodies x.body z ≡ Some z) e h.body) in
    url-grows x y w.0 p (parts_hole_error p) h (subst IsValidBody w.1 v.1) w.1 w.2 refl
value-grows x y (body.Js p) h v e =
    let w = js-of-below x.body p (subst (λ (z : Body). joined_bodies x.body z ≡ Some z) e h.body) in
    js-grows x y w.0 p h w.1 w.2
value-grows x y (body.Css d) h v e =
    let w = css-of-below x.body d (subst (λ (z : Body). joined_bodies x.body z ≡ Some z) e h.body) in
    css-grows x y w.0 d (style_hole_error d) h (subst IsValidBody w.1 v.1) w.1 w.2 refl

block-grows : (x y : Bool) → Under x y → GrowsTo (block_hole y) (place.Block x)
block-grows x true u = tt
block-grows true false u = absurd (no (sym u))
block-grows false false u = (place.Block false, refl, refl)

grows-to : (p r : Place) → IsValid p → Below p r → GrowsTo (after_hole r) p
grows-to place.Text place.Text v h = (place.Text, refl, refl)
grows-to (place.Comment x) (place.Comment y) v h = (place.Comment x, refl, h)
grows-to (place.Rcdata e) (place.Rcdata f) v h = (place.Rcdata e, refl, h)
grows-to (place.Tag x) (place.Tag y) v h = tag-grows x y (y.spots.name || y.spots.inside) (below-tag x y h) refl
grows-to (place.Value x) (place.Value y) v h = value-grows x y y.body (below-value x y h) v refl
grows-to p place.Doctype v h = tt
grows-to (place.Script i) (place.Script j) v h = script-hole-grows i j (js-below-place i j h)
grows-to (place.Style i) (place.Style j) v h = element-hole-grows i j (style_hole_error j) v (style-below-place i j h) refl
grows-to (place.Block x) (place.Block y) v h = block-grows x y (block-below x y h)
grows-to place.Text r v h = absurd (none_some r h)
grows-to place.Doctype r v h = absurd (none_some r h)
grows-to (place.Comment x) r v h = absurd (none_some r h)
grows-to (place.Rcdata e) r v h = absurd (none_some r h)
grows-to (place.Tag x) r v h = absurd (none_some r h)
grows-to (place.Value x) r v h = absurd (none_some r h)
grows-to (place.Script j) r v h = absurd (none_some r h)
grows-to (place.Style j) r v h = absurd (none_some r h)
grows-to (place.Block b) r v h = absurd (none_some r h)

pub grows-hole : GrowsHole
grows-hole p r q c v w l h = subst (λ (o : Holed). GrowsTo o p) h (grows-to p r v l)

-- Validity.
abbrev ValidTo : Holed → Type 0
ValidTo (Ok h) = IsValid h.0
ValidTo (Err e) = Unit {0}

tag-valid : (t : TagPlace) (n : Bool) → ValidTo (named_by_data n t)
tag-valid t true = tt
tag-valid t false = (refl, refl)

plain-valid : (x : ValuePlace) (q : Quotes) → IsValid (place.Value x) → ValidTo (plain_hole q x)
plain-valid x quotes.Dq v = v
plain-valid x quotes.Sq v = v
plain-valid x (quotes.Bare b) v = (refl, v.1)

holed-valid : (q : Quotes) → IsValidQuotes (holed_quotes q)
holed-valid quotes.Dq = tt
holed-valid quotes.Sq = tt
holed-valid (quotes.Bare b) = refl

url-valid : (x : ValuePlace) (s : Parts) (o : Option UrlRefusal) → IsValidBody (body.Url s) → ValidTo (url_holed x s (parts_or_refusal o (parts_at_hole s)))
url-valid x s (Some e) v = tt
url-valid x s None v = (holed-valid x.quotes, (parts-stay-valid s v).at_hole)

css-valid : (x : ValuePlace) (c : Css) (o : Option RefusalCode) → IsValidCss c → ValidTo (css_holed x c (style_or_refusal o (style_at_hole c)))
css-valid x c (Some e) v = tt
css-valid x c None v = (holed-valid x.quotes, styles-stay-valid.at_hole c v)

js-valid : (x : ValuePlace) (j : Js) → IsValidJs j → ValidTo (js_holed x j)
js-valid x j v = (holed-valid x.quotes, scripts-stay-valid.at_hole j v)

value-valid : (x : ValuePlace) (b : Body) → IsValid (place.Value x) → x.body ≡ b → ValidTo (value_hole b x)
value-valid x body.Plain v e = plain-valid x x.quotes v
value-valid x body.NoHole v e = tt
value-valid x (body.Url s) v e = url-valid x s (parts_hole_error s) (subst IsValidBody e v.1)
value-valid x (body.Js j) v e = js-valid x j (subst IsValidBody e v.1)
value-valid x (body.Css c) v e = css-valid x c (style_hole_error c) (subst IsValidBody e v.1)

element-hole-valid : (c : Css) (o : Option RefusalCode) → IsValidCss c → ValidTo (element_holed (style_hole_with_chain c (style_or_refusal o (style_at_hole c))))
element-hole-valid c (Some e) v = tt
element-hole-valid c None v = styles-stay-valid.at_hole c v

valid-to : (p : Place) → IsValid p → ValidTo (after_hole p)
valid-to place.Text v = tt
valid-to place.Doctype v = tt
valid-to (place.Comment dash) v = tt
valid-to (place.Rcdata e) v = v
valid-to (place.Tag t) v = tag-valid t (t.spots.name || t.spots.inside)
valid-to (place.Value x) v = value-valid x x.body v refl
valid-to (place.Script j) v = scripts-stay-valid.at_hole j v
valid-to (place.Style j) v = element-hole-valid j (style_hole_error j) v
valid-to (place.Block true) v = tt
valid-to (place.Block false) v = tt

pub valid-hole : ValidHole
valid-hole p q c v h = subst ValidTo h (valid-to p v)

-- Paths.
pub one-hole : OneHole
one-hole p s e = (
  λ q c h. subst (λ (o : Holed). OwnHole o p s) h (own-at p s e),
  λ x h. record { own = p; stands = e; refused = subst (λ (o : Holed). OwnHole o p s) h (own-at p s e) },
)

pub covers-hole : CoversHole
covers-hole p q c s v i h =
    let g = grows-hole i.own p q c i.valid v i.below h in (
      record { own = g.0; stands = ((one-hole i.own s i.stands).0 g.0 c g.1).1; valid = valid-hole i.own g.0 c i.valid g.1; below = g.2 },
      λ a e. subst (λ (b : Place). (d : Place) × (after_hole b ≡ Ok (d, c))) (one_value i.own a (sym i.stands ∙ e)) (g.0, g.1),
    )

-- Two paths in one URL, of which one place stands for both: where a hole is accepted at the place, they are in one part of it.
taken-url : (t : ValuePlace) (s : Parts) (o : Option UrlRefusal) (h : Place × Chain) → parts_hole_error s ≡ o
    → url_holed t s (parts_or_refusal o (parts_at_hole s)) ≡ Ok h → parts_hole_error s ≡ None
taken-url t s None h n e = n
taken-url t s (Some x) h n e = cc

below-parts : (b : Body) (s p : Parts) → joined_bodies b (body.Url s) ≡ Some (body.Url s) → body_url b ≡ Some p → PartsBelow p s
below-parts (body.Url q) s p i e = subst (λ (z : Parts). PartsBelow z s) (one_value q p e) (parts-below q s i)
below-parts body.Plain s p i e = absurd (none_some (body.Url s) i)
below-parts body.NoHole s p i e = absurd (none_some (body.Url s) i)
below-parts (body.Js j) s p i e = absurd (none_some (body.Url s) i)
below-parts (body.Css c) s p i e = absurd (none_some (body.Url s) i)

not-plain : (b : Body) (p : Parts) → joined_bodies b body.Plain ≡ Some body.Plain → body_url b ≡ Some p → ⊥
not-plain body.Plain p i e = none_some p e
not-plain body.NoHole p i e = none_some body.Plain i
not-plain (body.Url s) p i e = none_some body.Plain i
not-plain (body.Js j) p i e = none_some body.Plain i
not-plain (body.Css c) p i e = none_some body.Plain i

not-script : (b : Body) (d : Js) (p : Parts) → joined_bodies b (body.Js d) ≡ Some (body.Js d) → body_url b ≡ Some p → ⊥
not-script (body.Js c) d p i e = none_some p e
not-script body.Plain d p i e = none_some (body.Js d) i
not-script body.NoHole d p i e = none_some (body.Js d) i
not-script (body.Url s) d p i e = none_some (body.Js d) i
not-script (body.Css c) d p i e = none_some (body.Js d) i

no-hole : (c : Code) (h : Place × Chain) → Err c ≡ Ok h → ⊥
no-hole c h e = cc

-- a part of a URL below a body
record PartBelow (x : UrlPart) (b : Body) : Type 0 where
  own : Body
  below : joined_bodies own b ≡ Some b
  parts : body_url own ≡ Some (parts_of x)

-- in a URL of a style
css-not-url : (c d : Css) (p : Parts) → StyleBelow c d → css_url c ≡ Some p → css_url d ≡ None → ⊥
css-not-url (css.Url s) (css.Url r) p h e n = none_some r (sym n)
css-not-url (css.UrlDq s) (css.UrlDq r) p h e n = none_some r (sym n)
css-not-url (css.UrlSq s) (css.UrlSq r) p h e n = none_some r (sym n)
css-not-url (css.Url s) d p h e n = none_some d h
css-not-url (css.UrlDq s) d p h e n = none_some d h
css-not-url (css.UrlSq s) d p h e n = none_some d h
css-not-url c d p h e n = none_some p e

body-not-url : (b : Body) (d : Css) (p : Parts) → joined_bodies b (body.Css d) ≡ Some (body.Css d) → body_url b ≡ Some p → css_url d ≡ None → ⊥
body-not-url b d p h e n = (let c = css-of-below b d h in css-not-url c.0 d p c.2 (sym (ap body_url c.1) ∙ e) n)

-- the parts below those of a URL in a style
css-parts-below : (c d : Css) (s p : Parts) → StyleBelow c d → css_url d ≡ Some s → css_url c ≡ Some p → PartsBelow p s
css-parts-below (css.Url q) (css.Url r) s p h e n =
    subst (λ (z : Parts). PartsBelow z s) (one_value q p n) (subst (PartsBelow q) (one_value r s e) (url-parts q r h))
css-parts-below (css.UrlDq q) (css.UrlDq r) s p h e n =
    subst (λ (z : Parts). PartsBelow z s) (one_value q p n) (subst (PartsBelow q) (one_value r s e) (dq-parts q r h))
css-parts-below (css.UrlSq q) (css.UrlSq r) s p h e n =
    subst (λ (z : Parts). PartsBelow z s) (one_value q p n) (subst (PartsBelow q) (one_value r s e) (sq-parts q r h))
css-parts-below (css.Url q) d s p h e n = absurd (none_some d h)
css-parts-below (css.UrlDq q) d s p h e n = absurd (none_some d h)
css-parts-below (css.UrlSq q) d s p h e n = absurd (none_some d h)
css-parts-below c d s p h e n = absurd (none_some p n)

body-parts-below : (b : Body) (d : Css) (s p : Parts) → joined_bodies b (body.Css d) ≡ Some (body.Css d) → css_url d ≡ Some s → body_url b ≡ Some p → PartsBelow p s
body-parts-below b d s p h e n = (let c = css-of-below b d h in css-parts-below c.0 d s p c.2 e (sym (ap body_url c.1) ∙ n))

taken-style : (t : ValuePlace) (c : Css) (o : Option RefusalCode) (h : Place × Chain) → style_hole_error c ≡ o
    → css_holed t c (style_or_refusal o (style_at_hole c)) ≡ Ok h → style_hole_error c ≡ None
taken-style t c None h n e = n
taken-style t c (Some x) h n e = cc

two-in-url : (d : Css) (s : Parts) (x y : UrlPart) → css_url d ≡ Some s → parts_hole_error s ≡ None → PartBelow x (body.Css d) → PartBelow y (body.Css d)
    → refuses_hole_on_two x y ≡ None
two-in-url d s x y e n i j =
    (parts-agree s x y (body-parts-below i.own d s (parts_of x) i.below e i.parts) (body-parts-below j.own d s (parts_of y) j.below e j.parts)).hole n

two-in-css : (d : Css) (x y : UrlPart) → style_hole_error d ≡ None → PartBelow x (body.Css d) → PartBelow y (body.Css d) → refuses_hole_on_two x y ≡ None
two-in-css (css.Url s) x y n i j = two-in-url (css.Url s) s x y refl (url-none (parts_hole_error s) n) i j
two-in-css (css.UrlDq s) x y n i j = two-in-url (css.UrlDq s) s x y refl (url-none (parts_hole_error s) n) i j
two-in-css (css.UrlSq s) x y n i j = two-in-url (css.UrlSq s) s x y refl (url-none (parts_hole_error s) n) i j
two-in-css (css.Code r) x y n i j = absurd (body-not-url i.own (css.Code r) (parts_of x) i.below i.parts refl)
two-in-css css.Dq x y n i j = absurd (body-not-url i.own css.Dq (parts_of x) i.below i.parts refl)
two-in-css css.Sq x y n i j = absurd (body-not-url i.own css.Sq (parts_of x) i.below i.parts refl)
two-in-css css.UrlFresh x y n i j = absurd (body-not-url i.own css.UrlFresh (parts_of x) i.below i.parts refl)
two-in-css css.UrlEnd x y n i j = absurd (body-not-url i.own css.UrlEnd (parts_of x) i.below i.parts refl)
two-in-css (css.Comment r) x y n i j = absurd (body-not-url i.own (css.Comment r) (parts_of x) i.below i.parts refl)

two-in-body : (t : ValuePlace) (b : Body) (h : Place × Chain) (x y : UrlPart) → value_hole b t ≡ Ok h → PartBelow x b → PartBelow y b → refuses_hole_on_two x y ≡ None
two-in-body t (body.Url s) h x y e i j =
    (parts-agree s x y (below-parts i.own s (parts_of x) i.below i.parts) (below-parts j.own s (parts_of y) j.below j.parts)).hole
    (taken-url t s (parts_hole_error s) h refl e)
two-in-body t body.Plain h x y e i j = absurd (not-plain i.own (parts_of x) i.below i.parts)
two-in-body t body.NoHole h x y e i j = absurd (no-hole _ h e)
two-in-body t (body.Js s) h x y e i j = absurd (not-script i.own s (parts_of x) i.below i.parts)
two-in-body t (body.Css d) h x y e i j = two-in-css d x y (taken-style t d (style_hole_error d) h refl e) i j

url-below : (t : ValuePlace) (a : Place) (x : UrlPart) → InUrl a x → Below a (place.Value t) → PartBelow x t.body
url-below t (place.Value u) x i l = record { own = u.body; below = (below-value u t l).body; parts = i.parts }
url-below t _ x i l = absurd (none_some (place.Value t) l)

-- in the element too: its place has a part as a value that is the style has it
taken-element : (c : Css) (o : Option RefusalCode) (h : Place × Chain) → style_hole_error c ≡ o
    → element_holed (style_hole_with_chain c (style_or_refusal o (style_at_hole c))) ≡ Ok h → style_hole_error c ≡ None
taken-element c None h n e = n
taken-element c (Some x) h n e = cc

element-url-below : (d : Css) (a : Place) (x : UrlPart) → InUrl a x → Below a (place.Style d) → PartBelow x (body.Css d)
element-url-below d (place.Style c) x i l = record { own = body.Css c; below = below-css c d (style-below-place c d l); parts = i.parts }
element-url-below d _ x i l = absurd (none_some (place.Style d) l)

-- elsewhere no path is in a URL
no-url : (p a : Place) (x : UrlPart) → InUrl a x → Below a p → ((v : ValuePlace) → Below (place.Value v) p → ⊥) → ((c : Css) → Below (place.Style c) p → ⊥) → ⊥
no-url p (place.Value v) x i l n m = n v l
no-url p (place.Style c) x i l n m = m c l
no-url p _ x i l n m = none_some _ i.parts

two-in : (p : Place) (h : Place × Chain) (a b : Place) (x y : UrlPart) → after_hole p ≡ Ok h → InUrl a x → InUrl b y → Below a p → Below b p
    → refuses_hole_on_two x y ≡ None
two-in (place.Value t) h a b x y e i j l m = two-in-body t t.body h x y e (url-below t a x i l) (url-below t b y j m)
two-in place.Text h a b x y e i j l m = absurd (no-url place.Text a x i l (λ v. none_some place.Text) (λ c. none_some place.Text))
two-in place.Doctype h a b x y e i j l m = absurd (no-url place.Doctype a x i l (λ v. none_some place.Doctype) (λ c. none_some place.Doctype))
two-in (place.Comment z) h a b x y e i j l m = absurd (no-url (place.Comment z) a x i l (λ v. none_some (place.Comment z)) (λ c. none_some (place.Comment z)))
two-in (place.Rcdata z) h a b x y e i j l m = absurd (no-url (place.Rcdata z) a x i l (λ v. none_some (place.Rcdata z)) (λ c. none_some (place.Rcdata z)))
two-in (place.Tag z) h a b x y e i j l m = absurd (no-url (place.Tag z) a x i l (λ v. none_some (place.Tag z)) (λ c. none_some (place.Tag z)))
two-in (place.Script z) h a b x y e i j l m = absurd (no-url (place.Script z) a x i l (λ v. none_some (place.Script z)) (λ c. none_some (place.Script z)))
two-in (place.Style d) h a b x y e i j l m = two-in-css d x y (taken-element d (style_hole_error d) h refl e) (element-url-below d a x i l) (element-url-below d b y j m)
two-in (place.Block z) h a b x y e i j l m = absurd (no-url (place.Block z) a x i l (λ v. none_some (place.Block z)) (λ c. none_some (place.Block z)))

-- what clashes is in two parts
clash-by : (s r : LexState ValueState) (p : Place) (h : Place × Chain) (e : Code) (o n : Option UrlPart) → after_hole p ≡ Ok h → IsIn p s → IsIn p r
    → url_part_at s ≡ o → url_part_at r ≡ n → parts_clash o n ≡ Some e → ⊥
clash-by s r p h e (Some x) (Some y) g i j k l m =
    let none = two-in p h i.own j.own x y g (url-place s x i.own k i.stands) (url-place r y j.own l j.stands) i.below j.below in
    none_some e (sym (ap (option_map refusal_code) none) ∙ m)
clash-by s r p h e (Some x) None g i j k l m = none_some e m
clash-by s r p h e None n g i j k l m = none_some e m

pub accepts-hole : AcceptsHole
accepts-hole p q c s e v h i = (
  λ r.
      let g = grows-hole i.own p q c i.valid v i.below h in
      let own : r.own ≡ i.own = one_value r.own i.own (sym r.stands ∙ i.stands) in
      none_some e (sym ((one-hole i.own s i.stands).0 g.0 c g.1).0 ∙ subst (λ (a : Place). hole_error a ≡ Some e) own r.refused),
  λ r j k. clash-by s r p (q, c) e (url_part_at s) (url_part_at r) h i j refl refl k,
)
