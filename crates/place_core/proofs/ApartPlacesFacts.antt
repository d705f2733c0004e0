-- What the beginnings of URLs spell at places: in joins, below a place and at two that are apart; and whether two paths of a place met apart.
use Rattle.std.proofs.Common.{◌≡◌, Bool, true, false, not, ◌||◌, ◌⊎◌, inl, inr, Option, Some, None, option_map, is_some, if◌then◌else◌, refl, sym, ap, ap₂, ◌∙◌, subst}
use Rattle.std.specs.Prelude.{IfSome}
use Rattle.place_core.specs.page.States.{LexState}
use Rattle.place_core.specs.page.Tags.{ValueState}
use Rattle.place_core.specs.place.ApartPlaces.{side, beginning_in_css, beginning_in_body, beginning_at, HasApart, spell_apart, opened_apart, ArePlacesApart}
use Rattle.place_core.specs.place.LanguagePlaces.{both_prefixes, same_prefix, joined_js, joined_css, js_has, css_has}
use Rattle.place_core.specs.place.Membership.{IsIn, Bears}
use Rattle.place_core.specs.place.PathPairs.{Apart}
use Rattle.place_core.specs.place.Places.{joined, joined_tags, joined_quotes, joined_bodies, value_place, joined_value_places, joined_elements, joined_tag_places, Below, Has, part_has, body_has, quotes_have}
use Rattle.place_core.specs.declared.body.Body.{Body}
use Rattle.place_core.specs.declared.body.Body.TheVariants as body
use Rattle.place_core.specs.declared.css.Css.{Css}
use Rattle.place_core.specs.declared.css.Css.TheVariants as css
use Rattle.place_core.specs.declared.element.Element.{Element}
use Rattle.place_core.specs.declared.js.Js.{Js}
use Rattle.place_core.specs.declared.js.Js.TheVariants as js
use Rattle.place_core.specs.declared.place.Place.{Place}
use Rattle.place_core.specs.declared.place.Place.TheVariants as place
use Rattle.place_core.specs.declared.prefix.Prefix.{Prefix}
use Rattle.place_core.specs.declared.prefix.Prefix.TheVariants as prefix
use Rattle.place_core.specs.declared.quotes.Quotes.{Quotes}
use Rattle.place_core.specs.declared.quotes.Quotes.TheVariants as quotes
use Rattle.place_core.specs.declared.tag_of.TagOf.{TagOf}
use Rattle.place_core.specs.declared.tag_place.TagPlace.{TagPlace}
use Rattle.place_core.proofs.JoinParts.{prefix_itself, prefix_is}
use Rattle.place_core.proofs.Semilattices.{for_map, none_some, of_some, one_value}

no : false ≡ true → ⊥
no e = cc

-- the beginning in a join is that of both
css_opened : (c d : Css) → IfSome (joined_css c d) (λ e. beginning_in_css e ≡ both_prefixes (beginning_in_css c) (beginning_in_css d))
css_opened (css.Code x) (css.Code y) = refl
css_opened css.Dq css.Dq = refl
css_opened css.Sq css.Sq = refl
css_opened css.UrlFresh css.UrlFresh = refl
css_opened (css.Url s) (css.Url t) = refl
css_opened (css.UrlDq s) (css.UrlDq t) = refl
css_opened (css.UrlSq s) (css.UrlSq t) = refl
css_opened css.UrlEnd css.UrlEnd = refl
css_opened (css.Comment x) (css.Comment y) = refl
css_opened _ _ = tt

none_in_js : (o : Option Js) → IfSome (option_map body.Js o) (λ e. beginning_in_body e ≡ None)
none_in_js (Some j) = refl
none_in_js None = tt

body_opened : (x y : Body) → IfSome (joined_bodies x y) (λ e. beginning_in_body e ≡ both_prefixes (beginning_in_body x) (beginning_in_body y))
body_opened body.Plain body.Plain = refl
body_opened body.NoHole body.NoHole = refl
body_opened (body.Url s) (body.Url t) = refl
body_opened (body.Js i) (body.Js j) = none_in_js (joined_js i j)
body_opened (body.Css c) (body.Css d) =
    for_map body.Css (λ e. beginning_in_body e ≡ both_prefixes (beginning_in_css c) (beginning_in_css d)) (joined_css c d) (css_opened c d)
body_opened _ _ = tt

value_opened : (typed : Bool) (t : Option TagOf) (q : Option Quotes) (b : Option Body) (o : Option Prefix) → IfSome b (λ e. beginning_in_body e ≡ o)
    → IfSome (value_place typed t q b) (λ e. beginning_in_body e.body ≡ o)
value_opened typed (Some t) (Some q) (Some b) o h = h
value_opened typed (Some t) (Some q) None o h = tt
value_opened typed (Some t) None b o h = tt
value_opened typed None q b o h = tt

none_in_rcdata : (o : Option Element) → IfSome (option_map place.Rcdata o) (λ c. beginning_at c ≡ None)
none_in_rcdata (Some e) = refl
none_in_rcdata None = tt

none_in_tag : (o : Option TagPlace) → IfSome (option_map place.Tag o) (λ c. beginning_at c ≡ None)
none_in_tag (Some e) = refl
none_in_tag None = tt

none_in_script : (o : Option Js) → IfSome (option_map place.Script o) (λ c. beginning_at c ≡ None)
none_in_script (Some e) = refl
none_in_script None = tt

both_opened : (a b : Place) → IfSome (joined a b) (λ c. beginning_at c ≡ both_prefixes (beginning_at a) (beginning_at b))
both_opened place.Text place.Text = refl
both_opened place.Doctype place.Doctype = refl
both_opened (place.Comment x) (place.Comment y) = refl
both_opened (place.Rcdata e) (place.Rcdata f) = none_in_rcdata (joined_elements e f)
both_opened (place.Tag x) (place.Tag y) = none_in_tag (joined_tag_places x y)
both_opened (place.Value x) (place.Value y) =
    for_map place.Value (λ c. beginning_at c ≡ both_prefixes (beginning_in_body x.body) (beginning_in_body y.body)) (joined_value_places x y)
    (value_opened (x.typed || y.typed) (joined_tags x.tag y.tag) (joined_quotes x.quotes y.quotes) (joined_bodies x.body y.body)
    (both_prefixes (beginning_in_body x.body) (beginning_in_body y.body)) (body_opened x.body y.body))
both_opened (place.Script i) (place.Script j) = none_in_script (joined_js i j)
both_opened (place.Style c) (place.Style d) =
    for_map place.Style (λ e. beginning_at e ≡ both_prefixes (beginning_in_css c) (beginning_in_css d)) (joined_css c d) (css_opened c d)
both_opened (place.Block x) (place.Block y) = refl
both_opened _ _ = tt

pub joined-opened : (a b c : Place) → joined a b ≡ Some c → beginning_at c ≡ both_prefixes (beginning_at a) (beginning_at b)
joined-opened a b c e = of_some (λ x. beginning_at x ≡ both_prefixes (beginning_at a) (beginning_at b)) (joined a b) c (both_opened a b) e

-- a place has the side where its beginning is there
js_side : (j : Js) → js_has j side ≡ false
js_side (js.Code s x) = refl
js_side (js.Regexp x) = refl
js_side (js.Line s) = refl
js_side (js.Block s x) = refl
js_side js.Dq = refl
js_side js.Sq = refl

css_side : (c : Css) → css_has c side ≡ is_some (beginning_in_css c)
css_side (css.Code x) = refl
css_side css.Dq = refl
css_side css.Sq = refl
css_side css.UrlFresh = refl
css_side (css.Url s) = refl
css_side (css.UrlDq s) = refl
css_side (css.UrlSq s) = refl
css_side css.UrlEnd = refl
css_side (css.Comment x) = refl

body_side : (b : Body) → body_has b side ≡ is_some (beginning_in_body b)
body_side (body.Url s) = refl
body_side (body.Js j) = js_side j
body_side (body.Css c) = css_side c
body_side body.Plain = refl
body_side body.NoHole = refl

quotes_side : (q : Quotes) → quotes_have q side ≡ false
quotes_side (quotes.Bare s) = refl
quotes_side quotes.Dq = refl
quotes_side quotes.Sq = refl

pub side-opened : (p : Place) → part_has p side ≡ is_some (beginning_at p)
side-opened place.Text = refl
side-opened place.Doctype = refl
side-opened (place.Comment x) = refl
side-opened (place.Rcdata e) = refl
side-opened (place.Tag x) = refl
side-opened (place.Value x) = ap₂ ◌||◌ (quotes_side x.quotes) (body_side x.body)
side-opened (place.Script j) = js_side j
side-opened (place.Style c) = css_side c
side-opened (place.Block x) = refl

pub has-side : (p : Place) → Has p side → is_some (beginning_at p) ≡ true
has-side p h = sym (side-opened p) ∙ h

pub side-has : (p : Place) → is_some (beginning_at p) ≡ true → Has p side
side-has p h = side-opened p ∙ h

-- whether two of its paths met apart
abbrev pub is_apart_prefix : Option Prefix → Bool
is_apart_prefix None = false
is_apart_prefix (Some prefix.Off) = false
is_apart_prefix (Some (prefix.Javascript n)) = false
is_apart_prefix (Some (prefix.Vbscript n)) = false
is_apart_prefix (Some (prefix.DataScheme n)) = false
is_apart_prefix (Some prefix.Differs) = true

abbrev pub has_apart : Place → Bool
has_apart p = is_apart_prefix (beginning_at p)

differs_only : (o : Option Prefix) → is_apart_prefix o ≡ true → o ≡ Some prefix.Differs
differs_only None h = absurd (no h)
differs_only (Some prefix.Off) h = absurd (no h)
differs_only (Some (prefix.Javascript n)) h = absurd (no h)
differs_only (Some (prefix.Vbscript n)) h = absurd (no h)
differs_only (Some (prefix.DataScheme n)) h = absurd (no h)
differs_only (Some prefix.Differs) h = refl

pub apart-is : (p : Place) → has_apart p ≡ true → HasApart p
apart-is p h = differs_only (beginning_at p) h

pub is-apart : (p : Place) → HasApart p → has_apart p ≡ true
is-apart p h = ap is_apart_prefix h

pub not-apart : (p : Place) → has_apart p ≡ false → HasApart p → ⊥
not-apart p h a = no (sym h ∙ is-apart p a)

pub apart-has : (p : Place) → HasApart p → Has p side
apart-has p h = side-has p (ap is_some h)

-- what is spelled apart
differs_not : (p : Prefix) → spell_apart p prefix.Differs ≡ false
differs_not prefix.Off = refl
differs_not (prefix.Javascript n) = refl
differs_not (prefix.Vbscript n) = refl
differs_not (prefix.DataScheme n) = refl
differs_not prefix.Differs = refl

itself_not : (p : Prefix) → spell_apart p p ≡ false
itself_not prefix.Off = refl
itself_not (prefix.Javascript n) = ap not (prefix_itself (prefix.Javascript n))
itself_not (prefix.Vbscript n) = ap not (prefix_itself (prefix.Vbscript n))
itself_not (prefix.DataScheme n) = ap not (prefix_itself (prefix.DataScheme n))
itself_not prefix.Differs = refl

-- two that are not the same are apart, or one of them is the one that differs
abbrev IsApartOr : Prefix → Prefix → Type 0
IsApartOr p q = (p ≡ prefix.Differs ⊎ q ≡ prefix.Differs) ⊎ (spell_apart p q ≡ true)

apart_where : (p q : Prefix) → same_prefix p q ≡ false → IsApartOr p q
apart_where prefix.Differs q h = inl (inl refl)
apart_where p prefix.Differs h = inl (inr refl)
apart_where p q h = inr (ap not h)

both_differ : (p q : Prefix) (x : Bool) → same_prefix p q ≡ x → (if x then p else prefix.Differs) ≡ prefix.Differs → IsApartOr p q
both_differ p q true h e = inl (inl e)
both_differ p q false h e = apart_where p q h

option_differs : (o u : Option Prefix) → both_prefixes o u ≡ Some prefix.Differs
    → ((o ≡ Some prefix.Differs) ⊎ (u ≡ Some prefix.Differs)) ⊎ (opened_apart o u ≡ true)
option_differs None u h = inl (inr h)
option_differs (Some p) None h = inl (inl h)
option_differs (Some p) (Some q) h =
    elim (both_differ p q (same_prefix p q) refl (one_value (if same_prefix p q then p else prefix.Differs) prefix.Differs h))
    [ inl (inl e) ↦ inl (inl (ap Some e)) | inl (inr e) ↦ inl (inr (ap Some e)) | inr e ↦ inr e ]

pub joins-apart : (a b c : Place) → joined a b ≡ Some c → HasApart c → (HasApart a ⊎ HasApart b) ⊎ ArePlacesApart a b
joins-apart a b c e h = option_differs (beginning_at a) (beginning_at b) (sym (joined-opened a b c e) ∙ h)

-- both are in the beginning
option_sides : (o u : Option Prefix) → opened_apart o u ≡ true → (is_some o ≡ true) × (is_some u ≡ true)
option_sides (Some p) (Some q) h = (refl, refl)
option_sides (Some p) None h = absurd (no h)
option_sides None u h = absurd (no h)

pub apart-sides : (a b : Place) → ArePlacesApart a b → Has a side × Has b side
apart-sides a b h = let it : (is_some (beginning_at a) ≡ true) × (is_some (beginning_at b) ≡ true) = option_sides (beginning_at a) (beginning_at b) h in
    (side-has a it.0, side-has b it.1)

-- the other way round
swap_same : (p q : Prefix) (x y : Bool) → same_prefix p q ≡ x → same_prefix q p ≡ y → not x ≡ true → not y ≡ true
swap_same p q true y h k n = absurd (no n)
swap_same p q false true h k n = absurd (let e : q ≡ p = prefix_is q p k in no (sym h ∙ ap (λ z. same_prefix z q) (sym e) ∙ prefix_itself q))
swap_same p q false false h k n = refl

swap_apart : (p q : Prefix) → spell_apart p q ≡ true → spell_apart q p ≡ true
swap_apart prefix.Differs q h = absurd (no h)
swap_apart p prefix.Differs h = absurd (no (sym (differs_not p) ∙ h))
swap_apart p q h = swap_same p q (same_prefix p q) (same_prefix q p) refl refl h

swap_options : (o u : Option Prefix) → opened_apart o u ≡ true → opened_apart u o ≡ true
swap_options (Some p) (Some q) h = swap_apart p q h
swap_options (Some p) None h = absurd (no h)
swap_options None u h = absurd (no h)

pub turned-apart : (a b : Place) → ArePlacesApart a b → ArePlacesApart b a
turned-apart a b h = swap_options (beginning_at a) (beginning_at b) h

-- Below a place at which no two met apart the beginning spells the same; below one at which two did it spells anything.
same_or : (p q : Prefix) (x : Bool) → same_prefix p q ≡ x → (if x then p else prefix.Differs) ≡ q → p ≡ q ⊎ q ≡ prefix.Differs
same_or p q true h e = inl e
same_or p q false h e = inr (sym e)

option_below : (o u : Option Prefix) → both_prefixes o u ≡ u → is_some o ≡ true → o ≡ u ⊎ u ≡ Some prefix.Differs
option_below None u h k = absurd (no k)
option_below (Some p) None h k = absurd (none_some p (sym h))
option_below (Some p) (Some q) h k =
    elim (same_or p q (same_prefix p q) refl (one_value (if same_prefix p q then p else prefix.Differs) q h))
    [ inl e ↦ inl (ap Some e) | inr e ↦ inr (ap Some e) ]

pub below-opened : (a b : Place) → Below a b → both_prefixes (beginning_at a) (beginning_at b) ≡ beginning_at b
below-opened a b e = sym (joined-opened a b b e)

pub same-opened : (a p : Place) → Below a p → Has a side → (HasApart p → ⊥) → beginning_at a ≡ beginning_at p
same-opened a p e h n =
    elim (option_below (beginning_at a) (beginning_at p) (below-opened a p e) (has-side a h)) [ inl k ↦ k | inr k ↦ absurd (n k) ]

left_not : (o u : Option Prefix) → o ≡ Some prefix.Differs → opened_apart o u ≡ true → ⊥
left_not o None h k = no (sym (ap (λ x. opened_apart x None) h) ∙ k)
left_not o (Some q) h k = no (sym (ap (λ x. opened_apart x (Some q)) h) ∙ k)

pub below-apart : (a c b : Place) → ArePlacesApart a b → Below c a → Has c side → ArePlacesApart c b
below-apart a c b h e k =
    ap (λ x. opened_apart x (beginning_at b)) (same-opened c a e k (λ n. left_not (beginning_at a) (beginning_at b) n h)) ∙ h

-- what is above
option_above : (o u : Option Prefix) → both_prefixes o u ≡ u → o ≡ Some prefix.Differs → u ≡ Some prefix.Differs
option_above o u e h = elim (option_below o u e (ap is_some h)) [ inl k ↦ sym k ∙ h | inr k ↦ k ]

pub above-apart : (a b : Place) → Below a b → HasApart a → HasApart b
above-apart a b e h = option_above (beginning_at a) (beginning_at b) (below-opened a b e) h

-- two places below one
option_not : (o : Option Prefix) → opened_apart o o ≡ true → ⊥
option_not None h = no h
option_not (Some p) h = no (sym (itself_not p) ∙ h)

pub two-below : (a b p : Place) → Below a p → Below b p → ArePlacesApart a b → HasApart p
two-below a b p i j h = elim (option_below (beginning_at a) (beginning_at p) (below-opened a p i) (option_sides (beginning_at a) (beginning_at b) h).0) [
  | inr k ↦ k
  | inl k ↦ elim (option_below (beginning_at b) (beginning_at p) (below-opened b p j) (option_sides (beginning_at a) (beginning_at b) h).1)
      [ inr l ↦ l | inl l ↦ absurd (option_not (beginning_at p) (ap₂ opened_apart (sym k) (sym l) ∙ h)) ]
]

-- of paths
pub are-apart : (a b : Place) (s r : LexState ValueState) → ArePlacesApart a b → IsIn a s → Bears s side → IsIn b r → Bears r side → Apart s r
are-apart a b s r h i x j y =
    let e : x.own ≡ i.own = one_value x.own i.own (sym x.stands ∙ i.stands) in
    let f : y.own ≡ j.own = one_value y.own j.own (sym y.stands ∙ j.stands) in
    let one : ArePlacesApart i.own b = below-apart a i.own b h i.below (subst (λ z. Has z side) e x.has) in
    let other : ArePlacesApart j.own i.own = below-apart b j.own i.own (turned-apart i.own b one) j.below (subst (λ z. Has z side) f y.has) in
    record { own = i.own; other_own = j.own; stands = i.stands; other_stands = j.stands; apart = turned-apart j.own i.own other }

pub met-here : (p : Place) (s r : LexState ValueState) → IsIn p s → IsIn p r → Apart s r → HasApart p
met-here p s r i j h =
    let e : h.own ≡ i.own = one_value h.own i.own (sym h.stands ∙ i.stands) in
    let f : h.other_own ≡ j.own = one_value h.other_own j.own (sym h.other_stands ∙ j.stands) in
    two-below h.own h.other_own p (subst (λ z. Below z p) (sym e) i.below) (subst (λ z. Below z p) (sym f) j.below) h.apart

pub path-sides : (s r : LexState ValueState) → Apart s r → Bears s side × Bears r side
path-sides s r h = let it : Has h.own side × Has h.other_own side = apart-sides h.own h.other_own h.apart in
    (record { own = h.own; stands = h.stands; has = it.0 }, record { own = h.other_own; stands = h.other_stands; has = it.1 })

pub turned-paths : (s r : LexState ValueState) → Apart s r → Apart r s
turned-paths s r h = record {
  own = h.other_own;
  other_own = h.own;
  stands = h.other_stands;
  other_stands = h.stands;
  apart = turned-apart h.own h.other_own h.apart;
}
