-- Two places that do not join have two members that show it.
use Rattle.std.proofs.Common.{◌≡◌, Bool, true, false, ◌||◌, Option, Some, None, is_some, option_map, if◌then◌else◌, refl, sym, ap, ap₂, ◌∙◌}
use Rattle.std.specs.Prelude.{IfSome}
use Rattle.place_core.specs.place.JoinLaws.{AreInConflict, Conflict, join_shows, name_shows, tags_show}
use Rattle.place_core.specs.place.Places.{joined, joined_elements, joined_tags, joined_kinds, joined_quotes, joined_bodies, tag_place, value_place, joined_tag_places, joined_value_places, same_kind, same_element}
use Rattle.place_core.specs.place.LanguagePlaces.{joined_js, joined_css}
use Rattle.place_core.specs.place.Places.{both_spots, both_bare, Has, IsValid, IsValidTag, Below}
use Rattle.place_core.specs.place.LanguagePlaces.{both_senses, both_js_tails, both_css_tails, both_parts}
use Rattle.place_core.specs.declared.bare.Bare.{Bare}
use Rattle.place_core.specs.declared.body.Body.{Body}
use Rattle.place_core.specs.declared.body.Body.TheVariants as body
use Rattle.place_core.specs.declared.css.Css.{Css}
use Rattle.place_core.specs.declared.css.Css.TheVariants as css
use Rattle.place_core.specs.declared.css_tails.CssTails.{CssTails}
use Rattle.place_core.specs.declared.element.Element.{Element}
use Rattle.place_core.specs.declared.js.Js.{Js}
use Rattle.place_core.specs.declared.js.Js.TheVariants as js
use Rattle.place_core.specs.declared.js_tails.JsTails.{JsTails}
use Rattle.place_core.specs.declared.kind.Kind.{Kind}
use Rattle.place_core.specs.declared.member.Member.{Member}
use Rattle.place_core.specs.declared.member.Member.TheVariants as member
use Rattle.place_core.specs.declared.parts.Parts.{Parts}
use Rattle.place_core.specs.declared.place.Place.{Place}
use Rattle.place_core.specs.declared.place.Place.TheVariants as place
use Rattle.place_core.specs.declared.quotes.Quotes.{Quotes}
use Rattle.place_core.specs.declared.quotes.Quotes.TheVariants as quotes
use Rattle.place_core.specs.declared.senses.Senses.{Senses}
use Rattle.place_core.specs.declared.spots.Spots.{Spots}
use Rattle.place_core.specs.declared.tag_of.TagOf.{TagOf}
use Rattle.place_core.specs.declared.tag_of.TagOf.TheVariants as tag
use Rattle.place_core.specs.declared.tag_place.TagPlace.{TagPlace}
use Rattle.place_core.specs.declared.value_place.ValuePlace.{ValuePlace}
use Rattle.place_core.proofs.Semilattices.{none_some, one_value, of_some, for_map, no_map, more_of, row_value}
use Rattle.place_core.proofs.JoinParts.{elements_partial, tags_partial, js_partial, css_partial, quotes_partial, bodies_partial, bodies_Js, bodies_Css}
use Rattle.place_core.proofs.JoinMembers.{or_true}
use Rattle.place_core.proofs.Joins.{places_same, places_swapped, places_Rcdata, places_Tag, places_Value, places_Script, places_Style}

-- The shape of a place: all of it that joining does not change. It is a place itself, with empty sets and without a kind.
no_senses : Senses
no_senses = record { re = false; div = false; brace = false }

no_js_tails : JsTails
no_js_tails = record { word = false; num = false; lt = false; slash = false; plus = false; minus = false; hash = false }

no_css_tails : CssTails
no_css_tails = record { word = false; slash = false; lt = false }

no_parts : Parts
no_parts = record { start = false; opened = None; openhole = false; prequery = false; query = false; bad = false }

no_bare : Bare
no_bare = record { uq = false; unbegun = false }

no_spots : Spots
no_spots = record { name = false; before = false; inside = false; after = false }

abbrev js_shape : Js → Js
js_shape (js.Code s x) = js.Code no_senses no_js_tails
js_shape js.Dq = js.Dq
js_shape js.Sq = js.Sq
js_shape (js.Regexp x) = js.Regexp false
js_shape (js.Line s) = js.Line no_senses
js_shape (js.Block s x) = js.Block no_senses false

abbrev css_shape : Css → Css
css_shape (css.Code x) = css.Code no_css_tails
css_shape css.Dq = css.Dq
css_shape css.Sq = css.Sq
css_shape css.UrlFresh = css.UrlFresh
css_shape (css.Url s) = css.Url no_parts
css_shape (css.UrlDq s) = css.UrlDq no_parts
css_shape (css.UrlSq s) = css.UrlSq no_parts
css_shape css.UrlEnd = css.UrlEnd
css_shape (css.Comment x) = css.Comment false

abbrev quotes_shape : Quotes → Quotes
quotes_shape quotes.Dq = quotes.Dq
quotes_shape quotes.Sq = quotes.Sq
quotes_shape (quotes.Bare s) = quotes.Bare no_bare

abbrev body_shape : Body → Body
body_shape body.Plain = body.Plain
body_shape body.NoHole = body.NoHole
body_shape (body.Url s) = body.Url no_parts
body_shape (body.Js j) = body.Js (js_shape j)
body_shape (body.Css c) = body.Css (css_shape c)

abbrev tag_shape : TagPlace → TagPlace
tag_shape x = record { tag = x.tag; typed = false; spots = no_spots; kind = None }

abbrev value_shape : ValuePlace → ValuePlace
value_shape x = record { tag = x.tag; typed = false; quotes = quotes_shape x.quotes; body = body_shape x.body }

abbrev shape : Place → Place
shape place.Text = place.Text
shape place.Doctype = place.Doctype
shape (place.Comment x) = place.Comment false
shape (place.Rcdata e) = place.Rcdata e
shape (place.Tag x) = place.Tag (tag_shape x)
shape (place.Value x) = place.Value (value_shape x)
shape (place.Script j) = place.Script (js_shape j)
shape (place.Style c) = place.Style (css_shape c)
shape (place.Block x) = place.Block false

-- a join has the shape of its places
js_up : (i j : Js) → IfSome (joined_js i j) (λ k. js_shape k ≡ js_shape i)
js_up (js.Code s x) (js.Code t y) = refl
js_up js.Dq js.Dq = refl
js_up js.Sq js.Sq = refl
js_up (js.Regexp x) (js.Regexp y) = refl
js_up (js.Line s) (js.Line t) = refl
js_up (js.Block s x) (js.Block t y) = refl
js_up _ _ = tt

css_up : (i j : Css) → IfSome (joined_css i j) (λ k. css_shape k ≡ css_shape i)
css_up (css.Code x) (css.Code y) = refl
css_up css.Dq css.Dq = refl
css_up css.Sq css.Sq = refl
css_up css.UrlFresh css.UrlFresh = refl
css_up (css.Url s) (css.Url t) = refl
css_up (css.UrlDq s) (css.UrlDq t) = refl
css_up (css.UrlSq s) (css.UrlSq t) = refl
css_up css.UrlEnd css.UrlEnd = refl
css_up (css.Comment x) (css.Comment y) = refl
css_up _ _ = tt

quotes_up : (i j : Quotes) → IfSome (joined_quotes i j) (λ k. quotes_shape k ≡ quotes_shape i)
quotes_up quotes.Dq quotes.Dq = refl
quotes_up quotes.Sq quotes.Sq = refl
quotes_up (quotes.Bare s) (quotes.Bare t) = refl
quotes_up _ _ = tt

bodies_up : (i j : Body) → IfSome (joined_bodies i j) (λ k. body_shape k ≡ body_shape i)
bodies_up body.Plain body.Plain = refl
bodies_up body.NoHole body.NoHole = refl
bodies_up (body.Url s) (body.Url t) = refl
bodies_up (body.Js i) (body.Js j) = for_map body.Js (λ k. body_shape k ≡ body.Js (js_shape i)) (joined_js i j)
    (more_of (λ k. js_shape k ≡ js_shape i) (λ k. body.Js (js_shape k) ≡ body.Js (js_shape i)) (joined_js i j) (λ k h. ap body.Js h) (js_up i j))
bodies_up (body.Css i) (body.Css j) = for_map body.Css (λ k. body_shape k ≡ body.Css (css_shape i)) (joined_css i j)
    (more_of (λ k. css_shape k ≡ css_shape i) (λ k. body.Css (css_shape k) ≡ body.Css (css_shape i)) (joined_css i j) (λ k h. ap body.Css h) (css_up i j))
bodies_up _ _ = tt

if_up : (e : Element) (x : Bool) → IfSome (if x then Some e else None) (λ g. g ≡ e)
if_up e true = refl
if_up e false = tt

elements_up : (e f : Element) → IfSome (joined_elements e f) (λ g. g ≡ e)
elements_up e f = if_up e (same_element e f)

tags_up : (t u : TagOf) → IfSome (joined_tags t u) (λ v. v ≡ t)
tags_up tag.End tag.End = refl
tags_up (tag.Start e) (tag.Start f) = for_map tag.Start (λ v. v ≡ tag.Start e) (joined_elements e f)
    (more_of (λ g. g ≡ e) (λ g. tag.Start g ≡ tag.Start e) (joined_elements e f) (λ g h. ap tag.Start h) (elements_up e f))
tags_up _ _ = tt

tag_place_up : (typed : Bool) (s : Spots) (t : Option TagOf) (k : Option (Option Kind)) (u : TagOf) → IfSome t (λ v. v ≡ u)
    → IfSome (tag_place typed s t k) (λ z. tag_shape z ≡ record { tag = u; typed = false; spots = no_spots; kind = None })
tag_place_up typed s (Some t) (Some k) u h = ap (λ v. record { tag = v; typed = false; spots = no_spots; kind = None }) h
tag_place_up typed s (Some t) None u h = tt
tag_place_up typed s None k u h = tt

value_place_up : (typed : Bool) (t : Option TagOf) (q : Option Quotes) (b : Option Body) (u : TagOf) (r : Quotes) (c : Body)
    → IfSome t (λ v. v ≡ u) → IfSome q (λ k. quotes_shape k ≡ r) → IfSome b (λ k. body_shape k ≡ c)
    → IfSome (value_place typed t q b) (λ z. value_shape z ≡ record { tag = u; typed = false; quotes = r; body = c })
value_place_up typed (Some t) (Some q) (Some b) u r c h k i = rw (h, k, i) refl
value_place_up typed (Some t) (Some q) None u r c h k i = tt
value_place_up typed (Some t) None b u r c h k i = tt
value_place_up typed None q b u r c h k i = tt

shape_up : (a b : Place) → IfSome (joined a b) (λ c. shape c ≡ shape a)
shape_up place.Text place.Text = refl
shape_up place.Doctype place.Doctype = refl
shape_up (place.Comment x) (place.Comment y) = refl
shape_up (place.Rcdata e) (place.Rcdata f) = for_map place.Rcdata (λ c. shape c ≡ place.Rcdata e) (joined_elements e f)
    (more_of (λ g. g ≡ e) (λ g. place.Rcdata g ≡ place.Rcdata e) (joined_elements e f) (λ g h. ap place.Rcdata h) (elements_up e f))
shape_up (place.Tag x) (place.Tag y) = for_map place.Tag (λ c. shape c ≡ place.Tag (tag_shape x)) (joined_tag_places x y)
    (more_of (λ z. tag_shape z ≡ tag_shape x) (λ z. place.Tag (tag_shape z) ≡ place.Tag (tag_shape x)) (joined_tag_places x y) (λ z h. ap place.Tag h)
    (tag_place_up (x.typed || y.typed) (both_spots x.spots y.spots) (joined_tags x.tag y.tag) (joined_kinds x.kind y.kind) x.tag (tags_up x.tag y.tag)))
shape_up (place.Value x) (place.Value y) = for_map place.Value (λ c. shape c ≡ place.Value (value_shape x)) (joined_value_places x y)
    (more_of (λ z. value_shape z ≡ value_shape x) (λ z. place.Value (value_shape z) ≡ place.Value (value_shape x)) (joined_value_places x y) (λ z h. ap place.Value h)
    (value_place_up (x.typed || y.typed) (joined_tags x.tag y.tag) (joined_quotes x.quotes y.quotes) (joined_bodies x.body y.body)
    x.tag (quotes_shape x.quotes) (body_shape x.body) (tags_up x.tag y.tag) (quotes_up x.quotes y.quotes) (bodies_up x.body y.body)))
shape_up (place.Script i) (place.Script j) = for_map place.Script (λ c. shape c ≡ place.Script (js_shape i)) (joined_js i j)
    (more_of (λ k. js_shape k ≡ js_shape i) (λ k. place.Script (js_shape k) ≡ place.Script (js_shape i)) (joined_js i j) (λ k h. ap place.Script h) (js_up i j))
shape_up (place.Style i) (place.Style j) = for_map place.Style (λ c. shape c ≡ place.Style (css_shape i)) (joined_css i j)
    (more_of (λ k. css_shape k ≡ css_shape i) (λ k. place.Style (css_shape k) ≡ place.Style (css_shape i)) (joined_css i j) (λ k h. ap place.Style h) (css_up i j))
shape_up (place.Block x) (place.Block y) = refl
shape_up _ _ = tt

shape_left : (a b c : Place) → joined a b ≡ Some c → shape c ≡ shape a
shape_left a b c e = of_some (λ z. shape z ≡ shape a) (joined a b) c (shape_up a b) e

-- places below two of different shapes do not join
not_joined : (o : Option Place) → ((e : Place) → o ≡ Some e → ⊥) → o ≡ None
not_joined (Some e) f = absurd (f e refl)
not_joined None f = refl

rigid : (a b c d : Place) → (shape a ≡ shape b → ⊥) → joined c a ≡ Some a → joined d b ≡ Some b → joined c d ≡ None
rigid a b c d f h k = not_joined (joined c d) (λ e i. f (shape_left c a a h ∙ sym (shape_left c d e i)
    ∙ shape_left d c e (places_swapped d c ∙ i) ∙ sym (shape_left d b b k)))

-- parts of one shape join
some_none : {A : Type 0} (x : A) → Some x ≡ None → ⊥
some_none x e = none_some x (sym e)

js_apart : (i j : Js) → joined_js i j ≡ None → js_shape i ≡ js_shape j → ⊥
js_apart (js.Code s x) (js.Code t y) h e = some_none (js.Code (both_senses s t) (both_js_tails x y)) h
js_apart js.Dq js.Dq h e = some_none js.Dq h
js_apart js.Sq js.Sq h e = some_none js.Sq h
js_apart (js.Regexp x) (js.Regexp y) h e = some_none (js.Regexp (x || y)) h
js_apart (js.Line s) (js.Line t) h e = some_none (js.Line (both_senses s t)) h
js_apart (js.Block s x) (js.Block t y) h e = some_none (js.Block (both_senses s t) (x || y)) h
js_apart i j h e = absurd (none_some (js_shape j) (ap (λ z. joined_js z (js_shape j)) e ∙ js_partial.same (js_shape j)))

css_apart : (i j : Css) → joined_css i j ≡ None → css_shape i ≡ css_shape j → ⊥
css_apart (css.Code x) (css.Code y) h e = some_none (css.Code (both_css_tails x y)) h
css_apart css.Dq css.Dq h e = some_none css.Dq h
css_apart css.Sq css.Sq h e = some_none css.Sq h
css_apart css.UrlFresh css.UrlFresh h e = some_none css.UrlFresh h
css_apart (css.Url s) (css.Url t) h e = some_none (css.Url (both_parts s t)) h
css_apart (css.UrlDq s) (css.UrlDq t) h e = some_none (css.UrlDq (both_parts s t)) h
css_apart (css.UrlSq s) (css.UrlSq t) h e = some_none (css.UrlSq (both_parts s t)) h
css_apart css.UrlEnd css.UrlEnd h e = some_none css.UrlEnd h
css_apart (css.Comment x) (css.Comment y) h e = some_none (css.Comment (x || y)) h
css_apart i j h e = absurd (none_some (css_shape j) (ap (λ z. joined_css z (css_shape j)) e ∙ css_partial.same (css_shape j)))

quotes_apart : (i j : Quotes) → joined_quotes i j ≡ None → quotes_shape i ≡ quotes_shape j → ⊥
quotes_apart quotes.Dq quotes.Dq h e = some_none quotes.Dq h
quotes_apart quotes.Sq quotes.Sq h e = some_none quotes.Sq h
quotes_apart (quotes.Bare s) (quotes.Bare t) h e = some_none (quotes.Bare (both_bare s t)) h
quotes_apart i j h e = absurd (none_some (quotes_shape j) (ap (λ z. joined_quotes z (quotes_shape j)) e ∙ quotes_partial.same (quotes_shape j)))

bodies_apart : (i j : Body) → joined_bodies i j ≡ None → body_shape i ≡ body_shape j → ⊥
bodies_apart body.Plain body.Plain h e = some_none body.Plain h
bodies_apart body.NoHole body.NoHole h e = some_none body.NoHole h
bodies_apart (body.Url s) (body.Url t) h e = some_none (body.Url (both_parts s t)) h
bodies_apart (body.Js i) (body.Js j) h e = js_apart i j (no_map body.Js (joined_js i j) h) (bodies_Js (js_shape i) (js_shape j) e)
bodies_apart (body.Css i) (body.Css j) h e = css_apart i j (no_map body.Css (joined_css i j) h) (bodies_Css (css_shape i) (css_shape j) e)
bodies_apart i j h e = absurd (none_some (body_shape j) (ap (λ z. joined_bodies z (body_shape j)) e ∙ bodies_partial.same (body_shape j)))

elements_apart : (e f : Element) → joined_elements e f ≡ None → e ≡ f → ⊥
elements_apart e f h k = none_some f (sym h ∙ ap (λ z. joined_elements z f) k ∙ elements_partial.same f)

tags_apart : (t u : TagOf) → joined_tags t u ≡ None → t ≡ u → ⊥
tags_apart t u h k = none_some u (sym h ∙ ap (λ z. joined_tags z u) k ∙ tags_partial.same u)

value_apart : (typed : Bool) (t : Option TagOf) (q : Option Quotes) (b : Option Body) → value_place typed t q b ≡ None
    → (t ≡ None → ⊥) → (q ≡ None → ⊥) → (b ≡ None → ⊥) → ⊥
value_apart typed (Some t) (Some q) (Some b) h f g i = some_none (record { tag = t; typed = typed; quotes = q; body = b }) h
value_apart typed (Some t) (Some q) None h f g i = i refl
value_apart typed (Some t) None b h f g i = g refl
value_apart typed None q b h f g i = f refl

values_apart : (x y : ValuePlace) → joined_value_places x y ≡ None → value_shape x ≡ value_shape y → ⊥
values_apart x y h e = value_apart (x.typed || y.typed) (joined_tags x.tag y.tag) (joined_quotes x.quotes y.quotes) (joined_bodies x.body y.body) h
    (λ k. tags_apart x.tag y.tag k (ap (λ (z : ValuePlace). z.tag) e))
    (λ k. quotes_apart x.quotes y.quotes k (ap (λ (z : ValuePlace). z.quotes) e))
    (λ k. bodies_apart x.body y.body k (ap (λ (z : ValuePlace). z.body) e))

conflict_whole : (a b : Place) → (shape a ≡ shape b → ⊥) → AreInConflict a b member.Whole member.Whole
conflict_whole a b f = (refl, refl, λ c d v h i w k j. rigid a b c d f h k)

-- places in tags of one name, with two kinds
abbrev spot : Bool → Member
spot i = if i then member.InsideSpot else member.AfterSpot

kind_of_tag : (z : TagPlace) → IsValidTag z → (i : Bool) → Has (place.Tag z) (spot i) → is_some z.kind ≡ true
kind_of_tag z v true h = v.1 ∙ ap (λ x. x || z.spots.after) h
kind_of_tag z v false h = v.1 ∙ ap (λ x. z.spots.inside || x) h ∙ or_true z.spots.inside

no : false ≡ true → ⊥
no e = cc

spot_of : (x : TagPlace) (a b : Bool) → x.spots.inside ≡ a → x.spots.after ≡ b → (a || b) ≡ true → Has (place.Tag x) (spot a)
spot_of x true b h k e = h
spot_of x false true h k e = k
spot_of x false false h k e = absurd (no e)

if_kind : (k l : Kind) (x : Bool) → (if x then Some (Some k) else None) ≡ Some (Some l) → Some k ≡ Some l
if_kind k l true e = one_value (Some k) (Some l) e
if_kind k l false e = absurd (none_some (Some l) e)

one_kind : (k l : Option Kind) → is_some k ≡ true → is_some l ≡ true → joined_kinds k l ≡ Some l → k ≡ l
one_kind (Some k) (Some l) h i e = if_kind k l (same_kind k l) e
one_kind (Some k) None h i e = absurd (no i)
one_kind None l h i e = absurd (no h)

kind_part : (typed : Bool) (s : Spots) (t : Option TagOf) (k : Option (Option Kind)) (x : TagPlace) → tag_place typed s t k ≡ Some x → k ≡ Some x.kind
kind_part typed s (Some t) (Some k) x e = ap (λ (z : TagPlace). Some z.kind) (one_value (record { tag = t; typed = typed; spots = s; kind = k }) x e)
kind_part typed s (Some t) None x e = absurd (none_some x e)
kind_part typed s None k x e = absurd (none_some x e)

tag_below : (c : Place) (x : TagPlace) (i : Bool) → IsValid c → Below c (place.Tag x) → Has c (spot i) → is_some x.kind ≡ true
    → (z : TagPlace) × (c ≡ place.Tag z) × (z.kind ≡ x.kind)
tag_below (place.Tag z) x i v h m s = (
  z,
  refl,
  one_kind z.kind x.kind (kind_of_tag z v i m) s
      (kind_part (z.typed || x.typed) (both_spots z.spots x.spots) (joined_tags z.tag x.tag) (joined_kinds z.kind x.kind) x
      (row_value place.Tag places_Tag (joined_tag_places z x) x h)),
)
tag_below _ x i v h m s = absurd (none_some (place.Tag x) h)

two_kinds : (k l : Option Kind) → joined_kinds k l ≡ None → (is_some k ≡ true) × (is_some l ≡ true)
two_kinds None l h = absurd (some_none l h)
two_kinds (Some k) None h = absurd (some_none (Some k) h)
two_kinds (Some k) (Some l) h = (refl, refl)

no_kind : (typed : Bool) (s : Spots) (t : Option TagOf) (k : Option (Option Kind)) → k ≡ None → tag_place typed s t k ≡ None
no_kind typed s (Some t) (Some k) e = absurd (some_none k e)
no_kind typed s (Some t) None e = refl
no_kind typed s None k e = refl

kinds_none : (typed : Bool) (s : Spots) (t : Option TagOf) (k : Option (Option Kind)) (u : TagOf) → t ≡ Some u → tag_place typed s t k ≡ None → k ≡ None
kinds_none typed s (Some t) (Some k) u h e = absurd (some_none (record { tag = t; typed = typed; spots = s; kind = k }) e)
kinds_none typed s (Some t) None u h e = refl
kinds_none typed s None k u h e = absurd (none_some u h)

clash_below : (x y z u : TagPlace) (c d : Place) → joined_kinds x.kind y.kind ≡ None → c ≡ place.Tag z → z.kind ≡ x.kind → d ≡ place.Tag u → u.kind ≡ y.kind → joined c d ≡ None
clash_below x y z u c d h e f g i = ap₂ joined e g ∙ ap (option_map place.Tag)
    (no_kind (z.typed || u.typed) (both_spots z.spots u.spots) (joined_tags z.tag u.tag) (joined_kinds z.kind u.kind) (ap₂ joined_kinds f i ∙ h))

clash_conflict : (x y : TagPlace) (i j : Bool) → joined_kinds x.kind y.kind ≡ None → Has (place.Tag x) (spot i) → Has (place.Tag y) (spot j) → AreInConflict (place.Tag x) (place.Tag y) (spot i) (spot j)
clash_conflict x y i j h m n = (
  m,
  n,
  λ c d v k o w l p.
      let it : (z : TagPlace) × (c ≡ place.Tag z) × (z.kind ≡ x.kind) = tag_below c x i v k o (two_kinds x.kind y.kind h).0 in
      let at : (z : TagPlace) × (d ≡ place.Tag z) × (z.kind ≡ y.kind) = tag_below d y j w l p (two_kinds x.kind y.kind h).1 in
      clash_below x y it.0 at.0 c d h it.1 it.2 at.1 at.2,
)

kinds_conflict : (x y : TagPlace) → IsValidTag x → IsValidTag y → joined_kinds x.kind y.kind ≡ None → AreInConflict (place.Tag x) (place.Tag y) (name_shows x) (name_shows y)
kinds_conflict x y v w h = clash_conflict x y x.spots.inside y.spots.inside h
    (spot_of x x.spots.inside x.spots.after refl refl (sym v.1 ∙ (two_kinds x.kind y.kind h).0))
    (spot_of y y.spots.inside y.spots.after refl refl (sym w.1 ∙ (two_kinds x.kind y.kind h).1))

tags_conflict : (x y : TagPlace) (o : Option TagOf) → joined_tags x.tag y.tag ≡ o → IsValidTag x → IsValidTag y → joined_tag_places x y ≡ None
    → AreInConflict (place.Tag x) (place.Tag y) (tags_show o x y).0 (tags_show o x y).1
tags_conflict x y None e v w h = conflict_whole (place.Tag x) (place.Tag y)
    (λ s. tags_apart x.tag y.tag e (ap (λ (z : TagPlace). z.tag) (places_Tag (tag_shape x) (tag_shape y) s)))
tags_conflict x y (Some t) e v w h = kinds_conflict x y v w (kinds_none (x.typed || y.typed) (both_spots x.spots y.spots) (joined_tags x.tag y.tag) (joined_kinds x.kind y.kind) t e h)

pub evidence_of_conflict : (a b : Place) → IsValid a → IsValid b → joined a b ≡ None → AreInConflict a b (join_shows a b).0 (join_shows a b).1
evidence_of_conflict place.Text place.Text v w h = absurd (some_none place.Text h)
evidence_of_conflict place.Doctype place.Doctype v w h = absurd (some_none place.Doctype h)
evidence_of_conflict (place.Comment x) (place.Comment y) v w h = absurd (some_none (place.Comment (x || y)) h)
evidence_of_conflict (place.Rcdata e) (place.Rcdata f) v w h = conflict_whole (place.Rcdata e) (place.Rcdata f)
    (λ s. elements_apart e f (no_map place.Rcdata (joined_elements e f) h) (places_Rcdata e f s))
evidence_of_conflict (place.Tag x) (place.Tag y) v w h = tags_conflict x y (joined_tags x.tag y.tag) refl v w (no_map place.Tag (joined_tag_places x y) h)
evidence_of_conflict (place.Value x) (place.Value y) v w h = conflict_whole (place.Value x) (place.Value y)
    (λ s. values_apart x y (no_map place.Value (joined_value_places x y) h) (places_Value (value_shape x) (value_shape y) s))
evidence_of_conflict (place.Script i) (place.Script j) v w h = conflict_whole (place.Script i) (place.Script j)
    (λ s. js_apart i j (no_map place.Script (joined_js i j) h) (places_Script (js_shape i) (js_shape j) s))
evidence_of_conflict (place.Style i) (place.Style j) v w h = conflict_whole (place.Style i) (place.Style j)
    (λ s. css_apart i j (no_map place.Style (joined_css i j) h) (places_Style (css_shape i) (css_shape j) s))
evidence_of_conflict (place.Block x) (place.Block y) v w h = absurd (some_none (place.Block (x || y)) h)
evidence_of_conflict a b v w h = conflict_whole a b (λ s. none_some (shape b) (ap (λ z. joined z (shape b)) s ∙ places_same (shape b)))

pub the_conflict : Conflict
the_conflict a b v w h = ((join_shows a b).0, (join_shows a b).1, evidence_of_conflict a b v w h)
