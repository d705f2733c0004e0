-- The laws of joining the parts of places.
use Rattle.std.proofs.Common.{◌≡◌, ℕ, Bool, true, false, ◌||◌, ◌==◌, Option, Some, None, option_map, if◌then◌else◌, refl, sym, ap, ap₂, ◌∙◌, subst, eq-eqb, eqb-true}
use Rattle.std.specs.Prelude.{IfSome}
use Rattle.place_core.specs.place.Places.{both_spots, both_bare, same_element, same_kind}
use Rattle.place_core.specs.place.LanguagePlaces.{both_senses, both_js_tails, both_css_tails, both_prefixes, both_parts, same_prefix}
use Rattle.place_core.specs.place.Places.{joined_elements, joined_tags, joined_kinds, joined_quotes, joined_bodies, tag_place, value_place, joined_tag_places, joined_value_places}
use Rattle.place_core.specs.place.LanguagePlaces.{joined_js, joined_css}
use Rattle.place_core.proofs.Semilattices.{IsUnion, IsPartial, IsTest, none_some, one_value, row_through, row_left, row_least, of_union, both, both_unions, or_union, or_same, or_swapped, or_grouped, if_same, of_test, pairs, of_pairs, of_shape, both_some}
use Rattle.place_core.specs.declared.body.Body.{Body}
use Rattle.place_core.specs.declared.body.Body.TheVariants as body
use Rattle.place_core.specs.declared.css.Css.{Css}
use Rattle.place_core.specs.declared.css.Css.TheVariants as css
use Rattle.place_core.specs.declared.element.Element.{Element}
use Rattle.place_core.specs.declared.element.Element.TheVariants as element
use Rattle.place_core.specs.declared.js.Js.{Js}
use Rattle.place_core.specs.declared.js.Js.TheVariants as js
use Rattle.place_core.specs.declared.kind.Kind.{Kind}
use Rattle.place_core.specs.declared.kind.Kind.TheVariants as kind
use Rattle.place_core.specs.declared.prefix.Prefix.{Prefix}
use Rattle.place_core.specs.declared.prefix.Prefix.TheVariants as prefix
use Rattle.place_core.specs.declared.quotes.Quotes.{Quotes}
use Rattle.place_core.specs.declared.quotes.Quotes.TheVariants as quotes
use Rattle.place_core.specs.declared.spots.Spots.{Spots}
use Rattle.place_core.specs.declared.tag_of.TagOf.{TagOf}
use Rattle.place_core.specs.declared.tag_of.TagOf.TheVariants as tag
use Rattle.place_core.specs.declared.tag_place.TagPlace.{TagPlace}
use Rattle.place_core.specs.declared.value_place.ValuePlace.{ValuePlace}

-- sets

pub spots_union : IsUnion both_spots
spots_union = record {
  same = λ a. rw (or_same a.name, or_same a.before, or_same a.inside, or_same a.after) refl;
  swapped = λ a b. rw (or_swapped a.name b.name, or_swapped a.before b.before, or_swapped a.inside b.inside, or_swapped a.after b.after) refl;
  grouped = λ a b c. rw (or_grouped a.name b.name c.name, or_grouped a.before b.before c.before, or_grouped a.inside b.inside c.inside, or_grouped a.after b.after c.after) refl;
}

pub bare_union : IsUnion both_bare
bare_union = record {
  same = λ a. rw (or_same a.uq, or_same a.unbegun) refl;
  swapped = λ a b. rw (or_swapped a.uq b.uq, or_swapped a.unbegun b.unbegun) refl;
  grouped = λ a b c. rw (or_grouped a.uq b.uq c.uq, or_grouped a.unbegun b.unbegun c.unbegun) refl;
}

pub senses_union : IsUnion both_senses
senses_union = record {
  same = λ a. rw (or_same a.re, or_same a.div, or_same a.brace) refl;
  swapped = λ a b. rw (or_swapped a.re b.re, or_swapped a.div b.div, or_swapped a.brace b.brace) refl;
  grouped = λ a b c. rw (or_grouped a.re b.re c.re, or_grouped a.div b.div c.div, or_grouped a.brace b.brace c.brace) refl;
}

pub js_tails_union : IsUnion both_js_tails
js_tails_union = record {
  same = λ a. rw (or_same a.word, or_same a.num, or_same a.lt, or_same a.slash, or_same a.plus, or_same a.minus, or_same a.hash) refl;
  swapped = λ a b. rw (or_swapped a.word b.word, or_swapped a.num b.num, or_swapped a.lt b.lt, or_swapped a.slash b.slash, or_swapped a.plus b.plus, or_swapped a.minus b.minus, or_swapped a.hash b.hash) refl;
  grouped = λ a b c. rw (or_grouped a.word b.word c.word, or_grouped a.num b.num c.num, or_grouped a.lt b.lt c.lt, or_grouped a.slash b.slash c.slash, or_grouped a.plus b.plus c.plus, or_grouped a.minus b.minus c.minus, or_grouped a.hash b.hash c.hash) refl;
}

pub css_tails_union : IsUnion both_css_tails
css_tails_union = record {
  same = λ a. rw (or_same a.word, or_same a.slash, or_same a.lt) refl;
  swapped = λ a b. rw (or_swapped a.word b.word, or_swapped a.slash b.slash, or_swapped a.lt b.lt) refl;
  grouped = λ a b c. rw (or_grouped a.word b.word c.word, or_grouped a.slash b.slash c.slash, or_grouped a.lt b.lt c.lt) refl;
}

-- tests
no : false ≡ true → ⊥
no e = cc

number_itself : (n : ℕ) → (n == n) ≡ true
number_itself n = eq-eqb n n refl

pub prefix_itself : (p : Prefix) → same_prefix p p ≡ true
prefix_itself prefix.Off = refl
prefix_itself (prefix.Javascript n) = number_itself n
prefix_itself (prefix.Vbscript n) = number_itself n
prefix_itself (prefix.DataScheme n) = number_itself n
prefix_itself prefix.Differs = refl

pub prefix_is : (p q : Prefix) → same_prefix p q ≡ true → p ≡ q
prefix_is prefix.Off prefix.Off e = refl
prefix_is (prefix.Javascript n) (prefix.Javascript k) e = ap prefix.Javascript (eqb-true n k e)
prefix_is (prefix.Vbscript n) (prefix.Vbscript k) e = ap prefix.Vbscript (eqb-true n k e)
prefix_is (prefix.DataScheme n) (prefix.DataScheme k) e = ap prefix.DataScheme (eqb-true n k e)
prefix_is prefix.Differs prefix.Differs e = refl
prefix_is _ _ e = absurd (no e)

pub prefix_test : IsTest same_prefix
prefix_test = record { same = prefix_itself; says = prefix_is }

pub element_itself : (p : Element) → same_element p p ≡ true
element_itself element.Other = refl
element_itself element.Title = refl
element_itself element.Textarea = refl
element_itself element.Style = refl
element_itself element.Script = refl
element_itself element.DataBlock = refl

pub element_is : (p q : Element) → same_element p q ≡ true → p ≡ q
element_is element.Other element.Other e = refl
element_is element.Title element.Title e = refl
element_is element.Textarea element.Textarea e = refl
element_is element.Style element.Style e = refl
element_is element.Script element.Script e = refl
element_is element.DataBlock element.DataBlock e = refl
element_is _ _ e = absurd (no e)

pub element_test : IsTest same_element
element_test = record { same = element_itself; says = element_is }

pub kind_itself : (p : Kind) → same_kind p p ≡ true
kind_itself kind.Plain = refl
kind_itself kind.Url = refl
kind_itself kind.Script = refl
kind_itself kind.Style = refl
kind_itself kind.ScriptType = refl
kind_itself kind.NoHole = refl

pub kind_is : (p q : Kind) → same_kind p q ≡ true → p ≡ q
kind_is kind.Plain kind.Plain e = refl
kind_is kind.Url kind.Url e = refl
kind_is kind.Script kind.Script e = refl
kind_is kind.Style kind.Style e = refl
kind_is kind.ScriptType kind.ScriptType e = refl
kind_is kind.NoHole kind.NoHole e = refl
kind_is _ _ e = absurd (no e)

pub kind_test : IsTest same_kind
kind_test = record { same = kind_itself; says = kind_is }

-- prefixes: two that differ have one above them
two_prefixes : Prefix → Prefix → Prefix
two_prefixes p q = if same_prefix p q then p else prefix.Differs

if_differs : (x : Bool) → (if x then prefix.Differs else prefix.Differs) ≡ prefix.Differs
if_differs true = refl
if_differs false = refl

differs_last : (p : Prefix) (x : Bool) → same_prefix p prefix.Differs ≡ x → (if x then p else prefix.Differs) ≡ prefix.Differs
differs_last p true h = prefix_is p prefix.Differs h
differs_last p false h = refl

two_swapped : (p q : Prefix) (x y : Bool) → same_prefix p q ≡ x → same_prefix q p ≡ y → (if x then p else prefix.Differs) ≡ (if y then q else prefix.Differs)
two_swapped p q true y h k = (let e : p ≡ q = prefix_is p q h in let f : same_prefix q p ≡ true = ap (λ z. same_prefix z p) (sym e) ∙ prefix_itself p in e ∙ ap (λ z. if z then q else prefix.Differs) (sym f ∙ k))
two_swapped p q false true h k = absurd (let e : q ≡ p = prefix_is q p k in let f : same_prefix p q ≡ true = ap (λ z. same_prefix z q) (sym e) ∙ prefix_itself q in no (sym h ∙ f))
two_swapped p q false false h k = refl

two_grouped : (p q r : Prefix) (x y : Bool) → same_prefix p q ≡ x → same_prefix q r ≡ y
    → two_prefixes (if x then p else prefix.Differs) r ≡ two_prefixes p (if y then q else prefix.Differs)
unfolding two_prefixes
two_grouped p q r true true h k = (let e : p ≡ q = prefix_is p q h in let f : q ≡ r = prefix_is q r k in ap (two_prefixes p) (sym f))
two_grouped p q r true false h k = (let e : p ≡ q = prefix_is p q h in ap (λ z. two_prefixes z r) e ∙ ap (λ z. if z then q else prefix.Differs) k ∙ sym (differs_last p (same_prefix p prefix.Differs) refl))
two_grouped p q r false true h k = (let f : q ≡ r = prefix_is q r k in if_differs (same_prefix prefix.Differs r) ∙ sym (ap (λ z. if z then p else prefix.Differs) h))
two_grouped p q r false false h k = if_differs (same_prefix prefix.Differs r) ∙ sym (differs_last p (same_prefix p prefix.Differs) refl)

prefixes_same : (p : Option Prefix) → both_prefixes p p ≡ p
prefixes_same None = refl
prefixes_same (Some p) = ap (λ z. Some (if z then p else prefix.Differs)) (prefix_itself p)

prefixes_swapped : (p q : Option Prefix) → both_prefixes p q ≡ both_prefixes q p
prefixes_swapped None None = refl
prefixes_swapped None (Some q) = refl
prefixes_swapped (Some p) None = refl
prefixes_swapped (Some p) (Some q) = ap Some (two_swapped p q (same_prefix p q) (same_prefix q p) refl refl)

prefixes_grouped : (p q r : Option Prefix) → both_prefixes (both_prefixes p q) r ≡ both_prefixes p (both_prefixes q r)
unfolding two_prefixes
prefixes_grouped None q r = refl
prefixes_grouped (Some p) None r = refl
prefixes_grouped (Some p) (Some q) None = refl
prefixes_grouped (Some p) (Some q) (Some r) = ap Some (two_grouped p q r (same_prefix p q) (same_prefix q r) refl refl)

pub prefixes_union : IsUnion both_prefixes
prefixes_union = record { same = prefixes_same; swapped = prefixes_swapped; grouped = prefixes_grouped }

pub parts_union : IsUnion both_parts
parts_union = record {
  same = λ a. rw (or_same a.start, or_same a.openhole, or_same a.prequery, or_same a.query, or_same a.bad, prefixes_same a.opened) refl;
  swapped = λ a b. rw (or_swapped a.start b.start, or_swapped a.openhole b.openhole, or_swapped a.prequery b.prequery, or_swapped a.query b.query, or_swapped a.bad b.bad, prefixes_swapped a.opened b.opened) refl;
  grouped = λ a b c. rw (or_grouped a.start b.start c.start, or_grouped a.openhole b.openhole c.openhole, or_grouped a.prequery b.prequery c.prequery, or_grouped a.query b.query c.query, or_grouped a.bad b.bad c.bad, prefixes_grouped a.opened b.opened c.opened) refl;
}

-- elements and tags
pub elements_partial : IsPartial joined_elements
elements_partial = of_test same_element element_test

kinds_partial_test : IsPartial (if_same same_kind)
kinds_partial_test = of_test same_kind kind_test

pub tags_Start : (x y : _) → tag.Start x ≡ tag.Start y → x ≡ y
tags_Start x y e = cc

tags_same : (a : TagOf) → joined_tags a a ≡ Some a
tags_same tag.End = refl
tags_same (tag.Start a) = ap (option_map tag.Start) ((elements_partial).same a)

tags_swapped : (a b : TagOf) → joined_tags a b ≡ joined_tags b a
tags_swapped tag.End tag.End = refl
tags_swapped (tag.Start a) (tag.Start b) = ap (option_map tag.Start) ((elements_partial).swapped a b)
tags_swapped _ _ = refl

tags_through : (a b c : TagOf) → joined_tags a b ≡ Some b → joined_tags b c ≡ Some c → joined_tags a c ≡ Some c
tags_through tag.End tag.End tag.End h k = refl
tags_through tag.End tag.End c h k = absurd (none_some c k)
tags_through (tag.Start a) (tag.Start b) (tag.Start c) h k = row_through tag.Start tags_Start (joined_elements) (elements_partial) a b c h k
tags_through (tag.Start a) (tag.Start b) c h k = absurd (none_some c k)
tags_through _ b c h k = absurd (none_some b h)

tags_left : (a b : TagOf) → IfSome (joined_tags a b) (λ c. joined_tags a c ≡ Some c)
tags_left tag.End tag.End = refl
tags_left (tag.Start a) (tag.Start b) = row_left tag.Start (joined_elements) (elements_partial) joined_tags a b (λ c. refl)
tags_left _ _ = tt

tags_least : (d a b : TagOf) → joined_tags a d ≡ Some d → joined_tags b d ≡ Some d → (c : TagOf) × (joined_tags a b ≡ Some c) × (joined_tags c d ≡ Some d)
tags_least tag.End tag.End tag.End h k = (tag.End, refl, refl)
tags_least tag.End tag.End _ h k = absurd (none_some tag.End k)
tags_least (tag.Start d) (tag.Start a) (tag.Start b) h k = row_least tag.Start tags_Start (joined_elements) (elements_partial) joined_tags (λ a c. refl) a b d h k
tags_least (tag.Start d) (tag.Start a) _ h k = absurd (none_some (tag.Start d) k)
tags_least d _ _ h k = absurd (none_some d h)

pub tags_partial : IsPartial joined_tags
tags_partial = record {
  same = tags_same;
  swapped = tags_swapped;
  through = tags_through;
  left = tags_left;
  least = λ a b d h k. tags_least d a b h k;
}

js_Code : (x y : _ × _) → js.Code x.0 x.1 ≡ js.Code y.0 y.1 → x ≡ y
js_Code x y e = (let f : x.0 ≡ y.0 = cc in let g : x.1 ≡ y.1 = cc in ap₂ (λ s t. (s, t)) f g)

js_Regexp : (x y : _) → js.Regexp x ≡ js.Regexp y → x ≡ y
js_Regexp x y e = cc

js_Line : (x y : _) → js.Line x ≡ js.Line y → x ≡ y
js_Line x y e = cc

js_Block : (x y : _ × _) → js.Block x.0 x.1 ≡ js.Block y.0 y.1 → x ≡ y
js_Block x y e = (let f : x.0 ≡ y.0 = cc in let g : x.1 ≡ y.1 = cc in ap₂ (λ s t. (s, t)) f g)

js_same : (a : Js) → joined_js a a ≡ Some a
js_same (js.Code a a1) = ap (option_map (λ p. js.Code p.0 p.1)) ((of_union (both both_senses both_js_tails) (both_unions both_senses both_js_tails senses_union js_tails_union)).same (a, a1))
js_same js.Dq = refl
js_same js.Sq = refl
js_same (js.Regexp a) = ap (option_map js.Regexp) ((of_union ◌||◌ or_union).same a)
js_same (js.Line a) = ap (option_map js.Line) ((of_union both_senses senses_union).same a)
js_same (js.Block a a1) = ap (option_map (λ p. js.Block p.0 p.1)) ((of_union (both both_senses ◌||◌) (both_unions both_senses ◌||◌ senses_union or_union)).same (a, a1))

js_swapped : (a b : Js) → joined_js a b ≡ joined_js b a
js_swapped (js.Code a a1) (js.Code b b1) = ap (option_map (λ p. js.Code p.0 p.1)) ((of_union (both both_senses both_js_tails) (both_unions both_senses both_js_tails senses_union js_tails_union)).swapped (a, a1) (b, b1))
js_swapped js.Dq js.Dq = refl
js_swapped js.Sq js.Sq = refl
js_swapped (js.Regexp a) (js.Regexp b) = ap (option_map js.Regexp) ((of_union ◌||◌ or_union).swapped a b)
js_swapped (js.Line a) (js.Line b) = ap (option_map js.Line) ((of_union both_senses senses_union).swapped a b)
js_swapped (js.Block a a1) (js.Block b b1) = ap (option_map (λ p. js.Block p.0 p.1)) ((of_union (both both_senses ◌||◌) (both_unions both_senses ◌||◌ senses_union or_union)).swapped (a, a1) (b, b1))
js_swapped _ _ = refl

js_through : (a b c : Js) → joined_js a b ≡ Some b → joined_js b c ≡ Some c → joined_js a c ≡ Some c
js_through (js.Code a a1) (js.Code b b1) (js.Code c c1) h k = row_through (λ p. js.Code p.0 p.1) js_Code (λ a b. Some (both both_senses both_js_tails a b)) (of_union (both both_senses both_js_tails) (both_unions both_senses both_js_tails senses_union js_tails_union)) (a, a1) (b, b1) (c, c1) h k
js_through (js.Code a a1) (js.Code b b1) c h k = absurd (none_some c k)
js_through js.Dq js.Dq js.Dq h k = refl
js_through js.Dq js.Dq c h k = absurd (none_some c k)
js_through js.Sq js.Sq js.Sq h k = refl
js_through js.Sq js.Sq c h k = absurd (none_some c k)
js_through (js.Regexp a) (js.Regexp b) (js.Regexp c) h k = row_through js.Regexp js_Regexp (λ a b. Some (◌||◌ a b)) (of_union ◌||◌ or_union) a b c h k
js_through (js.Regexp a) (js.Regexp b) c h k = absurd (none_some c k)
js_through (js.Line a) (js.Line b) (js.Line c) h k = row_through js.Line js_Line (λ a b. Some (both_senses a b)) (of_union both_senses senses_union) a b c h k
js_through (js.Line a) (js.Line b) c h k = absurd (none_some c k)
js_through (js.Block a a1) (js.Block b b1) (js.Block c c1) h k = row_through (λ p. js.Block p.0 p.1) js_Block (λ a b. Some (both both_senses ◌||◌ a b)) (of_union (both both_senses ◌||◌) (both_unions both_senses ◌||◌ senses_union or_union)) (a, a1) (b, b1) (c, c1) h k
js_through (js.Block a a1) (js.Block b b1) c h k = absurd (none_some c k)
js_through _ b c h k = absurd (none_some b h)

js_left : (a b : Js) → IfSome (joined_js a b) (λ c. joined_js a c ≡ Some c)
js_left (js.Code a a1) (js.Code b b1) = row_left (λ p. js.Code p.0 p.1) (λ a b. Some (both both_senses both_js_tails a b)) (of_union (both both_senses both_js_tails) (both_unions both_senses both_js_tails senses_union js_tails_union)) joined_js (a, a1) (b, b1) (λ c. refl)
js_left js.Dq js.Dq = refl
js_left js.Sq js.Sq = refl
js_left (js.Regexp a) (js.Regexp b) = row_left js.Regexp (λ a b. Some (◌||◌ a b)) (of_union ◌||◌ or_union) joined_js a b (λ c. refl)
js_left (js.Line a) (js.Line b) = row_left js.Line (λ a b. Some (both_senses a b)) (of_union both_senses senses_union) joined_js a b (λ c. refl)
js_left (js.Block a a1) (js.Block b b1) = row_left (λ p. js.Block p.0 p.1) (λ a b. Some (both both_senses ◌||◌ a b)) (of_union (both both_senses ◌||◌) (both_unions both_senses ◌||◌ senses_union or_union)) joined_js (a, a1) (b, b1) (λ c. refl)
js_left _ _ = tt

js_least : (d a b : Js) → joined_js a d ≡ Some d → joined_js b d ≡ Some d → (c : Js) × (joined_js a b ≡ Some c) × (joined_js c d ≡ Some d)
js_least (js.Code d d1) (js.Code a a1) (js.Code b b1) h k = row_least (λ p. js.Code p.0 p.1) js_Code (λ a b. Some (both both_senses both_js_tails a b)) (of_union (both both_senses both_js_tails) (both_unions both_senses both_js_tails senses_union js_tails_union)) joined_js (λ a c. refl) (a, a1) (b, b1) (d, d1) h k
js_least (js.Code d d1) (js.Code a a1) _ h k = absurd (none_some (js.Code d d1) k)
js_least js.Dq js.Dq js.Dq h k = (js.Dq, refl, refl)
js_least js.Dq js.Dq _ h k = absurd (none_some js.Dq k)
js_least js.Sq js.Sq js.Sq h k = (js.Sq, refl, refl)
js_least js.Sq js.Sq _ h k = absurd (none_some js.Sq k)
js_least (js.Regexp d) (js.Regexp a) (js.Regexp b) h k = row_least js.Regexp js_Regexp (λ a b. Some (◌||◌ a b)) (of_union ◌||◌ or_union) joined_js (λ a c. refl) a b d h k
js_least (js.Regexp d) (js.Regexp a) _ h k = absurd (none_some (js.Regexp d) k)
js_least (js.Line d) (js.Line a) (js.Line b) h k = row_least js.Line js_Line (λ a b. Some (both_senses a b)) (of_union both_senses senses_union) joined_js (λ a c. refl) a b d h k
js_least (js.Line d) (js.Line a) _ h k = absurd (none_some (js.Line d) k)
js_least (js.Block d d1) (js.Block a a1) (js.Block b b1) h k = row_least (λ p. js.Block p.0 p.1) js_Block (λ a b. Some (both both_senses ◌||◌ a b)) (of_union (both both_senses ◌||◌) (both_unions both_senses ◌||◌ senses_union or_union)) joined_js (λ a c. refl) (a, a1) (b, b1) (d, d1) h k
js_least (js.Block d d1) (js.Block a a1) _ h k = absurd (none_some (js.Block d d1) k)
js_least d _ _ h k = absurd (none_some d h)

pub js_partial : IsPartial joined_js
js_partial = record {
  same = js_same;
  swapped = js_swapped;
  through = js_through;
  left = js_left;
  least = λ a b d h k. js_least d a b h k;
}

css_Code : (x y : _) → css.Code x ≡ css.Code y → x ≡ y
css_Code x y e = cc

css_Url : (x y : _) → css.Url x ≡ css.Url y → x ≡ y
css_Url x y e = cc

css_UrlDq : (x y : _) → css.UrlDq x ≡ css.UrlDq y → x ≡ y
css_UrlDq x y e = cc

css_UrlSq : (x y : _) → css.UrlSq x ≡ css.UrlSq y → x ≡ y
css_UrlSq x y e = cc

css_Comment : (x y : _) → css.Comment x ≡ css.Comment y → x ≡ y
css_Comment x y e = cc

css_same : (a : Css) → joined_css a a ≡ Some a
css_same (css.Code a) = ap (option_map css.Code) ((of_union both_css_tails css_tails_union).same a)
css_same css.Dq = refl
css_same css.Sq = refl
css_same css.UrlFresh = refl
css_same (css.Url a) = ap (option_map css.Url) ((of_union both_parts parts_union).same a)
css_same (css.UrlDq a) = ap (option_map css.UrlDq) ((of_union both_parts parts_union).same a)
css_same (css.UrlSq a) = ap (option_map css.UrlSq) ((of_union both_parts parts_union).same a)
css_same css.UrlEnd = refl
css_same (css.Comment a) = ap (option_map css.Comment) ((of_union ◌||◌ or_union).same a)

css_swapped : (a b : Css) → joined_css a b ≡ joined_css b a
css_swapped (css.Code a) (css.Code b) = ap (option_map css.Code) ((of_union both_css_tails css_tails_union).swapped a b)
css_swapped css.Dq css.Dq = refl
css_swapped css.Sq css.Sq = refl
css_swapped css.UrlFresh css.UrlFresh = refl
css_swapped (css.Url a) (css.Url b) = ap (option_map css.Url) ((of_union both_parts parts_union).swapped a b)
css_swapped (css.UrlDq a) (css.UrlDq b) = ap (option_map css.UrlDq) ((of_union both_parts parts_union).swapped a b)
css_swapped (css.UrlSq a) (css.UrlSq b) = ap (option_map css.UrlSq) ((of_union both_parts parts_union).swapped a b)
css_swapped css.UrlEnd css.UrlEnd = refl
css_swapped (css.Comment a) (css.Comment b) = ap (option_map css.Comment) ((of_union ◌||◌ or_union).swapped a b)
css_swapped _ _ = refl

css_through : (a b c : Css) → joined_css a b ≡ Some b → joined_css b c ≡ Some c → joined_css a c ≡ Some c
css_through (css.Code a) (css.Code b) (css.Code c) h k = row_through css.Code css_Code (λ a b. Some (both_css_tails a b)) (of_union both_css_tails css_tails_union) a b c h k
css_through (css.Code a) (css.Code b) c h k = absurd (none_some c k)
css_through css.Dq css.Dq css.Dq h k = refl
css_through css.Dq css.Dq c h k = absurd (none_some c k)
css_through css.Sq css.Sq css.Sq h k = refl
css_through css.Sq css.Sq c h k = absurd (none_some c k)
css_through css.UrlFresh css.UrlFresh css.UrlFresh h k = refl
css_through css.UrlFresh css.UrlFresh c h k = absurd (none_some c k)
css_through (css.Url a) (css.Url b) (css.Url c) h k = row_through css.Url css_Url (λ a b. Some (both_parts a b)) (of_union both_parts parts_union) a b c h k
css_through (css.Url a) (css.Url b) c h k = absurd (none_some c k)
css_through (css.UrlDq a) (css.UrlDq b) (css.UrlDq c) h k = row_through css.UrlDq css_UrlDq (λ a b. Some (both_parts a b)) (of_union both_parts parts_union) a b c h k
css_through (css.UrlDq a) (css.UrlDq b) c h k = absurd (none_some c k)
css_through (css.UrlSq a) (css.UrlSq b) (css.UrlSq c) h k = row_through css.UrlSq css_UrlSq (λ a b. Some (both_parts a b)) (of_union both_parts parts_union) a b c h k
css_through (css.UrlSq a) (css.UrlSq b) c h k = absurd (none_some c k)
css_through css.UrlEnd css.UrlEnd css.UrlEnd h k = refl
css_through css.UrlEnd css.UrlEnd c h k = absurd (none_some c k)
css_through (css.Comment a) (css.Comment b) (css.Comment c) h k = row_through css.Comment css_Comment (λ a b. Some (◌||◌ a b)) (of_union ◌||◌ or_union) a b c h k
css_through (css.Comment a) (css.Comment b) c h k = absurd (none_some c k)
css_through _ b c h k = absurd (none_some b h)

css_left : (a b : Css) → IfSome (joined_css a b) (λ c. joined_css a c ≡ Some c)
css_left (css.Code a) (css.Code b) = row_left css.Code (λ a b. Some (both_css_tails a b)) (of_union both_css_tails css_tails_union) joined_css a b (λ c. refl)
css_left css.Dq css.Dq = refl
css_left css.Sq css.Sq = refl
css_left css.UrlFresh css.UrlFresh = refl
css_left (css.Url a) (css.Url b) = row_left css.Url (λ a b. Some (both_parts a b)) (of_union both_parts parts_union) joined_css a b (λ c. refl)
css_left (css.UrlDq a) (css.UrlDq b) = row_left css.UrlDq (λ a b. Some (both_parts a b)) (of_union both_parts parts_union) joined_css a b (λ c. refl)
css_left (css.UrlSq a) (css.UrlSq b) = row_left css.UrlSq (λ a b. Some (both_parts a b)) (of_union both_parts parts_union) joined_css a b (λ c. refl)
css_left css.UrlEnd css.UrlEnd = refl
css_left (css.Comment a) (css.Comment b) = row_left css.Comment (λ a b. Some (◌||◌ a b)) (of_union ◌||◌ or_union) joined_css a b (λ c. refl)
css_left _ _ = tt

css_least : (d a b : Css) → joined_css a d ≡ Some d → joined_css b d ≡ Some d → (c : Css) × (joined_css a b ≡ Some c) × (joined_css c d ≡ Some d)
css_least (css.Code d) (css.Code a) (css.Code b) h k = row_least css.Code css_Code (λ a b. Some (both_css_tails a b)) (of_union both_css_tails css_tails_union) joined_css (λ a c. refl) a b d h k
css_least (css.Code d) (css.Code a) _ h k = absurd (none_some (css.Code d) k)
css_least css.Dq css.Dq css.Dq h k = (css.Dq, refl, refl)
css_least css.Dq css.Dq _ h k = absurd (none_some css.Dq k)
css_least css.Sq css.Sq css.Sq h k = (css.Sq, refl, refl)
css_least css.Sq css.Sq _ h k = absurd (none_some css.Sq k)
css_least css.UrlFresh css.UrlFresh css.UrlFresh h k = (css.UrlFresh, refl, refl)
css_least css.UrlFresh css.UrlFresh _ h k = absurd (none_some css.UrlFresh k)
css_least (css.Url d) (css.Url a) (css.Url b) h k = row_least css.Url css_Url (λ a b. Some (both_parts a b)) (of_union both_parts parts_union) joined_css (λ a c. refl) a b d h k
css_least (css.Url d) (css.Url a) _ h k = absurd (none_some (css.Url d) k)
css_least (css.UrlDq d) (css.UrlDq a) (css.UrlDq b) h k = row_least css.UrlDq css_UrlDq (λ a b. Some (both_parts a b)) (of_union both_parts parts_union) joined_css (λ a c. refl) a b d h k
css_least (css.UrlDq d) (css.UrlDq a) _ h k = absurd (none_some (css.UrlDq d) k)
css_least (css.UrlSq d) (css.UrlSq a) (css.UrlSq b) h k = row_least css.UrlSq css_UrlSq (λ a b. Some (both_parts a b)) (of_union both_parts parts_union) joined_css (λ a c. refl) a b d h k
css_least (css.UrlSq d) (css.UrlSq a) _ h k = absurd (none_some (css.UrlSq d) k)
css_least css.UrlEnd css.UrlEnd css.UrlEnd h k = (css.UrlEnd, refl, refl)
css_least css.UrlEnd css.UrlEnd _ h k = absurd (none_some css.UrlEnd k)
css_least (css.Comment d) (css.Comment a) (css.Comment b) h k = row_least css.Comment css_Comment (λ a b. Some (◌||◌ a b)) (of_union ◌||◌ or_union) joined_css (λ a c. refl) a b d h k
css_least (css.Comment d) (css.Comment a) _ h k = absurd (none_some (css.Comment d) k)
css_least d _ _ h k = absurd (none_some d h)

pub css_partial : IsPartial joined_css
css_partial = record {
  same = css_same;
  swapped = css_swapped;
  through = css_through;
  left = css_left;
  least = λ a b d h k. css_least d a b h k;
}

quotes_Bare : (x y : _) → quotes.Bare x ≡ quotes.Bare y → x ≡ y
quotes_Bare x y e = cc

quotes_same : (a : Quotes) → joined_quotes a a ≡ Some a
quotes_same quotes.Dq = refl
quotes_same quotes.Sq = refl
quotes_same (quotes.Bare a) = ap (option_map quotes.Bare) ((of_union both_bare bare_union).same a)

quotes_swapped : (a b : Quotes) → joined_quotes a b ≡ joined_quotes b a
quotes_swapped quotes.Dq quotes.Dq = refl
quotes_swapped quotes.Sq quotes.Sq = refl
quotes_swapped (quotes.Bare a) (quotes.Bare b) = ap (option_map quotes.Bare) ((of_union both_bare bare_union).swapped a b)
quotes_swapped _ _ = refl

quotes_through : (a b c : Quotes) → joined_quotes a b ≡ Some b → joined_quotes b c ≡ Some c → joined_quotes a c ≡ Some c
quotes_through quotes.Dq quotes.Dq quotes.Dq h k = refl
quotes_through quotes.Dq quotes.Dq c h k = absurd (none_some c k)
quotes_through quotes.Sq quotes.Sq quotes.Sq h k = refl
quotes_through quotes.Sq quotes.Sq c h k = absurd (none_some c k)
quotes_through (quotes.Bare a) (quotes.Bare b) (quotes.Bare c) h k = row_through quotes.Bare quotes_Bare (λ a b. Some (both_bare a b)) (of_union both_bare bare_union) a b c h k
quotes_through (quotes.Bare a) (quotes.Bare b) c h k = absurd (none_some c k)
quotes_through _ b c h k = absurd (none_some b h)

quotes_left : (a b : Quotes) → IfSome (joined_quotes a b) (λ c. joined_quotes a c ≡ Some c)
quotes_left quotes.Dq quotes.Dq = refl
quotes_left quotes.Sq quotes.Sq = refl
quotes_left (quotes.Bare a) (quotes.Bare b) = row_left quotes.Bare (λ a b. Some (both_bare a b)) (of_union both_bare bare_union) joined_quotes a b (λ c. refl)
quotes_left _ _ = tt

quotes_least : (d a b : Quotes) → joined_quotes a d ≡ Some d → joined_quotes b d ≡ Some d → (c : Quotes) × (joined_quotes a b ≡ Some c) × (joined_quotes c d ≡ Some d)
quotes_least quotes.Dq quotes.Dq quotes.Dq h k = (quotes.Dq, refl, refl)
quotes_least quotes.Dq quotes.Dq _ h k = absurd (none_some quotes.Dq k)
quotes_least quotes.Sq quotes.Sq quotes.Sq h k = (quotes.Sq, refl, refl)
quotes_least quotes.Sq quotes.Sq _ h k = absurd (none_some quotes.Sq k)
quotes_least (quotes.Bare d) (quotes.Bare a) (quotes.Bare b) h k = row_least quotes.Bare quotes_Bare (λ a b. Some (both_bare a b)) (of_union both_bare bare_union) joined_quotes (λ a c. refl) a b d h k
quotes_least (quotes.Bare d) (quotes.Bare a) _ h k = absurd (none_some (quotes.Bare d) k)
quotes_least d _ _ h k = absurd (none_some d h)

pub quotes_partial : IsPartial joined_quotes
quotes_partial = record {
  same = quotes_same;
  swapped = quotes_swapped;
  through = quotes_through;
  left = quotes_left;
  least = λ a b d h k. quotes_least d a b h k;
}

bodies_Url : (x y : _) → body.Url x ≡ body.Url y → x ≡ y
bodies_Url x y e = cc

pub bodies_Js : (x y : _) → body.Js x ≡ body.Js y → x ≡ y
bodies_Js x y e = cc

pub bodies_Css : (x y : _) → body.Css x ≡ body.Css y → x ≡ y
bodies_Css x y e = cc

bodies_same : (a : Body) → joined_bodies a a ≡ Some a
bodies_same body.Plain = refl
bodies_same body.NoHole = refl
bodies_same (body.Url a) = ap (option_map body.Url) ((of_union both_parts parts_union).same a)
bodies_same (body.Js a) = ap (option_map body.Js) ((js_partial).same a)
bodies_same (body.Css a) = ap (option_map body.Css) ((css_partial).same a)

bodies_swapped : (a b : Body) → joined_bodies a b ≡ joined_bodies b a
bodies_swapped body.Plain body.Plain = refl
bodies_swapped body.NoHole body.NoHole = refl
bodies_swapped (body.Url a) (body.Url b) = ap (option_map body.Url) ((of_union both_parts parts_union).swapped a b)
bodies_swapped (body.Js a) (body.Js b) = ap (option_map body.Js) ((js_partial).swapped a b)
bodies_swapped (body.Css a) (body.Css b) = ap (option_map body.Css) ((css_partial).swapped a b)
bodies_swapped _ _ = refl

bodies_through : (a b c : Body) → joined_bodies a b ≡ Some b → joined_bodies b c ≡ Some c → joined_bodies a c ≡ Some c
bodies_through body.Plain body.Plain body.Plain h k = refl
bodies_through body.Plain body.Plain c h k = absurd (none_some c k)
bodies_through body.NoHole body.NoHole body.NoHole h k = refl
bodies_through body.NoHole body.NoHole c h k = absurd (none_some c k)
bodies_through (body.Url a) (body.Url b) (body.Url c) h k = row_through body.Url bodies_Url (λ a b. Some (both_parts a b)) (of_union both_parts parts_union) a b c h k
bodies_through (body.Url a) (body.Url b) c h k = absurd (none_some c k)
bodies_through (body.Js a) (body.Js b) (body.Js c) h k = row_through body.Js bodies_Js (joined_js) (js_partial) a b c h k
bodies_through (body.Js a) (body.Js b) c h k = absurd (none_some c k)
bodies_through (body.Css a) (body.Css b) (body.Css c) h k = row_through body.Css bodies_Css (joined_css) (css_partial) a b c h k
bodies_through (body.Css a) (body.Css b) c h k = absurd (none_some c k)
bodies_through _ b c h k = absurd (none_some b h)

bodies_left : (a b : Body) → IfSome (joined_bodies a b) (λ c. joined_bodies a c ≡ Some c)
bodies_left body.Plain body.Plain = refl
bodies_left body.NoHole body.NoHole = refl
bodies_left (body.Url a) (body.Url b) = row_left body.Url (λ a b. Some (both_parts a b)) (of_union both_parts parts_union) joined_bodies a b (λ c. refl)
bodies_left (body.Js a) (body.Js b) = row_left body.Js (joined_js) (js_partial) joined_bodies a b (λ c. refl)
bodies_left (body.Css a) (body.Css b) = row_left body.Css (joined_css) (css_partial) joined_bodies a b (λ c. refl)
bodies_left _ _ = tt

bodies_least : (d a b : Body) → joined_bodies a d ≡ Some d → joined_bodies b d ≡ Some d → (c : Body) × (joined_bodies a b ≡ Some c) × (joined_bodies c d ≡ Some d)
bodies_least body.Plain body.Plain body.Plain h k = (body.Plain, refl, refl)
bodies_least body.Plain body.Plain _ h k = absurd (none_some body.Plain k)
bodies_least body.NoHole body.NoHole body.NoHole h k = (body.NoHole, refl, refl)
bodies_least body.NoHole body.NoHole _ h k = absurd (none_some body.NoHole k)
bodies_least (body.Url d) (body.Url a) (body.Url b) h k = row_least body.Url bodies_Url (λ a b. Some (both_parts a b)) (of_union both_parts parts_union) joined_bodies (λ a c. refl) a b d h k
bodies_least (body.Url d) (body.Url a) _ h k = absurd (none_some (body.Url d) k)
bodies_least (body.Js d) (body.Js a) (body.Js b) h k = row_least body.Js bodies_Js (joined_js) (js_partial) joined_bodies (λ a c. refl) a b d h k
bodies_least (body.Js d) (body.Js a) _ h k = absurd (none_some (body.Js d) k)
bodies_least (body.Css d) (body.Css a) (body.Css b) h k = row_least body.Css bodies_Css (joined_css) (css_partial) joined_bodies (λ a c. refl) a b d h k
bodies_least (body.Css d) (body.Css a) _ h k = absurd (none_some (body.Css d) k)
bodies_least d _ _ h k = absurd (none_some d h)

pub bodies_partial : IsPartial joined_bodies
bodies_partial = record {
  same = bodies_same;
  swapped = bodies_swapped;
  through = bodies_through;
  left = bodies_left;
  least = λ a b d h k. bodies_least d a b h k;
}

-- kinds: one joins none
some_kind : (x y : Kind) → Some x ≡ Some y → x ≡ y
some_kind x y e = one_value x y e

test_map : (k l : Kind) (x : Bool) → (if x then Some (Some k) else None) ≡ option_map Some (if x then Some k else None)
test_map k l true = refl
test_map k l false = refl

kinds_map : (k l : Kind) → joined_kinds (Some k) (Some l) ≡ option_map Some (if_same same_kind k l)
kinds_map k l = test_map k l (same_kind k l)

kinds_same : (a : Option Kind) → joined_kinds a a ≡ Some a
kinds_same None = refl
kinds_same (Some k) = kinds_map k k ∙ ap (option_map Some) (kinds_partial_test.same k)

kinds_swapped : (a b : Option Kind) → joined_kinds a b ≡ joined_kinds b a
kinds_swapped None None = refl
kinds_swapped None (Some l) = refl
kinds_swapped (Some k) None = refl
kinds_swapped (Some k) (Some l) = kinds_map k l ∙ ap (option_map Some) (kinds_partial_test.swapped k l) ∙ sym (kinds_map l k)

kinds_through : (a b c : Option Kind) → joined_kinds a b ≡ Some b → joined_kinds b c ≡ Some c → joined_kinds a c ≡ Some c
kinds_through None b c h k = refl
kinds_through (Some a) None c h k = absurd (let e : Some a ≡ None = one_value (Some a) None h in cc)
kinds_through (Some a) (Some b) None h k = absurd (let e : Some b ≡ None = one_value (Some b) None k in cc)
kinds_through (Some a) (Some b) (Some c) h k = kinds_map a c ∙ row_through Some some_kind (if_same same_kind) kinds_partial_test a b c (sym (kinds_map a b) ∙ h) (sym (kinds_map b c) ∙ k)

kinds_left : (a b : Option Kind) → IfSome (joined_kinds a b) (λ c. joined_kinds a c ≡ Some c)
kinds_left None b = refl
kinds_left (Some a) None = kinds_same (Some a)
kinds_left (Some a) (Some b) = subst (λ o. IfSome o (λ c. joined_kinds (Some a) c ≡ Some c)) (sym (kinds_map a b))
    (row_left Some (if_same same_kind) kinds_partial_test joined_kinds a b (kinds_map a))

kinds_least : (a b d : Option Kind) → joined_kinds a d ≡ Some d → joined_kinds b d ≡ Some d → (c : Option Kind) × (joined_kinds a b ≡ Some c) × (joined_kinds c d ≡ Some d)
kinds_least None b d h k = (b, refl, k)
kinds_least (Some a) None d h k = (Some a, refl, h)
kinds_least (Some a) (Some b) None h k = absurd (let e : Some a ≡ None = one_value (Some a) None h in cc)
kinds_least (Some a) (Some b) (Some d) h k =
    (let it : (c : Option Kind) × (option_map Some (if_same same_kind a b) ≡ Some c) × (joined_kinds c (Some d) ≡ Some (Some d)) =
    row_least Some some_kind (if_same same_kind) kinds_partial_test joined_kinds kinds_map a b d (sym (kinds_map a d) ∙ h) (sym (kinds_map b d) ∙ k)
    in (it.0, kinds_map a b ∙ it.1, it.2))

pub kinds_partial : IsPartial joined_kinds
kinds_partial = record { same = kinds_same; swapped = kinds_swapped; through = kinds_through; left = kinds_left; least = kinds_least }

-- places in tags and in values
flags_partial : IsPartial (λ (a b : Bool). Some (a || b))
flags_partial = of_union ◌||◌ or_union

spots_partial : IsPartial (λ (a b : Spots). Some (both_spots a b))
spots_partial = of_union both_spots spots_union

made_tag : (Bool × Spots) × (TagOf × Option Kind) → TagPlace
made_tag p = record { tag = p.1.0; typed = p.0.0; spots = p.0.1; kind = p.1.1 }

tag_parts : TagPlace → (Bool × Spots) × (TagOf × Option Kind)
tag_parts x = ((x.typed, x.spots), (x.tag, x.kind))

tag_made : (typed : Bool) (s : Spots) (t : Option TagOf) (k : Option (Option Kind)) → tag_place typed s t k ≡ option_map made_tag (both_some (Some (typed, s)) (both_some t k))
unfolding made_tag
tag_made typed s (Some t) (Some k) = refl
tag_made typed s (Some t) None = refl
tag_made typed s None k = refl

pub tag_places_partial : IsPartial joined_tag_places
unfolding made_tag tag_parts
tag_places_partial = of_shape made_tag tag_parts (λ b. refl) (λ a. refl)
    (pairs (pairs (λ (a b : Bool). Some (a || b)) (λ (a b : Spots). Some (both_spots a b))) (pairs joined_tags joined_kinds)) joined_tag_places
    (λ x y. tag_made (x.typed || y.typed) (both_spots x.spots y.spots) (joined_tags x.tag y.tag) (joined_kinds x.kind y.kind))
    (of_pairs (pairs (λ (a b : Bool). Some (a || b)) (λ (a b : Spots). Some (both_spots a b))) (pairs joined_tags joined_kinds)
    (of_pairs (λ (a b : Bool). Some (a || b)) (λ (a b : Spots). Some (both_spots a b)) flags_partial spots_partial)
    (of_pairs joined_tags joined_kinds tags_partial kinds_partial))

made_value : (Bool × TagOf) × (Quotes × Body) → ValuePlace
made_value p = record { tag = p.0.1; typed = p.0.0; quotes = p.1.0; body = p.1.1 }

value_parts : ValuePlace → (Bool × TagOf) × (Quotes × Body)
value_parts x = ((x.typed, x.tag), (x.quotes, x.body))

value_made : (typed : Bool) (t : Option TagOf) (q : Option Quotes) (b : Option Body) → value_place typed t q b ≡ option_map made_value (both_some (both_some (Some typed) t) (both_some q b))
unfolding made_value
value_made typed (Some t) (Some q) (Some b) = refl
value_made typed (Some t) (Some q) None = refl
value_made typed (Some t) None b = refl
value_made typed None q b = refl

pub value_places_partial : IsPartial joined_value_places
unfolding made_value value_parts
value_places_partial = of_shape made_value value_parts (λ b. refl) (λ a. refl)
    (pairs (pairs (λ (a b : Bool). Some (a || b)) joined_tags) (pairs joined_quotes joined_bodies)) joined_value_places
    (λ x y. value_made (x.typed || y.typed) (joined_tags x.tag y.tag) (joined_quotes x.quotes y.quotes) (joined_bodies x.body y.body))
    (of_pairs (pairs (λ (a b : Bool). Some (a || b)) joined_tags) (pairs joined_quotes joined_bodies)
    (of_pairs (λ (a b : Bool). Some (a || b)) joined_tags flags_partial tags_partial)
    (of_pairs joined_quotes joined_bodies quotes_partial bodies_partial))
