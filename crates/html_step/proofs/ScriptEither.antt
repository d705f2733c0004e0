-- The path on which it is not known what a slash would be, from a path in a script where a text begins: its place, by the place of that path;
-- and its scan state, below one with such a path.
use Rattle.std.proofs.Common.{◌≡◌, ℕ, Bool, true, false, ◌&&◌, ◌||◌, List, [], ◌∷◌, Option, Some, None, option_map, if◌then◌else◌, bytes_eq, codes, refl, sym, ap, ◌∙◌, subst, inr}
use Rattle.js_lexer.specs.Refusals.{is_cut_markup}
use Rattle.js_lexer.specs.Spots.{NoTail, LessTail, HashTail, MinusTail, Spot, CodeSpot, spot_at, tail_of, unless_within}
use Rattle.js_lexer.specs.States.{At, Code, Word, Number, Pluses, Minuses, Slash, LineComment, BlockComment, InString, InRegexp, InTemplate, TooDeep, Trail, ScriptState}
use Rattle.js_lexer.specs.Steps.{sense_if_odd}
use Rattle.js_lexer.specs.Trails.{is_empty}
use Rattle.js_lexer.specs.declared.sense.Sense.{Sense}
use Rattle.js_lexer.specs.declared.sense.Sense.TheVariants as sense
use Rattle.js_step.specs.ScriptEvidence.{script_with_brace}
use Rattle.js_step.specs.ScriptOrigins.{script_set_has}
use Rattle.js_step.specs.ScriptScanOrder.{ScriptScanBelow, differ_within}
use Rattle.js_step.specs.ScriptScans.{script_no_senses, script_one_sense, script_scan_start}
use Rattle.js_step.specs.ScriptSetLaws.{keeps_block, keeps_code, keeps_line}
use Rattle.place_core.specs.page.References.{Reference, Closed, Open}
use Rattle.place_core.specs.page.States.{LexState, AttributeValue, InContent, InLanguage, Pending, Nothing, PendingLess, LessAtCut, PendingName, PendingBang, PendingBangDash, PendingOpening}
use Rattle.place_core.specs.page.Tags.{Tag, Quoting, DoubleQuoted, SingleQuoted, Unquoted, ValueOf, ValueState, OfScript}
use Rattle.place_core.specs.place.LanguagePlaces.{both_js_tails, both_senses, joined_js}
use Rattle.place_core.specs.place.Membership.{IsIn}
use Rattle.place_core.specs.place.PathPairs.{either_slash, either_slash_markup, either_slash_script, either_slash_trail, sense_at_text, with_either_slash}
use Rattle.place_core.specs.place.Places.{Below, joined_bodies}
use Rattle.place_core.specs.place.ScriptParts.{is_trail_of_cut, may_begin_text_at, script_js, script_no_tails, script_place, script_senses, script_tails}
use Rattle.place_core.specs.place.StatePlaces.{placed, quotes_at, value_spot}
use Rattle.place_core.specs.declared.body.Body.{Body}
use Rattle.place_core.specs.declared.body.Body.TheVariants as body
use Rattle.place_core.specs.declared.element.Element.{Element}
use Rattle.place_core.specs.declared.element.Element.TheVariants as element
use Rattle.place_core.specs.declared.js.Js.{Js}
use Rattle.place_core.specs.declared.js.Js.TheVariants as js
use Rattle.place_core.specs.declared.js_tails.JsTails.{JsTails}
use Rattle.place_core.specs.declared.member.Member.TheVariants as member
use Rattle.place_core.specs.declared.place.Place.{Place}
use Rattle.place_core.specs.declared.place.Place.TheVariants as place
use Rattle.place_core.specs.declared.senses.Senses.{Senses}
use Rattle.place_core.specs.declared.value_place.ValuePlace.{ValuePlace}
use Rattle.place_core.proofs.Semilattices.{none_some, one_value}
use Rattle.html_step.proofs.JsPlaces.{js-below-place}
use Rattle.html_step.proofs.PlaceParts.{ValueBelow, below-value}
use Rattle.html_step.proofs.ScanOrder.{HasBegun}
use Rattle.html_step.proofs.ScriptOrder.{js-below}

no : false ≡ true → ⊥
no e = cc

-- what a slash would be at the place of a script; elsewhere it is a part of a lexeme
abbrev pub js_senses : Js → Senses
js_senses (js.Code s x) = s
js_senses (js.Line s) = s
js_senses (js.Block s star) = s
js_senses j = script_no_senses

abbrev pub KeepsJs : Js → Type 0
KeepsJs (js.Code s x) = Unit {0}
KeepsJs (js.Line s) = Unit {0}
KeepsJs (js.Block s star) = Unit {0}
KeepsJs j = ⊥

-- the place of the path on which it is not known
abbrev pub either_tails : JsTails → JsTails
either_tails x = record { word = false; num = false; lt = x.lt; slash = false; plus = false; minus = false; hash = x.hash }

abbrev pub either_js : Js → Js
either_js (js.Code s x) = js.Code (script_senses sense.Brace) (either_tails x)
either_js (js.Line s) = js.Line (script_senses sense.Brace)
either_js (js.Block s star) = js.Block (script_senses sense.Brace) star
either_js j = j

abbrev pub with_js : ValuePlace → Js → ValuePlace
with_js v j = record { tag = v.tag; typed = v.typed; quotes = v.quotes; body = body.Js j }

-- Where a path stands, by its state.
abbrev EitherSpot : At → Trail → Sense → Spot → Type 0
EitherSpot a t x p =
    (may_begin_text_at (with_either_slash a) (either_slash_markup a t.markup) ≡ true)
    × (option_map script_place (spot_at (with_either_slash a) (either_slash_trail a t)) ≡ Some (either_js (script_place p)))
    × (js_senses (script_place p) ≡ script_senses x) × KeepsJs (script_place p)

code-empty : (m : List ℕ) → is_empty m ≡ true
    → (may_begin_text_at (Code sense.Brace) m ≡ true)
    × (option_map script_place (unless_within (is_cut_markup m) (CodeSpot sense.Brace (tail_of m))) ≡ Some (js.Code (script_senses sense.Brace) script_no_tails))
code-empty [] h = (refl, refl)
code-empty (x ∷ xs) h = absurd (no h)

within-some : (x : Bool) (p q : Spot) → unless_within x p ≡ Some q → (x ≡ false) × (p ≡ q)
within-some false p q e = (refl, one_value p q e)
within-some true p q e = absurd (none_some q e)

tails-by : (x y : Bool) → either_tails (script_tails (if x then LessTail else (if y then HashTail else NoTail)))
    ≡ script_tails (if x then LessTail else (if y then HashTail else NoTail))
tails-by true y = refl
tails-by false true = refl
tails-by false false = refl

tails-kept : (m : List ℕ) → either_tails (script_tails (tail_of m)) ≡ script_tails (tail_of m)
tails-kept m = tails-by (bytes_eq m (codes "<")) (bytes_eq m (codes "#"))

code-spot : (s : Sense) (t : Trail) (x : Sense) (p : Spot) → may_begin_text_at (Code s) t.markup ≡ true → spot_at (Code s) t ≡ Some p → s ≡ x → EitherSpot (Code s) t x p
code-spot s t x p h e i =
    let w = within-some (is_cut_markup t.markup) (CodeSpot s (tail_of t.markup)) p e in
    subst (EitherSpot (Code s) t x) w.1 (
      h,
      ap (λ (z : Bool). option_map script_place (unless_within z (CodeSpot sense.Brace (tail_of t.markup)))) w.0
          ∙ ap (λ (z : JsTails). Some (js.Code (script_senses sense.Brace) z)) (sym (tails-kept t.markup)),
      ap script_senses i,
      tt,
    )

minus-spot : (odd : Bool) (t : Trail) (x : Sense) (p : Spot) → spot_at (Minuses odd) t ≡ Some p → sense_if_odd odd ≡ x → EitherSpot (Minuses odd) t x p
minus-spot odd t x p e i =
    subst (EitherSpot (Minuses odd) t x) (within-some (is_cut_markup t.markup) (CodeSpot (sense_if_odd odd) MinusTail) p e).1
    (refl, refl, ap script_senses i, tt)

pub either-spot : (a : At) (t : Trail) (x : Sense) (p : Spot) → may_begin_text_at a t.markup ≡ true → spot_at a t ≡ Some p → sense_at_text a ≡ Some x → EitherSpot a t x p
either-spot (Code s) t x p h e i = code-spot s t x p h e (one_value s x i)
either-spot (Word w) t x p h e i = (let c = code-empty t.markup h in subst (EitherSpot (Word w) t x) (one_value _ p e) (c.0, c.1, ap script_senses (one_value _ x i), tt))
either-spot Number t x p h e i = (let c = code-empty t.markup h in subst (EitherSpot Number t x) (one_value _ p e) (c.0, c.1, ap script_senses (one_value _ x i), tt))
either-spot (Pluses odd) t x p h e i = (let c = code-empty t.markup h in subst (EitherSpot (Pluses odd) t x) (one_value _ p e) (c.0, c.1, ap script_senses (one_value _ x i), tt))
either-spot (Minuses odd) t x p h e i = minus-spot odd t x p e (one_value _ x i)
either-spot (Slash sense.Re) t x p h e i = absurd (none_some x i)
either-spot (Slash sense.Div) t x p h e i =
    (let c = code-empty t.markup h in subst (EitherSpot (Slash sense.Div) t x) (one_value _ p e) (c.0, c.1, ap script_senses (one_value _ x i), tt))
either-spot (Slash sense.Brace) t x p h e i = absurd (none_some p e)
either-spot (LineComment s) t x p h e i = subst (EitherSpot (LineComment s) t x) (one_value _ p e) (h, refl, ap script_senses (one_value s x i), tt)
either-spot (BlockComment s star) t x p h e i = subst (EitherSpot (BlockComment s star) t x) (one_value _ p e) (h, refl, ap script_senses (one_value s x i), tt)
either-spot (InString q z) t x p h e i = absurd (none_some x i)
either-spot (InRegexp k z) t x p h e i = absurd (none_some x i)
either-spot (InTemplate z d) t x p h e i = absurd (none_some x i)
either-spot TooDeep t x p h e i = absurd (none_some x i)

abbrev js_by : Bool → Bool → Bool → Option Spot → Option Js
js_by x y z o = if x && y then option_map script_place (if z then o else None) else None

js-from : (x y z : Bool) (o : Option Spot) (c : Js) → js_by x y z o ≡ Some c
    → (x ≡ true) × (y ≡ true) × (z ≡ true) × ((p : Spot) × (o ≡ Some p) × (script_place p ≡ c))
js-from true true true (Some p) c e = (refl, refl, refl, (p, refl, one_value (script_place p) c e))
js-from true true true None c e = absurd (none_some c e)
js-from true true false o c e = absurd (none_some c e)
js-from true false z o c e = absurd (none_some c e)
js-from false y z o c e = absurd (none_some c e)

js-to : (x y z : Bool) (o : Option Spot) (i : Js) → x ≡ true → y ≡ true → z ≡ true → option_map script_place o ≡ Some i → js_by x y z o ≡ Some i
js-to true true true (Some p) i a b c e = e
js-to true true true None i a b c e = absurd (none_some i e)
js-to true true false o i a b c e = absurd (no c)
js-to true false z o i a b c e = absurd (no b)
js-to false y z o i a b c e = absurd (no a)

pub record EitherScript (v : ScriptState) (x : Sense) (c : Js) : Type 0 where
  pub stands : script_js (either_slash_script v) ≡ Some (either_js c)
  pub senses : js_senses c ≡ script_senses x
  pub keeps : KeepsJs c

pub either-script : (v : ScriptState) (x : Sense) (c : Js) → script_js v ≡ Some c → sense_at_text v.at ≡ Some x → EitherScript v x c
either-script v x c e i =
    let d = js-from (is_trail_of_cut v.trail) (may_begin_text_at v.at v.trail.markup) (is_empty v.literals && is_empty v.held) (spot_at v.at v.trail) c e in
    let p = d.3.0 in
    let s = either-spot v.at v.trail x p d.1 d.3.1 i in
    subst (EitherScript v x) d.3.2
    (record {
      stands = js-to (is_trail_of_cut v.trail) (may_begin_text_at (with_either_slash v.at) (either_slash_markup v.at v.trail.markup))
          (is_empty v.literals && is_empty v.held) (spot_at (with_either_slash v.at) (either_slash_trail v.at v.trail)) (either_js (script_place p)) d.0 s.0 d.2 s.1;
      senses = s.2;
      keeps = s.3;
    })

-- Its scan state where a text begins.
code-senses : (s t : Senses) (x y : JsTails) → Some (js.Code s x) ≡ Some (js.Code t y) → s ≡ t
code-senses s t x y e = cc

code-tails : (s t : Senses) (x y : JsTails) → Some (js.Code s x) ≡ Some (js.Code t y) → x ≡ y
code-tails s t x y e = cc

block-star : (s t : Senses) (x y : Bool) → Some (js.Block s x) ≡ Some (js.Block t y) → x ≡ y
block-star s t x y e = cc

tails-under : (x y : JsTails) → both_js_tails x y ≡ y → both_js_tails (either_tails x) y ≡ y
tails-under x y h = rw (ap (λ (z : JsTails). z.lt) h, ap (λ (z : JsTails). z.hash) h) refl

pub either-below : (c j : Js) → KeepsJs c → joined_js c j ≡ Some j → ScriptScanBelow (script_scan_start (either_js c)) (script_with_brace (script_scan_start j))
either-below (js.Code s x) (js.Code t y) k h = record {
  some = refl;
  senses = refl;
  before = tails-under x y (code-tails (both_senses s t) t (both_js_tails x y) y h);
  star = refl;
  state = refl;
  apart = inr (refl, differ_within (Code (script_one_sense t)) [] (keeps_code (script_one_sense t)));
}
either-below (js.Line s) (js.Line t) k h = record {
  some = refl;
  senses = refl;
  before = refl;
  star = refl;
  state = refl;
  apart = inr (refl, differ_within (LineComment (script_one_sense t)) [] (keeps_line (script_one_sense t)));
}
either-below (js.Block s x) (js.Block t y) k h = record {
  some = refl;
  senses = refl;
  before = refl;
  star = block-star (both_senses s t) t (x || y) y h;
  state = refl;
  apart = inr (refl, differ_within (BlockComment (script_one_sense t) false) [] (keeps_block (script_one_sense t) false));
}
either-below (js.Code s x) j k h = absurd (none_some j h)
either-below (js.Line s) j k h = absurd (none_some j h)
either-below (js.Block s x) j k h = absurd (none_some j h)
either-below js.Dq j k h = absurd k
either-below js.Sq j k h = absurd k
either-below (js.Regexp x) j k h = absurd k

pub either-has-brace : (c : Js) → KeepsJs c → script_set_has (script_scan_start (either_js c)) member.SenseBrace ≡ true
either-has-brace (js.Code s x) k = refl
either-has-brace (js.Line s) k = refl
either-has-brace (js.Block s x) k = refl
either-has-brace js.Dq k = absurd k
either-has-brace js.Sq k = absurd k
either-has-brace (js.Regexp x) k = absurd k

-- At a place that is above the one of the path.
pub record EitherPath (p : Place) (s : LexState ValueState) (x : Sense) : Type 0 where
  pub own : ValuePlace
  pub mine : Js
  pub above : ValuePlace
  pub all : Js
  pub is : p ≡ place.Value above
  pub script : above.body ≡ body.Js all
  pub own_script : own.body ≡ body.Js mine
  pub begun : HasBegun own.quotes
  pub below : ValueBelow own above
  pub in_order : joined_js mine all ≡ Some all
  pub keeps : KeepsJs mine
  pub senses : js_senses mine ≡ script_senses x
  pub stands : placed (either_slash s) ≡ Some (place.Value (with_js own (either_js mine)))

pub above-value : (u : ValuePlace) (p : Place) → Below (place.Value u) p → (w : ValuePlace) × (p ≡ place.Value w)
above-value u (place.Value w) h = (w, refl)
above-value u place.Text h = absurd (none_some place.Text h)
above-value u place.Doctype h = absurd (none_some place.Doctype h)
above-value u (place.Comment x) h = absurd (none_some (place.Comment x) h)
above-value u (place.Rcdata x) h = absurd (none_some (place.Rcdata x) h)
above-value u (place.Tag x) h = absurd (none_some (place.Tag x) h)
above-value u (place.Script x) h = absurd (none_some (place.Script x) h)
above-value u (place.Style x) h = absurd (none_some (place.Style x) h)
above-value u (place.Block x) h = absurd (none_some (place.Block x) h)

pub above-js : (i : Js) (x : Body) → joined_bodies (body.Js i) x ≡ Some x → (j : Js) × (x ≡ body.Js j)
above-js i (body.Js j) h = (j, refl)
above-js i (body.Url s) h = absurd (none_some (body.Url s) h)
above-js i (body.Css s) h = absurd (none_some (body.Css s) h)
above-js i body.Plain h = absurd (none_some body.Plain h)
above-js i body.NoHole h = absurd (none_some body.NoHole h)

quotes-begun : (q : Quoting) → HasBegun (quotes_at q)
quotes-begun DoubleQuoted = tt
quotes-begun SingleQuoted = tt
quotes-begun Unquoted = (refl, refl)

abbrev value_at : Quoting → Tag → Js → ValuePlace
value_at q t c = record { tag = t.tag; typed = t.typed; quotes = quotes_at q; body = body.Js c }

spot-script : (q : Quoting) (t : Tag) (v : ScriptState) (a : Place) (o : Option Js) → script_js v ≡ o → value_spot t (quotes_at q) (option_map body.Js o) ≡ Some a
    → (c : Js) × (script_js v ≡ Some c) × (place.Value (value_at q t c) ≡ a)
spot-script q t v a None e h = absurd (none_some a h)
spot-script q t v a (Some c) e h = (c, e, one_value (place.Value (value_at q t c)) a h)

either-at : (p : Place) (q : Quoting) (t : Tag) (v : ScriptState) (x : Sense) → IsIn p (AttributeValue q t (ValueOf (OfScript v)) Closed) → sense_at_text v.at ≡ Some x
    → EitherPath p (AttributeValue q t (ValueOf (OfScript v)) Closed) x
either-at p q t v x i e =
    let o = spot-script q t v i.own (script_js v) refl i.stands in
    let c = o.0 in
    let u = value_at q t c in
    let h : Below (place.Value u) p = subst (λ (a : Place). Below a p) (sym o.2) i.below in
    let w = above-value u p h in
    let l = below-value u w.0 (subst (Below (place.Value u)) w.1 h) in
    let j = above-js c w.0.body l.body in
    let d = either-script v x c o.1 e in
    record {
      own = u;
      mine = c;
      above = w.0;
      all = j.0;
      is = w.1;
      script = j.1;
      own_script = refl;
      begun = quotes-begun q;
      below = l;
      in_order = js-below c j.0 (subst (λ (z : Body). joined_bodies (body.Js c) z ≡ Some z) j.1 l.body);
      keeps = d.keeps;
      senses = d.senses;
      stands = ap (λ (z : Option Js). value_spot t (quotes_at q) (option_map body.Js z)) d.stands;
    }

pub either-path : (p : Place) (q : Quoting) (t : Tag) (v : ScriptState) (r : Reference) (x : Sense) → IsIn p (AttributeValue q t (ValueOf (OfScript v)) r)
    → sense_at_text v.at ≡ Some x → EitherPath p (AttributeValue q t (ValueOf (OfScript v)) r) x
either-path p q t v Closed x i e = either-at p q t v x i e
either-path p q t v (Open f bytes) x i e = absurd (none_some i.own i.stands)

-- In the element, likewise.
pub record EitherElement (p : Place) (s : LexState ValueState) (x : Sense) : Type 0 where
  pub mine : Js
  pub all : Js
  pub is : p ≡ place.Script all
  pub in_order : joined_js mine all ≡ Some all
  pub keeps : KeepsJs mine
  pub senses : js_senses mine ≡ script_senses x
  pub stands : placed (either_slash s) ≡ Some (place.Script (either_js mine))

pub above-script : (c : Js) (p : Place) → Below (place.Script c) p → (d : Js) × (p ≡ place.Script d)
above-script c (place.Script d) h = (d, refl)
above-script c place.Text h = absurd (none_some place.Text h)
above-script c place.Doctype h = absurd (none_some place.Doctype h)
above-script c (place.Comment x) h = absurd (none_some (place.Comment x) h)
above-script c (place.Rcdata x) h = absurd (none_some (place.Rcdata x) h)
above-script c (place.Tag x) h = absurd (none_some (place.Tag x) h)
above-script c (place.Value x) h = absurd (none_some (place.Value x) h)
above-script c (place.Style x) h = absurd (none_some (place.Style x) h)
above-script c (place.Block x) h = absurd (none_some (place.Block x) h)

element-script : (v : ScriptState) (a : Place) (o : Option Js) → script_js v ≡ o → option_map place.Script o ≡ Some a
    → (c : Js) × (script_js v ≡ Some c) × (place.Script c ≡ a)
element-script v a None e h = absurd (none_some a h)
element-script v a (Some c) e h = (c, e, one_value (place.Script c) a h)

either-in-element : (p : Place) (v : ScriptState) (x : Sense) → IsIn p (InContent element.Script (InLanguage (OfScript v)) Nothing) → sense_at_text v.at ≡ Some x
    → EitherElement p (InContent element.Script (InLanguage (OfScript v)) Nothing) x
either-in-element p v x i e =
    let o = element-script v i.own (script_js v) refl i.stands in
    let c = o.0 in
    let h : Below (place.Script c) p = subst (λ (a : Place). Below a p) (sym o.2) i.below in
    let w = above-script c p h in
    let d = either-script v x c o.1 e in
    record {
      mine = c;
      all = w.0;
      is = w.1;
      in_order = js-below-place c w.0 (subst (Below (place.Script c)) w.1 h);
      keeps = d.keeps;
      senses = d.senses;
      stands = ap (option_map place.Script) d.stands;
    }

pub either-element : (p : Place) (e : Element) (v : ScriptState) (h : Pending) (x : Sense) → IsIn p (InContent e (InLanguage (OfScript v)) h) → sense_at_text v.at ≡ Some x
    → EitherElement p (InContent e (InLanguage (OfScript v)) h) x
either-element p element.Script v Nothing x i e = either-in-element p v x i e
either-element p _ v Nothing x i e = absurd (none_some i.own i.stands)
either-element p d v LessAtCut x i e = absurd (none_some i.own i.stands)
either-element p d v PendingLess x i e = absurd (none_some i.own i.stands)
either-element p d v (PendingName letters) x i e = absurd (none_some i.own i.stands)
either-element p d v PendingBang x i e = absurd (none_some i.own i.stands)
either-element p d v PendingBangDash x i e = absurd (none_some i.own i.stands)
either-element p d v (PendingOpening letters) x i e = absurd (none_some i.own i.stands)
