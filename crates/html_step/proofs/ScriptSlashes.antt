-- Two paths of which it is not the same what a slash would be where a text begins.
use Rattle.std.proofs.Common.{◌≡◌, ℕ, Bool, true, false, ◌||◌, List, Option, Some, None, Result, Ok, ◌⊎◌, inl, inr, ⊎_elim, refl, sym, ap, ◌∙◌, subst}
use Rattle.js_lexer.specs.States.{ScriptState}
use Rattle.js_lexer.specs.declared.sense.Sense.{Sense}
use Rattle.js_lexer.specs.declared.sense.Sense.TheVariants as sense
use Rattle.js_step.specs.ScriptScans.{script_scan_start, script_senses_differ}
use Rattle.js_step.proofs.ScriptClash.{scripts-clash}
use Rattle.place_core.specs.page.References.{Reference}
use Rattle.place_core.specs.page.States.{LexState, AttributeValue, BeforeAttributeValue, InContent, InLanguage, Pending}
use Rattle.place_core.specs.page.Tags.{Quoting, Tag, ValueOf, ValueState, OfScript}
use Rattle.place_core.specs.place.Errors.{PathRefusal, nothing_read, path_refusal}
use Rattle.place_core.specs.place.LanguagePlaces.{IsValidJs, both_senses, joined_js}
use Rattle.place_core.specs.place.Membership.{IsIn}
use Rattle.place_core.specs.place.PathPairs.{ClashesSlash, either_slash, sense_at_text, senses_part, slash_sense}
use Rattle.place_core.specs.place.Places.{Below, IsValid, joined_bodies}
use Rattle.place_core.specs.place.ScriptParts.{script_no_tails, script_senses}
use Rattle.place_core.specs.place.StatePlaces.{unbegun}
use Rattle.place_core.specs.declared.body.Body.{Body}
use Rattle.place_core.specs.declared.body.Body.TheVariants as body
use Rattle.place_core.specs.declared.code.Code.{Code}
use Rattle.place_core.specs.declared.code.Code.TheVariants as code
use Rattle.place_core.specs.declared.element.Element.{Element}
use Rattle.place_core.specs.declared.js.Js.{Js}
use Rattle.place_core.specs.declared.js.Js.TheVariants as js
use Rattle.place_core.specs.declared.kind.Kind.TheVariants as kind
use Rattle.place_core.specs.declared.place.Place.{Place}
use Rattle.place_core.specs.declared.place.Place.TheVariants as place
use Rattle.place_core.specs.declared.senses.Senses.{Senses}
use Rattle.place_core.specs.declared.value_place.ValuePlace.{ValuePlace}
use Rattle.place_core.proofs.JoinParts.{js_partial}
use Rattle.place_core.proofs.Semilattices.{none_some, one_value}
use Rattle.html_scan.specs.Scans.{At}
use Rattle.html_step.specs.Steps.{after_text, stepped}
use Rattle.html_step.proofs.OneTexts.{Says, at-place, one-text, says}
use Rattle.html_step.proofs.PlaceParts.{below-value, value-below}
use Rattle.html_step.proofs.ScanOrder.{begun-valid}
use Rattle.html_step.proofs.ScriptBeside.{BesideEither, beside_at, beside_place, either-accepts, either_apart}
use Rattle.html_step.proofs.ScriptEither.{EitherElement, EitherPath, KeepsJs, above-js, above-value, either-below, either-element, either-path, either_js, js_senses, with_js}
use Rattle.html_step.proofs.ScriptOrder.{below-js, js-below, script-start-valid}
use Rattle.html_step.proofs.ScriptReads.{nil-fits}
use Rattle.html_step.proofs.WholeTexts.{grows-from, grows-text, text-steps}

no : false ≡ true → ⊥
no e = cc

-- What a path has, a place above it has.
code-senses : (s t : Senses) (x y : _) → Some (js.Code s x) ≡ Some (js.Code t y) → s ≡ t
code-senses s t x y e = cc

line-senses : (s t : Senses) → Some (js.Line s) ≡ Some (js.Line t) → s ≡ t
line-senses s t e = cc

block-senses : (s t : Senses) (x y : Bool) → Some (js.Block s x) ≡ Some (js.Block t y) → s ≡ t
block-senses s t x y e = cc

senses-above : (c j : Js) → KeepsJs c → joined_js c j ≡ Some j → (both_senses (js_senses c) (js_senses j) ≡ js_senses j) × ((script_scan_start j).senses ≡ js_senses j)
senses-above (js.Code s x) (js.Code t y) k h = (code-senses (both_senses s t) t _ y h, refl)
senses-above (js.Line s) (js.Line t) k h = (line-senses (both_senses s t) t h, refl)
senses-above (js.Block s x) (js.Block t y) k h = (block-senses (both_senses s t) t (x || y) y h, refl)
senses-above (js.Code s x) j k h = absurd (none_some j h)
senses-above (js.Line s) j k h = absurd (none_some j h)
senses-above (js.Block s x) j k h = absurd (none_some j h)
senses-above js.Dq j k h = absurd k
senses-above js.Sq j k h = absurd k
senses-above (js.Regexp x) j k h = absurd k

-- the place of a script: of a value, or of the element
abbrev body_js : Body → Option Js
body_js (body.Js j) = Some j
body_js b = None

abbrev place_js : Place → Option Js
place_js (place.Value v) = body_js v.body
place_js (place.Script j) = Some j
place_js p = None

-- the place, if it is one of a script, has this sense
abbrev HasSense : Place → Sense → Type 0
HasSense p x = (j : Js) → place_js p ≡ Some j → both_senses (script_senses x) (js_senses j) ≡ js_senses j

sense-at : (p : Place) (x : Sense) (i : Js) → place_js p ≡ Some i → both_senses (script_senses x) (js_senses i) ≡ js_senses i → HasSense p x
sense-at p x i d h j e = subst (λ (z : Js). both_senses (script_senses x) (js_senses z) ≡ js_senses z) (one_value i j (sym d ∙ e)) h

is-script : (p : Place) (w : ValuePlace) (j : Js) → p ≡ place.Value w → w.body ≡ body.Js j → place_js p ≡ Some j
is-script p w j e b = ap place_js e ∙ ap body_js b

below-sense : (c j : Js) (x : Sense) → KeepsJs c → js_senses c ≡ script_senses x → joined_js c j ≡ Some j → both_senses (script_senses x) (js_senses j) ≡ js_senses j
below-sense c j x k e h = ap (λ (z : Senses). both_senses z (js_senses j)) (sym e) ∙ (senses-above c j k h).0

within-sense : (p : Place) (s : LexState ValueState) (x : Sense) → EitherPath p s x → HasSense p x
within-sense p s x e = sense-at p x e.all (is-script p e.above e.all e.is e.script) (below-sense e.mine e.all x e.keeps e.senses e.in_order)

element-sense : (p : Place) (s : LexState ValueState) (x : Sense) → EitherElement p s x → HasSense p x
element-sense p s x e = sense-at p x e.all (ap place_js e.is) (below-sense e.mine e.all x e.keeps e.senses e.in_order)

abbrev begun_js : Js
begun_js = js.Code (script_senses sense.Re) script_no_tails

abbrev begun_value : Tag → ValuePlace
begun_value t = record { tag = t.tag; typed = t.typed; quotes = unbegun; body = body.Js begun_js }

begins-sense : (t : Tag) (p : Place) → IsIn p (BeforeAttributeValue t kind.Script) → HasSense p sense.Re
begins-sense t p i =
    let own : place.Value (begun_value t) ≡ i.own = one_value (place.Value (begun_value t)) i.own i.stands in
    let h : Below (place.Value (begun_value t)) p = subst (λ (z : Place). Below z p) (sym own) i.below in
    let w = above-value (begun_value t) p h in
    let l = below-value (begun_value t) w.0 (subst (Below (place.Value (begun_value t))) w.1 h) in
    let j = above-js begun_js w.0.body l.body in
    sense-at p sense.Re j.0 (is-script p w.0 j.0 w.1 j.1)
    (senses-above begun_js j.0 tt (js-below begun_js j.0 (subst (λ (z : Body). joined_bodies (body.Js begun_js) z ≡ Some z) j.1 l.body))).0

path-sense : (p : Place) (s : LexState ValueState) (x : Sense) → IsIn p s → slash_sense s ≡ Some x → HasSense p x
path-sense p (AttributeValue q t (ValueOf (OfScript v)) r) x i e = within-sense p (AttributeValue q t (ValueOf (OfScript v)) r) x (either-path p q t v r x i e)
path-sense p (InContent d (InLanguage (OfScript v)) h) x i e =
    element-sense p (InContent d (InLanguage (OfScript v)) h) x (either-element p d v h x i e)
path-sense p (BeforeAttributeValue t kind.Script) x i e = subst (HasSense p) (one_value sense.Re x e) (begins-sense t p i)
path-sense p _ x i e = absurd (none_some x e)

parts-differ : (o u : Option Sense) → senses_part o u ≡ true
    → ((o ≡ Some sense.Re) × (u ≡ Some sense.Div)) ⊎ ((o ≡ Some sense.Div) × (u ≡ Some sense.Re))
parts-differ (Some sense.Re) (Some sense.Div) h = inl (refl, refl)
parts-differ (Some sense.Div) (Some sense.Re) h = inr (refl, refl)
parts-differ _ u h = absurd (no h)

both-differ : (s : Senses) → both_senses (script_senses sense.Re) s ≡ s → both_senses (script_senses sense.Div) s ≡ s → script_senses_differ s ≡ true
both-differ s h k =
    let re : true ≡ s.re = ap (λ (z : Senses). z.re) h in
    let div : true ≡ s.div = ap (λ (z : Senses). z.div) k in
    rw (sym re) (sym div)

-- The path on which it is not known is accepted too.
either-valid : (c : Js) → KeepsJs c → IsValidJs (either_js c)
either-valid (js.Code s x) k = refl
either-valid (js.Line s) k = refl
either-valid (js.Block s x) k = refl
either-valid js.Dq k = absurd k
either-valid js.Sq k = absurd k
either-valid (js.Regexp x) k = absurd k

with-own : (w : ValuePlace) (j : Js) → w.body ≡ body.Js j → place.Value w ≡ place.Value (with_js w j)
with-own w j e = ap (λ (x : Body). place.Value (record { tag = w.tag; typed = w.typed; quotes = w.quotes; body = x })) e

not-refused-by : (bytes : List ℕ) (s : LexState ValueState) (r : Result Place PathRefusal) (q : Place) → r ≡ Ok q → Says r 0 nothing_read bytes s → path_refusal bytes s ≡ None
not-refused-by bytes s r q e h = (subst (λ (z : Result Place PathRefusal). Says z 0 nothing_read bytes s) e h).0

slash-within : (bytes : List ℕ) (p q : Place) (s : LexState ValueState) (x : Sense) → IsValid p → after_text bytes p ≡ Ok q → EitherPath p s x
    → HasSense p sense.Re → HasSense p sense.Div → path_refusal bytes (either_slash s) ≡ None
slash-within bytes p q s x v h e re div =
    let w = e.above in
    let j = e.all in
    let i = either_js e.mine in
    let above = with_js w j in
    let is : p ≡ place.Value above = e.is ∙ with-own w j e.script in
    let valid : IsValid (place.Value above) = subst IsValid is v in
    let order = senses-above e.mine j e.keeps e.in_order in
    let differ : script_senses_differ (script_scan_start j).senses ≡ true =
    ap script_senses_differ order.1 ∙ both-differ (js_senses j) (re j (is-script p w j e.is e.script)) (div j (is-script p w j e.is e.script)) in
    let beside : BesideEither (At (place.Value (with_js w i))) (At (place.Value above)) =
    beside_at w i j (either_apart (script-start-valid j valid.1) (scripts-clash.start j) differ (either-below e.mine j e.keeps e.in_order)) in
    let steps : stepped 0 nothing_read bytes (At (place.Value above)) ≡ Ok q =
    subst (λ (z : Place). stepped 0 nothing_read bytes (At z) ≡ Ok q) is (text-steps bytes p q h) in
    let a = either-accepts bytes 0 nothing_read 0 nothing_read (At (place.Value (with_js w i))) (At (place.Value above)) q refl valid beside steps in
    let own = place.Value (with_js e.own i) in
    let below : Below own (place.Value (with_js w i)) = value-below (with_js e.own i) (with_js w i)
    (record { tag = e.below.tag; typed = e.below.typed; quotes = e.below.quotes; body = below-js i i (js_partial.same i) }) in
    let g = grows-from bytes 0 nothing_read nothing_read (At own) (At (place.Value (with_js w i))) a.0 refl
    (begun-valid e.own.quotes e.begun, either-valid e.mine e.keeps) below a.1 in
    not-refused-by bytes (either_slash s) (stepped 0 nothing_read bytes (At own)) g.0 g.1
    (says bytes 0 nothing_read (either_slash s) (At own) (at-place (either_slash s) own e.stands) (nil-fits (either_slash s)))

slash-in-element : (bytes : List ℕ) (p q : Place) (s : LexState ValueState) (x : Sense) → IsValid p → after_text bytes p ≡ Ok q → EitherElement p s x
    → HasSense p sense.Re → HasSense p sense.Div → path_refusal bytes (either_slash s) ≡ None
slash-in-element bytes p q s x v h e re div =
    let j = e.all in
    let i = either_js e.mine in
    let valid : IsValid (place.Script j) = subst IsValid e.is v in
    let order = senses-above e.mine j e.keeps e.in_order in
    let differ : script_senses_differ (script_scan_start j).senses ≡ true =
    ap script_senses_differ order.1 ∙ both-differ (js_senses j) (re j (ap place_js e.is)) (div j (ap place_js e.is)) in
    let beside : BesideEither (At (place.Script i)) (At (place.Script j)) =
    beside_place i j (either_apart (script-start-valid j valid) (scripts-clash.start j) differ (either-below e.mine j e.keeps e.in_order)) in
    let steps : stepped 0 nothing_read bytes (At (place.Script j)) ≡ Ok q =
    subst (λ (z : Place). stepped 0 nothing_read bytes (At z) ≡ Ok q) e.is (text-steps bytes p q h) in
    let a = either-accepts bytes 0 nothing_read 0 nothing_read (At (place.Script i)) (At (place.Script j)) q refl valid beside steps in
    not-refused-by bytes (either_slash s) (stepped 0 nothing_read bytes (At (place.Script i))) a.0 a.1
    (says bytes 0 nothing_read (either_slash s) (At (place.Script i)) (at-place (either_slash s) (place.Script i) e.stands) (nil-fits (either_slash s)))

no-refusal : (o : Option PathRefusal) (r : PathRefusal) → o ≡ None → o ≡ Some r → ⊥
no-refusal o r e h = none_some r (sym e ∙ h)

slash-script : (bytes : List ℕ) (p q : Place) (z : Quoting) (t : Tag) (v : ScriptState) (u : Reference) (r : LexState ValueState) (e : Code) (at : ℕ) → IsValid p
    → after_text bytes p ≡ Ok q → IsIn p (AttributeValue z t (ValueOf (OfScript v)) u) → IsIn p r
    → ClashesSlash bytes (AttributeValue z t (ValueOf (OfScript v)) u) r e at → ⊥
slash-script bytes p q z t v u r e at valid h i j c =
    let s = AttributeValue z t (ValueOf (OfScript v)) u in
    no-refusal (path_refusal bytes (either_slash s)) (record { code = code.SlashAmbig; at = at; shown = c.shown })
    (⊎_elim
    (λ d. slash-within bytes p q s sense.Re valid h (either-path p z t v u sense.Re i d.0) (path-sense p s sense.Re i d.0) (path-sense p r sense.Div j d.1))
    (λ d. slash-within bytes p q s sense.Div valid h (either-path p z t v u sense.Div i d.0) (path-sense p r sense.Re j d.1) (path-sense p s sense.Div i d.0))
    (parts-differ (sense_at_text v.at) (slash_sense r) c.part))
    c.refused

slash-element : (bytes : List ℕ) (p q : Place) (d : Element) (v : ScriptState) (u : Pending) (r : LexState ValueState) (e : Code) (at : ℕ) → IsValid p
    → after_text bytes p ≡ Ok q → IsIn p (InContent d (InLanguage (OfScript v)) u) → IsIn p r
    → ClashesSlash bytes (InContent d (InLanguage (OfScript v)) u) r e at → ⊥
slash-element bytes p q d v u r e at valid h i j c =
    let s = InContent d (InLanguage (OfScript v)) u in
    no-refusal (path_refusal bytes (either_slash s)) (record { code = code.SlashAmbig; at = at; shown = c.shown })
    (⊎_elim
    (λ k. slash-in-element bytes p q s sense.Re valid h (either-element p d v u sense.Re i k.0) (path-sense p s sense.Re i k.0) (path-sense p r sense.Div j k.1))
    (λ k. slash-in-element bytes p q s sense.Div valid h (either-element p d v u sense.Div i k.0) (path-sense p r sense.Re j k.1) (path-sense p s sense.Div i k.0))
    (parts-differ (sense_at_text v.at) (slash_sense r) c.part))
    c.refused

-- where a text is accepted no two are refused together at a slash of it
pub slash-accepted : (bytes : List ℕ) (p q : Place) (s r : LexState ValueState) (e : Code) (at : ℕ) → IsValid p → after_text bytes p ≡ Ok q → IsIn p s → IsIn p r
    → ClashesSlash bytes s r e at → ⊥
slash-accepted bytes p q (AttributeValue z t (ValueOf (OfScript v)) u) r e at valid h i j c = slash-script bytes p q z t v u r e at valid h i j c
slash-accepted bytes p q (InContent d (InLanguage (OfScript v)) u) r e at valid h i j c = slash-element bytes p q d v u r e at valid h i j c
slash-accepted bytes p q (BeforeAttributeValue t k) r e at valid h i j c =
    let s = BeforeAttributeValue t k in
    let g = grows-text bytes i.own p q i.valid valid i.below h in
    no-refusal (path_refusal bytes s) (record { code = code.SlashAmbig; at = at; shown = c.shown }) ((one-text bytes i.own s i.stands).0 g.0 g.1).0 c.refused
slash-accepted bytes p q _ r e at valid h i j c = absurd (no c.part)
