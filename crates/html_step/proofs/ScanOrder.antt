-- Scan states that are below one another, their validity and their members; a step keeps the order.
use Rattle.std.proofs.Common.{◌≡◌, ℕ, Bool, true, false, ◌||◌, ◌&&◌, List, [], ◌∷◌, ◌++◌, codes, length, Option, Some, None, option_map, if◌then◌else◌, inl, inr, refl, sym, ap, ◌∙◌, subst}
use Rattle.std.specs.Option.{is_some}
use Rattle.place_core.specs.page.Classes.{Class, White, ExclamationMark, QuotationMark, Apostrophe, HyphenMinus, Solidus, LessThan, EqualsSign, GreaterThan, GraveAccent, Letter, class_of}
use Rattle.place_core.specs.page.Contents.{ScriptStep, Reads, EndsContent, is_name_of, may_be_name_of, pending_bytes}
use Rattle.place_core.specs.page.States.{Pending, Nothing, PendingLess, LessAtCut, PendingName, PendingBang, PendingBangDash, PendingOpening}
use Rattle.place_core.specs.place.Errors.{PathCause, at_hand, attribute_name_error, bare_error, body_error, comment_error, equals_error, first_cause, first_error, quotes_error, language_error, tag_error, unless_second, value_error, block_error, cut_cause, end_name_error, less_error, loose_byte_error, pending_error, released_error, script_content_error, split_error, step_error}
use Rattle.place_core.specs.place.Places.{Below, Has, IsValid, IsValidBody, IsValidQuotes, IsValidTag, both_bare, is_whole, joined_kinds, joined_quotes, joined_bodies, quotes_have, some_bare, typed_has}
use Rattle.place_core.specs.place.StatePlaces.{only_after, only_before, only_inside, unbegun}
use Rattle.place_core.specs.page.Words.{kind_of}
use Rattle.place_core.specs.declared.bare.Bare.{Bare}
use Rattle.place_core.specs.declared.body.Body.{Body}
use Rattle.place_core.specs.declared.body.Body.TheVariants as body
use Rattle.place_core.specs.declared.code.Code.{Code}
use Rattle.place_core.specs.declared.code.Code.TheVariants as code
use Rattle.place_core.specs.declared.css.Css.{Css}
use Rattle.place_core.specs.declared.element.Element.{Element}
use Rattle.place_core.specs.declared.element.Element.TheVariants as element
use Rattle.place_core.specs.declared.js.Js.{Js}
use Rattle.place_core.specs.declared.kind.Kind.{Kind}
use Rattle.place_core.specs.declared.kind.Kind.TheVariants as kind
use Rattle.place_core.specs.declared.member.Member.{Member}
use Rattle.place_core.specs.declared.place.Place.{Place}
use Rattle.place_core.specs.declared.place.Place.TheVariants as place
use Rattle.place_core.specs.declared.quotes.Quotes.{Quotes}
use Rattle.place_core.specs.declared.quotes.Quotes.TheVariants as quotes
use Rattle.place_core.specs.declared.spots.Spots.{Spots}
use Rattle.place_core.specs.declared.tag_of.TagOf.{TagOf}
use Rattle.place_core.specs.declared.tag_of.TagOf.TheVariants as tag
use Rattle.place_core.specs.declared.tag_place.TagPlace.{TagPlace}
use Rattle.place_core.specs.declared.value_place.ValuePlace.{ValuePlace}
use Rattle.place_core.proofs.JoinParts.{kinds_partial}
use Rattle.place_core.proofs.Joins.{places_same}
use Rattle.place_core.proofs.Semilattices.{no_map, none_some, one_value, row_value}
use Rattle.html_scan.specs.Scans.{Scan, At, AfterLess, AfterLessSolidus, InDeclaration, InTagName, InAttributeName, InUrl, InStyle, InScript, InScriptElement, InStyleElement, InCommentEnd, InContentEnd, element_cause, element_less_next, element_name_next, element_next, element_pending_next, element_scan, released_next, style_less_cause, style_less_cut, after_white, bare_begun, attribute_name_next, bare_white, comment_next, comment_state, content_scan, scan_next, scan_error, scan_place, scan_cut_error, scan_lexeme_error, in_tag, tag_next, typed_with, value_scan, with_quotes, BeforeType, InType, rest_place, content_next, parts_feeding, triple_behind, url_scan, with_parts, value_fed, value_next, quoted_error, body_cause, value_cause, place_cause, parts_with, with_body, open_cut_error, bare_leads, empty_style_between, quotes_lead, style_cause, style_fed, style_feeding, style_scan, style_value_next, value_between, with_style, script_cause, script_fed_next, script_feeding, script_value_next, with_script, all_element_scripts, behind_end_name, scan_by_step, script_element_next, script_scan_step}
use Rattle.html_step.proofs.ContentsAlike.{content-beside, released-beside}
use Rattle.html_step.proofs.ElementsBelow.{ElementUnder, under-element}
use Rattle.html_step.proofs.JsPlaces.{js-below-place, js-place-below}
use Rattle.html_step.proofs.ScriptContents.{asked}
use Rattle.html_step.proofs.ScriptElementOrder.{DoesAlike, DoesBehind, element-cut-below, element-fed-below, element-taken-below, same-step, step-alike-behind}
use Rattle.html_step.proofs.ScriptModes.{TakesLess}
use Rattle.html_step.proofs.PathScans.{none-at-hand, none-unless, some}
use Rattle.html_step.proofs.PlaceParts.{Under, under-false, under-same, under-both, TagBelow, ValueBelow, below-tag, tag-below, below-value, value-below, below-rcdata, same-kinds}
use Rattle.html_step.proofs.FedAlike.{BegunIf, FedBeside, GoesOn, bare-beside, bare-undone, fed-beside, first-caused, language-beside, undone-beside}
use Rattle.html_step.proofs.ScriptOrder.{ScriptUnder, under_same, below-js, script-grows, scripts-beside, scripts-in-order}
use Rattle.html_step.proofs.ScriptPaths.{empty_js}
use Rattle.js_step.specs.ScriptOrigins.{script_set_has}
use Rattle.js_lexer.specs.Refusals.{Cause}
use Rattle.js_step.specs.ScriptSetLaws.{ScriptBelow}
use Rattle.js_step.specs.ScriptScans.{ScriptScan, script_scan_cut_error, script_scan_place, script_scan_start}
use Rattle.js_step.specs.ScriptValidity.{IsScriptScan}
use Rattle.html_step.proofs.StyleOrder.{below-css, css-below, scan-below-start, scan-of-start, starts-below, styles-beside}
use Rattle.html_step.proofs.StylePaths.{empty_css, style_unfinished}
use Rattle.css_lexer.specs.Elements.{less_than_cut_escape}
use Rattle.css_lexer.specs.Escapes.{StyleEscape, NoEscape, AfterBackslash, HexDigits, AfterReturn}
use Rattle.css_lexer.specs.RefusalCodes.{StyleCutRefusal}
use Rattle.css_step.specs.StyleOrigins.{scan_set_has, style_scan_has}
use Rattle.css_step.specs.StyleScans.{StyleScan, is_style_start, style_scan_cut_error, style_scan_place, style_scan_start, style_split_word}
use Rattle.css_step.specs.StyleSetLaws.{StyleBelow, StyleScanBelow, below_bare, below_itself, below_quoted, below_split_word, below_star, below_tails}
use Rattle.css_step.proofs.StyleGrowth.{styles-grow}
use Rattle.html_step.proofs.UrlOrder.{fed-grow, parts-beside}
use Rattle.place_core.specs.page.Html.{ends_value}
use Rattle.place_core.specs.page.References.{Reference, Closed, Open, as_it_stands, next_reference, undone_byte}
use Rattle.place_core.specs.page.Tags.{is_second_type, element_on, feed_bytes, style_code, style_cut, DoubleQuoted, SingleQuoted, Feeding}
use Rattle.place_core.specs.place.LanguagePlaces.{both_parts, joined_css, IsValidCss, IsValidParts}
use Rattle.place_core.specs.place.UrlParts.{parts_of}
use Rattle.place_core.specs.declared.parts.Parts.{Parts}
use Rattle.url_lexer.specs.Parts.{UrlStart}
use Rattle.url_lexer.specs.Triples.{Triple, NoTriple, AfterPercent, AfterDigit}
use Rattle.url_step.specs.PartSets.{PartsBelow}

-- Two values that are styles, in lexemes of them: but for their bodies by the order of values, and by that of the scan states of the styles.
pub record StyleValueBelow (v w : ValuePlace) (n m : StyleScan) : Type 0 where
  pub tag : v.tag ≡ w.tag
  pub typed : Under v.typed w.typed
  pub quotes : joined_quotes v.quotes w.quotes ≡ Some w.quotes
  pub scan : StyleScanBelow n m

-- Two values that are scripts, behind a byte of them.
pub record ScriptValueBelow (v w : ValuePlace) (n m : ScriptScan) : Type 0 where
  pub tag : v.tag ≡ w.tag
  pub typed : Under v.typed w.typed
  pub quotes : joined_quotes v.quotes w.quotes ≡ Some w.quotes
  pub scan : ScriptUnder n m

-- A lexeme of a style may be below a place: a word of this text, where some path has one from before it. The other way a place is below none.
abbrev pub StyleUnderBody : ValuePlace → StyleScan → ValuePlace → Body → Type 0
StyleUnderBody v n w (body.Css c) = StyleValueBelow v w n (style_scan_start c)
StyleUnderBody v n w b = ⊥

abbrev pub StyleUnderPlace : ValuePlace → StyleScan → Place → Type 0
StyleUnderPlace v n (place.Value w) = StyleUnderBody v n w w.body
StyleUnderPlace v n p = ⊥

abbrev pub StyleUnder : ValuePlace → StyleScan → Reference → Scan → Type 0
StyleUnder v n r (At p) = StyleUnderPlace v n p × (r ≡ Closed)
StyleUnder v n r (InStyle w m z) = StyleValueBelow v w n m × (r ≡ z)
StyleUnder v n r f = ⊥

-- Between lexemes by the order of places. In a name of an attribute it only matters whether a `type` may have been seen.
-- In a URL it is the order of values, in the same percent triple and the same reference.
abbrev pub ScanBelow : Scan → Scan → Type 0
ScanBelow (At a) (At b) = Below a b
ScanBelow (At a) g = ⊥
ScanBelow (InAttributeName t x n) (InAttributeName u y m) = (t ≡ u) × Under x y × (n ≡ m)
ScanBelow (InAttributeName t x n) g = ⊥
ScanBelow (InUrl v t r) (InUrl w u z) = ValueBelow v w × (t ≡ u) × (r ≡ z)
ScanBelow (InUrl v t r) g = ⊥
ScanBelow (InStyle v s r) g = StyleUnder v s r g
ScanBelow (InScript v n r) (InScript w m z) = ScriptValueBelow v w n m × (r ≡ z)
ScanBelow (InScript v n r) g = ⊥
ScanBelow (InStyleElement s h) g = ElementUnder s h g
ScanBelow (InScriptElement n h) (InScriptElement m k) = ScriptUnder n m × (h ≡ k) × DoesAlike n m k
ScanBelow (InScriptElement n h) g = ⊥
ScanBelow AfterLess g = AfterLess ≡ g
ScanBelow AfterLessSolidus g = AfterLessSolidus ≡ g
ScanBelow (InDeclaration pending) g = InDeclaration pending ≡ g
ScanBelow (InTagName ends name) g = InTagName ends name ≡ g
ScanBelow (InCommentEnd s) g = InCommentEnd s ≡ g
ScanBelow (InContentEnd e h) g = InContentEnd e h ≡ g
ScanBelow (BeforeType t) g = BeforeType t ≡ g
ScanBelow (InType t q v r) g = InType t q v r ≡ g

-- In a triple or a reference each path is in the value.
abbrev pub HasBegun : Quotes → Type 0
HasBegun quotes.Dq = Unit {0}
HasBegun quotes.Sq = Unit {0}
HasBegun (quotes.Bare s) = (s.uq ≡ true) × (s.unbegun ≡ false)

abbrev pub UrlWithin : Body → Type 0
UrlWithin (body.Url s) = IsValidParts s
UrlWithin b = ⊥

pub url-within : (b : Body) → UrlWithin b → (s : Parts) × (b ≡ body.Url s)
url-within (body.Url s) v = (s, refl)
url-within _ v = absurd v

-- What may be the name in an end tag is a beginning of it.
abbrev pub IsPendingName : Pending → Type 0
IsPendingName (PendingName letters) = may_be_name_of element.Style letters ≡ true
IsPendingName (PendingOpening letters) = ⊥
IsPendingName h = Unit {0}

-- In a style the scan state has what the body of a place has.
abbrev pub ScanValid : Scan → Type 0
ScanValid (At p) = IsValid p
ScanValid (InUrl v t r) = HasBegun v.quotes × UrlWithin v.body
ScanValid (InStyle v s r) = HasBegun v.quotes × (v.body ≡ body.Css empty_css) × IsValidCss (style_scan_place s)
ScanValid (InScript v n r) = HasBegun v.quotes × (v.body ≡ body.Js empty_js) × IsScriptScan n
ScanValid (InContentEnd e h) = IsValid (rest_place e)
ScanValid (InStyleElement s h) = IsValidCss (style_scan_place s) × IsPendingName h
ScanValid (InScriptElement n h) = IsScriptScan n × TakesLess h n
ScanValid f = Unit {0}

abbrev pub ScanHas : Scan → Member → Type 0
ScanHas (At p) m = Has p m
ScanHas (InUrl v t r) m = Has (place.Value v) m
ScanHas (InStyle v s r) m = (is_whole m || (typed_has v.typed m || (quotes_have v.quotes m || scan_set_has s m))) ≡ true
ScanHas (InScript v n r) m = (is_whole m || (typed_has v.typed m || (quotes_have v.quotes m || script_set_has n m))) ≡ true
ScanHas (InAttributeName t typed name) m = (is_whole m || typed_has typed m) ≡ true
ScanHas (InStyleElement s h) m = style_scan_has s m ≡ true
ScanHas (InScriptElement n h) m = (is_whole m || script_set_has n m) ≡ true
ScanHas f m = is_whole m ≡ true

style-value-same : (v : ValuePlace) (n : StyleScan) → StyleValueBelow v v n n
style-value-same v n = (let h = below-value v v (places_same (place.Value v)) in record { tag = h.tag; typed = h.typed; quotes = h.quotes; scan = below_itself n })

script-value-same : (v : ValuePlace) (n : ScriptScan) → ScriptValueBelow v v n n
script-value-same v n = (let h = below-value v v (places_same (place.Value v)) in record { tag = h.tag; typed = h.typed; quotes = h.quotes; scan = under_same refl })

pub scan-same : (f : Scan) → ScanBelow f f
scan-same (At p) = places_same p
scan-same (InAttributeName t x n) = (refl, under-same x, refl)
scan-same (InUrl v t r) = (below-value v v (places_same (place.Value v)), refl, refl)
scan-same (InStyle v s r) = (style-value-same v s, refl)
scan-same (InScript v n r) = (script-value-same v n, refl)
scan-same AfterLess = refl
scan-same AfterLessSolidus = refl
scan-same (InDeclaration pending) = refl
scan-same (InTagName ends name) = refl
scan-same (InCommentEnd s) = refl
scan-same (InContentEnd e h) = refl
scan-same (InStyleElement s h) = (below_itself s, refl)
scan-same (InScriptElement n h) = (under_same refl, refl, inl refl)
scan-same (BeforeType t) = refl
scan-same (InType t q v r) = refl

no : false ≡ true → ⊥
no e = cc

-- Tags.

pub tag-from : (t u : TagOf) (x y : Bool) (s r : Spots) (k l : Option Kind) → t ≡ u → Under x y → Under s.name r.name → Under s.before r.before → Under s.inside r.inside → Under s.after r.after
    → joined_kinds k l ≡ Some l → ScanBelow (in_tag t x s k) (in_tag u y r l)
tag-from t u x y s r k l e f a b c d g =
    tag-below (record { tag = t; typed = x; spots = s; kind = k }) (record { tag = u; typed = y; spots = r; kind = l })
    (record { tag = e; typed = f; name = a; before = b; inside = c; after = d; kind = g })

pub one-spot : (t u : TagOf) (x y : Bool) (s : Spots) (k : Option Kind) → t ≡ u → Under x y → ScanBelow (in_tag t x s k) (in_tag u y s k)
one-spot t u x y s k e f = tag-from t u x y s s k k e f (under-same s.name) (under-same s.before) (under-same s.inside) (under-same s.after) (kinds_partial.same k)

pub value-from : (t u : TagOf) (x y : Bool) (q r : Quotes) (b c : Body) → t ≡ u → Under x y → joined_quotes q r ≡ Some r → joined_bodies b c ≡ Some c
    → ScanBelow (At (place.Value (record { tag = t; typed = x; quotes = q; body = b }))) (At (place.Value (record { tag = u; typed = y; quotes = r; body = c })))
value-from t u x y q r b c e f g h = value-below (record { tag = t; typed = x; quotes = q; body = b }) (record { tag = u; typed = y; quotes = r; body = c }) (record { tag = e; typed = f; quotes = g; body = h })

-- a value that begins
begins-same : (t u : TagOf) (x y : Bool) (k : Kind) → t ≡ u → Under x y → ScanBelow (value_scan t x (Some k)) (value_scan u y (Some k))
begins-same t u x y kind.Plain e f = value-from t u x y unbegun unbegun body.Plain body.Plain e f refl refl
begins-same t u x y kind.NoHole e f = value-from t u x y unbegun unbegun body.NoHole body.NoHole e f refl refl
begins-same t u x y kind.Url e f = value-from t u x y unbegun unbegun (body.Url (parts_of UrlStart)) (body.Url (parts_of UrlStart)) e f refl refl
begins-same t u x y kind.Script e f = value-from t u x y unbegun unbegun (body.Js empty_js) (body.Js empty_js) e f refl refl
begins-same t u x y kind.Style e f = value-from t u x y unbegun unbegun (body.Css empty_css) (body.Css empty_css) e f refl refl
begins-same t u x y kind.ScriptType e f = ap BeforeType e

begins-with : (t u : TagOf) (x y : Bool) (o p : Option Kind) (k : Kind) → o ≡ Some k → p ≡ Some k → t ≡ u → Under x y → ScanBelow (value_scan t x o) (value_scan u y p)
begins-with t u x y o p k i j e f = rw (i, j) (begins-same t u x y k e f)

ends-same : (t u : TagOf) → t ≡ u → ScanBelow (content_scan t) (content_scan u)
ends-same t u e = subst (λ (v : TagOf). ScanBelow (content_scan t) (content_scan v)) e (scan-same (content_scan t))

-- before an equals sign no path stands before a name, so each has a kind
pub equals-none : (name before : Bool) → equals_error name before ≡ None → (name ≡ false) × (before ≡ false)
equals-none true before n = absurd (some _ n)
equals-none false true n = absurd (some _ n)
equals-none false false n = (refl, refl)

pub record HasKind (x y : TagPlace) : Type 0 where
  pub kind : Kind
  pub there : x.kind ≡ Some kind
  pub too : y.kind ≡ Some kind
  pub name : x.spots.name ≡ false
  pub before : x.spots.before ≡ false

pub kind-of-some : (o : Option Kind) → is_some o ≡ true → (k : Kind) × (o ≡ Some k)
kind-of-some (Some k) h = (k, refl)
kind-of-some None h = cc

pub some-none : (n b i a : Bool) → (n || (b || (i || a))) ≡ true → n ≡ false → b ≡ false → (i || a) ≡ true
some-none true b i a h e f = cc
some-none false true i a h e f = cc
some-none false false i a h e f = h

pub has-kind : (x y : TagPlace) → IsValidTag x → TagBelow x y → equals_error y.spots.name y.spots.before ≡ None → HasKind x y
has-kind x y v h n =
    let e = equals-none y.spots.name y.spots.before n in
    let name : x.spots.name ≡ false = under-false x.spots.name (subst (Under x.spots.name) e.0 h.name) in
    let before : x.spots.before ≡ false = under-false x.spots.before (subst (Under x.spots.before) e.1 h.before) in
    let k = kind-of-some x.kind (v.1 ∙ some-none x.spots.name x.spots.before x.spots.inside x.spots.after v.0 name before) in
    let too : y.kind ≡ Some k.0 = same-kinds k.0 y.kind (subst (λ (o : Option Kind). joined_kinds o y.kind ≡ Some y.kind) k.1 h.kind) in
    record { kind = k.0; there = k.1; too = too; name = name; before = before }

pub if-none : (b : Bool) (e : Code) → (if b then Some e else None) ≡ None → b ≡ false
if-none true e h = absurd (some _ h)
if-none false e h = refl

tag-grows : (x y : TagPlace) (c : Class) (b : ℕ) → IsValidTag x → TagBelow x y → tag_error y c ≡ None → (tag_error x c ≡ None) × ScanBelow (tag_next x c b) (tag_next y c b)
tag-grows x y White b v h n = (
  refl,
  tag-from x.tag y.tag x.typed y.typed (after_white x.spots) (after_white y.spots) x.kind y.kind h.tag h.typed refl (under-both x.spots.name y.spots.name x.spots.before y.spots.before h.name h.before) refl (under-both x.spots.inside y.spots.inside x.spots.after y.spots.after h.inside h.after) h.kind,
)
tag-grows x y Solidus b v h n = (refl, one-spot x.tag y.tag x.typed y.typed only_before None h.tag h.typed)
tag-grows x y GreaterThan b v h n = (refl, ends-same x.tag y.tag h.tag)
tag-grows x y EqualsSign b v h n =
    let k = has-kind x y v h n in
    (rw (k.name, k.before) refl, begins-with x.tag y.tag x.typed y.typed x.kind y.kind k.kind k.there k.too h.tag h.typed)
tag-grows x y QuotationMark b v h n = absurd (some _ n)
tag-grows x y Apostrophe b v h n = absurd (some _ n)
tag-grows x y LessThan b v h n = absurd (some _ n)
tag-grows x y _ b v h n =
    let e : (x.spots.name || x.spots.inside) ≡ false = under-false (x.spots.name || x.spots.inside) (subst (Under (x.spots.name || x.spots.inside)) (if-none (y.spots.name || y.spots.inside) code.SplitToken n) (under-both x.spots.name y.spots.name x.spots.inside y.spots.inside h.name h.inside)) in
    (rw e refl, (h.tag, h.typed, refl))

-- Values.

pub plain-same : (b : Body) → joined_bodies b body.Plain ≡ Some body.Plain → b ≡ body.Plain
plain-same body.Plain h = refl
plain-same _ h = absurd (none_some body.Plain h)

pub body-accepts : (b c : Body) → joined_bodies b c ≡ Some c → body_error c ≡ None → body_error b ≡ None
body-accepts (body.Js j) c h n = refl
body-accepts _ c h n = refl

-- a value that is neither a style nor a script
abbrev pub Unstyled : Body → Type 0
Unstyled (body.Css c) = ⊥
Unstyled (body.Js j) = ⊥
Unstyled b = Unit {0}

pub within-unstyled : (b : Body) → UrlWithin b → Unstyled b
within-unstyled (body.Url s) w = tt
within-unstyled _ w = absurd w

pub one-url : (s t : Parts) → body.Url s ≡ body.Url t → s ≡ t
one-url s t e = cc

pub parts-below : (s t : Parts) → joined_bodies (body.Url s) (body.Url t) ≡ Some (body.Url t) → PartsBelow s t
parts-below s t h = one-url (both_parts s t) t (one_value (body.Url (both_parts s t)) (body.Url t) h)

-- below a URL is one
pub parts-of-below : (b : Body) (s : Parts) → joined_bodies b (body.Url s) ≡ Some (body.Url s) → (t : Parts) × (b ≡ body.Url t) × PartsBelow t s
parts-of-below (body.Url t) s h = (t, refl, parts-below t s h)
parts-of-below b s h = absurd (none_some (body.Url s) h)

pub bare-white : (su sb ru rb : Bool) → (su || sb) ≡ true → Under su ru → Under sb rb → (ru && rb) ≡ false → (su ≡ ru) × (sb ≡ rb)
bare-white true true true true s u b n = (refl, refl)
bare-white true true true false s u b n = absurd (no (sym b))
bare-white true true false rb s u b n = absurd (no (sym u))
bare-white true false true false s u b n = (refl, refl)
bare-white true false true true s u b n = absurd (no (sym n))
bare-white true false false rb s u b n = absurd (no (sym u))
bare-white false true ru false s u b n = absurd (no (sym b))
bare-white false true true true s u b n = absurd (no (sym n))
bare-white false true false true s u b n = (refl, refl)
bare-white false false ru rb s u b n = absurd (no s)

bare-one : (s r : Bare) → quotes.Bare s ≡ quotes.Bare r → s ≡ r
bare-one s r e = cc

pub bare-parts : (s r : Bare) → joined_quotes (quotes.Bare s) (quotes.Bare r) ≡ Some (quotes.Bare r) → Under s.uq r.uq × Under s.unbegun r.unbegun
bare-parts s r h =
    let e = bare-one (both_bare s r) r (one_value (quotes.Bare (both_bare s r)) (quotes.Bare r) h) in
    (ap (λ (x : Bare). x.uq) e, ap (λ (x : Bare). x.unbegun) e)

value-goes : (x y : ValuePlace) (q : Quotes) → ValueBelow x y → joined_quotes q q ≡ Some q → ScanBelow (with_quotes x q) (with_quotes y q)
value-goes x y q h e = value-from x.tag y.tag x.typed y.typed q q x.body y.body h.tag h.typed e h.body

-- A URL goes on: in a percent triple or a reference, or at a place.
pub url-below : (v w : ValuePlace) (t : Triple) (r : Reference) → ValueBelow v w → ScanBelow (url_scan v t r) (url_scan w t r)
url-below v w NoTriple Closed h = value-below v w h
url-below v w NoTriple (Open f bytes) h = (h, refl, refl)
url-below v w AfterPercent r h = (h, refl, refl)
url-below v w AfterDigit r h = (h, refl, refl)

abbrev pub FedBelow : Body → Body → List ℕ → Type 0
FedBelow b c bytes = joined_bodies (parts_with b bytes) (parts_with c bytes) ≡ Some (parts_with c bytes)

-- A style goes on: in a lexeme or a reference, or at a place.
style-places : (v w : ValuePlace) (n m : StyleScan) → StyleValueBelow v w n m → Below (with_style v n) (with_style w m)
style-places v w n m h =
    value-from v.tag w.tag v.typed w.typed v.quotes w.quotes (body.Css (style_scan_place n)) (body.Css (style_scan_place m)) h.tag h.typed h.quotes
    (below-css (style_scan_place n) (style_scan_place m) (styles-grow.scans n m h.scan).place)

style-below-by : (v w : ValuePlace) (n m : StyleScan) (x y : Bool) → is_style_start n ≡ x → is_style_start m ≡ y → StyleValueBelow v w n m
    → ScanBelow (if x then At (with_style v n) else InStyle v n Closed) (if y then At (with_style w m) else InStyle w m Closed)
style-below-by v w n m true true e f h = style-places v w n m h
style-below-by v w n m true false e f h = absurd (no (sym f ∙ starts-below n m h.scan e))
style-below-by v w n m false true e f h =
    (record { tag = h.tag; typed = h.typed; quotes = h.quotes; scan = subst (StyleScanBelow n) (sym (scan-of-start m f)) h.scan }, refl)
style-below-by v w n m false false e f h = (h, refl)

pub style-below : (v w : ValuePlace) (n m : StyleScan) (r : Reference) → StyleValueBelow v w n m → ScanBelow (style_scan v n r) (style_scan w m r)
style-below v w n m Closed h = style-below-by v w n m (is_style_start n) (is_style_start m) refl refl h
style-below v w n m (Open f bytes) h = (h, refl)

-- The element `style`: a byte, and bytes that were pending back.
pub style-place-below : (c d : Css) → StyleBelow c d → Below (place.Style c) (place.Style d)
style-place-below c d h = ap (λ (o : Option Css). option_map place.Style o) h

element-below-by : (n m : StyleScan) (x y : Bool) → is_style_start n ≡ x → is_style_start m ≡ y → StyleScanBelow n m
    → ScanBelow (if x then At (place.Style (style_scan_place n)) else InStyleElement n Nothing) (if y then At (place.Style (style_scan_place m)) else InStyleElement m Nothing)
element-below-by n m true true e f h = style-place-below (style_scan_place n) (style_scan_place m) (styles-grow.scans n m h).place
element-below-by n m true false e f h = absurd (no (sym f ∙ starts-below n m h e))
element-below-by n m false true e f h = (subst (StyleScanBelow n) (sym (scan-of-start m f)) h, refl)
element-below-by n m false false e f h = (h, refl)

pub element-below : (n m : StyleScan) → StyleScanBelow n m → ScanBelow (element_scan n) (element_scan m)
element-below n m h = element-below-by n m (is_style_start n) (is_style_start m) refl refl h

loose-below : (c : Class) (b : ℕ) (n m : StyleScan) → StyleScanBelow n m → loose_byte_error style_feeding m c b ≡ None → ScanBelow (element_next n c b) (element_next m c b)
loose-below LessThan b n m h e = (h, refl)
loose-below _ b n m h e = element-below (style_feeding.feed n b) (style_feeding.feed m b) (styles-beside.goes n m b h e)

released-below : (bytes : List ℕ) (c : Class) (b : ℕ) (n m : StyleScan) → StyleScanBelow n m → released_error style_feeding m bytes c b ≡ None
    → ScanBelow (released_next n bytes c b) (released_next m bytes c b)
released-below bytes c b n m h e =
    let p = released-beside styles-beside bytes c b n m h e in
    loose-below c b (feed_bytes style_feeding n bytes) (feed_bytes style_feeding m bytes) p.behind p.loose

less-below : (c : Class) (b : ℕ) (n m : StyleScan) → StyleScanBelow n m → less_error style_feeding m c b ≡ None → ScanBelow (element_less_next n c b) (element_less_next m c b)
less-below Solidus b n m h e = (h, refl)
less-below c b n m h e = released-below (codes "<") c b n m h e

end-tag-below : ScanBelow (in_tag tag.End false only_before None) (in_tag tag.End false only_before None)
end-tag-below = scan-same (in_tag tag.End false only_before None)

end-name-below : (grows whole : Bool) (c : Class) (b : ℕ) (letters : List ℕ) (n m : StyleScan) → StyleScanBelow n m
    → end_name_error style_feeding m grows whole c b letters ≡ None
    → ScanBelow (element_name_next n grows whole c b letters) (element_name_next m grows whole c b letters)
end-name-below true whole (Letter l) b letters n m h e = (h, refl)
end-name-below true true White b letters n m h e = end-tag-below
end-name-below true true Solidus b letters n m h e = end-tag-below
end-name-below true true GreaterThan b letters n m h e = refl
end-name-below true true c b letters n m h e = released-below (codes "</" ++ letters) c b n m h e
end-name-below true false c b letters n m h e = released-below (codes "</" ++ letters) c b n m h e
end-name-below false true White b letters n m h e = end-tag-below
end-name-below false true Solidus b letters n m h e = end-tag-below
end-name-below false true GreaterThan b letters n m h e = refl
end-name-below false true c b letters n m h e = released-below (codes "</" ++ letters) c b n m h e
end-name-below false false c b letters n m h e = released-below (codes "</" ++ letters) c b n m h e

pending-below : (h : Pending) (c : Class) (b : ℕ) (n m : StyleScan) → StyleScanBelow n m → element_cause m h c b ≡ None
    → ScanBelow (element_pending_next n h c b) (element_pending_next m h c b)
pending-below Nothing c b n m l e = loose-below c b n m l (none-at-hand (loose_byte_error style_feeding m c b) e)
pending-below PendingLess c b n m l e = less-below c b n m l e
pending-below LessAtCut c b n m l e = released-below (codes "<") c b n m l e
pending-below (PendingName letters) c b n m l e =
    end-name-below (may_be_name_of element.Style (letters ++ b ∷ [])) (is_name_of element.Style letters) c b letters n m l e
pending-below PendingBang c b n m l e = released-below (codes "<!") c b n m l e
pending-below PendingBangDash c b n m l e = released-below (codes "<!-") c b n m l e
pending-below (PendingOpening letters) c b n m l e = released-below (codes "<" ++ letters) c b n m l e

element-grows : (h : Pending) (c : Class) (b : ℕ) (n m : StyleScan) → StyleScanBelow n m → element_cause m h c b ≡ None
    → (element_cause n h c b ≡ None) × ScanBelow (element_pending_next n h c b) (element_pending_next m h c b)
element-grows h c b n m l e = (content-beside styles-beside element.Style h c b n m l e, pending-below h c b n m l e)

-- The element `script`: a byte.
pub script-starts : (c d : Js) → IsValid (place.Script c) → Below (place.Script c) (place.Script d) → ScriptUnder (script_scan_start c) (script_scan_start d)
script-starts c d v h = scripts-in-order c d v (below-js c d (js-below-place c d h))

behind-name-same : (c : Class) → ScanBelow (behind_end_name c) (behind_end_name c)
behind-name-same White = end-tag-below
behind-name-same Solidus = end-tag-below
behind-name-same c = refl

by-step-below : (x : ScriptStep) (c : Class) (n m : ScriptScan) → ScriptUnder n m → DoesBehind x n m → step_error all_element_scripts m x ≡ None
    → ScanBelow (scan_by_step n x c) (scan_by_step m x c)
by-step-below (Reads bytes h) c n m l d e =
    (let a = asked all_element_scripts m bytes h e in (element-fed-below bytes a.back n m l a.read, refl, d))
by-step-below (EndsContent letters) c n m l d e = behind-name-same c

script-element-grows : (h : Pending) (c : Class) (b : ℕ) (n m : ScriptScan) → class_of b ≡ c → ScriptUnder n m → DoesAlike n m h
    → script_content_error all_element_scripts element.Script m h c b ≡ None
    → (script_content_error all_element_scripts element.Script n h c b ≡ None) × ScanBelow (script_element_next n h c b) (script_element_next m h c b)
script-element-grows h c b n m i l d e = (
  element-taken-below n m h c b i l d e,
  subst (λ (x : ScriptStep). ScanBelow (scan_by_step n x c) (script_element_next m h c b)) (sym (same-step n m h c b i l d))
      (by-step-below (script_scan_step m h c b) c n m l (step-alike-behind h n m c b d e) e),
)

script-element-by : (n m : ScriptScan) (h k : Pending) (c : Class) (b : ℕ) → class_of b ≡ c → ScriptUnder n m → h ≡ k → DoesAlike n m k
    → scan_error (InScriptElement m k) c b ≡ None
    → (scan_error (InScriptElement n h) c b ≡ None) × ScanBelow (scan_next (InScriptElement n h) c b) (scan_next (InScriptElement m k) c b)
script-element-by n m h k c b i l j d e =
    subst (λ (z : Pending). (scan_error (InScriptElement n z) c b ≡ None) × ScanBelow (scan_next (InScriptElement n z) c b) (scan_next (InScriptElement m k) c b)) (sym j)
    (script-element-grows k c b n m i l d e)

-- The two bodies of values behind the bytes that they are fed.
abbrev FedGoes : Body → Body → List ℕ → Type 0
FedGoes (body.Css c) (body.Css d) bytes = StyleScanBelow (feed_bytes style_feeding (style_scan_start c) bytes) (feed_bytes style_feeding (style_scan_start d) bytes)
FedGoes (body.Js c) (body.Js d) bytes = ScriptUnder (feed_bytes script_feeding (script_scan_start c) bytes) (feed_bytes script_feeding (script_scan_start d) bytes)
FedGoes b c bytes = FedBelow b c bytes

fed-next : (x y : ValuePlace) (q : Quotes) (b d : Body) (t : Triple) (r : Reference) (c : Class) (byte : ℕ) → ValueBelow x y → joined_quotes q q ≡ Some q
    → joined_bodies b d ≡ Some d → FedGoes b d (undone_byte true r c byte) → ScanBelow (value_fed x q b t r c byte) (value_fed y q d t r c byte)
fed-next x y q (body.Url s) (body.Url u) t r c byte h e k f =
    let bytes = undone_byte true r c byte in
    url-below (with_parts x q (feed_bytes parts_feeding s bytes)) (with_parts y q (feed_bytes parts_feeding u bytes))
    (triple_behind t bytes) (next_reference r c byte)
    (record { tag = h.tag; typed = h.typed; quotes = e; body = f })
fed-next x y q (body.Url s) d t r c byte h e k f = absurd (none_some d k)
fed-next x y q b (body.Url u) t r c byte h e k f = absurd (none_some (body.Url u) k)
fed-next x y q (body.Css p) (body.Css d) t r c byte h e k f =
    let bytes = undone_byte true r c byte in
    style-below (empty_style_between x q) (empty_style_between y q) (feed_bytes style_feeding (style_scan_start p) bytes)
    (feed_bytes style_feeding (style_scan_start d) bytes) (next_reference r c byte)
    (record { tag = h.tag; typed = h.typed; quotes = e; scan = f })
fed-next x y q (body.Css p) d t r c byte h e k f = absurd (none_some d k)
fed-next x y q b (body.Css p) t r c byte h e k f = absurd (none_some (body.Css p) k)
fed-next x y q (body.Js p) (body.Js d) t r c byte h e k f = (record { tag = h.tag; typed = h.typed; quotes = e; scan = f }, refl)
fed-next x y q (body.Js p) d t r c byte h e k f = absurd (none_some d k)
fed-next x y q b (body.Js p) t r c byte h e k f = absurd (none_some (body.Js p) k)
fed-next x y q _ d t r c byte h e k f = value-goes x y q h e

abbrev pub BegunWhereOpen : Reference → Quotes → Type 0
BegunWhereOpen Closed q = Unit {0}
BegunWhereOpen (Open f bytes) q = HasBegun q

pub begun-if : (r : Reference) (s : Bare) → BegunWhereOpen r (quotes.Bare s) → BegunIf r s.uq
begun-if Closed s v = tt
begun-if (Open f bytes) s v = v.0

pub begun-open : (r : Reference) (q : Quotes) → HasBegun q → BegunWhereOpen r q
begun-open Closed q v = tt
begun-open (Open f bytes) q v = v

pub begun-valid : (q : Quotes) → HasBegun q → IsValidQuotes q
begun-valid quotes.Dq v = tt
begun-valid quotes.Sq v = tt
begun-valid (quotes.Bare s) v = ap (λ (x : Bool). x || s.unbegun) v.0

-- a byte with which a value goes on, between these quotes
abbrev pub GoesIn : Quotes → Class → Type 0
GoesIn quotes.Dq c = ends_value DoubleQuoted c ≡ false
GoesIn quotes.Sq c = ends_value SingleQuoted c ≡ false
GoesIn (quotes.Bare s) c = GoesOn c

-- what its language refuses, and where it leads
pub quoted-takes : {S : Type 0} {m : Feeding S} {R : S → S → Type 0} → FedBeside m m R → (q p : Quotes) (r : Reference) (c : Class) (b : ℕ) (s t : S)
    → joined_quotes q p ≡ Some p → BegunWhereOpen r q → R s t → quoted_error m p t r c b ≡ None → quoted_error m q s r c b ≡ None
quoted-takes f quotes.Dq quotes.Dq r c b s t j v h n = language-beside f (ends_value DoubleQuoted c) r c b s t h n
quoted-takes f quotes.Sq quotes.Sq r c b s t j v h n = language-beside f (ends_value SingleQuoted c) r c b s t h n
quoted-takes f (quotes.Bare x) (quotes.Bare y) r c b s t j v h n = bare-beside f x.uq y.uq r c b s t (bare-parts x y j).0 (begun-if r x v) h n
quoted-takes f quotes.Dq quotes.Sq r c b s t j v h n = absurd (none_some quotes.Sq j)
quoted-takes f quotes.Dq (quotes.Bare y) r c b s t j v h n = absurd (none_some (quotes.Bare y) j)
quoted-takes f quotes.Sq quotes.Dq r c b s t j v h n = absurd (none_some quotes.Dq j)
quoted-takes f quotes.Sq (quotes.Bare y) r c b s t j v h n = absurd (none_some (quotes.Bare y) j)
quoted-takes f (quotes.Bare x) quotes.Dq r c b s t j v h n = absurd (none_some quotes.Dq j)
quoted-takes f (quotes.Bare x) quotes.Sq r c b s t j v h n = absurd (none_some quotes.Sq j)

pub quoted-goes : {S : Type 0} {m : Feeding S} {R : S → S → Type 0} → FedBeside m m R → (q p : Quotes) (r : Reference) (c : Class) (b : ℕ) (s t : S)
    → joined_quotes q p ≡ Some p → BegunWhereOpen r q → R s t → GoesIn p c → quoted_error m p t r c b ≡ None
    → R (feed_bytes m s (undone_byte true r c b)) (feed_bytes m t (undone_byte true r c b))
quoted-goes {m = m} f quotes.Dq quotes.Dq r c b s t j v h g n = undone-beside f r c b s t h (subst (λ (x : Bool). language_error m x t r c b ≡ None) g n)
quoted-goes {m = m} f quotes.Sq quotes.Sq r c b s t j v h g n = undone-beside f r c b s t h (subst (λ (x : Bool). language_error m x t r c b ≡ None) g n)
quoted-goes f (quotes.Bare x) (quotes.Bare y) r c b s t j v h g n = bare-undone f x.uq y.uq r c b s t g (bare-parts x y j).0 (begun-if r x v) h n
quoted-goes f quotes.Dq quotes.Sq r c b s t j v h g n = absurd (none_some quotes.Sq j)
quoted-goes f quotes.Dq (quotes.Bare y) r c b s t j v h g n = absurd (none_some (quotes.Bare y) j)
quoted-goes f quotes.Sq quotes.Dq r c b s t j v h g n = absurd (none_some quotes.Dq j)
quoted-goes f quotes.Sq (quotes.Bare y) r c b s t j v h g n = absurd (none_some (quotes.Bare y) j)
quoted-goes f (quotes.Bare x) quotes.Dq r c b s t j v h g n = absurd (none_some quotes.Dq j)
quoted-goes f (quotes.Bare x) quotes.Sq r c b s t j v h g n = absurd (none_some quotes.Sq j)

-- where a text begins at two places of styles
pub starts-in-order : (c d : Css) → joined_bodies (body.Css c) (body.Css d) ≡ Some (body.Css d) → StyleScanBelow (style_scan_start c) (style_scan_start d)
starts-in-order c d h = (styles-grow.places c d (css-below c d h)).start

pub cause-accepts : (b d : Body) (q p : Quotes) (r : Reference) (c : Class) (byte : ℕ) → IsValidBody b → joined_bodies b d ≡ Some d → joined_quotes q p ≡ Some p
    → BegunWhereOpen r q → body_cause d p r c byte ≡ None → body_cause b q r c byte ≡ None
cause-accepts (body.Url s) (body.Url t) q p r c byte w h j v n = quoted-takes parts-beside q p r c byte s t j v (parts-below s t h) n
cause-accepts (body.Url s) d q p r c byte w h j v n = absurd (none_some d h)
cause-accepts b (body.Url t) q p r c byte w h j v n = absurd (none_some (body.Url t) h)
cause-accepts (body.Css s) (body.Css t) q p r c byte w h j v n =
    quoted-takes styles-beside q p r c byte (style_scan_start s) (style_scan_start t) j v (starts-in-order s t h) n
cause-accepts (body.Css s) d q p r c byte w h j v n = absurd (none_some d h)
cause-accepts b (body.Css t) q p r c byte w h j v n = absurd (none_some (body.Css t) h)
cause-accepts (body.Js s) (body.Js t) q p r c byte w h j v n =
    quoted-takes scripts-beside q p r c byte (script_scan_start s) (script_scan_start t) j v (scripts-in-order s t w h) n
cause-accepts (body.Js s) d q p r c byte w h j v n = absurd (none_some d h)
cause-accepts b (body.Js t) q p r c byte w h j v n = absurd (none_some (body.Js t) h)
cause-accepts _ d q p r c byte w h j v n = refl

fed-goes : (b d : Body) (q p : Quotes) (r : Reference) (c : Class) (byte : ℕ) → IsValidBody b → joined_bodies b d ≡ Some d → joined_quotes q p ≡ Some p
    → BegunWhereOpen r q → GoesIn p c → body_cause d p r c byte ≡ None → FedGoes b d (undone_byte true r c byte)
fed-goes (body.Url s) (body.Url t) q p r c byte w h j v g n =
    ap (λ (z : Parts). Some (body.Url z)) (quoted-goes parts-beside q p r c byte s t j v (parts-below s t h) g n)
fed-goes (body.Url s) d q p r c byte w h j v g n = absurd (none_some d h)
fed-goes b (body.Url t) q p r c byte w h j v g n = absurd (none_some (body.Url t) h)
fed-goes (body.Css s) (body.Css t) q p r c byte w h j v g n =
    quoted-goes styles-beside q p r c byte (style_scan_start s) (style_scan_start t) j v (starts-in-order s t h) g n
fed-goes (body.Css s) d q p r c byte w h j v g n = absurd (none_some d h)
fed-goes b (body.Css t) q p r c byte w h j v g n = absurd (none_some (body.Css t) h)
fed-goes (body.Js s) (body.Js t) q p r c byte w h j v g n =
    quoted-goes scripts-beside q p r c byte (script_scan_start s) (script_scan_start t) j v (scripts-in-order s t w h) g n
fed-goes (body.Js s) d q p r c byte w h j v g n = absurd (none_some d h)
fed-goes b (body.Js t) q p r c byte w h j v g n = absurd (none_some (body.Js t) h)
fed-goes _ d q p r c byte w h j v g n = h

-- A byte of a value, by its quotes: where it goes on, and, before it begins, where it still does.
abbrev pub NotBegun : Quotes → Type 0
NotBegun (quotes.Bare s) = s.uq ≡ false
NotBegun q = ⊥

record Leads (x y : ValuePlace) (q p : Quotes) (c : Class) (f g : Quotes → Scan) : Type 0 where
  tag : x.tag ≡ y.tag
  typed : Under x.typed y.typed
  kept : (z : Quotes) → joined_quotes z z ≡ Some z → NotBegun q → ScanBelow (with_quotes x z) (with_quotes y z)
  goes : (z : Quotes) → joined_quotes z z ≡ Some z → GoesIn p c → ScanBelow (f z) (g z)

tag-after : (x y : ValuePlace) → x.tag ≡ y.tag → Under x.typed y.typed
    → ScanBelow (in_tag x.tag x.typed only_before None) (in_tag y.tag y.typed only_before None)
tag-after x y e h = one-spot x.tag y.tag x.typed y.typed only_before None e h

white-next : (x y : ValuePlace) (uq : Bool) (p : Quotes) (c : Class) (f g : Quotes → Scan) (s : Bare) → s.uq ≡ uq → Leads x y (quotes.Bare s) p c f g
    → ScanBelow (bare_white x uq) (bare_white y uq)
white-next x y true p c f g s e h = tag-after x y h.tag h.typed
white-next x y false p c f g s e h = h.kept unbegun refl e

bare-grows : (x y : ValuePlace) (s p : Bare) (c : Class) (f g : Quotes → Scan) → some_bare s ≡ true → Leads x y (quotes.Bare s) (quotes.Bare p) c f g
    → Under s.uq p.uq → Under s.unbegun p.unbegun → bare_error y.tag p c ≡ None
    → (bare_error x.tag s c ≡ None) × ScanBelow (bare_leads x s.uq c (f bare_begun)) (bare_leads y p.uq c (g bare_begun))
bare-grows x y s p White f g v h u w n =
    let e = bare-white s.uq s.unbegun p.uq p.unbegun v u w (if-none (p.uq && p.unbegun) code.AmbigContext n) in
    (rw (e.0, e.1) n, rw e.0 (white-next x y p.uq (quotes.Bare p) White f g s e.0 h))
bare-grows x y s p QuotationMark f g v h u w n =
    let e : p.uq ≡ false = if-none p.uq code.BadHTML n in
    let d : s.uq ≡ false = under-false s.uq (subst (Under s.uq) e u) in
    (rw d refl, h.kept quotes.Dq refl d)
bare-grows x y s p Apostrophe f g v h u w n =
    let e : p.uq ≡ false = if-none p.uq code.BadHTML n in
    let d : s.uq ≡ false = under-false s.uq (subst (Under s.uq) e u) in
    (rw d refl, h.kept quotes.Sq refl d)
bare-grows x y s p GreaterThan f g v h u w n = (refl, ends-same x.tag y.tag h.tag)
bare-grows x y s p LessThan f g v h u w n = absurd (some _ n)
bare-grows x y s p EqualsSign f g v h u w n = absurd (some _ n)
bare-grows x y s p GraveAccent f g v h u w n = absurd (some _ n)
bare-grows x y s p c f g v h u w n = (refl, h.goes bare_begun refl tt)

quotes-grow : (x y : ValuePlace) (q p : Quotes) (c : Class) (f g : Quotes → Scan) → IsValidQuotes q → Leads x y q p c f g → joined_quotes q p ≡ Some p
    → quotes_error y.tag p c ≡ None → (quotes_error x.tag q c ≡ None) × ScanBelow (quotes_lead x q c f) (quotes_lead y p c g)
quotes-grow x y quotes.Dq quotes.Dq QuotationMark f g v h j n = (refl, tag-after x y h.tag h.typed)
quotes-grow x y quotes.Dq quotes.Dq c f g v h j n = (refl, h.goes quotes.Dq refl refl)
quotes-grow x y quotes.Sq quotes.Sq Apostrophe f g v h j n = (refl, tag-after x y h.tag h.typed)
quotes-grow x y quotes.Sq quotes.Sq c f g v h j n = (refl, h.goes quotes.Sq refl refl)
quotes-grow x y (quotes.Bare s) (quotes.Bare p) c f g v h j n = (let u = bare-parts s p j in bare-grows x y s p c f g v h u.0 u.1 n)
quotes-grow x y quotes.Dq quotes.Sq c f g v h j n = absurd (none_some quotes.Sq j)
quotes-grow x y quotes.Dq (quotes.Bare p) c f g v h j n = absurd (none_some (quotes.Bare p) j)
quotes-grow x y quotes.Sq quotes.Dq c f g v h j n = absurd (none_some quotes.Dq j)
quotes-grow x y quotes.Sq (quotes.Bare p) c f g v h j n = absurd (none_some (quotes.Bare p) j)
quotes-grow x y (quotes.Bare s) quotes.Dq c f g v h j n = absurd (none_some quotes.Dq j)
quotes-grow x y (quotes.Bare s) quotes.Sq c f g v h j n = absurd (none_some quotes.Sq j)

pub first-none : (o p : Option Code) → first_error o p ≡ None → (o ≡ None) × (p ≡ None)
first-none None p n = (refl, n)
first-none (Some e) p n = absurd (some _ n)

-- what is refused in a value, by its language and by its quotes
both-none : (o p : Option Code) → o ≡ None → p ≡ None → first_error o p ≡ None
both-none o p e f = ap (λ (z : Option Code). first_error z p) e ∙ f

causes-none : (o : Option PathCause) (p : Option Code) → o ≡ None → p ≡ None → first_cause o (at_hand p) ≡ None
causes-none o p e f = ap (λ (z : Option PathCause). first_cause z (at_hand p)) e ∙ ap at_hand f

value-grows : (x y : ValuePlace) (t : Triple) (r : Reference) (c : Class) (b : ℕ) → IsValidQuotes x.quotes → IsValidBody x.body → BegunWhereOpen r x.quotes → ValueBelow x y
    → value_cause y r c b ≡ None
    → (value_cause x r c b ≡ None) × ScanBelow (value_next x t r c b) (value_next y t r c b)
value-grows x y t r c b v w i h n =
    let m = first-caused (body_cause y.body y.quotes r c b) (at_hand (value_error y c)) n in
    let e = first-none (body_error y.body) (quotes_error y.tag y.quotes c) (none-at-hand (value_error y c) m.1) in
    let leads : Leads x y x.quotes y.quotes c (λ z. value_fed x z x.body t r c b) (λ z. value_fed y z y.body t r c b) = record {
      tag = h.tag;
      typed = h.typed;
      kept = λ z k a. value-goes x y z h k;
      goes = λ z k a. fed-next x y z x.body y.body t r c b h k h.body (fed-goes x.body y.body x.quotes y.quotes r c b w h.body h.quotes i a m.0);
    } in
    let g = quotes-grow x y x.quotes y.quotes c (λ z. value_fed x z x.body t r c b) (λ z. value_fed y z y.body t r c b) v leads h.quotes e.1 in (
      causes-none (body_cause x.body x.quotes r c b) (value_error x c) (cause-accepts x.body y.body x.quotes y.quotes r c b w h.body h.quotes i m.0)
          (both-none (body_error x.body) (quotes_error x.tag x.quotes c) (body-accepts x.body y.body h.body e.0) g.0),
      g.1,
    )

-- In a lexeme of a style, or a reference: a byte of the value below, where the one above goes on as `g` says.
begun-not : (q : Quotes) → HasBegun q → NotBegun q → ⊥
begun-not quotes.Dq v u = u
begun-not quotes.Sq v u = u
begun-not (quotes.Bare s) v u = no (sym u ∙ v.0)

style-byte : (x y : ValuePlace) (n m : StyleScan) (r : Reference) (c : Class) (b : ℕ) (g : Quotes → Scan) → HasBegun x.quotes → body_error x.body ≡ None
    → StyleValueBelow x y n m → ((z : Quotes) (k : StyleScan) → joined_quotes z z ≡ Some z → StyleScanBelow k (feed_bytes style_feeding m (undone_byte true r c b))
    → ScanBelow (style_scan (value_between x z) k (next_reference r c b)) (g z))
    → style_cause y m r c b ≡ None
    → (style_cause x n r c b ≡ None) × ScanBelow (style_value_next x n r c b) (quotes_lead y y.quotes c g)
style-byte x y n m r c b g v w h goes e =
    let d = first-caused (quoted_error style_feeding y.quotes m r c b) (at_hand (value_error y c)) e in
    let k = first-none (body_error y.body) (quotes_error y.tag y.quotes c) (none-at-hand (value_error y c) d.1) in
    let i = begun-open r x.quotes v in
    let leads : Leads x y x.quotes y.quotes c (λ z. style_fed (value_between x z) n r c b) g = record {
      tag = h.tag;
      typed = h.typed;
      kept = λ z l a. absurd (begun-not x.quotes v a);
      goes = λ z l a. goes z (feed_bytes style_feeding n (undone_byte true r c b)) l
          (quoted-goes styles-beside x.quotes y.quotes r c b n m h.quotes i h.scan a d.0);
    } in
    let l = quotes-grow x y x.quotes y.quotes c (λ z. style_fed (value_between x z) n r c b) g (begun-valid x.quotes v) leads h.quotes k.1 in (
      causes-none (quoted_error style_feeding x.quotes n r c b) (value_error x c) (quoted-takes styles-beside x.quotes y.quotes r c b n m h.quotes i h.scan d.0)
          (both-none (body_error x.body) (quotes_error x.tag x.quotes c) w l.0),
      l.1,
    )

-- In a script behind a byte of this text: a byte of the value below.
script-byte : (x y : ValuePlace) (n m : ScriptScan) (r : Reference) (c : Class) (b : ℕ) → HasBegun x.quotes → body_error x.body ≡ None
    → ScriptValueBelow x y n m → script_cause y m r c b ≡ None
    → (script_cause x n r c b ≡ None) × ScanBelow (script_value_next x n r c b) (script_value_next y m r c b)
script-byte x y n m r c b v w h e =
    let d = first-caused (quoted_error script_feeding y.quotes m r c b) (at_hand (value_error y c)) e in
    let k = first-none (body_error y.body) (quotes_error y.tag y.quotes c) (none-at-hand (value_error y c) d.1) in
    let i = begun-open r x.quotes v in
    let leads : Leads x y x.quotes y.quotes c (λ z. script_fed_next (value_between x z) n r c b) (λ z. script_fed_next (value_between y z) m r c b) = record {
      tag = h.tag;
      typed = h.typed;
      kept = λ z l a. absurd (begun-not x.quotes v a);
      goes = λ z l a. (
        record { tag = h.tag; typed = h.typed; quotes = l; scan = (quoted-goes scripts-beside x.quotes y.quotes r c b n m h.quotes i h.scan a d.0) },
        refl,
      );
    } in
    let l = quotes-grow x y x.quotes y.quotes c (λ z. script_fed_next (value_between x z) n r c b) (λ z. script_fed_next (value_between y z) m r c b)
    (begun-valid x.quotes v) leads h.quotes k.1 in (
      causes-none (quoted_error script_feeding x.quotes n r c b) (value_error x c) (quoted-takes scripts-beside x.quotes y.quotes r c b n m h.quotes i h.scan d.0)
          (both-none (body_error x.body) (quotes_error x.tag x.quotes c) w l.0),
      l.1,
    )

-- Comments.

pub comment-one : (x y : Bool) → place.Comment x ≡ place.Comment y → x ≡ y
comment-one x y e = cc

comment-grows : (x y : Bool) (c : Class) → Under x y → comment_error y c ≡ None → (comment_error x c ≡ None) × ScanBelow (comment_next c (comment_state x)) (comment_next c (comment_state y))
comment-grows true true HyphenMinus h n = absurd (some _ n)
comment-grows true true ExclamationMark h n = absurd (some _ n)
comment-grows true true GreaterThan h n = absurd (some _ n)
comment-grows true true _ h n = (refl, refl)
comment-grows true false c h n = absurd (no (sym h))
comment-grows false true HyphenMinus h n = absurd (some _ n)
comment-grows false true ExclamationMark h n = absurd (some _ n)
comment-grows false true GreaterThan h n = absurd (some _ n)
comment-grows false true _ h n = (refl, refl)
comment-grows false false HyphenMinus h n = (refl, refl)
comment-grows false false _ h n = (refl, refl)

-- Data blocks.

pub block-below : (x y : Bool) → Below (place.Block x) (place.Block y) → Under x y
block-below x y h = let e : place.Block (x || y) ≡ place.Block y = one_value (place.Block (x || y)) (place.Block y) h in cc

block-grows : (x y : Bool) (c : Class) → Under x y → block_error y c ≡ None → block_error x c ≡ None
block-grows true true c h n = n
block-grows true false c h n = absurd (no (sym h))
block-grows false y c h n = refl

-- The whole step.

hand-none : (o : Option Code) → o ≡ None → at_hand o ≡ None
hand-none o e = ap at_hand e

abbrev Grows : Scan → Scan → Class → ℕ → Type 0
Grows f g c b = (scan_error f c b ≡ None) × ScanBelow (scan_next f c b) (scan_next g c b)

same-grows : (f g : Scan) (c : Class) (b : ℕ) → f ≡ g → scan_error g c b ≡ None → Grows f g c b
same-grows f g c b e n = (ap (λ (h : Scan). scan_error h c b) e ∙ n, subst (λ (h : Scan). ScanBelow (scan_next f c b) (scan_next h c b)) e (scan-same (scan_next f c b)))

one-style-place : (c d : Css) → place.Style c ≡ place.Style d → c ≡ d
one-style-place c d e = cc

pub style-below-place : (c d : Css) → Below (place.Style c) (place.Style d) → StyleBelow c d
style-below-place c d h = row_value place.Style one-style-place (joined_css c d) d h

place-grows : (x y : Place) (c : Class) (b : ℕ) → class_of b ≡ c → IsValid x → Below x y → place_cause y c b ≡ None → Grows (At x) (At y) c b
place-grows place.Text place.Text c b k v h n = (n, scan-same (scan_next (At place.Text) c b))
place-grows place.Text y c b k v h n = absurd (none_some y h)
place-grows place.Doctype place.Doctype c b k v h n = (n, scan-same (scan_next (At place.Doctype) c b))
place-grows place.Doctype y c b k v h n = absurd (none_some y h)
place-grows (place.Comment x) (place.Comment y) c b k v h n =
    let g = comment-grows x y c (comment-one (x || y) y (one_value (place.Comment (x || y)) (place.Comment y) h)) (none-at-hand (comment_error y c) n) in
    (hand-none (comment_error x c) g.0, g.1)
place-grows (place.Comment x) y c b k v h n = absurd (none_some y h)
place-grows (place.Rcdata e) (place.Rcdata f) c b k v h n = same-grows (At (place.Rcdata e)) (At (place.Rcdata f)) c b (ap (λ (x : Element). At (place.Rcdata x)) (below-rcdata e f h)) n
place-grows (place.Rcdata e) y c b k v h n = absurd (none_some y h)
place-grows (place.Tag x) (place.Tag y) c b k v h n = let g = tag-grows x y c b v (below-tag x y h) (none-at-hand (tag_error y c) n) in (hand-none (tag_error x c) g.0, g.1)
place-grows (place.Tag x) y c b k v h n = absurd (none_some y h)
place-grows (place.Value x) (place.Value y) c b k v h n = value-grows x y NoTriple Closed c b v.0 v.1 tt (below-value x y h) n
place-grows (place.Value x) y c b k v h n = absurd (none_some y h)
place-grows (place.Script i) (place.Script j) c b k v h n =
    script-element-grows Nothing c b (script_scan_start i) (script_scan_start j) k (script-starts i j v h) (inr (inl refl)) n
place-grows (place.Script i) y c b k v h n = absurd (none_some y h)
place-grows (place.Style i) (place.Style j) c b k v h n =
    element-grows Nothing c b (style_scan_start i) (style_scan_start j) (styles-grow.places i j (style-below-place i j h)).start n
place-grows (place.Style i) y c b k v h n = absurd (none_some y h)
place-grows (place.Block x) (place.Block y) c b k v h n =
    (hand-none (block_error x c) (block-grows x y c (block-below x y h) (none-at-hand (block_error y c) n)), scan-same (content_next c element.DataBlock))
place-grows (place.Block i) y c b k v h n = absurd (none_some y h)

-- a name of an attribute
second-grows : (x y : Bool) (k : Kind) → Under x y → is_second_type y k ≡ false → is_second_type x k ≡ false
second-grows x y kind.ScriptType u e = under-false x (subst (Under x) e u)
second-grows x y _ u e = refl

unless-false : (second : Bool) (len : ℕ) (o : Option Code) → unless_second second len o ≡ None → second ≡ false
unless-false true len o n = absurd (some _ n)
unless-false false len o n = refl

pub unless-grows : (x y : Bool) (len : ℕ) (o : Option Code) (k : Kind) → Under x y → unless_second (is_second_type y k) len o ≡ None → unless_second (is_second_type x k) len o ≡ None
unless-grows x y len o k u n = rw (second-grows x y k u (unless-false (is_second_type y k) len o n)) (hand-none o (none-unless (is_second_type y k) len o n))

pub typed-under : (t : TagOf) (x y : Bool) (k : Kind) → Under x y → Under (typed_with t x k) (typed_with t y k)
typed-under tag.End x y kind.ScriptType u = u
typed-under (tag.Start e) x y kind.ScriptType u = refl
typed-under t x y _ u = u

name-grows : (t : TagOf) (x y : Bool) (k : Kind) (name : List ℕ) (c : Class) (b : ℕ) → Under x y → attribute_name_error t y k (length name) c ≡ None
    → (attribute_name_error t x k (length name) c ≡ None) × ScanBelow (attribute_name_next c b t x k name) (attribute_name_next c b t y k name)
name-grows t x y k name White b u n = (unless-grows x y (length name) None k u n, one-spot t t (typed_with t x k) (typed_with t y k) only_after (Some k) refl (typed-under t x y k u))
name-grows t x y k name Solidus b u n = (unless-grows x y (length name) None k u n, one-spot t t (typed_with t x k) (typed_with t y k) only_before None refl (typed-under t x y k u))
name-grows t x y k name GreaterThan b u n = (unless-grows x y (length name) None k u n, ends-same t t refl)
name-grows t x y k name EqualsSign b u n = (unless-grows x y (length name) None k u n, begins-same t t x y k refl u)
name-grows t x y k name QuotationMark b u n = absurd (some _ n)
name-grows t x y k name Apostrophe b u n = absurd (some _ n)
name-grows t x y k name LessThan b u n = absurd (some _ n)
name-grows t x y k name _ b u n = (refl, (refl, u, refl))

attribute-grows : (t u : TagOf) (x y : Bool) (m n : List ℕ) (c : Class) (b : ℕ) → t ≡ u → Under x y → m ≡ n → scan_error (InAttributeName u y n) c b ≡ None → Grows (InAttributeName t x m) (InAttributeName u y n) c b
attribute-grows t u x y m n c b e h f o =
    subst (λ (v : TagOf). scan_error (InAttributeName v y n) c b ≡ None → Grows (InAttributeName t x m) (InAttributeName v y n) c b) e
    (λ o. subst (λ (l : List ℕ). scan_error (InAttributeName t y l) c b ≡ None → Grows (InAttributeName t x m) (InAttributeName t y l) c b) f (λ o. name-grows t x y (kind_of (element_on t) m) m c b h o) o) o

within-body : (b : Body) → UrlWithin b → IsValidBody b
within-body (body.Url s) w = w
within-body _ w = absurd w

-- in a URL
url-grows : (x y : ValuePlace) (t u : Triple) (r z : Reference) (c : Class) (b : ℕ) → HasBegun x.quotes → IsValidBody x.body → ValueBelow x y → t ≡ u → r ≡ z
    → scan_error (InUrl y u z) c b ≡ None
    → Grows (InUrl x t r) (InUrl y u z) c b
url-grows x y t u r z c b v w h e f n =
    subst (λ (k : Triple). Grows (InUrl x t r) (InUrl y k z) c b) e
    (subst (λ (k : Reference). scan_error (InUrl y u k) c b ≡ None → Grows (InUrl x t r) (InUrl y t k) c b) f
    (λ n. value-grows x y t r c b (begun-valid x.quotes v) w (begun-open r x.quotes v) h n) n)

-- in a style
abbrev pub HasCss : Body → Css → Type 0
HasCss b c = b ≡ body.Css c

pub under-body : (v : ValuePlace) (n : StyleScan) (w : ValuePlace) (b : Body) → StyleUnderBody v n w b
    → (c : Css) × HasCss b c × StyleValueBelow v w n (style_scan_start c)
under-body v n w (body.Css c) h = (c, refl, h)
under-body v n w (body.Url s) h = absurd h
under-body v n w (body.Js j) h = absurd h
under-body v n w body.Plain h = absurd h
under-body v n w body.NoHole h = absurd h

within-css : (x : ValuePlace) → x.body ≡ body.Css empty_css → body_error x.body ≡ None
within-css x e = ap body_error e

-- below a lexeme or a reference of a style
style-grows : (x y : ValuePlace) (n m : StyleScan) (r : Reference) (c : Class) (b : ℕ) → HasBegun x.quotes → x.body ≡ body.Css empty_css
    → StyleValueBelow x y n m → style_cause y m r c b ≡ None → Grows (InStyle x n r) (InStyle y m r) c b
style-grows x y n m r c b v w h e =
    style-byte x y n m r c b (λ z. style_fed (value_between y z) m r c b) v (within-css x w) h
    (λ z k l a. style-below (value_between x z) (value_between y z) k (feed_bytes style_feeding m (undone_byte true r c b)) (next_reference r c b)
    (record { tag = h.tag; typed = h.typed; quotes = l; scan = a }))
    e

-- below a place of a style
style-at-grows : (x y : ValuePlace) (n : StyleScan) (d : Css) (c : Class) (b : ℕ) → HasBegun x.quotes → x.body ≡ body.Css empty_css → HasCss y.body d
    → StyleValueBelow x y n (style_scan_start d) → value_cause y Closed c b ≡ None → Grows (InStyle x n Closed) (At (place.Value y)) c b
style-at-grows x y n d c b v w i h e =
    style-byte x y n (style_scan_start d) Closed c b (λ z. value_fed y z y.body NoTriple Closed c b) v (within-css x w) h
    (λ z k l a. subst (λ (o : Body). ScanBelow (style_scan (value_between x z) k (next_reference Closed c b)) (value_fed y z o NoTriple Closed c b)) (sym i)
    (style-below (value_between x z) (empty_style_between y z) k (feed_bytes style_feeding (style_scan_start d) (undone_byte true Closed c b)) (next_reference Closed c b)
    (record { tag = h.tag; typed = h.typed; quotes = l; scan = a })))
    (sym (ap (λ (o : Body). first_cause (body_cause o y.quotes Closed c b) (at_hand (value_error y c))) i) ∙ e)

style-by : (x y : ValuePlace) (n m : StyleScan) (r z : Reference) (c : Class) (b : ℕ) → HasBegun x.quotes → x.body ≡ body.Css empty_css
    → StyleValueBelow x y n m → r ≡ z → scan_error (InStyle y m z) c b ≡ None → Grows (InStyle x n r) (InStyle y m z) c b
style-by x y n m r z c b v w h e k =
    subst (λ (o : Reference). scan_error (InStyle y m o) c b ≡ None → Grows (InStyle x n r) (InStyle y m o) c b) e (λ k. style-grows x y n m r c b v w h k) k

style-at-by : (x y : ValuePlace) (n : StyleScan) (r : Reference) (c : Class) (b : ℕ) → HasBegun x.quotes → x.body ≡ body.Css empty_css
    → StyleUnderBody x n y y.body → r ≡ Closed → scan_error (At (place.Value y)) c b ≡ None → Grows (InStyle x n r) (At (place.Value y)) c b
style-at-by x y n r c b v w h e k =
    let d = under-body x n y y.body h in
    subst (λ (o : Reference). Grows (InStyle x n o) (At (place.Value y)) c b) (sym e) (style-at-grows x y n d.0 c b v w d.1 d.2 k)

under-place-grows : (x : ValuePlace) (n : StyleScan) (r : Reference) (p : Place) (c : Class) (b : ℕ) → HasBegun x.quotes → x.body ≡ body.Css empty_css
    → StyleUnderPlace x n p → r ≡ Closed → scan_error (At p) c b ≡ None → Grows (InStyle x n r) (At p) c b
under-place-grows x n r (place.Value y) c b v w h e k = style-at-by x y n r c b v w h e k
under-place-grows x n r place.Text c b v w h e k = absurd h
under-place-grows x n r place.Doctype c b v w h e k = absurd h
under-place-grows x n r (place.Comment d) c b v w h e k = absurd h
under-place-grows x n r (place.Rcdata d) c b v w h e k = absurd h
under-place-grows x n r (place.Tag d) c b v w h e k = absurd h
under-place-grows x n r (place.Script d) c b v w h e k = absurd h
under-place-grows x n r (place.Style d) c b v w h e k = absurd h
under-place-grows x n r (place.Block d) c b v w h e k = absurd h

-- in a script behind a byte of the text
within-js : (x : ValuePlace) → x.body ≡ body.Js empty_js → body_error x.body ≡ None
within-js x e = ap body_error e

script-by : (x y : ValuePlace) (n m : ScriptScan) (r z : Reference) (c : Class) (b : ℕ) → HasBegun x.quotes → x.body ≡ body.Js empty_js
    → ScriptValueBelow x y n m → r ≡ z → scan_error (InScript y m z) c b ≡ None → Grows (InScript x n r) (InScript y m z) c b
script-by x y n m r z c b v w h e k =
    subst (λ (o : Reference). scan_error (InScript y m o) c b ≡ None → Grows (InScript x n r) (InScript y m o) c b) e
    (λ k. script-byte x y n m r c b v (within-js x w) h k) k

-- in the element, from what is below
element-grows-to : (s : StyleScan) (x : Pending) (g : Scan) (c : Class) (b : ℕ) → ElementUnder s x g → scan_error g c b ≡ None → Grows (InStyleElement s x) g c b
element-grows-to s x g c b u n =
    under-element (λ f. scan_error f c b ≡ None → Grows (InStyleElement s x) f c b) s x g u
    (λ m l e. element-grows x c b s m l e)
    (λ d k l e. subst (λ (z : Pending). Grows (InStyleElement s z) (At (place.Style d)) c b) (sym k) (element-grows Nothing c b s (style_scan_start d) l e)) n

pub scan-grows : (f g : Scan) (c : Class) (b : ℕ) → class_of b ≡ c → ScanValid f → ScanBelow f g → scan_error g c b ≡ None → Grows f g c b
scan-grows (At x) (At y) c b i v h n = place-grows x y c b i v h n
scan-grows (At x) AfterLess c b i v h n = absurd h
scan-grows (At x) AfterLessSolidus c b i v h n = absurd h
scan-grows (At x) (InDeclaration pending) c b i v h n = absurd h
scan-grows (At x) (InTagName ends name) c b i v h n = absurd h
scan-grows (At x) (InAttributeName t y m) c b i v h n = absurd h
scan-grows (At x) (InCommentEnd s) c b i v h n = absurd h
scan-grows (At x) (InContentEnd e y) c b i v h n = absurd h
scan-grows (At x) (InStyleElement e y) c b i v h n = absurd h
scan-grows (At x) (InScriptElement d e) c b i v h n = absurd h
scan-grows (At x) (BeforeType t) c b i v h n = absurd h
scan-grows (At x) (InType t q w r) c b i v h n = absurd h
scan-grows (At x) (InStyle w s r) c b i v h n = absurd h
scan-grows (At x) (InScript w s r) c b i v h n = absurd h
scan-grows (InAttributeName t x m) (InAttributeName u y l) c b i v h n = attribute-grows t u x y m l c b h.0 h.1 h.2 n
scan-grows (InAttributeName t x m) (At y) c b i v h n = absurd h
scan-grows (InAttributeName t x m) AfterLess c b i v h n = absurd h
scan-grows (InAttributeName t x m) AfterLessSolidus c b i v h n = absurd h
scan-grows (InAttributeName t x m) (InDeclaration pending) c b i v h n = absurd h
scan-grows (InAttributeName t x m) (InTagName ends name) c b i v h n = absurd h
scan-grows (InAttributeName t x m) (InCommentEnd s) c b i v h n = absurd h
scan-grows (InAttributeName t x m) (InContentEnd e y) c b i v h n = absurd h
scan-grows (InAttributeName t x m) (InStyleElement e y) c b i v h n = absurd h
scan-grows (InAttributeName t x m) (InScriptElement d e) c b i v h n = absurd h
scan-grows (InAttributeName t x m) (BeforeType u) c b i v h n = absurd h
scan-grows (InAttributeName t x m) (InType u q w r) c b i v h n = absurd h
scan-grows (InAttributeName t x m) (InStyle w s r) c b i v h n = absurd h
scan-grows (InAttributeName t x m) (InScript w s r) c b i v h n = absurd h
scan-grows (At x) (InUrl y t r) c b i v h n = absurd h
scan-grows (InAttributeName t x m) (InUrl y u r) c b i v h n = absurd h
scan-grows (InUrl x t r) (InUrl y u z) c b i v h n = url-grows x y t u r z c b v.0 (within-body x.body v.1) h.0 h.1 h.2 n
scan-grows (InUrl x t r) (At y) c b i v h n = absurd h
scan-grows (InUrl x t r) AfterLess c b i v h n = absurd h
scan-grows (InUrl x t r) AfterLessSolidus c b i v h n = absurd h
scan-grows (InUrl x t r) (InDeclaration pending) c b i v h n = absurd h
scan-grows (InUrl x t r) (InTagName ends name) c b i v h n = absurd h
scan-grows (InUrl x t r) (InAttributeName u y l) c b i v h n = absurd h
scan-grows (InUrl x t r) (InCommentEnd s) c b i v h n = absurd h
scan-grows (InUrl x t r) (InContentEnd e y) c b i v h n = absurd h
scan-grows (InUrl x t r) (InStyleElement e y) c b i v h n = absurd h
scan-grows (InUrl x t r) (InScriptElement d e) c b i v h n = absurd h
scan-grows (InUrl x t r) (BeforeType u) c b i v h n = absurd h
scan-grows (InUrl x t r) (InType u q w z) c b i v h n = absurd h
scan-grows (InUrl x t r) (InStyle w s z) c b i v h n = absurd h
scan-grows (InUrl x t r) (InScript w s z) c b i v h n = absurd h
scan-grows (InStyle x s r) (InStyle y m z) c b i v h n = style-by x y s m r z c b v.0 v.1 h.0 h.1 n
scan-grows (InStyle x s r) (At p) c b i v h n = under-place-grows x s r p c b v.0 v.1 h.0 h.1 n
scan-grows (InStyle x s r) AfterLess c b i v h n = absurd h
scan-grows (InStyle x s r) AfterLessSolidus c b i v h n = absurd h
scan-grows (InStyle x s r) (InDeclaration d) c b i v h n = absurd h
scan-grows (InStyle x s r) (InTagName d e) c b i v h n = absurd h
scan-grows (InStyle x s r) (InAttributeName d e k) c b i v h n = absurd h
scan-grows (InStyle x s r) (InCommentEnd d) c b i v h n = absurd h
scan-grows (InStyle x s r) (InContentEnd d e) c b i v h n = absurd h
scan-grows (InStyle x s r) (InStyleElement d e) c b i v h n = absurd h
scan-grows (InStyle x s r) (InScriptElement d e) c b i v h n = absurd h
scan-grows (InStyle x s r) (BeforeType d) c b i v h n = absurd h
scan-grows (InStyle x s r) (InType d e k l) c b i v h n = absurd h
scan-grows (InStyle x s r) (InUrl d e k) c b i v h n = absurd h
scan-grows (InStyle x s r) (InScript d e k) c b i v h n = absurd h
scan-grows (InScript x s r) (InScript y m z) c b i v h n = script-by x y s m r z c b v.0 v.1 h.0 h.1 n
scan-grows (InScript x s r) (At p) c b i v h n = absurd h
scan-grows (InScript x s r) AfterLess c b i v h n = absurd h
scan-grows (InScript x s r) AfterLessSolidus c b i v h n = absurd h
scan-grows (InScript x s r) (InDeclaration d) c b i v h n = absurd h
scan-grows (InScript x s r) (InTagName d e) c b i v h n = absurd h
scan-grows (InScript x s r) (InAttributeName d e k) c b i v h n = absurd h
scan-grows (InScript x s r) (InCommentEnd d) c b i v h n = absurd h
scan-grows (InScript x s r) (InContentEnd d e) c b i v h n = absurd h
scan-grows (InScript x s r) (InStyleElement d e) c b i v h n = absurd h
scan-grows (InScript x s r) (InScriptElement d e) c b i v h n = absurd h
scan-grows (InScript x s r) (BeforeType d) c b i v h n = absurd h
scan-grows (InScript x s r) (InType d e k l) c b i v h n = absurd h
scan-grows (InScript x s r) (InUrl d e k) c b i v h n = absurd h
scan-grows (InScript x s r) (InStyle d e k) c b i v h n = absurd h
scan-grows AfterLess g c b i v h n = same-grows AfterLess g c b h n
scan-grows AfterLessSolidus g c b i v h n = same-grows AfterLessSolidus g c b h n
scan-grows (InDeclaration pending) g c b i v h n = same-grows (InDeclaration pending) g c b h n
scan-grows (InTagName ends name) g c b i v h n = same-grows (InTagName ends name) g c b h n
scan-grows (InCommentEnd s) g c b i v h n = same-grows (InCommentEnd s) g c b h n
scan-grows (InContentEnd e x) g c b i v h n = same-grows (InContentEnd e x) g c b h n
scan-grows (InStyleElement m x) g c b i v h n = element-grows-to m x g c b h n
scan-grows (InScriptElement m x) (InScriptElement k y) c b i v h n = script-element-by m k x y c b i h.0 h.1 h.2 n
scan-grows (InScriptElement m x) g c b i v h n = absurd h
scan-grows (BeforeType t) g c b i v h n = same-grows (BeforeType t) g c b h n
scan-grows (InType t q w r) g c b i v h n = same-grows (InType t q w r) g c b h n

-- The end of a text.

-- what a script refuses there
abbrev pub script_cut : Scan → Option Cause
script_cut (InScript v n r) = script_scan_cut_error (feed_bytes script_feeding n (as_it_stands r))
script_cut f = None

abbrev Ends : Scan → Scan → Type 0
Ends f g = (scan_cut_error f ≡ None) × (scan_lexeme_error f ≡ None) × Below (scan_place f) (scan_place g) × (script_cut f ≡ None)

same-ends : (f g : Scan) → f ≡ g → scan_cut_error g ≡ None → scan_lexeme_error g ≡ None → script_cut f ≡ None → Ends f g
same-ends f g e n m o =
    (ap scan_cut_error e ∙ n, ap scan_lexeme_error e ∙ m, subst (λ (h : Scan). Below (scan_place f) (scan_place h)) e (places_same (scan_place f)), o)

name-ends : (t : TagOf) (x y : Bool) (m : List ℕ) → Under x y → scan_cut_error (InAttributeName t y m) ≡ None → Ends (InAttributeName t x m) (InAttributeName t y m)
name-ends t x y m u n =
    let k = kind_of (element_on t) m in
    (unless-grows x y (length m) None k u n, refl, one-spot t t (typed_with t x k) (typed_with t y k) only_inside (Some k) refl (typed-under t x y k u), refl)

attribute-ends : (t u : TagOf) (x y : Bool) (m l : List ℕ) → t ≡ u → Under x y → m ≡ l → scan_cut_error (InAttributeName u y l) ≡ None → Ends (InAttributeName t x m) (InAttributeName u y l)
attribute-ends t u x y m l e h f n =
    subst (λ (v : TagOf). scan_cut_error (InAttributeName v y l) ≡ None → Ends (InAttributeName t x m) (InAttributeName v y l)) e
    (subst (λ (z : List ℕ). scan_cut_error (InAttributeName t y z) ≡ None → Ends (InAttributeName t x m) (InAttributeName t y z)) f (λ o. name-ends t x y m h o)) n

-- a URL in which a text ends
body-ends : (b d : Body) (bytes : List ℕ) → joined_bodies b d ≡ Some d → open_cut_error d bytes ≡ None → (open_cut_error b bytes ≡ None) × FedBelow b d bytes
body-ends (body.Url s) (body.Url u) bytes h n =
    let g = fed-grow bytes true (length bytes) s u (parts-below s u h) n in (g.0, ap (λ (x : Parts). Some (body.Url x)) g.1)
body-ends (body.Url s) d bytes h n = absurd (none_some d h)
body-ends b (body.Url u) bytes h n = absurd (none_some (body.Url u) h)
body-ends _ d bytes h n = (refl, h)

url-place : (x y : ValuePlace) (bytes : List ℕ) → ValueBelow x y → FedBelow x.body y.body bytes
    → Below (with_body x (parts_with x.body bytes)) (with_body y (parts_with y.body bytes))
url-place x y bytes h f = value-from x.tag y.tag x.typed y.typed x.quotes y.quotes (parts_with x.body bytes) (parts_with y.body bytes) h.tag h.typed h.quotes f

url-ends : (x y : ValuePlace) (t u : Triple) (r z : Reference) → ValueBelow x y → t ≡ u → r ≡ z → scan_cut_error (InUrl y u z) ≡ None
    → scan_lexeme_error (InUrl y u z) ≡ None
    → Ends (InUrl x t r) (InUrl y u z)
url-ends x y t u r z h e f n m =
    subst (λ (k : Triple). scan_lexeme_error (InUrl y k z) ≡ None → Ends (InUrl x t r) (InUrl y k z)) e
    (subst (λ (k : Reference). scan_cut_error (InUrl y u k) ≡ None → scan_lexeme_error (InUrl y t k) ≡ None → Ends (InUrl x t r) (InUrl y t k)) f
    (λ n m. let d = body-ends x.body y.body (as_it_stands r) h.body n in (d.0, m, url-place x y (as_it_stands r) h d.1, refl)) n) m

-- a style in which a text ends
style-place : (x y : ValuePlace) (n : StyleScan) (d : Css) → HasCss y.body d → StyleValueBelow x y n (style_scan_start d) → Below (with_style x n) (place.Value y)
style-place x y n d i h =
    value-from x.tag y.tag x.typed y.typed x.quotes y.quotes (body.Css (style_scan_place n)) y.body h.tag h.typed h.quotes
    (subst (λ (o : Body). joined_bodies (body.Css (style_scan_place n)) o ≡ Some o) (sym i)
    (below-css (style_scan_place n) d (scan-below-start n d h.scan).1))

unfinished-none : (n : StyleScan) → style_scan_cut_error n ≡ None → style_unfinished n ≡ None
unfinished-none n e = ap (option_map (λ (o : StyleCutRefusal). style_code o.code)) e

style-at-ends : (x y : ValuePlace) (n : StyleScan) (r : Reference) → StyleUnderBody x n y y.body → r ≡ Closed → Ends (InStyle x n r) (At (place.Value y))
style-at-ends x y n r h e =
    let d = under-body x n y y.body h in
    subst (λ (o : Reference). Ends (InStyle x n o) (At (place.Value y))) (sym e)
    (refl, unfinished-none n (scan-below-start n d.0 d.2.scan).0, style-place x y n d.0 d.1 d.2, refl)

under-place-ends : (x : ValuePlace) (n : StyleScan) (r : Reference) (p : Place) → StyleUnderPlace x n p → r ≡ Closed → Ends (InStyle x n r) (At p)
under-place-ends x n r (place.Value y) h e = style-at-ends x y n r h e
under-place-ends x n r place.Text h e = absurd h
under-place-ends x n r place.Doctype h e = absurd h
under-place-ends x n r (place.Comment d) h e = absurd h
under-place-ends x n r (place.Rcdata d) h e = absurd h
under-place-ends x n r (place.Tag d) h e = absurd h
under-place-ends x n r (place.Script d) h e = absurd h
under-place-ends x n r (place.Style d) h e = absurd h
under-place-ends x n r (place.Block d) h e = absurd h

style-ends : (x y : ValuePlace) (n m : StyleScan) (r : Reference) → StyleValueBelow x y n m → scan_cut_error (InStyle y m r) ≡ None
    → scan_lexeme_error (InStyle y m r) ≡ None → Ends (InStyle x n r) (InStyle y m r)
style-ends x y n m r h e f =
    let bytes = as_it_stands r in
    let a = feed_bytes style_feeding n bytes in
    let d = feed_bytes style_feeding m bytes in
    let g = fed-beside styles-beside bytes true (length bytes) n m h.scan e in
    let k : style_scan_cut_error d ≡ None = no_map (λ (o : StyleCutRefusal). style_code o.code) (style_scan_cut_error d) f in (
      g.0,
      unfinished-none a ((styles-grow.scans a d g.1).cut_error ∙ k),
      style-places x y a d (record { tag = h.tag; typed = h.typed; quotes = h.quotes; scan = g.1 }),
      refl,
    )

style-ends-by : (x y : ValuePlace) (n m : StyleScan) (r z : Reference) → StyleValueBelow x y n m → r ≡ z → scan_cut_error (InStyle y m z) ≡ None
    → scan_lexeme_error (InStyle y m z) ≡ None → Ends (InStyle x n r) (InStyle y m z)
style-ends-by x y n m r z h e f g =
    subst (λ (o : Reference). scan_cut_error (InStyle y m o) ≡ None → scan_lexeme_error (InStyle y m o) ≡ None → Ends (InStyle x n r) (InStyle y m o)) e
    (λ f g. style-ends x y n m r h f g) f g

-- the element in which a text ends: what may be cut from what follows above, may be below
split-less-grows : (e : StyleEscape) → style_less_cut (style_split_word e) ≡ None → less_than_cut_escape e ≡ None
split-less-grows NoEscape h = refl
split-less-grows AfterBackslash h = h
split-less-grows (HexDigits k) h = refl
split-less-grows AfterReturn h = refl

less-cut-grows : (n m : StyleScan) → StyleScanBelow n m → style_less_cut m ≡ None → style_less_cut n ≡ None
less-cut-grows _ _ (below_itself n) h = h
less-cut-grows _ _ (below_tails x y e) h = refl
less-cut-grows _ _ (below_split_word w e) h = split-less-grows e h
less-cut-grows _ _ below_star h = refl
less-cut-grows _ _ (below_bare s r t e) h = h
less-cut-grows _ _ (below_quoted q e s r t i) h = h

less-cause-grows : (n m : StyleScan) → StyleScanBelow n m → style_less_cause m ≡ None → style_less_cause n ≡ None
less-cause-grows n m l h =
    ap (λ (o : Option StyleCutRefusal). option_map cut_cause (option_map style_cut o))
    (less-cut-grows n m l (no_map style_cut (style_less_cut m) (no_map cut_cause (option_map style_cut (style_less_cut m)) h)))

split-grows : (h : Pending) (n m : StyleScan) → StyleScanBelow n m → split_error style_less_cause m h ≡ None → split_error style_less_cause n h ≡ None
split-grows PendingLess n m l e = less-cause-grows n m l e
split-grows Nothing n m l e = e
split-grows LessAtCut n m l e = e
split-grows (PendingName letters) n m l e = e
split-grows PendingBang n m l e = e
split-grows PendingBangDash n m l e = e
split-grows (PendingOpening letters) n m l e = e

element-cut-grows : (h : Pending) (n m : StyleScan) → StyleScanBelow n m → scan_cut_error (InStyleElement m h) ≡ None → scan_lexeme_error (InStyleElement m h) ≡ None
    → Ends (InStyleElement n h) (InStyleElement m h)
element-cut-grows h n m l e f =
    let bytes = pending_bytes h in
    let a = feed_bytes style_feeding n bytes in
    let d = feed_bytes style_feeding m bytes in
    let p = first-caused (pending_error style_feeding m bytes) (split_error style_less_cause m h) e in
    let g = fed-beside styles-beside bytes true (length bytes) n m l p.0 in
    let k : style_scan_cut_error d ≡ None = no_map (λ (o : StyleCutRefusal). style_code o.code) (style_scan_cut_error d) f in (
      ap (λ (o : Option PathCause). first_cause o (split_error style_less_cause n h)) g.0 ∙ split-grows h n m l p.1,
      unfinished-none a ((styles-grow.scans a d g.1).cut_error ∙ k),
      style-place-below (style_scan_place a) (style_scan_place d) (styles-grow.scans a d g.1).place,
      refl,
    )

element-start-ends : (n : StyleScan) (d : Css) → StyleScanBelow n (style_scan_start d) → Ends (InStyleElement n Nothing) (At (place.Style d))
element-start-ends n d l =
    let g = scan-below-start n d l in
    (refl, unfinished-none n g.0, style-place-below (style_scan_place n) d g.1, refl)

element-ends-to : (s : StyleScan) (x : Pending) (g : Scan) → ElementUnder s x g → scan_cut_error g ≡ None → scan_lexeme_error g ≡ None → Ends (InStyleElement s x) g
element-ends-to s x g u n o =
    under-element (λ f. scan_cut_error f ≡ None → scan_lexeme_error f ≡ None → Ends (InStyleElement s x) f) s x g u
    (λ m l e k. element-cut-grows x s m l e k)
    (λ d i l e k. subst (λ (z : Pending). Ends (InStyleElement s z) (At (place.Style d))) (sym i) (element-start-ends s d l)) n o

-- a script in which a text ends
script-places : (v w : ValuePlace) (n m : ScriptScan) → ScriptValueBelow v w n m → ScriptBelow (script_scan_place n) (script_scan_place m)
    → Below (with_script v n) (with_script w m)
script-places v w n m h l =
    value-from v.tag w.tag v.typed w.typed v.quotes w.quotes (body.Js (script_scan_place n)) (body.Js (script_scan_place m)) h.tag h.typed h.quotes
    (below-js (script_scan_place n) (script_scan_place m) l)

script-ends : (x y : ValuePlace) (n m : ScriptScan) (r z : Reference) → ScriptValueBelow x y n m → r ≡ z
    → scan_cut_error (InScript y m z) ≡ None → script_cut (InScript y m z) ≡ None → Ends (InScript x n r) (InScript y m z)
script-ends x y n m r z h e f g =
    subst (λ (o : Reference). scan_cut_error (InScript y m o) ≡ None → script_cut (InScript y m o) ≡ None → Ends (InScript x n r) (InScript y m o)) e
    (λ f g.
    let bytes = as_it_stands r in
    let a = feed_bytes script_feeding n bytes in
    let d = feed_bytes script_feeding m bytes in
    let u = fed-beside scripts-beside bytes true (length bytes) n m h.scan f in
    let grows = script-grows a d u.1 in (
      u.0,
      refl,
      script-places x y a d (record { tag = h.tag; typed = h.typed; quotes = h.quotes; scan = u.1 }) (grows.place g),
      grows.cut_error g,
    )) f g

-- the element `script` in which a text ends
script-element-ends : (n m : ScriptScan) (h k : Pending) → ScriptUnder n m → h ≡ k → scan_cut_error (InScriptElement m k) ≡ None
    → Ends (InScriptElement n h) (InScriptElement m k)
script-element-ends n m h k l j e =
    let d = element-cut-below k n m l e in
    subst (λ (z : Pending). Ends (InScriptElement n z) (InScriptElement m k)) (sym j)
    (d.0, refl, js-place-below (script_scan_place (feed_bytes script_feeding n (pending_bytes k))) (script_scan_place (feed_bytes script_feeding m (pending_bytes k))) d.1, refl)

pub end-grows : (f g : Scan) → ScanBelow f g → scan_cut_error g ≡ None → scan_lexeme_error g ≡ None → script_cut g ≡ None → Ends f g
end-grows (At x) (At y) h n m cut = (refl, refl, h, refl)
end-grows (InUrl x t r) (InUrl y u z) h n m cut = url-ends x y t u r z h.0 h.1 h.2 n m
end-grows (InAttributeName t x m) (InAttributeName u y l) h n e cut = attribute-ends t u x y m l h.0 h.1 h.2 n
end-grows (At x) (InUrl y u z) h n m cut = absurd h
end-grows (At x) AfterLess h n m cut = absurd h
end-grows (At x) AfterLessSolidus h n m cut = absurd h
end-grows (At x) (InDeclaration pending) h n m cut = absurd h
end-grows (At x) (InTagName ends name) h n m cut = absurd h
end-grows (At x) (InAttributeName w y l) h n m cut = absurd h
end-grows (At x) (InCommentEnd s) h n m cut = absurd h
end-grows (At x) (InContentEnd e y) h n m cut = absurd h
end-grows (At x) (InStyleElement e y) h n m cut = absurd h
end-grows (At x) (InScriptElement d e) h n m cut = absurd h
end-grows (At x) (BeforeType w) h n m cut = absurd h
end-grows (At x) (InType w q v k) h n m cut = absurd h
end-grows (At x) (InStyle w s k) h n m cut = absurd h
end-grows (At x) (InScript w s k) h n m cut = absurd h
end-grows (InUrl x t r) (At y) h n m cut = absurd h
end-grows (InUrl x t r) AfterLess h n m cut = absurd h
end-grows (InUrl x t r) AfterLessSolidus h n m cut = absurd h
end-grows (InUrl x t r) (InDeclaration pending) h n m cut = absurd h
end-grows (InUrl x t r) (InTagName ends name) h n m cut = absurd h
end-grows (InUrl x t r) (InAttributeName w y l) h n m cut = absurd h
end-grows (InUrl x t r) (InCommentEnd s) h n m cut = absurd h
end-grows (InUrl x t r) (InContentEnd e y) h n m cut = absurd h
end-grows (InUrl x t r) (InStyleElement e y) h n m cut = absurd h
end-grows (InUrl x t r) (InScriptElement d e) h n m cut = absurd h
end-grows (InUrl x t r) (BeforeType w) h n m cut = absurd h
end-grows (InUrl x t r) (InType w q v k) h n m cut = absurd h
end-grows (InUrl x t r) (InStyle w s k) h n m cut = absurd h
end-grows (InUrl x t r) (InScript w s k) h n m cut = absurd h
end-grows (InAttributeName t x o) (At y) h n m cut = absurd h
end-grows (InAttributeName t x o) (InUrl y u z) h n m cut = absurd h
end-grows (InAttributeName t x o) AfterLess h n m cut = absurd h
end-grows (InAttributeName t x o) AfterLessSolidus h n m cut = absurd h
end-grows (InAttributeName t x o) (InDeclaration pending) h n m cut = absurd h
end-grows (InAttributeName t x o) (InTagName ends name) h n m cut = absurd h
end-grows (InAttributeName t x o) (InCommentEnd s) h n m cut = absurd h
end-grows (InAttributeName t x o) (InContentEnd e y) h n m cut = absurd h
end-grows (InAttributeName t x o) (InStyleElement e y) h n m cut = absurd h
end-grows (InAttributeName t x o) (InScriptElement d e) h n m cut = absurd h
end-grows (InAttributeName t x o) (BeforeType w) h n m cut = absurd h
end-grows (InAttributeName t x o) (InType w q v k) h n m cut = absurd h
end-grows (InAttributeName t x o) (InStyle w s k) h n m cut = absurd h
end-grows (InAttributeName t x o) (InScript w s k) h n m cut = absurd h
end-grows (InStyle x s r) (InStyle y m z) h n o cut = style-ends-by x y s m r z h.0 h.1 n o
end-grows (InStyle x s r) (At p) h n o cut = under-place-ends x s r p h.0 h.1
end-grows (InStyle x s r) AfterLess h n o cut = absurd h
end-grows (InStyle x s r) AfterLessSolidus h n o cut = absurd h
end-grows (InStyle x s r) (InDeclaration d) h n o cut = absurd h
end-grows (InStyle x s r) (InTagName d e) h n o cut = absurd h
end-grows (InStyle x s r) (InAttributeName d e k) h n o cut = absurd h
end-grows (InStyle x s r) (InCommentEnd d) h n o cut = absurd h
end-grows (InStyle x s r) (InContentEnd d e) h n o cut = absurd h
end-grows (InStyle x s r) (InStyleElement d e) h n o cut = absurd h
end-grows (InStyle x s r) (InScriptElement d e) h n o cut = absurd h
end-grows (InStyle x s r) (BeforeType d) h n o cut = absurd h
end-grows (InStyle x s r) (InType d e k l) h n o cut = absurd h
end-grows (InStyle x s r) (InUrl d e k) h n o cut = absurd h
end-grows (InStyle x s r) (InScript d e k) h n o cut = absurd h
end-grows (InScript x s r) (InScript y m z) h n o cut = script-ends x y s m r z h.0 h.1 n cut
end-grows (InScript x s r) (At p) h n m cut = absurd h
end-grows (InScript x s r) AfterLess h n m cut = absurd h
end-grows (InScript x s r) AfterLessSolidus h n m cut = absurd h
end-grows (InScript x s r) (InDeclaration d) h n m cut = absurd h
end-grows (InScript x s r) (InTagName d e) h n m cut = absurd h
end-grows (InScript x s r) (InAttributeName d e k) h n m cut = absurd h
end-grows (InScript x s r) (InCommentEnd d) h n m cut = absurd h
end-grows (InScript x s r) (InContentEnd d e) h n m cut = absurd h
end-grows (InScript x s r) (InStyleElement d e) h n m cut = absurd h
end-grows (InScript x s r) (InScriptElement d e) h n m cut = absurd h
end-grows (InScript x s r) (BeforeType d) h n m cut = absurd h
end-grows (InScript x s r) (InType d e k l) h n m cut = absurd h
end-grows (InScript x s r) (InUrl d e k) h n m cut = absurd h
end-grows (InScript x s r) (InStyle d e k) h n m cut = absurd h
end-grows AfterLess g h n m cut = same-ends AfterLess g h n m refl
end-grows AfterLessSolidus g h n m cut = same-ends AfterLessSolidus g h n m refl
end-grows (InDeclaration pending) g h n m cut = same-ends (InDeclaration pending) g h n m refl
end-grows (InTagName ends name) g h n m cut = same-ends (InTagName ends name) g h n m refl
end-grows (InCommentEnd s) g h n m cut = same-ends (InCommentEnd s) g h n m refl
end-grows (InContentEnd e x) g h n m cut = same-ends (InContentEnd e x) g h n m refl
end-grows (InStyleElement s x) g h n m cut = element-ends-to s x g h n m
end-grows (InScriptElement s x) (InScriptElement k y) h n m cut = script-element-ends s k x y h.0 h.1 n
end-grows (InScriptElement s x) g h n m cut = absurd h
end-grows (BeforeType t) g h n m cut = same-ends (BeforeType t) g h n m refl
end-grows (InType t q w r) g h n m cut = same-ends (InType t q w r) g h n m refl
