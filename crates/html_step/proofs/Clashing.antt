-- Two paths that are refused together for white space: one is in a value without quotes and the other before a value. And the paths that begin a URL,
-- or are in its beginning.
use Rattle.std.proofs.Common.{◌≡◌, true, ◌&&◌, ◌||◌, List, Option, Some, None, refl, sym, ◌∙◌, subst, ℕ, Bool, if◌then◌else◌, false, option_map}
use Rattle.std.specs.Prelude.{⊤}
use Rattle.place_core.specs.page.Classes.{Class, White}
use Rattle.place_core.specs.page.References.{Reference, Closed, Open}
use Rattle.place_core.specs.place.Errors.{body_error, at_hand, quotes_error, value_error}
use Rattle.place_core.specs.place.PathPairs.{begun_clash, byte_clash, is_in_beginning, is_in_open, url_in_style}
use Rattle.place_core.specs.place.LanguagePlaces.{css_has, parts_have, js_has}
use Rattle.place_core.specs.place.Places.{Has, block_has, body_has, dash_has, is_whole, joined_quotes, quotes_have, spots_have, typed_has}
use Rattle.place_core.specs.place.StatePlaces.{only_after, only_before, only_inside, only_name, quotes_at, tag_spot, unbegun}
use Rattle.place_core.specs.place.UrlParts.{parts_of}
use Rattle.place_core.specs.page.States.{LexState, Text, TagOpen, EndTagOpen, DeclarationOpen, InComment, Inside, Broken, BogusComment, InDoctype, TagName, WholeTagName, BeforeAttributeName, AttributeName, WholeAttributeName, AfterAttributeName, BeforeAttributeValue, AttributeValue, AfterAttributeValue, SelfClosingStartTag, Characters, Bytes, InLanguage, Pending, Nothing, PendingLess, PendingName, PendingBang, PendingBangDash, PendingOpening, InContent, LessAtCut}
use Rattle.place_core.specs.page.Tags.{Value, ValueOf, Deciding, ValueState, OfKind, OfUrl, OfStyle, Quoting, DoubleQuoted, SingleQuoted, Unquoted, Tag, is_second_type, OfScript}
use Rattle.place_core.specs.declared.body.Body.{Body}
use Rattle.place_core.specs.declared.body.Body.TheVariants as body
use Rattle.place_core.specs.declared.code.Code.{Code}
use Rattle.place_core.specs.declared.code.Code.TheVariants as code
use Rattle.place_core.specs.declared.element.Element.{Element}
use Rattle.place_core.specs.declared.element.Element.TheVariants as element
use Rattle.place_core.specs.declared.js.Js.{Js}
use Rattle.place_core.specs.declared.js.Js.TheVariants as js
use Rattle.place_core.specs.declared.kind.Kind.{Kind}
use Rattle.place_core.specs.declared.kind.Kind.TheVariants as kind
use Rattle.place_core.specs.declared.member.Member.{Member}
use Rattle.place_core.specs.declared.member.Member.TheVariants as member
use Rattle.place_core.specs.declared.place.Place.{Place}
use Rattle.place_core.specs.declared.place.Place.TheVariants as place
use Rattle.place_core.specs.declared.quotes.Quotes.{Quotes}
use Rattle.place_core.specs.declared.quotes.Quotes.TheVariants as quotes
use Rattle.place_core.specs.declared.spots.Spots.{Spots}
use Rattle.place_core.specs.declared.tag_of.TagOf.{TagOf}
use Rattle.place_core.specs.declared.tag_place.TagPlace.{TagPlace}
use Rattle.place_core.specs.declared.value_place.ValuePlace.{ValuePlace}
use Rattle.place_core.proofs.JoinMembers.{the_has_grows}
use Rattle.place_core.proofs.Semilattices.{none_some}
use Rattle.html_scan.specs.Scans.{Scan, At, AfterLess, AfterLessSolidus, InDeclaration, InTagName, InAttributeName, InUrl, InStyle, InStyleElement, InCommentEnd, InContentEnd, scan_error, url_scan, value_cause, body_cause, BeforeType, InType, quoted_error, style_cause, style_feeding, InScript, InScriptElement, script_cause, script_feeding}
use Rattle.js_lexer.specs.States.{ScriptState}
use Rattle.js_lexer.specs.declared.sense.Sense.TheVariants as sense
use Rattle.js_step.specs.ScriptOrigins.{script_set_has}
use Rattle.js_step.specs.ScriptScans.{ScriptScan}
use Rattle.place_core.specs.place.ScriptParts.{script_no_tails, script_js, script_senses}
use Rattle.html_step.proofs.FromParts.{or-behind, or-either, or-first}
use Rattle.html_step.proofs.ScriptFrom.{IsScriptMember, js-is, set-is}
use Rattle.html_step.proofs.ScriptPaths.{kept_script_scanned, script_value}
use Rattle.html_step.proofs.PlaceParts.{Under, value-below}
use Rattle.html_step.proofs.ScanOrder.{ScanBelow, ScanHas, StyleUnderPlace, bare-parts, first-none, if-none, under-body}
use Rattle.html_step.proofs.StylePaths.{empty_css, style_value}
use Rattle.html_step.proofs.StyleValues.{style-in, style-out, style_has}
use Rattle.html_step.proofs.StyleValues as styles
use Rattle.html_step.proofs.FromValues.{in-quotes}
use Rattle.css_lexer.specs.Escapes.{StyleEscape, NoEscape, AfterBackslash, HexDigits, AfterReturn}
use Rattle.css_lexer.specs.PartSpots.{has_read_nothing}
use Rattle.css_lexer.specs.States.{Outside, SplitWord, Fresh, Bare, Quoted, Ended, Style, Out}
use Rattle.css_lexer.specs.States as style
use Rattle.css_step.specs.StyleOrigins.{scan_set_has, style_scan_has}
use Rattle.css_step.specs.StyleScanLaws.{style_scanned, style_scanned_outside}
use Rattle.css_step.specs.StyleScans.{StyleScan, ScanCode, ScanWord, ScanSplitEscape, ScanSolidus, ScanLessThan, ScanComment, ScanStarBefore, ScanString, ScanFresh, ScanBareUrl, ScanQuotedUrl, ScanEnded, style_split_word}
use Rattle.place_core.specs.declared.css.Css.{Css}
use Rattle.place_core.specs.declared.css.Css.TheVariants as css
use Rattle.url_lexer.specs.States.{Url}
use Rattle.html_step.proofs.FedAlike.{first-caused}
use Rattle.html_step.proofs.ElementFrom.{element-out}
use Rattle.html_step.proofs.ScriptElementSteps.{where-script-element}
use Rattle.html_step.proofs.PathScans.{WhereScanned, block_scanned, content_scanned, language_scanned, scanned, style_element_scanned, style_value_scanned, none-at-hand, url_value, script_there, script_unless_placed, script_value_scanned}
use Rattle.html_step.proofs.FromSteps.{or-false}
use Rattle.url_lexer.specs.Parts.{UrlPart, UrlStart, UrlOpen}
use Rattle.url_lexer.specs.TwoPaths.{is_open}
use Rattle.url_lexer.specs.Triples.{Triple, NoTriple, AfterPercent, AfterDigit}

no : false ≡ true → ⊥
no e = cc

neither : (x y : Bool) → x ≡ false → y ≡ false → (x || y) ≡ true → ⊥
neither false y e f h = no (sym f ∙ h)
neither true y e f h = no (sym e)

second-of : (x y : Bool) → x ≡ false → (x || y) ≡ true → y ≡ true
second-of false y e h = h
second-of true y e h = absurd (no (sym e))

both-false : (x y : Bool) → x ≡ false → y ≡ false → (x || y) ≡ false
both-false false y e f = f
both-false true y e f = e

abbrev pub IsUnquoted : LexState ValueState → Type 0
IsUnquoted (AttributeValue Unquoted t (ValueOf v) r) = ⊤
IsUnquoted s = ⊥

abbrev pub IsUnbegun : LexState ValueState → Type 0
IsUnbegun (BeforeAttributeValue t kind.ScriptType) = ⊥
IsUnbegun (BeforeAttributeValue t k) = ⊤
IsUnbegun s = ⊥

-- Members of values: two that they alone have, and the parts of a URL in which it begins and in which it has begun, which a style in an
-- element has too.
pub record OfValue (m : Member) : Type 0 where
  pub whole : is_whole m ≡ false
  pub typed : (x : Bool) → typed_has x m ≡ false
  pub spots : (s : Spots) → spots_have s m ≡ false
  pub dash : (x : Bool) → dash_has x m ≡ false
  pub block : (x : Bool) → block_has x m ≡ false
  pub script : IsScriptMember m → ⊥

of-unquoted : OfValue member.UnquotedValue
of-unquoted = record { whole = refl; typed = λ x. refl; spots = λ s. refl; dash = λ x. refl; block = λ x. refl; script = λ i. i }

of-unbegun : OfValue member.UnbegunValue
of-unbegun = record { whole = refl; typed = λ x. refl; spots = λ s. refl; dash = λ x. refl; block = λ x. refl; script = λ i. i }

of-start : OfValue member.PartStart
of-start = record { whole = refl; typed = λ x. refl; spots = λ s. refl; dash = λ x. refl; block = λ x. refl; script = λ i. i }

of-open : OfValue member.PartOpen
of-open = record { whole = refl; typed = λ x. refl; spots = λ s. refl; dash = λ x. refl; block = λ x. refl; script = λ i. i }

-- Elsewhere no path bears them.
first-where : (second : Bool) (f : Scan) (P : Scan → Type 0) → P f → WhereScanned (if second then None else Some f) P
first-where true f P h = tt
first-where false f P h = h

abbrev Lacks : Member → Scan → Type 0
Lacks m f = ScanHas f m → ⊥

no-whole : (m : Member) → OfValue m → is_whole m ≡ true → ⊥
no-whole m o h = no (sym o.whole ∙ h)

no-part : (m : Member) → OfValue m → (x : Bool) → x ≡ false → (is_whole m || x) ≡ true → ⊥
no-part m o x e h = neither (is_whole m) x o.whole e h

in-tag : (m : Member) → OfValue m → (t : TagPlace) → Lacks m (At (place.Tag t))
in-tag m o t h =
    no-part m o (typed_has t.typed m || spots_have t.spots m) (both-false (typed_has t.typed m) (spots_have t.spots m) (o.typed t.typed) (o.spots t.spots)) h

no-content : (m : Member) → OfValue m → (h : Pending) (e : Element) → WhereScanned (content_scanned h e) (Lacks m)
no-content m o Nothing element.Title = λ h. no-part m o false refl h
no-content m o Nothing element.Textarea = λ h. no-part m o false refl h
no-content m o PendingLess element.Title = λ h. no-whole m o h
no-content m o PendingLess element.Textarea = λ h. no-whole m o h
no-content m o (PendingName l) element.Title = λ h. no-whole m o h
no-content m o (PendingName l) element.Textarea = λ h. no-whole m o h
no-content m o LessAtCut e = tt
no-content m o PendingBang e = tt
no-content m o PendingBangDash e = tt
no-content m o (PendingOpening l) e = tt
no-content m o Nothing _ = tt
no-content m o PendingLess _ = tt
no-content m o (PendingName l) _ = tt

no-block : (m : Member) → OfValue m → (h : Pending) (e : Element) → WhereScanned (block_scanned h e) (Lacks m)
no-block m o Nothing element.DataBlock = λ h. no-part m o (block_has false m) (o.block false) h
no-block m o LessAtCut element.DataBlock = λ h. no-part m o (block_has true m) (o.block true) h
no-block m o PendingLess element.DataBlock = λ h. no-whole m o h
no-block m o (PendingName l) element.DataBlock = λ h. no-whole m o h
no-block m o PendingBang element.DataBlock = λ h. no-whole m o h
no-block m o PendingBangDash element.DataBlock = λ h. no-whole m o h
no-block m o Nothing _ = tt
no-block m o LessAtCut _ = tt
no-block m o PendingLess _ = tt
no-block m o (PendingName l) _ = tt
no-block m o PendingBang _ = tt
no-block m o PendingBangDash _ = tt
no-block m o (PendingOpening l) e = tt

-- nor in the content of an element that a language reads
abbrev IsNoValue : LexState ValueState → Type 0
IsNoValue (BeforeAttributeValue t k) = ⊥
IsNoValue (AttributeValue q t v r) = ⊥
IsNoValue (InContent e (InLanguage v) h) = ⊥
IsNoValue s = ⊤

no-value-in : (m : Member) → OfValue m → (s : LexState ValueState) → IsNoValue s → WhereScanned (scanned s) (Lacks m)
no-value-in m o (Text r) n = λ h. no-part m o false refl h
no-value-in m o (TagOpen r) n = λ h. no-whole m o h
no-value-in m o (EndTagOpen r) n = λ h. no-whole m o h
no-value-in m o (DeclarationOpen r pending) n = λ h. no-whole m o h
no-value-in m o (InComment Inside) n = λ h. no-part m o (dash_has false m) (o.dash false) h
no-value-in m o (InComment Broken) n = λ h. no-part m o (dash_has true m) (o.dash true) h
no-value-in m o (InComment _) n = λ h. no-whole m o h
no-value-in m o BogusComment n = tt
no-value-in m o InDoctype n = λ h. no-part m o false refl h
no-value-in m o (TagName ends name) n = λ h. no-whole m o h
no-value-in m o (WholeTagName t) n = λ h. in-tag m o (tag_spot t only_name None) h
no-value-in m o (BeforeAttributeName t) n = λ h. in-tag m o (tag_spot t only_before None) h
no-value-in m o (AttributeName t name) n = λ h. no-part m o (typed_has t.typed m) (o.typed t.typed) h
no-value-in m o (WholeAttributeName t k) n =
    first-where (is_second_type t.typed k) (At (place.Tag (tag_spot t only_inside (Some k)))) (Lacks m) (λ h. in-tag m o (tag_spot t only_inside (Some k)) h)
no-value-in m o (AfterAttributeName t k) n =
    first-where (is_second_type t.typed k) (At (place.Tag (tag_spot t only_after (Some k)))) (Lacks m) (λ h. in-tag m o (tag_spot t only_after (Some k)) h)
no-value-in m o (BeforeAttributeValue t k) n = absurd n
no-value-in m o (AttributeValue q t v r) n = absurd n
no-value-in m o (AfterAttributeValue t) n = λ h. in-tag m o (tag_spot t only_before None) h
no-value-in m o (SelfClosingStartTag t) n = λ h. in-tag m o (tag_spot t only_before None) h
no-value-in m o (InContent e (Characters r) p) n = no-content m o p e
no-value-in m o (InContent e Bytes p) n = no-block m o p e
no-value-in m o (InContent e (InLanguage v) p) n = absurd n

no-value : (m : Member) → OfValue m → (s : LexState ValueState) (g : Scan) → IsNoValue s → scanned s ≡ Some g → ScanHas g m → ⊥
no-value m o s g n e h = subst (λ (x : Option Scan). WhereScanned x (Lacks m)) e (no-value-in m o s n) h

-- Before a value, and in one, a path bears what its quotes and its part of a URL have.
of-place : (m : Member) → OfValue m → (x : ValuePlace) → Has (place.Value x) m → (quotes_have x.quotes m || body_has x.body m) ≡ true
of-place m o x h =
    let rest = quotes_have x.quotes m || body_has x.body m in
    second-of (typed_has x.typed m) rest (o.typed x.typed) (second-of (is_whole m) (typed_has x.typed m || rest) o.whole h)

url-of : (v : ValuePlace) (t : Triple) (r : Reference) (m : Member) → ScanHas (url_scan v t r) m → Has (place.Value v) m
url-of v NoTriple Closed m h = h
url-of v NoTriple (Open f bytes) m h = h
url-of v AfterPercent r m h = h
url-of v AfterDigit r m h = h

of-url : (v : ValuePlace) (t : Triple) (r : Reference) (m : Member) → Has (place.Value v) m → ScanHas (url_scan v t r) m
of-url v NoTriple Closed m h = h
of-url v NoTriple (Open f bytes) m h = h
of-url v AfterPercent r m h = h
of-url v AfterDigit r m h = h

abbrev before_has : Kind → Member → Bool
before_has kind.ScriptType m = false
before_has kind.Style m = quotes_have unbegun m || css_has empty_css m
before_has kind.Url m = quotes_have unbegun m || parts_have (parts_of UrlStart) m
before_has k m = quotes_have unbegun m || false

abbrev style_set_has : Option StyleScan → Member → Bool
style_set_has (Some n) m = scan_set_has n m
style_set_has None m = false

abbrev value_has : Value ValueState → Quotes → Member → Bool
value_has (ValueOf (OfKind k)) q m = quotes_have q m || false
value_has (ValueOf (OfUrl u)) q m = quotes_have q m || parts_have (parts_of u.part) m
value_has (ValueOf (OfStyle s)) q m = quotes_have q m || style_set_has (style_scanned s) m
value_has (ValueOf (OfScript s)) q m = quotes_have q m || false
value_has (Deciding k before) q m = false

abbrev value-of : Tag → Quotes → Body → ValuePlace
value-of t q b = record { tag = t.tag; typed = t.typed; quotes = q; body = b }

-- a script has none of them
script-less : (m : Member) → OfValue m → (q : Quotes) (x : Bool) → (x ≡ true → IsScriptMember m) → (quotes_have q m || x) ≡ true
    → (quotes_have q m || false) ≡ true
script-less m o q x f h =
    or-either ((quotes_have q m || false) ≡ true) (quotes_have q m) x h (λ k. or-first (quotes_have q m) false k) (λ k. absurd (o.script (f k)))

no-script : (m : Member) → OfValue m → (x : Bool) → (x ≡ true → IsScriptMember m) → (is_whole m || x) ≡ true → ⊥
no-script m o x f h = o.script (f (second-of (is_whole m) x o.whole h))

js-less : (m : Member) → OfValue m → (t : Tag) (q : Quotes) (j : Js) → Has (place.Value (value-of t q (body.Js j))) m → (quotes_have q m || false) ≡ true
js-less m o t q j h = script-less m o q (js_has j m) (λ k. js-is j m k) (of-place m o (value-of t q (body.Js j)) h)

before-in : (m : Member) → OfValue m → (t : Tag) (k : Kind) → WhereScanned (scanned (BeforeAttributeValue t k)) (λ f. ScanHas f m → before_has k m ≡ true)
before-in m o t kind.Plain = λ h. of-place m o (value-of t unbegun body.Plain) h
before-in m o t kind.NoHole = λ h. of-place m o (value-of t unbegun body.NoHole) h
before-in m o t kind.Style = λ h. of-place m o (value-of t unbegun (body.Css empty_css)) h
before-in m o t kind.Url = λ h. of-place m o (url_value t unbegun (parts_of UrlStart)) h
before-in m o t kind.Script = λ h. js-less m o t unbegun (js.Code (script_senses sense.Re) script_no_tails) h
before-in m o t kind.ScriptType = first-where t.typed (BeforeType t.tag) (λ f. ScanHas f m → before_has kind.ScriptType m ≡ true) (λ h. absurd (no-whole m o h))

of-style : (m : Member) → OfValue m → (v : ValuePlace) (n : StyleScan) → style_has v.typed v.quotes n m ≡ true → (quotes_have v.quotes m || scan_set_has n m) ≡ true
of-style m o v n h =
    let rest = quotes_have v.quotes m || scan_set_has n m in
    second-of (typed_has v.typed m) rest (o.typed v.typed) (second-of (is_whole m) (typed_has v.typed m || rest) o.whole h)

style-value-in : (m : Member) → OfValue m → (q : Quoting) (t : Tag) (x : Option StyleScan) (r : Reference)
    → WhereScanned (style_value_scanned q t x r) (λ f. ScanHas f m → (quotes_have (quotes_at q) m || style_set_has x m) ≡ true)
style-value-in m o q t (Some n) r = λ h. of-style m o (style_value t (quotes_at q)) n (style-out (style_value t (quotes_at q)) n r m h)
style-value-in m o q t None r = tt

of-script : (m : Member) → OfValue m → (v : ValuePlace) (n : ScriptScan) (r : Reference) → ScanHas (InScript v n r) m → (quotes_have v.quotes m || false) ≡ true
of-script m o v n r h =
    let rest = quotes_have v.quotes m || script_set_has n m in
    script-less m o v.quotes (script_set_has n m) (λ k. set-is n m k)
    (second-of (typed_has v.typed m) rest (o.typed v.typed) (second-of (is_whole m) (typed_has v.typed m || rest) o.whole h))

script-there-in : (m : Member) → OfValue m → (q : Quoting) (t : Tag) (x : Option ScriptScan) (r : Reference)
    → WhereScanned (script_there q t x r) (λ f. ScanHas f m → (quotes_have (quotes_at q) m || false) ≡ true)
script-there-in m o q t (Some n) r = λ h. of-script m o (script_value t (quotes_at q)) n r h
script-there-in m o q t None r = tt

script-placed-in : (m : Member) → OfValue m → (q : Quoting) (t : Tag) (p : Option Js) (x : Option ScriptScan)
    → WhereScanned (script_unless_placed q t (option_map body.Js p) x)
    (λ f. ScanHas f m → (quotes_have (quotes_at q) m || false) ≡ true)
script-placed-in m o q t (Some j) x = λ h. js-less m o t (quotes_at q) j h
script-placed-in m o q t None x = script-there-in m o q t x Closed

script-value-in : (m : Member) → OfValue m → (q : Quoting) (t : Tag) (s : ScriptState) (r : Reference)
    → WhereScanned (script_value_scanned q t s r) (λ f. ScanHas f m → (quotes_have (quotes_at q) m || false) ≡ true)
script-value-in m o q t s Closed = script-placed-in m o q t (script_js s) (kept_script_scanned s)
script-value-in m o q t s (Open f bytes) = script-there-in m o q t (kept_script_scanned s) (Open f bytes)

value-in : (m : Member) → OfValue m → (q : Quoting) (t : Tag) (v : Value ValueState) (r : Reference)
    → WhereScanned (scanned (AttributeValue q t v r)) (λ f. ScanHas f m → value_has v (quotes_at q) m ≡ true)
value-in m o q t (ValueOf (OfKind kind.Plain)) r = λ h. of-place m o (value-of t (quotes_at q) body.Plain) h
value-in m o q t (ValueOf (OfKind kind.NoHole)) r = λ h. of-place m o (value-of t (quotes_at q) body.NoHole) h
value-in m o q t (ValueOf (OfKind _)) r = tt
value-in m o q t (ValueOf (OfStyle s)) r = style-value-in m o q t (style_scanned s) r
value-in m o q t (ValueOf (OfScript s)) r = script-value-in m o q t s r
value-in m o q t (ValueOf (OfUrl u)) r =
    λ h. of-place m o (url_value t (quotes_at q) (parts_of u.part)) (url-of (url_value t (quotes_at q) (parts_of u.part)) u.triple r m h)
value-in m o q t (Deciding kind.ScriptType before) r =
    first-where t.typed (InType t.tag q (Deciding kind.ScriptType before) r) (λ f. ScanHas f m → false ≡ true) (λ h. absurd (no-whole m o h))
value-in m o q t (Deciding _ before) r = tt

before-bears : (m : Member) → OfValue m → (t : Tag) (k : Kind) (g : Scan) → scanned (BeforeAttributeValue t k) ≡ Some g → ScanHas g m → before_has k m ≡ true
before-bears m o t k g e h = subst (λ (x : Option Scan). WhereScanned x (λ f. ScanHas f m → before_has k m ≡ true)) e (before-in m o t k) h

value-bears : (m : Member) → OfValue m → (q : Quoting) (t : Tag) (v : Value ValueState) (r : Reference) (g : Scan) → scanned (AttributeValue q t v r) ≡ Some g
    → ScanHas g m
    → value_has v (quotes_at q) m ≡ true
value-bears m o q t v r g e h = subst (λ (x : Option Scan). WhereScanned x (λ f. ScanHas f m → value_has v (quotes_at q) m ≡ true)) e (value-in m o q t v r) h

-- In the element `style` it bears what the style has.
element-at : (m : Member) → OfValue m → (n : StyleScan) → style_scan_has n m ≡ true → scan_set_has n m ≡ true
element-at m o n h = second-of (is_whole m) (scan_set_has n m) o.whole h

element-in : (m : Member) → OfValue m → (h : Pending) (x : Option StyleScan)
    → WhereScanned (style_element_scanned h x) (λ f. ScanHas f m → style_set_has x m ≡ true)
element-in m o Nothing (Some n) = λ h. element-at m o n (element-out n m h)
element-in m o PendingLess (Some n) = λ h. element-at m o n h
element-in m o (PendingName letters) (Some n) = λ h. element-at m o n h
element-in m o LessAtCut (Some n) = tt
element-in m o PendingBang (Some n) = tt
element-in m o PendingBangDash (Some n) = tt
element-in m o (PendingOpening letters) (Some n) = tt
element-in m o h None = tt

abbrev language_has : ValueState → Member → Bool
language_has (OfStyle s) m = style_set_has (style_scanned s) m
language_has v m = false

language-in : (m : Member) → OfValue m → (e : Element) (v : ValueState) (h : Pending)
    → WhereScanned (language_scanned h e v) (λ f. ScanHas f m → language_has v m ≡ true)
language-in m o element.Style (OfStyle s) h = element-in m o h (style_scanned s)
language-in m o element.Style (OfKind k) h = tt
language-in m o element.Style (OfUrl u) h = tt
language-in m o element.Style (OfScript s) h = tt
language-in m o element.Script (OfScript s) h =
    where-script-element h s (λ f. ScanHas f m → false ≡ true) (λ j e i. λ k. absurd (no-script m o (js_has j m) (js-is j m) k))
    (λ n i. λ k. absurd (no-script m o (script_set_has n m) (set-is n m) k))
language-in m o element.Script (OfKind k) h = tt
language-in m o element.Script (OfUrl u) h = tt
language-in m o element.Script (OfStyle s) h = tt
language-in m o _ v h = tt

language-bears : (m : Member) → OfValue m → (e : Element) (v : ValueState) (p : Pending) (g : Scan) → scanned (InContent e (InLanguage v) p) ≡ Some g
    → ScanHas g m → language_has v m ≡ true
language-bears m o e v p g i h = subst (λ (x : Option Scan). WhereScanned x (λ f. ScanHas f m → language_has v m ≡ true)) i (language-in m o e v p) h

-- a style has no member of quotes
set-lacks : (n : StyleScan) → (scan_set_has n member.UnquotedValue ≡ false) × (scan_set_has n member.UnbegunValue ≡ false)
set-lacks (ScanCode x) = (refl, refl)
set-lacks (ScanWord w e) = (refl, refl)
set-lacks (ScanSplitEscape e) = (refl, refl)
set-lacks ScanSolidus = (refl, refl)
set-lacks ScanLessThan = (refl, refl)
set-lacks (ScanComment star) = (refl, refl)
set-lacks ScanStarBefore = (refl, refl)
set-lacks (ScanString q e) = (refl, refl)
set-lacks ScanFresh = (refl, refl)
set-lacks (ScanBareUrl s t) = (refl, refl)
set-lacks (ScanQuotedUrl q e s t) = (refl, refl)
set-lacks ScanEnded = (refl, refl)

no-set : (x : Option StyleScan) → (style_set_has x member.UnquotedValue ≡ false) × (style_set_has x member.UnbegunValue ≡ false)
no-set (Some n) = set-lacks n
no-set None = (refl, refl)

css-lacks : (c : Css) → (css_has c member.UnquotedValue ≡ false) × (css_has c member.UnbegunValue ≡ false)
css-lacks (css.Code x) = (refl, refl)
css-lacks css.Dq = (refl, refl)
css-lacks css.Sq = (refl, refl)
css-lacks css.UrlFresh = (refl, refl)
css-lacks (css.Url s) = (refl, refl)
css-lacks (css.UrlDq s) = (refl, refl)
css-lacks (css.UrlSq s) = (refl, refl)
css-lacks css.UrlEnd = (refl, refl)
css-lacks (css.Comment x) = (refl, refl)

first-of : (x y : Bool) → y ≡ false → (x || y) ≡ true → x ≡ true
first-of true y e h = refl
first-of false y e h = absurd (no (sym e ∙ h))

-- so which paths bear these members
unquoted-before : (k : Kind) → before_has k member.UnquotedValue ≡ true → ⊥
unquoted-before kind.ScriptType h = no h
unquoted-before kind.Url h = no h
unquoted-before _ h = no h

unquoted-value : (q : Quoting) (t : Tag) (v : Value ValueState) (r : Reference) → value_has v (quotes_at q) member.UnquotedValue ≡ true
    → IsUnquoted (AttributeValue q t v r)
unquoted-value Unquoted t (ValueOf v) r h = tt
unquoted-value DoubleQuoted t (ValueOf (OfKind k)) r h = absurd (no h)
unquoted-value DoubleQuoted t (ValueOf (OfUrl u)) r h = absurd (no h)
unquoted-value DoubleQuoted t (ValueOf (OfScript s)) r h = absurd (no h)
unquoted-value DoubleQuoted t (ValueOf (OfStyle s)) r h = absurd (no (sym (no-set (style_scanned s)).0 ∙ h))
unquoted-value SingleQuoted t (ValueOf (OfKind k)) r h = absurd (no h)
unquoted-value SingleQuoted t (ValueOf (OfUrl u)) r h = absurd (no h)
unquoted-value SingleQuoted t (ValueOf (OfScript s)) r h = absurd (no h)
unquoted-value SingleQuoted t (ValueOf (OfStyle s)) r h = absurd (no (sym (no-set (style_scanned s)).0 ∙ h))
unquoted-value q t (Deciding k before) r h = absurd (no h)

unquoted-language : (v : ValueState) → language_has v member.UnquotedValue ≡ true → ⊥
unquoted-language (OfStyle s) h = no (sym (no-set (style_scanned s)).0 ∙ h)
unquoted-language (OfKind k) h = no h
unquoted-language (OfUrl u) h = no h
unquoted-language (OfScript s) h = no h

pub is-unquoted : (s : LexState ValueState) (g : Scan) → scanned s ≡ Some g → ScanHas g member.UnquotedValue → IsUnquoted s
is-unquoted (BeforeAttributeValue t k) g e h = absurd (unquoted-before k (before-bears member.UnquotedValue of-unquoted t k g e h))
is-unquoted (AttributeValue q t v r) g e h = unquoted-value q t v r (value-bears member.UnquotedValue of-unquoted q t v r g e h)
is-unquoted (InContent x (InLanguage v) p) g e h = absurd (unquoted-language v (language-bears member.UnquotedValue of-unquoted x v p g e h))
is-unquoted s g e h = absurd (no-value member.UnquotedValue of-unquoted s g tt e h)

unbegun-before : (t : Tag) (k : Kind) → before_has k member.UnbegunValue ≡ true → IsUnbegun (BeforeAttributeValue t k)
unbegun-before t kind.ScriptType h = absurd (no h)
unbegun-before t _ h = tt

unbegun-value : (q : Quoting) (v : Value ValueState) → value_has v (quotes_at q) member.UnbegunValue ≡ true → ⊥
unbegun-value Unquoted (ValueOf (OfKind k)) h = no h
unbegun-value Unquoted (ValueOf (OfUrl u)) h = no h
unbegun-value Unquoted (ValueOf (OfScript s)) h = no h
unbegun-value DoubleQuoted (ValueOf (OfKind k)) h = no h
unbegun-value DoubleQuoted (ValueOf (OfUrl u)) h = no h
unbegun-value DoubleQuoted (ValueOf (OfScript s)) h = no h
unbegun-value SingleQuoted (ValueOf (OfKind k)) h = no h
unbegun-value SingleQuoted (ValueOf (OfUrl u)) h = no h
unbegun-value SingleQuoted (ValueOf (OfScript s)) h = no h
unbegun-value Unquoted (ValueOf (OfStyle s)) h = no (sym (no-set (style_scanned s)).1 ∙ h)
unbegun-value DoubleQuoted (ValueOf (OfStyle s)) h = no (sym (no-set (style_scanned s)).1 ∙ h)
unbegun-value SingleQuoted (ValueOf (OfStyle s)) h = no (sym (no-set (style_scanned s)).1 ∙ h)
unbegun-value q (Deciding k before) h = no h

unbegun-language : (v : ValueState) → language_has v member.UnbegunValue ≡ true → ⊥
unbegun-language (OfStyle s) h = no (sym (no-set (style_scanned s)).1 ∙ h)
unbegun-language (OfKind k) h = no h
unbegun-language (OfUrl u) h = no h
unbegun-language (OfScript s) h = no h

pub is-unbegun : (s : LexState ValueState) (g : Scan) → scanned s ≡ Some g → ScanHas g member.UnbegunValue → IsUnbegun s
is-unbegun (BeforeAttributeValue t k) g e h = unbegun-before t k (before-bears member.UnbegunValue of-unbegun t k g e h)
is-unbegun (AttributeValue q t v r) g e h = absurd (unbegun-value q v (value-bears member.UnbegunValue of-unbegun q t v r g e h))
is-unbegun (InContent x (InLanguage v) p) g e h = absurd (unbegun-language v (language-bears member.UnbegunValue of-unbegun x v p g e h))
is-unbegun s g e h = absurd (no-value member.UnbegunValue of-unbegun s g tt e h)

-- a path on which a URL begins, which may be in a style
abbrev pub IsStart : Option Url → Type 0
IsStart (Some u) = u.part ≡ UrlStart
IsStart None = ⊥

abbrev pub StartsUrl : LexState ValueState → Type 0
StartsUrl (BeforeAttributeValue t kind.Url) = ⊤
StartsUrl (AttributeValue q t (ValueOf (OfUrl u)) r) = u.part ≡ UrlStart
StartsUrl (AttributeValue q t (ValueOf (OfStyle s)) r) = IsStart (url_in_style s)
StartsUrl (InContent e (InLanguage (OfStyle s)) h) = IsStart (url_in_style s)
StartsUrl s = ⊥

start-part : (p : UrlPart) → parts_have (parts_of p) member.PartStart ≡ true → p ≡ UrlStart
start-part UrlStart h = refl
start-part _ h = absurd (no h)

open-part : (p : UrlPart) → parts_have (parts_of p) member.PartOpen ≡ is_open p
open-part (UrlOpen x) = refl
open-part _ = refl

split-start : (e : StyleEscape) → scan_set_has (style_split_word e) member.PartStart ≡ false
split-start NoEscape = refl
split-start AfterBackslash = refl
split-start (HexDigits n) = refl
split-start AfterReturn = refl

out-start : (o : Outside) → style_set_has (style_scanned_outside o) member.PartStart ≡ false
out-start (SplitWord e) = split-start e
out-start _ = refl

split-open : (e : StyleEscape) → scan_set_has (style_split_word e) member.PartOpen ≡ false
split-open NoEscape = refl
split-open AfterBackslash = refl
split-open (HexDigits n) = refl
split-open AfterReturn = refl

out-open : (o : Outside) → style_set_has (style_scanned_outside o) member.PartOpen ≡ false
out-open (SplitWord e) = split-open e
out-open _ = refl

fresh-start : (x : Bool) → style_set_has (if x then Some ScanFresh else None) member.PartStart ≡ true → ⊥
fresh-start true h = no h
fresh-start false h = no h

fresh-open : (x : Bool) → style_set_has (if x then Some ScanFresh else None) member.PartOpen ≡ true → ⊥
fresh-open true h = no h
fresh-open false h = no h

style-start : (s : Style Url) → style_set_has (style_scanned s) member.PartStart ≡ true → IsStart (url_in_style s)
style-start (Out o) h = no (sym (out-start o) ∙ h)
style-start (style.InUrl Fresh u) h = fresh-start (has_read_nothing u) h
style-start (style.InUrl Bare u) h = start-part u.part h
style-start (style.InUrl (Quoted q e) u) h = start-part u.part h
style-start (style.InUrl Ended u) h = no h

style-open : (s : Style Url) → style_set_has (style_scanned s) member.PartOpen ≡ true → is_in_open (url_in_style s) ≡ true
style-open (Out o) h = absurd (no (sym (out-open o) ∙ h))
style-open (style.InUrl Fresh u) h = absurd (fresh-open (has_read_nothing u) h)
style-open (style.InUrl Bare u) h = sym (open-part u.part) ∙ h
style-open (style.InUrl (Quoted q e) u) h = sym (open-part u.part) ∙ h
style-open (style.InUrl Ended u) h = absurd (no h)

start-before : (t : Tag) (k : Kind) → before_has k member.PartStart ≡ true → StartsUrl (BeforeAttributeValue t k)
start-before t kind.Url h = tt
start-before t kind.ScriptType h = absurd (no h)
start-before t _ h = absurd (no h)

no-start : (q : Quotes) → quotes_have q member.PartStart ≡ false
no-start quotes.Dq = refl
no-start quotes.Sq = refl
no-start (quotes.Bare b) = refl

no-open : (q : Quotes) → quotes_have q member.PartOpen ≡ false
no-open quotes.Dq = refl
no-open quotes.Sq = refl
no-open (quotes.Bare b) = refl

start-value : (q : Quoting) (t : Tag) (v : Value ValueState) (r : Reference) → value_has v (quotes_at q) member.PartStart ≡ true
    → StartsUrl (AttributeValue q t v r)
start-value q t (ValueOf (OfKind k)) r h = absurd (neither (quotes_have (quotes_at q) member.PartStart) false (no-start (quotes_at q)) refl h)
start-value q t (ValueOf (OfStyle s)) r h =
    style-start s (second-of (quotes_have (quotes_at q) member.PartStart) (style_set_has (style_scanned s) member.PartStart) (no-start (quotes_at q)) h)
start-value q t (ValueOf (OfUrl u)) r h =
    start-part u.part (second-of (quotes_have (quotes_at q) member.PartStart) (parts_have (parts_of u.part) member.PartStart) (no-start (quotes_at q)) h)
start-value q t (ValueOf (OfScript s)) r h = absurd (neither (quotes_have (quotes_at q) member.PartStart) false (no-start (quotes_at q)) refl h)
start-value q t (Deciding k before) r h = absurd (no h)

start-language : (e : Element) (v : ValueState) (p : Pending) → language_has v member.PartStart ≡ true → StartsUrl (InContent e (InLanguage v) p)
start-language e (OfStyle s) p h = style-start s h
start-language e (OfKind k) p h = absurd (no h)
start-language e (OfUrl u) p h = absurd (no h)
start-language e (OfScript s) p h = absurd (no h)

pub is-start : (s : LexState ValueState) (g : Scan) → scanned s ≡ Some g → ScanHas g member.PartStart → StartsUrl s
is-start (BeforeAttributeValue t k) g e h = start-before t k (before-bears member.PartStart of-start t k g e h)
is-start (AttributeValue q t v r) g e h = start-value q t v r (value-bears member.PartStart of-start q t v r g e h)
is-start (InContent x (InLanguage v) p) g e h = start-language x v p (language-bears member.PartStart of-start x v p g e h)
is-start s g e h = absurd (no-value member.PartStart of-start s g tt e h)

open-before : (k : Kind) → before_has k member.PartOpen ≡ true → ⊥
open-before kind.Url h = no h
open-before kind.ScriptType h = no h
open-before _ h = no h

open-value : (q : Quoting) (t : Tag) (v : Value ValueState) (r : Reference) → value_has v (quotes_at q) member.PartOpen ≡ true
    → is_in_beginning (AttributeValue q t v r) ≡ true
open-value q t (ValueOf (OfKind k)) r h = absurd (neither (quotes_have (quotes_at q) member.PartOpen) false (no-open (quotes_at q)) refl h)
open-value q t (ValueOf (OfStyle s)) r h =
    style-open s (second-of (quotes_have (quotes_at q) member.PartOpen) (style_set_has (style_scanned s) member.PartOpen) (no-open (quotes_at q)) h)
open-value q t (ValueOf (OfUrl u)) r h =
    sym (open-part u.part) ∙ second-of (quotes_have (quotes_at q) member.PartOpen) (parts_have (parts_of u.part) member.PartOpen) (no-open (quotes_at q)) h
open-value q t (ValueOf (OfScript s)) r h = absurd (neither (quotes_have (quotes_at q) member.PartOpen) false (no-open (quotes_at q)) refl h)
open-value q t (Deciding k before) r h = absurd (no h)

open-language : (e : Element) (v : ValueState) (p : Pending) → language_has v member.PartOpen ≡ true → is_in_beginning (InContent e (InLanguage v) p) ≡ true
open-language e (OfStyle s) p h = style-open s h
open-language e (OfKind k) p h = absurd (no h)
open-language e (OfUrl u) p h = absurd (no h)
open-language e (OfScript s) p h = absurd (no h)

pub is-open : (s : LexState ValueState) (g : Scan) → scanned s ≡ Some g → ScanHas g member.PartOpen → is_in_beginning s ≡ true
is-open (BeforeAttributeValue t k) g e h = absurd (open-before k (before-bears member.PartOpen of-open t k g e h))
is-open (AttributeValue q t v r) g e h = open-value q t v r (value-bears member.PartOpen of-open q t v r g e h)
is-open (InContent x (InLanguage v) p) g e h = open-language x v p (language-bears member.PartOpen of-open x v p g e h)
is-open s g e h = absurd (no-value member.PartOpen of-open s g tt e h)

-- what these paths bear
style-unquoted : (t : Tag) (x : Option StyleScan) (r : Reference) → WhereScanned (style_value_scanned Unquoted t x r) (λ f. ScanHas f member.UnquotedValue)
style-unquoted t (Some n) r = style-in (style_value t (quotes_at Unquoted)) n r member.UnquotedValue refl
style-unquoted t None r = tt

script-there-unquoted : (t : Tag) (x : Option ScriptScan) (r : Reference) → WhereScanned (script_there Unquoted t x r) (λ f. ScanHas f member.UnquotedValue)
script-there-unquoted t (Some n) r = refl
script-there-unquoted t None r = tt

script-placed-unquoted : (t : Tag) (p : Option Js) (x : Option ScriptScan)
    → WhereScanned (script_unless_placed Unquoted t (option_map body.Js p) x)
    (λ f. ScanHas f member.UnquotedValue)
script-placed-unquoted t (Some j) x = refl
script-placed-unquoted t None x = script-there-unquoted t x Closed

script-unquoted : (t : Tag) (s : ScriptState) (r : Reference) → WhereScanned (script_value_scanned Unquoted t s r) (λ f. ScanHas f member.UnquotedValue)
script-unquoted t s Closed = script-placed-unquoted t (script_js s) (kept_script_scanned s)
script-unquoted t s (Open f bytes) = script-there-unquoted t (kept_script_scanned s) (Open f bytes)

unquoted-bears : (t : Tag) (v : ValueState) (r : Reference)
    → WhereScanned (scanned (AttributeValue Unquoted t (ValueOf v) r)) (λ f. ScanHas f member.UnquotedValue)
unquoted-bears t (OfKind kind.Plain) r = refl
unquoted-bears t (OfKind kind.NoHole) r = refl
unquoted-bears t (OfKind _) r = tt
unquoted-bears t (OfScript s) r = script-unquoted t s r
unquoted-bears t (OfStyle s) r = style-unquoted t (style_scanned s) r
unquoted-bears t (OfUrl u) r = of-url (url_value t (quotes_at Unquoted) (parts_of u.part)) u.triple r member.UnquotedValue refl

has-unquoted-in : (s : LexState ValueState) → IsUnquoted s → WhereScanned (scanned s) (λ f. ScanHas f member.UnquotedValue)
has-unquoted-in (AttributeValue Unquoted t (ValueOf v) r) a = unquoted-bears t v r
has-unquoted-in (AttributeValue Unquoted t (Deciding k before) r) a = absurd a
has-unquoted-in (AttributeValue DoubleQuoted t v r) a = absurd a
has-unquoted-in (AttributeValue SingleQuoted t v r) a = absurd a
has-unquoted-in _ a = absurd a

has-unbegun-in : (s : LexState ValueState) → IsUnbegun s → WhereScanned (scanned s) (λ f. ScanHas f member.UnbegunValue)
has-unbegun-in (BeforeAttributeValue t kind.Plain) a = refl
has-unbegun-in (BeforeAttributeValue t kind.NoHole) a = refl
has-unbegun-in (BeforeAttributeValue t kind.Url) a = refl
has-unbegun-in (BeforeAttributeValue t kind.Style) a = refl
has-unbegun-in (BeforeAttributeValue t kind.Script) a = refl
has-unbegun-in (BeforeAttributeValue t kind.ScriptType) a = absurd a
has-unbegun-in _ a = absurd a

pub has-unquoted : (s : LexState ValueState) (g : Scan) → scanned s ≡ Some g → IsUnquoted s → ScanHas g member.UnquotedValue
has-unquoted s g e a = subst (λ (o : Option Scan). WhereScanned o (λ f. ScanHas f member.UnquotedValue)) e (has-unquoted-in s a)

pub has-unbegun : (s : LexState ValueState) (g : Scan) → scanned s ≡ Some g → IsUnbegun s → ScanHas g member.UnbegunValue
has-unbegun s g e a = subst (λ (o : Option Scan). WhereScanned o (λ f. ScanHas f member.UnbegunValue)) e (has-unbegun-in s a)

-- Two such paths clash.
begun : (k : Kind) (t : Tag) → IsUnbegun (BeforeAttributeValue t k) → begun_clash k ≡ Some code.AmbigContext
begun kind.ScriptType t a = absurd a
begun _ t a = refl

unbegun-white : (s : LexState ValueState) (t : Tag) (v : ValueState) (x : Reference) → IsUnbegun s
    → byte_clash (AttributeValue Unquoted t (ValueOf v) x) s White ≡ Some code.AmbigContext
unbegun-white (BeforeAttributeValue u k) t v x a = begun k u a
unbegun-white _ t v x a = absurd a

pub clash : (s r : LexState ValueState) → IsUnquoted s → IsUnbegun r → byte_clash s r White ≡ Some code.AmbigContext
clash (AttributeValue Unquoted t (ValueOf v) x) r a c = unbegun-white r t v x c
clash (AttributeValue Unquoted t (Deciding k before) x) r a c = absurd a
clash (AttributeValue DoubleQuoted t v x) r a c = absurd a
clash (AttributeValue SingleQuoted t v x) r a c = absurd a
clash _ r a c = absurd a

-- and no others
pub data ClashIs (s r : LexState ValueState) (c : Class) : Type 0 where
  white_first : c ≡ White → IsUnbegun s → IsUnquoted r → ClashIs s r c
  white_second : c ≡ White → IsUnquoted s → IsUnbegun r → ClashIs s r c

is-begun : (k : Kind) (t : Tag) (e : Code) → begun_clash k ≡ Some e → IsUnbegun (BeforeAttributeValue t k)
is-begun kind.ScriptType t e h = absurd (none_some e h)
is-begun _ t e h = tt

before-white : (t : Tag) (k : Kind) (r : LexState ValueState) (c : Class) (e : Code) → byte_clash (BeforeAttributeValue t k) r c ≡ Some e
    → ClashIs (BeforeAttributeValue t k) r c
before-white t k (AttributeValue Unquoted u (ValueOf v) x) White e h = white_first refl (is-begun k t e h) tt
before-white t k (AttributeValue Unquoted u (ValueOf v) x) _ e h = absurd (none_some e h)
before-white t k (AttributeValue Unquoted u (Deciding j before) x) c e h = absurd (none_some e h)
before-white t k (AttributeValue DoubleQuoted u v x) c e h = absurd (none_some e h)
before-white t k (AttributeValue SingleQuoted u v x) c e h = absurd (none_some e h)
before-white t k _ c e h = absurd (none_some e h)

unquoted-white : (t : Tag) (v : ValueState) (x : Reference) (r : LexState ValueState) (c : Class) (e : Code)
    → byte_clash (AttributeValue Unquoted t (ValueOf v) x) r c ≡ Some e
    → ClashIs (AttributeValue Unquoted t (ValueOf v) x) r c
unquoted-white t v x (BeforeAttributeValue u k) White e h = white_second refl tt (is-begun k u e h)
unquoted-white t v x (BeforeAttributeValue u k) _ e h = absurd (none_some e h)
unquoted-white t v x _ c e h = absurd (none_some e h)

pub clash-is : (s r : LexState ValueState) (c : Class) (e : Code) → byte_clash s r c ≡ Some e → ClashIs s r c
clash-is (BeforeAttributeValue t k) r c e h = before-white t k r c e h
clash-is (AttributeValue Unquoted t (ValueOf v) x) r c e h = unquoted-white t v x r c e h
clash-is (AttributeValue Unquoted t (Deciding k before) x) r c e h = absurd (none_some e h)
clash-is (AttributeValue DoubleQuoted t v x) r c e h = absurd (none_some e h)
clash-is (AttributeValue SingleQuoted t v x) r c e h = absurd (none_some e h)
clash-is _ r c e h = absurd (none_some e h)

-- A larger scan state has the members of a smaller one that values have.
no-value-has : (m : Member) → OfValue m → (t : TagOf) (typed : Bool) (name : List ℕ) → Lacks m (InAttributeName t typed name)
no-value-has m o t typed name h = no-part m o (typed_has typed m) (o.typed typed) h

at-grows : (a : Place) (f : Scan) (m : Member) → ScanBelow (At a) f → Has a m → ScanHas f m
at-grows a (At b) m l h = the_has_grows a b m l h
at-grows a AfterLess m l h = absurd l
at-grows a AfterLessSolidus m l h = absurd l
at-grows a (InDeclaration x) m l h = absurd l
at-grows a (InTagName x y) m l h = absurd l
at-grows a (InAttributeName t x y) m l h = absurd l
at-grows a (InUrl v t r) m l h = absurd l
at-grows a (InStyle v s r) m l h = absurd l
at-grows a (InScript v s r) m l h = absurd l
at-grows a (InCommentEnd x) m l h = absurd l
at-grows a (InContentEnd x y) m l h = absurd l
at-grows a (InStyleElement x y) m l h = absurd l
at-grows a (InScriptElement x y) m l h = absurd l
at-grows a (BeforeType t) m l h = absurd l
at-grows a (InType t q v r) m l h = absurd l

url-grows : (v : ValuePlace) (t : Triple) (r : Reference) (f : Scan) (m : Member) → ScanBelow (InUrl v t r) f → Has (place.Value v) m → ScanHas f m
url-grows v t r (InUrl w u z) m l h = the_has_grows (place.Value v) (place.Value w) m (value-below v w l.0) h
url-grows v t r (At b) m l h = absurd l
url-grows v t r AfterLess m l h = absurd l
url-grows v t r AfterLessSolidus m l h = absurd l
url-grows v t r (InDeclaration x) m l h = absurd l
url-grows v t r (InTagName x y) m l h = absurd l
url-grows v t r (InAttributeName u x y) m l h = absurd l
url-grows v t r (InStyle w s z) m l h = absurd l
url-grows v t r (InScript w s z) m l h = absurd l
url-grows v t r (InCommentEnd x) m l h = absurd l
url-grows v t r (InContentEnd x y) m l h = absurd l
url-grows v t r (InStyleElement x y) m l h = absurd l
url-grows v t r (InScriptElement x y) m l h = absurd l
url-grows v t r (BeforeType u) m l h = absurd l
url-grows v t r (InType u q w z) m l h = absurd l

-- in a style by its quotes
true-under : (x y : Bool) → Under x y → x ≡ true → y ≡ true
true-under true y u h = sym u
true-under false y u h = absurd (no h)

quotes-grow : (p q : Quotes) (m : Member) → joined_quotes p q ≡ Some q → quotes_have p m ≡ true → quotes_have q m ≡ true
quotes-grow (quotes.Bare x) (quotes.Bare y) member.UnquotedValue j h = true-under x.uq y.uq (bare-parts x y j).0 h
quotes-grow (quotes.Bare x) (quotes.Bare y) member.UnbegunValue j h = true-under x.unbegun y.unbegun (bare-parts x y j).1 h
quotes-grow (quotes.Bare x) (quotes.Bare y) _ j h = absurd (no h)
quotes-grow (quotes.Bare x) q m j h = absurd (none_some q j)
quotes-grow quotes.Dq q m j h = absurd (no h)
quotes-grow quotes.Sq q m j h = absurd (no h)

under-grows : (v : ValuePlace) (n : StyleScan) (p : Place) (m : Member) → StyleUnderPlace v n p → quotes_have v.quotes m ≡ true → Has p m
under-grows v n (place.Value w) m l h = in-quotes w.typed w.quotes w.body m (quotes-grow v.quotes w.quotes m (under-body v n w w.body l).2.quotes h)
under-grows v n _ m l h = absurd l

style-grows : (v : ValuePlace) (n : StyleScan) (r : Reference) (f : Scan) (m : Member) → ScanBelow (InStyle v n r) f → quotes_have v.quotes m ≡ true → ScanHas f m
style-grows v n r (At p) m l h = under-grows v n p m l.0 h
style-grows v n r (InStyle w x z) m l h = styles.in-quotes w.typed w.quotes x m (quotes-grow v.quotes w.quotes m l.0.quotes h)
style-grows v n r _ m l h = absurd l

-- and in a script
script-grows : (v : ValuePlace) (n : ScriptScan) (r : Reference) (f : Scan) (m : Member) → ScanBelow (InScript v n r) f → quotes_have v.quotes m ≡ true → ScanHas f m
script-grows v n r (InScript w x z) m l h =
    or-behind (is_whole m) (typed_has w.typed m || (quotes_have w.quotes m || script_set_has x m))
    (or-behind (typed_has w.typed m) (quotes_have w.quotes m || script_set_has x m)
    (or-first (quotes_have w.quotes m) (script_set_has x m) (quotes-grow v.quotes w.quotes m l.0.quotes h)))
script-grows v n r _ m l h = absurd l

has-grows : (m : Member) → OfValue m → ((n : StyleScan) → scan_set_has n m ≡ false) → (g f : Scan) → ScanBelow g f → ScanHas g m → ScanHas f m
has-grows m o k (At a) f l h = at-grows a f m l h
has-grows m o k (InUrl v t r) f l h = url-grows v t r f m l h
has-grows m o k (InStyle v n r) f l h = style-grows v n r f m l (first-of (quotes_have v.quotes m) (scan_set_has n m) (k n) (of-style m o v n h))
has-grows m o k (InScript v n r) f l h = script-grows v n r f m l (or-false (quotes_have v.quotes m) (of-script m o v n r h))
has-grows m o k (InStyleElement n x) f l h = absurd (no (sym (k n) ∙ element-at m o n h))
has-grows m o k (InScriptElement n x) f l h = absurd (no-script m o (script_set_has n m) (set-is n m) h)
has-grows m o k (InAttributeName t typed name) f l h = absurd (no-value-has m o t typed name h)
has-grows m o k _ f l h = absurd (no-whole m o h)

pub begun-grows : (g f : Scan) → ScanBelow g f → ScanHas g member.UnquotedValue → ScanHas f member.UnquotedValue
begun-grows g f l h = has-grows member.UnquotedValue of-unquoted (λ n. (set-lacks n).0) g f l h

pub unbegun-grows : (g f : Scan) → ScanBelow g f → ScanHas g member.UnbegunValue → ScanHas f member.UnbegunValue
unbegun-grows g f l h = has-grows member.UnbegunValue of-unbegun (λ n. (set-lacks n).1) g f l h

-- a place with both refuses white space
bare-both : (t : TagOf) (q : Quotes) → quotes_have q member.UnquotedValue ≡ true → quotes_have q member.UnbegunValue ≡ true → quotes_error t q White ≡ None → ⊥
bare-both t (quotes.Bare b) h k n = no (sym (if-none (b.uq && b.unbegun) code.AmbigContext n) ∙ rw (h, k) refl)
bare-both t quotes.Dq h k n = no h
bare-both t quotes.Sq h k n = no h

unquoted-there : (b : Body) (q : Quotes) → body_error b ≡ None → (quotes_have q member.UnquotedValue || body_has b member.UnquotedValue) ≡ true
    → quotes_have q member.UnquotedValue ≡ true
unquoted-there (body.Js j) q n h =
    or-either (quotes_have q member.UnquotedValue ≡ true) (quotes_have q member.UnquotedValue) (js_has j member.UnquotedValue) h (λ k. k)
    (λ k. absurd (js-is j member.UnquotedValue k))
unquoted-there (body.Css c) q n h = first-of (quotes_have q member.UnquotedValue) (css_has c member.UnquotedValue) (css-lacks c).0 h
unquoted-there _ q n h = or-false (quotes_have q member.UnquotedValue) h

unbegun-there : (b : Body) (q : Quotes) → body_error b ≡ None → (quotes_have q member.UnbegunValue || body_has b member.UnbegunValue) ≡ true
    → quotes_have q member.UnbegunValue ≡ true
unbegun-there (body.Js j) q n h =
    or-either (quotes_have q member.UnbegunValue ≡ true) (quotes_have q member.UnbegunValue) (js_has j member.UnbegunValue) h (λ k. k)
    (λ k. absurd (js-is j member.UnbegunValue k))
unbegun-there (body.Css c) q n h = first-of (quotes_have q member.UnbegunValue) (css_has c member.UnbegunValue) (css-lacks c).1 h
unbegun-there _ q n h = or-false (quotes_have q member.UnbegunValue) h

value-both : (v : ValuePlace) (r : Reference) (b : ℕ) → Has (place.Value v) member.UnquotedValue → Has (place.Value v) member.UnbegunValue
    → value_cause v r White b ≡ None → ⊥
value-both v r b h k n =
    let m = first-caused (body_cause v.body v.quotes r White b) (at_hand (value_error v White)) n in
    let f = first-none (body_error v.body) (quotes_error v.tag v.quotes White) (none-at-hand (value_error v White) m.1) in
    bare-both v.tag v.quotes (unquoted-there v.body v.quotes f.0 (of-place member.UnquotedValue of-unquoted v h))
    (unbegun-there v.body v.quotes f.0 (of-place member.UnbegunValue of-unbegun v k)) f.1

style-both : (v : ValuePlace) (n : StyleScan) (r : Reference) (b : ℕ) → style_has v.typed v.quotes n member.UnquotedValue ≡ true
    → style_has v.typed v.quotes n member.UnbegunValue ≡ true → style_cause v n r White b ≡ None → ⊥
style-both v n r b h k o =
    let m = first-caused (quoted_error style_feeding v.quotes n r White b) (at_hand (value_error v White)) o in
    let f = first-none (body_error v.body) (quotes_error v.tag v.quotes White) (none-at-hand (value_error v White) m.1) in
    bare-both v.tag v.quotes
    (first-of (quotes_have v.quotes member.UnquotedValue) (scan_set_has n member.UnquotedValue) (set-lacks n).0 (of-style member.UnquotedValue of-unquoted v n h))
    (first-of (quotes_have v.quotes member.UnbegunValue) (scan_set_has n member.UnbegunValue) (set-lacks n).1 (of-style member.UnbegunValue of-unbegun v n k)) f.1

script-both : (v : ValuePlace) (n : ScriptScan) (r : Reference) (b : ℕ) → ScanHas (InScript v n r) member.UnquotedValue
    → ScanHas (InScript v n r) member.UnbegunValue → script_cause v n r White b ≡ None → ⊥
script-both v n r b h k o =
    let m = first-caused (quoted_error script_feeding v.quotes n r White b) (at_hand (value_error v White)) o in
    let f = first-none (body_error v.body) (quotes_error v.tag v.quotes White) (none-at-hand (value_error v White) m.1) in
    bare-both v.tag v.quotes (or-false (quotes_have v.quotes member.UnquotedValue) (of-script member.UnquotedValue of-unquoted v n r h))
    (or-false (quotes_have v.quotes member.UnbegunValue) (of-script member.UnbegunValue of-unbegun v n r k)) f.1

pub both-refuse : (f : Scan) (b : ℕ) → ScanHas f member.UnquotedValue → ScanHas f member.UnbegunValue → scan_error f White b ≡ None → ⊥
both-refuse (At (place.Value v)) b h k n = value-both v Closed b h k n
both-refuse (At (place.Script j)) b h k n = js-is j member.UnquotedValue h
both-refuse (At (place.Style j)) b h k n = no (sym (css-lacks j).0 ∙ h)
both-refuse (At _) b h k n = no h
both-refuse (InUrl v t r) b h k n = value-both v r b h k n
both-refuse (InStyle v s r) b h k n = style-both v s r b h k n
both-refuse (InScript v s r) b h k n = script-both v s r b h k n
both-refuse (InStyleElement s x) b h k n = no (sym (set-lacks s).0 ∙ h)
both-refuse (InScriptElement n x) b h k e = set-is n member.UnquotedValue h
both-refuse _ b h k n = no h
