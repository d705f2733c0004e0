-- Each member after a byte of a value that is a style, and after its end, comes from one member before it.
use Rattle.std.proofs.Common.{◌≡◌, ℕ, ◌+◌, ◌-◌, Bool, true, false, ◌||◌, ◌&&◌, List, [], ◌∷◌, ◌++◌, length, Some, None, if◌then◌else◌, refl, sym, ap, ◌∙◌, subst, ⊎_elim}
use Rattle.std.specs.Prelude.{encode_utf8}
use Rattle.css_lexer.specs.Classes.{style_class}
use Rattle.css_lexer.specs.States.{DoubleQuote, SingleQuote}
use Rattle.css_step.specs.StyleOrigins.{scan_set_has, style_scan_has}
use Rattle.css_step.specs.StyleScans.{StyleScan, ScanCode, ScanWord, ScanSplitEscape, ScanSolidus, ScanLessThan, ScanComment, ScanStarBefore, ScanString, ScanFresh, ScanBareUrl, ScanQuotedUrl, ScanEnded, is_style_start, style_scan_error, style_scan_next, style_scan_place, style_scan_start}
use Rattle.css_step.specs.StyleSetLaws.{StyleScanBelow}
use Rattle.css_step.specs.StyleTexts.{TakesStyle}
use Rattle.css_step.proofs.StyleGrowth.{empty-texts-keep-styles}
use Rattle.place_core.specs.page.Classes.{Class, White, QuotationMark, Apostrophe, LessThan, EqualsSign, GreaterThan, GraveAccent, is_equals_sign}
use Rattle.place_core.specs.page.References.{Form, Reference, Closed, Open, ReferenceStep, Grows, Closes, Breaks, as_it_stands, flushed, meaning, next_reference, plain_bytes, turn, turn_bytes, undone_byte}
use Rattle.place_core.specs.page.Tags.{feed_bytes, style_code}
use Rattle.place_core.specs.place.Errors.{at_hand, bare_error, body_error, cause_back, fed_error, flushed_error, is_unknown_name, is_written, language_error, name_error, quotes_error, turned_error, value_error}
use Rattle.place_core.specs.place.LanguagePlaces.{css_has, css_star_has, css_tails_have}
use Rattle.place_core.specs.place.StyleParts.{style_tails}
use Rattle.place_core.specs.declared.css_tails.CssTails.{CssTails}
use Rattle.place_core.specs.place.Places.{Has, IsValidQuotes, body_has, is_whole, joined_bodies, joined_quotes, quotes_have, some_bare, spots_have, typed_has}
use Rattle.place_core.specs.place.StatePlaces.{only_before, unbegun}
use Rattle.place_core.specs.declared.bare.Bare.{Bare}
use Rattle.place_core.specs.declared.body.Body.{Body}
use Rattle.place_core.specs.declared.body.Body.TheVariants as body
use Rattle.place_core.specs.declared.code.Code.TheVariants as code
use Rattle.place_core.specs.declared.css.Css.{Css}
use Rattle.place_core.specs.declared.css.Css.TheVariants as css
use Rattle.place_core.specs.declared.member.Member.{Member}
use Rattle.place_core.specs.declared.member.Member.TheVariants as member
use Rattle.place_core.specs.declared.place.Place.TheVariants as place
use Rattle.place_core.specs.declared.quotes.Quotes.{Quotes}
use Rattle.place_core.specs.declared.quotes.Quotes.TheVariants as quotes
use Rattle.place_core.specs.declared.value_place.ValuePlace.{ValuePlace}
use Rattle.place_core.proofs.Semilattices.{no_map, none_some}
use Rattle.place_core.proofs.Joins.{places_same}
use Rattle.html_scan.specs.Scans.{Scan, At, InStyle, bare_begun, bare_leads, bare_white, body_cause, content_scan, empty_style_between, in_tag, quoted_error, quotes_lead, scan_cut_error, scan_next, scan_place, style_cause, style_fed, style_feeding, style_scan, style_value_next, value_between, value_cause, value_fed, value_next, with_quotes, with_style, written_error}
use Rattle.html_step.specs.Origins.{body_origin, fed_in, in_body_origin, in_value_origin, style_end_origin, style_fed_origin, typed_origin, unsensed, value_origin}
use Rattle.html_step.proofs.BelowScans.{below-at-value, below-style, whole-in}
use Rattle.html_step.proofs.FromParts.{first-no-cause, no-cause-back, or-behind, or-either, or-first}
use Rattle.html_step.proofs.FromValues.{From, FromEnd, content-from, url-kept, typed-more}
use Rattle.html_step.proofs.PathScans.{none-at-hand, some}
use Rattle.html_step.proofs.PlaceParts.{Under, below-value}
use Rattle.html_step.proofs.ScanOrder.{BegunWhereOpen, HasBegun, ScanHas, ScanValid, StyleValueBelow, bare-parts, bare-white, begun-open, begun-valid, first-none, if-none, starts-in-order}
use Rattle.html_step.proofs.StyleOrder.{style-fed-grow}
use Rattle.url_lexer.specs.Triples.{NoTriple}
use Rattle.html_step.proofs.FedAlike.{BegunIf}
use Rattle.html_step.proofs.StyleFrom.{has-set, quoted-placed, set-placed, style-end-from, style-fed-from, style-fed-typed, style-fed-whole}

no : false ≡ true → ⊥
no e = cc

-- What a value that is a style has: the whole, whether a `type` may have been seen, and the members of its quotes and of the scan state of the style.
abbrev pub style_has : Bool → Quotes → StyleScan → Member → Bool
style_has x q n y = is_whole y || (typed_has x y || (quotes_have q y || scan_set_has n y))

pub in-whole : (x : Bool) (q : Quotes) (n : StyleScan) (y : Member) → is_whole y ≡ true → style_has x q n y ≡ true
in-whole x q n y h = or-first (is_whole y) (typed_has x y || (quotes_have q y || scan_set_has n y)) h

pub in-typed : (x : Bool) (q : Quotes) (n : StyleScan) (y : Member) → typed_has x y ≡ true → style_has x q n y ≡ true
in-typed x q n y h = or-behind (is_whole y) (typed_has x y || (quotes_have q y || scan_set_has n y)) (or-first (typed_has x y) (quotes_have q y || scan_set_has n y) h)

pub in-quotes : (x : Bool) (q : Quotes) (n : StyleScan) (y : Member) → quotes_have q y ≡ true → style_has x q n y ≡ true
in-quotes x q n y h =
    or-behind (is_whole y) (typed_has x y || (quotes_have q y || scan_set_has n y))
    (or-behind (typed_has x y) (quotes_have q y || scan_set_has n y) (or-first (quotes_have q y) (scan_set_has n y) h))

pub in-set : (x : Bool) (q : Quotes) (n : StyleScan) (y : Member) → scan_set_has n y ≡ true → style_has x q n y ≡ true
in-set x q n y h =
    or-behind (is_whole y) (typed_has x y || (quotes_have q y || scan_set_has n y))
    (or-behind (typed_has x y) (quotes_have q y || scan_set_has n y) (or-behind (quotes_have q y) (scan_set_has n y) h))

pub style-cases : (P : Type 0) (x : Bool) (q : Quotes) (n : StyleScan) (y : Member) → style_has x q n y ≡ true → (is_whole y ≡ true → P) → (typed_has x y ≡ true → P)
    → (quotes_have q y ≡ true → P) → (scan_set_has n y ≡ true → P) → P
style-cases P x q n y h e f g k =
    or-either P (is_whole y) (typed_has x y || (quotes_have q y || scan_set_has n y)) h e
    (λ i. or-either P (typed_has x y) (quotes_have q y || scan_set_has n y) i f (λ j. or-either P (quotes_have q y) (scan_set_has n y) j g k))

-- what a scan state of a style has, the value has
pub in-scan : (x : Bool) (q : Quotes) (n : StyleScan) (y : Member) → style_scan_has n y ≡ true → style_has x q n y ≡ true
in-scan x q n y h = or-either (style_has x q n y ≡ true) (is_whole y) (scan_set_has n y) h (λ k. in-whole x q n y k) (λ k. in-set x q n y k)

-- A place of a style has what the scan state there has.
star-none : (y : Member) → css_has (css.Comment false) y ≡ false
star-none member.CssStar = refl
star-none _ = refl

pub start-has : (n : StyleScan) (y : Member) → is_style_start n ≡ true → css_has (style_scan_place n) y ≡ scan_set_has n y
start-has (ScanCode x) y h = refl
start-has (ScanWord w e) y h = absurd (no h)
start-has (ScanSplitEscape e) y h = absurd (no h)
start-has ScanSolidus y h = absurd (no h)
start-has ScanLessThan y h = absurd (no h)
start-has (ScanComment true) y h = absurd (no h)
start-has (ScanComment false) y h = star-none y
start-has ScanStarBefore y h = refl
start-has (ScanString DoubleQuote e) y h = refl
start-has (ScanString SingleQuote e) y h = refl
start-has ScanFresh y h = refl
start-has (ScanBareUrl s t) y h = refl
start-has (ScanQuotedUrl q e s t) y h = sym (quoted-placed q s y)
start-has ScanEnded y h = refl

pub css-set : (c : Css) (y : Member) → css_has c y ≡ scan_set_has (style_scan_start c) y
css-set c y =
    ap (λ (z : Css). css_has z y) (sym (empty-texts-keep-styles.places c).place) ∙ start-has (style_scan_start c) y (empty-texts-keep-styles.places c).start

abbrev IfStart : ValuePlace → StyleScan → Bool → Scan
IfStart v n x = if x then At (with_style v n) else InStyle v n Closed

if-in : (v : ValuePlace) (n : StyleScan) (x : Bool) (y : Member) → is_style_start n ≡ x → style_has v.typed v.quotes n y ≡ true → ScanHas (IfStart v n x) y
if-in v n true y e h = subst (λ (z : Bool). (is_whole y || (typed_has v.typed y || (quotes_have v.quotes y || z))) ≡ true) (sym (start-has n y e)) h
if-in v n false y e h = h

if-out : (v : ValuePlace) (n : StyleScan) (x : Bool) (y : Member) → is_style_start n ≡ x → ScanHas (IfStart v n x) y → style_has v.typed v.quotes n y ≡ true
if-out v n true y e h = subst (λ (z : Bool). (is_whole y || (typed_has v.typed y || (quotes_have v.quotes y || z))) ≡ true) (start-has n y e) h
if-out v n false y e h = h

pub style-in : (v : ValuePlace) (n : StyleScan) (r : Reference) (y : Member) → style_has v.typed v.quotes n y ≡ true → ScanHas (style_scan v n r) y
style-in v n Closed y h = if-in v n (is_style_start n) y refl h
style-in v n (Open f l) y h = h

pub style-out : (v : ValuePlace) (n : StyleScan) (r : Reference) (y : Member) → ScanHas (style_scan v n r) y → style_has v.typed v.quotes n y ≡ true
style-out v n Closed y h = if-out v n (is_style_start n) y refl h
style-out v n (Open f l) y h = h

-- Where the members come from, before the bytes that the style is fed.
abbrev pub StyleOrigin : List ℕ → StyleScan → Member → Member
StyleOrigin bytes n y = style_fed_origin bytes n (unsensed (in_value_origin y))

whole-origin : (bytes : List ℕ) (n : StyleScan) (y : Member) → is_whole y ≡ true → StyleOrigin bytes n y ≡ member.Whole
whole-origin bytes n member.Whole h = style-fed-whole bytes n
whole-origin bytes n _ h = absurd (no h)

typed-origin : (bytes : List ℕ) (n : StyleScan) (x : Bool) (y : Member) → typed_has x y ≡ true → (StyleOrigin bytes n y ≡ member.Typed) × (x ≡ true)
typed-origin bytes n x member.Typed h = (style-fed-typed bytes n, h)
typed-origin bytes n x _ h = absurd (no h)

quotes-origin : (bytes : List ℕ) (n : StyleScan) (q : Quotes) (y : Member) → quotes_have q y ≡ true → StyleOrigin bytes n y ≡ member.Whole
quotes-origin bytes n (quotes.Bare s) member.UnquotedValue h = style-fed-whole bytes n
quotes-origin bytes n (quotes.Bare s) member.UnbegunValue h = style-fed-whole bytes n
quotes-origin bytes n (quotes.Bare s) _ h = absurd (no h)
quotes-origin bytes n quotes.Dq y h = absurd (no h)
quotes-origin bytes n quotes.Sq y h = absurd (no h)

spot-origin : (bytes : List ℕ) (n : StyleScan) (y : Member) → spots_have only_before y ≡ true → StyleOrigin bytes n y ≡ member.Whole
spot-origin bytes n member.BeforeSpot h = style-fed-whole bytes n
spot-origin bytes n _ h = absurd (no h)

-- a member of a scan state stays as it is, and is none of the others
tails-kept : (x : CssTails) (y : Member) → css_tails_have x y ≡ true → unsensed (in_value_origin y) ≡ y
tails-kept x member.CssWord h = refl
tails-kept x member.CssSlash h = refl
tails-kept x member.CssLt h = refl
tails-kept x _ h = absurd (no h)

star-kept : (y : Member) → css_star_has true y ≡ true → unsensed (in_value_origin y) ≡ y
star-kept member.CssStar h = refl
star-kept _ h = absurd (no h)

set-kept : (n : StyleScan) (y : Member) → scan_set_has n y ≡ true → unsensed (in_value_origin y) ≡ y
set-kept (ScanCode x) y h = tails-kept x y h
set-kept (ScanSplitEscape e) y h = tails-kept (style_tails true false false) y h
set-kept ScanStarBefore y h = star-kept y h
set-kept (ScanBareUrl s t) y h = url-kept s y h
set-kept (ScanQuotedUrl q e s t) y h = url-kept s y h
set-kept _ y h = absurd (no h)

set-untyped : (n : StyleScan) → scan_set_has n member.Typed ≡ true → ⊥
set-untyped (ScanCode x) h = no h
set-untyped (ScanSplitEscape e) h = no h
set-untyped ScanStarBefore h = no h
set-untyped (ScanBareUrl s t) h = no h
set-untyped (ScanQuotedUrl q e s t) h = no h
set-untyped _ h = no h

pub set-unquoted : (n : StyleScan) → scan_set_has n member.UnquotedValue ≡ true → ⊥
set-unquoted (ScanCode x) h = no h
set-unquoted (ScanSplitEscape e) h = no h
set-unquoted ScanStarBefore h = no h
set-unquoted (ScanBareUrl s t) h = no h
set-unquoted (ScanQuotedUrl q e s t) h = no h
set-unquoted _ h = no h

set-begun : (n : StyleScan) → scan_set_has n member.UnbegunValue ≡ true → ⊥
set-begun (ScanCode x) h = no h
set-begun (ScanSplitEscape e) h = no h
set-begun ScanStarBefore h = no h
set-begun (ScanBareUrl s t) h = no h
set-begun (ScanQuotedUrl q e s t) h = no h
set-begun _ h = no h

scan-untyped : (n : StyleScan) (x : Bool) (y : Member) → style_scan_has n y ≡ true → typed_has x y ≡ true → ⊥
scan-untyped n x member.Typed h k = set-untyped n h
scan-untyped n x _ h k = no k

scan-unquoted : (n : StyleScan) (q : Quotes) (y : Member) → style_scan_has n y ≡ true → quotes_have q y ≡ true → ⊥
scan-unquoted n (quotes.Bare s) member.UnquotedValue h k = set-unquoted n h
scan-unquoted n (quotes.Bare s) member.UnbegunValue h k = set-begun n h
scan-unquoted n (quotes.Bare s) _ h k = no k
scan-unquoted n quotes.Dq y h k = no k
scan-unquoted n quotes.Sq y h k = no k

-- what a value has of what a scan state has, its own scan state has
pub out-scan : (n k : StyleScan) (x : Bool) (q : Quotes) (y : Member) → style_scan_has n y ≡ true → style_has x q k y ≡ true → style_scan_has k y ≡ true
out-scan n k x q y h o =
    style-cases (style_scan_has k y ≡ true) x q k y o (λ e. or-first (is_whole y) (scan_set_has k y) e) (λ e. absurd (scan-untyped n x y h e))
    (λ e. absurd (scan-unquoted n q y h e)) (λ e. has-set k y e)

-- A value that is a style, and one below it, go on alike: the tag goes on behind both, or ends, or both go on with these quotes and the bytes that they are
-- fed.
pub data StyleAlike (u v : ValuePlace) (k n : StyleScan) (bytes : List ℕ) (f g : Scan) : Type 0 where
  style_tags : f ≡ in_tag u.tag u.typed only_before None → g ≡ in_tag v.tag v.typed only_before None → StyleAlike u v k n bytes f g
  style_ends : f ≡ content_scan u.tag → g ≡ content_scan v.tag → StyleAlike u v k n bytes f g
  style_goes : (q : Quotes) → TakesStyle bytes n → ((y : Member) → style_has u.typed q (feed_bytes style_feeding k bytes) y ≡ true → ScanHas f y)
      → ((y : Member) → ScanHas g y → style_has v.typed q (feed_bytes style_feeding n bytes) y ≡ true) → StyleAlike u v k n bytes f g

there-whole : (v : ValuePlace) (n : StyleScan) (m : Member) → m ≡ member.Whole → style_has v.typed v.quotes n m ≡ true
there-whole v n m e = subst (λ (x : Member). style_has v.typed v.quotes n x ≡ true) (sym e) refl

there-typed : (v : ValuePlace) (n : StyleScan) (m : Member) → (m ≡ member.Typed) × (v.typed ≡ true) → style_has v.typed v.quotes n m ≡ true
there-typed v n m e = subst (λ (x : Member). style_has v.typed v.quotes n x ≡ true) (sym e.0) (in-typed v.typed v.quotes n member.Typed e.1)

there-set : (v : ValuePlace) (n : StyleScan) (bytes : List ℕ) (y : Member) → TakesStyle bytes n → scan_set_has (feed_bytes style_feeding n bytes) y ≡ true
    → style_scan_has n (StyleOrigin bytes n y) ≡ true
there-set v n bytes y a h =
    subst (λ (m : Member). style_scan_has n (style_fed_origin bytes n m) ≡ true) (sym (set-kept (feed_bytes style_feeding n bytes) y h))
    (style-fed-from bytes n y a (has-set (feed_bytes style_feeding n bytes) y h)).there

pub alike-there : (u v : ValuePlace) (k n : StyleScan) (bytes : List ℕ) (f g : Scan) (y : Member) → StyleAlike u v k n bytes f g → ScanHas g y
    → style_has v.typed v.quotes n (StyleOrigin bytes n y) ≡ true
alike-there u v k n bytes f g y (style_tags e i) h =
    let X = StyleOrigin bytes n y in
    or-either (style_has v.typed v.quotes n X ≡ true) (is_whole y) (typed_has v.typed y || spots_have only_before y) (subst (λ (x : Scan). ScanHas x y) i h)
    (λ k. there-whole v n X (whole-origin bytes n y k))
    (λ k. or-either (style_has v.typed v.quotes n X ≡ true) (typed_has v.typed y) (spots_have only_before y) k
    (λ l. there-typed v n X (typed-origin bytes n v.typed y l)) (λ l. there-whole v n X (spot-origin bytes n y l)))
alike-there u v k n bytes f g y (style_ends e i) h =
    ⊎_elim (λ k. there-whole v n (StyleOrigin bytes n y) (whole-origin bytes n y k))
    (λ k. there-whole v n (StyleOrigin bytes n y) (ap (StyleOrigin bytes n) k ∙ style-fed-whole bytes n)) (content-from v.tag y (subst (λ (x : Scan). ScanHas x y) i h))
alike-there u v k n bytes f g y (style_goes q a into out) h =
    let X = StyleOrigin bytes n y in
    style-cases (style_has v.typed v.quotes n X ≡ true) v.typed q (feed_bytes style_feeding n bytes) y (out y h)
    (λ k. there-whole v n X (whole-origin bytes n y k)) (λ k. there-typed v n X (typed-origin bytes n v.typed y k))
    (λ k. there-whole v n X (quotes-origin bytes n q y k)) (λ k. in-scan v.typed v.quotes n X (there-set v n bytes y a k))

-- a path that has the member before has the one after
typed-only : (x : Bool) (q : Quotes) (n : StyleScan) → style_has x q n member.Typed ≡ true → x ≡ true
typed-only x (quotes.Bare s) n h = or-either (x ≡ true) x (scan_set_has n member.Typed) h (λ k. k) (λ k. absurd (set-untyped n k))
typed-only x quotes.Dq n h = or-either (x ≡ true) x (scan_set_has n member.Typed) h (λ k. k) (λ k. absurd (set-untyped n k))
typed-only x quotes.Sq n h = or-either (x ≡ true) x (scan_set_has n member.Typed) h (λ k. k) (λ k. absurd (set-untyped n k))

seen : (u v : ValuePlace) (k n : StyleScan) (bytes : List ℕ) (y : Member) → typed_has v.typed y ≡ true
    → style_has u.typed u.quotes k (StyleOrigin bytes n y) ≡ true → typed_has u.typed y ≡ true
seen u v k n bytes y h o =
    let e = typed-origin bytes n v.typed y h in
    typed-more v.typed u.typed y h (typed-only u.typed u.quotes k (subst (λ (x : Member). style_has u.typed u.quotes k x ≡ true) e.0 o))

set-leads : (u : ValuePlace) (k n : StyleScan) (bytes : List ℕ) (y : Member) → TakesStyle bytes n → StyleScanBelow k n
    → scan_set_has (feed_bytes style_feeding n bytes) y ≡ true → style_has u.typed u.quotes k (StyleOrigin bytes n y) ≡ true
    → style_scan_has (feed_bytes style_feeding k bytes) y ≡ true
set-leads u k n bytes y a l h o =
    let kept = set-kept (feed_bytes style_feeding n bytes) y h in
    let f = style-fed-from bytes n y a (has-set (feed_bytes style_feeding n bytes) y h) in
    let x = style_fed_origin bytes n y in
    f.leads k l (out-scan n k u.typed u.quotes x f.there (subst (λ (m : Member). style_has u.typed u.quotes k (style_fed_origin bytes n m) ≡ true) kept o))

pub alike-leads : (u v : ValuePlace) (k n : StyleScan) (bytes : List ℕ) (f g : Scan) (y : Member) → u.tag ≡ v.tag → StyleAlike u v k n bytes f g → StyleScanBelow k n
    → ScanHas g y → style_has u.typed u.quotes k (StyleOrigin bytes n y) ≡ true → ScanHas f y
alike-leads u v k n bytes f g y t (style_tags e i) d h o =
    or-either (ScanHas f y) (is_whole y) (typed_has v.typed y || spots_have only_before y) (subst (λ (x : Scan). ScanHas x y) i h)
    (λ j. whole-in f y j)
    (λ j. subst (λ (x : Scan). ScanHas x y) (sym e)
    (or-behind (is_whole y) (typed_has u.typed y || spots_have only_before y)
    (or-either ((typed_has u.typed y || spots_have only_before y) ≡ true) (typed_has v.typed y) (spots_have only_before y) j
    (λ l. or-first (typed_has u.typed y) (spots_have only_before y) (seen u v k n bytes y l o))
    (λ l. or-behind (typed_has u.typed y) (spots_have only_before y) l))))
alike-leads u v k n bytes f g y t (style_ends e i) d h o = subst (λ (x : Scan). ScanHas x y) (i ∙ sym (ap content_scan t) ∙ sym e) h
alike-leads u v k n bytes f g y t (style_goes q a into out) d h o =
    let m = feed_bytes style_feeding k bytes in
    style-cases (ScanHas f y) v.typed q (feed_bytes style_feeding n bytes) y (out y h) (λ j. whole-in f y j)
    (λ j. into y (in-typed u.typed q m y (seen u v k n bytes y j o))) (λ j. into y (in-quotes u.typed q m y j))
    (λ j. into y (in-scan u.typed q m y (set-leads u k n bytes y a d j o)))

-- Which bytes are not refused.
pub style-fed-taken : (bytes : List ℕ) (n : StyleScan) (written : Bool) (back : ℕ) → fed_error style_feeding n bytes written back ≡ None → TakesStyle bytes n
style-fed-taken [] n written back h = tt
style-fed-taken (b ∷ bs) n written back h =
    let f = first-no-cause (cause_back back (style_feeding.refuses n b))
    (fed_error style_feeding (style_scan_next n (style_class b) b) bs written (if written then back - 1 else back)) h in (
      no_map style_code (style_scan_error n (style_class b) b) (no-cause-back back (style_feeding.refuses n b) f.0),
      style-fed-taken bs (style_scan_next n (style_class b) b) written (if written then back - 1 else back) f.1,
    )

taken-append : (xs ys : List ℕ) (n : StyleScan) → TakesStyle xs n → TakesStyle ys (feed_bytes style_feeding n xs) → TakesStyle (xs ++ ys) n
taken-append [] ys n h k = k
taken-append (x ∷ xs) ys n h k = (h.0, taken-append xs ys (style_scan_next n (style_class x) x) h.1 k)

turned-taken : (x : ReferenceStep) (f : Form) (bytes : List ℕ) (n : StyleScan) (c : Class) (b : ℕ) → turned_error style_feeding n x f bytes c b ≡ None
    → TakesStyle (turn_bytes true x f bytes c b) n
turned-taken (Grows g) f bytes n c b h = tt
turned-taken Closes f bytes n c b h =
    let xs = encode_utf8 (meaning f bytes) in
    let e = first-no-cause (name_error (true && is_unknown_name f bytes) (length bytes + 1)) (fed_error style_feeding n xs false (length bytes + 1)) h in
    style-fed-taken xs n false (length bytes + 1) e.1
turned-taken Breaks f bytes n c b h =
    let xs = flushed true (is_equals_sign c) f bytes in
    let m = feed_bytes style_feeding n xs in
    let e = first-no-cause (flushed_error style_feeding n (is_equals_sign c) f bytes) (fed_error style_feeding m (plain_bytes c b) false 0) h in
    taken-append xs (plain_bytes c b) n (style-fed-taken xs n (is_written (is_equals_sign c) f bytes) (length bytes + 1) e.0) (style-fed-taken (plain_bytes c b) m false 0 e.1)

pub style-language-taken : (r : Reference) (n : StyleScan) (c : Class) (b : ℕ) → language_error style_feeding false n r c b ≡ None → TakesStyle (undone_byte true r c b) n
style-language-taken Closed n c b h = style-fed-taken (plain_bytes c b) n false 0 h
style-language-taken (Open f bytes) n c b h = turned-taken (turn c f) f bytes n c b h

bare-taken : (x : Bool) (r : Reference) (n : StyleScan) (c : Class) (b : ℕ) → BegunIf r x
    → (if x then language_error style_feeding false n r c b else fed_error style_feeding n (plain_bytes c b) false 0) ≡ None
    → TakesStyle (undone_byte true r c b) n
bare-taken true r n c b i h = style-language-taken r n c b h
bare-taken false Closed n c b i h = style-fed-taken (plain_bytes c b) n false 0 h
bare-taken false (Open f l) n c b i h = absurd (no i)

begun-as : (r : Reference) (s : Bare) → BegunWhereOpen r (quotes.Bare s) → BegunIf r s.uq
begun-as Closed s v = tt
begun-as (Open f bytes) s v = v.0

-- Where both go on with these quotes and the bytes that they are fed; and where a value has not begun, with none.
abbrev pub BothGo : ValuePlace → ValuePlace → StyleScan → StyleScan → List ℕ → (Quotes → Scan) → (Quotes → Scan) → Type 0
BothGo u v k n bytes f g = (q : Quotes) → TakesStyle bytes n → StyleAlike u v k n bytes (f q) (g q)

abbrev pub BothStay : ValuePlace → ValuePlace → StyleScan → StyleScan → Quotes → Type 0
BothStay u v k n quotes.Dq = Unit {0}
BothStay u v k n quotes.Sq = Unit {0}
BothStay u v k n (quotes.Bare s) = s.uq ≡ false → (q : Quotes) → StyleAlike u v k n [] (with_quotes u q) (with_quotes v q)

white-alike : (u v : ValuePlace) (k n : StyleScan) (a b : Bool) → a ≡ b → (a ≡ false → (q : Quotes) → StyleAlike u v k n [] (with_quotes u q) (with_quotes v q))
    → StyleAlike u v k n [] (bare_white u a) (bare_white v b)
white-alike u v k n true true e f = style_tags refl refl
white-alike u v k n false false e f = f refl unbegun
white-alike u v k n true false e f = absurd (no (sym e))
white-alike u v k n false true e f = absurd (no e)

quote-unbegun : (x y : Bool) → Under x y → (if y then Some code.BadHTML else None) ≡ None → x ≡ false
quote-unbegun true y h e = absurd (no (sym (if-none y code.BadHTML e) ∙ sym h))
quote-unbegun false y h e = refl

bare-alike : (u v : ValuePlace) (k n : StyleScan) (s p : Bare) (r : Reference) (c : Class) (b : ℕ) (f g : Quotes → Scan) → BothGo u v k n (undone_byte true r c b) f g
    → BothStay u v k n (quotes.Bare s) → some_bare s ≡ true → BegunWhereOpen r (quotes.Bare p) → Under s.uq p.uq → Under s.unbegun p.unbegun
    → quoted_error style_feeding (quotes.Bare p) n r c b ≡ None → bare_error v.tag p c ≡ None
    → StyleAlike u v k n (fed_in (quotes.Bare p) r c b) (bare_leads u s.uq c (f bare_begun)) (bare_leads v p.uq c (g bare_begun))
bare-alike u v k n s p r White b f g z w h i j l m e =
    white-alike u v k n s.uq p.uq (bare-white s.uq s.unbegun p.uq p.unbegun h j l (if-none (p.uq && p.unbegun) code.AmbigContext e)).0 w
bare-alike u v k n s p r QuotationMark b f g z w h i j l m e = w (quote-unbegun s.uq p.uq j e) quotes.Dq
bare-alike u v k n s p r Apostrophe b f g z w h i j l m e = w (quote-unbegun s.uq p.uq j e) quotes.Sq
bare-alike u v k n s p r GreaterThan b f g z w h i j l m e = style_ends refl refl
bare-alike u v k n s p r LessThan b f g z w h i j l m e = absurd (some _ e)
bare-alike u v k n s p r EqualsSign b f g z w h i j l m e = absurd (some _ e)
bare-alike u v k n s p r GraveAccent b f g z w h i j l m e = absurd (some _ e)
bare-alike u v k n s p r c b f g z w h i j l m e = z bare_begun (bare-taken p.uq r n c b (begun-as r p i) m)

pub style-quotes-alike : (u v : ValuePlace) (k n : StyleScan) (q p : Quotes) (r : Reference) (c : Class) (b : ℕ) (f g : Quotes → Scan)
    → BothGo u v k n (undone_byte true r c b) f g
    → BothStay u v k n q → IsValidQuotes q → BegunWhereOpen r p → joined_quotes q p ≡ Some p
    → quoted_error style_feeding p n r c b ≡ None → quotes_error v.tag p c ≡ None
    → StyleAlike u v k n (fed_in p r c b) (quotes_lead u q c f) (quotes_lead v p c g)
style-quotes-alike u v k n quotes.Dq quotes.Dq r QuotationMark b f g z w h i j m e = style_tags refl refl
style-quotes-alike u v k n quotes.Dq quotes.Dq r c b f g z w h i j m e = z quotes.Dq (style-language-taken r n c b m)
style-quotes-alike u v k n quotes.Sq quotes.Sq r Apostrophe b f g z w h i j m e = style_tags refl refl
style-quotes-alike u v k n quotes.Sq quotes.Sq r c b f g z w h i j m e = z quotes.Sq (style-language-taken r n c b m)
style-quotes-alike u v k n (quotes.Bare s) (quotes.Bare p) r c b f g z w h i j m e =
    (let d = bare-parts s p j in bare-alike u v k n s p r c b f g z w h i d.0 d.1 m e)
style-quotes-alike u v k n quotes.Dq quotes.Sq r c b f g z w h i j m e = absurd (none_some quotes.Sq j)
style-quotes-alike u v k n quotes.Dq (quotes.Bare p) r c b f g z w h i j m e = absurd (none_some (quotes.Bare p) j)
style-quotes-alike u v k n quotes.Sq quotes.Dq r c b f g z w h i j m e = absurd (none_some quotes.Dq j)
style-quotes-alike u v k n quotes.Sq (quotes.Bare p) r c b f g z w h i j m e = absurd (none_some (quotes.Bare p) j)
style-quotes-alike u v k n (quotes.Bare s) quotes.Dq r c b f g z w h i j m e = absurd (none_some quotes.Dq j)
style-quotes-alike u v k n (quotes.Bare s) quotes.Sq r c b f g z w h i j m e = absurd (none_some quotes.Sq j)

-- both go on, whatever values they are otherwise
pub both-go : (u v w x : ValuePlace) (k n : StyleScan) (r : Reference) (c : Class) (b : ℕ) (q : Quotes) → w.typed ≡ u.typed → x.typed ≡ v.typed → w.quotes ≡ q → x.quotes ≡ q
    → TakesStyle (undone_byte true r c b) n → StyleAlike u v k n (undone_byte true r c b) (style_fed w k r c b) (style_fed x n r c b)
both-go u v w x k n r c b q e i d j a =
    let bytes = undone_byte true r c b in
    style_goes q a
    (λ y h. style-in w (feed_bytes style_feeding k bytes) (next_reference r c b) y (rw (e, d) h))
    (λ y h. rw (← i, ← j) (style-out x (feed_bytes style_feeding n bytes) (next_reference r c b) y h))

-- From a lexeme of a style, or a reference in it.
abbrev InStyleNext : ValuePlace → StyleScan → Reference → Class → ℕ → Quotes → Scan
InStyleNext u k r c b p = style_fed (value_between u p) k r c b

begun-stay : (u v : ValuePlace) (k n : StyleScan) (q : Quotes) → HasBegun q → BothStay u v k n q
begun-stay u v k n quotes.Dq h = tt
begun-stay u v k n quotes.Sq h = tt
begun-stay u v k n (quotes.Bare s) h = λ e. absurd (no (sym e ∙ h.0))

-- what its language and its quotes do not refuse
abbrev IsTaken : ValuePlace → StyleScan → Reference → Class → ℕ → Type 0
IsTaken v n r c b = (quoted_error style_feeding v.quotes n r c b ≡ None) × (quotes_error v.tag v.quotes c ≡ None)

taken-of : (v : ValuePlace) (n : StyleScan) (r : Reference) (c : Class) (b : ℕ) → style_cause v n r c b ≡ None → IsTaken v n r c b
taken-of v n r c b h =
    let m = first-no-cause (quoted_error style_feeding v.quotes n r c b) (at_hand (value_error v c)) h in
    (m.0, (first-none (body_error v.body) (quotes_error v.tag v.quotes c) (none-at-hand (value_error v c) m.1)).1)

same-quotes : (v : ValuePlace) → joined_quotes v.quotes v.quotes ≡ Some v.quotes
same-quotes v = (below-value v v (places_same (place.Value v))).quotes

in-alike : (u v : ValuePlace) (k n : StyleScan) (r : Reference) (c : Class) (b : ℕ) → IsValidQuotes u.quotes → BothStay u v k n u.quotes → BegunWhereOpen r v.quotes
    → joined_quotes u.quotes v.quotes ≡ Some v.quotes → IsTaken v n r c b
    → StyleAlike u v k n (fed_in v.quotes r c b) (style_value_next u k r c b) (style_value_next v n r c b)
in-alike u v k n r c b w s i j t =
    style-quotes-alike u v k n u.quotes v.quotes r c b (InStyleNext u k r c b) (InStyleNext v n r c b)
    (λ q a. both-go u v (value_between u q) (value_between v q) k n r c b q refl refl refl refl a) s w i j t.0 t.1

pub from-in-style : (v : ValuePlace) (n : StyleScan) (r : Reference) (c : Class) (b : ℕ) (y : Member) → HasBegun v.quotes → style_cause v n r c b ≡ None
    → ScanHas (style_value_next v n r c b) y → From (InStyle v n r) c b y (StyleOrigin (fed_in v.quotes r c b) n y)
from-in-style v n r c b y w e h =
    let t = taken-of v n r c b e in
    let i = begun-open r v.quotes w in
    let bytes = fed_in v.quotes r c b in
    let x = StyleOrigin bytes n y in
    record {
      there = alike-there v v n n bytes (style_value_next v n r c b) (style_value_next v n r c b) y
          (in-alike v v n n r c b (begun-valid v.quotes w) (begun-stay v v n n v.quotes w) i (same-quotes v) t) h;
      leads = λ g z l o. below-style (λ (g : Scan). ScanValid g → ScanHas g x → ScanHas (scan_next g c b) y) v n r
          (λ u k l z o. alike-leads u v k n bytes (style_value_next u k r c b) (style_value_next v n r c b) y l.tag
          (in-alike u v k n r c b (begun-valid u.quotes z.0) (begun-stay u v k n u.quotes z.0) i l.quotes t) l.scan h o) g l z o;
    }

-- From a place of a style.
abbrev AtPlaceNext : ValuePlace → Body → Class → ℕ → Quotes → Scan
AtPlaceNext u z c b p = value_fed u p z NoTriple Closed c b

pub place-has : (v : ValuePlace) (p : Css) (y : Member) → v.body ≡ body.Css p → style_has v.typed v.quotes (style_scan_start p) y ≡ true → Has (place.Value v) y
place-has v p y d h =
    subst (λ (z : Body). (is_whole y || (typed_has v.typed y || (quotes_have v.quotes y || body_has z y))) ≡ true) (sym d)
    (subst (λ (z : Bool). (is_whole y || (typed_has v.typed y || (quotes_have v.quotes y || z))) ≡ true) (sym (css-set p y)) h)

pub has-place : (v : ValuePlace) (p : Css) (y : Member) → v.body ≡ body.Css p → Has (place.Value v) y → style_has v.typed v.quotes (style_scan_start p) y ≡ true
has-place v p y d h =
    subst (λ (z : Bool). (is_whole y || (typed_has v.typed y || (quotes_have v.quotes y || z))) ≡ true) (css-set p y)
    (subst (λ (z : Body). (is_whole y || (typed_has v.typed y || (quotes_have v.quotes y || body_has z y))) ≡ true) d h)

-- where nothing is fed, each stays with its body
with-in : (u : ValuePlace) (p : Css) (q : Quotes) (y : Member) → u.body ≡ body.Css p → style_has u.typed q (style_scan_start p) y ≡ true → ScanHas (with_quotes u q) y
with-in u p q y d h = place-has (value_between u q) p y d h

with-out : (u : ValuePlace) (p : Css) (q : Quotes) (y : Member) → u.body ≡ body.Css p → ScanHas (with_quotes u q) y → style_has u.typed q (style_scan_start p) y ≡ true
with-out u p q y d h = has-place (value_between u q) p y d h

place-stay : (u v : ValuePlace) (o p : Css) (q : Quotes) → u.body ≡ body.Css o → v.body ≡ body.Css p → BothStay u v (style_scan_start o) (style_scan_start p) q
place-stay u v o p quotes.Dq d e = tt
place-stay u v o p quotes.Sq d e = tt
place-stay u v o p (quotes.Bare s) d e = λ i q. style_goes q tt (λ y h. with-in u o q y d h) (λ y h. with-out v p q y e h)

place-alike : (u v : ValuePlace) (o p : Css) (c : Class) (b : ℕ) → u.body ≡ body.Css o → v.body ≡ body.Css p → IsValidQuotes u.quotes
    → joined_quotes u.quotes v.quotes ≡ Some v.quotes → IsTaken v (style_scan_start p) Closed c b
    → StyleAlike u v (style_scan_start o) (style_scan_start p) (fed_in v.quotes Closed c b) (value_next u NoTriple Closed c b) (value_next v NoTriple Closed c b)
place-alike u v o p c b d e w j t =
    subst (λ (z : Body). StyleAlike u v (style_scan_start o) (style_scan_start p) (fed_in v.quotes Closed c b) (quotes_lead u u.quotes c (AtPlaceNext u z c b)) (value_next v NoTriple Closed c b)) (sym d)
    (subst (λ (z : Body). StyleAlike u v (style_scan_start o) (style_scan_start p) (fed_in v.quotes Closed c b) (quotes_lead u u.quotes c (AtPlaceNext u (body.Css o) c b)) (quotes_lead v v.quotes c (AtPlaceNext v z c b))) (sym e)
    (style-quotes-alike u v (style_scan_start o) (style_scan_start p) u.quotes v.quotes Closed c b (AtPlaceNext u (body.Css o) c b) (AtPlaceNext v (body.Css p) c b)
    (λ q a. both-go u v (empty_style_between u q) (empty_style_between v q) (style_scan_start o) (style_scan_start p) Closed c b q refl refl refl refl a)
    (place-stay u v o p u.quotes d e) w tt j t.0 t.1))

-- a lexeme below a place
mixed-alike : (u v : ValuePlace) (k : StyleScan) (p : Css) (c : Class) (b : ℕ) → v.body ≡ body.Css p → HasBegun u.quotes
    → joined_quotes u.quotes v.quotes ≡ Some v.quotes → IsTaken v (style_scan_start p) Closed c b
    → StyleAlike u v k (style_scan_start p) (fed_in v.quotes Closed c b) (style_value_next u k Closed c b) (value_next v NoTriple Closed c b)
mixed-alike u v k p c b e w j t =
    subst (λ (z : Body). StyleAlike u v k (style_scan_start p) (fed_in v.quotes Closed c b) (style_value_next u k Closed c b) (quotes_lead v v.quotes c (AtPlaceNext v z c b))) (sym e)
    (style-quotes-alike u v k (style_scan_start p) u.quotes v.quotes Closed c b (InStyleNext u k Closed c b) (AtPlaceNext v (body.Css p) c b)
    (λ q a. both-go u v (value_between u q) (empty_style_between v q) k (style_scan_start p) Closed c b q refl refl refl refl a)
    (begun-stay u v k (style_scan_start p) u.quotes w) (begun-valid u.quotes w) tt j t.0 t.1)

pub css-of : (b : Body) (p : Css) → joined_bodies b (body.Css p) ≡ Some (body.Css p) → (o : Css) × (b ≡ body.Css o) × StyleScanBelow (style_scan_start o) (style_scan_start p)
css-of (body.Css o) p h = (o, refl, starts-in-order o p h)
css-of b p h = absurd (none_some (body.Css p) h)

place-taken : (v : ValuePlace) (p : Css) (c : Class) (b : ℕ) → v.body ≡ body.Css p → value_cause v Closed c b ≡ None → IsTaken v (style_scan_start p) Closed c b
place-taken v p c b d h =
    let m = first-no-cause (body_cause v.body v.quotes Closed c b) (at_hand (value_error v c)) h in
    (subst (λ (z : Body). body_cause z v.quotes Closed c b ≡ None) d m.0, (first-none (body_error v.body) (quotes_error v.tag v.quotes c) (none-at-hand (value_error v c) m.1)).1)

one-css : (o p : Css) → body.Css o ≡ body.Css p → o ≡ p
one-css o p e = cc

pub from-style-place : (v : ValuePlace) (c : Class) (b : ℕ) (y : Member) (p : Css) → v.body ≡ body.Css p → IsValidQuotes v.quotes → value_cause v Closed c b ≡ None
    → ScanHas (value_next v NoTriple Closed c b) y → From (At (place.Value v)) c b y (value_origin v Closed c b y)
from-style-place v c b y p d w e h =
    let t = place-taken v p c b d e in
    let n = style_scan_start p in
    let bytes = fed_in v.quotes Closed c b in
    let x = StyleOrigin bytes n y in
    let f = value_next v NoTriple Closed c b in
    let same : value_origin v Closed c b y ≡ x = ap (λ (z : Body). body_origin z bytes (in_body_origin z y)) d in
    subst (From (At (place.Value v)) c b y) (sym same)
    (record {
      there = place-has v p x d (alike-there v v n n bytes f f y (place-alike v v p p c b d d w (same-quotes v) t) h);
      leads = λ g z l o. below-at-value (λ (g : Scan). ScanValid g → ScanHas g x → ScanHas (scan_next g c b) y) v
          (λ u l z o. let k = css-of u.body p (subst (λ (q : Body). joined_bodies u.body q ≡ Some q) d l.body) in
          alike-leads u v (style_scan_start k.0) n bytes (value_next u NoTriple Closed c b) f y l.tag (place-alike u v k.0 p c b k.1 d z.0 l.quotes t) k.2 h (has-place u k.0 x k.1 o))
          (λ u k q i l z o. let s = one-css q p (sym i ∙ d) in
          alike-leads u v k n bytes (style_value_next u k Closed c b) f y l.tag (mixed-alike u v k p c b d z.0 l.quotes t)
          (subst (λ (a : Css). StyleScanBelow k (style_scan_start a)) s l.scan) h o) g l z o;
    })

-- The end of a text in a style.
pub style-placed : (v : ValuePlace) (n : StyleScan) (y : Member) → style_has v.typed v.quotes n y ≡ true → Has (with_style v n) y
style-placed v n y h =
    let P = Has (with_style v n) y in
    let r = typed_has v.typed y || (quotes_have v.quotes y || css_has (style_scan_place n) y) in
    let s = quotes_have v.quotes y || css_has (style_scan_place n) y in
    style-cases P v.typed v.quotes n y h (λ k. or-first (is_whole y) r k) (λ k. or-behind (is_whole y) r (or-first (typed_has v.typed y) s k))
    (λ k. or-behind (is_whole y) r (or-behind (typed_has v.typed y) s (or-first (quotes_have v.quotes y) (css_has (style_scan_place n) y) k)))
    (λ k. or-behind (is_whole y) r (or-behind (typed_has v.typed y) s (or-behind (quotes_have v.quotes y) (css_has (style_scan_place n) y) (set-placed n y k))))

if-same : (x : Bool) (z : Member) → (if x then z else z) ≡ z
if-same true z = refl
if-same false z = refl

abbrev EndOrigin : List ℕ → StyleScan → Member → Member
EndOrigin bytes n y = style_fed_origin bytes n (style_end_origin (feed_bytes style_feeding n bytes) y)

pub end-whole : (bytes : List ℕ) (n : StyleScan) (y : Member) → is_whole y ≡ true → EndOrigin bytes n y ≡ member.Whole
end-whole bytes n member.Whole h =
    ap (style_fed_origin bytes n) (if-same (scan_set_has (feed_bytes style_feeding n bytes) member.Whole) member.Whole) ∙ style-fed-whole bytes n
end-whole bytes n _ h = absurd (no h)

end-typed : (bytes : List ℕ) (n : StyleScan) (x : Bool) (y : Member) → typed_has x y ≡ true → EndOrigin bytes n y ≡ member.Typed
end-typed bytes n x member.Typed h =
    ap (style_fed_origin bytes n) (if-same (scan_set_has (feed_bytes style_feeding n bytes) member.Typed) member.Typed) ∙ style-fed-typed bytes n
end-typed bytes n x _ h = absurd (no h)

not-set : (x : Bool) → (x ≡ true → ⊥) → x ≡ false
not-set true f = absurd (f refl)
not-set false f = refl

end-none : (bytes : List ℕ) (n : StyleScan) (y : Member) → typed_origin y ≡ member.Whole → (scan_set_has (feed_bytes style_feeding n bytes) y ≡ true → ⊥)
    → EndOrigin bytes n y ≡ member.Whole
end-none bytes n y e f =
    ap (λ (x : Bool). style_fed_origin bytes n (if x then y else typed_origin y)) (not-set (scan_set_has (feed_bytes style_feeding n bytes) y) f)
    ∙ ap (style_fed_origin bytes n) e ∙ style-fed-whole bytes n

end-quotes : (bytes : List ℕ) (n : StyleScan) (q : Quotes) (y : Member) → quotes_have q y ≡ true → EndOrigin bytes n y ≡ member.Whole
end-quotes bytes n (quotes.Bare s) member.UnquotedValue h = end-none bytes n member.UnquotedValue refl (λ k. set-unquoted (feed_bytes style_feeding n bytes) k)
end-quotes bytes n (quotes.Bare s) member.UnbegunValue h = end-none bytes n member.UnbegunValue refl (λ k. set-begun (feed_bytes style_feeding n bytes) k)
end-quotes bytes n (quotes.Bare s) _ h = absurd (no h)
end-quotes bytes n quotes.Dq y h = absurd (no h)
end-quotes bytes n quotes.Sq y h = absurd (no h)

-- values that have begun have the same members of quotes
begun-same : (q p : Quotes) (y : Member) → HasBegun q → HasBegun p → joined_quotes q p ≡ Some p → quotes_have p y ≡ true → quotes_have q y ≡ true
begun-same (quotes.Bare s) (quotes.Bare r) member.UnquotedValue w z j h = w.0
begun-same (quotes.Bare s) (quotes.Bare r) member.UnbegunValue w z j h = absurd (no (sym z.1 ∙ h))
begun-same (quotes.Bare s) (quotes.Bare r) _ w z j h = absurd (no h)
begun-same quotes.Dq (quotes.Bare r) y w z j h = absurd (none_some (quotes.Bare r) j)
begun-same quotes.Sq (quotes.Bare r) y w z j h = absurd (none_some (quotes.Bare r) j)
begun-same q quotes.Dq y w z j h = absurd (no h)
begun-same q quotes.Sq y w z j h = absurd (no h)

-- what the place there has
abbrev placed_has : ValuePlace → StyleScan → Member → Bool
placed_has v n y = is_whole y || (typed_has v.typed y || (quotes_have v.quotes y || css_has (style_scan_place n) y))

placed-css : (v : ValuePlace) (n : StyleScan) (y : Member) → (is_whole y || css_has (style_scan_place n) y) ≡ true → placed_has v n y ≡ true
placed-css v n y h =
    let s = quotes_have v.quotes y || css_has (style_scan_place n) y in
    or-either (placed_has v n y ≡ true) (is_whole y) (css_has (style_scan_place n) y) h (λ k. or-first (is_whole y) (typed_has v.typed y || s) k)
    (λ k. or-behind (is_whole y) (typed_has v.typed y || s) (or-behind (typed_has v.typed y) s (or-behind (quotes_have v.quotes y) (css_has (style_scan_place n) y) k)))

placed-quotes : (v : ValuePlace) (n : StyleScan) (y : Member) → quotes_have v.quotes y ≡ true → placed_has v n y ≡ true
placed-quotes v n y h =
    let s = quotes_have v.quotes y || css_has (style_scan_place n) y in
    or-behind (is_whole y) (typed_has v.typed y || s) (or-behind (typed_has v.typed y) s (or-first (quotes_have v.quotes y) (css_has (style_scan_place n) y) h))

end-all : (v : ValuePlace) (n : StyleScan) (r : Reference) (y x : Member) → x ≡ member.Whole
    → ((u : ValuePlace) (k : StyleScan) → HasBegun u.quotes → StyleValueBelow u v k n → Has (with_style u (feed_bytes style_feeding k (as_it_stands r))) y)
    → FromEnd (InStyle v n r) y x
end-all v n r y x e f = record {
  there = there-whole v n x e;
  leads = λ g z l o. below-style (λ (g : Scan). ScanValid g → Has (scan_place g) y) v n r (λ u k l z. f u k z.0 l) g l z;
}

end-kept : (v : ValuePlace) (n : StyleScan) (r : Reference) (y x : Member) → x ≡ member.Typed → typed_has v.typed y ≡ true → FromEnd (InStyle v n r) y x
end-kept v n r member.Typed x e h = record {
  there = there-typed v n x (e, h);
  leads = λ g z l o. below-style (λ (g : Scan). ScanHas g x → Has (scan_place g) member.Typed) v n r
      (λ u k l o. or-first u.typed (quotes_have u.quotes member.Typed || css_has (style_scan_place (feed_bytes style_feeding k (as_it_stands r))) member.Typed)
      (typed-only u.typed u.quotes k (subst (λ (m : Member). style_has u.typed u.quotes k m ≡ true) e o))) g l o;
}
end-kept v n r _ x e h = absurd (no h)

end-set : (v : ValuePlace) (n : StyleScan) (r : Reference) (y : Member) → written_error style_feeding n (as_it_stands r) ≡ None
    → css_has (style_scan_place (feed_bytes style_feeding n (as_it_stands r))) y ≡ true → FromEnd (InStyle v n r) y (EndOrigin (as_it_stands r) n y)
end-set v n r y e h =
    let bytes = as_it_stands r in
    let m = feed_bytes style_feeding n bytes in
    let d = style-end-from m y h in
    let f = style-fed-from bytes n (style_end_origin m y) (style-fed-taken bytes n true (length bytes) e) d.there in
    let x = EndOrigin bytes n y in
    record {
      there = in-scan v.typed v.quotes n x f.there;
      leads = λ g z l o. below-style (λ (g : Scan). ScanHas g x → Has (scan_place g) y) v n r
          (λ u k l o. placed-css u (feed_bytes style_feeding k bytes) y
          (d.leads (feed_bytes style_feeding k bytes) (style-fed-grow bytes true (length bytes) k n l.scan e).1 (f.leads k l.scan (out-scan n k u.typed u.quotes x f.there o)))) g l o;
    }

pub end-style : (v : ValuePlace) (n : StyleScan) (r : Reference) (y : Member) → HasBegun v.quotes → scan_cut_error (InStyle v n r) ≡ None
    → Has (scan_place (InStyle v n r)) y → FromEnd (InStyle v n r) y (EndOrigin (as_it_stands r) n y)
end-style v n r y w e h =
    let bytes = as_it_stands r in
    let c = style_scan_place (feed_bytes style_feeding n bytes) in
    let P = FromEnd (InStyle v n r) y (EndOrigin bytes n y) in
    or-either P (is_whole y) (typed_has v.typed y || (quotes_have v.quotes y || css_has c y)) h
    (λ k. end-all v n r y (EndOrigin bytes n y) (end-whole bytes n y k)
    (λ u d z l. or-first (is_whole y) (typed_has u.typed y || (quotes_have u.quotes y || css_has (style_scan_place (feed_bytes style_feeding d bytes)) y)) k))
    (λ i. or-either P (typed_has v.typed y) (quotes_have v.quotes y || css_has c y) i (λ k. end-kept v n r y (EndOrigin bytes n y) (end-typed bytes n v.typed y k) k)
    (λ j. or-either P (quotes_have v.quotes y) (css_has c y) j
    (λ k. end-all v n r y (EndOrigin bytes n y) (end-quotes bytes n v.quotes y k)
    (λ u d z l. placed-quotes u (feed_bytes style_feeding d bytes) y (begun-same u.quotes v.quotes y z w l.quotes k)))
    (λ k. end-set v n r y e k)))
