-- Each member after a byte of a value, and after its end, comes from one member of the value before it.
use Rattle.std.proofs.Common.{◌≡◌, ℕ, Bool, true, false, ◌||◌, ◌&&◌, List, [], if◌then◌else◌, Some, None, refl, sym, ap, ◌∙◌, subst, ◌⊎◌, inl, inr, ⊎_elim}
use Rattle.place_core.specs.page.Classes.{Class, White, QuotationMark, Apostrophe, LessThan, EqualsSign, GreaterThan, GraveAccent}
use Rattle.place_core.specs.page.References.{Reference, Closed, Open, as_it_stands, next_reference, plain_bytes, undone_byte}
use Rattle.place_core.specs.page.Tags.{feed_bytes}
use Rattle.place_core.specs.place.Errors.{bare_error, body_error, at_hand, fed_error, language_error, quotes_error, value_error}
use Rattle.place_core.specs.place.LanguagePlaces.{css_tails_have, parts_have}
use Rattle.place_core.specs.place.StyleParts.{style_tails}
use Rattle.place_core.specs.place.Places.{Has, IsValidQuotes, body_has, is_whole, joined_bodies, joined_quotes, quotes_have, some_bare, spots_have, typed_has}
use Rattle.place_core.specs.place.StatePlaces.{only_before, unbegun}
use Rattle.place_core.specs.declared.bare.Bare.{Bare}
use Rattle.place_core.specs.declared.body.Body.{Body}
use Rattle.place_core.specs.declared.body.Body.TheVariants as body
use Rattle.place_core.specs.declared.code.Code.TheVariants as code
use Rattle.place_core.specs.declared.element.Element.TheVariants as element
use Rattle.place_core.specs.declared.member.Member.{Member}
use Rattle.place_core.specs.declared.member.Member.TheVariants as member
use Rattle.place_core.specs.declared.parts.Parts.{Parts}
use Rattle.place_core.specs.declared.place.Place.TheVariants as place
use Rattle.place_core.specs.declared.quotes.Quotes.{Quotes}
use Rattle.place_core.specs.declared.quotes.Quotes.TheVariants as quotes
use Rattle.place_core.specs.declared.tag_of.TagOf.{TagOf}
use Rattle.place_core.specs.declared.tag_of.TagOf.TheVariants as tag
use Rattle.place_core.specs.declared.value_place.ValuePlace.{ValuePlace}
use Rattle.place_core.proofs.Joins.{places_same}
use Rattle.place_core.proofs.Semilattices.{none_some}
use Rattle.html_scan.specs.Scans.{Scan, bare_begun, bare_next, bare_white, content_scan, in_tag, open_cut_error, body_cause, parts_feeding, parts_with, quoted_error, quoted_next, scan_next, scan_place, triple_behind, url_scan, value_cause, value_fed, value_next, with_parts, with_quotes}
use Rattle.html_step.specs.Origins.{body_origin, fed_in, fed_origin, in_body_origin, in_value_origin, unsensed, value_origin}
use Rattle.html_step.proofs.BelowScans.{whole-in}
use Rattle.html_step.proofs.FromParts.{AreTaken, fed-from, fed-quoted, fed-taken, fed-typed, fed-whole, first-no-cause, language-taken, or-behind, or-either, or-first}
use Rattle.html_step.proofs.ScriptFrom.{js-is, script-typed-origin, script-whole-origin}
use Rattle.js_step.specs.ScriptScans.{script_scan_start}
use Rattle.html_step.proofs.PathScans.{none-at-hand, some}
use Rattle.html_step.proofs.PlaceParts.{Under, ValueBelow, below-value}
use Rattle.html_step.proofs.ScanOrder.{BegunWhereOpen, ScanBelow, ScanHas, ScanValid, Unstyled, UrlWithin, bare-parts, bare-white, body-accepts, first-none, if-none, parts-below, url-within, within-unstyled}
use Rattle.html_step.proofs.StyleFrom.{no-tails, style-fed-typed, style-fed-whole, typed-none}
use Rattle.css_step.specs.StyleScans.{style_scan_start}
use Rattle.html_step.proofs.FedAlike.{BegunIf}
use Rattle.url_lexer.specs.Triples.{Triple, NoTriple, AfterPercent, AfterDigit}

no : false ≡ true → ⊥
no e = cc

-- a member behind a byte comes from this one before it
pub record From (f : Scan) (c : Class) (b : ℕ) (y x : Member) : Type 0 where
  pub there : ScanHas f x
  pub leads : (g : Scan) → ScanValid g → ScanBelow g f → ScanHas g x → ScanHas (scan_next g c b) y

pub record FromEnd (f : Scan) (y x : Member) : Type 0 where
  pub there : ScanHas f x
  pub leads : (g : Scan) → ScanValid g → ScanBelow g f → ScanHas g x → Has (scan_place g) y

-- What a value has: the whole, whether a `type` may have been seen, and the members of its quotes and of its body.
abbrev pub value_has : Bool → Quotes → Body → Member → Bool
value_has x q b y = is_whole y || (typed_has x y || (quotes_have q y || body_has b y))

pub in-whole : (x : Bool) (q : Quotes) (b : Body) (y : Member) → is_whole y ≡ true → value_has x q b y ≡ true
in-whole x q b y h = or-first (is_whole y) (typed_has x y || (quotes_have q y || body_has b y)) h

pub in-typed : (x : Bool) (q : Quotes) (b : Body) (y : Member) → typed_has x y ≡ true → value_has x q b y ≡ true
in-typed x q b y h = or-behind (is_whole y) (typed_has x y || (quotes_have q y || body_has b y)) (or-first (typed_has x y) (quotes_have q y || body_has b y) h)

pub in-quotes : (x : Bool) (q : Quotes) (b : Body) (y : Member) → quotes_have q y ≡ true → value_has x q b y ≡ true
in-quotes x q b y h =
    or-behind (is_whole y) (typed_has x y || (quotes_have q y || body_has b y))
    (or-behind (typed_has x y) (quotes_have q y || body_has b y) (or-first (quotes_have q y) (body_has b y) h))

pub in-body : (x : Bool) (q : Quotes) (b : Body) (y : Member) → body_has b y ≡ true → value_has x q b y ≡ true
in-body x q b y h =
    or-behind (is_whole y) (typed_has x y || (quotes_have q y || body_has b y))
    (or-behind (typed_has x y) (quotes_have q y || body_has b y) (or-behind (quotes_have q y) (body_has b y) h))

pub value-cases : (P : Type 0) (x : Bool) (q : Quotes) (b : Body) (y : Member) → value_has x q b y ≡ true → (is_whole y ≡ true → P) → (typed_has x y ≡ true → P)
    → (quotes_have q y ≡ true → P) → (body_has b y ≡ true → P) → P
value-cases P x q b y h e f g k =
    or-either P (is_whole y) (typed_has x y || (quotes_have q y || body_has b y)) h e
    (λ i. or-either P (typed_has x y) (quotes_have q y || body_has b y) i f (λ j. or-either P (quotes_have q y) (body_has b y) j g k))

-- a part of a URL is none of the others
pub whole-no-part : (s : Parts) (y : Member) → is_whole y ≡ true → parts_have s y ≡ true → ⊥
whole-no-part s member.Whole h k = no k
whole-no-part s _ h k = no h

pub typed-no-part : (s : Parts) (x : Bool) (y : Member) → typed_has x y ≡ true → parts_have s y ≡ true → ⊥
typed-no-part s x member.Typed h k = no k
typed-no-part s x _ h k = no h

pub quotes-no-part : (s : Parts) (q : Quotes) (y : Member) → quotes_have q y ≡ true → parts_have s y ≡ true → ⊥
quotes-no-part s (quotes.Bare b) member.UnquotedValue h k = no k
quotes-no-part s (quotes.Bare b) member.UnbegunValue h k = no k
quotes-no-part s (quotes.Bare b) _ h k = no h
quotes-no-part s quotes.Dq y h k = no h
quotes-no-part s quotes.Sq y h k = no h

pub out-part : (s t : Parts) (z : Bool) (w : Quotes) (y : Member) → parts_have s y ≡ true → value_has z w (body.Url t) y ≡ true → parts_have t y ≡ true
out-part s t z w y h k =
    value-cases (parts_have t y ≡ true) z w (body.Url t) y k (λ e. absurd (whole-no-part s y e h)) (λ e. absurd (typed-no-part s z y e h))
    (λ e. absurd (quotes-no-part s w y e h)) (λ e. e)

-- in a value that is built only a `type` that may have been seen is this member
pub typed-only : (x : Bool) (q : Quotes) (b : Body) → body_error b ≡ None → value_has x q b member.Typed ≡ true → x ≡ true
typed-only true q b n h = refl
typed-only false (quotes.Bare s) body.Plain n h = h
typed-only false (quotes.Bare s) body.NoHole n h = h
typed-only false (quotes.Bare s) (body.Url p) n h = h
typed-only false quotes.Dq body.Plain n h = h
typed-only false quotes.Dq body.NoHole n h = h
typed-only false quotes.Dq (body.Url p) n h = h
typed-only false quotes.Sq body.Plain n h = h
typed-only false quotes.Sq body.NoHole n h = h
typed-only false quotes.Sq (body.Url p) n h = h
typed-only false (quotes.Bare s) (body.Js p) n h = absurd (js-is p member.Typed h)
typed-only false quotes.Dq (body.Js p) n h = absurd (js-is p member.Typed h)
typed-only false quotes.Sq (body.Js p) n h = absurd (js-is p member.Typed h)
typed-only false (quotes.Bare s) (body.Css p) n h = absurd (typed-none p h)
typed-only false quotes.Dq (body.Css p) n h = absurd (typed-none p h)
typed-only false quotes.Sq (body.Css p) n h = absurd (typed-none p h)

-- Where a member of the whole, of quotes and of parts comes from.
body-whole : (b : Body) (bytes : List ℕ) → body_origin b bytes member.Whole ≡ member.Whole
body-whole (body.Url s) bytes = fed-whole bytes s
body-whole (body.Css c) bytes = style-fed-whole bytes (style_scan_start c)
body-whole (body.Js j) bytes = script-whole-origin (script_scan_start j)
body-whole _ bytes = refl

body-typed : (b : Body) (bytes : List ℕ) → body_origin b bytes member.Typed ≡ member.Typed
body-typed (body.Url s) bytes = fed-typed bytes s
body-typed (body.Css c) bytes = style-fed-typed bytes (style_scan_start c)
body-typed (body.Js j) bytes = script-typed-origin (script_scan_start j)
body-typed _ bytes = refl

body-in : (b : Body) (y x : Member) → in_value_origin y ≡ x → unsensed x ≡ x → in_body_origin b y ≡ x
body-in (body.Js j) y x e u = e
body-in _ y x e u = ap unsensed e ∙ u

whole-origin : (b : Body) (bytes : List ℕ) (y : Member) → is_whole y ≡ true → body_origin b bytes (in_body_origin b y) ≡ member.Whole
whole-origin b bytes member.Whole h = ap (body_origin b bytes) (body-in b member.Whole member.Whole refl refl) ∙ body-whole b bytes
whole-origin b bytes _ h = absurd (no h)

typed-origin : (b : Body) (bytes : List ℕ) (x : Bool) (y : Member) → typed_has x y ≡ true
    → (body_origin b bytes (in_body_origin b y) ≡ member.Typed) × (x ≡ true)
typed-origin b bytes x member.Typed h = (ap (body_origin b bytes) (body-in b member.Typed member.Typed refl refl) ∙ body-typed b bytes, h)
typed-origin b bytes x _ h = absurd (no h)

pub typed-more : (x z : Bool) (y : Member) → typed_has x y ≡ true → z ≡ true → typed_has z y ≡ true
typed-more x z member.Typed h k = k
typed-more x z _ h k = absurd (no h)

quotes-origin : (b : Body) (bytes : List ℕ) (q : Quotes) (y : Member) → quotes_have q y ≡ true → body_origin b bytes (in_body_origin b y) ≡ member.Whole
quotes-origin b bytes (quotes.Bare s) member.UnquotedValue h =
    ap (body_origin b bytes) (body-in b member.UnquotedValue member.Whole refl refl) ∙ body-whole b bytes
quotes-origin b bytes (quotes.Bare s) member.UnbegunValue h =
    ap (body_origin b bytes) (body-in b member.UnbegunValue member.Whole refl refl) ∙ body-whole b bytes
quotes-origin b bytes (quotes.Bare s) _ h = absurd (no h)
quotes-origin b bytes quotes.Dq y h = absurd (no h)
quotes-origin b bytes quotes.Sq y h = absurd (no h)

spot-origin : (b : Body) (bytes : List ℕ) (y : Member) → spots_have only_before y ≡ true → body_origin b bytes (in_body_origin b y) ≡ member.Whole
spot-origin b bytes member.BeforeSpot h = ap (body_origin b bytes) (body-in b member.BeforeSpot member.Whole refl refl) ∙ body-whole b bytes
spot-origin b bytes _ h = absurd (no h)

pub part-kept : (s : Parts) (y : Member) → parts_have s y ≡ true → in_value_origin y ≡ y
part-kept s member.PartStart h = refl
part-kept s member.PartOpen h = refl
part-kept s member.PartOpenhole h = refl
part-kept s member.PartPrequery h = refl
part-kept s member.PartQuery h = refl
part-kept s member.PartBad h = refl
part-kept s _ h = absurd (no h)

pub url-kept : (s : Parts) (y : Member) → parts_have s y ≡ true → unsensed (in_value_origin y) ≡ y
url-kept s member.PartStart h = refl
url-kept s member.PartOpen h = refl
url-kept s member.PartOpenhole h = refl
url-kept s member.PartPrequery h = refl
url-kept s member.PartQuery h = refl
url-kept s member.PartBad h = refl
url-kept s _ h = absurd (no h)

-- behind the tag of a script
sense-origin : (b : Body) (bytes : List ℕ) (y : Member) → Unstyled b → y ≡ member.SenseRe → body_origin b bytes (in_body_origin b y) ≡ member.Whole
sense-origin (body.Url s) bytes y u e = ap (λ (m : Member). fed_origin bytes s (unsensed (in_value_origin m))) e ∙ fed-whole bytes s
sense-origin body.Plain bytes y u e = ap (λ (m : Member). unsensed (in_value_origin m)) e
sense-origin body.NoHole bytes y u e = ap (λ (m : Member). unsensed (in_value_origin m)) e
sense-origin (body.Js j) bytes y u e = absurd u
sense-origin (body.Css c) bytes y u e = absurd u

-- a value of a language that is built, and neither a style nor a script
abbrev pub Built : Body → Type 0
Built b = (body_error b ≡ None) × Unstyled b

pub unstyled-below : (b d : Body) → joined_bodies b d ≡ Some d → Unstyled d → Unstyled b
unstyled-below b (body.Css c) j z = absurd z
unstyled-below b (body.Js c) j z = absurd z
unstyled-below (body.Css c) d j z = absurd (none_some d j)
unstyled-below (body.Js c) d j z = absurd (none_some d j)
unstyled-below _ d j z = tt

-- A body after bytes that it is fed.
abbrev pub BodyTaken : Body → List ℕ → Type 0
BodyTaken (body.Url s) bytes = AreTaken bytes s
BodyTaken b bytes = Unit {0}

nothing-taken : (b : Body) → BodyTaken b []
nothing-taken (body.Url s) = tt
nothing-taken _ = tt

pub nothing-fed : (b : Body) → parts_with b [] ≡ b
nothing-fed (body.Url s) = refl
nothing-fed _ = refl

body-there : (x : Bool) (p : Quotes) (b : Body) (bytes : List ℕ) (y : Member) → Built b → BodyTaken b bytes → body_has (parts_with b bytes) y ≡ true
    → value_has x p b (body_origin b bytes (in_body_origin b y)) ≡ true
body-there x p (body.Url s) bytes y n a h =
    subst (λ (m : Member). value_has x p (body.Url s) (fed_origin bytes s m) ≡ true) (sym (url-kept (feed_bytes parts_feeding s bytes) y h))
    (in-body x p (body.Url s) (fed_origin bytes s y) ((fed-from bytes s y a h).there))
body-there x p body.Plain bytes y n a h = absurd (no h)
body-there x p body.NoHole bytes y n a h = absurd (no h)
body-there x p (body.Js j) bytes y n a h = absurd n.1
body-there x p (body.Css j) bytes y n a h = absurd n.1

-- a body below goes on alike
url-leads : (s : Parts) (d : Body) (z : Bool) (w : Quotes) (bytes : List ℕ) (y : Member) → AreTaken bytes s → joined_bodies d (body.Url s) ≡ Some (body.Url s)
    → parts_have (feed_bytes parts_feeding s bytes) y ≡ true → value_has z w d (fed_origin bytes s y) ≡ true → body_has (parts_with d bytes) y ≡ true
url-leads s (body.Url t) z w bytes y a j h o =
    (let f = fed-from bytes s y a h in f.leads t (parts-below t s j) (out-part s t z w (fed_origin bytes s y) f.there o))
url-leads s d z w bytes y a j h o = absurd (none_some (body.Url s) j)

body-leads : (b d : Body) (z : Bool) (w : Quotes) (bytes : List ℕ) (y : Member) → Built b → BodyTaken b bytes → joined_bodies d b ≡ Some b
    → body_has (parts_with b bytes) y ≡ true → value_has z w d (body_origin b bytes (in_body_origin b y)) ≡ true → body_has (parts_with d bytes) y ≡ true
body-leads (body.Url s) d z w bytes y n a j h o =
    url-leads s d z w bytes y a j h
    (subst (λ (m : Member). value_has z w d (fed_origin bytes s m) ≡ true) (url-kept (feed_bytes parts_feeding s bytes) y h) o)
body-leads body.Plain d z w bytes y n a j h o = absurd (no h)
body-leads body.NoHole d z w bytes y n a j h o = absurd (no h)
body-leads (body.Js i) d z w bytes y n a j h o = absurd n.1
body-leads (body.Css i) d z w bytes y n a j h o = absurd n.1

-- A value, and one below it, go on alike: the tag goes on behind both, or ends, or both go on with these quotes and the bytes that they are fed.
data Alike (u v : ValuePlace) (bytes : List ℕ) (f g : Scan) : Type 0 where
  tags : f ≡ in_tag u.tag u.typed only_before None → g ≡ in_tag v.tag v.typed only_before None → Alike u v bytes f g
  ends : f ≡ content_scan u.tag → g ≡ content_scan v.tag → Alike u v bytes f g
  goes : (q : Quotes) → BodyTaken v.body bytes → ((y : Member) → value_has u.typed q (parts_with u.body bytes) y ≡ true → ScanHas f y)
      → ((y : Member) → ScanHas g y → value_has v.typed q (parts_with v.body bytes) y ≡ true) → Alike u v bytes f g

-- After the end of a tag there is nothing but the whole, and what a slash would be where a script begins.
whole-alone : (y : Member) → (is_whole y || false) ≡ true → is_whole y ≡ true
whole-alone y h = or-either (is_whole y ≡ true) (is_whole y) false h (λ k. k) (λ k. absurd (no k))

pub no-less : (y : Member) → ScanHas (content_scan (tag.Start element.DataBlock)) y → is_whole y ≡ true
no-less member.BlockLt h = absurd (no h)
no-less member.Whole h = refl
no-less _ h = h

abbrev NoScript : TagOf → Type 0
NoScript (tag.Start element.Script) = ⊥
NoScript t = Unit {0}

-- where a script begins
begins-script : (y : Member) → ScanHas (content_scan (tag.Start element.Script)) y → (is_whole y ≡ true) ⊎ (y ≡ member.SenseRe)
begins-script member.Whole h = inl refl
begins-script member.SenseRe h = inr refl
begins-script _ h = absurd (no h)

no-script : (t : TagOf) (y : Member) → NoScript t → ScanHas (content_scan t) y → is_whole y ≡ true
no-script tag.End y n h = whole-alone y h
no-script (tag.Start element.Title) y n h = whole-alone y h
no-script (tag.Start element.Textarea) y n h = whole-alone y h
no-script (tag.Start element.DataBlock) y n h = no-less y h
no-script (tag.Start element.Style) y n h =
    or-either (is_whole y ≡ true) (is_whole y) (css_tails_have (style_tails false false false) y) h (λ e. e) (λ e. absurd (no-tails y e))
no-script (tag.Start element.Other) y n h = whole-alone y h
no-script (tag.Start element.Script) y n h = absurd n

pub content-from : (t : TagOf) (y : Member) → ScanHas (content_scan t) y → (is_whole y ≡ true) ⊎ (y ≡ member.SenseRe)
content-from (tag.Start element.Script) y h = begins-script y h
content-from tag.End y h = inl (no-script tag.End y tt h)
content-from (tag.Start element.Title) y h = inl (no-script (tag.Start element.Title) y tt h)
content-from (tag.Start element.Textarea) y h = inl (no-script (tag.Start element.Textarea) y tt h)
content-from (tag.Start element.DataBlock) y h = inl (no-script (tag.Start element.DataBlock) y tt h)
content-from (tag.Start element.Style) y h = inl (no-script (tag.Start element.Style) y tt h)
content-from (tag.Start element.Other) y h = inl (no-script (tag.Start element.Other) y tt h)

abbrev BodyOrigin : ValuePlace → List ℕ → Member → Member
BodyOrigin v bytes y = body_origin v.body bytes (in_body_origin v.body y)

there-whole : (v : ValuePlace) (m : Member) → m ≡ member.Whole → Has (place.Value v) m
there-whole v m e = subst (Has (place.Value v)) (sym e) refl

there-typed : (v : ValuePlace) (m : Member) → (m ≡ member.Typed) × (v.typed ≡ true) → Has (place.Value v) m
there-typed v m e = subst (Has (place.Value v)) (sym e.0) (in-typed v.typed v.quotes v.body member.Typed e.1)

alike-there : (u v : ValuePlace) (bytes : List ℕ) (f g : Scan) (y : Member) → Alike u v bytes f g → Built v.body → ScanHas g y
    → Has (place.Value v) (BodyOrigin v bytes y)
alike-there u v bytes f g y (tags e i) n h =
    let X = BodyOrigin v bytes y in
    or-either (Has (place.Value v) X) (is_whole y) (typed_has v.typed y || spots_have only_before y) (subst (λ (x : Scan). ScanHas x y) i h)
    (λ k. there-whole v X (whole-origin v.body bytes y k))
    (λ k. or-either (Has (place.Value v) X) (typed_has v.typed y) (spots_have only_before y) k
    (λ l. there-typed v X (typed-origin v.body bytes v.typed y l)) (λ l. there-whole v X (spot-origin v.body bytes y l)))
alike-there u v bytes f g y (ends e i) n h =
    ⊎_elim (λ k. there-whole v (BodyOrigin v bytes y) (whole-origin v.body bytes y k))
    (λ k. there-whole v (BodyOrigin v bytes y) (sense-origin v.body bytes y n.1 k)) (content-from v.tag y (subst (λ (x : Scan). ScanHas x y) i h))
alike-there u v bytes f g y (goes q a into out) n h =
    let X = BodyOrigin v bytes y in
    value-cases (Has (place.Value v) X) v.typed q (parts_with v.body bytes) y (out y h)
    (λ k. there-whole v X (whole-origin v.body bytes y k)) (λ k. there-typed v X (typed-origin v.body bytes v.typed y k))
    (λ k. there-whole v X (quotes-origin v.body bytes q y k)) (λ k. body-there v.typed v.quotes v.body bytes y n a k)

-- a path that has the member before has the one after
seen : (u v : ValuePlace) (bytes : List ℕ) (y : Member) → body_error v.body ≡ None → joined_bodies u.body v.body ≡ Some v.body → typed_has v.typed y ≡ true
    → Has (place.Value u) (BodyOrigin v bytes y) → typed_has u.typed y ≡ true
seen u v bytes y n j h o =
    let e = typed-origin v.body bytes v.typed y h in
    typed-more v.typed u.typed y h (typed-only u.typed u.quotes u.body (body-accepts u.body v.body j n) (subst (Has (place.Value u)) e.0 o))

alike-leads : (u v : ValuePlace) (bytes : List ℕ) (f g : Scan) (y : Member) → u.tag ≡ v.tag → Alike u v bytes f g → Built v.body
    → joined_bodies u.body v.body ≡ Some v.body
    → ScanHas g y → Has (place.Value u) (BodyOrigin v bytes y) → ScanHas f y
alike-leads u v bytes f g y t (tags e i) n j h o =
    or-either (ScanHas f y) (is_whole y) (typed_has v.typed y || spots_have only_before y) (subst (λ (x : Scan). ScanHas x y) i h)
    (λ k. whole-in f y k)
    (λ k. subst (λ (x : Scan). ScanHas x y) (sym e)
    (or-behind (is_whole y) (typed_has u.typed y || spots_have only_before y)
    (or-either ((typed_has u.typed y || spots_have only_before y) ≡ true) (typed_has v.typed y) (spots_have only_before y) k
    (λ l. or-first (typed_has u.typed y) (spots_have only_before y) (seen u v bytes y n.0 j l o))
    (λ l. or-behind (typed_has u.typed y) (spots_have only_before y) l))))
alike-leads u v bytes f g y t (ends e i) n j h o = subst (λ (x : Scan). ScanHas x y) (i ∙ sym (ap content_scan t) ∙ sym e) h
alike-leads u v bytes f g y t (goes q a into out) n j h o =
    value-cases (ScanHas f y) v.typed q (parts_with v.body bytes) y (out y h) (λ k. whole-in f y k)
    (λ k. into y (in-typed u.typed q (parts_with u.body bytes) y (seen u v bytes y n.0 j k o))) (λ k. into y (in-quotes u.typed q (parts_with u.body bytes) y k))
    (λ k. into y (in-body u.typed q (parts_with u.body bytes) y (body-leads v.body u.body u.typed u.quotes bytes y n a j k o)))

-- what a URL has as a place and in a triple or a reference
pub url-in : (w : ValuePlace) (t : Triple) (r : Reference) (y : Member) → Has (place.Value w) y → ScanHas (url_scan w t r) y
url-in w NoTriple Closed y h = h
url-in w NoTriple (Open f l) y h = h
url-in w AfterPercent r y h = h
url-in w AfterDigit r y h = h

pub url-out : (w : ValuePlace) (t : Triple) (r : Reference) (y : Member) → ScanHas (url_scan w t r) y → Has (place.Value w) y
url-out w NoTriple Closed y h = h
url-out w NoTriple (Open f l) y h = h
url-out w AfterPercent r y h = h
url-out w AfterDigit r y h = h

-- neither value is one of a language that is not built
abbrev AreBuilt : ValuePlace → ValuePlace → Type 0
AreBuilt u v = Built u.body × Built v.body

fed-in : (v : ValuePlace) (q : Quotes) (x : Body) (t : Triple) (r : Reference) (c : Class) (b : ℕ) (y : Member) → v.body ≡ x
    → Built x → value_has v.typed q (parts_with x (undone_byte true r c b)) y ≡ true → ScanHas (value_fed v q x t r c b) y
fed-in v q (body.Url s) t r c b y e n h =
    url-in (with_parts v q (feed_bytes parts_feeding s (undone_byte true r c b))) (triple_behind t (undone_byte true r c b)) (next_reference r c b) y h
fed-in v q (body.Css p) t r c b y e n h = absurd n.1
fed-in v q (body.Js p) t r c b y e n h = absurd n.1
fed-in v q _ t r c b y e n h = subst (λ (z : Body). value_has v.typed q z y ≡ true) (sym e) h

fed-out : (v : ValuePlace) (q : Quotes) (x : Body) (t : Triple) (r : Reference) (c : Class) (b : ℕ) (y : Member) → v.body ≡ x
    → Built x → ScanHas (value_fed v q x t r c b) y → value_has v.typed q (parts_with x (undone_byte true r c b)) y ≡ true
fed-out v q (body.Url s) t r c b y e n h =
    url-out (with_parts v q (feed_bytes parts_feeding s (undone_byte true r c b))) (triple_behind t (undone_byte true r c b)) (next_reference r c b) y h
fed-out v q (body.Css p) t r c b y e n h = absurd n.1
fed-out v q (body.Js p) t r c b y e n h = absurd n.1
fed-out v q _ t r c b y e n h = subst (λ (z : Body). value_has v.typed q z y ≡ true) e h

goes-fed : (u v : ValuePlace) (q : Quotes) (t : Triple) (r : Reference) (c : Class) (b : ℕ) → AreBuilt u v → BodyTaken v.body (undone_byte true r c b)
    → Alike u v (undone_byte true r c b) (value_fed u q u.body t r c b) (value_fed v q v.body t r c b)
goes-fed u v q t r c b z a = goes q a (λ y h. fed-in u q u.body t r c b y refl z.0 h) (λ y h. fed-out v q v.body t r c b y refl z.1 h)

goes-same : (u v : ValuePlace) (q : Quotes) → Alike u v [] (with_quotes u q) (with_quotes v q)
goes-same u v q =
    goes q (nothing-taken v.body) (λ y h. subst (λ (z : Body). value_has u.typed q z y ≡ true) (nothing-fed u.body) h)
    (λ y h. subst (λ (z : Body). value_has v.typed q z y ≡ true) (sym (nothing-fed v.body)) h)

-- which bytes are not refused
taken-by : (x : Body) (q : Quotes) (r : Reference) (c : Class) (b : ℕ) → body_cause x q r c b ≡ None
    → ((s : Parts) → quoted_error parts_feeding q s r c b ≡ None → AreTaken (undone_byte true r c b) s)
    → BodyTaken x (undone_byte true r c b)
taken-by (body.Url s) q r c b n f = f s n
taken-by _ q r c b n f = tt

bare-taken : (x : Bool) (r : Reference) (s : Parts) (c : Class) (b : ℕ) → BegunIf r x
    → (if x then language_error parts_feeding false s r c b else fed_error parts_feeding s (plain_bytes c b) false 0) ≡ None
    → AreTaken (undone_byte true r c b) s
bare-taken true r s c b i h = language-taken r s c b h
bare-taken false Closed s c b i h = fed-taken (plain_bytes c b) s false 0 h
bare-taken false (Open f l) s c b i h = absurd (no i)

begun-as : (r : Reference) (s : Bare) → BegunWhereOpen r (quotes.Bare s) → BegunIf r s.uq
begun-as Closed s v = tt
begun-as (Open f bytes) s v = v.0

white-alike : (u v : ValuePlace) (a b : Bool) → a ≡ b → Alike u v [] (bare_white u a) (bare_white v b)
white-alike u v true true e = tags refl refl
white-alike u v false false e = goes-same u v unbegun
white-alike u v true false e = absurd (no (sym e))
white-alike u v false true e = absurd (no e)

bare-alike : (u v : ValuePlace) (s p : Bare) (t : Triple) (r : Reference) (c : Class) (b : ℕ) → some_bare s ≡ true → BegunWhereOpen r (quotes.Bare p)
    → Under s.uq p.uq
    → Under s.unbegun p.unbegun → AreBuilt u v
    → body_cause v.body (quotes.Bare p) r c b ≡ None → bare_error v.tag p c ≡ None
    → Alike u v (fed_in (quotes.Bare p) r c b) (bare_next u s.uq t r c b) (bare_next v p.uq t r c b)
bare-alike u v s p t r White b h i j k z m n =
    white-alike u v s.uq p.uq (bare-white s.uq s.unbegun p.uq p.unbegun h j k (if-none (p.uq && p.unbegun) code.AmbigContext n)).0
bare-alike u v s p t r QuotationMark b h i j k z m n = goes-same u v quotes.Dq
bare-alike u v s p t r Apostrophe b h i j k z m n = goes-same u v quotes.Sq
bare-alike u v s p t r GreaterThan b h i j k z m n = ends refl refl
bare-alike u v s p t r LessThan b h i j k z m n = absurd (some _ n)
bare-alike u v s p t r EqualsSign b h i j k z m n = absurd (some _ n)
bare-alike u v s p t r GraveAccent b h i j k z m n = absurd (some _ n)
bare-alike u v s p t r c b h i j k z m n =
    goes-fed u v bare_begun t r c b z (taken-by v.body (quotes.Bare p) r c b m (λ a e. bare-taken p.uq r a c b (begun-as r p i) e))

quotes-alike : (u v : ValuePlace) (q p : Quotes) (t : Triple) (r : Reference) (c : Class) (b : ℕ) → IsValidQuotes q → BegunWhereOpen r p
    → joined_quotes q p ≡ Some p → AreBuilt u v
    → body_cause v.body p r c b ≡ None → quotes_error v.tag p c ≡ None → Alike u v (fed_in p r c b) (quoted_next u q t r c b) (quoted_next v p t r c b)
quotes-alike u v quotes.Dq quotes.Dq t r QuotationMark b h i j z m n = tags refl refl
quotes-alike u v quotes.Dq quotes.Dq t r c b h i j z m n = goes-fed u v quotes.Dq t r c b z (taken-by v.body quotes.Dq r c b m (λ a e. language-taken r a c b e))
quotes-alike u v quotes.Sq quotes.Sq t r Apostrophe b h i j z m n = tags refl refl
quotes-alike u v quotes.Sq quotes.Sq t r c b h i j z m n = goes-fed u v quotes.Sq t r c b z (taken-by v.body quotes.Sq r c b m (λ a e. language-taken r a c b e))
quotes-alike u v (quotes.Bare s) (quotes.Bare p) t r c b h i j z m n = let d = bare-parts s p j in bare-alike u v s p t r c b h i d.0 d.1 z m n
quotes-alike u v quotes.Dq quotes.Sq t r c b h i j z m n = absurd (none_some quotes.Sq j)
quotes-alike u v quotes.Dq (quotes.Bare p) t r c b h i j z m n = absurd (none_some (quotes.Bare p) j)
quotes-alike u v quotes.Sq quotes.Dq t r c b h i j z m n = absurd (none_some quotes.Dq j)
quotes-alike u v quotes.Sq (quotes.Bare p) t r c b h i j z m n = absurd (none_some (quotes.Bare p) j)
quotes-alike u v (quotes.Bare s) quotes.Dq t r c b h i j z m n = absurd (none_some quotes.Dq j)
quotes-alike u v (quotes.Bare s) quotes.Sq t r c b h i j z m n = absurd (none_some quotes.Sq j)

-- a member after a byte of a value comes from this one before it
pub record ValueFrom (v : ValuePlace) (t : Triple) (r : Reference) (c : Class) (b : ℕ) (y x : Member) : Type 0 where
  pub there : Has (place.Value v) x
  pub leads : (u : ValuePlace) → IsValidQuotes u.quotes → ValueBelow u v → Has (place.Value u) x → ScanHas (value_next u t r c b) y

pub value-from : (v : ValuePlace) (t : Triple) (r : Reference) (c : Class) (b : ℕ) (y : Member) → IsValidQuotes v.quotes → BegunWhereOpen r v.quotes
    → Unstyled v.body → value_cause v r c b ≡ None
    → ScanHas (value_next v t r c b) y → ValueFrom v t r c b y (value_origin v r c b y)
value-from v t r c b y w i z n h =
    let m = first-no-cause (body_cause v.body v.quotes r c b) (at_hand (value_error v c)) n in
    let e = first-none (body_error v.body) (quotes_error v.tag v.quotes c) (none-at-hand (value_error v c) m.1) in
    let bytes = fed_in v.quotes r c b in
    let same = below-value v v (places_same (place.Value v)) in
    let built : Built v.body = (e.0, z) in
    record {
      there = alike-there v v bytes (value_next v t r c b) (value_next v t r c b) y (quotes-alike v v v.quotes v.quotes t r c b w i same.quotes (built, built) m.0 e.1) built h;
      leads = λ u x l o. alike-leads u v bytes (value_next u t r c b) (value_next v t r c b) y l.tag
          (quotes-alike u v u.quotes v.quotes t r c b x i l.quotes ((body-accepts u.body v.body l.body e.0, unstyled-below u.body v.body l.body z), built) m.0 e.1) built l.body h o;
    }

-- The end of a text in a URL.
end-other : (b : Body) (bytes : List ℕ) (y : Member) → Unstyled b → ((s : Parts) → fed_origin bytes s y ≡ y) → body_origin b bytes y ≡ y
end-other (body.Url s) bytes y z e = e s
end-other (body.Css c) bytes y z e = absurd z
end-other (body.Js c) bytes y z e = absurd z
end-other _ bytes y z e = refl

whole-stays : (b : Body) (bytes : List ℕ) (y : Member) → is_whole y ≡ true → body_origin b bytes y ≡ y
whole-stays b bytes member.Whole h = body-whole b bytes
whole-stays b bytes _ h = absurd (no h)

typed-stays : (b : Body) (bytes : List ℕ) (x : Bool) (y : Member) → typed_has x y ≡ true → body_origin b bytes y ≡ y
typed-stays b bytes x member.Typed h = body-typed b bytes
typed-stays b bytes x _ h = absurd (no h)

quotes-stay : (b : Body) (bytes : List ℕ) (q : Quotes) (y : Member) → Unstyled b → quotes_have q y ≡ true → body_origin b bytes y ≡ y
quotes-stay b bytes (quotes.Bare s) member.UnquotedValue z h = end-other b bytes member.UnquotedValue z (λ a. (fed-quoted bytes a).0)
quotes-stay b bytes (quotes.Bare s) member.UnbegunValue z h = end-other b bytes member.UnbegunValue z (λ a. (fed-quoted bytes a).1)
quotes-stay b bytes (quotes.Bare s) _ z h = absurd (no h)
quotes-stay b bytes quotes.Dq y z h = absurd (no h)
quotes-stay b bytes quotes.Sq y z h = absurd (no h)

-- what is no part stays as it is
stays : (s : Parts) (z : Bool) (w : Quotes) (d : Body) (bytes : List ℕ) (y : Member) → joined_bodies d (body.Url s) ≡ Some (body.Url s)
    → ((a : Parts) → parts_have a y ≡ true → ⊥) → value_has z w d y ≡ true → value_has z w (parts_with d bytes) y ≡ true
stays s z w (body.Url t) bytes y j f h =
    value-cases (value_has z w (parts_with (body.Url t) bytes) y ≡ true) z w (body.Url t) y h (λ k. in-whole z w (parts_with (body.Url t) bytes) y k)
    (λ k. in-typed z w (parts_with (body.Url t) bytes) y k) (λ k. in-quotes z w (parts_with (body.Url t) bytes) y k) (λ k. absurd (f t k))
stays s z w d bytes y j f h = absurd (none_some (body.Url s) j)

pub record EndFrom (v : ValuePlace) (r : Reference) (y x : Member) : Type 0 where
  pub there : Has (place.Value v) x
  pub leads : (u : ValuePlace) → ValueBelow u v → Has (place.Value u) x → value_has u.typed u.quotes (parts_with u.body (as_it_stands r)) y ≡ true

end-itself : (v : ValuePlace) (r : Reference) (s : Parts) (y : Member) → v.body ≡ body.Url s → value_has v.typed v.quotes v.body y ≡ true
    → ((a : Parts) → parts_have a y ≡ true → ⊥)
    → body_origin v.body (as_it_stands r) y ≡ y → EndFrom v r y (body_origin v.body (as_it_stands r) y)
end-itself v r s y b h f e = record {
  there = subst (Has (place.Value v)) (sym e) h;
  leads = λ u l o. stays s u.typed u.quotes u.body (as_it_stands r) y (subst (λ (z : Body). joined_bodies u.body z ≡ Some z) b l.body) f
      (subst (Has (place.Value u)) e o);
}

end-part : (v : ValuePlace) (r : Reference) (s : Parts) (y : Member) → v.body ≡ body.Url s → AreTaken (as_it_stands r) s
    → parts_have (feed_bytes parts_feeding s (as_it_stands r)) y ≡ true
    → EndFrom v r y (body_origin v.body (as_it_stands r) y)
end-part v r s y b a h =
    let e : body_origin v.body (as_it_stands r) y ≡ fed_origin (as_it_stands r) s y = ap (λ (z : Body). body_origin z (as_it_stands r) y) b in
    record {
      there = subst (Has (place.Value v)) (sym e) (subst (λ (z : Body). value_has v.typed v.quotes z (fed_origin (as_it_stands r) s y) ≡ true) (sym b)
          (in-body v.typed v.quotes (body.Url s) (fed_origin (as_it_stands r) s y) ((fed-from (as_it_stands r) s y a h).there)));
      leads = λ u l o. in-body u.typed u.quotes (parts_with u.body (as_it_stands r)) y
          (url-leads s u.body u.typed u.quotes (as_it_stands r) y a (subst (λ (z : Body). joined_bodies u.body z ≡ Some z) b l.body) h
          (subst (Has (place.Value u)) e o));
    }

pub end-from : (v : ValuePlace) (r : Reference) (y : Member) → UrlWithin v.body → open_cut_error v.body (as_it_stands r) ≡ None
    → value_has v.typed v.quotes (parts_with v.body (as_it_stands r)) y ≡ true → EndFrom v r y (body_origin v.body (as_it_stands r) y)
end-from v r y w n h =
    let p = url-within v.body w in
    let s = p.0 in
    let a = fed-taken (as_it_stands r) s true _ (subst (λ (z : Body). open_cut_error z (as_it_stands r) ≡ None) p.1 n) in
    value-cases (EndFrom v r y (body_origin v.body (as_it_stands r) y)) v.typed v.quotes (parts_with v.body (as_it_stands r)) y h
    (λ k. end-itself v r s y p.1 (in-whole v.typed v.quotes v.body y k) (λ a m. whole-no-part a y k m) (whole-stays v.body (as_it_stands r) y k))
    (λ k. end-itself v r s y p.1 (in-typed v.typed v.quotes v.body y k) (λ a m. typed-no-part a v.typed y k m)
    (typed-stays v.body (as_it_stands r) v.typed y k))
    (λ k. end-itself v r s y p.1 (in-quotes v.typed v.quotes v.body y k) (λ a m. quotes-no-part a v.quotes y k m)
    (quotes-stay v.body (as_it_stands r) v.quotes y (within-unstyled v.body w) k))
    (λ k. end-part v r s y p.1 a (subst (λ (z : Body). body_has (parts_with z (as_it_stands r)) y ≡ true) p.1 k))
