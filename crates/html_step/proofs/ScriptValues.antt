-- Each member after a byte of a value that is a script, and after its end, comes from one member before it.
use Rattle.std.proofs.Common.{◌≡◌, ℕ, ◌+◌, Bool, true, false, ◌||◌, ◌&&◌, List, [], ◌∷◌, ◌++◌, length, Some, None, if◌then◌else◌, refl, sym, ap, ◌∙◌, subst, ⊎_elim}
use Rattle.std.specs.Prelude.{encode_utf8}
use Rattle.place_core.specs.page.Classes.{Class, White, QuotationMark, Apostrophe, LessThan, EqualsSign, GreaterThan, GraveAccent, is_equals_sign}
use Rattle.place_core.specs.page.References.{Form, Reference, Closed, Open, ReferenceStep, Grows, Closes, Breaks, as_it_stands, flushed, meaning, plain_bytes, turn, turn_bytes, undone_byte}
use Rattle.place_core.specs.page.Tags.{feed_bytes}
use Rattle.place_core.specs.place.Errors.{at_hand, bare_error, body_error, fed_error, flushed_error, is_unknown_name, is_written, language_error, name_error, quotes_error, turned_error, value_error}
use Rattle.place_core.specs.place.LanguagePlaces.{js_has}
use Rattle.place_core.specs.place.Places.{Has, IsValid, IsValidBody, IsValidQuotes, body_has, is_whole, joined_bodies, joined_quotes, quotes_have, some_bare, spots_have, typed_has}
use Rattle.place_core.specs.place.StatePlaces.{only_before, unbegun}
use Rattle.place_core.specs.declared.bare.Bare.{Bare}
use Rattle.place_core.specs.declared.body.Body.{Body}
use Rattle.place_core.specs.declared.body.Body.TheVariants as body
use Rattle.place_core.specs.declared.code.Code.TheVariants as code
use Rattle.place_core.specs.declared.css.Css.{Css}
use Rattle.place_core.specs.declared.member.Member.{Member}
use Rattle.place_core.specs.declared.member.Member.TheVariants as member
use Rattle.place_core.specs.declared.place.Place.TheVariants as place
use Rattle.place_core.specs.declared.quotes.Quotes.{Quotes}
use Rattle.place_core.specs.declared.quotes.Quotes.TheVariants as quotes
use Rattle.place_core.specs.declared.value_place.ValuePlace.{ValuePlace}
use Rattle.place_core.proofs.Semilattices.{none_some}
use Rattle.place_core.proofs.Joins.{places_same}
use Rattle.html_scan.specs.Scans.{Scan, At, InScript, bare_begun, bare_leads, bare_white, body_cause, content_scan, empty_script_between, in_tag, quoted_error, quotes_lead, scan_cut_error, scan_next, scan_place, script_cause, script_fed_byte, script_fed_next, script_feeding, script_value_next, with_script, value_between, value_cause, value_fed, value_next, with_quotes}
use Rattle.js_step.specs.ScriptEvidence.{script_scan_has}
use Rattle.html_step.specs.Origins.{body_origin, fed_in, in_body_origin, in_value_origin, script_origin, value_origin}
use Rattle.html_step.proofs.BelowScans.{below-at-value, below-script, whole-in}
use Rattle.html_step.proofs.FromParts.{first-no-cause, or-behind, or-either, or-first}
use Rattle.html_step.proofs.FromValues.{From, FromEnd, content-from, typed-more}
use Rattle.html_step.proofs.PathScans.{none-at-hand, some}
use Rattle.html_step.proofs.PlaceParts.{Under, below-value}
use Rattle.html_step.proofs.ScanOrder.{BegunWhereOpen, HasBegun, ScanHas, ScanValid, ScriptValueBelow, bare-parts, bare-white, begun-open, begun-valid, first-none, if-none, script_cut}
use Rattle.url_lexer.specs.Triples.{NoTriple}
use Rattle.html_step.proofs.FedAlike.{BegunIf}
use Rattle.place_core.specs.declared.js.Js.{Js}
use Rattle.js_step.specs.ScriptOrigins.{script_set_has}
use Rattle.js_step.specs.ScriptScans.{ScriptScan, script_scan_place, script_scan_start}
use Rattle.js_step.specs.ScriptValidity.{IsScriptScan}
use Rattle.js_step.proofs.ScriptMembers.{scripts-come-from}
use Rattle.html_step.proofs.ScriptFrom.{IsScriptMember, PlaceFrom, place_itself, place_whole, TakesScript, has-script-set, foreign-origin, itself-origin, other-origin, member-whole, out-set, js-is, script-end-from, script-fed-from, script-fed-taken, script-kept, script-typed-origin, script-unbegun, script-unquoted, script-untyped, script-whole-origin}
use Rattle.html_step.proofs.ScriptOrder.{ScriptUnder, script-fed-valid, script-start-valid, scripts-in-order}

no : false ≡ true → ⊥
no e = cc

-- What a value that is a script has: the whole, whether a `type` may have been seen, and the members of its quotes and of the scan state of the script.
abbrev pub script_has : Bool → Quotes → ScriptScan → Member → Bool
script_has x q n y = is_whole y || (typed_has x y || (quotes_have q y || script_set_has n y))

pub in-whole : (x : Bool) (q : Quotes) (n : ScriptScan) (y : Member) → is_whole y ≡ true → script_has x q n y ≡ true
in-whole x q n y h = or-first (is_whole y) (typed_has x y || (quotes_have q y || script_set_has n y)) h

pub in-typed : (x : Bool) (q : Quotes) (n : ScriptScan) (y : Member) → typed_has x y ≡ true → script_has x q n y ≡ true
in-typed x q n y h = or-behind (is_whole y) (typed_has x y || (quotes_have q y || script_set_has n y)) (or-first (typed_has x y) (quotes_have q y || script_set_has n y) h)

pub in-quotes : (x : Bool) (q : Quotes) (n : ScriptScan) (y : Member) → quotes_have q y ≡ true → script_has x q n y ≡ true
in-quotes x q n y h =
    or-behind (is_whole y) (typed_has x y || (quotes_have q y || script_set_has n y))
    (or-behind (typed_has x y) (quotes_have q y || script_set_has n y) (or-first (quotes_have q y) (script_set_has n y) h))

pub in-set : (x : Bool) (q : Quotes) (n : ScriptScan) (y : Member) → script_set_has n y ≡ true → script_has x q n y ≡ true
in-set x q n y h =
    or-behind (is_whole y) (typed_has x y || (quotes_have q y || script_set_has n y))
    (or-behind (typed_has x y) (quotes_have q y || script_set_has n y) (or-behind (quotes_have q y) (script_set_has n y) h))

pub script-cases : (P : Type 0) (x : Bool) (q : Quotes) (n : ScriptScan) (y : Member) → script_has x q n y ≡ true → (is_whole y ≡ true → P) → (typed_has x y ≡ true → P)
    → (quotes_have q y ≡ true → P) → (script_set_has n y ≡ true → P) → P
script-cases P x q n y h e f g k =
    or-either P (is_whole y) (typed_has x y || (quotes_have q y || script_set_has n y)) h e
    (λ i. or-either P (typed_has x y) (quotes_have q y || script_set_has n y) i f (λ j. or-either P (quotes_have q y) (script_set_has n y) j g k))

-- what a scan state of a style has, the value has
pub in-scan : (x : Bool) (q : Quotes) (n : ScriptScan) (y : Member) → script_scan_has n y ≡ true → script_has x q n y ≡ true
in-scan x q n y h = or-either (script_has x q n y ≡ true) (is_whole y) (script_set_has n y) h (λ k. in-whole x q n y k) (λ k. in-set x q n y k)

-- Where the members come from, before the bytes that the script is fed.
abbrev pub ScriptValueOrigin : ScriptScan → Member → Member
ScriptValueOrigin n y = script_origin n (in_value_origin y)

whole-origin : (n : ScriptScan) (y : Member) → is_whole y ≡ true → ScriptValueOrigin n y ≡ member.Whole
whole-origin n member.Whole h = script-whole-origin n
whole-origin n _ h = absurd (no h)

typed-origin : (n : ScriptScan) (x : Bool) (y : Member) → typed_has x y ≡ true → (ScriptValueOrigin n y ≡ member.Typed) × (x ≡ true)
typed-origin n x member.Typed h = (script-typed-origin n, h)
typed-origin n x _ h = absurd (no h)

quotes-origin : (n : ScriptScan) (q : Quotes) (y : Member) → quotes_have q y ≡ true → ScriptValueOrigin n y ≡ member.Whole
quotes-origin n (quotes.Bare s) member.UnquotedValue h = script-whole-origin n
quotes-origin n (quotes.Bare s) member.UnbegunValue h = script-whole-origin n
quotes-origin n (quotes.Bare s) _ h = absurd (no h)
quotes-origin n quotes.Dq y h = absurd (no h)
quotes-origin n quotes.Sq y h = absurd (no h)

spot-origin : (n : ScriptScan) (y : Member) → spots_have only_before y ≡ true → ScriptValueOrigin n y ≡ member.Whole
spot-origin n member.BeforeSpot h = script-whole-origin n
spot-origin n _ h = absurd (no h)

scan-untyped : (n : ScriptScan) (x : Bool) (y : Member) → script_scan_has n y ≡ true → typed_has x y ≡ true → ⊥
scan-untyped n x member.Typed h k = script-untyped n h
scan-untyped n x _ h k = no k

scan-unquoted : (n : ScriptScan) (q : Quotes) (y : Member) → script_scan_has n y ≡ true → quotes_have q y ≡ true → ⊥
scan-unquoted n (quotes.Bare s) member.UnquotedValue h k = script-unquoted n h
scan-unquoted n (quotes.Bare s) member.UnbegunValue h k = script-unbegun n h
scan-unquoted n (quotes.Bare s) _ h k = no k
scan-unquoted n quotes.Dq y h k = no k
scan-unquoted n quotes.Sq y h k = no k

-- what a value has of what a scan state has, its own scan state has
pub out-scan : (n k : ScriptScan) (x : Bool) (q : Quotes) (y : Member) → script_scan_has n y ≡ true → script_has x q k y ≡ true → script_scan_has k y ≡ true
out-scan n k x q y h o =
    script-cases (script_scan_has k y ≡ true) x q k y o (λ e. or-first (is_whole y) (script_set_has k y) e) (λ e. absurd (scan-untyped n x y h e))
    (λ e. absurd (scan-unquoted n q y h e)) (λ e. has-script-set k y e)

-- A value that is a style, and one below it, go on alike: the tag goes on behind both, or ends, or both go on with these quotes and the bytes that they are
-- fed.
pub data ScriptAlike (u v : ValuePlace) (k n : ScriptScan) (bytes : List ℕ) (f g : Scan) : Type 0 where
  script_tags : f ≡ in_tag u.tag u.typed only_before None → g ≡ in_tag v.tag v.typed only_before None → ScriptAlike u v k n bytes f g
  script_ends : f ≡ content_scan u.tag → g ≡ content_scan v.tag → ScriptAlike u v k n bytes f g
  script_goes : (q : Quotes) → TakesScript bytes n → ((y : Member) → script_has u.typed q (feed_bytes script_feeding k bytes) y ≡ true → ScanHas f y)
      → ((y : Member) → ScanHas g y → script_has v.typed q (feed_bytes script_feeding n bytes) y ≡ true) → ScriptAlike u v k n bytes f g

there-whole : (v : ValuePlace) (n : ScriptScan) (m : Member) → m ≡ member.Whole → script_has v.typed v.quotes n m ≡ true
there-whole v n m e = subst (λ (x : Member). script_has v.typed v.quotes n x ≡ true) (sym e) refl

there-typed : (v : ValuePlace) (n : ScriptScan) (m : Member) → (m ≡ member.Typed) × (v.typed ≡ true) → script_has v.typed v.quotes n m ≡ true
there-typed v n m e = subst (λ (x : Member). script_has v.typed v.quotes n x ≡ true) (sym e.0) (in-typed v.typed v.quotes n member.Typed e.1)

there-set : (v : ValuePlace) (n : ScriptScan) (bytes : List ℕ) (y : Member) → IsScriptScan n → TakesScript bytes n → script_set_has (feed_bytes script_feeding n bytes) y ≡ true
    → script_scan_has n (ScriptValueOrigin n y) ≡ true
there-set v n bytes y w a h =
    subst (λ (m : Member). script_scan_has n (script_origin n m) ≡ true) (sym (script-kept (feed_bytes script_feeding n bytes) y h))
    (script-fed-from bytes n y w a h).there

-- where a script begins behind its tag
sense-there : (v : ValuePlace) (n : ScriptScan) (x : Bool) → script_set_has n member.SenseRe ≡ x → script_has v.typed v.quotes n (ScriptValueOrigin n member.SenseRe) ≡ true
sense-there v n true e =
    subst (λ (m : Member). script_has v.typed v.quotes n m ≡ true) (sym (itself-origin n member.SenseRe e)) (in-set v.typed v.quotes n member.SenseRe e)
sense-there v n false e = there-whole v n (script_origin n member.SenseRe) (other-origin n member.SenseRe e)

pub alike-there : (u v : ValuePlace) (k n : ScriptScan) (bytes : List ℕ) (f g : Scan) (y : Member) → IsScriptScan n → ScriptAlike u v k n bytes f g → ScanHas g y
    → script_has v.typed v.quotes n (ScriptValueOrigin n y) ≡ true
alike-there u v k n bytes f g y w (script_tags e i) h =
    let X = ScriptValueOrigin n y in
    or-either (script_has v.typed v.quotes n X ≡ true) (is_whole y) (typed_has v.typed y || spots_have only_before y) (subst (λ (x : Scan). ScanHas x y) i h)
    (λ k. there-whole v n X (whole-origin n y k))
    (λ k. or-either (script_has v.typed v.quotes n X ≡ true) (typed_has v.typed y) (spots_have only_before y) k
    (λ l. there-typed v n X (typed-origin n v.typed y l)) (λ l. there-whole v n X (spot-origin n y l)))
alike-there u v k n bytes f g y w (script_ends e i) h =
    ⊎_elim (λ k. there-whole v n (ScriptValueOrigin n y) (whole-origin n y k))
    (λ k. subst (λ (x : Member). script_has v.typed v.quotes n (ScriptValueOrigin n x) ≡ true) (sym k) (sense-there v n (script_set_has n member.SenseRe) refl))
    (content-from v.tag y (subst (λ (x : Scan). ScanHas x y) i h))
alike-there u v k n bytes f g y w (script_goes q a into out) h =
    let X = ScriptValueOrigin n y in
    script-cases (script_has v.typed v.quotes n X ≡ true) v.typed q (feed_bytes script_feeding n bytes) y (out y h)
    (λ k. there-whole v n X (whole-origin n y k)) (λ k. there-typed v n X (typed-origin n v.typed y k))
    (λ k. there-whole v n X (quotes-origin n q y k)) (λ k. in-scan v.typed v.quotes n X (there-set v n bytes y w a k))

-- a path that has the member before has the one after
typed-only : (x : Bool) (q : Quotes) (n : ScriptScan) → script_has x q n member.Typed ≡ true → x ≡ true
typed-only x (quotes.Bare s) n h = or-either (x ≡ true) x (script_set_has n member.Typed) h (λ k. k) (λ k. absurd (script-untyped n k))
typed-only x quotes.Dq n h = or-either (x ≡ true) x (script_set_has n member.Typed) h (λ k. k) (λ k. absurd (script-untyped n k))
typed-only x quotes.Sq n h = or-either (x ≡ true) x (script_set_has n member.Typed) h (λ k. k) (λ k. absurd (script-untyped n k))

seen : (u v : ValuePlace) (k n : ScriptScan) (bytes : List ℕ) (y : Member) → typed_has v.typed y ≡ true
    → script_has u.typed u.quotes k (ScriptValueOrigin n y) ≡ true → typed_has u.typed y ≡ true
seen u v k n bytes y h o =
    let e = typed-origin n v.typed y h in
    typed-more v.typed u.typed y h (typed-only u.typed u.quotes k (subst (λ (x : Member). script_has u.typed u.quotes k x ≡ true) e.0 o))

set-leads : (u : ValuePlace) (k n : ScriptScan) (bytes : List ℕ) (y : Member) → IsScriptScan n → TakesScript bytes n → ScriptUnder k n
    → script_set_has (feed_bytes script_feeding n bytes) y ≡ true → script_has u.typed u.quotes k (ScriptValueOrigin n y) ≡ true
    → script_scan_has (feed_bytes script_feeding k bytes) y ≡ true
set-leads u k n bytes y w a l h o =
    let kept = script-kept (feed_bytes script_feeding n bytes) y h in
    let f = script-fed-from bytes n y w a h in
    let x = script_origin n y in
    f.leads k l (out-scan n k u.typed u.quotes x f.there (subst (λ (m : Member). script_has u.typed u.quotes k (script_origin n m) ≡ true) kept o))

pub alike-leads : (u v : ValuePlace) (k n : ScriptScan) (bytes : List ℕ) (f g : Scan) (y : Member) → u.tag ≡ v.tag → IsScriptScan n → ScriptAlike u v k n bytes f g → ScriptUnder k n
    → ScanHas g y → script_has u.typed u.quotes k (ScriptValueOrigin n y) ≡ true → ScanHas f y
alike-leads u v k n bytes f g y t w (script_tags e i) d h o =
    or-either (ScanHas f y) (is_whole y) (typed_has v.typed y || spots_have only_before y) (subst (λ (x : Scan). ScanHas x y) i h)
    (λ j. whole-in f y j)
    (λ j. subst (λ (x : Scan). ScanHas x y) (sym e)
    (or-behind (is_whole y) (typed_has u.typed y || spots_have only_before y)
    (or-either ((typed_has u.typed y || spots_have only_before y) ≡ true) (typed_has v.typed y) (spots_have only_before y) j
    (λ l. or-first (typed_has u.typed y) (spots_have only_before y) (seen u v k n bytes y l o))
    (λ l. or-behind (typed_has u.typed y) (spots_have only_before y) l))))
alike-leads u v k n bytes f g y t w (script_ends e i) d h o = subst (λ (x : Scan). ScanHas x y) (i ∙ sym (ap content_scan t) ∙ sym e) h
alike-leads u v k n bytes f g y t w (script_goes q a into out) d h o =
    let m = feed_bytes script_feeding k bytes in
    script-cases (ScanHas f y) v.typed q (feed_bytes script_feeding n bytes) y (out y h) (λ j. whole-in f y j)
    (λ j. into y (in-typed u.typed q m y (seen u v k n bytes y j o))) (λ j. into y (in-quotes u.typed q m y j))
    (λ j. into y (in-scan u.typed q m y (set-leads u k n bytes y w a d j o)))

taken-append : (xs ys : List ℕ) (n : ScriptScan) → TakesScript xs n → TakesScript ys (feed_bytes script_feeding n xs) → TakesScript (xs ++ ys) n
taken-append [] ys n h k = k
taken-append (x ∷ xs) ys n h k = (h.0, taken-append xs ys (script_fed_byte n x) h.1 k)

turned-taken : (x : ReferenceStep) (f : Form) (bytes : List ℕ) (n : ScriptScan) (c : Class) (b : ℕ) → turned_error script_feeding n x f bytes c b ≡ None
    → TakesScript (turn_bytes true x f bytes c b) n
turned-taken (Grows g) f bytes n c b h = tt
turned-taken Closes f bytes n c b h =
    let xs = encode_utf8 (meaning f bytes) in
    let e = first-no-cause (name_error (true && is_unknown_name f bytes) (length bytes + 1)) (fed_error script_feeding n xs false (length bytes + 1)) h in
    script-fed-taken xs n false (length bytes + 1) e.1
turned-taken Breaks f bytes n c b h =
    let xs = flushed true (is_equals_sign c) f bytes in
    let m = feed_bytes script_feeding n xs in
    let e = first-no-cause (flushed_error script_feeding n (is_equals_sign c) f bytes) (fed_error script_feeding m (plain_bytes c b) false 0) h in
    taken-append xs (plain_bytes c b) n (script-fed-taken xs n (is_written (is_equals_sign c) f bytes) (length bytes + 1) e.0) (script-fed-taken (plain_bytes c b) m false 0 e.1)

pub script-language-taken : (r : Reference) (n : ScriptScan) (c : Class) (b : ℕ) → language_error script_feeding false n r c b ≡ None → TakesScript (undone_byte true r c b) n
script-language-taken Closed n c b h = script-fed-taken (plain_bytes c b) n false 0 h
script-language-taken (Open f bytes) n c b h = turned-taken (turn c f) f bytes n c b h

bare-taken : (x : Bool) (r : Reference) (n : ScriptScan) (c : Class) (b : ℕ) → BegunIf r x
    → (if x then language_error script_feeding false n r c b else fed_error script_feeding n (plain_bytes c b) false 0) ≡ None
    → TakesScript (undone_byte true r c b) n
bare-taken true r n c b i h = script-language-taken r n c b h
bare-taken false Closed n c b i h = script-fed-taken (plain_bytes c b) n false 0 h
bare-taken false (Open f l) n c b i h = absurd (no i)

begun-as : (r : Reference) (s : Bare) → BegunWhereOpen r (quotes.Bare s) → BegunIf r s.uq
begun-as Closed s v = tt
begun-as (Open f bytes) s v = v.0

-- Where both go on with these quotes and the bytes that they are fed; and where a value has not begun, with none.
abbrev pub ScriptsGo : ValuePlace → ValuePlace → ScriptScan → ScriptScan → List ℕ → (Quotes → Scan) → (Quotes → Scan) → Type 0
ScriptsGo u v k n bytes f g = (q : Quotes) → TakesScript bytes n → ScriptAlike u v k n bytes (f q) (g q)

abbrev pub ScriptsStay : ValuePlace → ValuePlace → ScriptScan → ScriptScan → Quotes → Type 0
ScriptsStay u v k n quotes.Dq = Unit {0}
ScriptsStay u v k n quotes.Sq = Unit {0}
ScriptsStay u v k n (quotes.Bare s) = s.uq ≡ false → (q : Quotes) → ScriptAlike u v k n [] (with_quotes u q) (with_quotes v q)

white-alike : (u v : ValuePlace) (k n : ScriptScan) (a b : Bool) → a ≡ b → (a ≡ false → (q : Quotes) → ScriptAlike u v k n [] (with_quotes u q) (with_quotes v q))
    → ScriptAlike u v k n [] (bare_white u a) (bare_white v b)
white-alike u v k n true true e f = script_tags refl refl
white-alike u v k n false false e f = f refl unbegun
white-alike u v k n true false e f = absurd (no (sym e))
white-alike u v k n false true e f = absurd (no e)

quote-unbegun : (x y : Bool) → Under x y → (if y then Some code.BadHTML else None) ≡ None → x ≡ false
quote-unbegun true y h e = absurd (no (sym (if-none y code.BadHTML e) ∙ sym h))
quote-unbegun false y h e = refl

bare-alike : (u v : ValuePlace) (k n : ScriptScan) (s p : Bare) (r : Reference) (c : Class) (b : ℕ) (f g : Quotes → Scan) → ScriptsGo u v k n (undone_byte true r c b) f g
    → ScriptsStay u v k n (quotes.Bare s) → some_bare s ≡ true → BegunWhereOpen r (quotes.Bare p) → Under s.uq p.uq → Under s.unbegun p.unbegun
    → quoted_error script_feeding (quotes.Bare p) n r c b ≡ None → bare_error v.tag p c ≡ None
    → ScriptAlike u v k n (fed_in (quotes.Bare p) r c b) (bare_leads u s.uq c (f bare_begun)) (bare_leads v p.uq c (g bare_begun))
bare-alike u v k n s p r White b f g z w h i j l m e =
    white-alike u v k n s.uq p.uq (bare-white s.uq s.unbegun p.uq p.unbegun h j l (if-none (p.uq && p.unbegun) code.AmbigContext e)).0 w
bare-alike u v k n s p r QuotationMark b f g z w h i j l m e = w (quote-unbegun s.uq p.uq j e) quotes.Dq
bare-alike u v k n s p r Apostrophe b f g z w h i j l m e = w (quote-unbegun s.uq p.uq j e) quotes.Sq
bare-alike u v k n s p r GreaterThan b f g z w h i j l m e = script_ends refl refl
bare-alike u v k n s p r LessThan b f g z w h i j l m e = absurd (some _ e)
bare-alike u v k n s p r EqualsSign b f g z w h i j l m e = absurd (some _ e)
bare-alike u v k n s p r GraveAccent b f g z w h i j l m e = absurd (some _ e)
bare-alike u v k n s p r c b f g z w h i j l m e = z bare_begun (bare-taken p.uq r n c b (begun-as r p i) m)

pub script-quotes-alike : (u v : ValuePlace) (k n : ScriptScan) (q p : Quotes) (r : Reference) (c : Class) (b : ℕ) (f g : Quotes → Scan)
    → ScriptsGo u v k n (undone_byte true r c b) f g
    → ScriptsStay u v k n q → IsValidQuotes q → BegunWhereOpen r p → joined_quotes q p ≡ Some p
    → quoted_error script_feeding p n r c b ≡ None → quotes_error v.tag p c ≡ None
    → ScriptAlike u v k n (fed_in p r c b) (quotes_lead u q c f) (quotes_lead v p c g)
script-quotes-alike u v k n quotes.Dq quotes.Dq r QuotationMark b f g z w h i j m e = script_tags refl refl
script-quotes-alike u v k n quotes.Dq quotes.Dq r c b f g z w h i j m e = z quotes.Dq (script-language-taken r n c b m)
script-quotes-alike u v k n quotes.Sq quotes.Sq r Apostrophe b f g z w h i j m e = script_tags refl refl
script-quotes-alike u v k n quotes.Sq quotes.Sq r c b f g z w h i j m e = z quotes.Sq (script-language-taken r n c b m)
script-quotes-alike u v k n (quotes.Bare s) (quotes.Bare p) r c b f g z w h i j m e =
    (let d = bare-parts s p j in bare-alike u v k n s p r c b f g z w h i d.0 d.1 m e)
script-quotes-alike u v k n quotes.Dq quotes.Sq r c b f g z w h i j m e = absurd (none_some quotes.Sq j)
script-quotes-alike u v k n quotes.Dq (quotes.Bare p) r c b f g z w h i j m e = absurd (none_some (quotes.Bare p) j)
script-quotes-alike u v k n quotes.Sq quotes.Dq r c b f g z w h i j m e = absurd (none_some quotes.Dq j)
script-quotes-alike u v k n quotes.Sq (quotes.Bare p) r c b f g z w h i j m e = absurd (none_some (quotes.Bare p) j)
script-quotes-alike u v k n (quotes.Bare s) quotes.Dq r c b f g z w h i j m e = absurd (none_some quotes.Dq j)
script-quotes-alike u v k n (quotes.Bare s) quotes.Sq r c b f g z w h i j m e = absurd (none_some quotes.Sq j)

-- both go on, whatever values they are otherwise
pub both-go : (u v w x : ValuePlace) (k n : ScriptScan) (r : Reference) (c : Class) (b : ℕ) (q : Quotes) → w.typed ≡ u.typed → x.typed ≡ v.typed → w.quotes ≡ q → x.quotes ≡ q
    → TakesScript (undone_byte true r c b) n → ScriptAlike u v k n (undone_byte true r c b) (script_fed_next w k r c b) (script_fed_next x n r c b)
both-go u v w x k n r c b q e i d j a = script_goes q a (λ y h. rw (e, d) h) (λ y h. rw (← i, ← j) h)

-- From a script behind a byte of the text.
abbrev InScriptNext : ValuePlace → ScriptScan → Reference → Class → ℕ → Quotes → Scan
InScriptNext u k r c b p = script_fed_next (value_between u p) k r c b

begun-stay : (u v : ValuePlace) (k n : ScriptScan) (q : Quotes) → HasBegun q → ScriptsStay u v k n q
begun-stay u v k n quotes.Dq h = tt
begun-stay u v k n quotes.Sq h = tt
begun-stay u v k n (quotes.Bare s) h = λ e. absurd (no (sym e ∙ h.0))

-- what its language and its quotes do not refuse
abbrev IsScriptTaken : ValuePlace → ScriptScan → Reference → Class → ℕ → Type 0
IsScriptTaken v n r c b = (quoted_error script_feeding v.quotes n r c b ≡ None) × (quotes_error v.tag v.quotes c ≡ None)

taken-of : (v : ValuePlace) (n : ScriptScan) (r : Reference) (c : Class) (b : ℕ) → script_cause v n r c b ≡ None → IsScriptTaken v n r c b
taken-of v n r c b h =
    let m = first-no-cause (quoted_error script_feeding v.quotes n r c b) (at_hand (value_error v c)) h in
    (m.0, (first-none (body_error v.body) (quotes_error v.tag v.quotes c) (none-at-hand (value_error v c) m.1)).1)

same-quotes : (v : ValuePlace) → joined_quotes v.quotes v.quotes ≡ Some v.quotes
same-quotes v = (below-value v v (places_same (place.Value v))).quotes

in-alike : (u v : ValuePlace) (k n : ScriptScan) (r : Reference) (c : Class) (b : ℕ) → IsValidQuotes u.quotes → ScriptsStay u v k n u.quotes → BegunWhereOpen r v.quotes
    → joined_quotes u.quotes v.quotes ≡ Some v.quotes → IsScriptTaken v n r c b
    → ScriptAlike u v k n (fed_in v.quotes r c b) (script_value_next u k r c b) (script_value_next v n r c b)
in-alike u v k n r c b w s i j t =
    script-quotes-alike u v k n u.quotes v.quotes r c b (InScriptNext u k r c b) (InScriptNext v n r c b)
    (λ q a. both-go u v (value_between u q) (value_between v q) k n r c b q refl refl refl refl a) s w i j t.0 t.1

pub from-in-script : (v : ValuePlace) (n : ScriptScan) (r : Reference) (c : Class) (b : ℕ) (y : Member) → HasBegun v.quotes → IsScriptScan n
    → script_cause v n r c b ≡ None → ScanHas (script_value_next v n r c b) y → From (InScript v n r) c b y (ScriptValueOrigin n y)
from-in-script v n r c b y w s e h =
    let t = taken-of v n r c b e in
    let i = begun-open r v.quotes w in
    let bytes = fed_in v.quotes r c b in
    let x = ScriptValueOrigin n y in
    record {
      there = alike-there v v n n bytes (script_value_next v n r c b) (script_value_next v n r c b) y s
          (in-alike v v n n r c b (begun-valid v.quotes w) (begun-stay v v n n v.quotes w) i (same-quotes v) t) h;
      leads = λ g z l o. below-script (λ (g : Scan). ScanValid g → ScanHas g x → ScanHas (scan_next g c b) y) v n r
          (λ u k l z o. alike-leads u v k n bytes (script_value_next u k r c b) (script_value_next v n r c b) y l.tag s
          (in-alike u v k n r c b (begun-valid u.quotes z.0) (begun-stay u v k n u.quotes z.0) i l.quotes t) l.scan h o) g l z o;
    }

-- From a place of a script.
abbrev AtScriptNext : ValuePlace → Body → Class → ℕ → Quotes → Scan
AtScriptNext u z c b p = value_fed u p z NoTriple Closed c b

js-set : (p : Js) (y : Member) → js_has p y ≡ script_set_has (script_scan_start p) y
js-set p y = sym (scripts-come-from.begins p y)

pub place-has : (v : ValuePlace) (p : Js) (y : Member) → v.body ≡ body.Js p → script_has v.typed v.quotes (script_scan_start p) y ≡ true → Has (place.Value v) y
place-has v p y d h =
    subst (λ (z : Body). (is_whole y || (typed_has v.typed y || (quotes_have v.quotes y || body_has z y))) ≡ true) (sym d)
    (subst (λ (z : Bool). (is_whole y || (typed_has v.typed y || (quotes_have v.quotes y || z))) ≡ true) (sym (js-set p y)) h)

pub has-place : (v : ValuePlace) (p : Js) (y : Member) → v.body ≡ body.Js p → Has (place.Value v) y → script_has v.typed v.quotes (script_scan_start p) y ≡ true
has-place v p y d h =
    subst (λ (z : Bool). (is_whole y || (typed_has v.typed y || (quotes_have v.quotes y || z))) ≡ true) (js-set p y)
    (subst (λ (z : Body). (is_whole y || (typed_has v.typed y || (quotes_have v.quotes y || body_has z y))) ≡ true) d h)

-- where nothing is fed, each stays with its body
with-in : (u : ValuePlace) (p : Js) (q : Quotes) (y : Member) → u.body ≡ body.Js p → script_has u.typed q (script_scan_start p) y ≡ true → ScanHas (with_quotes u q) y
with-in u p q y d h = place-has (value_between u q) p y d h

with-out : (u : ValuePlace) (p : Js) (q : Quotes) (y : Member) → u.body ≡ body.Js p → ScanHas (with_quotes u q) y → script_has u.typed q (script_scan_start p) y ≡ true
with-out u p q y d h = has-place (value_between u q) p y d h

place-stay : (u v : ValuePlace) (o p : Js) (q : Quotes) → u.body ≡ body.Js o → v.body ≡ body.Js p → ScriptsStay u v (script_scan_start o) (script_scan_start p) q
place-stay u v o p quotes.Dq d e = tt
place-stay u v o p quotes.Sq d e = tt
place-stay u v o p (quotes.Bare s) d e = λ i q. script_goes q tt (λ y h. with-in u o q y d h) (λ y h. with-out v p q y e h)

place-alike : (u v : ValuePlace) (o p : Js) (c : Class) (b : ℕ) → u.body ≡ body.Js o → v.body ≡ body.Js p → IsValidQuotes u.quotes
    → joined_quotes u.quotes v.quotes ≡ Some v.quotes → IsScriptTaken v (script_scan_start p) Closed c b
    → ScriptAlike u v (script_scan_start o) (script_scan_start p) (fed_in v.quotes Closed c b) (value_next u NoTriple Closed c b) (value_next v NoTriple Closed c b)
place-alike u v o p c b d e w j t =
    subst (λ (z : Body). ScriptAlike u v (script_scan_start o) (script_scan_start p) (fed_in v.quotes Closed c b) (quotes_lead u u.quotes c (AtScriptNext u z c b)) (value_next v NoTriple Closed c b)) (sym d)
    (subst (λ (z : Body). ScriptAlike u v (script_scan_start o) (script_scan_start p) (fed_in v.quotes Closed c b) (quotes_lead u u.quotes c (AtScriptNext u (body.Js o) c b)) (quotes_lead v v.quotes c (AtScriptNext v z c b))) (sym e)
    (script-quotes-alike u v (script_scan_start o) (script_scan_start p) u.quotes v.quotes Closed c b (AtScriptNext u (body.Js o) c b) (AtScriptNext v (body.Js p) c b)
    (λ q a. both-go u v (empty_script_between u q) (empty_script_between v q) (script_scan_start o) (script_scan_start p) Closed c b q refl refl refl refl a)
    (place-stay u v o p u.quotes d e) w tt j t.0 t.1))

no-style : (p : Js) (q : Css) → body.Js p ≡ body.Css q → ⊥
no-style p q e = cc

pub js-of : (b : Body) (p : Js) → IsValidBody b → joined_bodies b (body.Js p) ≡ Some (body.Js p)
    → (o : Js) × (b ≡ body.Js o) × ScriptUnder (script_scan_start o) (script_scan_start p)
js-of (body.Js o) p w h = (o, refl, scripts-in-order o p w h)
js-of b p w h = absurd (none_some (body.Js p) h)

place-taken : (v : ValuePlace) (p : Js) (c : Class) (b : ℕ) → v.body ≡ body.Js p → value_cause v Closed c b ≡ None → IsScriptTaken v (script_scan_start p) Closed c b
place-taken v p c b d h =
    let m = first-no-cause (body_cause v.body v.quotes Closed c b) (at_hand (value_error v c)) h in
    (subst (λ (z : Body). body_cause z v.quotes Closed c b ≡ None) d m.0, (first-none (body_error v.body) (quotes_error v.tag v.quotes c) (none-at-hand (value_error v c) m.1)).1)

pub from-script-place : (v : ValuePlace) (c : Class) (b : ℕ) (y : Member) (p : Js) → v.body ≡ body.Js p → IsValid (place.Value v)
    → value_cause v Closed c b ≡ None → ScanHas (value_next v NoTriple Closed c b) y → From (At (place.Value v)) c b y (value_origin v Closed c b y)
from-script-place v c b y p d w e h =
    let t = place-taken v p c b d e in
    let n = script_scan_start p in
    let s = script-start-valid p (subst IsValidBody d w.1) in
    let bytes = fed_in v.quotes Closed c b in
    let x = ScriptValueOrigin n y in
    let f = value_next v NoTriple Closed c b in
    let same : value_origin v Closed c b y ≡ x = ap (λ (z : Body). body_origin z bytes (in_body_origin z y)) d in
    subst (From (At (place.Value v)) c b y) (sym same)
    (record {
      there = place-has v p x d (alike-there v v n n bytes f f y s (place-alike v v p p c b d d w.0 (same-quotes v) t) h);
      leads = λ g z l o. below-at-value (λ (g : Scan). ScanValid g → ScanHas g x → ScanHas (scan_next g c b) y) v
          (λ u l z o. let k = js-of u.body p z.1 (subst (λ (q : Body). joined_bodies u.body q ≡ Some q) d l.body) in
          alike-leads u v (script_scan_start k.0) n bytes (value_next u NoTriple Closed c b) f y l.tag s (place-alike u v k.0 p c b k.1 d z.0 l.quotes t) k.2 h (has-place u k.0 x k.1 o))
          (λ u k q i l z o. absurd (no-style p q (sym d ∙ i))) g l z o;
    })

-- The end of a text in a script.
-- values that have begun have the same members of quotes
begun-same : (q p : Quotes) (y : Member) → HasBegun q → HasBegun p → joined_quotes q p ≡ Some p → quotes_have p y ≡ true → quotes_have q y ≡ true
begun-same (quotes.Bare s) (quotes.Bare r) member.UnquotedValue w z j h = w.0
begun-same (quotes.Bare s) (quotes.Bare r) member.UnbegunValue w z j h = absurd (no (sym z.1 ∙ h))
begun-same (quotes.Bare s) (quotes.Bare r) _ w z j h = absurd (no h)
begun-same quotes.Dq (quotes.Bare r) y w z j h = absurd (none_some (quotes.Bare r) j)
begun-same quotes.Sq (quotes.Bare r) y w z j h = absurd (none_some (quotes.Bare r) j)
begun-same q quotes.Dq y w z j h = absurd (no h)
begun-same q quotes.Sq y w z j h = absurd (no h)

-- where the members of the whole, of quotes and of a `type` come from
end-whole : (n : ScriptScan) (y : Member) → is_whole y ≡ true → script_origin n y ≡ member.Whole
end-whole n member.Whole h = script-whole-origin n
end-whole n _ h = absurd (no h)

end-typed : (n : ScriptScan) (x : Bool) (y : Member) → typed_has x y ≡ true → script_origin n y ≡ member.Typed
end-typed n x member.Typed h = script-typed-origin n
end-typed n x _ h = absurd (no h)

end-quotes : (n : ScriptScan) (q : Quotes) (y : Member) → quotes_have q y ≡ true → script_origin n y ≡ member.Whole
end-quotes n (quotes.Bare s) member.UnquotedValue h = foreign-origin n member.UnquotedValue (λ i. i)
end-quotes n (quotes.Bare s) member.UnbegunValue h = foreign-origin n member.UnbegunValue (λ i. i)
end-quotes n (quotes.Bare s) _ h = absurd (no h)
end-quotes n quotes.Dq y h = absurd (no h)
end-quotes n quotes.Sq y h = absurd (no h)

abbrev placed_js_has : ValuePlace → ScriptScan → Member → Bool
placed_js_has v n y = is_whole y || (typed_has v.typed y || (quotes_have v.quotes y || js_has (script_scan_place n) y))

placed-js : (v : ValuePlace) (n : ScriptScan) (y : Member) → js_has (script_scan_place n) y ≡ true → placed_js_has v n y ≡ true
placed-js v n y h =
    let s = quotes_have v.quotes y || js_has (script_scan_place n) y in
    or-behind (is_whole y) (typed_has v.typed y || s) (or-behind (typed_has v.typed y) s (or-behind (quotes_have v.quotes y) (js_has (script_scan_place n) y) h))

placed-quotes : (v : ValuePlace) (n : ScriptScan) (y : Member) → quotes_have v.quotes y ≡ true → placed_js_has v n y ≡ true
placed-quotes v n y h =
    let s = quotes_have v.quotes y || js_has (script_scan_place n) y in
    or-behind (is_whole y) (typed_has v.typed y || s) (or-behind (typed_has v.typed y) s (or-first (quotes_have v.quotes y) (js_has (script_scan_place n) y) h))

end-all : (v : ValuePlace) (n : ScriptScan) (r : Reference) (y x : Member) → x ≡ member.Whole
    → ((u : ValuePlace) (k : ScriptScan) → HasBegun u.quotes → ScriptValueBelow u v k n → Has (with_script u (feed_bytes script_feeding k (as_it_stands r))) y)
    → FromEnd (InScript v n r) y x
end-all v n r y x e f = record {
  there = there-whole v n x e;
  leads = λ g z l o. below-script (λ (g : Scan). ScanValid g → Has (scan_place g) y) v n r (λ u k l z. f u k z.0 l) g l z;
}

end-kept : (v : ValuePlace) (n : ScriptScan) (r : Reference) (y x : Member) → x ≡ member.Typed → typed_has v.typed y ≡ true → FromEnd (InScript v n r) y x
end-kept v n r member.Typed x e h = record {
  there = there-typed v n x (e, h);
  leads = λ g z l o. below-script (λ (g : Scan). ScanHas g x → Has (scan_place g) member.Typed) v n r
      (λ u k l o. or-first u.typed (quotes_have u.quotes member.Typed || js_has (script_scan_place (feed_bytes script_feeding k (as_it_stands r))) member.Typed)
      (typed-only u.typed u.quotes k (subst (λ (m : Member). script_has u.typed u.quotes k m ≡ true) e o))) g l o;
}
end-kept v n r _ x e h = absurd (no h)

end-set : (v : ValuePlace) (n : ScriptScan) (r : Reference) (y : Member) → PlaceFrom n (as_it_stands r) y → IsScriptMember y
    → FromEnd (InScript v n r) y (script_origin n y)
end-set v n r y (place_itself i f) m =
    subst (FromEnd (InScript v n r) y) (sym (itself-origin n y i))
    (record {
      there = in-set v.typed v.quotes n y i;
      leads = λ g z l o. below-script (λ (g : Scan). ScanHas g y → Has (scan_place g) y) v n r
          (λ u k l o. placed-js u (feed_bytes script_feeding k (as_it_stands r)) y
          (f k l.scan (out-set n k y i (out-scan n k u.typed u.quotes y (has-script-set n y i) o)))) g l o;
    })
end-set v n r y (place_whole i f) m =
    end-all v n r y (script_origin n y) (other-origin n y i ∙ member-whole y m)
    (λ u k z l. placed-js u (feed_bytes script_feeding k (as_it_stands r)) y (f k l.scan))

pub end-script : (v : ValuePlace) (n : ScriptScan) (r : Reference) (y : Member) → HasBegun v.quotes → IsScriptScan n → scan_cut_error (InScript v n r) ≡ None
    → script_cut (InScript v n r) ≡ None → Has (scan_place (InScript v n r)) y → FromEnd (InScript v n r) y (script_origin n y)
end-script v n r y w s e o h =
    let bytes = as_it_stands r in
    let m = feed_bytes script_feeding n bytes in
    let c = script_scan_place m in
    let P = FromEnd (InScript v n r) y (script_origin n y) in
    or-either P (is_whole y) (typed_has v.typed y || (quotes_have v.quotes y || js_has c y)) h
    (λ k. end-all v n r y (script_origin n y) (end-whole n y k)
    (λ u d z l. or-first (is_whole y) (typed_has u.typed y || (quotes_have u.quotes y || js_has (script_scan_place (feed_bytes script_feeding d bytes)) y)) k))
    (λ i. or-either P (typed_has v.typed y) (quotes_have v.quotes y || js_has c y) i (λ k. end-kept v n r y (script_origin n y) (end-typed n v.typed y k) k)
    (λ j. or-either P (quotes_have v.quotes y) (js_has c y) j
    (λ k. end-all v n r y (script_origin n y) (end-quotes n v.quotes y k)
    (λ u d z l. placed-quotes u (feed_bytes script_feeding d bytes) y (begun-same u.quotes v.quotes y z w l.quotes k)))
    (λ k. end-set v n r y (script-end-from bytes n y s (script-fed-valid bytes n s) (script-fed-taken bytes n true (length bytes) e) o k) (js-is c y k))))
