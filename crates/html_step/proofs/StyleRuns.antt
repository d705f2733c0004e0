-- Bytes that a style is fed at one byte of a text: some that have been read before and are not refused, the text of a reference or what may
-- have been
-- an end tag, and behind them those of the byte at hand. What shows that one of the latter is refused.
use Rattle.std.proofs.Common.{◌≡◌, ◌≤◌, ℕ, Bool, true, false, List, ◌++◌, Option, Some, None, is_some, refl, sym, ap, ◌∙◌, subst, ◌⊎◌, inl, inr}
use Rattle.css_step.specs.StyleOrigins.{style_scan_has, style_scan_parts}
use Rattle.css_step.specs.StyleScans.{StyleScan, ScanBareUrl, ScanQuotedUrl}
use Rattle.css_step.specs.StyleSetLaws.{StyleScanBelow}
use Rattle.place_core.proofs.Semilattices.{none_some, one_value}
use Rattle.place_core.specs.page.Tags.{feed_bytes}
use Rattle.place_core.specs.place.Errors.{PathCause, fed_error, first_cause}
use Rattle.place_core.specs.place.LanguagePlaces.{parts_have}
use Rattle.place_core.specs.place.Places.{is_whole}
use Rattle.place_core.specs.declared.code.Code.TheVariants as code
use Rattle.place_core.specs.declared.member.Member.{Member}
use Rattle.place_core.specs.declared.member.Member.TheVariants as member
use Rattle.place_core.specs.declared.parts.Parts.{Parts}
use Rattle.html_scan.specs.Scans.{parts_feeding, style_feeding}
use Rattle.html_step.specs.Laws.{EvidenceData, apart, one}
use Rattle.html_step.specs.Origins.{first_shown, is_apart, style_fed_shown}
use Rattle.html_step.proofs.ApartParts.{apart-inside, arise-in, bytes-stay}
use Rattle.html_step.proofs.Characters.{IsCharacter}
use Rattle.html_step.proofs.FromParts.{or-behind}
use Rattle.html_step.proofs.StyleFedShown.{FedShown, NotHtml, character-fed, fed-back, fed_apart, fed_one, kept-fed, none-fed}
use Rattle.html_step.proofs.StyleOrder.{style-fed-grow}
use Rattle.html_step.proofs.StyleOriginSteps.{style-shown-more}
use Rattle.html_step.proofs.StyleUrls.{KnownUrl, StaysInUrl, below-in-url, feeds, known-fed, known-unmet, known_none, stays-parts, stays-same}
use Rattle.html_step.proofs.StyleValues.{style-fed-taken}
use Rattle.url_step.specs.PartSets.{spells_apart}

no : false ≡ true → ⊥
no e = cc

-- what is refused of them
abbrev pub RunError : StyleScan → List ℕ → Bool → ℕ → List ℕ → Option PathCause
RunError k xs written back ys =
    first_cause (fed_error style_feeding k xs written back) (fed_error style_feeding (feed_bytes style_feeding k xs) ys false 0)

-- Those paths are refused that bear a member; those that met apart before all of the bytes; or paths meet apart in the first ones.
pub data RunShown (n : StyleScan) (xs : List ℕ) (written : Bool) (back : ℕ) (ys : List ℕ) (e : PathCause) : Type 0 where
  run_member : (x : Member) → style_fed_shown (xs ++ ys) n ≡ Some (one x) → style_scan_has n x ≡ true → NotHtml e.code
      → ((k : StyleScan) → StyleScanBelow k n → style_scan_has k x ≡ true → RunError k xs written back ys ≡ Some e)
      → RunShown n xs written back ys e
  run_met : style_fed_shown (xs ++ ys) n ≡ Some apart → is_apart (style_scan_parts n) ≡ true → e.code ≡ code.AmbigContext → e.back ≤ 0
      → ((k : StyleScan) → StyleScanBelow k n → is_apart (style_scan_parts k) ≡ true → RunError k xs written back ys ≡ Some e)
      → RunShown n xs written back ys e
  run_two : (s : Parts) → style_scan_parts n ≡ Some s → spells_apart s.opened ≡ false → style_fed_shown (xs ++ ys) n ≡ Some apart
      → style_fed_shown ys (feed_bytes style_feeding n xs) ≡ Some apart → is_apart (style_scan_parts (feed_bytes style_feeding n xs)) ≡ true
      → e.code ≡ code.AmbigContext → style_scan_has n member.PartStart ≡ true → style_scan_has n member.PartOpen ≡ true
      → RunShown n xs written back ys e

-- the parts of a URL are members of its scan state
parts-member : (n : StyleScan) (s : Parts) (y : Member) → style_scan_parts n ≡ Some s → parts_have s y ≡ true → style_scan_has n y ≡ true
parts-member (ScanBareUrl r t) s y i h =
    or-behind (is_whole y) (parts_have r y) (subst (λ (z : Parts). parts_have z y ≡ true) (sym (one_value r s i)) h)
parts-member (ScanQuotedUrl q z r t) s y i h =
    or-behind (is_whole y) (parts_have r y) (subst (λ (z : Parts). parts_have z y ≡ true) (sym (one_value r s i)) h)
parts-member n s y i h = absurd (none_some s i)

-- paths that met apart before bytes of the URL are so behind them
met-behind : (xs : List ℕ) (k n : StyleScan) (s : Parts) → StyleScanBelow k n → style_scan_parts n ≡ Some s → StaysInUrl n xs
    → is_apart (style_scan_parts (feed_bytes style_feeding n xs)) ≡ true → is_apart (style_scan_parts k) ≡ true
    → is_apart (style_scan_parts (feed_bytes style_feeding k xs)) ≡ true
met-behind xs k n s l i w h o =
    let d = below-in-url k n s l i in
    let behind : spells_apart (feed_bytes parts_feeding s xs).opened ≡ true = sym (ap is_apart (stays-parts xs n s i w)) ∙ h in
    let own : spells_apart d.0.opened ≡ true = sym (ap is_apart d.1) ∙ o in
    ap is_apart (stays-parts xs k d.0 d.1 (stays-same xs k n d.2.same w))
    ∙ (bytes-stay xs s d.0 (apart-inside (feed_bytes parts_feeding s xs) behind)).met own

-- What is known where one of the latter is refused.
record RunRefused (n : StyleScan) (xs : List ℕ) (written : Bool) (back : ℕ) (ys : List ℕ) (e : PathCause) : Type 0 where
  character : IsCharacter xs
  taken : fed_error style_feeding n xs written back ≡ None
  here : e.back ≤ 0

run-error : (k n : StyleScan) (xs : List ℕ) (written : Bool) (back : ℕ) (ys : List ℕ) (e : PathCause) → RunRefused n xs written back ys e
    → StyleScanBelow k n
    → fed_error style_feeding (feed_bytes style_feeding k xs) ys false 0 ≡ Some e → RunError k xs written back ys ≡ Some e
run-error k n xs written back ys e d l h =
    ap (λ (o : Option PathCause). first_cause o (fed_error style_feeding (feed_bytes style_feeding k xs) ys false 0))
    (style-fed-grow xs written back k n l d.taken).0 ∙ h

below-behind : (k n : StyleScan) (xs : List ℕ) (written : Bool) (back : ℕ) (ys : List ℕ) (e : PathCause) → RunRefused n xs written back ys e
    → StyleScanBelow k n → StyleScanBelow (feed_bytes style_feeding k xs) (feed_bytes style_feeding n xs)
below-behind k n xs written back ys e d l = (style-fed-grow xs written back k n l d.taken).1

-- of all of them the latter are shown
shown-behind : (n : StyleScan) (xs : List ℕ) (written : Bool) (back : ℕ) (ys : List ℕ) (e : PathCause) (y : EvidenceData)
    → RunRefused n xs written back ys e
    → style_fed_shown ys (feed_bytes style_feeding n xs) ≡ Some y → style_fed_shown (xs ++ ys) n ≡ Some y
shown-behind n xs written back ys e y d h =
    style-shown-more xs ys n
    ∙ ap (λ (o : Option EvidenceData). first_shown o (style_fed_shown ys (feed_bytes style_feeding n xs)))
    (none-fed xs n written back d.taken) ∙ h

abbrev MetBehind : StyleScan → List ℕ → PathCause → Type 0
MetBehind m ys e = (k : StyleScan) → StyleScanBelow k m → is_apart (style_scan_parts k) ≡ true
    → fed_error style_feeding k ys false 0 ≡ Some e

-- where paths met apart behind the first: they did so before them, or meet in them
met-by : (y : Bool) (n : StyleScan) (s : Parts) (xs : List ℕ) (written : Bool) (back : ℕ) (ys : List ℕ) (e : PathCause)
    → RunRefused n xs written back ys e
    → spells_apart s.opened ≡ y → style_scan_parts n ≡ Some s → StaysInUrl n xs
    → style_fed_shown ys (feed_bytes style_feeding n xs) ≡ Some apart → is_apart (style_scan_parts (feed_bytes style_feeding n xs)) ≡ true
    → e.code ≡ code.AmbigContext → MetBehind (feed_bytes style_feeding n xs) ys e → RunShown n xs written back ys e
met-by true n s xs written back ys e d i p w is there code on =
    run_met (shown-behind n xs written back ys e apart d is) (ap is_apart p ∙ i) code d.here
    (λ k l o. run-error k n xs written back ys e d l
    (on (feed_bytes style_feeding k xs) (below-behind k n xs written back ys e d l) (met-behind xs k n s l p w there o)))
met-by false n s xs written back ys e d i p w is there code on =
    let behind : spells_apart (feed_bytes parts_feeding s xs).opened ≡ true = sym (ap is_apart (stays-parts xs n s p w)) ∙ there in
    let a = (arise-in xs s d.character i behind).arise in
    run_two s p i (shown-behind n xs written back ys e apart d is) is there code
    (parts-member n s member.PartStart p a.start) (parts-member n s member.PartOpen p (ap is_some a.opened))

not-met : {A : Type 0} (xs : List ℕ) (n : StyleScan) → KnownUrl (feed_bytes style_feeding n xs)
    → is_apart (style_scan_parts (feed_bytes style_feeding n xs)) ≡ true → A
not-met xs n k h = absurd (no (sym (known-unmet (feed_bytes style_feeding n xs) k) ∙ h))

met-or-known : (n : StyleScan) (s : Parts) (xs : List ℕ) (written : Bool) (back : ℕ) (ys : List ℕ) (e : PathCause)
    → RunRefused n xs written back ys e
    → style_scan_parts n ≡ Some s → StaysInUrl n xs ⊎ KnownUrl (feed_bytes style_feeding n xs)
    → style_fed_shown ys (feed_bytes style_feeding n xs) ≡ Some apart → is_apart (style_scan_parts (feed_bytes style_feeding n xs)) ≡ true
    → e.code ≡ code.AmbigContext → MetBehind (feed_bytes style_feeding n xs) ys e → RunShown n xs written back ys e
met-or-known n s xs written back ys e d p (inl w) is there code on =
    met-by (spells_apart s.opened) n s xs written back ys e d refl p w is there code on
met-or-known n s xs written back ys e d p (inr k) is there code on = not-met xs n k there

met-in : (o : Option Parts) (n : StyleScan) (xs : List ℕ) (written : Bool) (back : ℕ) (ys : List ℕ) (e : PathCause)
    → RunRefused n xs written back ys e
    → style_scan_parts n ≡ o → style_fed_shown ys (feed_bytes style_feeding n xs) ≡ Some apart
    → is_apart (style_scan_parts (feed_bytes style_feeding n xs)) ≡ true → e.code ≡ code.AmbigContext
    → MetBehind (feed_bytes style_feeding n xs) ys e → RunShown n xs written back ys e
met-in (Some s) n xs written back ys e d p is there code on = met-or-known n s xs written back ys e d p (feeds xs n s p) is there code on
met-in None n xs written back ys e d p is there code on = not-met xs n (known-fed xs n (known_none p)) there

run-by : (n : StyleScan) (xs : List ℕ) (written : Bool) (back : ℕ) (ys : List ℕ) (e : PathCause) → RunRefused n xs written back ys e
    → FedShown ys (feed_bytes style_feeding n xs) false 0 e → RunShown n xs written back ys e
run-by n xs written back ys e d (fed_one r) =
    let kept = kept-fed xs n r.member r.shower (style-fed-taken xs n written back d.taken) r.there in
    run_member r.member (shown-behind n xs written back ys e (one r.member) d r.is) kept.there r.code
    (λ k l o. run-error k n xs written back ys e d l
    (r.refuses (feed_bytes style_feeding k xs) (below-behind k n xs written back ys e d l) (kept.leads k l o)))
run-by n xs written back ys e d (fed_apart is there colon code on) =
    met-in (style_scan_parts n) n xs written back ys e d refl is there code on

pub run-shown : (n : StyleScan) (xs : List ℕ) (written : Bool) (back : ℕ) (ys : List ℕ) (e : PathCause) → IsCharacter xs → IsCharacter ys
    → fed_error style_feeding n xs written back ≡ None → fed_error style_feeding (feed_bytes style_feeding n xs) ys false 0 ≡ Some e
    → RunShown n xs written back ys e
run-shown n xs written back ys e a c t h =
    let m = feed_bytes style_feeding n xs in
    run-by n xs written back ys e (record { character = a; taken = t; here = fed-back ys m false 0 e h }) (character-fed ys m false 0 e c h)
