-- What shows that a text is refused in a script, from where a text begins: at a place of a script, and before the byte that is refused.
use Rattle.std.proofs.Common.{◌≡◌, ℕ, ◌+◌, Bool, true, false, List, [], ◌∷◌, Option, Some, None, Result, Err, refl, sym, ap, ◌∙◌, subst, inl, inr, ◌&&◌, if◌then◌else◌, option_map}
use Rattle.js_lexer.specs.Refusals.{Cause}
use Rattle.js_lexer.specs.declared.sense.Sense.{Sense}
use Rattle.js_lexer.specs.declared.sense.Sense.TheVariants as sense
use Rattle.js_step.specs.ScriptEvidence.{script_shown_by, script_split_shows, script_with_brace}
use Rattle.js_step.specs.ScriptOrigins.{script_set_has}
use Rattle.js_step.specs.ScriptScanOrder.{ScriptScanBelow}
use Rattle.js_step.specs.ScriptScans.{ScriptScan, script_scan_end_error, script_scan_error, script_scan_start, script_senses_differ}
use Rattle.js_step.proofs.ValidScripts.{empty-texts-keep-scripts}
use Rattle.place_core.specs.page.Html.{ends_value}
use Rattle.place_core.specs.page.References.{Closed}
use Rattle.place_core.specs.page.Classes.{class_of, Class, White, QuotationMark, Apostrophe, GreaterThan}
use Rattle.place_core.specs.page.States.{LexState, AttributeValue, BeforeAttributeValue, InContent, InLanguage}
use Rattle.place_core.specs.page.Tags.{ValueOf, ValueState, OfScript, Unquoted}
use Rattle.place_core.specs.place.Errors.{PathRefusal, TextRead, nothing_read, FedByte, PathCause, at_hand, at_value_end, fed_places, first_byte_error, first_cause, first_places, language_error, path_refusal, script_places_refusal, script_refusal_at, value_error, places_with}
use Rattle.place_core.specs.place.Membership.{IsIn, Bears}
use Rattle.place_core.specs.place.PathPairs.{ClashesSlash, either_slash, senses_part, slash_sense}
use Rattle.place_core.specs.place.Places.{IsValid, IsValidBody, joined_bodies, joined_quotes}
use Rattle.place_core.specs.declared.bare.Bare.{Bare}
use Rattle.place_core.specs.declared.body.Body.{Body}
use Rattle.place_core.specs.declared.body.Body.TheVariants as body
use Rattle.place_core.specs.declared.code.Code.{Code}
use Rattle.place_core.specs.declared.code.Code.TheVariants as code
use Rattle.place_core.specs.declared.kind.Kind.TheVariants as kind
use Rattle.place_core.specs.declared.js.Js.{Js}
use Rattle.place_core.specs.declared.quotes.Quotes.{Quotes}
use Rattle.place_core.specs.declared.quotes.Quotes.TheVariants as quotes
use Rattle.place_core.specs.declared.member.Member.{Member}
use Rattle.place_core.specs.declared.member.Member.TheVariants as member
use Rattle.place_core.specs.declared.place.Place.{Place}
use Rattle.place_core.specs.declared.place.Place.TheVariants as place
use Rattle.place_core.specs.declared.value_place.ValuePlace.{ValuePlace}
use Rattle.html_scan.specs.Scans.{Scan, At, scan_next, all_scripts, begun_script_refusal, body_cause, ends_quoted, quoted_error, quoted_places, script_fed_byte, script_feeding, script_step_refusal, value_cause}
use Rattle.js_step.proofs.ScriptClash.{scripts-clash}
use Rattle.html_step.proofs.ScriptQuotes.{script-takes-quotes}
use Rattle.html_step.specs.Laws.{EvidenceData, apart, one, two}
use Rattle.html_step.specs.Origins.{begun_script_shows, bytes_of_places, first_shown, script_back, script_value_ends, script_evidence, script_origin, script_told_shown}
use Rattle.html_step.specs.Steps.{scan_read_behind, stepped, unless_refused_in_script}
use Rattle.html_step.proofs.OneTexts.{Says, at-place, says}
use Rattle.html_step.proofs.ScriptEither.{EitherPath, either-below, either-has-brace, either-path, either_js, with_js, EitherElement, either-element}
use Rattle.html_step.proofs.ScriptReads.{nil-fits}
use Rattle.html_step.proofs.SlashPaths.{bears-div, bears-re, script-above}
use Rattle.html_step.proofs.SlashCodes.{SlashTold, starts-fit, step-code, told-slash}
use Rattle.place_core.proofs.Semilattices.{none_some, one_value}
use Rattle.html_step.proofs.BelowScans.{below-at-value}
use Rattle.html_step.proofs.FedAlike.{first-caused}
use Rattle.html_step.proofs.PlaceParts.{Under}
use Rattle.html_step.proofs.ScriptAlike.{Alike, alike-quoted, alike-told, same-quoted-bytes, told-apart, told-one, told-two}
use Rattle.html_step.proofs.ScriptEnds.{begun-none}
use Rattle.html_step.proofs.ScriptFrom.{itself-origin}
use Rattle.html_step.proofs.ScriptOrder.{script-start-valid}
use Rattle.html_step.proofs.ScriptValues.{has-place, in-scan, in-set, js-of, out-scan, place-has}
use Rattle.html_step.proofs.ScanOrder.{ScanValid, ScanHas, bare-parts}
use Rattle.html_step.proofs.ScriptTold.{ScriptShownBytes, ShownSlash, BraceBelow, brace_at, back-of, body_differs, both-true, ends-shown, ends-with-brace, refused-same, shown-from, step-told, brace_at_element}

no : false ≡ true → ⊥
no e = cc

-- a path on which it is not known what a slash would be, at a place
js-one : (i j : Js) → body.Js i ≡ body.Js j → i ≡ j
js-one i j e = cc

same-js : (i j : Js) (x : Body) → x ≡ body.Js i → x ≡ body.Js j → i ≡ j
same-js i j x e f = js-one i j (sym e ∙ f)

brace-place : (P : Scan → Type 0) (v : ValuePlace) (j : Js) → v.body ≡ body.Js j
    → ((u : ValuePlace) (i : Js) → u.body ≡ body.Js i → joined_quotes u.quotes v.quotes ≡ Some v.quotes
    → ScriptScanBelow (script_scan_start i) (script_with_brace (script_scan_start j)) → script_set_has (script_scan_start i) member.SenseBrace ≡ true → P (At (place.Value u)))
    → (g : Scan) → BraceBelow g (At (place.Value v)) → P g
brace-place P _ j d f _ (brace_at u v i z e r t b q l h) =
    f u i e q (subst (λ (x : Js). ScriptScanBelow (script_scan_start i) (script_with_brace (script_scan_start x))) (same-js z j v.body r d) l) h

-- At a place of a script: the bytes that are fed are fed on each path in the same quotes. A quotation mark before a value that has not begun on some path
-- is fed on the others; no script refuses it there.
abbrev fed_if : Bool → ℕ → Class → ℕ → List FedByte
fed_if x k c b = if x then fed_places (ends_value Unquoted c) k Closed c b else first_places k c b

abbrev refused_if : Bool → ℕ → ScriptScan → Class → ℕ → Option PathRefusal
refused_if x k n c b = script_places_refusal all_scripts (x && ends_value Unquoted c) k [] n (fed_if x k c b)

abbrev error_if : Bool → ScriptScan → Class → ℕ → Option PathCause
error_if x n c b = if x then language_error script_feeding (ends_value Unquoted c) n Closed c b else first_byte_error script_feeding n c b

-- a byte that ends the value, or is white space before it
ends-quiet : (k : ℕ) (n : ScriptScan) → script_scan_end_error n ≡ None → None ≡ script_places_refusal all_scripts true k [] n []
ends-quiet k n e = sym (ap (λ (o : Option Cause). script_refusal_at (k ∷ []) (at_value_end o)) e)

abbrev IsQuote : Class → Type 0
IsQuote QuotationMark = Unit {0}
IsQuote Apostrophe = Unit {0}
IsQuote c = ⊥

refusals-if : (x y : Bool) (k : ℕ) (n : ScriptScan) (c : Class) (b : ℕ) → Under x y → script_scan_end_error n ≡ None → (IsQuote c → x ≡ y)
    → (refused_if x k n c b ≡ refused_if y k n c b) × (error_if x n c b ≡ error_if y n c b)
refusals-if true true k n c b u e q = (refl, refl)
refusals-if false false k n c b u e q = (refl, refl)
refusals-if true false k n c b u e q = absurd (no (sym u))
refusals-if false true k n White b u e q = (ends-quiet k n e, refl)
refusals-if false true k n GreaterThan b u e q = (ends-quiet k n e, refl)
refusals-if false true k n QuotationMark b u e q = absurd (no (q tt))
refusals-if false true k n Apostrophe b u e q = absurd (no (q tt))
refusals-if false true k n c b u e q = (refl, refl)

quotes-if : (q p : Quotes) (k : ℕ) (n : ScriptScan) (c : Class) (b : ℕ) → joined_quotes q p ≡ Some p → script_scan_end_error n ≡ None
    → (IsQuote c → ((x y : Bare) → q ≡ quotes.Bare x → p ≡ quotes.Bare y → x.uq ≡ y.uq))
    → (script_step_refusal q k [] n Closed c b ≡ script_step_refusal p k [] n Closed c b)
    × (quoted_error script_feeding q n Closed c b ≡ quoted_error script_feeding p n Closed c b)
quotes-if quotes.Dq quotes.Dq k n c b j e h = (refl, refl)
quotes-if quotes.Sq quotes.Sq k n c b j e h = (refl, refl)
quotes-if (quotes.Bare x) (quotes.Bare y) k n c b j e h = refusals-if x.uq y.uq k n c b (bare-parts x y j).0 e (λ i. h i x y refl refl)
quotes-if quotes.Dq quotes.Sq k n c b j e h = absurd (none_some quotes.Sq j)
quotes-if quotes.Dq (quotes.Bare y) k n c b j e h = absurd (none_some (quotes.Bare y) j)
quotes-if quotes.Sq quotes.Dq k n c b j e h = absurd (none_some quotes.Dq j)
quotes-if quotes.Sq (quotes.Bare y) k n c b j e h = absurd (none_some (quotes.Bare y) j)
quotes-if (quotes.Bare x) quotes.Dq k n c b j e h = absurd (none_some quotes.Dq j)
quotes-if (quotes.Bare x) quotes.Sq k n c b j e h = absurd (none_some quotes.Sq j)

-- where the script refuses a byte that is fed, no quotation mark is
told-byte : (b : ℕ) (ends : ScriptScan → Option Cause) (n : ScriptScan) (z : EvidenceData) → script_scan_error false n b ≡ None
    → script_told_shown false ends (b ∷ []) n ≡ Some z → script_told_shown false ends [] (script_fed_byte n b) ≡ Some z
told-byte b ends n z e t =
    sym (ap (λ (o : Option Cause). first_shown (option_map (λ x. script_evidence (script_shown_by n (script_split_shows n b) x.refusal)) o)
    (script_told_shown false ends [] (script_fed_byte n b))) e) ∙ t

bare-told : (x : Bool) (c : Class) (b : ℕ) (j : Js) (z : EvidenceData) → c ≡ class_of b → IsQuote c
    → script_told_shown false (script_value_ends (x && ends_value Unquoted c)) (bytes_of_places (fed_if x 0 c b)) (script_scan_start j) ≡ Some z → ⊥
bare-told false QuotationMark b j z k i t = none_some z t
bare-told false Apostrophe b j z k i t = none_some z t
bare-told true QuotationMark b j z k i t =
    none_some z (told-byte b (script_value_ends false) (script_scan_start j) z (script-takes-quotes j b (inl (sym k))) t)
bare-told true Apostrophe b j z k i t =
    none_some z (told-byte b (script_value_ends false) (script_scan_start j) z (script-takes-quotes j b (inr (sym k))) t)
bare-told x _ b j z k i t = absurd i

start-told : (q : Quotes) (c : Class) (b : ℕ) (j : Js) (z : EvidenceData) → c ≡ class_of b → IsQuote c
    → script_told_shown false (script_value_ends (ends_quoted q c)) (bytes_of_places (quoted_places q 0 Closed c b)) (script_scan_start j) ≡ Some z → (y : Bare) → q ≡ quotes.Bare y → ⊥
start-told q c b j z k i t y d =
    bare-told y.uq c b j z k i
    (subst (λ (p : Quotes). script_told_shown false (script_value_ends (ends_quoted p c)) (bytes_of_places (quoted_places p 0 Closed c b)) (script_scan_start j) ≡ Some z) d t)

-- a byte is refused that is fed, not the end
start-error : (q : Quotes) (c : Class) (b : ℕ) (j : Js) (z : EvidenceData) (o : Option PathCause) → quoted_error script_feeding q (script_scan_start j) Closed c b ≡ o
    → script_told_shown false (script_value_ends (ends_quoted q c)) (bytes_of_places (quoted_places q 0 Closed c b)) (script_scan_start j) ≡ Some z → (e : PathCause) × (o ≡ Some e)
start-error q c b j z (Some e) i t = (e, refl)
start-error q c b j z None i t =
    absurd (none_some z (sym (step-told q 0 [] (script_scan_start j) Closed c b
    (begun-none (body.Js j) q 0 c b i).0 i) ∙ t))

first-some : (o p x y : Option PathCause) (e : PathCause) → o ≡ p → p ≡ Some e → first_cause o x ≡ first_cause p y
first-some o (Some z) x y e i h = ap (λ (w : Option PathCause). first_cause w x) i
first-some o None x y e i h = absurd (none_some e h)

start-alike : (k : ℕ) (since : TextRead) (b : ℕ) (bs : List ℕ) (u v : ValuePlace) (i j : Js) (e : PathRefusal) (z : EvidenceData) → u.body ≡ body.Js i → v.body ≡ body.Js j
    → joined_quotes u.quotes v.quotes ≡ Some v.quotes
    → Alike false (bytes_of_places (quoted_places v.quotes 0 Closed (class_of b) b)) (script_value_ends (ends_quoted v.quotes (class_of b))) (script_scan_start i) (script_scan_start j)
    → script_told_shown false (script_value_ends (ends_quoted v.quotes (class_of b))) (bytes_of_places (quoted_places v.quotes 0 Closed (class_of b) b)) (script_scan_start j) ≡ Some z
    → stepped k since (b ∷ bs) (At (place.Value v)) ≡ Err e → stepped k since (b ∷ bs) (At (place.Value u)) ≡ Err e
start-alike k since b bs u v i j e z d f l a t h =
    let c = class_of b in
    let n = script_scan_start i in
    let m = script_scan_start j in
    let q = v.quotes in
    let xs = quoted_places q k Closed c b in
    let ends = script_value_ends (ends_quoted q c) in
    let here : Alike false (bytes_of_places xs) ends n m = subst (λ (bytes : List ℕ). Alike false bytes ends n m) (sym (same-quoted-bytes q k Closed c b)) a in
    let same = quotes-if u.quotes q k n c b l (empty-texts-keep-scripts i).end_error (λ w x y g o. absurd (start-told q c b j z refl w t y o)) in
    let some = start-error q c b j z (quoted_error script_feeding q m Closed c b) refl t in
    let errors : quoted_error script_feeding u.quotes n Closed c b ≡ quoted_error script_feeding q m Closed c b = same.1 ∙ alike-quoted q k Closed c b ends n m here in
    refused-same k (begun_script_refusal u.body u.quotes k c b) (begun_script_refusal v.body q k c b) (value_cause u Closed c b) (value_cause v Closed c b)
    (stepped (k + 1) (scan_read_behind k since (At (place.Value u)) c b) bs (scan_next (At (place.Value u)) c b))
    (stepped (k + 1) (scan_read_behind k since (At (place.Value v)) c b) bs (scan_next (At (place.Value v)) c b)) e
    (ap (λ (x : Body). begun_script_refusal x u.quotes k c b) d ∙ same.0 ∙ alike-told xs [] (k ∷ places_with xs []) ends n m here ∙ sym (ap (λ (x : Body). begun_script_refusal x q k c b) f))
    (first-some (body_cause u.body u.quotes Closed c b) (body_cause v.body q Closed c b) (at_hand (value_error u c)) (at_hand (value_error v c)) some.0
    (ap (λ (x : Body). body_cause x u.quotes Closed c b) d ∙ errors ∙ sym (ap (λ (x : Body). body_cause x q Closed c b) f))
    (ap (λ (x : Body). body_cause x q Closed c b) f ∙ some.1))
    (λ x o. none_some some.0 (sym (first-caused (body_cause v.body q Closed c b) (at_hand (value_error v c)) o).0 ∙ ap (λ (x : Body). body_cause x q Closed c b) f ∙ some.1)) h

not-style : (j : Js) (s : _) → body.Js j ≡ body.Css s → ⊥
not-style j s e = cc

at-code : (k : ℕ) (since : TextRead) (b : ℕ) (bs : List ℕ) (v : ValuePlace) (j : Js) (e : PathRefusal) (x y : Member) → v.body ≡ body.Js j
    → script_senses_differ (script_scan_start j).senses ≡ true
    → script_told_shown false (script_value_ends (ends_quoted v.quotes (class_of b))) (bytes_of_places (quoted_places v.quotes 0 Closed (class_of b) b)) (script_scan_start j) ≡ Some (two x y)
    → stepped k since (b ∷ bs) (At (place.Value v)) ≡ Err e → e.code ≡ code.SlashAmbig
at-code k since b bs v j e x y d differ t h =
    let c = class_of b in
    let q = v.quotes in
    let m = script_scan_start j in
    let ends = script_value_ends (ends_quoted q c) in
    let rest = stepped (k + 1) (scan_read_behind k since (At (place.Value v)) c b) bs (scan_next (At (place.Value v)) c b) in
    step-code q k [] m Closed c b (value_error v c) rest e (starts-fit k j) (scripts-clash.start j) differ
    (subst (λ (xs : List ℕ). SlashTold ends xs m) (sym (same-quoted-bytes q k Closed c b)) (told-slash (bytes_of_places (quoted_places q 0 Closed c b)) ends m x y t))
    (sym (ap (λ (z : Body). unless_refused_in_script k (begun_script_refusal z q k c b) (first_cause (body_cause z q Closed c b) (at_hand (value_error v c))) rest) d) ∙ h)

at-script-by : (k : ℕ) (since : TextRead) (b : ℕ) (bs : List ℕ) (v : ValuePlace) (j : Js) (e : PathRefusal) (z : EvidenceData) → v.body ≡ body.Js j
    → ScanValid (At (place.Value v))
    → script_told_shown false (script_value_ends (ends_quoted v.quotes (class_of b))) (bytes_of_places (quoted_places v.quotes 0 Closed (class_of b) b)) (script_scan_start j) ≡ Some z
    → stepped k since (b ∷ bs) (At (place.Value v)) ≡ Err e
    → ScriptShownBytes k since (b ∷ bs) (At (place.Value v)) e (script_back (script_scan_start j) z)
at-script-by k since b bs v j e (one y) d w t h =
    let c = class_of b in
    let m = script_scan_start j in
    let ends = script_value_ends (ends_quoted v.quotes c) in
    let fed = bytes_of_places (quoted_places v.quotes 0 Closed c b) in
    let x = script_origin m y in
    let o = (told-one false fed ends m y (ends-shown (ends_quoted v.quotes c)) (script-start-valid j (subst IsValidBody d w.1)) t).1 in (
      place-has v j x d (in-scan v.typed v.quotes m x o.there),
      λ g i l p. below-at-value (λ (g : Scan). ScanValid g → ScanHas g x → stepped k since (b ∷ bs) g ≡ Err e) v
          (λ u n r s. let a = js-of u.body j r.1 (subst (λ (z : Body). joined_bodies u.body z ≡ Some z) d n.body) in
          start-alike k since b bs u v a.0 j e (one y) a.1 d n.quotes
          (o.alike (script_scan_start a.0) a.2 (out-scan m (script_scan_start a.0) u.typed u.quotes x o.there (has-place u a.0 x a.1 s))) t h)
          (λ u n s r q. absurd (not-style j s (sym d ∙ r))) g l i p,
    )
at-script-by k since b bs v j e (two x y) d w t h =
    let c = class_of b in
    let m = script_scan_start j in
    let ends = script_value_ends (ends_quoted v.quotes c) in
    let o = told-two false (bytes_of_places (quoted_places v.quotes 0 Closed c b)) ends m x y (script-start-valid j (subst IsValidBody d w.1)) (scripts-clash.start j) (ends-shown (ends_quoted v.quotes c)) (ends-with-brace (ends_quoted v.quotes c)) t in
    let first = ap (script_origin m) o.first ∙ itself-origin m member.SenseDiv o.div in
    let second = ap (script_origin m) o.other ∙ itself-origin m member.SenseRe o.re in
    record {
      first = first;
      second = second;
      one = subst (λ (z : Member). ScanHas (At (place.Value v)) z) (sym first) (place-has v j member.SenseDiv d (in-set v.typed v.quotes m member.SenseDiv o.div));
      other = subst (λ (z : Member). ScanHas (At (place.Value v)) z) (sym second) (place-has v j member.SenseRe d (in-set v.typed v.quotes m member.SenseRe o.re));
      differ = ap body_differs d ∙ both-true (script_senses_differ m.senses) (script_set_has m member.SenseRe) o.differ o.re;
      ambiguous = λ w. at-code k since b bs v j e x y d o.differ t h;
      refuses = brace-place (λ (g : Scan). stepped k since (b ∷ bs) g ≡ Err e) v j d
          (λ u i f l n s. start-alike k since b bs u v i j e (two x y) f d l (o.alike (script_scan_start i) n s) t h);
    }
at-script-by k since b bs v j e apart d w t h =
    told-apart false (bytes_of_places (quoted_places v.quotes 0 Closed (class_of b) b)) (script_value_ends (ends_quoted v.quotes (class_of b))) (script_scan_start j) t

at-body : (k : ℕ) (since : TextRead) (b : ℕ) (bs : List ℕ) (v : ValuePlace) (x : Body) (e : PathRefusal) (z : EvidenceData) → v.body ≡ x
    → ScanValid (At (place.Value v)) → begun_script_shows x v.quotes (class_of b) b ≡ Some z → stepped k since (b ∷ bs) (At (place.Value v)) ≡ Err e
    → ScriptShownBytes k since (b ∷ bs) (At (place.Value v)) e z
at-body k since b bs v (body.Js j) e z d w t h =
    let m = script_scan_start j in
    let told = script_told_shown false (script_value_ends (ends_quoted v.quotes (class_of b))) (bytes_of_places (quoted_places v.quotes 0 Closed (class_of b) b)) m in
    shown-from (ScriptShownBytes k since (b ∷ bs) (At (place.Value v)) e) m told z (back-of m told told z refl t) (λ x i. at-script-by k since b bs v j e x d w i h)
at-body k since b bs v _ e z d w t h = absurd (none_some z t)

pub at-script-byte : (k : ℕ) (since : TextRead) (b : ℕ) (bs : List ℕ) (v : ValuePlace) (e : PathRefusal) (z : EvidenceData) → ScanValid (At (place.Value v))
    → begun_script_shows v.body v.quotes (class_of b) b ≡ Some z → stepped k since (b ∷ bs) (At (place.Value v)) ≡ Err e
    → ScriptShownBytes k since (b ∷ bs) (At (place.Value v)) e z
at-script-byte k since b bs v e z w t h = at-body k since b bs v v.body e z refl w t h

-- The path on which it is not known what a slash would be stands below the place too, and is refused what the place is.
refused-says : (bytes : List ℕ) (s : LexState ValueState) (x : Result Place PathRefusal) (r : PathRefusal) → x ≡ Err r → Says x 0 nothing_read bytes s
    → path_refusal bytes s ≡ Some r
refused-says bytes s x r e h = subst (λ (z : Result Place PathRefusal). Says z 0 nothing_read bytes s) e h

either-refused : (bytes : List ℕ) (p : Place) (r : PathRefusal) (s : LexState ValueState) (x : Sense) → EitherPath p s x
    → ((g : Scan) → BraceBelow g (At p) → stepped 0 nothing_read bytes g ≡ Err r) → path_refusal bytes (either_slash s) ≡ Some r
either-refused bytes p r s x e f =
    let u = with_js e.own (either_js e.mine) in
    let g = At (place.Value u) in
    let below : BraceBelow g (At (place.Value e.above)) =
    brace_at u e.above (either_js e.mine) e.all refl e.script e.below.tag e.begun e.below.quotes (either-below e.mine e.all e.keeps e.in_order) (either-has-brace e.mine e.keeps) in
    refused-says bytes (either_slash s) (stepped 0 nothing_read bytes g) r (f g (subst (λ (a : Place). BraceBelow g (At a)) (sym e.is) below))
    (says bytes 0 nothing_read (either_slash s) g (at-place (either_slash s) (place.Value u) e.stands) (nil-fits (either_slash s)))

element-refused : (bytes : List ℕ) (p : Place) (r : PathRefusal) (s : LexState ValueState) (x : Sense) → EitherElement p s x
    → ((g : Scan) → BraceBelow g (At p) → stepped 0 nothing_read bytes g ≡ Err r) → path_refusal bytes (either_slash s) ≡ Some r
element-refused bytes p r s x e f =
    let i = either_js e.mine in
    let g = At (place.Script i) in
    let below : BraceBelow g (At (place.Script e.all)) =
    brace_at_element i e.all (either-below e.mine e.all e.keeps e.in_order) (either-has-brace e.mine e.keeps) in
    refused-says bytes (either_slash s) (stepped 0 nothing_read bytes g) r (f g (subst (λ (a : Place). BraceBelow g (At a)) (sym e.is) below))
    (says bytes 0 nothing_read (either_slash s) g (at-place (either_slash s) (place.Script i) e.stands) (nil-fits (either_slash s)))

script-refused : (bytes : List ℕ) (p : Place) (r : PathRefusal) (s : LexState ValueState) → IsIn p s → slash_sense s ≡ Some sense.Div
    → ((g : Scan) → BraceBelow g (At p) → stepped 0 nothing_read bytes g ≡ Err r) → path_refusal bytes (either_slash s) ≡ Some r
script-refused bytes p r (AttributeValue q t (ValueOf (OfScript v)) z) i e f =
    either-refused bytes p r (AttributeValue q t (ValueOf (OfScript v)) z) sense.Div (either-path p q t v z sense.Div i e) f
script-refused bytes p r (InContent d (InLanguage (OfScript v)) h) i e f =
    element-refused bytes p r (InContent d (InLanguage (OfScript v)) h) sense.Div (either-element p d v h sense.Div i e) f
script-refused bytes p r (BeforeAttributeValue t kind.Script) i e f = absurd (re-div (one_value sense.Re sense.Div e))
  where
    re-div : sense.Re ≡ sense.Div → ⊥
    re-div e = cc
script-refused bytes p r _ i e f = absurd (none_some sense.Div e)

as-ambiguous : (r : PathRefusal) (o : Option PathRefusal) → o ≡ Some r → r.code ≡ code.SlashAmbig → o ≡ Some (record { code = code.SlashAmbig; at = r.at; shown = r.shown })
as-ambiguous r o e h = e ∙ ap (λ (x : Code). Some (record { code = x; at = r.at; shown = r.shown })) h

parts : (o u : Option Sense) → o ≡ Some sense.Div → u ≡ Some sense.Re → senses_part o u ≡ true
parts o u e h = ap (λ (x : Option Sense). senses_part x u) e ∙ ap (λ (x : Option Sense). senses_part (Some sense.Div) x) h

pub slash-text : (bytes : List ℕ) (p : Place) (r : PathRefusal) (s t : LexState ValueState) → IsValid p
    → ShownSlash 0 nothing_read bytes (At p) r member.SenseDiv member.SenseRe
    → IsIn p s → Bears s member.SenseDiv → IsIn p t → Bears t member.SenseRe → ClashesSlash bytes s t r.code r.at
slash-text bytes p r s t v d i b j c =
    let w = script-above p d.differ in
    let own = bears-div p s w i b in
    record {
      is = d.ambiguous tt;
      part = parts (slash_sense s) (slash_sense t) own (bears-re p t w j c);
      shown = r.shown;
      refused = as-ambiguous r (path_refusal bytes (either_slash s)) (script-refused bytes p r s i own d.refuses) (d.ambiguous tt);
    }
