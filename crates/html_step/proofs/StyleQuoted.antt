-- What a style refuses of a byte of the text, between quotes and with references undone, and what shows it.
use Rattle.std.proofs.Common.{◌≡◌, ◌≤◌, ℕ, ◌+◌, Bool, true, false, ◌&&◌, List, [], ◌∷◌, ◌++◌, length, Option, Some, None, option_map, if◌then◌else◌, refl, sym, ap, ◌∙◌, subst, arith}
use Rattle.std.specs.Prelude.{encode_utf8}
use Rattle.css_lexer.specs.Classes.{style_class}
use Rattle.css_lexer.specs.RefusalCodes.{RefusalCode}
use Rattle.css_lexer.specs.declared.class.StyleClass.{StyleClass}
use Rattle.css_lexer.specs.declared.class.StyleClass.TheVariants as class
use Rattle.css_step.specs.StyleOrigins.{style_scan_has, style_scan_parts}
use Rattle.css_step.specs.StyleScans.{StyleScan, style_between, style_tails_error}
use Rattle.css_step.specs.StyleSetLaws.{StyleScanBelow}
use Rattle.place_core.proofs.Semilattices.{none_some, one_value}
use Rattle.place_core.specs.page.Classes.{Class, White, QuotationMark, Apostrophe, GreaterThan, class_of, is_equals_sign}
use Rattle.place_core.specs.page.Html.{ends_value}
use Rattle.place_core.specs.page.References.{Form, Reference, Closed, Open, ReferenceStep, Grows, Closes, Breaks, flushed, meaning, plain_bytes, turn, turn_bytes, undone_byte}
use Rattle.place_core.specs.page.Tags.{feed_bytes, style_code, Quoting, DoubleQuoted, SingleQuoted, Unquoted}
use Rattle.place_core.specs.place.Errors.{PathCause, cause_back, fed_error, first_byte_error, first_cause, flushed_error, is_unknown_name, is_written, language_error, name_error, turned_error}
use Rattle.place_core.specs.place.Places.{joined_quotes}
use Rattle.place_core.specs.place.StyleParts.{style_tails}
use Rattle.place_core.specs.declared.bare.Bare.{Bare}
use Rattle.place_core.specs.declared.code.Code.TheVariants as code
use Rattle.place_core.specs.declared.member.Member.{Member}
use Rattle.place_core.specs.declared.member.Member.TheVariants as member
use Rattle.place_core.specs.declared.parts.Parts.{Parts}
use Rattle.place_core.specs.declared.quotes.Quotes.{Quotes}
use Rattle.place_core.specs.declared.quotes.Quotes.TheVariants as quotes
use Rattle.html_scan.specs.Scans.{quoted_error, style_feeding}
use Rattle.html_step.specs.Laws.{EvidenceData, apart, one}
use Rattle.html_step.specs.Origins.{is_apart, style_fed_shown}
use Rattle.html_step.proofs.Characters.{NoColon, ReferencePlain, flushed-character, plain-character, utf8-character}
use Rattle.html_step.proofs.FedAlike.{BegunIf}
use Rattle.html_step.proofs.OwnStyles.{has_begun}
use Rattle.html_step.proofs.PlaceParts.{Under}
use Rattle.html_step.proofs.ScanOrder.{BegunWhereOpen, bare-parts}
use Rattle.html_step.proofs.ShownUrls.{is_quote, quote-no-colon}
use Rattle.html_step.proofs.StyleFedShown.{BeginsColon, FedShown, NotHtml, character-fed, fed-back, fed_apart, fed_one}
use Rattle.html_step.proofs.StyleOriginSteps.{style-breaks-shown, style-closes-shown}
use Rattle.html_step.proofs.StyleRuns.{RunError, RunShown, run-shown, run_member, run_met, run_two}
use Rattle.html_step.proofs.UrlScans.{reference_length}
use Rattle.url_step.specs.PartSets.{spells_apart}

no : false ≡ true → ⊥
no e = cc

-- Each path is refused; those that bear a member; those that met apart; or paths meet apart in a reference that the byte breaks.
pub data StyleShown (n : StyleScan) (r : Reference) (c : Class) (b : ℕ) (e : PathCause) (refuses : StyleScan → Option PathCause) : Type 0 where
  on_name : e.code ≡ code.BadHTML → ((k : StyleScan) → refuses k ≡ Some e) → StyleShown n r c b e refuses
  on_member : (x : Member) → style_fed_shown (undone_byte true r c b) n ≡ Some (one x) → style_scan_has n x ≡ true → NotHtml e.code
      → ((k : StyleScan) → StyleScanBelow k n → style_scan_has k x ≡ true → refuses k ≡ Some e) → StyleShown n r c b e refuses
  on_met : style_fed_shown (undone_byte true r c b) n ≡ Some apart → is_apart (style_scan_parts n) ≡ true
      → (r ≡ Closed → BeginsColon (plain_bytes c b))
      → e.code ≡ code.AmbigContext → e.back ≤ reference_length r
      → ((k : StyleScan) → StyleScanBelow k n → is_apart (style_scan_parts k) ≡ true → refuses k ≡ Some e) → StyleShown n r c b e refuses
  on_two : (s : Parts) (f : Form) (bytes : List ℕ) → r ≡ Open f bytes → style_scan_parts n ≡ Some s → turn c f ≡ Breaks
      → flushed_error style_feeding n (is_equals_sign c) f bytes ≡ None → spells_apart s.opened ≡ false
      → style_fed_shown (undone_byte true r c b) n ≡ Some apart
      → style_fed_shown (plain_bytes c b) (feed_bytes style_feeding n (flushed true (is_equals_sign c) f bytes)) ≡ Some apart
      → is_apart (style_scan_parts (feed_bytes style_feeding n (flushed true (is_equals_sign c) f bytes))) ≡ true → e.code ≡ code.AmbigContext
      → style_scan_has n member.PartStart ≡ true → style_scan_has n member.PartOpen ≡ true → StyleShown n r c b e refuses

-- a byte outside of references
closed-by : (n : StyleScan) (c : Class) (b : ℕ) (e : PathCause) → e.back ≤ 0 → FedShown (plain_bytes c b) n false 0 e
    → StyleShown n Closed c b e (λ k. fed_error style_feeding k (plain_bytes c b) false 0)
closed-by n c b e l (fed_one r) = on_member r.member r.is r.there r.code r.refuses
closed-by n c b e l (fed_apart is there colon code refuses) = on_met is there (λ i. colon) code l refuses

closed-shown : (n : StyleScan) (c : Class) (b : ℕ) (e : PathCause) → fed_error style_feeding n (plain_bytes c b) false 0 ≡ Some e
    → StyleShown n Closed c b e (λ k. fed_error style_feeding k (plain_bytes c b) false 0)
closed-shown n c b e h =
    closed-by n c b e (fed-back (plain_bytes c b) n false 0 e h) (character-fed (plain_bytes c b) n false 0 e (plain-character c b) h)

-- a reference that its semicolon closes
not-closed : {A : Type 0} (f : Form) (bytes : List ℕ) → Open f bytes ≡ Closed → A
not-closed f bytes h = cc

in-open : (xs : List ℕ) (n : StyleScan) (f : Form) (bytes : List ℕ) (c : Class) (b : ℕ) (written : Bool) (e : PathCause)
    (refuses : StyleScan → Option PathCause)
    → ((y : EvidenceData) → style_fed_shown xs n ≡ Some y → style_fed_shown (undone_byte true (Open f bytes) c b) n ≡ Some y)
    → ((k : StyleScan) → fed_error style_feeding k xs written (length bytes + 1) ≡ Some e → refuses k ≡ Some e) → e.back ≤ length bytes + 1
    → FedShown xs n written (length bytes + 1) e → StyleShown n (Open f bytes) c b e refuses
in-open xs n f bytes c b written e refuses shown goes l (fed_one r) =
    on_member r.member (shown (one r.member) r.is) r.there r.code (λ k m o. goes k (r.refuses k m o))
in-open xs n f bytes c b written e refuses shown goes l (fed_apart is there colon code on) =
    on_met (shown apart is) there (λ i. not-closed f bytes i) code l (λ k m o. goes k (on k m o))

closes-by : (x : Bool) (n : StyleScan) (f : Form) (bytes : List ℕ) (c : Class) (b : ℕ) (e : PathCause) → turn c f ≡ Closes
    → first_cause (name_error x (length bytes + 1)) (fed_error style_feeding n (encode_utf8 (meaning f bytes)) false (length bytes + 1)) ≡ Some e
    → StyleShown n (Open f bytes) c b e
    (λ k. first_cause (name_error x (length bytes + 1)) (fed_error style_feeding k (encode_utf8 (meaning f bytes)) false (length bytes + 1)))
closes-by true n f bytes c b e t h =
    on_name
    (ap (λ (y : PathCause). y.code) (sym (one_value (record { code = code.BadHTML; back = length bytes + 1; shown = length bytes + 1 }) e h)))
    (λ k. h)
closes-by false n f bytes c b e t h =
    let xs = encode_utf8 (meaning f bytes) in
    in-open xs n f bytes c b false e (λ k. fed_error style_feeding k xs false (length bytes + 1))
    (λ y i. sym (style-closes-shown n f bytes c b (meaning f bytes) t refl) ∙ i) (λ k i. i) (fed-back xs n false (length bytes + 1) e h)
    (character-fed xs n false (length bytes + 1) e (utf8-character (meaning f bytes)) h)

-- A reference that the byte breaks: its text is refused, or the byte behind it.
first-broken : (y : EvidenceData) (n : StyleScan) (f : Form) (bytes : List ℕ) (c : Class) (b : ℕ) (equals : Bool) → turn c f ≡ Breaks
    → equals ≡ is_equals_sign c → style_fed_shown (flushed true equals f bytes) n ≡ Some y
    → style_fed_shown (undone_byte true (Open f bytes) c b) n ≡ Some y
first-broken y n f bytes c b equals t i h =
    sym (style-breaks-shown (Some y) (style_fed_shown (plain_bytes c b) (feed_bytes style_feeding n (flushed true equals f bytes))) n
    (feed_bytes style_feeding n (flushed true equals f bytes)) f bytes c b equals t i refl (sym h) refl)

broken-first : (n : StyleScan) (f : Form) (bytes : List ℕ) (c : Class) (b : ℕ) (equals : Bool) (e : PathCause)
    (refuses : StyleScan → Option PathCause)
    → turn c f ≡ Breaks → equals ≡ is_equals_sign c → NoColon bytes
    → ((k : StyleScan) → flushed_error style_feeding k equals f bytes ≡ Some e → refuses k ≡ Some e)
    → flushed_error style_feeding n equals f bytes ≡ Some e
    → StyleShown n (Open f bytes) c b e refuses
broken-first n f bytes c b equals e refuses t i a goes h =
    let xs = flushed true equals f bytes in
    let written = is_written equals f bytes in
    in-open xs n f bytes c b written e refuses (λ y j. first-broken y n f bytes c b equals t i j) goes (fed-back xs n written (length bytes + 1) e h)
    (character-fed xs n written (length bytes + 1) e (flushed-character equals f bytes a) h)

-- the byte behind it, where the text of the reference is not refused
abbrev BehindError : StyleScan → Form → List ℕ → Class → ℕ → Option PathCause
BehindError k f bytes c b =
    RunError k (flushed true (is_equals_sign c) f bytes) (is_written (is_equals_sign c) f bytes) (length bytes + 1) (plain_bytes c b)

behind-shown : (y : EvidenceData) (n : StyleScan) (f : Form) (bytes : List ℕ) (c : Class) (b : ℕ) → turn c f ≡ Breaks
    → style_fed_shown (flushed true (is_equals_sign c) f bytes ++ plain_bytes c b) n ≡ Some y
    → style_fed_shown (undone_byte true (Open f bytes) c b) n ≡ Some y
behind-shown y n f bytes c b t h = ap (λ (z : ReferenceStep). style_fed_shown (turn_bytes true z f bytes c b) n) t ∙ h

broken-behind : (n : StyleScan) (f : Form) (bytes : List ℕ) (c : Class) (b : ℕ) (e : PathCause) → turn c f ≡ Breaks
    → flushed_error style_feeding n (is_equals_sign c) f bytes ≡ None
    → RunShown n (flushed true (is_equals_sign c) f bytes) (is_written (is_equals_sign c) f bytes) (length bytes + 1) (plain_bytes c b) e
    → StyleShown n (Open f bytes) c b e (λ k. BehindError k f bytes c b)
broken-behind n f bytes c b e t i (run_member x is there nh refuses) = on_member x (behind-shown (one x) n f bytes c b t is) there nh refuses
broken-behind n f bytes c b e t i (run_met is there code back refuses) =
    on_met (behind-shown apart n f bytes c b t is) there (λ j. not-closed f bytes j) code (omega (arith, back)) refuses
broken-behind n f bytes c b e t i (run_two s p not-yet is behind came code starts opens) =
    on_two s f bytes refl p t i not-yet (behind-shown apart n f bytes c b t is) behind came code starts opens

breaks-by : (o : Option PathCause) (n : StyleScan) (f : Form) (bytes : List ℕ) (c : Class) (b : ℕ) (e : PathCause) → NoColon bytes → turn c f ≡ Breaks
    → flushed_error style_feeding n (is_equals_sign c) f bytes ≡ o
    → first_cause o (fed_error style_feeding (feed_bytes style_feeding n (flushed true (is_equals_sign c) f bytes)) (plain_bytes c b) false 0) ≡ Some e
    → StyleShown n (Open f bytes) c b e (λ k. BehindError k f bytes c b)
breaks-by (Some x) n f bytes c b e a t i h =
    broken-first n f bytes c b (is_equals_sign c) e (λ k. BehindError k f bytes c b) t refl a
    (λ k j. ap (λ (o : Option PathCause). first_cause o
    (fed_error style_feeding (feed_bytes style_feeding k (flushed true (is_equals_sign c) f bytes)) (plain_bytes c b) false 0)) j)
    (i ∙ h)
breaks-by None n f bytes c b e a t i h =
    let equals = is_equals_sign c in
    let xs = flushed true equals f bytes in
    broken-behind n f bytes c b e t i
    (run-shown n xs (is_written equals f bytes) (length bytes + 1) (plain_bytes c b) e (flushed-character equals f bytes a) (plain-character c b) i h)

turned-by : (x : ReferenceStep) (n : StyleScan) (f : Form) (bytes : List ℕ) (c : Class) (b : ℕ) (e : PathCause) → NoColon bytes → turn c f ≡ x
    → turned_error style_feeding n x f bytes c b ≡ Some e → StyleShown n (Open f bytes) c b e (λ k. turned_error style_feeding k x f bytes c b)
turned-by (Grows g) n f bytes c b e a t h = absurd (none_some e h)
turned-by Closes n f bytes c b e a t h = closes-by (true && is_unknown_name f bytes) n f bytes c b e t h
turned-by Breaks n f bytes c b e a t h = breaks-by (flushed_error style_feeding n (is_equals_sign c) f bytes) n f bytes c b e a t refl h

-- a byte with which the value goes on, or ends: the reference that is open breaks
going-shown : (r : Reference) (n : StyleScan) (c : Class) (b : ℕ) (e : PathCause) → ReferencePlain r
    → language_error style_feeding false n r c b ≡ Some e
    → StyleShown n r c b e (λ k. language_error style_feeding false k r c b)
going-shown Closed n c b e a h = closed-shown n c b e h
going-shown (Open f bytes) n c b e a h = turned-by (turn c f) n f bytes c b e a refl h

ended-shown : (n : StyleScan) (f : Form) (bytes : List ℕ) (c : Class) (b : ℕ) (e : PathCause) → NoColon bytes → turn c f ≡ Breaks
    → false ≡ is_equals_sign c
    → flushed_error style_feeding n false f bytes ≡ Some e → StyleShown n (Open f bytes) c b e (λ k. flushed_error style_feeding k false f bytes)
ended-shown n f bytes c b e a t i h = broken-first n f bytes c b false e (λ k. flushed_error style_feeding k false f bytes) t i a (λ k j. j) h

quoting-shown : (q : Quoting) (c : Class) (r : Reference) (n : StyleScan) (b : ℕ) (e : PathCause) → ReferencePlain r
    → language_error style_feeding (ends_value q c) n r c b ≡ Some e
    → StyleShown n r c b e (λ k. language_error style_feeding (ends_value q c) k r c b)
quoting-shown DoubleQuoted QuotationMark Closed n b e a h = absurd (none_some e h)
quoting-shown DoubleQuoted QuotationMark (Open f l) n b e a h = ended-shown n f l QuotationMark b e a refl refl h
quoting-shown SingleQuoted Apostrophe Closed n b e a h = absurd (none_some e h)
quoting-shown SingleQuoted Apostrophe (Open f l) n b e a h = ended-shown n f l Apostrophe b e a refl refl h
quoting-shown Unquoted White Closed n b e a h = absurd (none_some e h)
quoting-shown Unquoted White (Open f l) n b e a h = ended-shown n f l White b e a refl refl h
quoting-shown Unquoted GreaterThan Closed n b e a h = absurd (none_some e h)
quoting-shown Unquoted GreaterThan (Open f l) n b e a h = ended-shown n f l GreaterThan b e a refl refl h
quoting-shown q c r n b e a h = going-shown r n c b e a h

first-shown : (c : Class) (n : StyleScan) (b : ℕ) (e : PathCause) → first_byte_error style_feeding n c b ≡ Some e
    → StyleShown n Closed c b e (λ k. first_byte_error style_feeding k c b)
first-shown White n b e h = absurd (none_some e h)
first-shown QuotationMark n b e h = absurd (none_some e h)
first-shown Apostrophe n b e h = absurd (none_some e h)
first-shown GreaterThan n b e h = absurd (none_some e h)
first-shown c n b e h = closed-shown n c b e h

bare-shown : (x : Bool) (r : Reference) (n : StyleScan) (c : Class) (b : ℕ) (e : PathCause) → BegunIf r x → ReferencePlain r
    → (if x then language_error style_feeding (ends_value Unquoted c) n r c b else first_byte_error style_feeding n c b) ≡ Some e
    → StyleShown n r c b e (λ k. if x then language_error style_feeding (ends_value Unquoted c) k r c b else first_byte_error style_feeding k c b)
bare-shown true r n c b e i a h = quoting-shown Unquoted c r n b e a h
bare-shown false Closed n c b e i a h = first-shown c n b e h
bare-shown false (Open f l) n c b e i a h = absurd (no i)

pub style-quoted : (q : Quotes) (r : Reference) (n : StyleScan) (c : Class) (b : ℕ) (e : PathCause) → BegunWhereOpen r q → ReferencePlain r
    → quoted_error style_feeding q n r c b ≡ Some e → StyleShown n r c b e (λ k. quoted_error style_feeding q k r c b)
style-quoted quotes.Dq r n c b e i a h = quoting-shown DoubleQuoted c r n b e a h
style-quoted quotes.Sq r n c b e i a h = quoting-shown SingleQuoted c r n b e a h
style-quoted (quotes.Bare x) Closed n c b e i a h = bare-shown x.uq Closed n c b e tt a h
style-quoted (quotes.Bare x) (Open f l) n c b e i a h = bare-shown x.uq (Open f l) n c b e i.0 a h

-- What the quotes of a set below refuse is what those of the set do. A quotation mark begins a value that has not begun, and is fed to one that
-- has: so before it the style is empty, as on a path, or it takes the quotation mark.
abbrev pub TakesQuote : Quotes → StyleScan → Class → ℕ → Type 0
TakesQuote q k c b = has_begun q ≡ false → is_quote c ≡ true → fed_error style_feeding k (plain_bytes c b) false 0 ≡ None

tails-none : (c : StyleClass) → style_tails_error (style_tails false false false) c ≡ None
tails-none class.Asterisk = refl
tails-none class.Solidus = refl
tails-none class.LeftParenthesis = refl
tails-none _ = refl

byte-taken : (b : ℕ) → fed_error style_feeding style_between (b ∷ []) false 0 ≡ None
byte-taken b = ap (λ (o : Option RefusalCode). first_cause (cause_back 0 (option_map style_code o)) None) (tails-none (style_class b))

quote-taken : (c : Class) (b : ℕ) → is_quote c ≡ true → fed_error style_feeding style_between (plain_bytes c b) false 0 ≡ None
quote-taken QuotationMark b h = byte-taken b
quote-taken Apostrophe b h = byte-taken b
quote-taken _ b h = absurd (no h)

pub empty-takes : (q : Quotes) (k : StyleScan) (c : Class) (b : ℕ) → (has_begun q ≡ false → k ≡ style_between) → TakesQuote q k c b
empty-takes q k c b f i h =
    subst (λ (z : StyleScan). fed_error style_feeding z (plain_bytes c b) false 0 ≡ None) (sym (f i)) (quote-taken c b h)

-- nor is a quotation mark a `:`
quote-colon : (c : Class) (b : ℕ) → c ≡ class_of b → is_quote c ≡ true → BeginsColon (plain_bytes c b) → ⊥
quote-colon QuotationMark b e h k = quote-no-colon b (sym (ap is_quote e)) k
quote-colon Apostrophe b e h k = quote-no-colon b (sym (ap is_quote e)) k
quote-colon _ b e h k = no h

pub colon-takes : (q : Quotes) (k : StyleScan) (c : Class) (b : ℕ) → c ≡ class_of b → BeginsColon (plain_bytes c b) → TakesQuote q k c b
colon-takes q k c b e h i j = absurd (quote-colon c b e j h)

begun-takes : (q : Quotes) (k : StyleScan) (c : Class) (b : ℕ) → has_begun q ≡ true → TakesQuote q k c b
begun-takes q k c b h i j = absurd (no (sym i ∙ h))

-- in a reference each path is in the value
pub open-takes : (r : Reference) (q : Quotes) (k : StyleScan) (c : Class) (b : ℕ) → BegunWhereOpen r q → (r ≡ Closed → TakesQuote q k c b)
    → TakesQuote q k c b
open-takes Closed q k c b v f = f refl
open-takes (Open f l) quotes.Dq k c b v g = begun-takes quotes.Dq k c b refl
open-takes (Open f l) quotes.Sq k c b v g = begun-takes quotes.Sq k c b refl
open-takes (Open f l) (quotes.Bare x) k c b v g = begun-takes (quotes.Bare x) k c b v.0

bare-same : (x y : Bool) (r : Reference) (k : StyleScan) (c : Class) (b : ℕ) → BegunIf r x → Under x y
    → (x ≡ false → is_quote c ≡ true → fed_error style_feeding k (plain_bytes c b) false 0 ≡ None)
    → (if x then language_error style_feeding (ends_value Unquoted c) k r c b else first_byte_error style_feeding k c b)
    ≡ (if y then language_error style_feeding (ends_value Unquoted c) k r c b else first_byte_error style_feeding k c b)
bare-same true true r k c b i u f = refl
bare-same false false r k c b i u f = refl
bare-same true false r k c b i u f = absurd (no (sym u))
bare-same false true (Open g l) k c b i u f = absurd (no i)
bare-same false true Closed k White b i u f = refl
bare-same false true Closed k GreaterThan b i u f = refl
bare-same false true Closed k QuotationMark b i u f = sym (f refl refl)
bare-same false true Closed k Apostrophe b i u f = sym (f refl refl)
bare-same false true Closed k c b i u f = refl

begun-bare : (r : Reference) (x : Bare) → BegunWhereOpen r (quotes.Bare x) → BegunIf r x.uq
begun-bare Closed x v = tt
begun-bare (Open f l) x v = v.0

pub style-same-quoted : (p q : Quotes) (r : Reference) (k : StyleScan) (c : Class) (b : ℕ) → joined_quotes p q ≡ Some q → BegunWhereOpen r p
    → TakesQuote p k c b → quoted_error style_feeding p k r c b ≡ quoted_error style_feeding q k r c b
style-same-quoted quotes.Dq quotes.Dq r k c b j i f = refl
style-same-quoted quotes.Sq quotes.Sq r k c b j i f = refl
style-same-quoted (quotes.Bare x) (quotes.Bare y) r k c b j i f = bare-same x.uq y.uq r k c b (begun-bare r x i) (bare-parts x y j).0 f
style-same-quoted quotes.Dq quotes.Sq r k c b j i f = absurd (none_some quotes.Sq j)
style-same-quoted quotes.Dq (quotes.Bare y) r k c b j i f = absurd (none_some (quotes.Bare y) j)
style-same-quoted quotes.Sq quotes.Dq r k c b j i f = absurd (none_some quotes.Dq j)
style-same-quoted quotes.Sq (quotes.Bare y) r k c b j i f = absurd (none_some (quotes.Bare y) j)
style-same-quoted (quotes.Bare x) quotes.Dq r k c b j i f = absurd (none_some quotes.Dq j)
style-same-quoted (quotes.Bare x) quotes.Sq r k c b j i f = absurd (none_some quotes.Sq j)
