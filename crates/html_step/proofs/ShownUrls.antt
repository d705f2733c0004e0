-- What a URL refuses on all paths together: a `:` where the beginning is behind a hole, or paths have spelled different things in it; and a name that
-- stands for no character.
use Rattle.std.proofs.Common.{◌≡◌, ◌≤◌, ℕ, ◌+◌, Bool, true, false, ◌&&◌, List, [], ◌∷◌, length, Option, Some, None, option_map, if◌then◌else◌, refl, sym, ap, ◌∙◌, arith}
use Rattle.std.specs.Prelude.{encode_utf8}
use Rattle.place_core.specs.page.Classes.{Class, White, QuotationMark, Apostrophe, GreaterThan, class_of, is_equals_sign}
use Rattle.place_core.specs.page.Html.{ends_value}
use Rattle.place_core.specs.page.References.{Form, Reference, Closed, Open, ReferenceStep, Grows, Closes, Breaks, turn, meaning, flushed, plain_bytes}
use Rattle.place_core.specs.page.Tags.{refusal_code, Quoting, DoubleQuoted, SingleQuoted, Unquoted}
use Rattle.place_core.specs.place.Errors.{PathCause, cause_back, fed_error, first_byte_error, first_cause, flushed_error, is_unknown_name, is_written, language_error, name_error, turned_error}
use Rattle.place_core.specs.place.Places.{joined_quotes}
use Rattle.place_core.specs.declared.bare.Bare.{Bare}
use Rattle.place_core.specs.declared.code.Code.TheVariants as code
use Rattle.place_core.specs.declared.parts.Parts.{Parts}
use Rattle.place_core.specs.declared.quotes.Quotes.{Quotes}
use Rattle.place_core.specs.declared.quotes.Quotes.TheVariants as quotes
use Rattle.place_core.proofs.Semilattices.{none_some, one_value}
use Rattle.html_scan.specs.Scans.{parts_feeding, quoted_error}
use Rattle.html_step.proofs.ApartParts.{IsAmbiguous, character-shown, no-error}
use Rattle.html_step.proofs.Characters.{IsCharacter, NoColon, ReferencePlain, colon-byte, flushed-character, utf8-character, plain-character}
use Rattle.html_step.proofs.PlaceParts.{Under}
use Rattle.html_step.proofs.ScanOrder.{BegunWhereOpen, bare-parts}
use Rattle.html_step.proofs.ReadScans.{Behind, Broken}
use Rattle.html_step.proofs.FedAlike.{BegunIf}
use Rattle.html_step.proofs.UrlOrder.{fed-grow}
use Rattle.html_step.proofs.UrlScans.{reference_length}
use Rattle.url_lexer.specs.Classes.{url_class_of}
use Rattle.url_lexer.specs.Refusals.{UrlRefusal}
use Rattle.url_lexer.specs.declared.class.UrlClass.TheVariants as url_class
use Rattle.url_step.specs.PartSets.{PartsBelow}

no : false ≡ true → ⊥
no e = cc

-- A byte of the text: what it refuses of a set of parts it refuses of all sets; or of each in which a `:` is refused, before the bytes that are fed or
-- behind a reference that the byte breaks.
pub data UrlShown (s : Parts) (r : Reference) (c : Class) (e : PathCause) (refuses : Parts → Option PathCause) : Type 0 where
  on_each : e.code ≡ code.BadHTML → ((t : Parts) → refuses t ≡ Some e) → UrlShown s r c e refuses
  on_first : (back : ℕ) → e ≡ record { code = code.AmbigContext; back = back; shown = back } → back ≤ reference_length r → IsAmbiguous s
      → ((t : Parts) → IsAmbiguous t → refuses t ≡ Some e) → UrlShown s r c e refuses
  on_behind : (f : Form) (bytes : List ℕ) → r ≡ Open f bytes → turn c f ≡ Breaks → e ≡ record { code = code.AmbigContext; back = 0; shown = 0 }
      → Broken s f bytes c ≡ None → IsAmbiguous (Behind s f bytes c)
      → ((t : Parts) → PartsBelow t s → IsAmbiguous (Behind t f bytes c) → refuses t ≡ Some e) → UrlShown s r c e refuses

by-character : (bytes : List ℕ) (s : Parts) (r : Reference) (c : Class) (written : Bool) (back : ℕ) (e : PathCause) → IsCharacter bytes → back ≤ reference_length r
    → fed_error parts_feeding s bytes written back ≡ Some e → UrlShown s r c e (λ t. fed_error parts_feeding t bytes written back)
by-character bytes s r c written back e a l h =
    (let d = character-shown bytes s written back e a h in on_first back d.is l d.there d.refuses)

closes-shown : (x : Bool) (bytes : List ℕ) (s : Parts) (r : Reference) (c : Class) (back : ℕ) (e : PathCause) → IsCharacter bytes → back ≤ reference_length r
    → first_cause (name_error x back) (fed_error parts_feeding s bytes false back) ≡ Some e
    → UrlShown s r c e (λ t. first_cause (name_error x back) (fed_error parts_feeding t bytes false back))
closes-shown true bytes s r c back e a l h =
    on_each (ap (λ (y : PathCause). y.code) (sym (one_value (record { code = code.BadHTML; back = back; shown = back }) e h))) (λ t. h)
closes-shown false bytes s r c back e a l h = by-character bytes s r c false back e a l h

breaks-shown : (f : Form) (bytes : List ℕ) (s : Parts) (c : Class) (b : ℕ) (e : PathCause) (o : Option PathCause) → NoColon bytes → turn c f ≡ Breaks
    → Broken s f bytes c ≡ o → first_cause o (fed_error parts_feeding (Behind s f bytes c) (plain_bytes c b) false 0) ≡ Some e
    → UrlShown s (Open f bytes) c e (λ t. first_cause (Broken t f bytes c) (fed_error parts_feeding (Behind t f bytes c) (plain_bytes c b) false 0))
breaks-shown f bytes s c b e (Some x) a k h r =
    let xs = flushed true (is_equals_sign c) f bytes in
    let d = character-shown xs s (is_written (is_equals_sign c) f bytes) (length bytes + 1) e (flushed-character (is_equals_sign c) f bytes a) (h ∙ r) in
    on_first (length bytes + 1) d.is (omega arith) d.there
    (λ t m. ap (λ (o : Option PathCause). first_cause o (fed_error parts_feeding (Behind t f bytes c) (plain_bytes c b) false 0)) (d.refuses t m))
breaks-shown f bytes s c b e None a k h r =
    let xs = flushed true (is_equals_sign c) f bytes in
    let d = character-shown (plain_bytes c b) (Behind s f bytes c) false 0 e (plain-character c b) r in
    on_behind f bytes refl k d.is h d.there
    (λ t l m. ap (λ (o : Option PathCause). first_cause o (fed_error parts_feeding (Behind t f bytes c) (plain_bytes c b) false 0))
    (fed-grow xs (is_written (is_equals_sign c) f bytes) (length bytes + 1) t s l h).0 ∙ d.refuses (Behind t f bytes c) m)

turned-shown : (x : ReferenceStep) (f : Form) (bytes : List ℕ) (s : Parts) (c : Class) (b : ℕ) (e : PathCause) → NoColon bytes → turn c f ≡ x
    → turned_error parts_feeding s x f bytes c b ≡ Some e → UrlShown s (Open f bytes) c e (λ t. turned_error parts_feeding t x f bytes c b)
turned-shown (Grows g) f bytes s c b e a k h = absurd (none_some e h)
turned-shown Closes f bytes s c b e a k h =
    closes-shown (true && is_unknown_name f bytes) (encode_utf8 (meaning f bytes)) s (Open f bytes) c (length bytes + 1) e (utf8-character (meaning f bytes)) (omega arith) h
turned-shown Breaks f bytes s c b e a k h = breaks-shown f bytes s c b e (Broken s f bytes c) a k refl h

going-shown : (r : Reference) (s : Parts) (c : Class) (b : ℕ) (e : PathCause) → ReferencePlain r
    → language_error parts_feeding false s r c b ≡ Some e
    → UrlShown s r c e (λ t. language_error parts_feeding false t r c b)
going-shown Closed s c b e a h = by-character (plain_bytes c b) s Closed c false 0 e (plain-character c b) (omega arith) h
going-shown (Open f bytes) s c b e a h = turned-shown (turn c f) f bytes s c b e a refl h

-- the value ends, and the reference that is open breaks
ended-shown : (f : Form) (bytes : List ℕ) (s : Parts) (c : Class) (e : PathCause) → NoColon bytes
    → flushed_error parts_feeding s false f bytes ≡ Some e
    → UrlShown s (Open f bytes) c e (λ t. flushed_error parts_feeding t false f bytes)
ended-shown f bytes s c e a h =
    by-character (flushed true false f bytes) s (Open f bytes) c (is_written false f bytes) (length bytes + 1) e (flushed-character false f bytes a) (omega arith) h

quoting-shown : (q : Quoting) (c : Class) (r : Reference) (s : Parts) (b : ℕ) (e : PathCause) → ReferencePlain r
    → language_error parts_feeding (ends_value q c) s r c b ≡ Some e → UrlShown s r c e (λ t. language_error parts_feeding (ends_value q c) t r c b)
quoting-shown DoubleQuoted QuotationMark Closed s b e a h = absurd (none_some e h)
quoting-shown DoubleQuoted QuotationMark (Open f l) s b e a h = ended-shown f l s QuotationMark e a h
quoting-shown SingleQuoted Apostrophe Closed s b e a h = absurd (none_some e h)
quoting-shown SingleQuoted Apostrophe (Open f l) s b e a h = ended-shown f l s Apostrophe e a h
quoting-shown Unquoted White Closed s b e a h = absurd (none_some e h)
quoting-shown Unquoted White (Open f l) s b e a h = ended-shown f l s White e a h
quoting-shown Unquoted GreaterThan Closed s b e a h = absurd (none_some e h)
quoting-shown Unquoted GreaterThan (Open f l) s b e a h = ended-shown f l s GreaterThan e a h
quoting-shown q c r s b e a h = going-shown r s c b e a h

first-shown : (c : Class) (s : Parts) (b : ℕ) (e : PathCause) → first_byte_error parts_feeding s c b ≡ Some e
    → UrlShown s Closed c e (λ t. first_byte_error parts_feeding t c b)
first-shown White s b e h = absurd (none_some e h)
first-shown QuotationMark s b e h = absurd (none_some e h)
first-shown Apostrophe s b e h = absurd (none_some e h)
first-shown GreaterThan s b e h = absurd (none_some e h)
first-shown c s b e h = by-character (plain_bytes c b) s Closed c false 0 e (plain-character c b) (omega arith) h

bare-shown : (x : Bool) (r : Reference) (s : Parts) (c : Class) (b : ℕ) (e : PathCause) → BegunIf r x → ReferencePlain r
    → (if x then language_error parts_feeding (ends_value Unquoted c) s r c b else first_byte_error parts_feeding s c b) ≡ Some e
    → UrlShown s r c e (λ t. if x then language_error parts_feeding (ends_value Unquoted c) t r c b else first_byte_error parts_feeding t c b)
bare-shown true r s c b e i a h = quoting-shown Unquoted c r s b e a h
bare-shown false Closed s c b e i a h = first-shown c s b e h
bare-shown false (Open f l) s c b e i a h = absurd (no i)

pub quoted-shown : (q : Quotes) (r : Reference) (s : Parts) (c : Class) (b : ℕ) (e : PathCause) → BegunWhereOpen r q → ReferencePlain r
    → quoted_error parts_feeding q s r c b ≡ Some e → UrlShown s r c e (λ t. quoted_error parts_feeding q t r c b)
quoted-shown quotes.Dq r s c b e i a h = quoting-shown DoubleQuoted c r s b e a h
quoted-shown quotes.Sq r s c b e i a h = quoting-shown SingleQuoted c r s b e a h
quoted-shown (quotes.Bare x) Closed s c b e i a h = bare-shown x.uq Closed s c b e tt a h
quoted-shown (quotes.Bare x) (Open f l) s c b e i a h = bare-shown x.uq (Open f l) s c b e i.0 a h

-- A quotation mark and an apostrophe are no `:`.
abbrev pub is_quote : Class → Bool
is_quote QuotationMark = true
is_quote Apostrophe = true
is_quote _ = false

colon-class : is_quote (class_of 58) ≡ false
unfolding class_of
colon-class = refl

pub quote-no-colon : (b : ℕ) → is_quote (class_of b) ≡ true → url_class_of b ≡ url_class.Colon → ⊥
quote-no-colon b q e = no (sym (ap (λ (x : ℕ). is_quote (class_of x)) (colon-byte b e) ∙ colon-class) ∙ q)

quote-taken : (t : Parts) (b : ℕ) → is_quote (class_of b) ≡ true → fed_error parts_feeding t (b ∷ []) false 0 ≡ None
quote-taken t b q =
    ap (λ (o : Option UrlRefusal). first_cause (cause_back 0 (option_map refusal_code o)) None)
    (no-error t (url_class_of b) (λ e. no (sym (ap (λ (x : ℕ). is_quote (class_of x)) (colon-byte b e) ∙ colon-class) ∙ q)))

-- what the quotes of a set below refuse is what those of the set do
bare-same : (x y : Bool) (r : Reference) (t : Parts) (c : Class) (b : ℕ) → c ≡ class_of b → BegunIf r x → Under x y
    → (if x then language_error parts_feeding (ends_value Unquoted c) t r c b else first_byte_error parts_feeding t c b)
    ≡ (if y then language_error parts_feeding (ends_value Unquoted c) t r c b else first_byte_error parts_feeding t c b)
bare-same true true r t c b k i u = refl
bare-same false false r t c b k i u = refl
bare-same true false r t c b k i u = absurd (no (sym u))
bare-same false true (Open f l) t c b k i u = absurd (no i)
bare-same false true Closed t White b k i u = refl
bare-same false true Closed t GreaterThan b k i u = refl
bare-same false true Closed t QuotationMark b k i u = sym (quote-taken t b (sym (ap is_quote k)))
bare-same false true Closed t Apostrophe b k i u = sym (quote-taken t b (sym (ap is_quote k)))
bare-same false true Closed t c b k i u = refl

begun-bare : (r : Reference) (x : Bare) → BegunWhereOpen r (quotes.Bare x) → BegunIf r x.uq
begun-bare Closed x v = tt
begun-bare (Open f l) x v = v.0

pub same-quoted : (p q : Quotes) (r : Reference) (t : Parts) (c : Class) (b : ℕ) → c ≡ class_of b → joined_quotes p q ≡ Some q → BegunWhereOpen r p
    → quoted_error parts_feeding p t r c b ≡ quoted_error parts_feeding q t r c b
same-quoted quotes.Dq quotes.Dq r t c b k j i = refl
same-quoted quotes.Sq quotes.Sq r t c b k j i = refl
same-quoted (quotes.Bare x) (quotes.Bare y) r t c b k j i = bare-same x.uq y.uq r t c b k (begun-bare r x i) (bare-parts x y j).0
same-quoted quotes.Dq quotes.Sq r t c b k j i = absurd (none_some quotes.Sq j)
same-quoted quotes.Dq (quotes.Bare y) r t c b k j i = absurd (none_some (quotes.Bare y) j)
same-quoted quotes.Sq quotes.Dq r t c b k j i = absurd (none_some quotes.Dq j)
same-quoted quotes.Sq (quotes.Bare y) r t c b k j i = absurd (none_some (quotes.Bare y) j)
same-quoted (quotes.Bare x) quotes.Dq r t c b k j i = absurd (none_some quotes.Dq j)
same-quoted (quotes.Bare x) quotes.Sq r t c b k j i = absurd (none_some quotes.Sq j)
