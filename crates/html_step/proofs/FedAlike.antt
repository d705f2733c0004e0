-- Two languages side by side, that are fed the same bytes: one path and all paths at a place, or fewer paths and more. Where each byte that the one
-- takes is taken by the other, and leaves them related, so it is at a byte of a value with its references undone. Where they refuse a byte alike they
-- do so there.
use Rattle.std.proofs.Common.{◌≡◌, ℕ, ◌+◌, ◌-◌, Bool, true, false, ◌&&◌, List, [], ◌∷◌, length, Option, Some, None, if◌then◌else◌, refl, sym, ap, ◌∙◌}
use Rattle.std.specs.Prelude.{encode_utf8}
use Rattle.place_core.specs.page.Classes.{Class, White, QuotationMark, Apostrophe, GreaterThan, is_equals_sign}
use Rattle.place_core.specs.page.Html.{ends_value}
use Rattle.place_core.specs.page.References.{Form, Reference, Closed, Open, ReferenceStep, Grows, Closes, Breaks, turn, turn_bytes, undone_byte, meaning, flushed, plain_bytes}
use Rattle.place_core.specs.page.Tags.{Feeding, feed_bytes, Unquoted}
use Rattle.place_core.specs.place.Errors.{PathCause, cause_back, fed_error, first_byte_error, first_cause, flushed_error, is_unknown_name, is_written, language_error, name_error, turned_error}
use Rattle.place_core.specs.declared.code.Code.{Code}
use Rattle.html_scan.proofs.UrlsFed.{feed_more}
use Rattle.html_step.proofs.PlaceParts.{Under}

given : {A : Type 0} (a : A) → Some a ≡ None → ⊥
given a e = cc

-- what is refused by neither of two
pub first-caused : (o p : Option PathCause) → first_cause o p ≡ None → (o ≡ None) × (p ≡ None)
first-caused None p n = (refl, n)
first-caused (Some e) p n = absurd (given _ n)

pub cause-none : (back : ℕ) (o : Option Code) → cause_back back o ≡ None → o ≡ None
cause-none back None n = refl
cause-none back (Some e) n = absurd (given _ n)

-- What the second takes the first one takes, and they stay related.
pub record FedBeside {S T : Type 0} (m : Feeding S) (n : Feeding T) (R : S → T → Type 0) : Type 0 where
  pub takes : (s : S) (t : T) (b : ℕ) → R s t → n.refuses t b ≡ None → m.refuses s b ≡ None
  pub goes : (s : S) (t : T) (b : ℕ) → R s t → n.refuses t b ≡ None → R (m.feed s b) (n.feed t b)
  pub names : (s : S) (t : T) → R s t → m.refuses_names s ≡ n.refuses_names t

-- They refuse a byte alike.
pub record FedAlike {S T : Type 0} (m : Feeding S) (n : Feeding T) (R : S → T → Type 0) : Type 0 where
  pub errors : (s : S) (t : T) (b : ℕ) → R s t → m.refuses s b ≡ n.refuses t b
  pub goes : (s : S) (t : T) (b : ℕ) → R s t → n.refuses t b ≡ None → R (m.feed s b) (n.feed t b)
  pub names : (s : S) (t : T) → R s t → m.refuses_names s ≡ n.refuses_names t

pub beside : {S T : Type 0} {m : Feeding S} {n : Feeding T} {R : S → T → Type 0} → FedAlike m n R → FedBeside m n R
beside a = record { takes = λ s t b r e. a.errors s t b r ∙ e; goes = a.goes; names = a.names }

-- bytes
pub fed-beside : {S T : Type 0} {m : Feeding S} {n : Feeding T} {R : S → T → Type 0} → FedBeside m n R
    → (bytes : List ℕ) (written : Bool) (back : ℕ) (s : S) (t : T) → R s t → fed_error n t bytes written back ≡ None
    → (fed_error m s bytes written back ≡ None) × R (feed_bytes m s bytes) (feed_bytes n t bytes)
fed-beside h [] written back s t r e = (refl, r)
fed-beside {m = m} {n = n} h (b ∷ bs) written back s t r e =
    let later = if written then back - 1 else back in
    let p = first-caused (cause_back back (n.refuses t b)) (fed_error n (n.feed t b) bs written later) e in
    let own = cause-none back (n.refuses t b) p.0 in
    let more = fed-beside h bs written later (m.feed s b) (n.feed t b) (h.goes s t b r own) p.1 in
    (ap (λ (o : Option Code). first_cause (cause_back back o) (fed_error m (m.feed s b) bs written later)) (h.takes s t b r own) ∙ more.0, more.1)

-- a byte of a value, where a reference is open
related : {S T : Type 0} (R : S → T → Type 0) (s a : S) (t b : T) → a ≡ s → b ≡ t → R s t → R a b
related R s a t b e f r = rw (e, f) r

pub turned-beside : {S T : Type 0} {m : Feeding S} {n : Feeding T} {R : S → T → Type 0} → FedBeside m n R
    → (g : ReferenceStep) (f : Form) (bytes : List ℕ) (c : Class) (b : ℕ) (s : S) (t : T) → R s t → turned_error n t g f bytes c b ≡ None
    → (turned_error m s g f bytes c b ≡ None) × R (feed_bytes m s (turn_bytes true g f bytes c b)) (feed_bytes n t (turn_bytes true g f bytes c b))
turned-beside h (Grows g) f bytes c b s t r e = (refl, r)
turned-beside {m = m} {n = n} h Closes f bytes c b s t r e =
    let is = encode_utf8 (meaning f bytes) in
    let p = first-caused (name_error (n.refuses_names t && is_unknown_name f bytes) (length bytes + 1)) (fed_error n t is false (length bytes + 1)) e in
    let own = ap (λ (x : Bool). name_error (x && is_unknown_name f bytes) (length bytes + 1)) (h.names s t r) ∙ p.0 in
    let more = fed-beside h is false (length bytes + 1) s t r p.1 in
    (ap (λ (o : Option PathCause). first_cause o (fed_error m s is false (length bytes + 1))) own ∙ more.0, more.1)
turned-beside {m = m} {n = n} {R = R} h Breaks f bytes c b s t r e =
    let broken = flushed true (is_equals_sign c) f bytes in
    let behind = fed_error n (feed_bytes n t broken) (plain_bytes c b) false 0 in
    let p = first-caused (flushed_error n t (is_equals_sign c) f bytes) behind e in
    let first = fed-beside h broken (is_written (is_equals_sign c) f bytes) (length bytes + 1) s t r p.0 in
    let more = fed-beside h (plain_bytes c b) false 0 (feed_bytes m s broken) (feed_bytes n t broken) first.1 p.1 in (
      ap (λ (o : Option PathCause). first_cause o (fed_error m (feed_bytes m s broken) (plain_bytes c b) false 0)) first.0 ∙ more.0,
      related R _ _ _ _ (feed_more m s broken (plain_bytes c b)) (feed_more n t broken (plain_bytes c b)) more.1,
    )

-- a byte of a value, which ends it or not
pub language-beside : {S T : Type 0} {m : Feeding S} {n : Feeding T} {R : S → T → Type 0} → FedBeside m n R
    → (ends : Bool) (r : Reference) (c : Class) (b : ℕ) (s : S) (t : T) → R s t → language_error n ends t r c b ≡ None → language_error m ends s r c b ≡ None
language-beside h true Closed c b s t r e = refl
language-beside h true (Open f bytes) c b s t r e = (fed-beside h (flushed true false f bytes) (is_written false f bytes) (length bytes + 1) s t r e).0
language-beside h false Closed c b s t r e = (fed-beside h (plain_bytes c b) false 0 s t r e).0
language-beside h false (Open f bytes) c b s t r e = (turned-beside h (turn c f) f bytes c b s t r e).0

pub undone-beside : {S T : Type 0} {m : Feeding S} {n : Feeding T} {R : S → T → Type 0} → FedBeside m n R
    → (r : Reference) (c : Class) (b : ℕ) (s : S) (t : T) → R s t → language_error n false t r c b ≡ None
    → R (feed_bytes m s (undone_byte true r c b)) (feed_bytes n t (undone_byte true r c b))
undone-beside h Closed c b s t r e = (fed-beside h (plain_bytes c b) false 0 s t r e).1
undone-beside h (Open f bytes) c b s t r e = (turned-beside h (turn c f) f bytes c b s t r e).1

-- Without quotes: where a reference is open each path is in the value; where none is, what is refused is that of the byte.
abbrev pub BegunIf : Reference → Bool → Type 0
BegunIf Closed uq = Unit {0}
BegunIf (Open f bytes) uq = uq ≡ true

abbrev pub bare_cause : {S : Type 0} → Feeding S → Bool → S → Reference → Class → ℕ → Option PathCause
bare_cause m uq s r c b = if uq then language_error m (ends_value Unquoted c) s r c b else first_byte_error m s c b

no : false ≡ true → ⊥
no e = cc

pub bare-beside : {S T : Type 0} {m : Feeding S} {n : Feeding T} {R : S → T → Type 0} → FedBeside m n R
    → (u w : Bool) (r : Reference) (c : Class) (b : ℕ) (s : S) (t : T) → Under u w → BegunIf r u → R s t → bare_cause n w t r c b ≡ None → bare_cause m u s r c b ≡ None
bare-beside h true true r c b s t i v k e = language-beside h (ends_value Unquoted c) r c b s t k e
bare-beside h true false r c b s t i v k e = absurd (no (sym i))
bare-beside h false w (Open f bytes) c b s t i v k e = absurd (no v)
bare-beside h false w Closed White b s t i v k e = refl
bare-beside h false w Closed QuotationMark b s t i v k e = refl
bare-beside h false w Closed Apostrophe b s t i v k e = refl
bare-beside h false w Closed GreaterThan b s t i v k e = refl
bare-beside h false true Closed c b s t i v k e = (fed-beside h (plain_bytes c b) false 0 s t k e).0
bare-beside h false false Closed c b s t i v k e = (fed-beside h (plain_bytes c b) false 0 s t k e).0

-- a byte with which a value goes on
abbrev pub GoesOn : Class → Type 0
GoesOn White = ⊥
GoesOn QuotationMark = ⊥
GoesOn Apostrophe = ⊥
GoesOn GreaterThan = ⊥
GoesOn c = Unit {0}

pub bare-undone : {S T : Type 0} {m : Feeding S} {n : Feeding T} {R : S → T → Type 0} → FedBeside m n R
    → (u w : Bool) (r : Reference) (c : Class) (b : ℕ) (s : S) (t : T) → GoesOn c → Under u w → BegunIf r u → R s t → bare_cause n w t r c b ≡ None
    → R (feed_bytes m s (undone_byte true r c b)) (feed_bytes n t (undone_byte true r c b))
bare-undone h u w r White b s t g i v k e = absurd g
bare-undone h u w r QuotationMark b s t g i v k e = absurd g
bare-undone h u w r Apostrophe b s t g i v k e = absurd g
bare-undone h u w r GreaterThan b s t g i v k e = absurd g
bare-undone h true true r c b s t g i v k e = undone-beside h r c b s t k e
bare-undone h true false r c b s t g i v k e = absurd (no (sym i))
bare-undone h false w (Open f bytes) c b s t g i v k e = absurd (no v)
bare-undone h false true Closed c b s t g i v k e = (fed-beside h (plain_bytes c b) false 0 s t k e).1
bare-undone h false false Closed c b s t g i v k e = (fed-beside h (plain_bytes c b) false 0 s t k e).1

-- refused alike
pub alike-first : (o p q : Option PathCause) → (o ≡ None → p ≡ q) → first_cause o p ≡ first_cause o q
alike-first None p q h = h refl
alike-first (Some e) p q h = refl

pub fed-alike : {S T : Type 0} {m : Feeding S} {n : Feeding T} {R : S → T → Type 0} → FedAlike m n R
    → (bytes : List ℕ) (written : Bool) (back : ℕ) (s : S) (t : T) → R s t → fed_error m s bytes written back ≡ fed_error n t bytes written back
fed-alike a [] written back s t r = refl
fed-alike {m = m} {n = n} a (b ∷ bs) written back s t r =
    let later = if written then back - 1 else back in
    let own = fed_error m (m.feed s b) bs written later in
    ap (λ (o : Option Code). first_cause (cause_back back o) own) (a.errors s t b r)
    ∙ alike-first (cause_back back (n.refuses t b)) own (fed_error n (n.feed t b) bs written later)
    (λ e. fed-alike a bs written later (m.feed s b) (n.feed t b) (a.goes s t b r (cause-none back (n.refuses t b) e)))

turned-alike : {S T : Type 0} {m : Feeding S} {n : Feeding T} {R : S → T → Type 0} → FedAlike m n R
    → (g : ReferenceStep) (f : Form) (bytes : List ℕ) (c : Class) (b : ℕ) (s : S) (t : T) → R s t → turned_error m s g f bytes c b ≡ turned_error n t g f bytes c b
turned-alike a (Grows g) f bytes c b s t r = refl
turned-alike {m = m} {n = n} a Closes f bytes c b s t r =
    let is = encode_utf8 (meaning f bytes) in
    ap (λ (x : Bool). first_cause (name_error (x && is_unknown_name f bytes) (length bytes + 1)) (fed_error m s is false (length bytes + 1))) (a.names s t r)
    ∙ ap (first_cause (name_error (n.refuses_names t && is_unknown_name f bytes) (length bytes + 1))) (fed-alike a is false (length bytes + 1) s t r)
turned-alike {m = m} {n = n} a Breaks f bytes c b s t r =
    let broken = flushed true (is_equals_sign c) f bytes in
    let written = is_written (is_equals_sign c) f bytes in
    let own = fed_error m (feed_bytes m s broken) (plain_bytes c b) false 0 in
    ap (λ (o : Option PathCause). first_cause o own) (fed-alike a broken written (length bytes + 1) s t r)
    ∙ alike-first (flushed_error n t (is_equals_sign c) f bytes) own (fed_error n (feed_bytes n t broken) (plain_bytes c b) false 0)
    (λ e. fed-alike a (plain_bytes c b) false 0 (feed_bytes m s broken) (feed_bytes n t broken) (fed-beside (beside a) broken written (length bytes + 1) s t r e).1)

pub language-alike : {S T : Type 0} {m : Feeding S} {n : Feeding T} {R : S → T → Type 0} → FedAlike m n R
    → (ends : Bool) (r : Reference) (c : Class) (b : ℕ) (s : S) (t : T) → R s t → language_error m ends s r c b ≡ language_error n ends t r c b
language-alike a true Closed c b s t r = refl
language-alike a true (Open f bytes) c b s t r = fed-alike a (flushed true false f bytes) (is_written false f bytes) (length bytes + 1) s t r
language-alike a false Closed c b s t r = fed-alike a (plain_bytes c b) false 0 s t r
language-alike a false (Open f bytes) c b s t r = turned-alike a (turn c f) f bytes c b s t r

pub first-byte-alike : {S T : Type 0} {m : Feeding S} {n : Feeding T} {R : S → T → Type 0} → FedAlike m n R
    → (c : Class) (b : ℕ) (s : S) (t : T) → R s t → first_byte_error m s c b ≡ first_byte_error n t c b
first-byte-alike a White b s t r = refl
first-byte-alike a QuotationMark b s t r = refl
first-byte-alike a Apostrophe b s t r = refl
first-byte-alike a GreaterThan b s t r = refl
first-byte-alike a c b s t r = fed-alike a (plain_bytes c b) false 0 s t r
