-- Bytes that stay as they are, and after which a text has been read to the same scan state.
use Rattle.std.proofs.Common.{◌≡◌, ℕ, zero, suc, ◌+◌, ◌-◌, ◌<◌, ◌≤◌, Bool, true, false, List, ◌++◌, length, Option, None, refl, sym, ap, ◌∙◌, subst, arith}
use Rattle.place_core.specs.page.Classes.{Class, White, ExclamationMark, QuotationMark, NumberSign, Ampersand, Apostrophe, HyphenMinus, Solidus, Digit, Semicolon, LessThan, EqualsSign, GreaterThan, QuestionMark, GraveAccent, Letter, OtherByte, class_of}
use Rattle.place_core.specs.page.References.{Closed}
use Rattle.place_core.specs.declared.element.Element.{Element}
use Rattle.place_core.specs.declared.element.Element.TheVariants as element
use Rattle.place_core.specs.declared.place.Place.{Place}
use Rattle.place_core.specs.declared.place.Place.TheVariants as place
use Rattle.html_scan.specs.Scans.{At, scan_next}
use Rattle.html_scan.specs.declared.scan.Scan.{Scan as ReadScan}
use Rattle.html_scan.specs.declared.scan.Scan.TheVariants as scan
use Rattle.text_norm.specs.Kept.{Continues, IsProgressKept, ProgressReads, scan_kept, reference_kept, stays}
use Rattle.text_norm.specs.Resting.{Differs, Rests, ReferenceStays}
use Rattle.text_norm.specs.declared.reference.Opened.{Opened}
use Rattle.text_norm.specs.declared.pending.WriteProgress.{WriteProgress}
use Rattle.text_norm.proofs.ByteLaws.{Spelled}
use Rattle.text_norm.proofs.Loops.{left_of, reads_more}
use Rattle.text_norm.proofs.Spelled.{spelled}
use Rattle.text_norm.proofs.Steps.{byte_at, keeps}

abbrev StaysBy : Place → Class → ℕ → Type 0
StaysBy p c b = (scan_next (At p) c b ≡ At p) × (scan_kept (At p) c b Closed ≡ Closed)

stays_text : (c : Class) (b : ℕ) → Spelled c b → Differs b → StaysBy place.Text c b
stays_text White b p d = (refl, refl)
stays_text ExclamationMark b p d = (refl, refl)
stays_text QuotationMark b p d = (refl, refl)
stays_text NumberSign b p d = (refl, refl)
stays_text Ampersand b p d = absurd (d.sign p)
stays_text Apostrophe b p d = (refl, refl)
stays_text HyphenMinus b p d = (refl, refl)
stays_text Solidus b p d = (refl, refl)
stays_text Digit b p d = (refl, refl)
stays_text Semicolon b p d = (refl, refl)
stays_text LessThan b p d = absurd (d.less p)
stays_text EqualsSign b p d = (refl, refl)
stays_text GreaterThan b p d = (refl, refl)
stays_text QuestionMark b p d = (refl, refl)
stays_text GraveAccent b p d = (refl, refl)
stays_text (Letter l) b p d = (refl, refl)
stays_text OtherByte b p d = (refl, refl)

-- a title or a textarea
abbrev pub IsText : Element → Type 0
IsText element.Title = element.Title ≡ element.Title
IsText element.Textarea = element.Textarea ≡ element.Textarea
IsText e = ⊥

stays_rcdata : (e : Element) → IsText e → (c : Class) (b : ℕ) → Spelled c b → Differs b → StaysBy (place.Rcdata e) c b
stays_rcdata element.Other i c b p d = absurd i
stays_rcdata element.Style i c b p d = absurd i
stays_rcdata element.Script i c b p d = absurd i
stays_rcdata element.DataBlock i c b p d = absurd i
stays_rcdata e i White b p d = (refl, refl)
stays_rcdata e i ExclamationMark b p d = (refl, refl)
stays_rcdata e i QuotationMark b p d = (refl, refl)
stays_rcdata e i NumberSign b p d = (refl, refl)
stays_rcdata e i Ampersand b p d = absurd (d.sign p)
stays_rcdata e i Apostrophe b p d = (refl, refl)
stays_rcdata e i HyphenMinus b p d = (refl, refl)
stays_rcdata e i Solidus b p d = (refl, refl)
stays_rcdata e i Digit b p d = (refl, refl)
stays_rcdata e i Semicolon b p d = (refl, refl)
stays_rcdata e i LessThan b p d = absurd (d.less p)
stays_rcdata e i EqualsSign b p d = (refl, refl)
stays_rcdata e i GreaterThan b p d = (refl, refl)
stays_rcdata e i QuestionMark b p d = (refl, refl)
stays_rcdata e i GraveAccent b p d = (refl, refl)
stays_rcdata e i (Letter l) b p d = (refl, refl)
stays_rcdata e i OtherByte b p d = (refl, refl)

pub text_stays : (b : ℕ) → Differs b → ReferenceStays place.Text b
text_stays b d =
    let s = stays_text (class_of b) b (spelled b) d in
    record { next = s.0; closed = s.1; keeps = refl }

pub rcdata_stays : (e : Element) → IsText e → (b : ℕ) → Differs b → ReferenceStays (place.Rcdata e) b
rcdata_stays e i b d =
    let s = stays_rcdata e i (class_of b) b (spelled b) d in
    record { next = s.0; closed = s.1; keeps = refl }

stays_block : (c : Class) (b : ℕ) → Spelled c b → Differs b → StaysBy (place.Block false) c b
stays_block LessThan b p d = absurd (d.less p)
stays_block c b p d = (refl, refl)

pub block_stays : (b : ℕ) → Differs b → ReferenceStays (place.Block false) b
block_stays b d =
    let s = stays_block (class_of b) b (spelled b) d in
    record { next = s.0; closed = s.1; keeps = refl }

continues_none : (stay : Bool) (c : Class) (index : ℕ) → Continues stay c index None None
continues_none true c index = refl
continues_none false c index = tt

kept_none : (stay : Bool) (p : Place) (c : Class) (b : ℕ) → scan_kept (At p) c b Closed ≡ Closed → Closed ≡ reference_kept stay (At p) c b Closed
kept_none true p c b h = refl
kept_none false p c b h = sym h

abbrev at_place : Place → ℕ → WriteProgress
at_place p done = record { scan = scan.At p; reference = None; done = done }

-- one such byte
reads_place : (text : List ℕ) (index : ℕ) (p : Place) (done : ℕ) (out : List ℕ) (kept : IsProgressKept text index (at_place p done)) → index < length text → ReferenceStays p (byte_at text index) → ProgressReads text index (at_place p done) (at_place p done) kept.free out out
reads_place text index p done out kept inside s = keeps text index (at_place p done) (at_place p done) out kept inside (sym s.next) (sym s.keeps) (kept_none (stays (At p) (At p)) p (class_of (byte_at text index)) (byte_at text index) s.closed) (continues_none (stays (At p) (At p)) (class_of (byte_at text index)) index) (omega arith) refl

same_reading : (x : WriteProgress) (p : Place) → x.scan ≡ scan.At p → x.reference ≡ None → at_place p x.done ≡ x
same_reading x p f r =
    ap (λ (g : ReadScan). record { scan = g; reference = None; done = x.done }) (sym f)
    ∙ ap (λ (o : Option Opened). record { scan = x.scan; reference = o; done = x.done }) (sym r)

reads_same : (text : List ℕ) (index : ℕ) (x : WriteProgress) (out : List ℕ) (kept : IsProgressKept text index x) → index < length text → Rests x (byte_at text index) → ProgressReads text index x x kept.free out out
reads_same text index x out kept inside s =
    subst (λ (y : WriteProgress). (kept : IsProgressKept text index y) → ProgressReads text index y y kept.free out out) (same_reading x s.place s.scan s.reference) (λ kept. reads_place text index s.place x.done out kept inside s.stays) kept

-- what a text has been read and written to
abbrev pub IsWritten : List ℕ → List ℕ → ℕ → WriteProgress → List ℕ → Type 0
IsWritten text whole index x out = (kept : IsProgressKept text index x) × (out ++ (kept.free ++ left_of text index x) ≡ whole)

skip : (n : ℕ) (text whole : List ℕ) (index later : ℕ) (x : WriteProgress) (out : List ℕ) → index + n ≡ later → later ≤ length text → ((i : ℕ) → index ≤ i → i < later → Rests x (byte_at text i)) → IsWritten text whole index x out → IsWritten text whole later x out
skip zero text whole index later x out e h rests w = subst (λ (i : ℕ). IsWritten text whole i x out) (omega (arith, e)) w
skip (suc n) text whole index later x out e h rests w =
    let reads = reads_same text index x out w.0 (omega (arith, e, h)) (rests index (omega arith) (omega (arith, e))) in
    skip n text whole (index + 1) later x out (omega (arith, e)) h (λ i from to. rests i (omega (arith, from)) to) (reads.kept, reads_more text whole index x x w.0.free out out reads (omega (arith, e, h)) w.1)

pub skipped : (text whole : List ℕ) (index later : ℕ) (x : WriteProgress) (out : List ℕ) → index ≤ later → later ≤ length text → ((i : ℕ) → index ≤ i → i < later → Rests x (byte_at text i)) → IsWritten text whole index x out → IsWritten text whole later x out
skipped text whole index later x out order h rests w = skip (later - index) text whole index later x out (omega (arith, order)) h rests w
