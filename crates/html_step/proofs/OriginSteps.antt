-- Origins that are kept byte by byte, and what shows a refusal by them.
use Rattle.std.proofs.Common.{◌≡◌, ◌<◌, ◌≤◌, ℕ, Bool, true, false, List, [], ◌∷◌, ◌++◌, drop, length, Option, Some, None, refl, sym, ap, ◌∙◌, arith, if◌then◌else◌}
use Rattle.std.proofs.lemmas.List.{drop_all}
use Rattle.std.specs.Option.{is_some}
use Rattle.std.specs.Prelude.{encode_utf8, slice_index_or}
use Rattle.place_core.specs.page.Classes.{Class, class_of, is_equals_sign}
use Rattle.place_core.specs.page.References.{Form, Open, ReferenceStep, Breaks, Closes, flushed, meaning, plain_bytes, turn, turn_bytes, undone_byte}
use Rattle.place_core.specs.page.Tags.{feed_bytes}
use Rattle.place_core.specs.place.Errors.{PathCause}
use Rattle.place_core.specs.declared.member.Member.{Member}
use Rattle.place_core.specs.declared.member.Member.TheVariants as member
use Rattle.html_scan.specs.ScanViews.{cause_at}
use Rattle.html_scan.specs.declared.cause.Cause.{Cause as ReadCause}
use Rattle.place_core.specs.declared.parts.Parts.{Parts}
use Rattle.html_scan.specs.Scans.{Scan, parts_feeding, scan_error, scan_next}
use Rattle.html_step.specs.Laws.{EvidenceData, apart, one, two}
use Rattle.html_step.specs.OriginViews.{all_members, apart_through, evidence_through, member_number}
use Rattle.html_step.specs.Origins.{back_by, byte_origin, byte_shows, end_shows, fed_origin, is_apart, part_origin, scan_parts, shows, unless_shown, or_evidence, script_end_shown, script_shown}
use Rattle.html_scan.specs.declared.cause.Cause.{Cause as ReadCause}
use Rattle.url_lexer.specs.Classes.{url_class_of}
use Rattle.url_step.specs.PartSets.{parts_next}

-- each member stands at its number
pub member-at : (f : Member → Member) (y : Member) → f (slice_index_or all_members (member_number y) member.Whole) ≡ f y
member-at f member.Whole = refl
member-at f member.Typed = refl
member-at f member.CommentDash = refl
member-at f member.BlockLt = refl
member-at f member.NameSpot = refl
member-at f member.BeforeSpot = refl
member-at f member.InsideSpot = refl
member-at f member.AfterSpot = refl
member-at f member.UnquotedValue = refl
member-at f member.UnbegunValue = refl
member-at f member.PartStart = refl
member-at f member.PartOpen = refl
member-at f member.PartOpenhole = refl
member-at f member.PartPrequery = refl
member-at f member.PartQuery = refl
member-at f member.PartBad = refl
member-at f member.SenseRe = refl
member-at f member.SenseDiv = refl
member-at f member.SenseBrace = refl
member-at f member.JsWord = refl
member-at f member.JsNum = refl
member-at f member.JsLt = refl
member-at f member.JsSlash = refl
member-at f member.JsPlus = refl
member-at f member.JsMinus = refl
member-at f member.JsHash = refl
member-at f member.RegexpSlash = refl
member-at f member.JsStar = refl
member-at f member.CssWord = refl
member-at f member.CssSlash = refl
member-at f member.CssLt = refl
member-at f member.CssStar = refl

-- the number of a member is one of all
pub number-below : (y : Member) → member_number y < 32
number-below member.Whole = omega arith
number-below member.Typed = omega arith
number-below member.CommentDash = omega arith
number-below member.BlockLt = omega arith
number-below member.NameSpot = omega arith
number-below member.BeforeSpot = omega arith
number-below member.InsideSpot = omega arith
number-below member.AfterSpot = omega arith
number-below member.UnquotedValue = omega arith
number-below member.UnbegunValue = omega arith
number-below member.PartStart = omega arith
number-below member.PartOpen = omega arith
number-below member.PartOpenhole = omega arith
number-below member.PartPrequery = omega arith
number-below member.PartQuery = omega arith
number-below member.PartBad = omega arith
number-below member.SenseRe = omega arith
number-below member.SenseDiv = omega arith
number-below member.SenseBrace = omega arith
number-below member.JsWord = omega arith
number-below member.JsNum = omega arith
number-below member.JsLt = omega arith
number-below member.JsSlash = omega arith
number-below member.JsPlus = omega arith
number-below member.JsMinus = omega arith
number-below member.JsHash = omega arith
number-below member.RegexpSlash = omega arith
number-below member.JsStar = omega arith
number-below member.CssWord = omega arith
number-below member.CssSlash = omega arith
number-below member.CssLt = omega arith
number-below member.CssStar = omega arith

no : true ≡ false → ⊥
no e = cc

-- before any byte each shows what it shows
pub through-same : (m : Member → Member) → ((y : Member) → m y ≡ y) → (z : EvidenceData) → evidence_through m apart z ≡ z
through-same m e (one x) = ap one (e x)
through-same m e (two x y) = rw (e x, e y) refl
through-same m e apart = refl

-- a byte that is not refused
none-cause : (o : Option ReadCause) → is_some o ≡ false → cause_at o ≡ None
none-cause None e = refl
none-cause (Some x) e = absurd (no e)

apart-back : (m : Member → Member) (met : EvidenceData) (x : Bool)
    → apart_through m met x ≡ evidence_through m met (if x then apart else two member.PartStart member.PartOpen)
apart-back m met true = refl
apart-back m met false = refl

through : (m n : Member → Member) (met after : EvidenceData) (f : Scan) (c : Class) (b : ℕ) (z : EvidenceData) → ((y : Member) → n y ≡ m (byte_origin f c b y))
    → after ≡ apart_through m met (is_apart (scan_parts f))
    → evidence_through n after z ≡ evidence_through m met (back_by f c b z)
through m n met after f c b (one x) e d = ap one (e x)
through m n met after f c b (two x y) e d = rw (e x, e y) refl
through m n met after f c b apart e d = d ∙ apart-back m met (is_apart (scan_parts f))

pub evidence-then : (m n : Member → Member) (met after : EvidenceData) (f g : Scan) (c : Class) (b : ℕ) (xs bs : List ℕ) (o : Option ReadCause) (r : EvidenceData)
    → xs ≡ b ∷ bs
    → c ≡ class_of b → cause_at o ≡ scan_error f c b → is_some o ≡ false → script_shown f c b ≡ None
    → ((y : Member) → n y ≡ m (byte_origin f c b y)) → after ≡ apart_through m met (is_apart (scan_parts f)) → g ≡ scan_next f c b
    → evidence_through m met (shows xs f) ≡ r → evidence_through n after (shows bs g) ≡ r
evidence-then m n met after f g c b xs bs o r i k h j q e d l s =
    let none : scan_error f (class_of b) b ≡ None = ap (λ (x : Class). scan_error f x b) (sym k) ∙ sym h ∙ none-cause o j in
    let quiet : script_shown f (class_of b) b ≡ None = ap (λ (x : Class). script_shown f x b) (sym k) ∙ q in
    let next : g ≡ scan_next f (class_of b) b = l ∙ ap (λ (x : Class). scan_next f x b) k in
    let goes : (y : Member) → n y ≡ m (byte_origin f (class_of b) b y) = λ y. e y ∙ ap (λ (x : Class). m (byte_origin f x b y)) k in
    ap (λ (x : Scan). evidence_through n after (shows bs x)) next
    ∙ through m n met after f (class_of b) b (shows bs (scan_next f (class_of b) b)) goes d
    ∙ sym (ap (λ (x : Option EvidenceData). evidence_through m met (or_evidence x
    (unless_shown (scan_error f (class_of b) b) (byte_shows f (class_of b) b) (back_by f (class_of b) b (shows bs (scan_next f (class_of b) b)))))) quiet
    ∙ ap (λ (x : Option PathCause). evidence_through m met
    (unless_shown x (byte_shows f (class_of b) b) (back_by f (class_of b) b (shows bs (scan_next f (class_of b) b))))) none)
    ∙ sym (ap (λ (x : List ℕ). evidence_through m met (shows x f)) i) ∙ s

-- The bytes that a URL is fed, some after others.
fed-more : (xs ys : List ℕ) (s : Parts) (y : Member) → fed_origin (xs ++ ys) s y ≡ fed_origin xs s (fed_origin ys (feed_bytes parts_feeding s xs) y)
fed-more [] ys s y = refl
fed-more (x ∷ xs) ys s y = ap (part_origin s (url_class_of x)) (fed-more xs ys (parts_next s (url_class_of x) x) y)

-- those of a reference that its semicolon ends
pub closes-origin : (m : Member → Member) (s : Parts) (f : Form) (read : List ℕ) (c : Class) (b : ℕ) (code : ℕ) (y : Member) → turn c f ≡ Closes
    → code ≡ meaning f read
    → m (fed_origin (encode_utf8 code) s y) ≡ m (fed_origin (undone_byte true (Open f read) c b) s y)
closes-origin m s f read c b code y e i =
    ap m (ap (λ (x : ℕ). fed_origin (encode_utf8 x) s y) i ∙ ap (λ (x : ReferenceStep). fed_origin (turn_bytes true x f read c b) s y) (sym e))

-- those of a reference that a byte breaks, before the byte
pub breaks-origin : (m n : Member → Member) (s w : Parts) (f : Form) (read : List ℕ) (c : Class) (b : ℕ) (equals : Bool) (y : Member) → turn c f ≡ Breaks
    → equals ≡ is_equals_sign c
    → w ≡ feed_bytes parts_feeding s (flushed true equals f read) → ((z : Member) → n z ≡ m (fed_origin (flushed true equals f read) s z))
    → n (fed_origin (plain_bytes c b) w y) ≡ m (fed_origin (undone_byte true (Open f read) c b) s y)
breaks-origin m n s w f read c b equals y e i j h =
    h (fed_origin (plain_bytes c b) w y)
    ∙ ap m (ap (λ (q : Parts). fed_origin (flushed true equals f read) s (fed_origin (plain_bytes c b) q y)) j
    ∙ sym (fed-more (flushed true equals f read) (plain_bytes c b) s y)
    ∙ ap (λ (x : Bool). fed_origin (flushed true x f read ++ plain_bytes c b) s y) i
    ∙ ap (λ (x : ReferenceStep). fed_origin (turn_bytes true x f read c b) s y) (sym e))

-- the end of a text shows its refusal by the members before it
pub evidence-ends : (m : Member → Member) (met : EvidenceData) (text : List ℕ) (f : Scan) (i : ℕ) (x : Member) (r : EvidenceData) → length text ≤ i → script_end_shown f ≡ None
    → x ≡ m (end_shows f)
    → evidence_through m met (shows (drop i text) f) ≡ r → one x ≡ r
evidence-ends m met text f i x r l q h s =
    ap one h ∙ sym (ap (λ (o : Option EvidenceData). evidence_through m met (or_evidence o (one (end_shows f)))) q)
    ∙ sym (ap (λ (xs : List ℕ). evidence_through m met (shows xs f)) (drop_all i text l)) ∙ s
