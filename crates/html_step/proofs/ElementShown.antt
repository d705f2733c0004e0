-- What shows that a byte is refused in the element `style`, or one of those that were pending back, and that the end of a text is refused
-- there.
use Rattle.std.proofs.Common.{◌≡◌, ◌≤◌, ℕ, Bool, true, false, codes, List, [], ◌∷◌, ◌++◌, length, Option, Some, None, option_map, if◌then◌else◌, refl, sym, ap, ◌∙◌, subst, arith, ◌⊎◌, inl, inr}
use Rattle.css_lexer.specs.Escapes.{NoEscape, AfterBackslash, HexDigits, AfterReturn}
use Rattle.css_lexer.specs.RefusalCodes.{StyleCutRefusal}
use Rattle.css_step.proofs.StyleGrowth.{styles-grow}
use Rattle.css_step.specs.StyleOrigins.{style_scan_has, style_scan_parts}
use Rattle.css_step.specs.StyleScans.{StyleScan, style_scan_place, style_scan_start}
use Rattle.css_step.specs.StyleSetLaws.{StyleScanBelow, below_itself, below_tails, below_split_word, below_star, below_bare, below_quoted}
use Rattle.place_core.proofs.Semilattices.{none_some}
use Rattle.place_core.specs.page.Classes.{Class, White, Solidus, LessThan, GreaterThan, Letter}
use Rattle.place_core.specs.page.Contents.{is_name_of, may_be_name_of, pending_bytes}
use Rattle.place_core.specs.page.States.{Pending, Nothing, PendingLess, LessAtCut, PendingName, PendingBang, PendingBangDash, PendingOpening}
use Rattle.place_core.specs.page.Tags.{feed_bytes, style_code, style_cut}
use Rattle.place_core.specs.place.Errors.{PathCause, at_hand, cut_cause, end_name_error, fed_error, first_cause, loose_byte_error, pending_error, released_error, split_error}
use Rattle.place_core.specs.declared.code.Code.{Code}
use Rattle.place_core.specs.declared.code.Code.TheVariants as code
use Rattle.place_core.specs.declared.css.Css.{Css}
use Rattle.place_core.specs.declared.element.Element.TheVariants as element
use Rattle.place_core.specs.declared.member.Member.TheVariants as member
use Rattle.place_core.specs.declared.parts.Parts.{Parts}
use Rattle.place_core.specs.declared.prefix.Prefix.TheVariants as prefix
use Rattle.place_core.specs.place.ApartPlaces.{beginning_in_css}
use Rattle.place_core.specs.declared.place.Place.TheVariants as place
use Rattle.html_scan.specs.Scans.{Scan, At, InStyleElement, element_cause, scan_cut_error, scan_error, scan_lexeme_error, style_feeding, style_less_cause, style_less_cut}
use Rattle.html_step.specs.Laws.{EvidenceData, apart, one, two}
use Rattle.html_step.specs.Origins.{element_fed, end_name_fed, end_shows, fed_shows, first_shown, is_apart, loose_fed, met_before, place_shows, scan_parts, shown_member, style_fed_shown}
use Rattle.html_step.proofs.ApartParts.{differs-of, of-differs}
use Rattle.html_step.proofs.BelowScans.{below-at-style, below-element}
use Rattle.html_step.proofs.Characters.{IsCharacter, NoColon, less-no-letter, nothing, several, single}
use Rattle.html_step.proofs.ElementFrom.{has-place, place-has}
use Rattle.html_step.proofs.EndTagNames.{pending-no-colon}
use Rattle.html_step.proofs.EndsApart.{element-apart}
use Rattle.html_step.proofs.FedAlike.{first-caused}
use Rattle.html_step.proofs.ScanOrder.{IsPendingName, ScanHas}
use Rattle.html_step.proofs.ShownBytes.{ShownByte, ShownCut, ShownLexeme}
use Rattle.html_step.proofs.StyleFedShown.{none-fed, one-fed}
use Rattle.html_step.proofs.StyleOrder.{style-fed-grow}
use Rattle.html_step.proofs.StyleOriginSteps.{style-shown-more}
use Rattle.html_step.proofs.StyleRuns.{RunError, RunShown, run-shown, run_member, run_met, run_two}
use Rattle.html_step.proofs.StyleUrls.{scan-opened}
use Rattle.url_step.specs.PartSets.{spells_apart}

no : false ≡ true → ⊥
no e = cc

-- What was pending back is a `<`, and what may stand behind it in an end tag: behind it no two paths are apart that were not before.
pending-character : (h : Pending) → NoColon (pending_bytes h) → IsCharacter (pending_bytes h)
pending-character Nothing p = nothing refl
pending-character PendingLess p = single 60 refl
pending-character LessAtCut p = single 60 refl
pending-character (PendingName letters) p = several 60 (47 ∷ letters) refl (omega arith) less-no-letter p
pending-character PendingBang p = several 60 (33 ∷ []) refl (omega arith) less-no-letter p
pending-character (PendingOpening []) p = single 60 refl
pending-character (PendingOpening (l ∷ letters)) p = several 60 (l ∷ letters) refl (omega arith) less-no-letter p
pending-character PendingBangDash p = several 60 (33 ∷ 45 ∷ []) refl (omega arith) less-no-letter p

met-of : (o : Option Parts) (m : StyleScan) → style_scan_parts m ≡ o → is_apart o ≡ true
    → beginning_in_css (style_scan_place m) ≡ Some prefix.Differs
met-of (Some x) m e h = scan-opened m x e ∙ differs-of x.opened h
met-of None m e h = absurd (no h)

pending-never : (h : Pending) (n : StyleScan) (s : Parts) → style_scan_parts n ≡ Some s → spells_apart s.opened ≡ false
    → is_apart (style_scan_parts (feed_bytes style_feeding n (pending_bytes h))) ≡ true → ⊥
pending-never h n s p i a =
    let behind = feed_bytes style_feeding n (pending_bytes h) in
    no (sym i ∙ of-differs s.opened (sym (scan-opened n s p) ∙ element-apart h n (met-of (style_scan_parts behind) behind refl a)))

-- A byte goes on with the end tag, or ends it, and nothing is refused; or the style is fed what was pending back, and then the byte.
pub data AtByte (h : Pending) (c : Class) (b : ℕ) : Type 0 where
  goes_on : ((k : StyleScan) → element_cause k h c b ≡ None) → AtByte h c b
  released : ((k : StyleScan) → element_cause k h c b ≡ RunError k (pending_bytes h) true (length (pending_bytes h)) (loose_fed c b))
      → element_fed h c b ≡ pending_bytes h ++ loose_fed c b → AtByte h c b

cause-alone : (o : Option PathCause) → o ≡ first_cause o None
cause-alone (Some e) = refl
cause-alone None = refl

loose-run : (c : Class) (b : ℕ) (k : StyleScan)
    → at_hand (loose_byte_error style_feeding k c b) ≡ fed_error style_feeding k (loose_fed c b) false 0
loose-run LessThan b k = refl
loose-run _ b k = cause-alone (at_hand (style_feeding.refuses k b))

pub loose-character : (c : Class) (b : ℕ) → IsCharacter (loose_fed c b)
loose-character LessThan b = nothing refl
loose-character _ b = single b refl

released-run : (bytes : List ℕ) (c : Class) (b : ℕ) (k : StyleScan)
    → released_error style_feeding k bytes c b ≡ RunError k bytes true (length bytes) (loose_fed c b)
released-run bytes c b k = ap (first_cause (pending_error style_feeding k bytes)) (loose-run c b (feed_bytes style_feeding k bytes))

less-byte : (c : Class) (b : ℕ) → AtByte PendingLess c b
less-byte Solidus b = goes_on (λ k. refl)
less-byte c b = released (λ k. released-run (codes "<") c b k) refl

-- by whether the letters go on, and whether they are the name
abbrev NameByte : Bool → Bool → Class → ℕ → List ℕ → Type 0
NameByte grows whole c b letters =
    ((k : StyleScan) → end_name_error style_feeding k grows whole c b letters ≡ None)
    ⊎ (((k : StyleScan) → end_name_error style_feeding k grows whole c b letters ≡ released_error style_feeding k
    (codes "</" ++ letters) c b)
    × (end_name_fed grows whole c b letters ≡ (codes "</" ++ letters) ++ loose_fed c b))

name-byte : (grows whole : Bool) (c : Class) (b : ℕ) (letters : List ℕ) → NameByte grows whole c b letters
name-byte true true (Letter l) b letters = inl (λ k. refl)
name-byte true false (Letter l) b letters = inl (λ k. refl)
name-byte true true White b letters = inl (λ k. refl)
name-byte true true Solidus b letters = inl (λ k. refl)
name-byte true true GreaterThan b letters = inl (λ k. refl)
name-byte true true c b letters = inr (λ k. refl, refl)
name-byte true false c b letters = inr (λ k. refl, refl)
name-byte false true White b letters = inl (λ k. refl)
name-byte false true Solidus b letters = inl (λ k. refl)
name-byte false true GreaterThan b letters = inl (λ k. refl)
name-byte false true c b letters = inr (λ k. refl, refl)
name-byte false false c b letters = inr (λ k. refl, refl)

name-at : (c : Class) (b : ℕ) (letters : List ℕ)
    → NameByte (may_be_name_of element.Style (letters ++ b ∷ [])) (is_name_of element.Style letters) c b letters
    → AtByte (PendingName letters) c b
name-at c b letters (inl f) = goes_on f
name-at c b letters (inr f) = released (λ k. f.0 k ∙ released-run (codes "</" ++ letters) c b k) f.1

pub at-byte : (h : Pending) (c : Class) (b : ℕ) → AtByte h c b
at-byte Nothing c b = released (λ k. loose-run c b k) refl
at-byte PendingLess c b = less-byte c b
at-byte LessAtCut c b = released (λ k. released-run (codes "<") c b k) refl
at-byte (PendingName letters) c b =
    name-at c b letters (name-byte (may_be_name_of element.Style (letters ++ b ∷ [])) (is_name_of element.Style letters) c b letters)
at-byte PendingBang c b = released (λ k. released-run (codes "<!") c b k) refl
at-byte (PendingOpening letters) c b = released (λ k. released-run (codes "<" ++ letters) c b k) refl
at-byte PendingBangDash c b = released (λ k. released-run (codes "<!-") c b k) refl

-- What shows it, of each scan state of the style below: two members never do.
pub record ElementApart (n : StyleScan) (refuses : StyleScan → Option PathCause) (e : PathCause) : Type 0 where
  pub there : is_apart (style_scan_parts n) ≡ true
  pub code : e.code ≡ code.AmbigContext
  pub here : e.back ≤ 0
  pub on : (k : StyleScan) → StyleScanBelow k n → is_apart (style_scan_parts k) ≡ true → refuses k ≡ Some e

abbrev pub ElementEvidence : StyleScan → (StyleScan → Option PathCause) → PathCause → EvidenceData → Type 0
ElementEvidence n refuses e (one x) =
    (style_scan_has n x ≡ true) × ((k : StyleScan) → StyleScanBelow k n → style_scan_has k x ≡ true → refuses k ≡ Some e)
ElementEvidence n refuses e (two x y) = ⊥
ElementEvidence n refuses e apart = ElementApart n refuses e

by-run : (n : StyleScan) (h : Pending) (c : Class) (b : ℕ) (e : PathCause) (refuses : StyleScan → Option PathCause)
    → ((k : StyleScan) → refuses k ≡ RunError k (pending_bytes h) true (length (pending_bytes h)) (loose_fed c b))
    → RunShown n (pending_bytes h) true (length (pending_bytes h)) (loose_fed c b) e
    → ElementEvidence n refuses e (fed_shows n (pending_bytes h ++ loose_fed c b))
by-run n h c b e refuses f (run_member x is there nh on) =
    subst (ElementEvidence n refuses e) (sym (ap (met_before (style_scan_parts n)) is)) (there, λ k l o. f k ∙ on k l o)
by-run n h c b e refuses f (run_met is there code here on) =
    subst (ElementEvidence n refuses e)
    (sym (ap (met_before (style_scan_parts n)) is ∙ ap (λ (x : Bool). if x then apart else two member.PartStart member.PartOpen) there))
    (record { there = there; code = code; here = here; on = λ k l o. f k ∙ on k l o })
by-run n h c b e refuses f (run_two s p not-yet is behind came code starts opens) = absurd (pending-never h n s p not-yet came)

by-pending : (o : Option PathCause) (n : StyleScan) (h : Pending) (c : Class) (b : ℕ) (e : PathCause)
    (refuses : StyleScan → Option PathCause)
    → ((k : StyleScan) → refuses k ≡ RunError k (pending_bytes h) true (length (pending_bytes h)) (loose_fed c b))
    → NoColon (pending_bytes h)
    → pending_error style_feeding n (pending_bytes h) ≡ o
    → first_cause o (fed_error style_feeding (feed_bytes style_feeding n (pending_bytes h)) (loose_fed c b) false 0) ≡ Some e
    → ElementEvidence n refuses e (fed_shows n (pending_bytes h ++ loose_fed c b))
by-pending (Some x) n h c b e refuses f p i j =
    let bytes = pending_bytes h in
    let r = one-fed bytes n true (length bytes) e p (i ∙ j) in
    let behind = style_fed_shown (loose_fed c b) (feed_bytes style_feeding n bytes) in
    subst (ElementEvidence n refuses e)
    (sym (ap (met_before (style_scan_parts n))
    (style-shown-more bytes (loose_fed c b) n ∙ ap (λ (o : Option EvidenceData). first_shown o behind) r.is))) (
      r.there,
      λ k l o. f k
          ∙ ap (λ (z : Option PathCause). first_cause z (fed_error style_feeding (feed_bytes style_feeding k bytes) (loose_fed c b) false 0))
          (r.refuses k l o),
    )
by-pending None n h c b e refuses f p i j =
    let bytes = pending_bytes h in
    by-run n h c b e refuses f (run-shown n bytes true (length bytes) (loose_fed c b) e (pending-character h p) (loose-character c b) i j)

by-byte : (n : StyleScan) (h : Pending) (c : Class) (b : ℕ) (e : PathCause) → AtByte h c b → NoColon (pending_bytes h)
    → element_cause n h c b ≡ Some e
    → ElementEvidence n (λ k. element_cause k h c b) e (fed_shows n (element_fed h c b))
by-byte n h c b e (goes_on f) p i = absurd (none_some e (sym (f n) ∙ i))
by-byte n h c b e (released f g) p i =
    subst (λ (bytes : List ℕ). ElementEvidence n (λ k. element_cause k h c b) e (fed_shows n bytes)) (sym g)
    (by-pending (pending_error style_feeding n (pending_bytes h)) n h c b e (λ k. element_cause k h c b) f p refl (sym (f n) ∙ i))

pub element-evidence : (n : StyleScan) (h : Pending) (c : Class) (b : ℕ) (e : PathCause) → NoColon (pending_bytes h)
    → element_cause n h c b ≡ Some e
    → ElementEvidence n (λ k. element_cause k h c b) e (fed_shows n (element_fed h c b))
element-evidence n h c b e p i = by-byte n h c b e (at-byte h c b) p i

-- From a lexeme, or what may be its end tag, and from a place.
in-element : (n : StyleScan) (h : Pending) (c : Class) (b : ℕ) (e : PathCause) (y : EvidenceData)
    → ElementEvidence n (λ k. element_cause k h c b) e y → ShownByte (InStyleElement n h) c b e y
in-element n h c b e (one x) d = (
  d.0,
  λ g w l o i. below-element (λ (g : Scan). ScanHas g x → scan_error g c b ≡ Some e) n h (λ k m o. d.1 k m o) g l o,
)
in-element n h c b e (two x y) d = absurd d
in-element n h c b e apart d = record {
  there = d.there;
  code = d.code;
  back = d.here;
  refuses = λ g w l o. below-element (λ (g : Scan). is_apart (scan_parts g) ≡ true → scan_error g c b ≡ Some e) n h
      (λ k m o. d.on k m o) g l o;
}

at-element : (p : Css) (c : Class) (b : ℕ) (e : PathCause) (y : EvidenceData)
    → ElementEvidence (style_scan_start p) (λ k. element_cause k Nothing c b) e y → ShownByte (At (place.Style p)) c b e y
at-element p c b e (one x) d = (
  place-has p x d.0,
  λ g w l o i. below-at-style (λ (g : Scan). ScanHas g x → scan_error g c b ≡ Some e) p
      (λ q m o. d.1 (style_scan_start q) (styles-grow.places q p m).start (has-place q x o)) (λ k m o. d.1 k m o) g l o,
)
at-element p c b e (two x y) d = absurd d
at-element p c b e apart d = record {
  there = d.there;
  code = d.code;
  back = d.here;
  refuses = λ g w l o. below-at-style (λ (g : Scan). is_apart (scan_parts g) ≡ true → scan_error g c b ≡ Some e) p
      (λ q m o. d.on (style_scan_start q) (styles-grow.places q p m).start o) (λ k m o. d.on k m o) g l o;
}

pub element-shown : (n : StyleScan) (h : Pending) (c : Class) (b : ℕ) (e : PathCause) → IsPendingName h → element_cause n h c b ≡ Some e
    → ShownByte (InStyleElement n h) c b e (fed_shows n (element_fed h c b))
element-shown n h c b e p i = in-element n h c b e (fed_shows n (element_fed h c b)) (element-evidence n h c b e (pending-no-colon h p) i)

pub element-place-shown : (p : Css) (c : Class) (b : ℕ) (e : PathCause) → element_cause (style_scan_start p) Nothing c b ≡ Some e
    → ShownByte (At (place.Style p)) c b e (place_shows (place.Style p) c b)
element-place-shown p c b e i =
    at-element p c b e (fed_shows (style_scan_start p) (loose_fed c b)) (element-evidence (style_scan_start p) Nothing c b e tt i)

-- The end of a text: what is pending back, and then a `<` that may not be cut from what follows, and more of the end tag.
less-same : (k n : StyleScan) → StyleScanBelow k n → style_less_cut k ≡ style_less_cut n
less-same _ _ (below_itself n) = refl
less-same _ _ (below_tails x y e) = refl
less-same _ _ (below_split_word w NoEscape) = refl
less-same _ _ (below_split_word w AfterBackslash) = refl
less-same _ _ (below_split_word w (HexDigits k)) = refl
less-same _ _ (below_split_word w AfterReturn) = refl
less-same _ _ below_star = refl
less-same _ _ (below_bare s r t e) = refl
less-same _ _ (below_quoted q e s r t i) = refl

split-same : (h : Pending) (k n : StyleScan) → StyleScanBelow k n → split_error style_less_cause k h ≡ split_error style_less_cause n h
split-same PendingLess k n l = ap (λ (o : Option StyleCutRefusal). option_map cut_cause (option_map style_cut o)) (less-same k n l)
split-same Nothing k n l = refl
split-same LessAtCut k n l = refl
split-same (PendingName letters) k n l = refl
split-same PendingBang k n l = refl
split-same PendingBangDash k n l = refl
split-same (PendingOpening letters) k n l = refl

cut-by : (o : Option PathCause) (n : StyleScan) (h : Pending) (e : PathCause) → NoColon (pending_bytes h)
    → pending_error style_feeding n (pending_bytes h) ≡ o → first_cause o (split_error style_less_cause n h) ≡ Some e
    → ShownCut (InStyleElement n h) e (end_shows (InStyleElement n h))
cut-by (Some x) n h e p i j =
    let bytes = pending_bytes h in
    let d = one-fed bytes n true (length bytes) e p (i ∙ j) in
    subst (ShownCut (InStyleElement n h) e) (sym (ap shown_member d.is))
    (record {
      there = d.there;
      refuses = λ g l o. below-element (λ (g : Scan). ScanHas g d.member → scan_cut_error g ≡ Some e) n h
          (λ k m o. ap (λ (z : Option PathCause). first_cause z (split_error style_less_cause k h)) (d.refuses k m o)) g l o;
    })
cut-by None n h e p i j =
    let bytes = pending_bytes h in
    subst (ShownCut (InStyleElement n h) e) (sym (ap shown_member (none-fed bytes n true (length bytes) i)))
    (record {
      there = refl;
      refuses = λ g l o. below-element (λ (g : Scan). scan_cut_error g ≡ Some e) n h
          (λ k m. ap (λ (z : Option PathCause). first_cause z (split_error style_less_cause k h))
          (style-fed-grow bytes true (length bytes) k n m i).0 ∙ split-same h k n m ∙ j) g l;
    })

pub element-cut : (n : StyleScan) (h : Pending) (e : PathCause) → IsPendingName h → scan_cut_error (InStyleElement n h) ≡ Some e
    → ShownCut (InStyleElement n h) e (end_shows (InStyleElement n h))
element-cut n h e p i = cut-by (pending_error style_feeding n (pending_bytes h)) n h e (pending-no-colon h p) refl i

pub element-lexeme : (n : StyleScan) (h : Pending) (e : Code) → scan_cut_error (InStyleElement n h) ≡ None
    → scan_lexeme_error (InStyleElement n h) ≡ Some e
    → ShownLexeme (InStyleElement n h) e (end_shows (InStyleElement n h))
element-lexeme n h e m i =
    let bytes = pending_bytes h in
    let p = first-caused (pending_error style_feeding n bytes) (split_error style_less_cause n h) m in
    subst (ShownLexeme (InStyleElement n h) e) (sym (ap shown_member (none-fed bytes n true (length bytes) p.0)))
    (record {
      there = refl;
      refuses = λ g l o. below-element (λ (g : Scan). (scan_cut_error g ≡ None) × (scan_lexeme_error g ≡ Some e)) n h
          (λ k l. let f = style-fed-grow bytes true (length bytes) k n l p.0 in (
            ap (λ (z : Option PathCause). first_cause z (split_error style_less_cause k h)) f.0 ∙ split-same h k n l ∙ p.1,
            ap (λ (o : Option StyleCutRefusal). option_map (λ (x : StyleCutRefusal). style_code x.code) o)
                (styles-grow.scans (feed_bytes style_feeding k bytes) (feed_bytes style_feeding n bytes) f.1).cut_error ∙ i,
          )) g l;
    })
