-- Scan states in which paths have spelled different things: what they refuse at a `:` behind some bytes, and how two paths come apart before it.
use Rattle.std.proofs.Common.{◌≡◌, ◌≤◌, ℕ, ◌+◌, ◌-◌, suc, Bool, true, false, ◌⊎◌, inl, inr, List, [], ◌∷◌, Option, Some, None, Result, Err, is_some, refl, sym, ap, ◌∙◌, subst, arith, ⊎_elim}
use Rattle.css_lexer.specs.States.{Fresh, Bare, Quoted, Ended, Out}
use Rattle.css_lexer.specs.States as style
use Rattle.css_step.specs.StyleOrigins.{scan_set_has, style_scan_parts}
use Rattle.css_step.specs.StyleScans.{StyleScan, ScanBareUrl, ScanQuotedUrl, style_scan_start}
use Rattle.place_core.specs.page.Classes.{Class, White, Ampersand, QuotationMark, Apostrophe, class_of, is_equals_sign}
use Rattle.place_core.specs.page.Html.{next}
use Rattle.place_core.specs.page.References.{Form, Reference, Closed, Open, ReferenceStep, Grows, Closes, Breaks, begin_reference, flushed, meaning, next_reference, plain_bytes, reference_turned, turn, turn_bytes, undone_byte}
use Rattle.place_core.specs.page.States.{AttributeValue, BeforeAttributeValue, InContent, InLanguage, LexState, Nothing, Pending, Template}
use Rattle.place_core.specs.page.Tags.{OfKind, OfStyle, OfUrl, ValueOf, ValueState, feed_bytes, languages, OfScript}
use Rattle.place_core.specs.place.ApartPlaces.{opened_apart, beginning_at, beginning_in_body, spell_apart}
use Rattle.place_core.specs.place.Errors.{PathCause, PathRefusal, place_before_bytes, TextRead, nothing_read, path_refusal}
use Rattle.place_core.specs.place.PathPairs.{ApartBefore, ClashesApart, MeetsColon, is_in_beginning, is_in_reference, state_before, unknown_beginning, ClashesInText}
use Rattle.place_core.specs.place.LanguagePlaces.{parts_have}
use Rattle.place_core.specs.place.Places.{is_whole}
use Rattle.place_core.specs.place.StatePlaces.{quotes_at}
use Rattle.place_core.specs.place.UrlParts.{parts_of, placed_prefix}
use Rattle.place_core.specs.declared.body.Body.{Body}
use Rattle.place_core.specs.declared.body.Body.TheVariants as body
use Rattle.place_core.specs.declared.code.Code.{Code}
use Rattle.place_core.specs.declared.code.Code.TheVariants as code
use Rattle.place_core.specs.declared.element.Element.{Element}
use Rattle.place_core.specs.declared.element.Element.TheVariants as element
use Rattle.place_core.specs.declared.kind.Kind.TheVariants as kind
use Rattle.place_core.specs.declared.member.Member.{Member}
use Rattle.place_core.specs.declared.member.Member.TheVariants as member
use Rattle.place_core.specs.declared.parts.Parts.{Parts}
use Rattle.place_core.specs.declared.place.Place.{Place}
use Rattle.place_core.specs.declared.place.Place.TheVariants as place
use Rattle.place_core.specs.declared.quotes.Quotes.{Quotes}
use Rattle.place_core.specs.declared.quotes.Quotes.TheVariants as quotes
use Rattle.place_core.specs.declared.value_place.ValuePlace.{ValuePlace}
use Rattle.place_core.proofs.Semilattices.{none_some, one_value}
use Rattle.html_scan.specs.Scans.{Scan, At, InUrl, InStyle, InStyleElement, pending_left, scan_reference, parts_feeding, parts_with, scan_error, scan_next, style_fed, style_feeding, style_scan, style_value_next, triple_behind, value_between, InScript, scan_script_refusal}
use Rattle.html_step.proofs.ScriptReads.{nil-fits}
use Rattle.html_step.proofs.ScriptEnds.{script-takes, script_end}
use Rattle.html_step.specs.Origins.{body_parts, fed_in, is_apart, scan_parts}
use Rattle.html_step.specs.Steps.{stepped, unless_refused, scan_read_behind, unless_refused_in_script}
use Rattle.html_step.proofs.ApartParts.{AriseIn, apart-inside, arise-in, bytes-stay, opens-apart, waits}
use Rattle.html_step.proofs.Characters.{IsCharacter, NoColon, ReferencePlain, flushed-character, nothing, utf8-character, plain-character}
use Rattle.html_step.proofs.Clashing.{StartsUrl, is-open, is-start}
use Rattle.html_step.proofs.ElementFrom.{place-has}
use Rattle.html_step.proofs.FromParts.{or-behind}
use Rattle.html_step.proofs.FromValues.{in-body}
use Rattle.html_step.proofs.OnePath.{url-reference}
use Rattle.html_step.proofs.OneTexts.{Says, agrees-at, says}
use Rattle.html_step.proofs.PathScans.{element_scanned, language_scanned, scanned, url_scanned, url_value}
use Rattle.html_step.proofs.PendingScans.{below-pending, element-arises, open-settled, read-settled, scan_pending, style-value-settled, value-settled}
use Rattle.html_step.proofs.KeptBeginnings.{begins-value}
use Rattle.html_step.proofs.ReadScans.{NotBroken, ReadTaken, Takes, closed-taken, not-broken, read-below, read-closed, read-on, read-taken, read-valid, read_style, read_turn, read_value, scan_read, style-fed-read, takes}
use Rattle.html_step.proofs.ReadStates.{NonePending, UrlState, element-at-closed, element-at-parts, element-form, open-parts, own-place, read-between, read-shown, read-state, shown-closed, style_state, unknown, url-of, url_state}
use Rattle.html_step.proofs.ScanOrder.{ScanBelow, ScanHas, ScanValid, StyleUnder, scan-grows}
use Rattle.html_step.proofs.StylePaths.{empty_css, style-scan-reference, style_value}
use Rattle.html_step.proofs.StyleValues.{in-set}
use Rattle.html_step.proofs.StyleUrls.{KnownUrl, StaysInUrl, below-in-url, feeds, known-fed, known-unmet, stays-parts, stays-same}
use Rattle.html_step.proofs.UrlScans.{Holds, ScanPlain, above-parts, below-goes, below-parts, below-reference, body-has-part, element-closed, fed-same, goes-parts, has_met, lead-unmet, next-holds, raw-opened, reference_length, scan-length, scan-unmet, scan_fed, set-has-part, style-met, style-parts, url-parts, within-body}
use Rattle.html_step.proofs.ValidSteps.{scan-valid}
use Rattle.url_lexer.specs.Classes.{url_class_of}
use Rattle.url_lexer.specs.Parts.{UrlPart, UrlStart, UrlOpen}
use Rattle.url_lexer.specs.Prefixes as spelling
use Rattle.url_lexer.specs.Prefixes.{prefix_of_first, prefix_with_letter}
use Rattle.url_lexer.specs.Triples.{Triple, NoTriple}
use Rattle.url_step.specs.PartSets.{PartsBelow, spells_apart}

no : false ≡ true → ⊥
no e = cc

-- the parts of such a scan state
pub record ApartIn (o : Option Parts) : Type 0 where
  pub parts : Parts
  pub is : o ≡ Some parts
  pub apart : spells_apart parts.opened ≡ true

pub apart-in : (o : Option Parts) → is_apart o ≡ true → ApartIn o
apart-in (Some s) h = record { parts = s; is = refl; apart = h }
apart-in None h = absurd (no h)

pub parts-have : (g : Scan) (s : Parts) (y : Member) → scan_parts g ≡ Some s → parts_have s y ≡ true → ScanHas g y
parts-have (At (place.Value v)) s y h k = in-body v.typed v.quotes v.body y (body-has-part v.body s y h k)
parts-have (InUrl v t r) s y h k = in-body v.typed v.quotes v.body y (body-has-part v.body s y h k)
parts-have (InStyle v n r) s y h k = in-set v.typed v.quotes n y (set-has-part n s y h k)
parts-have (At (place.Style c)) s y h k =
    place-has c y (or-behind (is_whole y) (scan_set_has (style_scan_start c) y) (set-has-part (style_scan_start c) s y h k))
parts-have (InStyleElement n x) s y h k = or-behind (is_whole y) (scan_set_has n y) (set-has-part n s y h k)
parts-have (At _) s y h k = absurd (none_some s h)
parts-have _ s y h k = absurd (none_some s h)

-- so what it spells, as it stands
met-there : (f : Scan) → is_apart (scan_parts f) ≡ true → has_met f ≡ true
met-there f a = (let x = apart-in (scan_parts f) a in ap spells_apart (raw-opened f x.parts x.is) ∙ x.apart)

-- A refusal of bytes that stand at one place, where they stand at another.
abbrev pub ShiftedTo : ℕ → PathRefusal → Result Place PathRefusal → Type 0
ShiftedTo i r o = (shown : ℕ) × (o ≡ Err (record { code = r.code; at = i; shown = shown }))

-- Bytes that stand at `k` are refused of each path of which it is not known what it spells, by this; and where they stand at another place of their
-- text, by what stands so much before.
pub record ShownApart (k : ℕ) (bytes : List ℕ) (f : Scan) (r : PathRefusal) : Type 0 where
  pub there : is_apart (scan_parts f) ≡ true
  pub code : r.code ≡ code.AmbigContext
  pub within : k ≤ r.at + reference_length (scan_reference f)
  pub refuses : (j n i : ℕ) → n + j ≡ k → r.at ≡ n + i → (since : TextRead) (g : Scan) → ScanValid g → ScanBelow g f → is_apart (scan_parts g) ≡ true
      → ShiftedTo i r (stepped j since bytes g)

-- a scan state of a URL comes from one, where paths have spelled different things in it
pub before-apart : (f : Scan) (c : Class) (b : ℕ) (o : Option Parts) → ScanValid f → scan_parts f ≡ o → scan_error f c b ≡ None
    → is_apart (scan_parts (scan_next f c b)) ≡ true → (s : Parts) × (scan_parts f ≡ Some s)
before-apart f c b (Some s) v h n a = (s, h)
before-apart f c b None v h n a =
    let d = apart-in (scan_parts (scan_next f c b)) a in
    absurd (no (sym (scan-unmet f c b v h n) ∙ ap spells_apart (raw-opened (scan_next f c b) d.parts d.is) ∙ d.apart))

-- the path of which it is not known what it spells stays such a one
next-apart : (g f : Scan) (c : Class) (b : ℕ) → ScanValid g → ScanValid f → scan_error f c b ≡ None → ScanBelow g f → ScanBelow (scan_next g c b) (scan_next f c b)
    → is_apart (scan_parts g) ≡ true → is_apart (scan_parts (scan_next f c b)) ≡ true → is_apart (scan_parts (scan_next g c b)) ≡ true
next-apart g f c b v w n l m a d =
    let x = apart-in (scan_parts g) a in
    let y = apart-in (scan_parts (scan_next f c b)) d in
    let s = before-apart f c b (scan_parts f) w refl n d in
    let p = goes-parts f s.0 y.parts c b w s.1 y.is y.apart in
    let z = below-parts (scan_next g c b) (scan_next f c b) y.parts m y.is in
    let q = below-goes g f x.parts z.0 c b v w l x.is n (met-there (scan_next f c b) d) z.1 in
    let inside = apart-inside (feed_bytes parts_feeding s.0 (scan_fed f c b)) (ap is_apart (sym p) ∙ d) in
    ap is_apart q
    ∙ ap (λ (bytes : List ℕ). is_apart (Some (feed_bytes parts_feeding x.parts bytes))) (fed-same g f s.0 c b l s.1)
    ∙ (bytes-stay (scan_fed f c b) s.0 x.parts inside).met x.apart

pub refused-later : (k : ℕ) (x : Option PathRefusal) (o : Option PathCause) (r : Result Place PathRefusal) (e : PathRefusal) → x ≡ None → o ≡ None → r ≡ Err e
    → unless_refused_in_script k x o r ≡ Err e
refused-later k x o r e m i h =
    ap (λ (y : Option PathRefusal). unless_refused_in_script k y o r) m ∙ ap (λ (y : Option PathCause). unless_refused k y r) i ∙ h

-- a scan state of a URL is that of no script
pub apart-no-script : (g : Scan) (c : Class) → is_apart (scan_parts g) ≡ true → script_end g c ≡ None
apart-no-script (InScript v n r) c a = absurd (no a)
apart-no-script _ c a = refl

-- before a byte, where it is so there
pub kept-apart : (k b : ℕ) (bs : List ℕ) (f : Scan) (r : PathRefusal) → ScanValid f → scan_error f (class_of b) b ≡ None
    → ShownApart (k + 1) bs (scan_next f (class_of b) b) r → is_apart (scan_parts f) ≡ true → ShownApart k (b ∷ bs) f r
kept-apart k b bs f r w n d a =
    let c = class_of b in
    let long = scan-length f c b in
    let there = d.within in
    record {
      there = a;
      code = d.code;
      within = omega (arith, long, there);
      refuses = λ j m i at is since g v l o.
          let x = scan-grows g f c b refl v l n in
          let e = script-takes g c b x.0 (apart-no-script g c o) j since.fed in
          let next : m + (j + 1) ≡ k + 1 = omega (arith, at) in
          let h = d.refuses (j + 1) m i next is (scan_read_behind j since g c b) (scan_next g c b) (scan-valid g c b v x.0) x.1 (next-apart g f c b v w n l x.1 o d.there) in (
            h.0,
            refused-later j (scan_script_refusal j since.fed g c b) (scan_error g c b) (stepped (j + 1) (scan_read_behind j since g c b) bs (scan_next g c b))
                (record { code = r.code; at = i; shown = h.0 }) e.0 x.0 h.1,
          );
    }

-- A path before the bytes that are left of a text, where it is read: in the beginning of a URL, at a scan state below this one.
pub record Point (s : LexState ValueState) (bs : List ℕ) (f : Scan) : Type 0 where
  pub read : Scan
  pub at : scanned (state_before s bs) ≡ Some read
  pub valid : ScanValid read
  pub below : ScanBelow read f
  pub begins : is_in_beginning (state_before s bs) ≡ true
  pub spelled : spelling.Prefix
  pub place : Place
  pub own : place_before_bytes s bs ≡ Some place
  pub between : is_in_reference s bs ≡ false
  pub opened : beginning_at place ≡ Some (placed_prefix spelled)

left-none : (bs : List ℕ) → pending_left element.Style Nothing bs ≡ Nothing
left-none [] = refl
left-none (b ∷ bs) = refl

pub none-pending : (g : Scan) (bs : List ℕ) → scan_pending g ≡ Nothing → NonePending g bs
none-pending (InStyleElement n x) bs m = ap (λ (y : Pending). pending_left element.Style y bs) m ∙ left-none bs
none-pending _ bs m = tt

point : (s : LexState ValueState) (g : Scan) (bs : List ℕ) (f : Scan) (p : spelling.Prefix) → UrlState s → scanned s ≡ Some g → ReadTaken g bs
    → scan_parts (scan_read g bs) ≡ Some (parts_of (UrlOpen p)) → scan_reference (scan_read g bs) ≡ Closed → scan_pending g ≡ Nothing
    → ScanValid g → ScanBelow (scan_read g bs) f → Point s bs f
point s g bs f p u e n h k m v l =
    let at = read-state s g bs u e n in
    let d = shown-closed (scan_read g bs) bs (parts_of (UrlOpen p)) h k (none-pending (scan_read g bs) bs (read-settled g bs m)) in
    record {
      read = scan_read g bs;
      at = at;
      valid = read-valid g bs v;
      below = l;
      begins = is-open (state_before s bs) (scan_read g bs) at (parts-have (scan_read g bs) (parts_of (UrlOpen p)) member.PartOpen h refl);
      spelled = p;
      place = d.place;
      own = own-place s g bs u e n (read-shown g bs k) (none-pending g bs m) ∙ d.is;
      between = read-between s g bs u e k;
      opened = d.opened;
    }

-- such a path meets the `:`
pub meets : (bytes : List ℕ) (k i : ℕ) (f : Scan) (r : PathRefusal) (s : LexState ValueState) (g : Scan) → ShownApart k bytes f r → r.at ≡ k + i
    → is_in_beginning s ≡ true → scanned s ≡ Some g → ScanValid g → ScanBelow g f → MeetsColon bytes s i
meets bytes k i f r s g d a o e v l =
    let x = apart-in (scan_parts f) d.there in
    let u = unknown s g f x.parts o e v x.is x.apart l in
    let none : k + 0 ≡ k = omega arith in
    let m = d.refuses 0 k i none a nothing_read u.scan u.valid u.below u.apart in
    let refused : path_refusal bytes (unknown_beginning s) ≡ Some (record { code = r.code; at = i; shown = m.0 }) =
    subst (λ (z : Result Place PathRefusal). Says z 0 nothing_read bytes (unknown_beginning s)) m.1
    (says bytes 0 nothing_read (unknown_beginning s) u.scan u.at (nil-fits (unknown_beginning s))) in
    record { shown = m.0; begins = o; refused = refused ∙ ap (λ (c : Code). Some (record { code = c; at = i; shown = m.0 })) d.code }

-- Two paths are apart there, and are refused together at the `:`.
abbrev pub ApartNow : List ℕ → LexState ValueState → LexState ValueState → Code → ℕ → Type 0
ApartNow bytes s t c i = ApartBefore bytes s t × ClashesApart bytes (state_before s bytes) (state_before t bytes) c i

apart-now : (bytes : List ℕ) (k i : ℕ) (f : Scan) (r : PathRefusal) (s t : LexState ValueState) → ShownApart k bytes f r → r.at ≡ k + i
    → (x : Point s bytes f) (y : Point t bytes f)
    → spell_apart (placed_prefix x.spelled) (placed_prefix y.spelled) ≡ true → ApartNow bytes s t r.code i
apart-now bytes k i f r s t d a x y h = (
  record {
    own = x.place;
    other_own = y.place;
    between = x.between;
    other_between = y.between;
    stands = x.own;
    other_stands = y.own;
    apart = ap (λ (o : Option _). opened_apart o (beginning_at y.place)) x.opened ∙ ap (opened_apart (Some (placed_prefix x.spelled))) y.opened ∙ h;
  },
  record {
    is = d.code;
    one = meets bytes k i f r (state_before s bytes) x.read d a x.begins x.at x.valid x.below;
    other = meets bytes k i f r (state_before t bytes) y.read d a y.begins y.at y.valid y.below;
  },
)

-- from where the `:` is refused
pub point-at : (k : ℕ) (bytes : List ℕ) (f : Scan) (r : PathRefusal) → ShownApart k bytes f r → scan_reference f ≡ Closed → (i : ℕ) × (r.at ≡ k + i)
point-at k bytes f r d h =
    let none : reference_length (scan_reference f) ≡ 0 = ap reference_length h in
    let within = d.within in
    (r.at - k, omega (arith, none, within))

-- A path with a member at a scan state below this one.
pub record Stands (s : LexState ValueState) (g f : Scan) (x : Member) : Type 0 where
  pub at : scanned s ≡ Some g
  pub valid : ScanValid g
  pub below : ScanBelow g f
  pub has : ScanHas g x

-- a path on which a URL begins
abbrev pub parts_where : Option Scan → Option Parts
parts_where (Some g) = scan_parts g
parts_where None = None

abbrev pub reference_where : Option Scan → Reference
reference_where (Some g) = scan_reference g
reference_where None = Closed

pub closed-open : (f : Form) (bytes : List ℕ) → Closed ≡ Open f bytes → ⊥
closed-open f bytes h = cc

start-style : (v : ValuePlace) (n : StyleScan) (p : UrlPart) (r : Reference) (g : Scan) → style_scan_parts n ≡ Some (parts_of p) → p ≡ UrlStart
    → Some (style_scan v n r) ≡ Some g → scan_parts g ≡ Some (parts_of UrlStart)
start-style v n p r g i a e =
    ap scan_parts (sym (one_value (style_scan v n r) g e)) ∙ style-parts v n r ∙ i ∙ ap (λ (x : UrlPart). Some (parts_of x)) a

-- in the element `style`
record StartScanned (g : Scan) : Type 0 where
  parts : scan_parts g ≡ Some (parts_of UrlStart)
  closed : scan_reference g ≡ Closed

start-element : (h : Pending) (n : StyleScan) (p : UrlPart) (g : Scan) → style_scan_parts n ≡ Some (parts_of p) → p ≡ UrlStart
    → element_scanned h n ≡ Some g → StartScanned g
start-element h n p g i a e =
    let same = (element-form h n g e).same in
    record {
      parts = ap scan_parts (sym same) ∙ element-at-parts h n ∙ i ∙ ap (λ (y : UrlPart). Some (parts_of y)) a;
      closed = ap scan_reference (sym same) ∙ element-at-closed h n;
    }

start-language : (e : Element) (v : ValueState) (h : Pending) (g : Scan) → StartsUrl (InContent e (InLanguage v) h)
    → language_scanned h e v ≡ Some g
    → StartScanned g
start-language element.Style (OfStyle (style.InUrl Bare u)) h g a e =
    start-element h (ScanBareUrl (parts_of u.part) u.triple) u.part g refl a e
start-language element.Style (OfStyle (style.InUrl (Quoted y z) u)) h g a e =
    start-element h (ScanQuotedUrl y z (parts_of u.part) u.triple) u.part g refl a e
start-language element.Style (OfStyle (style.InUrl Fresh u)) h g a e = absurd a
start-language element.Style (OfStyle (style.InUrl Ended u)) h g a e = absurd a
start-language element.Style (OfStyle (Out v)) h g a e = absurd a
start-language element.Style (OfKind k) h g a e = absurd a
start-language element.Style (OfScript k) h g a e = absurd a
start-language element.Style (OfUrl u) h g a e = absurd a
start-language element.Script (OfKind k) h g a e = absurd a
start-language element.Script (OfScript k) h g a e = absurd a
start-language element.Script (OfUrl u) h g a e = absurd a
start-language element.Script (OfStyle s) h g a e = absurd (none_some g e)
start-language _ v h g a e = absurd (none_some g e)

pub start-parts : (s : LexState ValueState) (g : Scan) → StartsUrl s → scanned s ≡ Some g → scan_parts g ≡ Some (parts_of UrlStart)
start-parts (BeforeAttributeValue t kind.Url) g a e = sym (ap parts_where e)
start-parts (AttributeValue q t (ValueOf (OfUrl u)) r) g a e =
    ap scan_parts (sym (one_value (url_scanned q t u r) g e)) ∙ url-parts (url_value t (quotes_at q) (parts_of u.part)) u.triple r
    ∙ ap (λ (x : UrlPart). Some (parts_of x)) a
start-parts (AttributeValue q t (ValueOf (OfStyle (style.InUrl Bare u))) r) g a e =
    start-style (style_value t (quotes_at q)) (ScanBareUrl (parts_of u.part) u.triple) u.part r g refl a e
start-parts (AttributeValue q t (ValueOf (OfStyle (style.InUrl (Quoted y z) u))) r) g a e =
    start-style (style_value t (quotes_at q)) (ScanQuotedUrl y z (parts_of u.part) u.triple) u.part r g refl a e
start-parts (AttributeValue q t (ValueOf (OfStyle (style.InUrl Fresh u))) r) g a e = absurd a
start-parts (AttributeValue q t (ValueOf (OfStyle (style.InUrl Ended u))) r) g a e = absurd a
start-parts (AttributeValue q t (ValueOf (OfStyle (Out v))) r) g a e = absurd a
start-parts (InContent x (InLanguage v) h) g a e = (start-language x v h g a e).parts
start-parts _ g a e = absurd a

starts-in : (s : LexState ValueState) (g : Scan) (f : Form) (bytes : List ℕ) → StartsUrl s → scanned s ≡ Some g → scan_reference g ≡ Open f bytes → UrlState s
starts-in (AttributeValue q t (ValueOf (OfUrl u)) r) g f bytes a e h = url_state q t u r refl
starts-in (AttributeValue q t (ValueOf (OfStyle v)) r) g f bytes a e h = style_state q t v r refl
starts-in (BeforeAttributeValue t kind.Url) g f bytes a e h = absurd (closed-open f bytes (ap reference_where e ∙ h))
starts-in (InContent x (InLanguage v) p) g f bytes a e h = absurd (closed-open f bytes (sym (start-language x v p g a e).closed ∙ h))
starts-in _ g f bytes a e h = absurd a

-- the bytes of a reference that the byte breaks
abbrev pub turn_read : ReferenceStep → Form → List ℕ → Class → List ℕ
turn_read Breaks f bytes c = flushed true (is_equals_sign c) f bytes
turn_read step f bytes c = []

abbrev pub read_bytes : Reference → ℕ → List ℕ
read_bytes Closed b = []
read_bytes (Open f bytes) b = turn_read (turn (class_of b) f) f bytes (class_of b)

with-parts : (b : Body) (bytes : List ℕ) (s : Parts) → b ≡ body.Url s → body_parts (parts_with b bytes) ≡ Some (feed_bytes parts_feeding s bytes)
with-parts b bytes s h = ap (λ (x : Body). body_parts (parts_with x bytes)) h

turn-parts : (z : ReferenceStep) (v : ValuePlace) (t : Triple) (f : Form) (bytes : List ℕ) (c : Class) (s : Parts) → v.body ≡ body.Url s
    → scan_parts (read_turn z v t f bytes c) ≡ Some (feed_bytes parts_feeding s (turn_read z f bytes c))
turn-parts Breaks v t f bytes c s h =
    let xs = flushed true (is_equals_sign c) f bytes in
    url-parts (read_value v xs) (triple_behind t xs) Closed ∙ with-parts v.body xs s h
turn-parts (Grows g) v t f bytes c s h = ap body_parts h
turn-parts Closes v t f bytes c s h = ap body_parts h

turn-style-parts : (z : ReferenceStep) (v : ValuePlace) (n : StyleScan) (f : Form) (bytes : List ℕ) (c : Class) (s : Parts)
    → style_scan_parts n ≡ Some s → StaysInUrl n (turn_read z f bytes c) → scan_parts (read_style z v n f bytes c) ≡ Some (feed_bytes parts_feeding s (turn_read z f bytes c))
turn-style-parts Breaks v n f bytes c s h w =
    let xs = flushed true (is_equals_sign c) f bytes in style-parts v (feed_bytes style_feeding n xs) Closed ∙ stays-parts xs n s h w
turn-style-parts (Grows g) v n f bytes c s h w = h
turn-style-parts Closes v n f bytes c s h w = h

-- A style stays in the URL at these bytes.
abbrev pub ReadStays : Scan → ℕ → Type 0
ReadStays (InStyle v n r) b = StaysInUrl n (read_bytes r b)
ReadStays f b = Unit {0}

pub read-parts : (g : Scan) (b : ℕ) (bs : List ℕ) (s : Parts) → ScanValid g → scan_parts g ≡ Some s → ReadStays g b
    → scan_parts (scan_read g (b ∷ bs)) ≡ Some (feed_bytes parts_feeding s (read_bytes (scan_reference g) b))
read-parts (InUrl v t (Open f bytes)) b bs s w h k = turn-parts (turn (class_of b) f) v t f bytes (class_of b) s (within-body v.body s w.1 h)
read-parts (InUrl v t Closed) b bs s w h k = h
read-parts (InStyle v n (Open f bytes)) b bs s w h k = turn-style-parts (turn (class_of b) f) v n f bytes (class_of b) s h k
read-parts (InStyle v n Closed) b bs s w h k = h
read-parts (InStyleElement n x) b bs s w h k = h
read-parts (At p) b bs s w h k = h
read-parts _ b bs s w h k = absurd (none_some s h)

-- It does so below one that does, and where paths are apart when it is read.
style-stays-below : (v : ValuePlace) (n : StyleScan) (r : Reference) (f : Scan) (b : ℕ) (a : Parts) → StyleUnder v n r f
    → scan_parts f ≡ Some a → ReadStays f b → StaysInUrl n (read_bytes r b)
style-stays-below v n r (InStyle w m z) b a l h k =
    subst (λ (x : Reference). StaysInUrl n (read_bytes x b)) (sym l.1) (stays-same (read_bytes z b) n m (below-in-url n m a l.0.scan h).2.same k)
style-stays-below v n r (At p) b a l h k = subst (λ (x : Reference). StaysInUrl n (read_bytes x b)) (sym l.1) tt
style-stays-below v n r _ b a l h k = absurd l

pub stays-below : (g f : Scan) (b : ℕ) (a : Parts) → ScanBelow g f → scan_parts f ≡ Some a → ReadStays f b → ReadStays g b
stays-below (InStyle v n r) f b a l h k = style-stays-below v n r f b a l h k
stays-below g f b a l h k = tt

stays-or : (n : StyleScan) (bytes : List ℕ) → StaysInUrl n bytes ⊎ KnownUrl (feed_bytes style_feeding n bytes)
    → (KnownUrl (feed_bytes style_feeding n bytes) → ⊥) → StaysInUrl n bytes
stays-or n bytes (inl w) k = w
stays-or n bytes (inr w) k = absurd (k w)

turn-stays : (z : ReferenceStep) (v : ValuePlace) (n : StyleScan) (f : Form) (bytes : List ℕ) (c : Class) (s : Parts) → style_scan_parts n ≡ Some s
    → is_apart (scan_parts (read_style z v n f bytes c)) ≡ true → StaysInUrl n (turn_read z f bytes c)
turn-stays Breaks v n f bytes c s h a =
    let xs = flushed true (is_equals_sign c) f bytes in
    let behind = feed_bytes style_feeding n xs in
    stays-or n xs (feeds xs n s h) (λ w. no (sym (known-unmet behind w) ∙ (sym (ap is_apart (style-parts v behind Closed)) ∙ a)))
turn-stays (Grows g) v n f bytes c s h a = tt
turn-stays Closes v n f bytes c s h a = tt

read-stays : (f : Scan) (b : ℕ) (bs : List ℕ) (s : Parts) → scan_parts f ≡ Some s → is_apart (scan_parts (scan_read f (b ∷ bs))) ≡ true
    → ReadStays f b
read-stays (InStyle v n (Open x bytes)) b bs s h a = turn-stays (turn (class_of b) x) v n x bytes (class_of b) s h a
read-stays (InStyle v n Closed) b bs s h a = tt
read-stays f b bs s h a = tt

-- and where they are behind the byte
turn-next-stays : (z : ReferenceStep) (v : ValuePlace) (n : StyleScan) (f : Form) (bytes : List ℕ) (c : Class) (b : ℕ) (s : Parts) → turn c f ≡ z
    → v.body ≡ body.Css empty_css → style_scan_parts n ≡ Some s → has_met (style_value_next v n (Open f bytes) c b) ≡ true
    → StaysInUrl n (turn_read z f bytes c)
turn-next-stays Breaks v n f bytes c b s k e h m =
    let xs = flushed true (is_equals_sign c) f bytes in
    let behind = feed_bytes style_feeding n xs in
    let later = feed_bytes style_feeding behind (plain_bytes c b) in
    stays-or n xs (feeds xs n s h)
    (λ w. no (sym (lead-unmet v v.quotes c (λ p. style_fed (value_between v p) n (Open f bytes) c b)
    (ap (λ (x : Body). spells_apart (beginning_in_body x)) e)
    (λ p. sym (ap (λ (g : Scan). has_met g) (style-fed-read (value_between v p) n f bytes c b k))
    ∙ style-met (value_between v p) later (begin_reference c) (known-unmet later (known-fed (plain_bytes c b) behind w)))) ∙ m))
turn-next-stays (Grows g) v n f bytes c b s k e h m = tt
turn-next-stays Closes v n f bytes c b s k e h m = tt

pub next-stays : (f : Scan) (b : ℕ) (s : Parts) → ScanValid f → scan_parts f ≡ Some s → has_met (scan_next f (class_of b) b) ≡ true → ReadStays f b
next-stays (InStyle v n (Open x bytes)) b s w h m = turn-next-stays (turn (class_of b) x) v n x bytes (class_of b) b s refl w.1 h m
next-stays (InStyle v n Closed) b s w h m = tt
next-stays f b s w h m = tt

-- so also of two paths below a scan state, of which a URL begins on the one
opens-below : (h f : Scan) (s : Parts) (q : spelling.Prefix) → ScanBelow h f → scan_parts h ≡ Some (parts_of (UrlOpen q)) → scan_parts f ≡ Some s
    → PartsBelow (parts_of (UrlOpen q)) s
opens-below h f s q l i j =
    (let p = above-parts h f (parts_of (UrlOpen q)) l i in subst (λ (z : Parts). PartsBelow (parts_of (UrlOpen q)) z) (one_value p.0 s (sym p.1 ∙ j)) p.2)

-- Two paths of which the one begins the URL with the only byte that both are fed, and the other goes on in the beginning.
record Parted (zs : List ℕ) (s : Parts) (q : spelling.Prefix) : Type 0 where
  first : spelling.Prefix
  other : spelling.Prefix
  begins : feed_bytes parts_feeding (parts_of UrlStart) zs ≡ parts_of (UrlOpen first)
  goes : feed_bytes parts_feeding (parts_of (UrlOpen q)) zs ≡ parts_of (UrlOpen other)
  apart : spell_apart (placed_prefix first) (placed_prefix other) ≡ true

parted : (zs : List ℕ) (s : Parts) (q : spelling.Prefix) → AriseIn zs s → spells_apart s.opened ≡ false → PartsBelow (parts_of (UrlOpen q)) s → Parted zs s q
parted zs s q a n l =
    let c = url_class_of a.byte in
    let r = a.arise in
    record {
      first = prefix_of_first a.byte;
      other = prefix_with_letter q a.byte;
      begins = ap (feed_bytes parts_feeding (parts_of UrlStart)) a.is ∙ r.first;
      goes = ap (feed_bytes parts_feeding (parts_of (UrlOpen q))) a.is ∙ r.goes q;
      apart = opens-apart s c a.byte q r n l;
    }

-- What two members show of bytes: any two paths that bear them are refused together there, or come apart before the first byte.
abbrev pub IsOpen : Reference → Type 0
IsOpen Closed = ⊥
IsOpen (Open f bytes) = Unit {0}

abbrev pub ClashesFrom : Scan → List ℕ → LexState ValueState → LexState ValueState → Code → ℕ → Type 0
ClashesFrom f bytes s t c i = ClashesInText bytes s t c i ⊎ (IsOpen (scan_reference f) × ApartNow bytes s t c i)

pub record ShownTwo (k : ℕ) (bytes : List ℕ) (f : Scan) (r : PathRefusal) (x y : Member) : Type 0 where
  pub behind : ℕ
  pub at : r.at ≡ k + behind
  pub one : ScanHas f x
  pub other : ScanHas f y
  pub clashes : (s t : LexState ValueState) (g h : Scan) → Stands s g f x → Stands t h f y → ClashesFrom f bytes s t r.code behind

-- in the reference that the first byte breaks
one-form : (x f : Form) (l bytes : List ℕ) → Open x l ≡ Open f bytes → x ≡ f
one-form x f l bytes h = cc

turn-is : (z : ReferenceStep) (v : ValuePlace) (t : Triple) (f : Form) (bytes : List ℕ) (c : Class) → z ≡ Breaks
    → scan_reference (read_turn z v t f bytes c) ≡ Closed
turn-is Breaks v t f bytes c e = (let xs = flushed true (is_equals_sign c) f bytes in url-reference (read_value v xs) (triple_behind t xs) Closed)
turn-is (Grows g) v t f bytes c e = cc
turn-is Closes v t f bytes c e = cc

turn-style-is : (z : ReferenceStep) (v : ValuePlace) (n : StyleScan) (f : Form) (bytes : List ℕ) (c : Class) → z ≡ Breaks
    → scan_reference (read_style z v n f bytes c) ≡ Closed
turn-style-is Breaks v n f bytes c e = style-scan-reference v (feed_bytes style_feeding n (flushed true (is_equals_sign c) f bytes)) Closed
turn-style-is (Grows g) v n f bytes c e = cc
turn-style-is Closes v n f bytes c e = cc

pub read-is : (g : Scan) (b : ℕ) (bs : List ℕ) (f : Form) (bytes : List ℕ) (s : Parts) → scan_parts g ≡ Some s
    → scan_reference g ≡ Open f bytes → turn (class_of b) f ≡ Breaks
    → scan_reference (scan_read g (b ∷ bs)) ≡ Closed
read-is (InUrl v t (Open x l)) b bs f bytes s i h k =
    turn-is (turn (class_of b) x) v t x l (class_of b) (ap (turn (class_of b)) (one-form x f l bytes h) ∙ k)
read-is (InUrl v t Closed) b bs f bytes s i h k = absurd (closed-open f bytes h)
read-is (InStyle v n (Open x l)) b bs f bytes s i h k =
    turn-style-is (turn (class_of b) x) v n x l (class_of b) (ap (turn (class_of b)) (one-form x f l bytes h) ∙ k)
read-is (InStyle v n Closed) b bs f bytes s i h k = absurd (closed-open f bytes h)
read-is (InStyleElement n x) b bs f bytes s i h k = absurd (closed-open f bytes h)
read-is (At p) b bs f bytes s i h k = absurd (closed-open f bytes h)
read-is _ b bs f bytes s i h k = absurd (closed-open f bytes h)

pub broken-bytes : (r : Reference) (b : ℕ) (f : Form) (bytes : List ℕ) → r ≡ Open f bytes → turn (class_of b) f ≡ Breaks
    → read_bytes r b ≡ flushed true (is_equals_sign (class_of b)) f bytes
broken-bytes r b f bytes h k = ap (λ (x : Reference). read_bytes x b) h ∙ ap (λ (z : ReferenceStep). turn_read z f bytes (class_of b)) k

pub two-read : (k b : ℕ) (bs : List ℕ) (f : Scan) (r : PathRefusal) (x : Form) (bytes : List ℕ) (s : Parts) → ScanValid f → scan_parts f ≡ Some s
    → scan_reference f ≡ Open x bytes → NoColon bytes → turn (class_of b) x ≡ Breaks → Takes f b → spells_apart s.opened ≡ false
    → ShownApart k (b ∷ bs) (scan_read f (b ∷ bs)) r → ShownTwo k (b ∷ bs) f r member.PartStart member.PartOpen
unfolding point parted
two-read k b bs f r x bytes s w i j plain e taken n d =
    let zs = flushed true (is_equals_sign (class_of b)) x bytes in
    let xs : read_bytes (scan_reference f) b ≡ zs = broken-bytes (scan_reference f) b x bytes j e in
    let p = point-at k (b ∷ bs) (scan_read f (b ∷ bs)) r d (read-is f b bs x bytes s i j e) in
    let stays = read-stays f b bs s i d.there in
    let z : spells_apart (feed_bytes parts_feeding s zs).opened ≡ true =
    sym (ap is_apart (read-parts f b bs s w i stays ∙ ap (λ (y : List ℕ). Some (feed_bytes parts_feeding s y)) xs)) ∙ d.there in
    let a = arise-in zs s (flushed-character (is_equals_sign (class_of b)) x bytes plain) n z in
    record {
      behind = p.0;
      at = p.1;
      one = parts-have f s member.PartStart i a.arise.start;
      other = parts-have f s member.PartOpen i (ap is_some a.arise.opened);
      clashes = λ v t g h y u.
          let hold = below-reference g f y.below ∙ j in
          let starts = is-start v g y.at y.has in
          let opens = is-open t h u.at u.has in
          let q = open-parts t h opens u.at in
          let m = parted zs s q.0 a n (opens-below h f s q.0 u.below q.1 i) in
          let own = point v g (b ∷ bs) (scan_read f (b ∷ bs)) m.first (starts-in v g x bytes starts y.at hold) y.at
          (read-taken g f b bs taken y.below)
          (read-parts g b bs (parts_of UrlStart) y.valid (start-parts v g starts y.at) (stays-below g f b s y.below i stays)
          ∙ ap (λ (l : List ℕ). Some (feed_bytes parts_feeding (parts_of UrlStart) l)) (broken-bytes (scan_reference g) b x bytes hold e) ∙ ap Some m.begins)
          (read-is g b bs x bytes (parts_of UrlStart) (start-parts v g starts y.at) hold e) (open-settled g x bytes hold) y.valid
          (read-below g f b bs w taken y.below) in
          let held = below-reference h f u.below ∙ j in
          let other = point t h (b ∷ bs) (scan_read f (b ∷ bs)) m.other (url-of t (begins-value t opens)) u.at (read-taken h f b bs taken u.below)
          (read-parts h b bs (parts_of (UrlOpen q.0)) u.valid q.1 (stays-below h f b s u.below i stays)
          ∙ ap (λ (l : List ℕ). Some (feed_bytes parts_feeding (parts_of (UrlOpen q.0)) l)) (broken-bytes (scan_reference h) b x bytes held e) ∙ ap Some m.goes)
          (read-is h b bs x bytes (parts_of (UrlOpen q.0)) q.1 held e) (open-settled h x bytes held) u.valid
          (read-below h f b bs w taken u.below) in
          inr (subst IsOpen (sym j) tt, apart-now (b ∷ bs) k p.0 (scan_read f (b ∷ bs)) r v t d p.1 own other m.apart);
    }

-- behind the first byte
abbrev pub is_nothing : List ℕ → Bool
is_nothing [] = true
is_nothing (x ∷ xs) = false

turned-character : (z : ReferenceStep) (f : Form) (bytes : List ℕ) (c : Class) (b : ℕ) → (z ≡ Breaks → ⊥) → IsCharacter (turn_bytes true z f bytes c b)
turned-character (Grows g) f bytes c b n = nothing refl
turned-character Closes f bytes c b n = utf8-character (meaning f bytes)
turned-character Breaks f bytes c b n = absurd (n refl)

undone-character : (r : Reference) (b : ℕ) → NotBroken r b → IsCharacter (undone_byte true r (class_of b) b)
undone-character Closed b n = plain-character (class_of b) b
undone-character (Open f bytes) b n = turned-character (turn (class_of b) f) f bytes (class_of b) b n

pub fed-or : (q : Quotes) (r : Reference) (c : Class) (b : ℕ) → (fed_in q r c b ≡ []) ⊎ (fed_in q r c b ≡ undone_byte true r c b)
fed-or quotes.Dq r c b = inr refl
fed-or quotes.Sq r c b = inr refl
fed-or (quotes.Bare s) r White b = inl refl
fed-or (quotes.Bare s) r QuotationMark b = inl refl
fed-or (quotes.Bare s) r Apostrophe b = inl refl
fed-or (quotes.Bare s) r _ b = inr refl

fed-character : (q : Quotes) (r : Reference) (b : ℕ) → NotBroken r b → IsCharacter (fed_in q r (class_of b) b)
fed-character q r b n = ⊎_elim (λ e. nothing e) (λ e. subst IsCharacter (sym e) (undone-character r b n)) (fed-or q r (class_of b) b)

-- a byte that is fed leaves no reference open
pub plain-closed : (c : Class) (b : ℕ) → is_nothing (undone_byte true Closed c b) ≡ false → begin_reference c ≡ Closed
plain-closed Ampersand b h = absurd (no (sym h))
plain-closed _ b h = refl

turned-closed : (z : ReferenceStep) (f : Form) (bytes : List ℕ) (c : Class) (b : ℕ) → (z ≡ Breaks → ⊥) → is_nothing (turn_bytes true z f bytes c b) ≡ false
    → reference_turned z bytes c b ≡ Closed
turned-closed (Grows g) f bytes c b n h = absurd (no (sym h))
turned-closed Closes f bytes c b n h = refl
turned-closed Breaks f bytes c b n h = absurd (n refl)

undone-closed : (r : Reference) (b : ℕ) → NotBroken r b → is_nothing (undone_byte true r (class_of b) b) ≡ false → next_reference r (class_of b) b ≡ Closed
undone-closed Closed b n h = plain-closed (class_of b) b h
undone-closed (Open f bytes) b n h = turned-closed (turn (class_of b) f) f bytes (class_of b) b n h

fed-undone : (q : Quotes) (r : Reference) (c : Class) (b : ℕ) → is_nothing (fed_in q r c b) ≡ false → is_nothing (undone_byte true r c b) ≡ false
fed-undone q r c b h = ⊎_elim (λ e. absurd (no (sym h ∙ ap is_nothing e))) (λ e. sym (ap is_nothing e) ∙ h) (fed-or q r c b)

fed-closed : (q : Quotes) (r : Reference) (b : ℕ) (g : Scan) → Holds g r (class_of b) b → NotBroken r b
    → is_nothing (fed_in q r (class_of b) b) ≡ false
    → scan_reference g ≡ Closed
fed-closed q r b g k n h = ⊎_elim (λ e. e) (λ e. e ∙ undone-closed r b n (fed-undone q r (class_of b) b h)) k

-- Where paths come apart in the bytes that are fed at a byte, there is one of them, and behind it no reference is open and nothing is
-- pending back.
pub record ScanArises (f : Scan) (b : ℕ) (s : Parts) : Type 0 where
  pub arises : AriseIn (scan_fed f (class_of b) b) s
  pub closed : scan_reference (scan_next f (class_of b) b) ≡ Closed
  pub settled : scan_pending (scan_next f (class_of b) b) ≡ Nothing

character-arises : (f : Scan) (b : ℕ) (s : Parts) → IsCharacter (scan_fed f (class_of b) b)
    → (is_nothing (scan_fed f (class_of b) b) ≡ false → scan_reference (scan_next f (class_of b) b) ≡ Closed)
    → scan_pending (scan_next f (class_of b) b) ≡ Nothing → spells_apart s.opened ≡ false
    → spells_apart (feed_bytes parts_feeding s (scan_fed f (class_of b) b)).opened ≡ true → ScanArises f b s
character-arises f b s a closes settled n d =
    let x = arise-in (scan_fed f (class_of b) b) s a n d in record { arises = x; closed = closes (ap is_nothing x.is); settled = settled }

pub scan-arises : (f : Scan) (b : ℕ) (s : Parts) → scan_parts f ≡ Some s → NotBroken (scan_reference f) b → spells_apart s.opened ≡ false
    → spells_apart (feed_bytes parts_feeding s (scan_fed f (class_of b) b)).opened ≡ true → ScanArises f b s
scan-arises (At (place.Value v)) b s i m n d =
    let f = At (place.Value v) in
    character-arises f b s (fed-character v.quotes Closed b m)
    (λ h. fed-closed v.quotes Closed b (scan_next f (class_of b) b) (next-holds f (class_of b) b) m h)
    (value-settled v NoTriple Closed (class_of b) b) n d
scan-arises (InUrl v t r) b s i m n d =
    let f = InUrl v t r in
    character-arises f b s (fed-character v.quotes r b m)
    (λ h. fed-closed v.quotes r b (scan_next f (class_of b) b) (next-holds f (class_of b) b) m h) (value-settled v t r (class_of b) b) n d
scan-arises (InStyle v x r) b s i m n d =
    let f = InStyle v x r in
    character-arises f b s (fed-character v.quotes r b m)
    (λ h. fed-closed v.quotes r b (scan_next f (class_of b) b) (next-holds f (class_of b) b) m h)
    (style-value-settled v x r (class_of b) b) n d
scan-arises (At (place.Style p)) b s i m n d =
    let x = element-arises (style_scan_start p) Nothing (class_of b) b s n d in
    record { arises = x.arises; closed = element-closed (style_scan_start p) Nothing (class_of b) b; settled = x.settled }
scan-arises (InStyleElement y h) b s i m n d =
    let x = element-arises y h (class_of b) b s n d in
    record { arises = x.arises; closed = element-closed y h (class_of b) b; settled = x.settled }
scan-arises (At _) b s i m n d = absurd (none_some s i)
scan-arises _ b s i m n d = absurd (none_some s i)

-- a path behind the byte
behind-point : (v : LexState ValueState) (g f : Scan) (b : ℕ) (bs : List ℕ) (x : Parts) (p : spelling.Prefix) → ScanValid g → ScanValid f → ScanBelow g f
    → scanned v ≡ Some g
    → scan_error f (class_of b) b ≡ None → scan_reference (scan_next f (class_of b) b) ≡ Closed
    → scan_pending (scan_next f (class_of b) b) ≡ Nothing
    → is_apart (scan_parts (scan_next f (class_of b) b)) ≡ true
    → scan_parts (scan_read g (b ∷ bs)) ≡ Some x → feed_bytes parts_feeding x (scan_fed (scan_read g (b ∷ bs)) (class_of b) b) ≡ parts_of (UrlOpen p)
    → (q : Point (next languages Template v (class_of b) b) bs (scan_next f (class_of b) b)) × (q.spelled ≡ p)
unfolding point
behind-point v g f b bs x p vg vf l e n held settled apart i j =
    let c = class_of b in
    let m = scan-grows g f c b refl vg l n in
    let a = agrees-at v g b e in
    let at = a.steps m.0 in
    let ro = read-on g b bs vg m.0 in
    let d = apart-in (scan_parts (scan_next f c b)) apart in
    let z = below-parts (scan_next g c b) (scan_next f c b) d.parts m.1 d.is in
    let rf = read-on f b bs vf n in
    let met = ap (λ (k : Scan). has_met k) rf.next ∙ met-there (scan_next f c b) apart in
    let y = below-goes (scan_read g (b ∷ bs)) (scan_read f (b ∷ bs)) x z.0 c b (read-valid g (b ∷ bs) vg) (read-valid f (b ∷ bs) vf)
    (read-below g f b bs vf (takes f b vf n) l) i rf.error met (ap scan_parts ro.next ∙ z.1) in
    let parts : scan_parts (scan_next g c b) ≡ Some (parts_of (UrlOpen p)) = ap scan_parts (sym ro.next) ∙ y ∙ ap Some j in
    let closed = below-reference (scan_next g c b) (scan_next f c b) m.1 ∙ held in
    let quiet = below-pending (scan_next g c b) (scan_next f c b) m.1 ∙ settled in
    let same = read-closed (scan_next g c b) bs closed in
    let u = url-of (next languages Template v c b) (begins-value (next languages Template v c b)
    (is-open (next languages Template v c b) (scan_next g c b) at (parts-have (scan_next g c b) (parts_of (UrlOpen p)) member.PartOpen parts refl))) in (
      point (next languages Template v c b) (scan_next g c b) bs (scan_next f c b) p u at (closed-taken (scan_next g c b) bs closed)
          (ap scan_parts same ∙ parts) (ap scan_reference same ∙ closed) quiet
          (scan-valid g c b vg m.0) (subst (λ (y : Scan). ScanBelow y (scan_next f c b)) (sym same) m.1),
      refl {a = p},
    )

fed-as : (s : Parts) (xs ys : List ℕ) (t : Parts) → xs ≡ ys → feed_bytes parts_feeding s ys ≡ t → feed_bytes parts_feeding s xs ≡ t
fed-as s xs ys t e h = ap (feed_bytes parts_feeding s) e ∙ h

spelled-apart : (p q a d : spelling.Prefix) → p ≡ a → q ≡ d → spell_apart (placed_prefix a) (placed_prefix d) ≡ true
    → spell_apart (placed_prefix p) (placed_prefix q) ≡ true
spelled-apart p q a d e i h = rw (e, i) h

pub two-next : (k b : ℕ) (bs : List ℕ) (f : Scan) (r : PathRefusal) (s y : Parts) → ScanValid f → scan_parts f ≡ Some s → scan_error f (class_of b) b ≡ None
    → scan_parts (scan_read f (b ∷ bs)) ≡ Some y → spells_apart y.opened ≡ false
    → ShownApart (k + 1) bs (scan_next f (class_of b) b) r → ShownTwo k (b ∷ bs) f r member.PartStart member.PartOpen
two-next k b bs f r s y w i n j notyet d =
    let c = class_of b in
    let over = scan_read f (b ∷ bs) in
    let ro = read-on f b bs w n in
    let x = apart-in (scan_parts (scan_next f c b)) d.there in
    let zs = scan_fed over c b in
    let p = goes-parts over y x.parts c b (read-valid f (b ∷ bs) w) j (ap scan_parts ro.next ∙ x.is) x.apart in
    let came : spells_apart (feed_bytes parts_feeding y zs).opened ≡ true = sym (ap is_apart (sym (ap scan_parts ro.next) ∙ p)) ∙ d.there in
    let arises = scan-arises over b y j (not-broken f b bs y j) notyet came in
    let a = arises.arises in
    let held : scan_reference (scan_next f c b) ≡ Closed = ap scan_reference (sym ro.next) ∙ arises.closed in
    let settled : scan_pending (scan_next f c b) ≡ Nothing = ap scan_pending (sym ro.next) ∙ arises.settled in
    let at = point-at (k + 1) bs (scan_next f c b) r d held in
    let xs = read_bytes (scan_reference f) b in
    let stays = next-stays f b s w i (met-there (scan_next f c b) d.there) in
    let fed : feed_bytes parts_feeding s xs ≡ y = one_value (feed_bytes parts_feeding s xs) y (sym (read-parts f b bs s w i stays) ∙ j) in
    let wait = waits xs s (ap (λ (o : Parts). o.start) fed ∙ a.arise.start) in
    let place = at.1 in
    record {
      behind = suc at.0;
      at = omega (arith, place);
      one = parts-have f s member.PartStart i wait.start;
      other = parts-have f s member.PartOpen i (wait.opened (ap (λ (o : Parts). is_some o.opened) fed ∙ ap is_some a.arise.opened));
      clashes = λ v t g h m u.
          let starts = is-start v g m.at m.has in
          let q = open-parts t h (is-open t h u.at u.has) u.at in
          let wend = wait.goes q.0 in
          let same = below-reference g f m.below in
          let held-by = below-reference h f u.below in
          let own : scan_parts (scan_read g (b ∷ bs)) ≡ Some (parts_of UrlStart) =
          read-parts g b bs (parts_of UrlStart) m.valid (start-parts v g starts m.at) (stays-below g f b s m.below i stays)
          ∙ ap (λ (l : Reference). Some (feed_bytes parts_feeding (parts_of UrlStart) (read_bytes l b))) same ∙ ap Some wait.first in
          let other : scan_parts (scan_read h (b ∷ bs)) ≡ Some (parts_of (UrlOpen wend.0)) =
          read-parts h b bs (parts_of (UrlOpen q.0)) u.valid q.1 (stays-below h f b s u.below i stays)
          ∙ ap (λ (l : Reference). Some (feed_bytes parts_feeding (parts_of (UrlOpen q.0)) (read_bytes l b))) held-by ∙ ap Some wend.1 in
          let taken = takes f b w n in
          let lower = read-below g f b bs w taken m.below in
          let lower-by = read-below h f b bs w taken u.below in
          let z = parted zs y wend.0 a notyet (opens-below (scan_read h (b ∷ bs)) over y wend.0 lower-by other j) in
          let one = behind-point v g f b bs (parts_of UrlStart) z.first m.valid w m.below m.at n held settled d.there own
          (fed-as (parts_of UrlStart) (scan_fed (scan_read g (b ∷ bs)) c b) zs (parts_of (UrlOpen z.first))
          (fed-same (scan_read g (b ∷ bs)) over y c b lower j) z.begins) in
          let two = behind-point t h f b bs (parts_of (UrlOpen wend.0)) z.other u.valid w u.below u.at n held settled d.there other
          (fed-as (parts_of (UrlOpen wend.0)) (scan_fed (scan_read h (b ∷ bs)) c b) zs (parts_of (UrlOpen z.other))
          (fed-same (scan_read h (b ∷ bs)) over y c b lower-by j) z.goes) in
          let differ = spelled-apart one.0.spelled two.0.spelled z.first z.other one.1 two.1 z.apart in
          let ag = agrees-at v g b m.at in
          let ah = agrees-at t h b u.at in
          inl (
            ag.errors ∙ (scan-grows g f c b refl m.valid m.below n).0,
            ah.errors ∙ (scan-grows h f c b refl u.valid u.below n).0,
            inl (apart-now bs (k + 1) at.0 (scan_next f c b) r (next languages Template v c b) (next languages Template t c b) d at.1 one.0 two.0 differ),
          );
    }

-- before a byte behind which they are apart and before which they are not
turn-cases : (z : ReferenceStep) (f : Form) (bytes : List ℕ) (c : Class) → (turn_read z f bytes c ≡ []) ⊎ (z ≡ Breaks)
turn-cases Breaks f bytes c = inr refl
turn-cases (Grows g) f bytes c = inl refl
turn-cases Closes f bytes c = inl refl

not-here : (b : ℕ) (bs : List ℕ) (f : Scan) (s : Parts) → ScanValid f → scan_parts f ≡ Some s → spells_apart s.opened ≡ false
    → read_bytes (scan_reference f) b ≡ [] → is_apart (scan_parts (scan_read f (b ∷ bs))) ≡ true → ⊥
not-here b bs f s w i m e a =
    no (sym (ap is_apart (read-parts f b bs s w i (read-stays f b bs s i a) ∙ ap (λ (l : List ℕ). Some (feed_bytes parts_feeding s l)) e) ∙ m) ∙ a)

two-broken : (k b : ℕ) (bs : List ℕ) (f : Scan) (r : PathRefusal) (s : Parts) (x : Reference) → ScanValid f → ScanPlain f → scan_parts f ≡ Some s
    → spells_apart s.opened ≡ false → scan_error f (class_of b) b ≡ None → scan_reference f ≡ x
    → ShownApart k (b ∷ bs) (scan_read f (b ∷ bs)) r → ShownTwo k (b ∷ bs) f r member.PartStart member.PartOpen
two-broken k b bs f r s Closed w plain i m n h d = absurd (not-here b bs f s w i m (ap (λ (x : Reference). read_bytes x b) h) d.there)
two-broken k b bs f r s (Open x bytes) w plain i m n h d =
    ⊎_elim (λ e. absurd (not-here b bs f s w i m (ap (λ (y : Reference). read_bytes y b) h ∙ e) d.there))
    (λ e. two-read k b bs f r x bytes s w i h (subst ReferencePlain h plain) e (takes f b w n) m d)
    (turn-cases (turn (class_of b) x) x bytes (class_of b))

two-cases : (k b : ℕ) (bs : List ℕ) (f : Scan) (r : PathRefusal) (s : Parts) (o : Option Parts) (x : Bool) → ScanValid f → ScanPlain f → scan_parts f ≡ Some s
    → spells_apart s.opened ≡ false → scan_error f (class_of b) b ≡ None → scan_parts (scan_read f (b ∷ bs)) ≡ o → is_apart o ≡ x
    → ShownApart (k + 1) bs (scan_next f (class_of b) b) r → ShownTwo k (b ∷ bs) f r member.PartStart member.PartOpen
two-cases k b bs f r s None x w plain i m n j a d =
    let stays = next-stays f b s w i (met-there (scan_next f (class_of b) b) d.there) in
    absurd (none_some (feed_bytes parts_feeding s (read_bytes (scan_reference f) b)) (sym j ∙ read-parts f b bs s w i stays))
two-cases k b bs f r s (Some y) false w plain i m n j a d = two-next k b bs f r s y w i n j a d
two-cases k b bs f r s (Some y) true w plain i m n j a d =
    let ro = read-on f b bs w n in
    let kept = kept-apart k b bs (scan_read f (b ∷ bs)) r (read-valid f (b ∷ bs) w) ro.error
    (subst (λ (g : Scan). ShownApart (k + 1) bs g r) (sym ro.next) d) (ap is_apart j ∙ a) in
    two-broken k b bs f r s (scan_reference f) w plain i m n refl kept

pub earlier-two : (k b : ℕ) (bs : List ℕ) (f : Scan) (r : PathRefusal) → ScanValid f → ScanPlain f → scan_error f (class_of b) b ≡ None
    → ShownApart (k + 1) bs (scan_next f (class_of b) b) r → is_apart (scan_parts f) ≡ false → ShownTwo k (b ∷ bs) f r member.PartStart member.PartOpen
earlier-two k b bs f r w plain n d a =
    let s = before-apart f (class_of b) b (scan_parts f) w refl n d.there in
    two-cases k b bs f r s.0 (scan_parts (scan_read f (b ∷ bs))) (is_apart (scan_parts (scan_read f (b ∷ bs)))) w plain s.1
    (sym (ap is_apart s.1) ∙ a) n refl refl d
