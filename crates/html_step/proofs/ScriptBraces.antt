-- A path on which it is not known what a slash would be, among paths that differ in that: what the others are not refused it is not, as long as they
-- differ; so that those that show a refusal do so before the bytes.
use Rattle.std.proofs.Common.{◌≡◌, ℕ, ◌+◌, ◌-◌, Bool, true, false, ◌&&◌, List, [], ◌∷◌, ◌++◌, length, Option, Some, None, Err, if◌then◌else◌, refl, sym, ap, ◌∙◌, subst}
use Rattle.std.specs.Prelude.{encode_utf8, codes}
use Rattle.js_step.specs.ScriptOrigins.{script_set_has}
use Rattle.js_step.specs.ScriptScanOrder.{ScriptScanBelow}
use Rattle.js_step.specs.ScriptScans.{ScriptScan, script_scan_start, script_senses_differ}
use Rattle.js_step.proofs.ScriptClash.{scripts-clash}
use Rattle.place_core.specs.page.Classes.{Class, White, QuotationMark, Apostrophe, GreaterThan, LessThan, EqualsSign, GraveAccent, class_of, is_equals_sign, Solidus, Letter, ExclamationMark, HyphenMinus}
use Rattle.place_core.specs.page.Comments.{Declaration, OpensComment, OpensDoctype, Undecided, OpensNothing, closes_comment, next_comment, declared_by}
use Rattle.place_core.specs.page.Html.{ends_value}
use Rattle.place_core.specs.page.References.{Form, Reference, Closed, Open, ReferenceStep, Grows, Closes, Breaks, flushed, meaning, next_reference, plain_bytes, turn, turn_bytes, undone_byte}
use Rattle.place_core.specs.page.Tags.{feed_bytes, Unquoted, Quoting, Value, ValueState, element_on, tag_of_name}
use Rattle.place_core.specs.place.Errors.{FedByte, PathCause, PathRefusal, TextRead, at_hand, bare_error, body_error, deep_at, fed_places, first_byte_error, first_cause, first_places, is_written, language_error, placed_bytes, places_with, quotes_error, turned_places, value_end_cause, value_error, fed_error, first_error, or_deep}
use Rattle.place_core.specs.place.Places.{joined_quotes, IsValidBody}
use Rattle.place_core.specs.declared.bare.Bare.{Bare}
use Rattle.place_core.specs.declared.body.Body.{Body}
use Rattle.place_core.specs.declared.body.Body.TheVariants as body
use Rattle.place_core.specs.declared.code.Code.{Code}
use Rattle.place_core.specs.declared.css.Css.{Css}
use Rattle.place_core.specs.declared.element.Element.{Element}
use Rattle.place_core.specs.declared.element.Element.TheVariants as element
use Rattle.place_core.specs.declared.js.Js.{Js}
use Rattle.place_core.specs.declared.kind.Kind.{Kind}
use Rattle.place_core.specs.declared.kind.Kind.TheVariants as kind
use Rattle.place_core.specs.declared.member.Member.{Member}
use Rattle.place_core.specs.declared.member.Member.TheVariants as member
use Rattle.place_core.specs.declared.parts.Parts.{Parts}
use Rattle.place_core.specs.declared.place.Place.TheVariants as place
use Rattle.place_core.specs.declared.quotes.Quotes.{Quotes}
use Rattle.place_core.specs.declared.quotes.Quotes.TheVariants as quotes
use Rattle.place_core.specs.declared.tag_of.TagOf.{TagOf}
use Rattle.place_core.specs.declared.tag_of.TagOf.TheVariants as tag
use Rattle.place_core.specs.declared.tag_place.TagPlace.{TagPlace}
use Rattle.place_core.specs.declared.value_place.ValuePlace.{ValuePlace}
use Rattle.place_core.proofs.Semilattices.{none_some}
use Rattle.html_scan.specs.Scans.{Scan, At, InScript, InScriptElement, all_scripts, bare_begun, bare_white, content_scan, ends_quoted, quoted_error, quoted_places, quotes_lead, scan_error, scan_next, scan_script_refusal, script_cause, script_fed_next, script_feeding, script_step_deep, script_step_refusal, value_between, AfterLess, AfterLessSolidus, InDeclaration, InTagName, InAttributeName, InUrl, InStyle, InStyleElement, InCommentEnd, InContentEnd, BeforeType, InType, after_type, attribute_name_next, bang_next, before_type_next, begun_script_deep, begun_script_fed, begun_script_refusal, body_cause, comment_closed, comment_next, comment_scan, comment_state, content_end_next, content_next, declaration_next, doctype_next, element_less_next, element_name_next, element_next, element_pending_next, empty_script_between, empty_style_between, end_name_next, ended_type, less_next, parts_feeding, pending_less_next, rest_place, solidus_next, style_fed, style_feeding, style_scan, style_value_next, tag_name_next, tag_next, text_scan, triple_behind, type_begun, type_next, type_tag, url_scan, value_cause, value_fed, value_next, value_scan, with_parts, with_style}
use Rattle.place_core.specs.page.Contents.{is_name_of, may_be_name_of}
use Rattle.place_core.specs.page.States.{CommentState, Inside, Broken, Pending, Nothing, PendingLess, LessAtCut, PendingName, PendingBang, PendingBangDash, PendingOpening}
use Rattle.css_lexer.specs.Classes.{style_class}
use Rattle.css_step.specs.StyleScans.{StyleScan, is_style_start, style_scan_next, style_scan_place, style_scan_start}
use Rattle.url_lexer.specs.Triples.{Triple, NoTriple, AfterPercent, AfterDigit}
use Rattle.place_core.specs.page.Words.{kind_of}
use Rattle.js_step.specs.ScriptEvidence.{script_with_brace, ScriptSensesFit}
use Rattle.place_core.specs.place.LastLexeme.{last_lexeme_start}
use Rattle.js_step.specs.ScriptValidity.{IsScriptScan}
use Rattle.html_step.proofs.ScriptOrder.{script-start-valid}
use Rattle.html_step.proofs.StylePaths.{empty_css}
use Rattle.html_step.proofs.PlaceParts.{Under}
use Rattle.html_step.specs.Origins.{byte_origin, bytes_of_places, script_value_ends, script_origin, script_shown, script_step_shows, begun_script_shows, body_origin, fed_in, in_body_origin, in_value_origin}
use Rattle.html_step.specs.Steps.{scan_read_behind, stepped}
use Rattle.html_step.proofs.FedAlike.{first-caused}
use Rattle.html_step.proofs.PathScans.{none-at-hand}
use Rattle.html_step.proofs.RefusedColons.{refused-later}
use Rattle.html_step.proofs.ScanOrder.{HasBegun, ScanHas, ScanValid, bare-parts, first-none, UrlWithin}
use Rattle.html_step.proofs.ScriptAlike.{alike-quoted, fit-fed, same-quoted-bytes, takes-value, value-takes}
use Rattle.html_step.proofs.ScriptElementBraces.{brace-fed, div-too, element-goes-fit, element-slash, second-true, start-goes-fit, start-slash}
use Rattle.html_step.proofs.ScriptEnds.{bytes-both, bytes-placed, begun-none}
use Rattle.html_step.proofs.ScriptFrom.{TakesScript, itself-origin, script-fed-taken}
use Rattle.html_step.proofs.ScriptQuiet.{both-alike, in-quiet, no_end, quiet-told, taken-error}
use Rattle.html_step.proofs.SlashCodes.{FedFits, fits-behind, starts-fit}
use Rattle.html_step.proofs.ScriptTold.{BraceBelow, FedBefore, ShownSlash, brace-same, brace_in, scan_differs, script_differs, value-errors, body_differs, brace_at, ScanFits}
use Rattle.html_step.proofs.ScriptValues.{in-set, place-has}

no : false ≡ true → ⊥
no e = cc

given : {A : Type 0} (a : A) → Some a ≡ None → ⊥
given a e = cc

-- A byte that goes on with a value that has begun, in its quotes.
abbrev OrdinaryBare : Class → Type 0
OrdinaryBare White = ⊥
OrdinaryBare QuotationMark = ⊥
OrdinaryBare Apostrophe = ⊥
OrdinaryBare GreaterThan = ⊥
OrdinaryBare c = Unit {0}

abbrev OrdinaryDouble : Class → Type 0
OrdinaryDouble QuotationMark = ⊥
OrdinaryDouble c = Unit {0}

abbrev OrdinarySingle : Class → Type 0
OrdinarySingle Apostrophe = ⊥
OrdinarySingle c = Unit {0}

abbrev pub Ordinary : Quotes → Class → Type 0
Ordinary quotes.Dq c = OrdinaryDouble c
Ordinary quotes.Sq c = OrdinarySingle c
Ordinary (quotes.Bare x) c = OrdinaryBare c

abbrev pub UqBegun : Quotes → Type 0
UqBegun quotes.Dq = Unit {0}
UqBegun quotes.Sq = Unit {0}
UqBegun (quotes.Bare x) = x.uq ≡ true

abbrev pub open_quotes : Quotes → Quotes
open_quotes (quotes.Bare x) = bare_begun
open_quotes q = q

if-refused : (x : Bool) (e : Code) → x ≡ true → (if x then Some e else None) ≡ None → ⊥
if-refused true e h n = given e n
if-refused false e h n = no h

content-not : (t : TagOf) → scan_differs (content_scan t) ≡ true → ⊥
content-not tag.End h = no h
content-not (tag.Start element.Other) h = no h
content-not (tag.Start element.Title) h = no h
content-not (tag.Start element.Textarea) h = no h
content-not (tag.Start element.Style) h = no h
content-not (tag.Start element.Script) h = no h
content-not (tag.Start element.DataBlock) h = no h

ordinary : (v : ValuePlace) (q : Quotes) (c : Class) (F : Quotes → Scan) → UqBegun q → quotes_error v.tag q c ≡ None
    → scan_differs (quotes_lead v q c F) ≡ true → Ordinary q c
ordinary v quotes.Dq QuotationMark F u e d = absurd (no d)
ordinary v quotes.Dq c F u e d = tt
ordinary v quotes.Sq Apostrophe F u e d = absurd (no d)
ordinary v quotes.Sq c F u e d = tt
ordinary v (quotes.Bare x) White F u e d = absurd (no (sym (ap (λ (z : Bool). scan_differs (bare_white v z)) u) ∙ d))
ordinary v (quotes.Bare x) QuotationMark F u e d = absurd (if-refused x.uq _ u e)
ordinary v (quotes.Bare x) Apostrophe F u e d = absurd (if-refused x.uq _ u e)
ordinary v (quotes.Bare x) GreaterThan F u e d = absurd (content-not v.tag d)
ordinary v (quotes.Bare x) c F u e d = tt

lead-bare : (x : Bare) (c : Class) → OrdinaryBare c → (v : ValuePlace) (F : Quotes → Scan) → quotes_lead v (quotes.Bare x) c F ≡ F bare_begun
lead-bare x White o v F = absurd o
lead-bare x QuotationMark o v F = absurd o
lead-bare x Apostrophe o v F = absurd o
lead-bare x GreaterThan o v F = absurd o
lead-bare x c o v F = refl

lead : (q : Quotes) (c : Class) → Ordinary q c → (v : ValuePlace) (F : Quotes → Scan) → quotes_lead v q c F ≡ F (open_quotes q)
lead quotes.Dq QuotationMark o v F = absurd o
lead quotes.Dq c o v F = refl
lead quotes.Sq Apostrophe o v F = absurd o
lead quotes.Sq c o v F = refl
lead (quotes.Bare x) c o v F = lead-bare x c o v F

stays-bare : (c : Class) → OrdinaryBare c → ends_value Unquoted c ≡ false
stays-bare White o = absurd o
stays-bare QuotationMark o = absurd o
stays-bare Apostrophe o = absurd o
stays-bare GreaterThan o = absurd o
stays-bare c o = refl

if-uq : (x y : Bool) → x ≡ true → y ≡ false → (x && y) ≡ false
if-uq true y h e = e
if-uq false y h e = refl

stays : (q : Quotes) (c : Class) → Ordinary q c → UqBegun q → ends_quoted q c ≡ false
stays quotes.Dq QuotationMark o u = absurd o
stays quotes.Dq c o u = refl
stays quotes.Sq Apostrophe o u = absurd o
stays quotes.Sq c o u = refl
stays (quotes.Bare x) c o u = if-uq x.uq (ends_value Unquoted c) u (stays-bare c o)

fed-as : (q : Quotes) (c : Class) → Ordinary q c → UqBegun q → (k : ℕ) (r : Reference) (b : ℕ) → quoted_places q k r c b ≡ fed_places false k r c b
fed-as quotes.Dq QuotationMark o u k r b = absurd o
fed-as quotes.Dq c o u k r b = refl
fed-as quotes.Sq Apostrophe o u k r b = absurd o
fed-as quotes.Sq c o u k r b = refl
fed-as (quotes.Bare x) c o u k r b =
    ap (λ (z : Bool). if z then fed_places (ends_value Unquoted c) k r c b else first_places k c b) u ∙ ap (λ (z : Bool). fed_places z k r c b) (stays-bare c o)

-- the bytes that are fed, with references undone
turned-fed : (x : ReferenceStep) (f : Form) (bytes : List ℕ) (c : Class) (b : ℕ) → bytes_of_places (turned_places 0 x f bytes c b) ≡ turn_bytes true x f bytes c b
turned-fed (Grows g) f bytes c b = refl
turned-fed Closes f bytes c b = bytes-placed false (0 - (length bytes + 1)) (encode_utf8 (meaning f bytes))
turned-fed Breaks f bytes c b =
    let xs = flushed true (is_equals_sign c) f bytes in
    let w = is_written (is_equals_sign c) f bytes in
    bytes-both (placed_bytes w (0 - (length bytes + 1)) xs) (placed_bytes false 0 (plain_bytes c b))
    ∙ ap (λ (zs : List ℕ). zs ++ bytes_of_places (placed_bytes false 0 (plain_bytes c b))) (bytes-placed w (0 - (length bytes + 1)) xs)
    ∙ ap (λ (zs : List ℕ). xs ++ zs) (bytes-placed false 0 (plain_bytes c b))

undone-fed : (r : Reference) (c : Class) (b : ℕ) → bytes_of_places (fed_places false 0 r c b) ≡ undone_byte true r c b
undone-fed Closed c b = bytes-placed false 0 (plain_bytes c b)
undone-fed (Open f bytes) c b = turned-fed (turn c f) f bytes c b

quoted-undone : (q : Quotes) (c : Class) → Ordinary q c → UqBegun q → (r : Reference) (b : ℕ) → bytes_of_places (quoted_places q 0 r c b) ≡ undone_byte true r c b
quoted-undone q c o u r b = ap bytes_of_places (fed-as q c o u 0 r b) ∙ undone-fed r c b

begun-uq : (q : Quotes) → HasBegun q → UqBegun q
begun-uq quotes.Dq h = tt
begun-uq quotes.Sq h = tt
begun-uq (quotes.Bare x) h = h.0

-- Within a value.
deep-none : (q : Quotes) (k : ℕ) (places : List ℕ) (n : ScriptScan) (r : Reference) (c : Class) (b : ℕ) → ends_quoted q c ≡ false
    → script_step_deep q k places n r c b ≡ None
deep-none q k places n r c b e =
    ap (λ (x : Bool). deep_at (k ∷ places_with (quoted_places q k r c b) places) (value_end_cause all_scripts x (Rattle.place_core.specs.place.Errors.script_fed all_scripts n (quoted_places q k r c b)))) e

abbrev read_of : ℕ → TextRead → Class → ℕ → List ℕ → Option ℕ → TextRead
read_of k since c b fed deep = record { last = last_lexeme_start k since.last Closed c b; fed = fed; deep = or_deep since.deep deep }

read-same : (k : ℕ) (since : TextRead) (c : Class) (b : ℕ) (x y : List ℕ) (o p : Option ℕ) → x ≡ y → o ≡ p → read_of k since c b x o ≡ read_of k since c b y p
read-same k since c b x y o p e h = ap (λ (w : List ℕ). read_of k since c b w o) e ∙ ap (read_of k since c b y) h

pub in-slash : (k : ℕ) (since : TextRead) (b : ℕ) (bs : List ℕ) (v : ValuePlace) (m : ScriptScan) (r : Reference) (z : PathRefusal) (x y : Member)
    → ScanValid (InScript v m r) → ScriptSensesFit m → script_step_shows v.quotes m r (class_of b) b ≡ None → script_cause v m r (class_of b) b ≡ None
    → ShownSlash (k + 1) (scan_read_behind k since (InScript v m r) (class_of b) b) bs (scan_next (InScript v m r) (class_of b) b) z x y
    → ShownSlash k since (b ∷ bs) (InScript v m r) z (byte_origin (InScript v m r) (class_of b) b x) (byte_origin (InScript v m r) (class_of b) b y)
in-slash k since b bs v m r z x y w fit q none d =
    let c = class_of b in
    let f = InScript v m r in
    let F : Quotes → Scan = λ p. script_fed_next (value_between v p) m r c b in
    let causes = first-caused (quoted_error script_feeding v.quotes m r c b) (at_hand (value_error v c)) none in
    let errors = first-none (body_error v.body) (quotes_error v.tag v.quotes c) (none-at-hand (value_error v c) causes.1) in
    let u = begun-uq v.quotes w.0 in
    let o = ordinary v v.quotes c F u errors.1 d.differ in
    let bytes = undone_byte true r c b in
    let p = open_quotes v.quotes in
    let next : scan_next f c b ≡ F p = lead v.quotes c o v F in
    let fed = bytes_of_places (quoted_places v.quotes 0 r c b) in
    let same : fed ≡ bytes = quoted-undone v.quotes c o u r b in
    let told = quiet-told v.quotes r c b m q in
    let taken : TakesScript bytes m = subst (λ (xs : List ℕ). TakesScript xs m) same told.0 in
    let s = brace-fed false bytes m w.2 fit (value-takes bytes m taken) (sym (ap scan_differs next) ∙ d.differ) in
    let div = div-too m s.differs in
    let re = second-true (script_senses_differ m.senses) (script_set_has m member.SenseRe) s.differs in
    let first = ap (byte_origin f c b) d.first ∙ itself-origin m member.SenseDiv div in
    let second = ap (byte_origin f c b) d.second ∙ itself-origin m member.SenseRe re in
    record {
      first = first;
      second = second;
      one = subst (λ (g : Member). ScanHas f g) (sym first) (in-set v.typed v.quotes m member.SenseDiv div);
      other = subst (λ (g : Member). ScanHas f g) (sym second) (in-set v.typed v.quotes m member.SenseRe re);
      differ = s.differs;
      ambiguous = λ (h : FedFits k since.fed m r).
          let fed_so = fed-as v.quotes c o u k r b in
          let fits : FedFits (k + 1) (places_with (fed_places false k r c b) since.fed) (feed_bytes script_feeding m bytes) (next_reference r c b) =
          fits-behind k since.fed m r c b (sym (ap bytes_of_places fed_so) ∙ same-quoted-bytes v.quotes k r c b ∙ same) h in
          d.ambiguous (subst (FedBefore (k + 1) (scan_read_behind k since f c b)) (sym next)
          (subst (λ (xs : List FedByte). FedFits (k + 1) (places_with xs since.fed) (feed_bytes script_feeding m bytes) (next_reference r c b)) (sym fed_so) fits));
      refuses = brace-same (λ (g : Scan). stepped k since (b ∷ bs) g ≡ Err z) v m r
          (λ a n e l h.
          let t = s.steps n l h in
          let g = InScript a n r in
          let G : Quotes → Scan = λ i. script_fed_next (value_between a i) n r c b in
          let own : TakesScript fed n = subst (λ (xs : List ℕ). TakesScript xs n) (sym same) (takes-value bytes n t.0) in
          let stop = stays v.quotes c o u in
          let refusal : scan_script_refusal k since.fed g c b ≡ None =
          ap (λ (j : Quotes). script_step_refusal j k since.fed n r c b) e.quotes
          ∙ in-quiet v.quotes k since.fed r c b n own (ap (λ (j : Bool). script_value_ends j (feed_bytes script_feeding n fed)) stop) in
          let error : scan_error g c b ≡ None =
          ap (λ (j : Option PathCause). first_cause j (at_hand (value_error a c)))
          (ap (λ (j : Quotes). quoted_error script_feeding j n r c b) e.quotes
          ∙ alike-quoted v.quotes 0 r c b no_end n m (both-alike fed n m own told.0) ∙ causes.0)
          ∙ value-errors a v c e ∙ causes.1 in
          let behind : scan_next g c b ≡ G p =
          ap (λ (j : Quotes). quotes_lead a j c G) e.quotes ∙ lead v.quotes c o a G in
          let read : scan_read_behind k since g c b ≡ scan_read_behind k since f c b =
          read-same k since c b (places_with (quoted_places a.quotes k r c b) since.fed) (places_with (quoted_places v.quotes k r c b) since.fed)
          (script_step_deep a.quotes k since.fed n r c b) (script_step_deep v.quotes k since.fed m r c b)
          (ap (λ (j : Quotes). places_with (quoted_places j k r c b) since.fed) e.quotes)
          (ap (λ (j : Quotes). script_step_deep j k since.fed n r c b) e.quotes ∙ deep-none v.quotes k since.fed n r c b stop
          ∙ sym (deep-none v.quotes k since.fed m r c b stop)) in
          let under : BraceBelow (G p) (F p) =
          brace_in (value_between a p) (value_between v p) (feed_bytes script_feeding n bytes) (feed_bytes script_feeding m bytes) (next_reference r c b)
          (record { tag = e.tag; quotes = refl; body = e.body }) t.1 t.2 in
          refused-later k (scan_script_refusal k since.fed g c b) (scan_error g c b) (stepped (k + 1) (scan_read_behind k since g c b) bs (scan_next g c b)) z refusal error
          (ap (λ (j : TextRead). stepped (k + 1) j bs (scan_next g c b)) read
          ∙ d.refuses (scan_next g c b) (subst (λ (j : Scan). BraceBelow j (scan_next f c b)) (sym behind) (subst (λ (j : Scan). BraceBelow (G p) j) (sym next) under))));
    }

-- At a place of a script.
error-as : (q : Quotes) (c : Class) → Ordinary q c → UqBegun q → (n : ScriptScan) (b : ℕ)
    → quoted_error script_feeding q n Closed c b ≡ fed_error script_feeding n (plain_bytes c b) false 0
error-as quotes.Dq QuotationMark o u n b = absurd o
error-as quotes.Dq c o u n b = refl
error-as quotes.Sq Apostrophe o u n b = absurd o
error-as quotes.Sq c o u n b = refl
error-as (quotes.Bare x) c o u n b =
    ap (λ (z : Bool). if z then language_error script_feeding (ends_value Unquoted c) n Closed c b else first_byte_error script_feeding n c b) u
    ∙ ap (λ (z : Bool). language_error script_feeding z n Closed c b) (stays-bare c o)

ordinary-below : (q p : Quotes) (c : Class) → joined_quotes q p ≡ Some p → Ordinary p c → Ordinary q c
ordinary-below quotes.Dq quotes.Dq c j o = o
ordinary-below quotes.Sq quotes.Sq c j o = o
ordinary-below (quotes.Bare x) (quotes.Bare y) c j o = o
ordinary-below quotes.Dq quotes.Sq c j o = absurd (none_some quotes.Sq j)
ordinary-below quotes.Dq (quotes.Bare y) c j o = absurd (none_some (quotes.Bare y) j)
ordinary-below quotes.Sq quotes.Dq c j o = absurd (none_some quotes.Dq j)
ordinary-below quotes.Sq (quotes.Bare y) c j o = absurd (none_some (quotes.Bare y) j)
ordinary-below (quotes.Bare x) quotes.Dq c j o = absurd (none_some quotes.Dq j)
ordinary-below (quotes.Bare x) quotes.Sq c j o = absurd (none_some quotes.Sq j)

same-open : (q p : Quotes) → joined_quotes q p ≡ Some p → open_quotes q ≡ open_quotes p
same-open quotes.Dq quotes.Dq j = refl
same-open quotes.Sq quotes.Sq j = refl
same-open (quotes.Bare x) (quotes.Bare y) j = refl
same-open quotes.Dq quotes.Sq j = absurd (none_some quotes.Sq j)
same-open quotes.Dq (quotes.Bare y) j = absurd (none_some (quotes.Bare y) j)
same-open quotes.Sq quotes.Dq j = absurd (none_some quotes.Dq j)
same-open quotes.Sq (quotes.Bare y) j = absurd (none_some (quotes.Bare y) j)
same-open (quotes.Bare x) quotes.Dq j = absurd (none_some quotes.Dq j)
same-open (quotes.Bare x) quotes.Sq j = absurd (none_some quotes.Sq j)

true-under : (x y : Bool) → Under x y → x ≡ true → y ≡ true
true-under true y u h = sym u
true-under false y u h = absurd (no h)

uq-above : (q p : Quotes) → HasBegun q → joined_quotes q p ≡ Some p → UqBegun p
uq-above quotes.Dq quotes.Dq h j = tt
uq-above quotes.Sq quotes.Sq h j = tt
uq-above (quotes.Bare x) (quotes.Bare y) h j = true-under x.uq y.uq (bare-parts x y j).0 h.0
uq-above quotes.Dq quotes.Sq h j = absurd (none_some quotes.Sq j)
uq-above quotes.Dq (quotes.Bare y) h j = absurd (none_some (quotes.Bare y) j)
uq-above quotes.Sq quotes.Dq h j = absurd (none_some quotes.Dq j)
uq-above quotes.Sq (quotes.Bare y) h j = absurd (none_some (quotes.Bare y) j)
uq-above (quotes.Bare x) quotes.Dq h j = absurd (none_some quotes.Dq j)
uq-above (quotes.Bare x) quotes.Sq h j = absurd (none_some quotes.Sq j)

bare-fine : (x y : Bare) (t : TagOf) (c : Class) → OrdinaryBare c → bare_error t y c ≡ None → bare_error t x c ≡ None
bare-fine x y t White o e = absurd o
bare-fine x y t QuotationMark o e = absurd o
bare-fine x y t Apostrophe o e = absurd o
bare-fine x y t GreaterThan o e = absurd o
bare-fine x y t LessThan o e = e
bare-fine x y t EqualsSign o e = e
bare-fine x y t GraveAccent o e = e
bare-fine x y t c o e = refl

quotes-fine : (q p : Quotes) (t : TagOf) (c : Class) → joined_quotes q p ≡ Some p → Ordinary p c → quotes_error t p c ≡ None → quotes_error t q c ≡ None
quotes-fine quotes.Dq p t c j o e = refl
quotes-fine quotes.Sq p t c j o e = refl
quotes-fine (quotes.Bare x) (quotes.Bare y) t c j o e = bare-fine x y t c o e
quotes-fine (quotes.Bare x) quotes.Dq t c j o e = absurd (none_some quotes.Dq j)
quotes-fine (quotes.Bare x) quotes.Sq t c j o e = absurd (none_some quotes.Sq j)

-- they differ before the byte, in whatever quotes
abbrev AtNext : ValuePlace → Class → ℕ → Quotes → Scan
AtNext v c b p = value_fed v p v.body NoTriple Closed c b

goes-differ : (v : ValuePlace) (j : Js) (p : Quotes) (c : Class) (b : ℕ) → IsScriptScan (script_scan_start j) → v.body ≡ body.Js j → TakesScript (plain_bytes c b) (script_scan_start j)
    → scan_differs (AtNext v c b p) ≡ true → script_differs (script_scan_start j) ≡ true
goes-differ v j p c b i d t h =
    (brace-fed false (plain_bytes c b) (script_scan_start j) i (scripts-clash.start j) (value-takes (plain_bytes c b) (script_scan_start j) t)
    (sym (ap (λ (x : Body). scan_differs (value_fed v p x NoTriple Closed c b)) d) ∙ h)).differs

white-differ : (v : ValuePlace) (x : Bool) → scan_differs (bare_white v x) ≡ true → body_differs v.body ≡ true
white-differ v true h = absurd (no h)
white-differ v false h = h

plain-taken : (x : Bool) (c : Class) (b : ℕ) (n : ScriptScan)
    → (if x then fed_error script_feeding n (plain_bytes c b) false 0 else fed_error script_feeding n (plain_bytes c b) false 0) ≡ None
    → TakesScript (plain_bytes c b) n
plain-taken true c b n h = script-fed-taken (plain_bytes c b) n false 0 h
plain-taken false c b n h = script-fed-taken (plain_bytes c b) n false 0 h

bare-differ : (v : ValuePlace) (j : Js) (x : Bare) (c : Class) (b : ℕ) → IsScriptScan (script_scan_start j) → v.body ≡ body.Js j
    → quoted_error script_feeding (quotes.Bare x) (script_scan_start j) Closed c b ≡ None
    → scan_differs (quotes_lead v (quotes.Bare x) c (AtNext v c b)) ≡ true → script_differs (script_scan_start j) ≡ true
bare-differ v j x White b i d e h = sym (ap body_differs d) ∙ white-differ v x.uq h
bare-differ v j x QuotationMark b i d e h = sym (ap body_differs d) ∙ h
bare-differ v j x Apostrophe b i d e h = sym (ap body_differs d) ∙ h
bare-differ v j x GreaterThan b i d e h = absurd (content-not v.tag h)
bare-differ v j x c b i d e h = goes-differ v j bare_begun c b i d (plain-taken x.uq c b (script_scan_start j) e) h

at-differ : (v : ValuePlace) (j : Js) (q : Quotes) (c : Class) (b : ℕ) → IsScriptScan (script_scan_start j) → v.body ≡ body.Js j
    → quoted_error script_feeding q (script_scan_start j) Closed c b ≡ None
    → scan_differs (quotes_lead v q c (AtNext v c b)) ≡ true → script_differs (script_scan_start j) ≡ true
at-differ v j quotes.Dq QuotationMark b i d e h = absurd (no h)
at-differ v j quotes.Dq c b i d e h = goes-differ v j quotes.Dq c b i d (script-fed-taken (plain_bytes c b) (script_scan_start j) false 0 e) h
at-differ v j quotes.Sq Apostrophe b i d e h = absurd (no h)
at-differ v j quotes.Sq c b i d e h = goes-differ v j quotes.Sq c b i d (script-fed-taken (plain_bytes c b) (script_scan_start j) false 0 e) h
at-differ v j (quotes.Bare x) c b i d e h = bare-differ v j x c b i d e h

js-one : (i j : Js) → body.Js i ≡ body.Js j → i ≡ j
js-one i j e = cc

brace-at-place : (P : Scan → Type 0) (v : ValuePlace) (j : Js) → v.body ≡ body.Js j
    → ((u : ValuePlace) (i : Js) → u.body ≡ body.Js i → u.tag ≡ v.tag → HasBegun u.quotes → joined_quotes u.quotes v.quotes ≡ Some v.quotes
    → ScriptScanBelow (script_scan_start i) (script_with_brace (script_scan_start j)) → script_set_has (script_scan_start i) member.SenseBrace ≡ true → P (At (place.Value u)))
    → (g : Scan) → BraceBelow g (At (place.Value v)) → P g
brace-at-place P _ j d f _ (brace_at u v i z e r t b q l h) =
    f u i e t b q (subst (λ (x : Js). ScriptScanBelow (script_scan_start i) (script_with_brace (script_scan_start x))) (js-one z j (sym r ∙ d)) l) h

-- what is kept of the bytes fits it behind the first one too
goes-fit : (v : ValuePlace) (j : Js) (p : Quotes) (c : Class) (b k : ℕ) (after : TextRead) → v.body ≡ body.Js j
    → after.fed ≡ places_with (placed_bytes false k (plain_bytes c b)) [] → FedBefore (k + 1) after (AtNext v c b p)
goes-fit v j p c b k after d e =
    subst (λ (x : Body). FedBefore (k + 1) after (value_fed v p x NoTriple Closed c b)) (sym d)
    (subst (λ (places : List ℕ). FedFits (k + 1) places (feed_bytes script_feeding (script_scan_start j) (plain_bytes c b)) (next_reference Closed c b)) (sym e)
    (fits-behind k [] (script_scan_start j) Closed c b (bytes-placed false k (plain_bytes c b)) (starts-fit k j)))

white-before : (v : ValuePlace) (x : Bool) (k : ℕ) (after : TextRead) → FedBefore k after (bare_white v x)
white-before v true k after = tt
white-before v false k after = tt

either-places : (x : Bool) (xs ys : List FedByte) (after : TextRead) → xs ≡ ys → after.fed ≡ places_with (if x then xs else ys) [] → after.fed ≡ places_with ys []
either-places true xs ys after h e = e ∙ ap (λ (zs : List FedByte). places_with zs []) h
either-places false xs ys after h e = e

bare-fits : (v : ValuePlace) (j : Js) (x : Bare) (c : Class) (b k : ℕ) (after : TextRead) → v.body ≡ body.Js j
    → after.fed ≡ places_with (if x.uq then fed_places (ends_value Unquoted c) k Closed c b else first_places k c b) []
    → scan_differs (quotes_lead v (quotes.Bare x) c (AtNext v c b)) ≡ true → FedBefore (k + 1) after (quotes_lead v (quotes.Bare x) c (AtNext v c b))
bare-fits v j x White b k after d e h = white-before v x.uq (k + 1) after
bare-fits v j x QuotationMark b k after d e h = tt
bare-fits v j x Apostrophe b k after d e h = tt
bare-fits v j x GreaterThan b k after d e h = absurd (content-not v.tag h)
bare-fits v j x c b k after d e h =
    goes-fit v j bare_begun c b k after d (either-places x.uq (placed_bytes false k (plain_bytes c b)) (placed_bytes false k (plain_bytes c b)) after refl e)

at-fits : (v : ValuePlace) (j : Js) (q : Quotes) (c : Class) (b k : ℕ) (after : TextRead) → v.body ≡ body.Js j
    → after.fed ≡ places_with (quoted_places q k Closed c b) [] → scan_differs (quotes_lead v q c (AtNext v c b)) ≡ true
    → FedBefore (k + 1) after (quotes_lead v q c (AtNext v c b))
at-fits v j quotes.Dq QuotationMark b k after d e h = tt
at-fits v j quotes.Dq c b k after d e h = goes-fit v j quotes.Dq c b k after d e
at-fits v j quotes.Sq Apostrophe b k after d e h = tt
at-fits v j quotes.Sq c b k after d e h = goes-fit v j quotes.Sq c b k after d e
at-fits v j (quotes.Bare x) c b k after d e h = bare-fits v j x c b k after d e h

pub at-slash : (k : ℕ) (since : TextRead) (b : ℕ) (bs : List ℕ) (v : ValuePlace) (j : Js) (z : PathRefusal) (x y : Member) → IsScriptScan (script_scan_start j) → v.body ≡ body.Js j
    → begun_script_shows v.body v.quotes (class_of b) b ≡ None → value_cause v Closed (class_of b) b ≡ None
    → ShownSlash (k + 1) (scan_read_behind k since (At (place.Value v)) (class_of b) b) bs (scan_next (At (place.Value v)) (class_of b) b) z x y
    → ShownSlash k since (b ∷ bs) (At (place.Value v)) z (byte_origin (At (place.Value v)) (class_of b) b x) (byte_origin (At (place.Value v)) (class_of b) b y)
at-slash k since b bs v j z x y valid jb q none d =
    let c = class_of b in
    let f = At (place.Value v) in
    let m = script_scan_start j in
    let causes = first-caused (body_cause v.body v.quotes Closed c b) (at_hand (value_error v c)) none in
    let errors = first-none (body_error v.body) (quotes_error v.tag v.quotes c) (none-at-hand (value_error v c) causes.1) in
    let own : quoted_error script_feeding v.quotes m Closed c b ≡ None = sym (ap (λ (i : Body). body_cause i v.quotes Closed c b) jb) ∙ causes.0 in
    let differs = at-differ v j v.quotes c b valid jb own d.differ in
    let div = div-too m differs in
    let re = second-true (script_senses_differ m.senses) (script_set_has m member.SenseRe) differs in
    let origin : (w : Member) → byte_origin f c b w ≡ script_origin m (in_value_origin w) =
    λ w. ap (λ (i : Body). body_origin i (fed_in v.quotes Closed c b) (in_body_origin i w)) jb in
    let first = ap (byte_origin f c b) d.first ∙ origin member.SenseDiv ∙ itself-origin m member.SenseDiv div in
    let second = ap (byte_origin f c b) d.second ∙ origin member.SenseRe ∙ itself-origin m member.SenseRe re in
    record {
      first = first;
      second = second;
      one = subst (λ (g : Member). ScanHas f g) (sym first) (place-has v j member.SenseDiv jb (in-set v.typed v.quotes m member.SenseDiv div));
      other = subst (λ (g : Member). ScanHas f g) (sym second) (place-has v j member.SenseRe jb (in-set v.typed v.quotes m member.SenseRe re));
      differ = ap body_differs jb ∙ differs;
      ambiguous = λ h. d.ambiguous (at-fits v j v.quotes c b k (scan_read_behind k since f c b) jb (ap (λ (i : Body). begun_script_fed i v.quotes k c b) jb) d.differ);
      refuses = brace-at-place (λ (g : Scan). stepped k since (b ∷ bs) g ≡ Err z) v j jb
          (λ a i ib tg h l n s.
          let uq = uq-above a.quotes v.quotes h l in
          let o = ordinary v v.quotes c (AtNext v c b) uq errors.1 d.differ in
          let w = ordinary-below a.quotes v.quotes c l o in
          let own_uq = begun-uq a.quotes h in
          let bytes = plain_bytes c b in
          let g = At (place.Value a) in
          let p = open_quotes v.quotes in
          let next : scan_next f c b ≡ AtNext v c b p = lead v.quotes c o v (AtNext v c b) in
          let next_js : scan_next f c b ≡ script_fed_next (empty_script_between v p) m Closed c b =
          next ∙ ap (λ (e : Body). value_fed v p e NoTriple Closed c b) jb in
          let behind : scan_next g c b ≡ script_fed_next (empty_script_between a p) (script_scan_start i) Closed c b =
          lead a.quotes c w a (AtNext a c b) ∙ ap (AtNext a c b) (same-open a.quotes v.quotes l) ∙ ap (λ (e : Body). value_fed a p e NoTriple Closed c b) ib in
          let taken : TakesScript bytes m = script-fed-taken bytes m false 0 (sym (error-as v.quotes c o uq m b) ∙ own) in
          let fed = brace-fed false bytes m valid (scripts-clash.start j) (value-takes bytes m taken) (sym (ap scan_differs next_js) ∙ d.differ) in
          let t = fed.steps (script_scan_start i) n s in
          let quiet : quoted_error script_feeding a.quotes (script_scan_start i) Closed c b ≡ None =
          error-as a.quotes c w own_uq (script_scan_start i) b ∙ taken-error bytes false 0 (script_scan_start i) (takes-value bytes (script_scan_start i) t.0) in
          let begun = begun-none (body.Js i) a.quotes k c b quiet in
          let met = begun-none (body.Js j) v.quotes k c b own in
          let refusal : scan_script_refusal k since.fed g c b ≡ None = ap (λ (e : Body). begun_script_refusal e a.quotes k c b) ib ∙ begun.0 in
          let fine : value_error a c ≡ None =
          ap (λ (e : Body). first_error (body_error e) (quotes_error a.tag a.quotes c)) ib ∙ ap (λ (e : TagOf). quotes_error e a.quotes c) tg
          ∙ quotes-fine a.quotes v.quotes v.tag c l o errors.1 in
          let error : scan_error g c b ≡ None =
          ap (λ (e : Option PathCause). first_cause e (at_hand (value_error a c))) (ap (λ (e : Body). body_cause e a.quotes Closed c b) ib ∙ quiet)
          ∙ ap at_hand fine in
          let read : scan_read_behind k since g c b ≡ scan_read_behind k since f c b =
          rw (
            (ap (λ (e : Body). begun_script_fed e a.quotes k c b) ib
                ∙ ap (λ (e : List FedByte). places_with e []) (fed-as a.quotes c w own_uq k Closed b ∙ sym (fed-as v.quotes c o uq k Closed b))
                ∙ sym (ap (λ (e : Body). begun_script_fed e v.quotes k c b) jb)),
            (ap (λ (e : Body). begun_script_deep e a.quotes k c b) ib ∙ begun.1 ∙ sym (ap (λ (e : Body). begun_script_deep e v.quotes k c b) jb ∙ met.1)),
          ) refl in
          let under : BraceBelow (script_fed_next (empty_script_between a p) (script_scan_start i) Closed c b) (script_fed_next (empty_script_between v p) m Closed c b) =
          brace_in (empty_script_between a p) (empty_script_between v p) (feed_bytes script_feeding (script_scan_start i) bytes) (feed_bytes script_feeding m bytes)
          (next_reference Closed c b) (record { tag = tg; quotes = refl; body = refl }) t.1 t.2 in
          refused-later k (scan_script_refusal k since.fed g c b) (scan_error g c b) (stepped (k + 1) (scan_read_behind k since g c b) bs (scan_next g c b)) z refusal error
          (ap (λ (e : TextRead). stepped (k + 1) e bs (scan_next g c b)) read
          ∙ d.refuses (scan_next g c b)
          (subst (λ (e : Scan). BraceBelow e (scan_next f c b)) (sym behind)
          (subst (λ (e : Scan). BraceBelow (script_fed_next (empty_script_between a p) (script_scan_start i) Closed c b) e) (sym next_js) under))));
    }

-- Elsewhere no paths differ in that behind the byte, and no value is a script that has begun.
abbrev Alone : Scan → Type 0
Alone f = (scan_differs f ≡ true → ⊥) × ScanFits f

content-quiet : (t : TagOf) → Alone (content_scan t)
content-quiet tag.End = (λ h. no h, tt)
content-quiet (tag.Start element.Other) = (λ h. no h, tt)
content-quiet (tag.Start element.Title) = (λ h. no h, tt)
content-quiet (tag.Start element.Textarea) = (λ h. no h, tt)
content-quiet (tag.Start element.Style) = (λ h. no h, tt)
content-quiet (tag.Start element.Script) = (λ h. no h, tt)
content-quiet (tag.Start element.DataBlock) = (λ h. no h, tt)

text-alone : (c : Class) → Alone (text_scan c)
text-alone LessThan = (λ h. no h, tt)
text-alone c = (λ h. no h, tt)

rest-alone : (e : Element) → Alone (At (rest_place e))
rest-alone element.DataBlock = (λ h. no h, tt)
rest-alone _ = (λ h. no h, tt)

content-alone : (c : Class) (e : Element) → Alone (content_next c e)
content-alone LessThan e = (λ h. no h, tt)
content-alone c e = rest-alone e

comment-alone : (s : CommentState) → Alone (comment_scan s)
comment-alone Inside = (λ h. no h, tt)
comment-alone Broken = (λ h. no h, tt)
comment-alone s = (λ h. no h, tt)

closed-alone : (x : Bool) → Alone (comment_closed x)
closed-alone true = (λ h. no h, tt)
closed-alone false = (λ h. no h, tt)

comment-next-alone : (c : Class) (s : CommentState) → Alone (comment_next c s)
comment-next-alone GreaterThan s = closed-alone (closes_comment s)
comment-next-alone c s = comment-alone (next_comment s c)

doctype-alone : (c : Class) → Alone (doctype_next c)
doctype-alone GreaterThan = (λ h. no h, tt)
doctype-alone c = (λ h. no h, tt)

value-alone : (t : TagOf) (x : Bool) (k : Option Kind) → Alone (value_scan t x k)
value-alone t x (Some kind.ScriptType) = (λ h. no h, tt)
value-alone t x (Some kind.Plain) = (λ h. no h, tt)
value-alone t x (Some kind.NoHole) = (λ h. no h, tt)
value-alone t x (Some kind.Url) = (λ h. no h, tt)
value-alone t x (Some kind.Style) = (λ h. no h, tt)
value-alone t x (Some kind.Script) = (λ h. no h, tt)
value-alone t x None = (λ h. no h, tt)

tag-alone : (t : TagPlace) (c : Class) (b : ℕ) → Alone (tag_next t c b)
tag-alone t White b = (λ h. no h, tt)
tag-alone t Solidus b = (λ h. no h, tt)
tag-alone t GreaterThan b = content-quiet t.tag
tag-alone t EqualsSign b = value-alone t.tag t.typed t.kind
tag-alone t c b = (λ h. no h, tt)

start-alone : (s : StyleScan) (x : Bool) → Alone (if x then At (place.Style (style_scan_place s)) else InStyleElement s Nothing)
start-alone s true = (λ h. no h, tt)
start-alone s false = (λ h. no h, tt)

element-alone : (s : StyleScan) (c : Class) (b : ℕ) → Alone (element_next s c b)
element-alone s LessThan b = (λ h. no h, tt)
element-alone s c b =
    (let n = style_scan_next s (style_class b) b in start-alone n (is_style_start n))

less-alone : (s : StyleScan) (c : Class) (b : ℕ) → Alone (element_less_next s c b)
less-alone s Solidus b = (λ h. no h, tt)
less-alone s c b = element-alone (feed_bytes style_feeding s (codes "<")) c b

name-alone : (s : StyleScan) (grows whole : Bool) (c : Class) (b : ℕ) (letters : List ℕ) → Alone (element_name_next s grows whole c b letters)
name-alone s true true (Letter l) b letters = (λ h. no h, tt)
name-alone s true true White b letters = (λ h. no h, tt)
name-alone s true true Solidus b letters = (λ h. no h, tt)
name-alone s true true GreaterThan b letters = (λ h. no h, tt)
name-alone s true true c b letters = element-alone (feed_bytes style_feeding s (codes "</" ++ letters)) c b
name-alone s true false (Letter l) b letters = (λ h. no h, tt)
name-alone s true false c b letters = element-alone (feed_bytes style_feeding s (codes "</" ++ letters)) c b
name-alone s false true White b letters = (λ h. no h, tt)
name-alone s false true Solidus b letters = (λ h. no h, tt)
name-alone s false true GreaterThan b letters = (λ h. no h, tt)
name-alone s false true c b letters = element-alone (feed_bytes style_feeding s (codes "</" ++ letters)) c b
name-alone s false false c b letters = element-alone (feed_bytes style_feeding s (codes "</" ++ letters)) c b

pending-alone : (s : StyleScan) (p : Pending) (c : Class) (b : ℕ) → Alone (element_pending_next s p c b)
pending-alone s Nothing c b = element-alone s c b
pending-alone s PendingLess c b = less-alone s c b
pending-alone s LessAtCut c b = element-alone (feed_bytes style_feeding s (codes "<")) c b
pending-alone s (PendingName letters) c b =
    name-alone s (may_be_name_of element.Style (letters ++ b ∷ [])) (is_name_of element.Style letters) c b letters
pending-alone s PendingBang c b = element-alone (feed_bytes style_feeding s (codes "<!")) c b
pending-alone s (PendingOpening letters) c b = element-alone (feed_bytes style_feeding s (codes "<" ++ letters)) c b
pending-alone s PendingBangDash c b = element-alone (feed_bytes style_feeding s (codes "<!-")) c b

less-next-alone : (c : Class) (b : ℕ) → Alone (less_next c b)
less-next-alone (Letter l) b = (λ h. no h, tt)
less-next-alone Solidus b = (λ h. no h, tt)
less-next-alone ExclamationMark b = (λ h. no h, tt)
less-next-alone c b = text-alone c

solidus-alone : (c : Class) (b : ℕ) → Alone (solidus_next c b)
solidus-alone (Letter l) b = (λ h. no h, tt)
solidus-alone c b = text-alone c

declaration-alone : (d : Declaration) (c : Class) (b : ℕ) (pending : List ℕ) → Alone (declaration_next d c b pending)
declaration-alone OpensComment c b pending = (λ h. no h, tt)
declaration-alone OpensDoctype c b pending = (λ h. no h, tt)
declaration-alone Undecided c b pending = (λ h. no h, tt)
declaration-alone OpensNothing c b pending = text-alone c

tag-name-alone : (c : Class) (b : ℕ) (ends : Bool) (name : List ℕ) → Alone (tag_name_next c b ends name)
tag-name-alone White b ends name = (λ h. no h, tt)
tag-name-alone Solidus b ends name = (λ h. no h, tt)
tag-name-alone GreaterThan b ends name = content-quiet (tag_of_name ends name)
tag-name-alone c b ends name = (λ h. no h, tt)

attribute-alone : (c : Class) (b : ℕ) (t : TagOf) (x : Bool) (k : Kind) (name : List ℕ) → Alone (attribute_name_next c b t x k name)
attribute-alone White b t x k name = (λ h. no h, tt)
attribute-alone Solidus b t x k name = (λ h. no h, tt)
attribute-alone GreaterThan b t x k name = content-quiet t
attribute-alone EqualsSign b t x k name = value-alone t x (Some k)
attribute-alone c b t x k name = (λ h. no h, tt)

end-name-alone : (grows whole : Bool) (c : Class) (b : ℕ) (e : Element) (letters : List ℕ) → Alone (end_name_next grows whole c b e letters)
end-name-alone true true (Letter l) b e letters = (λ h. no h, tt)
end-name-alone true true White b e letters = (λ h. no h, tt)
end-name-alone true true Solidus b e letters = (λ h. no h, tt)
end-name-alone true true GreaterThan b e letters = (λ h. no h, tt)
end-name-alone true true c b e letters = content-alone c e
end-name-alone true false (Letter l) b e letters = (λ h. no h, tt)
end-name-alone true false c b e letters = content-alone c e
end-name-alone false true White b e letters = (λ h. no h, tt)
end-name-alone false true Solidus b e letters = (λ h. no h, tt)
end-name-alone false true GreaterThan b e letters = (λ h. no h, tt)
end-name-alone false true c b e letters = content-alone c e
end-name-alone false false c b e letters = content-alone c e

bang-alone : (c : Class) (e : Element) → Alone (bang_next c e)
bang-alone HyphenMinus e = (λ h. no h, tt)
bang-alone c e = content-alone c e

pending-less-alone : (c : Class) (e : Element) → Alone (pending_less_next c e)
pending-less-alone Solidus e = (λ h. no h, tt)
pending-less-alone ExclamationMark element.DataBlock = (λ h. no h, tt)
pending-less-alone c e = content-alone c e

content-end-alone : (p : Pending) (c : Class) (b : ℕ) (e : Element) → Alone (content_end_next p c b e)
content-end-alone PendingLess c b e = pending-less-alone c e
content-end-alone PendingBang c b e = bang-alone c e
content-end-alone (PendingName letters) c b e = end-name-alone (may_be_name_of e (letters ++ b ∷ [])) (is_name_of e letters) c b e letters
content-end-alone p c b e = content-alone c e

before-type-alone : (c : Class) (b : ℕ) (t : TagOf) → Alone (before_type_next c b t)
before-type-alone White b t = (λ h. no h, tt)
before-type-alone QuotationMark b t = (λ h. no h, tt)
before-type-alone Apostrophe b t = (λ h. no h, tt)
before-type-alone GreaterThan b t = content-quiet (type_tag t type_begun)
before-type-alone c b t = (λ h. no h, tt)

after-type-alone : (q : Quoting) (c : Class) (t : TagOf) → Alone (after_type q c t)
after-type-alone Unquoted GreaterThan t = content-quiet t
after-type-alone q c t = (λ h. no h, tt)

type-alone : (x : Bool) (c : Class) (b : ℕ) (t : TagOf) (q : Quoting) (v : Value ValueState) (r : Reference) → Alone (type_next x c b t q v r)
type-alone true c b t q v r = after-type-alone q c (type_tag t (ended_type v r))
type-alone false c b t q v r = (λ h. no h, tt)

-- in other values
white-fits : (v : ValuePlace) (x : Bool) → ScanFits (bare_white v x)
white-fits v true = tt
white-fits v false = tt

lead-alone : (v : ValuePlace) (q : Quotes) (c : Class) (F : Quotes → Scan) → body_differs v.body ≡ false → ((p : Quotes) → Alone (F p)) → Alone (quotes_lead v q c F)
lead-alone v quotes.Dq QuotationMark F n f = (λ h. no h, tt)
lead-alone v quotes.Dq c F n f = f quotes.Dq
lead-alone v quotes.Sq Apostrophe F n f = (λ h. no h, tt)
lead-alone v quotes.Sq c F n f = f quotes.Sq
lead-alone v (quotes.Bare x) White F n f = (λ h. no (sym n ∙ white-differ v x.uq h), white-fits v x.uq)
lead-alone v (quotes.Bare x) QuotationMark F n f = (λ h. no (sym n ∙ h), tt)
lead-alone v (quotes.Bare x) Apostrophe F n f = (λ h. no (sym n ∙ h), tt)
lead-alone v (quotes.Bare x) GreaterThan F n f = content-quiet v.tag
lead-alone v (quotes.Bare x) c F n f = f bare_begun

url-alone : (v : ValuePlace) (s : Parts) (t : Triple) (r : Reference) → v.body ≡ body.Url s → Alone (url_scan v t r)
url-alone v s NoTriple Closed d = (λ h. no (sym (ap body_differs d) ∙ h), tt)
url-alone v s NoTriple (Open f bytes) d = (λ h. no h, tt)
url-alone v s AfterPercent r d = (λ h. no h, tt)
url-alone v s AfterDigit r d = (λ h. no h, tt)

style-if-alone : (v : ValuePlace) (n : StyleScan) (x : Bool) → Alone (if x then At (with_style v n) else InStyle v n Closed)
style-if-alone v n true = (λ h. no h, tt)
style-if-alone v n false = (λ h. no h, tt)

style-alone : (v : ValuePlace) (n : StyleScan) (r : Reference) → Alone (style_scan v n r)
style-alone v n Closed = style-if-alone v n (is_style_start n)
style-alone v n (Open f bytes) = (λ h. no h, tt)

body-alone : (v : ValuePlace) (x : Body) (t : Triple) (r : Reference) (c : Class) (b : ℕ) (p : Quotes) → v.body ≡ x → (body_differs x ≡ false) → ((j : Js) → x ≡ body.Js j → ⊥)
    → Alone (value_fed v p x t r c b)
body-alone v (body.Url s) t r c b p d n f =
    url-alone (with_parts v p (feed_bytes parts_feeding s (undone_byte true r c b))) (feed_bytes parts_feeding s (undone_byte true r c b))
    (triple_behind t (undone_byte true r c b)) (next_reference r c b) refl
body-alone v (body.Css s) t r c b p d n f =
    style-alone (empty_style_between v p) (feed_bytes style_feeding (style_scan_start s) (undone_byte true r c b)) (next_reference r c b)
body-alone v (body.Js j) t r c b p d n f = absurd (f j refl)
body-alone v body.Plain t r c b p d n f = (λ h. no (sym (ap body_differs d) ∙ h), tt)
body-alone v body.NoHole t r c b p d n f = (λ h. no (sym (ap body_differs d) ∙ h), tt)

no-js-differs : (x : Body) → ((j : Js) → x ≡ body.Js j → ⊥) → body_differs x ≡ false
no-js-differs (body.Js j) f = absurd (f j refl)
no-js-differs _ f = refl

other-alone : (v : ValuePlace) (x : Body) (t : Triple) (r : Reference) (c : Class) (b : ℕ) → v.body ≡ x → ((j : Js) → x ≡ body.Js j → ⊥) → Alone (value_next v t r c b)
other-alone v x t r c b d f =
    lead-alone v v.quotes c (λ p. value_fed v p v.body t r c b) (ap body_differs d ∙ no-js-differs x f)
    (λ p. subst (λ (y : Body). Alone (value_fed v p y t r c b)) (sym d) (body-alone v x t r c b p d (no-js-differs x f) f))

url-no-js : (b : Body) → UrlWithin b → (j : Js) → b ≡ body.Js j → ⊥
url-no-js b w j e = subst UrlWithin e w

css-no-js : (c : Css) (j : Js) → body.Css c ≡ body.Js j → ⊥
css-no-js c j e = cc

plain-no-js : (j : Js) → body.Plain ≡ body.Js j → ⊥
plain-no-js j e = cc

hole-no-js : (j : Js) → body.NoHole ≡ body.Js j → ⊥
hole-no-js j e = cc

parts-no-js : (s : Parts) (j : Js) → body.Url s ≡ body.Js j → ⊥
parts-no-js s j e = cc

style-value-alone : (v : ValuePlace) (n : StyleScan) (r : Reference) (c : Class) (b : ℕ) → v.body ≡ body.Css empty_css → Alone (style_value_next v n r c b)
style-value-alone v n r c b d =
    lead-alone v v.quotes c (λ p. style_fed (value_between v p) n r c b) (ap body_differs d)
    (λ p. style-alone (value_between v p) (feed_bytes style_feeding n (undone_byte true r c b)) (next_reference r c b))

value-slash : (k : ℕ) (since : TextRead) (b : ℕ) (bs : List ℕ) (v : ValuePlace) (e : Body) (z : PathRefusal) (x y : Member) → IsValidBody e → v.body ≡ e
    → begun_script_shows v.body v.quotes (class_of b) b ≡ None → value_cause v Closed (class_of b) b ≡ None
    → ShownSlash (k + 1) (scan_read_behind k since (At (place.Value v)) (class_of b) b) bs (scan_next (At (place.Value v)) (class_of b) b) z x y
    → ShownSlash k since (b ∷ bs) (At (place.Value v)) z (byte_origin (At (place.Value v)) (class_of b) b x) (byte_origin (At (place.Value v)) (class_of b) b y)
value-slash k since b bs v (body.Js j) z x y w d q n h = at-slash k since b bs v j z x y (script-start-valid j w) d q n h
value-slash k since b bs v (body.Css s) z x y w d q n h = absurd ((other-alone v (body.Css s) NoTriple Closed (class_of b) b d (css-no-js s)).0 h.differ)
value-slash k since b bs v (body.Url s) z x y w d q n h = absurd ((other-alone v (body.Url s) NoTriple Closed (class_of b) b d (parts-no-js s)).0 h.differ)
value-slash k since b bs v body.Plain z x y w d q n h = absurd ((other-alone v body.Plain NoTriple Closed (class_of b) b d plain-no-js).0 h.differ)
value-slash k since b bs v body.NoHole z x y w d q n h = absurd ((other-alone v body.NoHole NoTriple Closed (class_of b) b d hole-no-js).0 h.differ)

-- at any scan state
pub slash-earlier : (k : ℕ) (since : TextRead) (b : ℕ) (bs : List ℕ) (f : Scan) (r : PathRefusal) (x y : Member) → ScanValid f → ScanFits f
    → script_shown f (class_of b) b ≡ None → scan_error f (class_of b) b ≡ None
    → ShownSlash (k + 1) (scan_read_behind k since f (class_of b) b) bs (scan_next f (class_of b) b) r x y
    → ShownSlash k since (b ∷ bs) f r (byte_origin f (class_of b) b x) (byte_origin f (class_of b) b y)
slash-earlier k since b bs (InScript v m z) r x y w fit q n d = in-slash k since b bs v m z r x y w fit q n d
slash-earlier k since b bs (At (place.Value v)) r x y w fit q n d = value-slash k since b bs v v.body r x y w.1 refl q n d
slash-earlier k since b bs (InScriptElement m h) r x y w fit q n d = element-slash k since b bs m h r x y w fit n d
slash-earlier k since b bs (At place.Text) r x y w fit q n d = absurd ((text-alone (class_of b)).0 d.differ)
slash-earlier k since b bs (At place.Doctype) r x y w fit q n d = absurd ((doctype-alone (class_of b)).0 d.differ)
slash-earlier k since b bs (At (place.Comment s)) r x y w fit q n d = absurd ((comment-next-alone (class_of b) (comment_state s)).0 d.differ)
slash-earlier k since b bs (At (place.Rcdata e)) r x y w fit q n d = absurd ((content-alone (class_of b) e).0 d.differ)
slash-earlier k since b bs (At (place.Tag t)) r x y w fit q n d = absurd ((tag-alone t (class_of b) b).0 d.differ)
slash-earlier k since b bs (At (place.Block s)) r x y w fit q n d = absurd ((content-alone (class_of b) element.DataBlock).0 d.differ)
slash-earlier k since b bs (At (place.Style p)) r x y w fit q n d = absurd ((element-alone (style_scan_start p) (class_of b) b).0 d.differ)
slash-earlier k since b bs (At (place.Script j)) r x y w fit q n d = start-slash k since b bs j r x y w n d
slash-earlier k since b bs AfterLess r x y w fit q n d = absurd ((less-next-alone (class_of b) b).0 d.differ)
slash-earlier k since b bs AfterLessSolidus r x y w fit q n d = absurd ((solidus-alone (class_of b) b).0 d.differ)
slash-earlier k since b bs (InDeclaration s) r x y w fit q n d = absurd ((declaration-alone (declared_by (s ++ b ∷ [])) (class_of b) b s).0 d.differ)
slash-earlier k since b bs (InTagName e s) r x y w fit q n d = absurd ((tag-name-alone (class_of b) b e s).0 d.differ)
slash-earlier k since b bs (InAttributeName t z s) r x y w fit q n d = absurd ((attribute-alone (class_of b) b t z (kind_of (element_on t) s) s).0 d.differ)
slash-earlier k since b bs (InCommentEnd s) r x y w fit q n d = absurd ((comment-next-alone (class_of b) s).0 d.differ)
slash-earlier k since b bs (InContentEnd e h) r x y w fit q n d = absurd ((content-end-alone h (class_of b) b e).0 d.differ)
slash-earlier k since b bs (InStyleElement s h) r x y w fit q n d = absurd ((pending-alone s h (class_of b) b).0 d.differ)
slash-earlier k since b bs (InUrl v t z) r x y w fit q n d = absurd ((other-alone v v.body t z (class_of b) b refl (url-no-js v.body w.1)).0 d.differ)
slash-earlier k since b bs (InStyle v s z) r x y w fit q n d = absurd ((style-value-alone v s z (class_of b) b w.1).0 d.differ)
slash-earlier k since b bs (BeforeType t) r x y w fit q n d = absurd ((before-type-alone (class_of b) b t).0 d.differ)
slash-earlier k since b bs (InType t i v z) r x y w fit q n d = absurd ((type-alone (ends_value i (class_of b)) (class_of b) b t i v z).0 d.differ)

-- what a script says of it stays so behind a byte
lead-fits : (v : ValuePlace) (q : Quotes) (r : Reference) (c : Class) (b : ℕ) (F : Quotes → Scan) → (Ordinary q c → (p : Quotes) → ScanFits (F p)) → ScanFits (quotes_lead v q c F)
lead-fits v quotes.Dq r QuotationMark b F f = tt
lead-fits v quotes.Dq r c b F f = f tt quotes.Dq
lead-fits v quotes.Sq r Apostrophe b F f = tt
lead-fits v quotes.Sq r c b F f = f tt quotes.Sq
lead-fits v (quotes.Bare s) r White b F f = white-fits v s.uq
lead-fits v (quotes.Bare s) r QuotationMark b F f = tt
lead-fits v (quotes.Bare s) r Apostrophe b F f = tt
lead-fits v (quotes.Bare s) r GreaterThan b F f = (content-quiet v.tag).1
lead-fits v (quotes.Bare s) r c b F f = f tt bare_begun

start-taken : (q : Quotes) (c : Class) → Ordinary q c → (n : ScriptScan) (b : ℕ) → quoted_error script_feeding q n Closed c b ≡ None → TakesScript (plain_bytes c b) n
start-taken quotes.Dq QuotationMark o n b e = absurd o
start-taken quotes.Dq c o n b e = script-fed-taken (plain_bytes c b) n false 0 e
start-taken quotes.Sq Apostrophe o n b e = absurd o
start-taken quotes.Sq c o n b e = script-fed-taken (plain_bytes c b) n false 0 e
start-taken (quotes.Bare x) White o n b e = absurd o
start-taken (quotes.Bare x) QuotationMark o n b e = absurd o
start-taken (quotes.Bare x) Apostrophe o n b e = absurd o
start-taken (quotes.Bare x) GreaterThan o n b e = absurd o
start-taken (quotes.Bare x) c o n b e = plain-taken x.uq c b n e

value-fits : (v : ValuePlace) (x : Body) (c : Class) (b : ℕ) → IsValidBody x → v.body ≡ x → body_cause x v.quotes Closed c b ≡ None → ScanFits (value_next v NoTriple Closed c b)
value-fits v (body.Js j) c b w d e =
    lead-fits v v.quotes Closed c b (AtNext v c b)
    (λ o p. subst (λ (y : Body). ScanFits (value_fed v p y NoTriple Closed c b)) (sym d)
    (fit-fed (plain_bytes c b) (script_scan_start j) (script-start-valid j w) (scripts-clash.start j) (start-taken v.quotes c o (script_scan_start j) b e)))
value-fits v (body.Css s) c b w d e = (other-alone v (body.Css s) NoTriple Closed c b d (css-no-js s)).1
value-fits v (body.Url s) c b w d e = (other-alone v (body.Url s) NoTriple Closed c b d (parts-no-js s)).1
value-fits v body.Plain c b w d e = (other-alone v body.Plain NoTriple Closed c b d plain-no-js).1
value-fits v body.NoHole c b w d e = (other-alone v body.NoHole NoTriple Closed c b d hole-no-js).1

pub fits-next : (b : ℕ) (f : Scan) → ScanValid f → ScanFits f → script_shown f (class_of b) b ≡ None → scan_error f (class_of b) b ≡ None
    → ScanFits (scan_next f (class_of b) b)
fits-next b (InScript v m r) w fit q none =
    let c = class_of b in
    let told = quiet-told v.quotes r c b m q in
    lead-fits v v.quotes r c b (λ p. script_fed_next (value_between v p) m r c b)
    (λ o p. fit-fed (undone_byte true r c b) m w.2 fit
    (subst (λ (xs : List ℕ). TakesScript xs m) (quoted-undone v.quotes c o (begun-uq v.quotes w.0) r b) told.0))
fits-next b (At (place.Value v)) w fit q none =
    value-fits v v.body (class_of b) b w.1 refl (first-caused (body_cause v.body v.quotes Closed (class_of b) b) (at_hand (value_error v (class_of b))) none).0
fits-next b (At (place.Script j)) w fit q none = start-goes-fit b j w none
fits-next b (InScriptElement m h) w fit q none = element-goes-fit b m h w fit none
fits-next b (At place.Text) w fit q none = (text-alone (class_of b)).1
fits-next b (At place.Doctype) w fit q none = (doctype-alone (class_of b)).1
fits-next b (At (place.Comment s)) w fit q none = (comment-next-alone (class_of b) (comment_state s)).1
fits-next b (At (place.Rcdata e)) w fit q none = (content-alone (class_of b) e).1
fits-next b (At (place.Tag t)) w fit q none = (tag-alone t (class_of b) b).1
fits-next b (At (place.Block s)) w fit q none = (content-alone (class_of b) element.DataBlock).1
fits-next b (At (place.Style p)) w fit q none = (element-alone (style_scan_start p) (class_of b) b).1
fits-next b AfterLess w fit q none = (less-next-alone (class_of b) b).1
fits-next b AfterLessSolidus w fit q none = (solidus-alone (class_of b) b).1
fits-next b (InDeclaration s) w fit q none = (declaration-alone (declared_by (s ++ b ∷ [])) (class_of b) b s).1
fits-next b (InTagName e s) w fit q none = (tag-name-alone (class_of b) b e s).1
fits-next b (InAttributeName t z s) w fit q none = (attribute-alone (class_of b) b t z (kind_of (element_on t) s) s).1
fits-next b (InCommentEnd s) w fit q none = (comment-next-alone (class_of b) s).1
fits-next b (InContentEnd e h) w fit q none = (content-end-alone h (class_of b) b e).1
fits-next b (InStyleElement s h) w fit q none = (pending-alone s h (class_of b) b).1
fits-next b (InUrl v t z) w fit q none = (other-alone v v.body t z (class_of b) b refl (url-no-js v.body w.1)).1
fits-next b (InStyle v s z) w fit q none = (style-value-alone v s z (class_of b) b w.1).1
fits-next b (BeforeType t) w fit q none = (before-type-alone (class_of b) b t).1
fits-next b (InType t i v z) w fit q none = (type-alone (ends_value i (class_of b)) (class_of b) b t i v z).1
