-- What shows that a byte of a value that is a style is refused, at a place and in a lexeme or a reference alike: of a value with these quotes and
-- this scan state of the style.
use Rattle.std.proofs.Common.{◌≡◌, ◌≤◌, ℕ, Bool, true, false, ◌&&◌, List, Option, Some, None, if◌then◌else◌, refl, sym, ap, ◌∙◌, subst}
use Rattle.css_step.specs.StyleOrigins.{style_scan_has, style_scan_parts}
use Rattle.css_step.specs.StyleScans.{StyleScan, style_between}
use Rattle.css_step.specs.StyleSetLaws.{StyleScanBelow}
use Rattle.place_core.proofs.Semilattices.{none_some, one_value}
use Rattle.place_core.specs.page.Classes.{Class, White, QuotationMark, Apostrophe, LessThan, EqualsSign, GreaterThan, GraveAccent, class_of}
use Rattle.place_core.specs.page.References.{Form, Reference, Closed, Open, plain_bytes, undone_byte}
use Rattle.place_core.specs.place.Errors.{PathCause, at_hand, bare_error, first_cause, quotes_error}
use Rattle.place_core.specs.place.Places.{joined_quotes, quotes_have}
use Rattle.place_core.specs.declared.bare.Bare.{Bare}
use Rattle.place_core.specs.declared.code.Code.{Code}
use Rattle.place_core.specs.declared.code.Code.TheVariants as code
use Rattle.place_core.specs.declared.member.Member.{Member}
use Rattle.place_core.specs.declared.member.Member.TheVariants as member
use Rattle.place_core.specs.declared.quotes.Quotes.{Quotes}
use Rattle.place_core.specs.declared.quotes.Quotes.TheVariants as quotes
use Rattle.place_core.specs.declared.tag_of.TagOf.{TagOf}
use Rattle.place_core.specs.declared.value_place.ValuePlace.{ValuePlace}
use Rattle.html_scan.specs.Scans.{Scan, InStyle, quoted_error, style_feeding}
use Rattle.html_step.specs.Laws.{EvidenceData, apart, one, two}
use Rattle.html_step.specs.Origins.{bare_shows, is_apart, met_before, quotes_show, style_fed_shown, style_or_quotes, style_shows, style_value_shows}
use Rattle.html_step.proofs.Characters.{ReferencePlain}
use Rattle.html_step.proofs.OwnStyles.{has_begun}
use Rattle.html_step.proofs.ScanOrder.{BegunWhereOpen, ScanHas, StyleValueBelow, quoted-takes}
use Rattle.html_step.proofs.ShownBytes.{TwoShown, by_style, by_white}
use Rattle.html_step.proofs.StyleFedShown.{BeginsColon, NotHtml}
use Rattle.html_step.proofs.StyleOrder.{styles-beside}
use Rattle.html_step.proofs.StyleQuoted.{StyleShown, TakesQuote, colon-takes, empty-takes, on_member, on_met, on_name, on_two, open-takes, style-quoted, style-same-quoted}
use Rattle.html_step.proofs.StyleValues.{in-quotes, in-scan, out-scan, set-unquoted, style-cases, style_has}
use Rattle.html_step.proofs.UrlScans.{reference_length}

no : false ≡ true → ⊥
no e = cc

-- why a byte is refused
abbrev pub StyleError : ValuePlace → StyleScan → Reference → Class → ℕ → Option PathCause
StyleError v n r c b = first_cause (quoted_error style_feeding v.quotes n r c b) (at_hand (quotes_error v.tag v.quotes c))

-- where the value of a path has not begun, its style is empty
abbrev pub EmptyUnbegun : Quotes → StyleScan → Type 0
EmptyUnbegun q k = has_begun q ≡ false → k ≡ style_between

abbrev pub StyleOne : ValuePlace → StyleScan → Reference → Class → ℕ → PathCause → Member → Type 0
StyleOne v n r c b e x = (style_has v.typed v.quotes n x ≡ true)
    × ((u : ValuePlace) (k : StyleScan) → BegunWhereOpen r u.quotes → EmptyUnbegun u.quotes k → StyleValueBelow u v k n
    → style_has u.typed u.quotes k x ≡ true → StyleError u k r c b ≡ Some e)

pub record StyleApart (v : ValuePlace) (n : StyleScan) (r : Reference) (c : Class) (b : ℕ) (e : PathCause) : Type 0 where
  pub there : is_apart (style_scan_parts n) ≡ true
  pub code : e.code ≡ code.AmbigContext
  pub back : e.back ≤ reference_length r
  pub refuses : (u : ValuePlace) (k : StyleScan) → BegunWhereOpen r u.quotes → StyleValueBelow u v k n → is_apart (style_scan_parts k) ≡ true
      → StyleError u k r c b ≡ Some e

abbrev pub StyleEvidence : ValuePlace → StyleScan → Scan → Reference → Class → ℕ → PathCause → EvidenceData → Type 0
StyleEvidence v n f r c b e (one x) = StyleOne v n r c b e x
StyleEvidence v n f r c b e (two x y) = TwoShown f c b e x y
StyleEvidence v n f r c b e apart = StyleApart v n r c b e

-- Where the style refuses nothing, what refuses stands in the quotes.
one-by : (v : ValuePlace) (n : StyleScan) (r : Reference) (c : Class) (b : ℕ) (e : PathCause) (x : Member)
    → quoted_error style_feeding v.quotes n r c b ≡ None → style_has v.typed v.quotes n x ≡ true
    → ((u : ValuePlace) (k : StyleScan) → StyleValueBelow u v k n → style_has u.typed u.quotes k x ≡ true
    → at_hand (quotes_error u.tag u.quotes c) ≡ Some e)
    → StyleOne v n r c b e x
one-by v n r c b e x m h f = (
  h,
  λ u k i own l o. ap (λ (p : Option PathCause). first_cause p (at_hand (quotes_error u.tag u.quotes c)))
      (quoted-takes styles-beside u.quotes v.quotes r c b k n l.quotes i l.scan m) ∙ f u k l o,
)

-- a value without quotes: what is below it has none
bare-below : (P : Quotes → Type 0) (r : Bare) → ((s : Bare) → P (quotes.Bare s)) → (q : Quotes)
    → joined_quotes q (quotes.Bare r) ≡ Some (quotes.Bare r) → P q
bare-below P r f (quotes.Bare s) h = f s
bare-below P r f quotes.Dq h = absurd (none_some (quotes.Bare r) h)
bare-below P r f quotes.Sq h = absurd (none_some (quotes.Bare r) h)

-- on all paths alike
quotes-alike : (u v : ValuePlace) (k n : StyleScan) (p : Bare) (c : Class) (e : PathCause) → v.quotes ≡ quotes.Bare p → StyleValueBelow u v k n
    → ((s : Bare) → quotes_have (quotes.Bare s) member.UnquotedValue ≡ true → at_hand (bare_error v.tag s c) ≡ Some e)
    → quotes_have u.quotes member.UnquotedValue ≡ true → at_hand (quotes_error u.tag u.quotes c) ≡ Some e
quotes-alike u v k n p c e q l f o =
    ap (λ (x : TagOf). at_hand (quotes_error x u.quotes c)) l.tag
    ∙ bare-below (λ (z : Quotes). quotes_have z member.UnquotedValue ≡ true → at_hand (quotes_error v.tag z c) ≡ Some e) p f u.quotes
    (subst (λ (z : Quotes). joined_quotes u.quotes z ≡ Some z) q l.quotes) o

evidence-bare : (v : ValuePlace) (n : StyleScan) (p : Bare) (r : Reference) (c : Class) (b : ℕ) (e : PathCause)
    → quoted_error style_feeding v.quotes n r c b ≡ None → v.quotes ≡ quotes.Bare p → at_hand (bare_error v.tag p c) ≡ Some e
    → ((s : Bare) → bare_error v.tag s c ≡ bare_error v.tag p c) → StyleOne v n r c b e member.Whole
evidence-bare v n p r c b e m q h same =
    one-by v n r c b e member.Whole m refl
    (λ u k l o. ap (λ (x : TagOf). at_hand (quotes_error x u.quotes c)) l.tag
    ∙ bare-below (λ (z : Quotes). at_hand (quotes_error v.tag z c) ≡ Some e) p (λ s. ap at_hand (same s) ∙ h) u.quotes
    (subst (λ (z : Quotes). joined_quotes u.quotes z ≡ Some z) q l.quotes))

-- a quotation mark where a value may have begun
unquoted-only : (x : Bool) (q : Quotes) (k : StyleScan) → style_has x q k member.UnquotedValue ≡ true → quotes_have q member.UnquotedValue ≡ true
unquoted-only x q k h =
    style-cases (quotes_have q member.UnquotedValue ≡ true) x q k member.UnquotedValue h (λ e. absurd (no e)) (λ e. absurd (no e)) (λ e. e)
    (λ e. absurd (set-unquoted k e))

has-quotes : (v : ValuePlace) (n : StyleScan) (p : Bare) (y : Member) → v.quotes ≡ quotes.Bare p → quotes_have (quotes.Bare p) y ≡ true
    → style_has v.typed v.quotes n y ≡ true
has-quotes v n p y q h = in-quotes v.typed v.quotes n y (ap (λ (z : Quotes). quotes_have z y) q ∙ h)

evidence-uq : (v : ValuePlace) (n : StyleScan) (p : Bare) (r : Reference) (c : Class) (b : ℕ) (e : PathCause)
    → quoted_error style_feeding v.quotes n r c b ≡ None → v.quotes ≡ quotes.Bare p → p.uq ≡ true → at_hand (bare_error v.tag p c) ≡ Some e
    → ((x : TagOf) (s : Bare) → bare_error x s c ≡ (if s.uq then Some code.BadHTML else None)) → StyleOne v n r c b e member.UnquotedValue
evidence-uq v n p r c b e m q uq h same =
    one-by v n r c b e member.UnquotedValue m (has-quotes v n p member.UnquotedValue q uq)
    (λ u k l o. quotes-alike u v k n p c e q l
    (λ s there. ap at_hand (same v.tag s ∙ ap (λ (x : Bool). if x then Some code.BadHTML else None) (there ∙ sym uq) ∙ sym (same v.tag p)) ∙ h)
    (unquoted-only u.typed u.quotes k o))

if-some : (b : Bool) (e : Code) (x : PathCause) → at_hand (if b then Some e else None) ≡ Some x → b ≡ true
if-some true e x h = refl
if-some false e x h = absurd (none_some x h)

if-is : (b : Bool) (e : Code) (x : PathCause) → at_hand (if b then Some e else None) ≡ Some x → x ≡ record { code = e; back = 0; shown = 0 }
if-is true e x h = sym (one_value (record { code = e; back = 0; shown = 0 }) x h)
if-is false e x h = absurd (none_some x h)

both-true : (x y : Bool) → (x && y) ≡ true → (x ≡ true) × (y ≡ true)
both-true true true h = (refl, refl)
both-true true false h = absurd (no h)
both-true false y h = absurd (no h)

evidence-bare-byte : (v : ValuePlace) (n : StyleScan) (f : Scan) (p : Bare) (r : Reference) (c : Class) (b : ℕ) (e : PathCause)
    → ((y : Member) → style_has v.typed v.quotes n y ≡ true → ScanHas f y) → quoted_error style_feeding v.quotes n r c b ≡ None
    → v.quotes ≡ quotes.Bare p
    → at_hand (bare_error v.tag p c) ≡ Some e → StyleEvidence v n f r c b e (bare_shows c)
evidence-bare-byte v n f p r White b e into m q h =
    let d = both-true p.uq p.unbegun (if-some (p.uq && p.unbegun) code.AmbigContext e h) in
    by_white refl refl refl (into member.UnquotedValue (has-quotes v n p member.UnquotedValue q d.0))
    (into member.UnbegunValue (has-quotes v n p member.UnbegunValue q d.1)) (if-is (p.uq && p.unbegun) code.AmbigContext e h)
evidence-bare-byte v n f p r QuotationMark b e into m q h = evidence-uq v n p r QuotationMark b e m q (if-some p.uq code.BadHTML e h) h (λ x s. refl)
evidence-bare-byte v n f p r Apostrophe b e into m q h = evidence-uq v n p r Apostrophe b e m q (if-some p.uq code.BadHTML e h) h (λ x s. refl)
evidence-bare-byte v n f p r LessThan b e into m q h = evidence-bare v n p r LessThan b e m q h (λ s. refl)
evidence-bare-byte v n f p r EqualsSign b e into m q h = evidence-bare v n p r EqualsSign b e m q h (λ s. refl)
evidence-bare-byte v n f p r GraveAccent b e into m q h = evidence-bare v n p r GraveAccent b e m q h (λ s. refl)
evidence-bare-byte v n f p r GreaterThan b e into m q h = evidence-bare v n p r GreaterThan b e m q h (λ s. refl)
evidence-bare-byte v n f p r _ b e into m q h = absurd (none_some e h)

evidence-in-quotes : (v : ValuePlace) (n : StyleScan) (f : Scan) (q : Quotes) (r : Reference) (c : Class) (b : ℕ) (e : PathCause)
    → ((y : Member) → style_has v.typed v.quotes n y ≡ true → ScanHas f y) → quoted_error style_feeding v.quotes n r c b ≡ None → v.quotes ≡ q
    → at_hand (quotes_error v.tag q c) ≡ Some e → StyleEvidence v n f r c b e (quotes_show None q c)
evidence-in-quotes v n f (quotes.Bare p) r c b e into m q h = evidence-bare-byte v n f p r c b e into m q h
evidence-in-quotes v n f quotes.Dq r c b e into m q h = absurd (none_some e h)
evidence-in-quotes v n f quotes.Sq r c b e into m q h = absurd (none_some e h)

-- What the style refuses: of each value below, whose scan state is refused so.
style-error : (u v : ValuePlace) (k n : StyleScan) (r : Reference) (c : Class) (b : ℕ) (e : PathCause) → BegunWhereOpen r u.quotes
    → TakesQuote u.quotes k c b
    → StyleValueBelow u v k n → quoted_error style_feeding v.quotes k r c b ≡ Some e → StyleError u k r c b ≡ Some e
style-error u v k n r c b e i t l h =
    ap (λ (o : Option PathCause). first_cause o (at_hand (quotes_error u.tag u.quotes c)))
    (style-same-quoted u.quotes v.quotes r k c b l.quotes i t ∙ h)

style-one : (v : ValuePlace) (n : StyleScan) (r : Reference) (c : Class) (b : ℕ) (e : PathCause) (x : Member) → style_scan_has n x ≡ true
    → ((k : StyleScan) → StyleScanBelow k n → style_scan_has k x ≡ true → quoted_error style_feeding v.quotes k r c b ≡ Some e)
    → StyleOne v n r c b e x
style-one v n r c b e x h refuses = (
  in-scan v.typed v.quotes n x h,
  λ u k i own l o. style-error u v k n r c b e i (empty-takes u.quotes k c b own) l (refuses k l.scan (out-scan n k u.typed u.quotes x h o)),
)

pub style-apart : (v : ValuePlace) (n : StyleScan) (r : Reference) (c : Class) (b : ℕ) (e : PathCause) → c ≡ class_of b
    → is_apart (style_scan_parts n) ≡ true → (r ≡ Closed → BeginsColon (plain_bytes c b)) → e.code ≡ code.AmbigContext → e.back ≤ reference_length r
    → ((k : StyleScan) → StyleScanBelow k n → is_apart (style_scan_parts k) ≡ true → quoted_error style_feeding v.quotes k r c b ≡ Some e)
    → StyleApart v n r c b e
style-apart v n r c b e g there colon code back refuses = record {
  there = there;
  code = code;
  back = back;
  refuses = λ u k i l o. style-error u v k n r c b e i (open-takes r u.quotes k c b i (λ j. colon-takes u.quotes k c b g (colon j))) l
      (refuses k l.scan o);
}

-- the evidence, by the code of what is refused
html-shows : (n : StyleScan) (bytes : List ℕ) (x : Code) → x ≡ code.BadHTML → style_shows n bytes x ≡ one member.Whole
html-shows n bytes x i = ap (style_shows n bytes) i

met-shows : (n : StyleScan) (bytes : List ℕ) (x : Code) → NotHtml x
    → style_shows n bytes x ≡ met_before (style_scan_parts n) (style_fed_shown bytes n)
met-shows n bytes code.BadHTML i = absurd i
met-shows n bytes _ i = refl

ambiguous-code : (x : Code) → x ≡ code.AmbigContext → NotHtml x
ambiguous-code x i = subst NotHtml (sym i) tt

by-shown : (v : ValuePlace) (n : StyleScan) (f : Scan) (r : Reference) (c : Class) (b : ℕ) (e : PathCause)
    → ((y : Member) → style_has v.typed v.quotes n y ≡ true → ScanHas f y)
    → ((k : Form) (bytes : List ℕ) → r ≡ Open k bytes → f ≡ InStyle v n (Open k bytes))
    → c ≡ class_of b → quoted_error style_feeding v.quotes n r c b ≡ Some e
    → StyleShown n r c b e (λ k. quoted_error style_feeding v.quotes k r c b)
    → StyleEvidence v n f r c b e (style_shows n (undone_byte true r c b) e.code)
by-shown v n f r c b e into at g h (on_name i refuses) =
    subst (StyleEvidence v n f r c b e) (sym (html-shows n (undone_byte true r c b) e.code i))
    (style-one v n r c b e member.Whole refl (λ k l o. refuses k))
by-shown v n f r c b e into at g h (on_member x shown there nh refuses) =
    subst (StyleEvidence v n f r c b e)
    (sym (met-shows n (undone_byte true r c b) e.code nh ∙ ap (met_before (style_scan_parts n)) shown)) (style-one v n r c b e x there refuses)
by-shown v n f r c b e into at g h (on_met shown there colon is back refuses) =
    subst (StyleEvidence v n f r c b e)
    (sym (met-shows n (undone_byte true r c b) e.code (ambiguous-code e.code is) ∙ ap (met_before (style_scan_parts n)) shown
    ∙ ap (λ (x : Bool). if x then apart else two member.PartStart member.PartOpen) there))
    (style-apart v n r c b e g there colon is back refuses)
by-shown v n f r c b e into at g h (on_two s k bytes j p turns taken not-yet shown behind came is starts opens) =
    subst (StyleEvidence v n f r c b e)
    (sym (met-shows n (undone_byte true r c b) e.code (ambiguous-code e.code is) ∙ ap (met_before (style_scan_parts n)) shown
    ∙ ap (λ (x : Bool). if x then apart else two member.PartStart member.PartOpen) (ap is_apart p ∙ not-yet)))
    (by_style v n k bytes s (at k bytes j) p turns taken not-yet behind came is
    (ap (λ (z : Reference). quoted_error style_feeding v.quotes n z c b) (sym j) ∙ h) refl refl
    (into member.PartStart (in-scan v.typed v.quotes n member.PartStart starts))
    (into member.PartOpen (in-scan v.typed v.quotes n member.PartOpen opens)))

by-cause : (v : ValuePlace) (n : StyleScan) (f : Scan) (r : Reference) (c : Class) (b : ℕ) (e : PathCause) (o : Option PathCause)
    → ((y : Member) → style_has v.typed v.quotes n y ≡ true → ScanHas f y)
    → ((k : Form) (bytes : List ℕ) → r ≡ Open k bytes → f ≡ InStyle v n (Open k bytes))
    → c ≡ class_of b → BegunWhereOpen r v.quotes → ReferencePlain r → quoted_error style_feeding v.quotes n r c b ≡ o
    → first_cause o (at_hand (quotes_error v.tag v.quotes c)) ≡ Some e
    → StyleEvidence v n f r c b e (style_or_quotes o n (undone_byte true r c b) (quotes_show None v.quotes c))
by-cause v n f r c b e None into at g i a m h = evidence-in-quotes v n f v.quotes r c b e into m refl h
by-cause v n f r c b e (Some x) into at g i a m h =
    subst (λ (z : PathCause). StyleEvidence v n f r c b e (style_shows n (undone_byte true r c b) z.code)) (sym (one_value x e h))
    (by-shown v n f r c b e into at g (m ∙ h) (style-quoted v.quotes r n c b e i a (m ∙ h)))

pub style-evidence : (v : ValuePlace) (n : StyleScan) (f : Scan) (r : Reference) (c : Class) (b : ℕ) (e : PathCause)
    → ((y : Member) → style_has v.typed v.quotes n y ≡ true → ScanHas f y)
    → ((k : Form) (bytes : List ℕ) → r ≡ Open k bytes → f ≡ InStyle v n (Open k bytes))
    → c ≡ class_of b → BegunWhereOpen r v.quotes → ReferencePlain r → StyleError v n r c b ≡ Some e
    → StyleEvidence v n f r c b e (style_value_shows v n r c b)
style-evidence v n f r c b e into at g i a h = by-cause v n f r c b e (quoted_error style_feeding v.quotes n r c b) into at g i a refl h
