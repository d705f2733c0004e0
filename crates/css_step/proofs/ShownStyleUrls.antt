-- A byte that a place in a style refuses is refused on paths that are at it: in a URL, and so everywhere.
use Rattle.std.proofs.Common.{◌≡◌, ℕ, Bool, true, false, ◌||◌, Option, Some, None, ◌⊎◌, inl, inr, refl, sym, ap, ◌∙◌, subst}
use Rattle.css_lexer.specs.Escapes.{StyleEscape, is_taken_in_style}
use Rattle.css_lexer.specs.RefusalCodes.{RefusalCode, AmbigContext}
use Rattle.css_lexer.specs.States.{Quote, DoubleQuote, SingleQuote}
use Rattle.css_lexer.specs.Urls.{url_refusal}
use Rattle.css_lexer.specs.declared.class.StyleClass.{StyleClass}
use Rattle.css_lexer.specs.declared.class.StyleClass.TheVariants as class
use Rattle.place_core.proofs.Semilattices.{none_some, one_value}
use Rattle.place_core.specs.declared.member.Member.{Member}
use Rattle.place_core.specs.declared.member.Member.TheVariants as member
use Rattle.place_core.specs.declared.parts.Parts.{Parts}
use Rattle.place_core.specs.declared.prefix.Prefix.TheVariants as prefix
use Rattle.place_core.specs.place.LanguagePlaces.{parts_have}
use Rattle.place_core.specs.place.Places.{is_whole}
use Rattle.place_core.specs.place.UrlParts.{parts_of}
use Rattle.url_lexer.specs.Classes.{url_class_of}
use Rattle.url_lexer.specs.Parts.{UrlPart}
use Rattle.url_lexer.specs.Refusals.{UrlRefusal, url_refuses_class}
use Rattle.url_lexer.specs.Triples.{Triple}
use Rattle.url_lexer.specs.declared.class.UrlClass.{UrlClass}
use Rattle.url_lexer.specs.declared.class.UrlClass.TheVariants as url_class
use Rattle.url_step.specs.PartOrigins.{PartBears, on_one, on_apart}
use Rattle.url_step.specs.PartSets.{parts_error, if_ambiguous, spells_apart}
use Rattle.url_step.proofs.OnePath.{one-error}
use Rattle.url_step.proofs.Shown.{colon-shown}
use Rattle.css_step.specs.StyleOrigins.{style_scan_has, StyleEvidence, style_on_apart}
use Rattle.css_step.specs.StyleScans.{StyleScan, ScanCode, ScanSplitEscape, ScanStarBefore, ScanBareUrl, ScanQuotedUrl, style_scan_error, style_url_error, style_bare_error, style_quoted_error}
use Rattle.css_step.proofs.StyleCases.{below-cases, PathScan}
use Rattle.css_step.proofs.StyleOrigins.{set-has}
use Rattle.css_step.proofs.StyleUrlOrigins.{own-part}
use Rattle.css_step.proofs.ShownStyles.{shown-by, only-shown, code-shown, split-shown, star-shown}

-- In a URL: refused on whatever part bears a member, or a `:` where prefixes differ.
abbrev IsShownInUrl : Parts → ℕ → RefusalCode → Type 0
IsShownInUrl s b e =
    ((x : Member) × (parts_have s x ≡ true) × ((p : UrlPart) → PartBears p x → style_url_error (parts_of p) b ≡ Some e))
    ⊎ ((s.opened ≡ Some prefix.Differs) × (url_class_of b ≡ url_class.Colon) × (e ≡ AmbigContext))

pub url-some : (o : Option UrlRefusal) (e : RefusalCode) → url_refusal o ≡ Some e → (r : UrlRefusal) × (o ≡ Some r) × (url_refusal (Some r) ≡ Some e)
url-some (Some r) e h = (r, refl, h)
url-some None e h = absurd (none_some e h)

colon-only : (s : Parts) (c : UrlClass) (r : UrlRefusal) → parts_error s c ≡ Some r → c ≡ url_class.Colon
colon-only s url_class.Colon r h = refl
colon-only s _ r h = absurd (none_some r h)

ambiguous : (x : Bool) (r : UrlRefusal) (e : RefusalCode) → if_ambiguous x ≡ Some r → url_refusal (Some r) ≡ Some e → e ≡ AmbigContext
ambiguous true r e h k = sym (one_value AmbigContext e (ap url_refusal h ∙ k))
ambiguous false r e h k = absurd (none_some r h)

url-shown : (s : Parts) (b : ℕ) (e : RefusalCode) → style_url_error s b ≡ Some e → IsShownInUrl s b e
url-shown s b e h =
    let r = url-some (parts_error s (url_class_of b)) e h in
    let u = colon-only s (url_class_of b) r.0 r.1 in
    let k : parts_error s url_class.Colon ≡ Some r.0 = ap (parts_error s) (sym u) ∙ r.1 in
    elim (colon-shown s r.0 k) [
      | on_one x i f ↦ inl (x, i, λ p j. ap url_refusal (one-error p (url_class_of b) ∙ (ap (url_refuses_class p) u ∙ f p j)) ∙ r.2)
      | on_apart d ↦ inr (d, u, ambiguous (s.openhole || spells_apart s.opened) r.0 e k r.2)
    ]

part-refused : (s : Parts) (b : ℕ) (e : RefusalCode) (x : Member) → parts_have s x ≡ true → ((p : UrlPart) → PartBears p x → style_url_error (parts_of p) b ≡ Some e)
    → (r : Parts) (p : UrlPart) → r ≡ parts_of p → (is_whole x || parts_have r x) ≡ true → style_url_error r b ≡ Some e
part-refused s b e x h f r p i j =
    subst (λ (z : Parts). style_url_error z b ≡ Some e) (sym i)
    (f p (own-part s p x h (subst (λ (z : Parts). (is_whole x || parts_have z x) ≡ true) i j)))

bare-fed : (s : Parts) (t : Triple) (c : StyleClass) (b : ℕ) (e : RefusalCode) → ((r : Parts) → style_scan_error (ScanBareUrl r t) c b ≡ style_url_error r b)
    → style_url_error s b ≡ Some e → StyleEvidence (ScanBareUrl s t) c b e
bare-fed s t c b e g h =
    elim (url-shown s b e h) [
      | inl o ↦ shown-by (ScanBareUrl s t) c b e o.0 (set-has (is_whole o.0) (parts_have s o.0) o.1)
          (λ v k i. below-cases (λ (k : StyleScan). PathScan v k → style_scan_has k o.0 ≡ true → style_scan_error k c b ≡ Some e) k _ i
          (λ r j p k. g r ∙ part-refused s b e o.0 o.1 o.2 r p.0 p.2 k))
      | inr d ↦ style_on_apart s refl d.0 d.1 d.2
    ]

quoted-fed : (q : Quote) (z : StyleEscape) (s : Parts) (t : Triple) (c : StyleClass) (b : ℕ) (e : RefusalCode)
    → ((r : Parts) → style_scan_error (ScanQuotedUrl q z r t) c b ≡ style_url_error r b) → style_url_error s b ≡ Some e → StyleEvidence (ScanQuotedUrl q z s t) c b e
quoted-fed q z s t c b e g h =
    elim (url-shown s b e h) [
      | inl o ↦ shown-by (ScanQuotedUrl q z s t) c b e o.0 (set-has (is_whole o.0) (parts_have s o.0) o.1)
          (λ v k i. below-cases (λ (k : StyleScan). PathScan v k → style_scan_has k o.0 ≡ true → style_scan_error k c b ≡ Some e) k _ i
          (λ r j p k. g r ∙ part-refused s b e o.0 o.1 o.2 r p.0 p.2 k))
      | inr d ↦ style_on_apart s refl d.0 d.1 d.2
    ]

-- whatever the parts are
bare-always : (s : Parts) (t : Triple) (c : StyleClass) (b : ℕ) (e : RefusalCode) → ((r : Parts) → style_scan_error (ScanBareUrl r t) c b ≡ Some e) → StyleEvidence (ScanBareUrl s t) c b e
bare-always s t c b e h =
    shown-by (ScanBareUrl s t) c b e member.Whole refl (λ v k i p j. below-cases (λ (k : StyleScan). style_scan_error k c b ≡ Some e) k _ i (λ r j. h r))

quoted-always : (q : Quote) (z : StyleEscape) (s : Parts) (t : Triple) (c : StyleClass) (b : ℕ) (e : RefusalCode) → ((r : Parts) → style_scan_error (ScanQuotedUrl q z r t) c b ≡ Some e)
    → StyleEvidence (ScanQuotedUrl q z s t) c b e
quoted-always q z s t c b e h =
    shown-by (ScanQuotedUrl q z s t) c b e member.Whole refl (λ v k i p j. below-cases (λ (k : StyleScan). style_scan_error k c b ≡ Some e) k _ i (λ r j. h r))

bare-shown : (s : Parts) (t : Triple) (c : StyleClass) (b : ℕ) (e : RefusalCode) → style_bare_error (style_url_error s b) c ≡ Some e → StyleEvidence (ScanBareUrl s t) c b e
bare-shown s t class.Blank b e h = absurd (none_some e h)
bare-shown s t class.Newline b e h = absurd (none_some e h)
bare-shown s t class.RightParenthesis b e h = absurd (none_some e h)
bare-shown s t class.QuotationMark b e h = bare-always s t class.QuotationMark b e (λ r. h)
bare-shown s t class.Apostrophe b e h = bare-always s t class.Apostrophe b e (λ r. h)
bare-shown s t class.LeftParenthesis b e h = bare-always s t class.LeftParenthesis b e (λ r. h)
bare-shown s t class.ReverseSolidus b e h = bare-always s t class.ReverseSolidus b e (λ r. h)
bare-shown s t c b e h = bare-fed s t c b e (λ r. refl) h

-- `taken` is whether a backslash takes the byte
by-taken : (q : Quote) (z : StyleEscape) (r : Parts) (c : StyleClass) (b : ℕ) (taken : Bool) → is_taken_in_style z b ≡ taken
    → style_quoted_error (style_url_error r b) (is_taken_in_style z b) q c ≡ style_quoted_error (style_url_error r b) taken q c
by-taken q z r c b taken i = ap (λ (x : Bool). style_quoted_error (style_url_error r b) x q c) i

quoted-shown : (taken : Bool) (q : Quote) (z : StyleEscape) (s : Parts) (t : Triple) (c : StyleClass) (b : ℕ) (e : RefusalCode) → is_taken_in_style z b ≡ taken
    → style_quoted_error (style_url_error s b) taken q c ≡ Some e → StyleEvidence (ScanQuotedUrl q z s t) c b e
quoted-shown true q z s t c b e i h = quoted-fed q z s t c b e (λ r. by-taken q z r c b true i) h
quoted-shown false DoubleQuote z s t class.QuotationMark b e i h = absurd (none_some e h)
quoted-shown false SingleQuote z s t class.Apostrophe b e i h = absurd (none_some e h)
quoted-shown false q z s t class.Newline b e i h = quoted-always q z s t class.Newline b e (λ r. by-taken q z r class.Newline b false i ∙ h)
quoted-shown false q z s t c b e i h = quoted-fed q z s t c b e (λ r. by-taken q z r c b false i) h

pub byte-shown : (n : StyleScan) (c : StyleClass) (b : ℕ) (e : RefusalCode) → style_scan_error n c b ≡ Some e → StyleEvidence n c b e
byte-shown (ScanCode x) c b e h = code-shown x c b e h
byte-shown (ScanSplitEscape z) c b e h = split-shown z c b e h
byte-shown ScanStarBefore c b e h = star-shown c b e h
byte-shown (ScanBareUrl s t) c b e h = bare-shown s t c b e h
byte-shown (ScanQuotedUrl q z s t) c b e h = quoted-shown (is_taken_in_style z b) q z s t c b e refl h
byte-shown n c b e h = only-shown n c b e (λ k i. below-cases (λ (z : StyleScan). n ≡ z) k n i refl) h
