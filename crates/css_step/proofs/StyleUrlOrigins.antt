-- Members of a place in a style come from members before, at a byte: in a URL, and so everywhere.
use Rattle.std.proofs.Common.{◌≡◌, ℕ, Bool, true, false, ◌||◌, None, refl, sym, ap, ◌∙◌, subst}
use Rattle.css_lexer.specs.Escapes.{StyleEscape, is_taken_in_style}
use Rattle.css_lexer.specs.States.{Quote, DoubleQuote, SingleQuote, Style}
use Rattle.css_lexer.specs.Steps.{style_next}
use Rattle.css_lexer.specs.Urls.{urls}
use Rattle.css_lexer.specs.declared.class.StyleClass.{StyleClass}
use Rattle.css_lexer.specs.declared.class.StyleClass.TheVariants as class
use Rattle.place_core.specs.declared.member.Member.{Member}
use Rattle.place_core.specs.declared.member.Member.TheVariants as member
use Rattle.place_core.specs.declared.parts.Parts.{Parts}
use Rattle.place_core.specs.place.LanguagePlaces.{parts_have}
use Rattle.place_core.specs.place.Places.{is_whole}
use Rattle.place_core.specs.place.UrlParts.{parts_of}
use Rattle.url_lexer.specs.Classes.{url_class_of}
use Rattle.url_lexer.specs.Parts.{UrlPart}
use Rattle.url_lexer.specs.States.{Url}
use Rattle.url_lexer.specs.Triples.{Triple}
use Rattle.url_step.specs.PartSets.{PartsBelow, HasPart, parts_next, parts_error}
use Rattle.url_step.proofs.OnePath.{one-next}
use Rattle.url_step.proofs.Origins.{either, parts-come-from}
use Rattle.css_step.specs.StyleOrigins.{style_scan_has, IsStyleOrigin}
use Rattle.css_step.specs.StyleScans.{StyleScan, ScanCode, ScanSplitEscape, ScanStarBefore, ScanBareUrl, ScanQuotedUrl, ScanEnded, style_between, style_bare_next, style_quoted_next, style_scan_next, style_scan_error, style_url_error, style_bare_error, style_quoted_error}
use Rattle.css_step.specs.StyleScanLaws.{IsStyleScan, OneStyle}
use Rattle.css_step.specs.StyleSetLaws.{StyleScanBelow}
use Rattle.css_step.proofs.OneStylePath.{given, one-style}
use Rattle.css_step.proofs.StyleCases.{below-cases, PathScan}
use Rattle.css_step.proofs.StyleGrowth.{url-none, styles-grow}
use Rattle.css_step.proofs.StyleOrigins.{From, At, from-all, from-code, from-split, from-star, set-has, origin-by}

no : false ≡ true → ⊥
no e = cc

-- A member comes from one of a set of parts, for a scan that has the set: on whatever path has a part that bears it.
abbrev pub HasOrAll : Parts → Member → Type 0
HasOrAll s x = (is_whole x || parts_have s x) ≡ true

abbrev pub PartLeads : Parts → (Parts → StyleScan) → Member → Type 0
PartLeads s g y = (x : Member) × HasOrAll s x × ((p : UrlPart) → HasPart s p → HasOrAll (parts_of p) x → style_scan_has (g (parts_of p)) y ≡ true)

whole-part : (s : Parts) (x : Member) → is_whole x ≡ true → parts_have s x ≡ true → ⊥
whole-part s member.Whole e h = no h
whole-part s _ e h = no e

pub own-part : (s : Parts) (p : UrlPart) (x : Member) → parts_have s x ≡ true → HasOrAll (parts_of p) x → parts_have (parts_of p) x ≡ true
own-part s p x h k =
    either (parts_have (parts_of p) x ≡ true) (is_whole x) (parts_have (parts_of p) x) k (λ e. absurd (whole-part s x e h)) (λ e. e)

-- where the scan behind has none of them
pub part-all : (s : Parts) (m : StyleScan) (y : Member) → style_scan_has m y ≡ true → PartLeads s (λ r. m) y
part-all s m y h = (member.Whole, refl, λ p i k. h)

-- where it has those behind the byte
abbrev Fed : Parts → ℕ → Member → Type 0
Fed s b y = (x : Member) × HasOrAll s x
    × ((p : UrlPart) → HasPart s p → HasOrAll (parts_of p) x → HasOrAll (parts_next (parts_of p) (url_class_of b) b) y)

fed-set : (s : Parts) (b : ℕ) (y : Member) → parts_error s (url_class_of b) ≡ None → parts_have (parts_next s (url_class_of b) b) y ≡ true → Fed s b y
fed-set s b y e h =
    let o = parts-come-from s (url_class_of b) b y e h in (
      o.0,
      set-has (is_whole o.0) (parts_have s o.0) o.1.has,
      λ p i k. set-has (is_whole y) (parts_have (parts_next (parts_of p) (url_class_of b) b) y)
          (ap (λ (z : Parts). parts_have z y) (one-next p (url_class_of b) b) ∙ o.1.leads p i (own-part s p o.0 o.1.has k)),
    )

fed : (s : Parts) (b : ℕ) (y : Member) → style_url_error s b ≡ None → HasOrAll (parts_next s (url_class_of b) b) y → Fed s b y
fed s b y e h =
    either (Fed s b y) (is_whole y) (parts_have (parts_next s (url_class_of b) b) y) h
    (λ k. (member.Whole, refl, λ p i j. ap (λ (z : Bool). z || parts_have (parts_next (parts_of p) (url_class_of b) b) y) k))
    (λ k. fed-set s b y (url-none (parts_error s (url_class_of b)) e) k)

bare-from : (s : Parts) (t : Triple) (c : StyleClass) (b : ℕ) (y : Member) → style_bare_error (style_url_error s b) c ≡ None
    → style_scan_has (style_bare_next s t c b) y ≡ true → PartLeads s (λ r. style_bare_next r t c b) y
bare-from s t class.Blank b y e h = part-all s ScanEnded y h
bare-from s t class.Newline b y e h = part-all s ScanEnded y h
bare-from s t class.RightParenthesis b y e h = part-all s style_between y h
bare-from s t class.QuotationMark b y e h = absurd (given _ e)
bare-from s t class.Apostrophe b y e h = absurd (given _ e)
bare-from s t class.LeftParenthesis b y e h = absurd (given _ e)
bare-from s t class.ReverseSolidus b y e h = absurd (given _ e)
bare-from s t _ b y e h = fed s b y e h

quoted-from : (taken : Bool) (q : Quote) (z : StyleEscape) (s : Parts) (t : Triple) (c : StyleClass) (b : ℕ) (y : Member)
    → style_quoted_error (style_url_error s b) taken q c ≡ None → style_scan_has (style_quoted_next taken q z s t c b) y ≡ true
    → PartLeads s (λ r. style_quoted_next taken q z r t c b) y
quoted-from true q z s t c b y e h = fed s b y e h
quoted-from false DoubleQuote z s t class.QuotationMark b y e h = part-all s ScanEnded y h
quoted-from false SingleQuote z s t class.Apostrophe b y e h = part-all s ScanEnded y h
quoted-from false q z s t class.Newline b y e h = absurd (given _ e)
quoted-from false q z s t class.ReverseSolidus b y e h = fed s b y e h
quoted-from false q z s t c b y e h = fed s b y e h

-- a scan with a set of parts
pub by-part : (s r : Parts) (g : Parts → StyleScan) (y x : Member)
    → ((p : UrlPart) → HasPart s p → HasOrAll (parts_of p) x → style_scan_has (g (parts_of p)) y ≡ true)
    → PartsBelow r s → (p : UrlPart) → r ≡ parts_of p → HasOrAll r x → style_scan_has (g r) y ≡ true
by-part s r g y x f h p e k =
    subst (λ (z : Parts). style_scan_has (g z) y ≡ true) (sym e)
    (f p (subst (λ (z : Parts). PartsBelow z s) e h) (subst (λ (z : Parts). HasOrAll z x) e k))

pub from-bare : (s : Parts) (t : Triple) (f : StyleScan → StyleScan) (y : Member) → PartLeads s (λ r. f (ScanBareUrl r t)) y → From (ScanBareUrl s t) f y
from-bare s t f y o = (
  o.0,
  o.1,
  λ v k i. below-cases (λ (k : StyleScan). PathScan v k → style_scan_has k o.0 ≡ true → style_scan_has (f k) y ≡ true) k _ i
      (λ r h p j. by-part s r (λ r. f (ScanBareUrl r t)) y o.0 o.2 h p.0 p.2 j),
)

pub from-quoted : (q : Quote) (z : StyleEscape) (s : Parts) (t : Triple) (f : StyleScan → StyleScan) (y : Member)
    → PartLeads s (λ r. f (ScanQuotedUrl q z r t)) y → From (ScanQuotedUrl q z s t) f y
from-quoted q z s t f y o = (
  o.0,
  o.1,
  λ v k i. below-cases (λ (k : StyleScan). PathScan v k → style_scan_has k o.0 ≡ true → style_scan_has (f k) y ≡ true) k _ i
      (λ r h p j. by-part s r (λ r. f (ScanQuotedUrl q z r t)) y o.0 o.2 h p.0 p.2 j),
)

-- where there is only the scan itself below
pub from-only : (n : StyleScan) (f : StyleScan → StyleScan) (y : Member) → ((k : StyleScan) → StyleScanBelow k n → n ≡ k) → style_scan_has (f n) y ≡ true → From n f y
from-only n f y only h = from-all n f y (λ v k i p. subst (λ (z : StyleScan). style_scan_has (f z) y ≡ true) (only k i) h)

from : (n : StyleScan) (c : StyleClass) (b : ℕ) (y : Member) → style_scan_error n c b ≡ None → style_scan_has (style_scan_next n c b) y ≡ true → From n (At c b) y
from (ScanCode x) c b y e h = from-code x.word x.slash x.lt c b y h
from (ScanSplitEscape z) c b y e h = from-split z c b y h
from ScanStarBefore c b y e h = from-star c b y h
from (ScanBareUrl s t) c b y e h = from-bare s t (At c b) y (bare-from s t c b y e h)
from (ScanQuotedUrl q z s t) c b y e h = from-quoted q z s t (At c b) y (quoted-from (is_taken_in_style z b) q z s t c b y e h)
from n c b y e h = from-only n (At c b) y (λ k i. below-cases (λ (z : StyleScan). n ≡ z) k n i refl) h

next-scan : (n : StyleScan) (c : StyleClass) (b : ℕ) → style_scan_error n c b ≡ None → (v : Style Url) (k : StyleScan) → IsStyleScan v k → StyleScanBelow k n
    → IsStyleScan (style_next urls v c b) (style_scan_next k c b)
next-scan n c b e v k i h =
    let one : OneStyle v k = one-style v k i in
    one.next c b (sym (one.error c b) ∙ (styles-grow.scans k n h).error c b e)

pub members-from : (n : StyleScan) (c : StyleClass) (b : ℕ) (y : Member) → style_scan_error n c b ≡ None → style_scan_has (style_scan_next n c b) y ≡ true
    → (x : Member) × IsStyleOrigin n (λ v. style_next urls v c b) y x
members-from n c b y e h = origin-by n (At c b) (λ v. style_next urls v c b) y (next-scan n c b e) (from n c b y e h)
