-- Each member of a place in a style comes from one before, on whatever path bears that one: at a byte.
use Rattle.std.proofs.Common.{◌≡◌, ℕ, Bool, true, false, ◌||◌, refl, sym, ap, subst}
use Rattle.css_lexer.specs.Escapes.{StyleEscape}
use Rattle.css_lexer.specs.States.{Style}
use Rattle.css_lexer.specs.declared.class.StyleClass.{StyleClass}
use Rattle.place_core.specs.declared.css_tails.CssTails.{CssTails}
use Rattle.place_core.specs.declared.member.Member.{Member}
use Rattle.place_core.specs.declared.member.Member.TheVariants as member
use Rattle.place_core.specs.place.Places.{is_whole}
use Rattle.url_lexer.specs.States.{Url}
use Rattle.css_step.specs.StyleOrigins.{scan_set_has, style_scan_has, StyleBears, IsStyleOrigin}
use Rattle.css_step.specs.StyleScans.{StyleScan, ScanCode, ScanSplitEscape, ScanStarBefore, style_code_next, style_scan_next}
use Rattle.css_step.specs.StyleScanLaws.{IsStyleScan}
use Rattle.css_step.specs.StyleSetLaws.{StyleScanBelow, HasStyle}
use Rattle.place_core.specs.place.StyleParts.{style_tails}
use Rattle.css_step.proofs.OneStylePath.{exact-on-one-style}
use Rattle.css_step.proofs.StyleCases.{below-cases, PathScan, path-scan}

no : false ≡ true → ⊥
no e = cc

-- A member comes from one before, over scans: on whatever path alone bears it.
abbrev pub Leads : StyleScan → (StyleScan → StyleScan) → Member → Member → Type 0
Leads n f y x = (v : Style Url) (k : StyleScan) → StyleScanBelow k n → PathScan v k → style_scan_has k x ≡ true → style_scan_has (f k) y ≡ true

abbrev pub From : StyleScan → (StyleScan → StyleScan) → Member → Type 0
From n f y = (x : Member) × (style_scan_has n x ≡ true) × Leads n f y x

-- what a path at the place bears, its scan there has
pub bears-alone : (n : StyleScan) (v : Style Url) (x : Member) (h : HasStyle n v) → StyleBears v x → style_scan_has h.alone x ≡ true
bears-alone n v x h k = subst (λ (z : StyleScan). style_scan_has z x ≡ true) (exact-on-one-style.one_way v k.alone h.alone k.is_alone h.is_alone) k.has

pub origin-by : (n : StyleScan) (f : StyleScan → StyleScan) (step : Style Url → Style Url) (y : Member)
    → ((v : Style Url) (k : StyleScan) → IsStyleScan v k → StyleScanBelow k n → IsStyleScan (step v) (f k)) → From n f y
    → (x : Member) × IsStyleOrigin n step y x
origin-by n f step y g o = (
  o.0,
  record {
    has = o.1;
    leads = λ v h k. record {
      alone = f h.alone;
      is_alone = g v h.alone h.is_alone h.below;
      has = o.2 v h.alone h.below (path-scan v h.alone h.is_alone) (bears-alone n v o.0 h k);
    };
  },
)

-- from the member that every path bears
pub from-all : (n : StyleScan) (f : StyleScan → StyleScan) (y : Member)
    → ((v : Style Url) (k : StyleScan) → StyleScanBelow k n → PathScan v k → style_scan_has (f k) y ≡ true) → From n f y
from-all n f y g = (member.Whole, refl, λ v k i p h. g v k i p)

pub whole-has : (n : StyleScan) (y : Member) → is_whole y ≡ true → style_scan_has n y ≡ true
whole-has n y e = ap (λ (z : Bool). z || scan_set_has n y) e

pub set-has : (x y : Bool) → y ≡ true → (x || y) ≡ true
set-has true y e = refl
set-has false y e = e

not-true : (y : Bool) → (y || false) ≡ false → y ≡ false
not-true true e = e
not-true false e = refl

yes : true ≡ false → ⊥
yes e = cc

-- in code, and in a word from before the text
abbrev pub At : StyleClass → ℕ → StyleScan → StyleScan
At c b k = style_scan_next k c b

pub from-code : (word slash lt : Bool) (c : StyleClass) (b : ℕ) (y : Member) → style_scan_has (style_code_next word c b) y ≡ true
    → From (ScanCode (style_tails word slash lt)) (At c b) y
from-code true s l c b y h = (
  member.CssWord,
  refl,
  λ v k i p. below-cases (λ (k : StyleScan). style_scan_has k member.CssWord ≡ true → style_scan_has (At c b k) y ≡ true) k _ i
      (λ z j e. subst (λ (w : Bool). style_scan_has (style_code_next w c b) y ≡ true) (sym e) h, λ w j e. absurd (no e)),
)
from-code false s l c b y h = from-all _ (At c b) y
    (λ v k i p. below-cases (λ (k : StyleScan). style_scan_has (At c b k) y ≡ true) k _ i (
      λ z j. subst (λ (w : Bool). style_scan_has (style_code_next w c b) y ≡ true) (sym (not-true z.word (ap (λ (x : CssTails). x.word) j))) h,
      λ w j. absurd (no (ap (λ (x : CssTails). x.word) j)),
    ))

pub from-split : (e : StyleEscape) (c : StyleClass) (b : ℕ) (y : Member) → style_scan_has (At c b (ScanSplitEscape e)) y ≡ true → From (ScanSplitEscape e) (At c b) y
from-split e c b y h = (
  member.CssWord,
  refl,
  λ v k i p. below-cases (λ (k : StyleScan). style_scan_has k member.CssWord ≡ true → style_scan_has (At c b k) y ≡ true) k _ i
      (λ j. h, λ w i j. absurd (no j)),
)

-- behind a `*` of a comment
pub from-star : (c : StyleClass) (b : ℕ) (y : Member) → style_scan_has (At c b ScanStarBefore) y ≡ true → From ScanStarBefore (At c b) y
from-star c b y h = (
  member.CssStar,
  refl,
  λ v k i p. below-cases (λ (k : StyleScan). style_scan_has k member.CssStar ≡ true → style_scan_has (At c b k) y ≡ true) k _ i (λ j. h, λ j. absurd (no j)),
)
