-- What stands below a scan, case by case, and what is so of the scan of one path.
use Rattle.std.proofs.Common.{◌≡◌, true, false, ◌&&◌, Some, refl}
use Rattle.std.specs.Bool.{⊤}
use Rattle.css_lexer.specs.Escapes.{StyleEscape, NoEscape, AfterBackslash, HexDigits, AfterReturn}
use Rattle.css_lexer.specs.States.{UrlWord, Style}
use Rattle.place_core.proofs.JoinParts.{css_tails_union, parts_union}
use Rattle.place_core.specs.declared.css_tails.CssTails.{CssTails}
use Rattle.place_core.specs.declared.parts.Parts.{Parts}
use Rattle.place_core.specs.place.LanguagePlaces.{both_css_tails}
use Rattle.place_core.specs.place.UrlParts.{parts_of}
use Rattle.url_lexer.specs.Parts.{UrlPart}
use Rattle.url_lexer.specs.States.{Url}
use Rattle.url_step.specs.PartSets.{PartsBelow}
use Rattle.css_step.specs.StyleScans.{StyleScan, ScanCode, ScanWord, ScanSplitEscape, ScanComment, ScanStarBefore, ScanBareUrl, ScanQuotedUrl, style_split_word}
use Rattle.css_step.specs.StyleScanLaws.{IsStyleScan, scans_between, scans_less_than, scans_word, scans_solidus, scans_comment, scans_string, scans_behind_hole, scans_split_word, scans_solidus_before, scans_less_than_before, scans_star_before, scans_fresh, scans_bare, scans_quoted, scans_ended}
use Rattle.css_step.specs.StyleSetLaws.{StyleScanBelow, below_itself, below_tails, below_split_word, below_star, below_bare, below_quoted}
use Rattle.css_step.specs.StyleValidity.{style_part}
use Rattle.place_core.specs.place.StyleParts.{style_tails}

-- To show something of all scans below one, show it of these.
abbrev pub BelowCases : StyleScan → (StyleScan → Type 0) → Type 0
BelowCases (ScanCode x) P = ((z : CssTails) → both_css_tails z x ≡ x → P (ScanCode z)) × ((w : UrlWord) → x ≡ style_tails true false false → P (ScanWord w NoEscape))
BelowCases (ScanSplitEscape e) P = P (ScanSplitEscape e) × ((w : UrlWord) → (e ≡ NoEscape → ⊥) → P (ScanWord w e))
BelowCases ScanStarBefore P = P ScanStarBefore × P (ScanComment false)
BelowCases (ScanBareUrl s t) P = (r : Parts) → PartsBelow r s → P (ScanBareUrl r t)
BelowCases (ScanQuotedUrl q e s t) P = (r : Parts) → PartsBelow r s → P (ScanQuotedUrl q e r t)
BelowCases n P = P n

itself-cases : (n : StyleScan) (P : StyleScan → Type 0) → BelowCases n P → P n
itself-cases (ScanCode x) P f = f.0 x (css_tails_union.same x)
itself-cases (ScanSplitEscape e) P f = f.0
itself-cases ScanStarBefore P f = f.0
itself-cases (ScanBareUrl s t) P f = f s (parts_union.same s)
itself-cases (ScanQuotedUrl q e s t) P f = f s (parts_union.same s)
itself-cases n P f = f

split-cases : (w : UrlWord) (e : StyleEscape) (P : StyleScan → Type 0) → BelowCases (style_split_word e) P → P (ScanWord w e)
split-cases w NoEscape P f = f.1 w refl
split-cases w AfterBackslash P f = f.1 w (λ e. cc)
split-cases w (HexDigits k) P f = f.1 w (λ e. cc)
split-cases w AfterReturn P f = f.1 w (λ e. cc)

pub below-cases : (P : StyleScan → Type 0) (k n : StyleScan) → StyleScanBelow k n → BelowCases n P → P k
below-cases P _ _ (below_itself n) f = itself-cases n P f
below-cases P _ _ (below_tails x y h) f = f.0 x h
below-cases P _ _ (below_split_word w e) f = split-cases w e P f
below-cases P _ _ below_star f = f.1
below-cases P _ _ (below_bare s r t h) f = f s h
below-cases P _ _ (below_quoted q e s r t h) f = f s h

-- What is so of the scan of one path: in a URL it has the path's part; and behind a `/` that may begin a comment stands no `<`.
abbrev pub PathScan : Style Url → StyleScan → Type 0
PathScan v (ScanCode x) = x.word ≡ false → (x.slash && x.lt) ≡ false
PathScan v (ScanSplitEscape NoEscape) = ⊥
PathScan v (ScanBareUrl r t) = (p : UrlPart) × (style_part v ≡ Some p) × (r ≡ parts_of p)
PathScan v (ScanQuotedUrl q e r t) = (p : UrlPart) × (style_part v ≡ Some p) × (r ≡ parts_of p)
PathScan v n = ⊤

no : true ≡ false → ⊥
no e = cc

split-scan : (v : Style Url) (e : StyleEscape) → PathScan v (style_split_word e)
split-scan v NoEscape = λ e. refl
split-scan v AfterBackslash = tt
split-scan v (HexDigits k) = tt
split-scan v AfterReturn = tt

pub path-scan : (v : Style Url) (n : StyleScan) → IsStyleScan v n → PathScan v n
path-scan _ _ (scans_between k) = λ e. refl
path-scan _ _ scans_less_than = tt
path-scan _ _ (scans_word w e) = tt
path-scan _ _ (scans_solidus k) = tt
path-scan _ _ (scans_comment star) = tt
path-scan _ _ (scans_string q e) = tt
path-scan _ _ (scans_behind_hole s l) = λ e. absurd (no e)
path-scan v _ (scans_split_word e) = split-scan v e
path-scan _ _ (scans_solidus_before k) = λ e. refl
path-scan _ _ scans_less_than_before = λ e. refl
path-scan _ _ scans_star_before = tt
path-scan _ _ scans_fresh = tt
path-scan _ _ (scans_bare u) = (u.part, refl, refl)
path-scan _ _ (scans_quoted q e u) = (u.part, refl, refl)
path-scan _ _ (scans_ended u) = tt
