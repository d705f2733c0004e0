-- Each path at a place in a style behind the end of a node is among those that one path before comes to.
use Rattle.std.proofs.Common.{◌≡◌, true, false, None, refl}
use Rattle.css_lexer.specs.Escapes.{StyleEscape, NoEscape, AfterBackslash, HexDigits, AfterReturn}
use Rattle.css_lexer.specs.States.{Quote, DoubleQuote, SingleQuote, Style}
use Rattle.place_core.specs.declared.css_tails.CssTails.{CssTails}
use Rattle.place_core.specs.declared.parts.Parts.{Parts}
use Rattle.url_lexer.specs.States.{Url}
use Rattle.url_lexer.specs.Triples.{Triple, NoTriple, AfterPercent, AfterDigit}
use Rattle.css_step.specs.StyleOrigins.{IsStyleUnder, StylePathOrigin, style_scan_after_cut}
use Rattle.css_step.specs.StyleScans.{StyleScan, ScanCode, ScanBareUrl, ScanQuotedUrl, style_scan_cut_error}
use Rattle.css_step.specs.StyleSetLaws.{StyleScanBelow, below_itself, below_split_word, HasStyle}
use Rattle.css_step.proofs.OneStylePath.{given}
use Rattle.css_step.proofs.StyleCases.{below-cases}
use Rattle.css_step.proofs.PathSteps.{no-set-path}

yes : true ≡ false → ⊥
yes e = cc

-- The end of a node. In code and in a URL the text behind it begins with the same scan, and the path comes from itself.
code-kept : (x : CssTails) (a : StyleScan) → StyleScanBelow a (ScanCode x) → StyleScanBelow a (style_scan_after_cut a)
code-kept x a h =
    below-cases (λ (k : StyleScan). StyleScanBelow k (style_scan_after_cut k)) a (ScanCode x) h (λ z j. below_itself (ScanCode z), λ w j. below_split_word w NoEscape)

bare-kept : (s : Parts) (a : StyleScan) → StyleScanBelow a (ScanBareUrl s NoTriple) → StyleScanBelow a (style_scan_after_cut a)
bare-kept s a h =
    below-cases (λ (k : StyleScan). StyleScanBelow k (style_scan_after_cut k)) a (ScanBareUrl s NoTriple) h (λ r j. below_itself (ScanBareUrl r NoTriple))

quoted-kept : (q : Quote) (s : Parts) (a : StyleScan) → style_scan_after_cut (ScanQuotedUrl q NoEscape s NoTriple) ≡ ScanQuotedUrl q NoEscape s NoTriple
    → StyleScanBelow a (ScanQuotedUrl q NoEscape s NoTriple) → StyleScanBelow a (style_scan_after_cut a)
quoted-kept DoubleQuote s a e h =
    below-cases (λ (k : StyleScan). StyleScanBelow k (style_scan_after_cut k)) a (ScanQuotedUrl DoubleQuote NoEscape s NoTriple) h
    (λ r j. below_itself (ScanQuotedUrl DoubleQuote NoEscape r NoTriple))
quoted-kept SingleQuote s a e h =
    below-cases (λ (k : StyleScan). StyleScanBelow k (style_scan_after_cut k)) a (ScanQuotedUrl SingleQuote NoEscape s NoTriple) h
    (λ r j. below_itself (ScanQuotedUrl SingleQuote NoEscape r NoTriple))

kept : (n : StyleScan) (w : Style Url) (h : HasStyle n w) → StyleScanBelow h.alone (style_scan_after_cut h.alone) → StylePathOrigin n style_scan_after_cut IsStyleUnder h.alone
kept n w h j = record { path = w; has = h; leads = j }

cut-bare : (s : Parts) (t : Triple) (w : Style Url) → style_scan_cut_error (ScanBareUrl s t) ≡ None → (h : HasStyle (ScanBareUrl s NoTriple) w)
    → StylePathOrigin (ScanBareUrl s t) style_scan_after_cut IsStyleUnder h.alone
cut-bare s NoTriple w e h = kept (ScanBareUrl s NoTriple) w h (bare-kept s h.alone h.below)
cut-bare s AfterPercent w e h = absurd (given _ e)
cut-bare s AfterDigit w e h = absurd (given _ e)

cut-quoted : (q : Quote) (z : StyleEscape) (s : Parts) (t : Triple) (w : Style Url) → style_scan_cut_error (ScanQuotedUrl q z s t) ≡ None
    → (h : HasStyle (style_scan_after_cut (ScanQuotedUrl q z s t)) w) → StylePathOrigin (ScanQuotedUrl q z s t) style_scan_after_cut IsStyleUnder h.alone
cut-quoted DoubleQuote NoEscape s NoTriple w e h = kept (ScanQuotedUrl DoubleQuote NoEscape s NoTriple) w h (quoted-kept DoubleQuote s h.alone refl h.below)
cut-quoted SingleQuote NoEscape s NoTriple w e h = kept (ScanQuotedUrl SingleQuote NoEscape s NoTriple) w h (quoted-kept SingleQuote s h.alone refl h.below)
cut-quoted q NoEscape s AfterPercent w e h = absurd (given _ e)
cut-quoted q NoEscape s AfterDigit w e h = absurd (given _ e)
cut-quoted q AfterBackslash s t w e h = absurd (given _ e)
cut-quoted q (HexDigits k) s t w e h = absurd (given _ e)
cut-quoted q AfterReturn s t w e h = absurd (given _ e)

pub cut-paths : (n : StyleScan) (v w : Style Url) → style_scan_cut_error n ≡ None → HasStyle n v → (h : HasStyle (style_scan_after_cut n) w)
    → StylePathOrigin n style_scan_after_cut IsStyleUnder h.alone
cut-paths (ScanCode x) v w e i h = kept (ScanCode x) w h (code-kept x h.alone h.below)
cut-paths (ScanBareUrl s t) v w e i h = cut-bare s t w e h
cut-paths (ScanQuotedUrl q z s t) v w e i h = cut-quoted q z s t w e h
cut-paths n v w e i h = no-set-path n style_scan_after_cut IsStyleUnder h.alone v tt i h.below
