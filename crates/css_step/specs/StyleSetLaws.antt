-- What the step of the places of several paths in a style promises of each of them: that it is not refused where the place is not, and that it
-- stays in it; and of a place below another one.
use Rattle.std.specs.Prelude.{◌≡◌, ℕ, Some, None, true, false}
use Rattle.css_lexer.specs.Escapes.{StyleEscape}
use Rattle.css_lexer.specs.Paths.{style_after_cut, style_after_hole}
use Rattle.css_lexer.specs.Refusals.{style_refuses_class, style_refuses_cut, style_refuses_hole}
use Rattle.css_lexer.specs.States.{Quote, UrlWord, Style}
use Rattle.css_lexer.specs.Steps.{style_next}
use Rattle.css_lexer.specs.Urls.{urls}
use Rattle.css_lexer.specs.declared.class.StyleClass.{StyleClass}
use Rattle.place_core.specs.declared.css.Css.{Css}
use Rattle.place_core.specs.declared.css_tails.CssTails.{CssTails}
use Rattle.place_core.specs.declared.parts.Parts.{Parts}
use Rattle.place_core.specs.place.LanguagePlaces.{joined_css, both_css_tails}
use Rattle.url_lexer.specs.States.{Url}
use Rattle.url_lexer.specs.Triples.{Triple}
use Rattle.url_step.specs.PartSets.{PartsBelow}
use Rattle.css_step.specs.StyleScans.{StyleScan, ScanCode, ScanWord, ScanComment, ScanStarBefore, ScanBareUrl, ScanQuotedUrl, style_split_word, style_scan_start, style_scan_next, style_scan_error, style_scan_place, is_style_start, style_scan_cut_error, style_at_hole, style_hole_error}
use Rattle.css_step.specs.StyleScanLaws.{IsStyleScan}

-- a place is below another one: joining them gives that one
abbrev pub StyleBelow : Css → Css → Type 0
StyleBelow c d = joined_css c d ≡ Some d

-- Likewise within a text: the same, with sets below; a word of this text where some path has one from before it; a comment where some path has a
-- `*` before the text.
pub data StyleScanBelow : StyleScan → StyleScan → Type 0 where
  below_itself : (n : StyleScan) → StyleScanBelow n n
  below_tails : (x y : CssTails) → both_css_tails x y ≡ y → StyleScanBelow (ScanCode x) (ScanCode y)
  below_split_word : (w : UrlWord) (e : StyleEscape) → StyleScanBelow (ScanWord w e) (style_split_word e)
  below_star : StyleScanBelow (ScanComment false) ScanStarBefore
  below_bare : (s r : Parts) (t : Triple) → PartsBelow s r → StyleScanBelow (ScanBareUrl s t) (ScanBareUrl r t)
  below_quoted : (q : Quote) (e : StyleEscape) (s r : Parts) (t : Triple) → PartsBelow s r → StyleScanBelow (ScanQuotedUrl q e s t) (ScanQuotedUrl q e r t)

-- Below a byte that is accepted it is accepted, and comes to one below. The end of a node is refused alike, and the places there are one below the other.
pub record GrowsStyleScan (n m : StyleScan) : Type 0 where
  pub error : (c : StyleClass) (b : ℕ) → style_scan_error m c b ≡ None → style_scan_error n c b ≡ None
  pub next : (c : StyleClass) (b : ℕ) → style_scan_error m c b ≡ None → StyleScanBelow (style_scan_next n c b) (style_scan_next m c b)
  pub cut_error : style_scan_cut_error n ≡ style_scan_cut_error m
  pub place : StyleBelow (style_scan_place n) (style_scan_place m)

-- Likewise at the beginning of a text, and at a hole: the places behind it are one below the other, whether it is accepted or not.
pub record GrowsStyle (c d : Css) : Type 0 where
  pub start : StyleScanBelow (style_scan_start c) (style_scan_start d)
  pub hole_error : style_hole_error d ≡ None → style_hole_error c ≡ None
  pub at_hole : StyleBelow (style_at_hole c) (style_at_hole d)

pub record StylesGrow : Type 0 where
  pub scans : (n m : StyleScan) → StyleScanBelow n m → GrowsStyleScan n m
  pub places : (c d : Css) → StyleBelow c d → GrowsStyle c d

-- A text of no bytes keeps the place, and its end is not refused; where it begins is a start.
pub record KeepsStyle (c : Css) : Type 0 where
  pub start : is_style_start (style_scan_start c) ≡ true
  pub place : style_scan_place (style_scan_start c) ≡ c
  pub cut_error : style_scan_cut_error (style_scan_start c) ≡ None

-- It does so at each place; and each start is where a text begins at its place.
pub record EmptyTextsKeepStyles : Type 0 where
  pub places : (c : Css) → KeepsStyle c
  pub starts : (n : StyleScan) → is_style_start n ≡ true → style_scan_start (style_scan_place n) ≡ n

-- A path is among those that are stepped: what it is alone is below.
pub record HasStyle (m : StyleScan) (v : Style Url) : Type 0 where
  pub alone : StyleScan
  pub is_alone : IsStyleScan v alone
  pub below : StyleScanBelow alone m

-- Where nothing is refused, the path is not refused, and is among those behind the byte, and behind the end of the node and the hole: at the place
-- there, and at each above it, as where it joins another one.
pub record CoversStyle (m : StyleScan) (v : Style Url) : Type 0 where
  pub error : (c : StyleClass) (b : ℕ) → style_scan_error m c b ≡ None → style_refuses_class urls v c b ≡ None
  pub next : (c : StyleClass) (b : ℕ) → style_scan_error m c b ≡ None → HasStyle (style_scan_next m c b) (style_next urls v c b)
  pub cut_error : style_scan_cut_error m ≡ None → style_refuses_cut urls v ≡ None
  pub after_cut : (d : Css) → style_scan_cut_error m ≡ None → StyleBelow (style_scan_place m) d → HasStyle (style_scan_start d) (style_after_cut urls v)
  pub hole_error : style_hole_error (style_scan_place m) ≡ None → style_refuses_hole urls v ≡ None
  pub after_hole : (d : Css) → style_scan_cut_error m ≡ None → style_hole_error (style_scan_place m) ≡ None → StyleBelow (style_at_hole (style_scan_place m)) d
      → HasStyle (style_scan_start d) (style_after_hole urls v)

abbrev pub CoversStyles : Type 0
CoversStyles = (m : StyleScan) (v : Style Url) → HasStyle m v → CoversStyle m v
