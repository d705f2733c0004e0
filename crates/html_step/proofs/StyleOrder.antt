-- What a style is fed on all paths together: a scan state below one that is accepted is accepted, and comes to one below; and valid ones lead to such.
use Rattle.std.proofs.Common.{◌≡◌, ℕ, Bool, true, false, List, [], ◌∷◌, Option, Some, None, option_map, refl, sym, ap, ◌∙◌, subst}
use Rattle.css_lexer.specs.Classes.{style_class}
use Rattle.css_lexer.specs.Escapes.{StyleEscape, NoEscape, AfterBackslash, HexDigits, AfterReturn}
use Rattle.css_lexer.specs.RefusalCodes.{RefusalCode}
use Rattle.css_lexer.specs.States.{Quote}
use Rattle.css_step.specs.StyleScans.{StyleScan, ScanBareUrl, ScanQuotedUrl, is_style_start, style_scan_cut_error, style_scan_error, style_scan_next, style_scan_place, style_scan_start}
use Rattle.css_step.specs.StyleSetLaws.{StyleBelow, StyleScanBelow, below_itself, below_tails, below_split_word, below_star, below_bare, below_quoted}
use Rattle.css_step.proofs.StyleGrowth.{empty-texts-keep-styles, styles-grow}
use Rattle.css_step.proofs.StyleParts.{styles-stay-valid}
use Rattle.place_core.specs.page.Tags.{feed_bytes, style_code}
use Rattle.place_core.specs.place.Errors.{fed_error}
use Rattle.place_core.specs.place.LanguagePlaces.{IsValidCss, joined_css}
use Rattle.place_core.specs.place.Places.{joined_bodies}
use Rattle.place_core.specs.declared.body.Body.TheVariants as body
use Rattle.place_core.specs.declared.css.Css.{Css}
use Rattle.place_core.specs.declared.parts.Parts.{Parts}
use Rattle.place_core.proofs.Semilattices.{no_map, row_value}
use Rattle.html_scan.specs.Scans.{style_feeding}
use Rattle.html_step.proofs.FedAlike.{FedBeside, fed-beside}
use Rattle.url_lexer.specs.Triples.{Triple, NoTriple, AfterPercent, AfterDigit}

no : false ≡ true → ⊥
no e = cc

pub none-refused : (m : StyleScan) (b : ℕ) → style_feeding.refuses m b ≡ None → style_scan_error m (style_class b) b ≡ None
none-refused m b e = no_map style_code (style_scan_error m (style_class b) b) e

pub styles-beside : FedBeside style_feeding style_feeding StyleScanBelow
styles-beside = record {
  takes = λ n m b h e. ap (λ (o : Option RefusalCode). option_map style_code o) ((styles-grow.scans n m h).error (style_class b) b (none-refused m b e));
  goes = λ n m b h e. (styles-grow.scans n m h).next (style_class b) b (none-refused m b e);
  names = λ n m h. refl;
}

pub style-fed-grow : (bytes : List ℕ) (written : Bool) (back : ℕ) (n m : StyleScan) → StyleScanBelow n m → fed_error style_feeding m bytes written back ≡ None
    → (fed_error style_feeding n bytes written back ≡ None) × StyleScanBelow (feed_bytes style_feeding n bytes) (feed_bytes style_feeding m bytes)
style-fed-grow = fed-beside styles-beside

pub style-fed-valid : (bytes : List ℕ) (n : StyleScan) → IsValidCss (style_scan_place n) → IsValidCss (style_scan_place (feed_bytes style_feeding n bytes))
style-fed-valid [] n v = v
style-fed-valid (b ∷ bs) n v = style-fed-valid bs (style_scan_next n (style_class b) b) (styles-stay-valid.next n (style_class b) b v)

-- above a start is a start
bare-starts : (s r : Parts) (t : Triple) → is_style_start (ScanBareUrl s t) ≡ true → is_style_start (ScanBareUrl r t) ≡ true
bare-starts s r NoTriple h = refl
bare-starts s r AfterPercent h = absurd (no h)
bare-starts s r AfterDigit h = absurd (no h)

quoted-starts : (q : Quote) (e : StyleEscape) (s r : Parts) (t : Triple) → is_style_start (ScanQuotedUrl q e s t) ≡ true → is_style_start (ScanQuotedUrl q e r t) ≡ true
quoted-starts q NoEscape s r NoTriple h = refl
quoted-starts q NoEscape s r AfterPercent h = absurd (no h)
quoted-starts q NoEscape s r AfterDigit h = absurd (no h)
quoted-starts q AfterBackslash s r t h = absurd (no h)
quoted-starts q (HexDigits k) s r t h = absurd (no h)
quoted-starts q AfterReturn s r t h = absurd (no h)

pub starts-below : (n m : StyleScan) → StyleScanBelow n m → is_style_start n ≡ true → is_style_start m ≡ true
starts-below _ _ (below_itself n) h = h
starts-below _ _ (below_tails x y e) h = refl
starts-below _ _ (below_split_word w e) h = absurd (no h)
starts-below _ _ below_star h = refl
starts-below _ _ (below_bare s r t e) h = bare-starts s r t h
starts-below _ _ (below_quoted q e s r t i) h = quoted-starts q e s r t h

-- places
css-body-one : (c d : Css) → body.Css c ≡ body.Css d → c ≡ d
css-body-one c d e = cc

pub css-below : (c d : Css) → joined_bodies (body.Css c) (body.Css d) ≡ Some (body.Css d) → StyleBelow c d
css-below c d h = row_value body.Css css-body-one (joined_css c d) d h

pub below-css : (c d : Css) → StyleBelow c d → joined_bodies (body.Css c) (body.Css d) ≡ Some (body.Css d)
below-css c d h = ap (λ (o : Option Css). option_map body.Css o) h

-- the end of a text
pub start-place : (c : Css) → style_scan_place (style_scan_start c) ≡ c
start-place c = (empty-texts-keep-styles.places c).place

pub start-valid : (c : Css) → IsValidCss c → IsValidCss (style_scan_place (style_scan_start c))
start-valid c v = subst IsValidCss (sym (start-place c)) v

pub scan-of-start : (n : StyleScan) → is_style_start n ≡ true → style_scan_start (style_scan_place n) ≡ n
scan-of-start n h = empty-texts-keep-styles.starts n h

pub scan-below-start : (n : StyleScan) (c : Css) → StyleScanBelow n (style_scan_start c) → (style_scan_cut_error n ≡ None) × StyleBelow (style_scan_place n) c
scan-below-start n c h =
    let g = styles-grow.scans n (style_scan_start c) h in
    (g.cut_error ∙ (empty-texts-keep-styles.places c).cut_error, subst (StyleBelow (style_scan_place n)) (start-place c) g.place)
