-- Each member of a place in a style behind the end of a node, and behind a hole, comes from one before.
use Rattle.std.proofs.Common.{◌≡◌, Bool, true, false, ◌||◌, None, refl, sym, ap, ◌∙◌}
use Rattle.css_lexer.specs.Escapes.{StyleEscape, NoEscape, AfterBackslash, HexDigits, AfterReturn}
use Rattle.css_lexer.specs.Paths.{style_after_cut, style_after_hole}
use Rattle.css_lexer.specs.Refusals.{style_refuses_cut}
use Rattle.css_lexer.specs.States.{Quote, DoubleQuote, SingleQuote, Style}
use Rattle.css_lexer.specs.Urls.{urls}
use Rattle.place_core.specs.declared.css_tails.CssTails.{CssTails}
use Rattle.place_core.specs.declared.member.Member.{Member}
use Rattle.place_core.specs.declared.member.Member.TheVariants as member
use Rattle.place_core.specs.declared.parts.Parts.{Parts}
use Rattle.place_core.specs.place.LanguagePlaces.{parts_have}
use Rattle.place_core.specs.place.Places.{is_whole}
use Rattle.place_core.specs.place.UrlParts.{parts_of}
use Rattle.url_lexer.specs.Parts.{UrlPart}
use Rattle.url_lexer.specs.States.{Url}
use Rattle.url_lexer.specs.Triples.{Triple}
use Rattle.url_step.specs.PartSets.{HasPart, parts_at_hole}
use Rattle.url_step.proofs.OnePath.{one-at-hole}
use Rattle.url_step.proofs.Origins.{either, parts-come-from-hole}
use Rattle.css_step.specs.StyleOrigins.{style_scan_has, IsStyleOrigin, style_scan_after_cut, style_scan_after_hole}
use Rattle.css_step.specs.StyleScans.{StyleScan, ScanCode, ScanSplitEscape, ScanStarBefore, ScanBareUrl, ScanQuotedUrl, style_scan_place, style_scan_cut_error, style_hole_error}
use Rattle.css_step.specs.StyleScanLaws.{IsStyleScan, OneStyle}
use Rattle.css_step.specs.StyleSetLaws.{StyleScanBelow, GrowsStyleScan}
use Rattle.place_core.specs.place.StyleParts.{style_tails}
use Rattle.css_step.proofs.OneStylePath.{given, one-style}
use Rattle.css_step.proofs.StyleCases.{below-cases, PathScan}
use Rattle.css_step.proofs.StyleGrowth.{styles-grow}
use Rattle.css_step.proofs.StyleOrigins.{From, from-all, whole-has, set-has, origin-by}
use Rattle.css_step.proofs.StyleUrlOrigins.{HasOrAll, own-part, from-bare, from-quoted, from-only}

no : false ≡ true → ⊥
no e = cc

-- In an escape no node ends. In a word from before the text, with no escape, the scan is another.
split-end : (e : StyleEscape) (f : StyleScan → StyleScan) (y : Member) → style_scan_cut_error (ScanSplitEscape e) ≡ None → From (ScanSplitEscape e) f y
split-end NoEscape f y e =
    from-all (ScanSplitEscape NoEscape) f y
    (λ v k i p. below-cases (λ (k : StyleScan). PathScan v k → style_scan_has (f k) y ≡ true) k _ i (λ j. absurd j, λ w j. absurd (j refl)) p)
split-end AfterBackslash f y e = absurd (given _ e)
split-end (HexDigits k) f y e = absurd (given _ e)
split-end AfterReturn f y e = absurd (given _ e)

-- a word of this text has no set
word-whole : (y : Member) → (is_whole y || false) ≡ true → is_whole y ≡ true
word-whole member.Whole e = refl
word-whole _ e = absurd (no e)

-- the end of a node
cut-quoted : (q : Quote) (z : StyleEscape) (s : Parts) (t : Triple) (y : Member) → style_scan_has (style_scan_after_cut (ScanQuotedUrl q z s t)) y ≡ true
    → From (ScanQuotedUrl q z s t) style_scan_after_cut y
cut-quoted DoubleQuote z s t y h = from-quoted DoubleQuote z s t style_scan_after_cut y (y, h, λ p i k. k)
cut-quoted SingleQuote z s t y h = from-quoted SingleQuote z s t style_scan_after_cut y (y, h, λ p i k. k)

cut-from : (n : StyleScan) (y : Member) → style_scan_cut_error n ≡ None → style_scan_has (style_scan_after_cut n) y ≡ true → From n style_scan_after_cut y
cut-from (ScanCode x) y e h = (
  y,
  h,
  λ v k i p. below-cases (λ (k : StyleScan). style_scan_has k y ≡ true → style_scan_has (style_scan_after_cut k) y ≡ true) k _ i
      (λ z j k. k, λ w j k. whole-has (ScanCode (style_tails true false false)) y (word-whole y k)),
)
cut-from (ScanSplitEscape z) y e h = split-end z style_scan_after_cut y e
cut-from ScanStarBefore y e h = (
  y,
  h,
  λ v k i p. below-cases (λ (k : StyleScan). style_scan_has k y ≡ true → style_scan_has (style_scan_after_cut k) y ≡ true) k _ i (λ k. k, λ k. k),
)
cut-from (ScanBareUrl s t) y e h = from-bare s t style_scan_after_cut y (y, h, λ p i k. k)
cut-from (ScanQuotedUrl q z s t) y e h = cut-quoted q z s t y h
cut-from n y e h = from-only n style_scan_after_cut y (λ k i. below-cases (λ (z : StyleScan). n ≡ z) k n i refl) h

is-cut : (n : StyleScan) → style_scan_cut_error n ≡ None → (v : Style Url) (k : StyleScan) → IsStyleScan v k → StyleScanBelow k n → style_refuses_cut urls v ≡ None
is-cut n e v k i h = sym (one-style v k i).cut_error ∙ ((styles-grow.scans k n h).cut_error ∙ e)

pub cut-members : (n : StyleScan) (y : Member) → style_scan_cut_error n ≡ None → style_scan_has (style_scan_after_cut n) y ≡ true
    → (x : Member) × IsStyleOrigin n (λ v. style_after_cut urls v) y x
cut-members n y e h =
    origin-by n style_scan_after_cut (λ v. style_after_cut urls v) y (λ v k i j. (one-style v k i).after_cut (is-cut n e v k i j)) (cut-from n y e h)

-- a hole, in code: what stood before it still counts
hole-code : (x : CssTails) (y : Member) → style_scan_has (style_scan_after_hole (ScanCode x)) y ≡ true → From (ScanCode x) style_scan_after_hole y
hole-code x member.Whole h = from-all (ScanCode x) style_scan_after_hole member.Whole (λ v k i p. refl)
hole-code x member.CssWord h =
    from-all (ScanCode x) style_scan_after_hole member.CssWord
    (λ v k i p. below-cases (λ (k : StyleScan). style_scan_has (style_scan_after_hole k) member.CssWord ≡ true) k _ i (λ z j. refl, λ w j. refl))
hole-code x member.CssSlash h = (
  member.CssSlash,
  h,
  λ v k i p. below-cases (λ (k : StyleScan). style_scan_has k member.CssSlash ≡ true → style_scan_has (style_scan_after_hole k) member.CssSlash ≡ true) k _ i
      (λ z j k. k, λ w j k. absurd (no k)),
)
hole-code x member.CssLt h = (
  member.CssLt,
  h,
  λ v k i p. below-cases (λ (k : StyleScan). style_scan_has k member.CssLt ≡ true → style_scan_has (style_scan_after_hole k) member.CssLt ≡ true) k _ i
      (λ z j k. k, λ w j k. absurd (no k)),
)
hole-code x _ h = absurd (no h)

-- in a URL
abbrev HoleFed : Parts → Member → Type 0
HoleFed s y = (x : Member) × HasOrAll s x × ((p : UrlPart) → HasPart s p → HasOrAll (parts_of p) x → HasOrAll (parts_at_hole (parts_of p)) y)

hole-set : (s : Parts) (y : Member) → parts_have (parts_at_hole s) y ≡ true → HoleFed s y
hole-set s y h =
    let o = parts-come-from-hole s y h in (
      o.0,
      set-has (is_whole o.0) (parts_have s o.0) o.1.has,
      λ p i k. set-has (is_whole y) (parts_have (parts_at_hole (parts_of p)) y)
          (ap (λ (z : Parts). parts_have z y) (one-at-hole p) ∙ o.1.leads p (own-part s p o.0 o.1.has k)),
    )

hole-fed : (s : Parts) (y : Member) → HasOrAll (parts_at_hole s) y → HoleFed s y
hole-fed s y h =
    either (HoleFed s y) (is_whole y) (parts_have (parts_at_hole s) y) h
    (λ k. (member.Whole, refl, λ p i j. ap (λ (z : Bool). z || parts_have (parts_at_hole (parts_of p)) y) k)) (λ k. hole-set s y k)

hole-quoted : (q : Quote) (z : StyleEscape) (s : Parts) (t : Triple) (y : Member) → style_scan_has (style_scan_after_hole (ScanQuotedUrl q z s t)) y ≡ true
    → From (ScanQuotedUrl q z s t) style_scan_after_hole y
hole-quoted DoubleQuote z s t y h = from-quoted DoubleQuote z s t style_scan_after_hole y (hole-fed s y h)
hole-quoted SingleQuote z s t y h = from-quoted SingleQuote z s t style_scan_after_hole y (hole-fed s y h)

hole-from : (n : StyleScan) (y : Member) → style_scan_cut_error n ≡ None → style_scan_has (style_scan_after_hole n) y ≡ true → From n style_scan_after_hole y
hole-from (ScanCode x) y e h = hole-code x y h
hole-from (ScanSplitEscape z) y e h = split-end z style_scan_after_hole y e
hole-from ScanStarBefore y e h = (
  y,
  h,
  λ v k i p. below-cases (λ (k : StyleScan). style_scan_has k y ≡ true → style_scan_has (style_scan_after_hole k) y ≡ true) k _ i (λ k. k, λ k. k),
)
hole-from (ScanBareUrl s t) y e h = from-bare s t style_scan_after_hole y (hole-fed s y h)
hole-from (ScanQuotedUrl q z s t) y e h = hole-quoted q z s t y h
hole-from n y e h = from-only n style_scan_after_hole y (λ k i. below-cases (λ (z : StyleScan). n ≡ z) k n i refl) h

pub hole-members : (n : StyleScan) (y : Member) → style_scan_cut_error n ≡ None → style_hole_error (style_scan_place n) ≡ None
    → style_scan_has (style_scan_after_hole n) y ≡ true → (x : Member) × IsStyleOrigin n (λ v. style_after_hole urls v) y x
hole-members n y e r h =
    origin-by n style_scan_after_hole (λ v. style_after_hole urls v) y
    (λ v k i j.
    let one : OneStyle v k = one-style v k i in
    let grows : GrowsStyleScan k n = styles-grow.scans k n j in
    one.after_hole (is-cut n e v k i j) (sym one.hole_error ∙ (styles-grow.places (style_scan_place k) (style_scan_place n) grows.place).hole_error r))
    (hole-from n y e h)
