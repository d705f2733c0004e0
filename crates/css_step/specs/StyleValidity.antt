-- The parts of the URLs in styles: that they stay sets of parts (`StylesStayValid`); and that two paths in one URL have spelled the same at a `:` that is
-- accepted, and are in one part at a hole that is (`StylesAgree`).
use Rattle.std.specs.Prelude.{◌≡◌, ℕ, Option, Some, None, false}
use Rattle.css_lexer.specs.States.{Fresh, Bare, Quoted, Ended, Style, Out, InUrl}
use Rattle.css_lexer.specs.declared.class.StyleClass.{StyleClass}
use Rattle.css_lexer.specs.declared.class.StyleClass.TheVariants as class
use Rattle.place_core.specs.declared.css.Css.{Css}
use Rattle.url_lexer.specs.Parts.{UrlPart}
use Rattle.url_lexer.specs.States.{Url}
use Rattle.url_lexer.specs.TwoPaths.{are_apart, refuses_hole_on_two}
use Rattle.css_step.specs.StyleScans.{StyleScan, style_scan_start, style_scan_next, style_scan_error, style_scan_place, style_at_hole, style_hole_error}
use Rattle.css_step.specs.StyleSetLaws.{HasStyle}
use Rattle.place_core.specs.place.LanguagePlaces.{IsValidCss}

-- They are sets of parts at the beginning of a text, behind a byte, and behind a hole.
pub record StylesStayValid : Type 0 where
  pub start : (c : Css) → IsValidCss c → IsValidCss (style_scan_place (style_scan_start c))
  pub next : (n : StyleScan) (c : StyleClass) (b : ℕ) → IsValidCss (style_scan_place n) → IsValidCss (style_scan_place (style_scan_next n c b))
  pub at_hole : (c : Css) → IsValidCss c → IsValidCss (style_at_hole c)

-- the part of the URL in which a path is
abbrev pub style_part : Style Url → Option UrlPart
style_part (Out s) = None
style_part (InUrl Fresh u) = None
style_part (InUrl Bare u) = Some u.part
style_part (InUrl (Quoted q e) u) = Some u.part
style_part (InUrl Ended u) = None

-- Two paths in one URL: at a `:` that is accepted they have not spelled different things, and at a hole that is accepted they are in one part. A `:` is
-- the byte 58, whose class in a style is `OtherByte`.
pub record AgreeStyles (m : StyleScan) (p q : UrlPart) : Type 0 where
  pub colon : style_scan_error m class.OtherByte 58 ≡ None → are_apart p q ≡ false
  pub hole : style_hole_error (style_scan_place m) ≡ None → refuses_hole_on_two p q ≡ None

abbrev pub StylesAgree : Type 0
StylesAgree = (m : StyleScan) (v w : Style Url) (p q : UrlPart) → HasStyle m v → HasStyle m w → style_part v ≡ Some p → style_part w ≡ Some q → AgreeStyles m p q
