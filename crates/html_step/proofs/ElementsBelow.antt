-- In the element `style`: what is below a scan state there, by the order of styles, with the same bytes pending back.
use Rattle.std.proofs.Common.{◌≡◌, subst}
use Rattle.css_step.specs.StyleScans.{StyleScan, style_scan_start}
use Rattle.css_step.specs.StyleSetLaws.{StyleScanBelow}
use Rattle.place_core.specs.page.States.{Pending, Nothing}
use Rattle.place_core.specs.declared.css.Css.{Css}
use Rattle.place_core.specs.declared.place.Place.{Place}
use Rattle.place_core.specs.declared.place.Place.TheVariants as place
use Rattle.html_scan.specs.Scans.{Scan, At, AfterLess, AfterLessSolidus, InDeclaration, InTagName, InAttributeName, InUrl, InStyle, InScript, InScriptElement, InStyleElement, InCommentEnd, InContentEnd, BeforeType, InType}

-- A lexeme of a style may be below a place, as in a value.
abbrev pub ElementUnderPlace : StyleScan → Place → Type 0
ElementUnderPlace n (place.Style d) = StyleScanBelow n (style_scan_start d)
ElementUnderPlace n p = ⊥

abbrev pub ElementUnder : StyleScan → Pending → Scan → Type 0
ElementUnder n h (At p) = ElementUnderPlace n p × (h ≡ Nothing)
ElementUnder n h (InStyleElement m k) = StyleScanBelow n m × (h ≡ k)
ElementUnder n h f = ⊥

under-place : (P : Scan → Type 0) (n : StyleScan) (p : Place) → ElementUnderPlace n p → ((d : Css) → StyleScanBelow n (style_scan_start d) → P (At (place.Style d))) → P (At p)
under-place P n (place.Style d) h f = f d h
under-place P n place.Text h f = absurd h
under-place P n place.Doctype h f = absurd h
under-place P n (place.Comment x) h f = absurd h
under-place P n (place.Rcdata x) h f = absurd h
under-place P n (place.Tag x) h f = absurd h
under-place P n (place.Value x) h f = absurd h
under-place P n (place.Script x) h f = absurd h
under-place P n (place.Block x) h f = absurd h

-- what is above
pub under-element : (P : Scan → Type 0) (n : StyleScan) (h : Pending) (g : Scan) → ElementUnder n h g
    → ((m : StyleScan) → StyleScanBelow n m → P (InStyleElement m h)) → ((d : Css) → h ≡ Nothing → StyleScanBelow n (style_scan_start d) → P (At (place.Style d))) → P g
under-element P n h (InStyleElement m k) u f g = subst (λ (z : Pending). P (InStyleElement m z)) u.1 (f m u.0)
under-element P n h (At p) u f g = under-place P n p u.0 (λ d l. g d u.1 l)
under-element P n h AfterLess u f g = absurd u
under-element P n h AfterLessSolidus u f g = absurd u
under-element P n h (InDeclaration x) u f g = absurd u
under-element P n h (InTagName x y) u f g = absurd u
under-element P n h (InAttributeName x y z) u f g = absurd u
under-element P n h (InCommentEnd x) u f g = absurd u
under-element P n h (InContentEnd x y) u f g = absurd u
under-element P n h (BeforeType x) u f g = absurd u
under-element P n h (InType x y z w) u f g = absurd u
under-element P n h (InUrl x y z) u f g = absurd u
under-element P n h (InStyle x y z) u f g = absurd u
under-element P n h (InScript x y z) u f g = absurd u
under-element P n h (InScriptElement x y) u f g = absurd u
