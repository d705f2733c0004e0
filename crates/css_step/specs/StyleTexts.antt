-- The members of a place in a style behind a whole text come from members of the place where it begins, and what is refused in it is refused on paths
-- that are at that place.
use Rattle.std.specs.Prelude.{◌≡◌, ◌||◌, ℕ, true, List, [], ◌∷◌, Some, None, ⊤}
use Rattle.css_lexer.specs.Classes.{style_class}
use Rattle.css_lexer.specs.Paths.{style_after_cut, style_after_hole}
use Rattle.css_lexer.specs.RefusalCodes.{RefusalCode, AmbigContext}
use Rattle.css_lexer.specs.Refusals.{style_refuses, style_refuses_cut}
use Rattle.css_lexer.specs.States.{Style}
use Rattle.css_lexer.specs.Steps.{style_next}
use Rattle.css_lexer.specs.Urls.{urls}
use Rattle.place_core.specs.declared.css.Css.{Css}
use Rattle.place_core.specs.declared.member.Member.{Member}
use Rattle.place_core.specs.declared.parts.Parts.{Parts}
use Rattle.place_core.specs.declared.prefix.Prefix.TheVariants as prefix
use Rattle.place_core.specs.place.LanguagePlaces.{css_has}
use Rattle.place_core.specs.place.Places.{is_whole}
use Rattle.url_lexer.specs.Classes.{url_class_of}
use Rattle.url_lexer.specs.States.{Url}
use Rattle.url_lexer.specs.declared.class.UrlClass.TheVariants as url_class
use Rattle.css_step.specs.StyleOrigins.{StyleBears, style_scan_parts}
use Rattle.css_step.specs.StyleScans.{StyleScan, style_scan_start, style_scan_next, style_scan_error, style_scan_place, style_scan_cut_error, style_at_hole, style_hole_error}
use Rattle.css_step.specs.StyleSetLaws.{HasStyle}

-- where a text leads: all paths, and one
abbrev pub style_scan_text : List ℕ → StyleScan → StyleScan
style_scan_text [] n = n
style_scan_text (b ∷ bytes) n = style_scan_text bytes (style_scan_next n (style_class b) b)

abbrev pub style_text : List ℕ → Style Url → Style Url
style_text [] v = v
style_text (b ∷ bytes) v = style_text bytes (style_next urls v (style_class b) b)

-- no byte of it is refused
abbrev pub TakesStyle : List ℕ → StyleScan → Type 0
TakesStyle [] n = ⊤
TakesStyle (b ∷ bytes) n = (style_scan_error n (style_class b) b ≡ None) × TakesStyle bytes (style_scan_next n (style_class b) b)

-- some path at the place bears the member, maybe not all
abbrev pub StyleHas : Css → Member → Type 0
StyleHas c m = (is_whole m || css_has c m) ≡ true

-- A member of the place before a text that one behind it comes from: on whatever path there bears it.
pub record IsStyleTextOrigin (c : Css) (step : Style Url → Style Url) (y x : Member) : Type 0 where
  pub has : StyleHas c x
  pub leads : (v : Style Url) → HasStyle (style_scan_start c) v → StyleBears v x → StyleBears (step v) y

-- A byte behind a text is refused with this code on whatever path bore some member before the text; or it is a `:` in a URL, and the prefixes of
-- paths differ there.
pub data StyleTextEvidence (c : Css) (bytes : List ℕ) (b : ℕ) (e : RefusalCode) : Type 0 where
  text_on_one : (x : Member) → StyleHas c x
      → ((v : Style Url) → HasStyle (style_scan_start c) v → StyleBears v x → style_refuses urls (style_text bytes v) b ≡ Some e) → StyleTextEvidence c bytes b e
  text_on_apart : (s : Parts) → style_scan_parts (style_scan_text bytes (style_scan_start c)) ≡ Some s → s.opened ≡ Some prefix.Differs
      → url_class_of b ≡ url_class.Colon → e ≡ AmbigContext → StyleTextEvidence c bytes b e

-- Of a place `c` and a text none of whose bytes is refused: what is behind it at the end of the node, at a hole and at a byte that is refused. The
-- end of the node is refused on all paths alike.
pub record StyleTextLaws (c : Css) (bytes : List ℕ) (n : StyleScan) : Type 0 where
  pub cut_members : (y : Member) → style_scan_cut_error n ≡ None → StyleHas (style_scan_place n) y
      → (x : Member) × IsStyleTextOrigin c (λ v. style_after_cut urls (style_text bytes v)) y x
  pub hole_members : (y : Member) → style_scan_cut_error n ≡ None → style_hole_error (style_scan_place n) ≡ None → StyleHas (style_at_hole (style_scan_place n)) y
      → (x : Member) × IsStyleTextOrigin c (λ v. style_after_hole urls (style_text bytes v)) y x
  pub refused : (b : ℕ) (e : RefusalCode) → style_scan_error n (style_class b) b ≡ Some e → StyleTextEvidence c bytes b e
  pub cut_refused : (v : Style Url) → HasStyle (style_scan_start c) v → style_refuses_cut urls (style_text bytes v) ≡ style_scan_cut_error n

abbrev pub StyleTextsComeFrom : Type 0
StyleTextsComeFrom = (c : Css) (bytes : List ℕ) → TakesStyle bytes (style_scan_start c) → StyleTextLaws c bytes (style_scan_text bytes (style_scan_start c))
