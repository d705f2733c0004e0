-- The place of one path in a style, as a context has it: the sets are those of that path alone.
use Rattle.std.specs.Prelude.{Bool, Option, None, option_map, if◌then◌else◌}
use Rattle.css_lexer.specs.PartSpots.{may_begin_text, part_spot}
use Rattle.css_lexer.specs.Spots.{StyleSpot, CodeSpot, StringSpot, FreshSpot, UrlSpot, QuotedUrlSpot, EndedSpot, CommentSpot}
use Rattle.css_lexer.specs.States.{Quote, DoubleQuote, SingleQuote, Style}
use Rattle.place_core.specs.place.UrlParts.{parts_of}
use Rattle.place_core.specs.declared.body.Body.{Body}
use Rattle.place_core.specs.declared.body.Body.TheVariants as body
use Rattle.place_core.specs.declared.css.Css.{Css}
use Rattle.place_core.specs.declared.css.Css.TheVariants as css
use Rattle.place_core.specs.declared.css_tails.CssTails.{CssTails}
use Rattle.place_core.specs.declared.parts.Parts.{Parts}
use Rattle.url_lexer.specs.Parts.{UrlPart}
use Rattle.url_lexer.specs.States.{Url}

abbrev pub style_tails : (word slash lt : Bool) → CssTails
style_tails word slash lt = record { word = word; slash = slash; lt = lt }

abbrev pub style_string_place : Quote → Css
style_string_place DoubleQuote = css.Dq
style_string_place SingleQuote = css.Sq

abbrev pub style_quoted_place : Quote → Parts → Css
style_quoted_place DoubleQuote s = css.UrlDq s
style_quoted_place SingleQuote s = css.UrlSq s

abbrev pub style_place : StyleSpot UrlPart → Css
style_place (CodeSpot word solidus less) = css.Code (style_tails word solidus less)
style_place (StringSpot q) = style_string_place q
style_place FreshSpot = css.UrlFresh
style_place (UrlSpot p) = css.Url (parts_of p)
style_place (QuotedUrlSpot q p) = style_quoted_place q (parts_of p)
style_place EndedSpot = css.UrlEnd
style_place (CommentSpot star) = css.Comment star

-- the place in a style where a text may begin, and the body of a value that is a style; inside a lexeme there is none
abbrev pub style_css : Style Url → Option Css
style_css s = if may_begin_text s then option_map style_place (part_spot s) else None

abbrev pub style_body : Style Url → Option Body
style_body s = if may_begin_text s then option_map (λ p. body.Css (style_place p)) (part_spot s) else None
