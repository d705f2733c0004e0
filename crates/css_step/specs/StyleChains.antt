-- The sanitizers of a value of data in a style, without that of the value's quotes.
use Rattle.std.specs.Prelude.{List, [], ◌∷◌, Result, Ok, Err}
use Rattle.place_core.specs.declared.chain.Chain.{Chain}
use Rattle.place_core.specs.declared.code.Code.{Code}
use Rattle.place_core.specs.declared.css.Css.{Css}
use Rattle.place_core.specs.declared.css.Css.TheVariants as css
use Rattle.place_core.specs.declared.san.San.{San}
use Rattle.place_core.specs.declared.san.San.TheVariants as san
use Rattle.place_core.specs.place.UrlParts.{parts_of}
use Rattle.url_lexer.specs.Parts.{UrlStart}
use Rattle.url_step.specs.Chains.{chain_of}
use Rattle.url_step.specs.PartSets.{part_sans}

-- Behind `url(` the value begins the URL; in one it is written as its parts say. In a comment it is left out, and so it would be behind a URL, where
-- a hole is refused.
abbrev pub style_sans : Css → List San
style_sans (css.Code x) = san.CssValue ∷ []
style_sans css.Dq = san.CssString ∷ []
style_sans css.Sq = san.CssString ∷ []
style_sans css.UrlFresh = part_sans (parts_of UrlStart)
style_sans (css.Url s) = part_sans s
style_sans (css.UrlDq s) = part_sans s
style_sans (css.UrlSq s) = part_sans s
style_sans css.UrlEnd = san.Drop ∷ []
style_sans (css.Comment star) = san.Drop ∷ []

-- a hole: the place behind it, with what is done to the value
abbrev pub style_hole_with_chain : Css → Result Css Code → Result (Css × Chain) Code
style_hole_with_chain before (Ok after) = Ok (after, chain_of (style_sans before))
style_hole_with_chain before (Err e) = Err e
