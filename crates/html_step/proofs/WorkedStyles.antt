-- Small texts in values that are styles, stepped and printed; and holes behind them.
use Rattle.std.proofs.Common.{◌≡◌, codes, refl, Bool, true, false, Result, Ok, Err, List, Option, Some, None, ℕ}
use Rattle.css_lexer.specs.Classes.{style_class}
use Rattle.place_core.specs.page.Classes.{class_of}
use Rattle.place_core.specs.page.References.{flushed, meaning}
use Rattle.place_core.specs.place.Errors.{is_unknown_name, is_written}
use Rattle.place_core.specs.place.StyleParts.{style_tails}
use Rattle.place_core.specs.declared.body.Body.TheVariants as body
use Rattle.place_core.specs.declared.chain.Chain.{Chain}
use Rattle.place_core.specs.declared.code.Code.{Code}
use Rattle.place_core.specs.declared.code.Code.TheVariants as code
use Rattle.place_core.specs.declared.css.Css.{Css}
use Rattle.place_core.specs.declared.css.Css.TheVariants as css
use Rattle.place_core.specs.declared.element.Element.TheVariants as element
use Rattle.place_core.specs.declared.place.Place.{Place}
use Rattle.place_core.specs.declared.place.Place.TheVariants as place
use Rattle.place_core.specs.declared.quotes.Quotes.TheVariants as quotes
use Rattle.place_core.specs.declared.san.San.TheVariants as san
use Rattle.place_core.specs.declared.step_err.StepErr.{StepErr}
use Rattle.place_core.specs.declared.tag_of.TagOf.TheVariants as tag
use Rattle.html_step.specs.Holes.{Holed, after_hole, all_of, both_of}
use Rattle.html_step.specs.PlaceText.{place_text}
use Rattle.html_step.specs.Steps.{after_text}
use Rattle.url_lexer.specs.Classes.{url_class_of}

-- the place after a text, or the code and the place before what is refused
data Emitted : Type 0 where
  after : List ℕ → Emitted
  refused : Code → ℕ → List ℕ → Emitted

abbrev emitted : Result Place (StepErr Place) → Emitted
emitted (Ok p) = after (place_text p)
emitted (Err e) = refused e.code e.at (place_text e.before)

abbrev step : List ℕ → Emitted
step bytes = emitted (after_text bytes place.Text)

-- from a place in double quotes
abbrev step_in : Css → List ℕ → Emitted
step_in c bytes =
    emitted (after_text bytes (place.Value (record { tag = tag.Start element.Other; typed = false; quotes = quotes.Dq; body = body.Css c })))

abbrev code_of : (word slash lt : Bool) → Css
code_of word slash lt = css.Code (style_tails word slash lt)

-- Places: before a style, in a word, between tokens, in a URL
before_a_style : step (codes "<b style=") ≡ after (codes "value other unbegun css code")
unfolding class_of style_class
before_a_style = refl

color_red : step (codes "<b style=\"color: red") ≡ after (codes "value other dq css code word")
unfolding class_of style_class
color_red = refl

color_red_from : step_in (code_of false false false) (codes "color: red") ≡ after (codes "value other dq css code word")
unfolding class_of style_class
color_red_from = refl

between_tokens : step (codes "<b style='color:") ≡ after (codes "value other sq css code")
unfolding class_of style_class
between_tokens = refl

before_a_url : step (codes "<b style=a:url(") ≡ after (codes "value other uq css urlfresh")
unfolding class_of style_class
before_a_url = refl

in_a_url : step (codes "<b style=\"a:url(&quot;/b") ≡ after (codes "value other dq css urldq prequery")
unfolding class_of style_class url_class_of meaning flushed is_unknown_name lib.Utf8.encode
in_a_url = refl

-- an `&` with which no reference goes on is text
reference_broken : step (codes "<b style=\"a:url(j& ") ≡ after (codes "value other dq css urlend")
unfolding class_of style_class url_class_of meaning flushed is_unknown_name is_written lib.Utf8.encode
reference_broken = refl

behind_a_style : step (codes "<b style=\"a:b\" ") ≡ after (codes "tag other before")
unfolding class_of style_class
behind_a_style = refl

-- Refusals: what would go on with a `/` or a word from before the text, and an escape that is broken off
asterisk_behind_solidus : step_in (code_of false true false) (codes "*") ≡ refused code.SplitToken 0 (codes "value other dq css code slash")
unfolding class_of style_class
asterisk_behind_solidus = refl

parenthesis_behind_word : step_in (code_of true false false) (codes "rl(") ≡ refused code.SplitToken 2 (codes "value other dq css code word")
unfolding class_of style_class
parenthesis_behind_word = refl

escape_broken_off : step (codes "<b style=\"a\\4") ≡ refused code.PartialEscape 13 (codes "value other dq css code word")
unfolding class_of style_class
escape_broken_off = refl

-- Holes: what is done to the value, and the place after it
abbrev filled : Holed → Result (List ℕ × Chain) Code
filled (Ok h) = Ok (place_text h.0, h.1)
filled (Err e) = Err e

abbrev filled_behind : Result Place (StepErr Place) → Option (Result (List ℕ × Chain) Code)
filled_behind (Ok p) = Some (filled (after_hole p))
filled_behind (Err e) = None

abbrev hole_behind : List ℕ → Option (Result (List ℕ × Chain) Code)
hole_behind bytes = filled_behind (after_text bytes place.Text)

hole_in_a_style : hole_behind (codes "<b style=\"color:") ≡ Some (Ok (codes "value other dq css code word", both_of san.CssValue san.Attr))
unfolding class_of style_class
hole_in_a_style = refl

hole_in_a_url : hole_behind (codes "<b style=\"a:url(")
    ≡ Some (Ok (codes "value other dq css url openhole", all_of san.UrlFilter san.UrlNorm san.Attr))
unfolding class_of style_class url_class_of
hole_in_a_url = refl

hole_behind_a_url : hole_behind (codes "<b style=\"a:url(/b ") ≡ Some (Err code.BadString)
unfolding class_of style_class url_class_of
hole_behind_a_url = refl
