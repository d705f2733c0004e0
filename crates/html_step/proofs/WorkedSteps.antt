-- Small texts, stepped from text and printed; and holes behind them.
use Rattle.std.proofs.Common.{◌≡◌, codes, refl, true, false, Result, Ok, Err, List, Option, Some, None, ℕ}
use Rattle.place_core.specs.page.Classes.{class_of}
use Rattle.place_core.specs.declared.code.Code.{Code}
use Rattle.place_core.specs.declared.code.Code.TheVariants as code
use Rattle.place_core.specs.declared.chain.Chain.{Chain}
use Rattle.place_core.specs.declared.parts.Parts.{Parts}
use Rattle.place_core.specs.declared.place.Place.{Place}
use Rattle.place_core.specs.declared.place.Place.TheVariants as place
use Rattle.place_core.specs.declared.san.San.TheVariants as san
use Rattle.place_core.specs.declared.step_err.StepErr.{StepErr}
use Rattle.html_step.specs.Holes.{Holed, after_hole, all_of, both_of}
use Rattle.html_step.specs.PlaceText.{place_text}
use Rattle.html_step.specs.Steps.{after_text}
use Rattle.place_core.specs.page.References.{flushed, meaning}
use Rattle.place_core.specs.place.Errors.{is_unknown_name}
use Rattle.url_lexer.specs.Classes.{url_class_of}
use Rattle.url_step.specs.PartSets.{hole_answer}

-- the place after a text, or the code and the place before what is refused
data Emitted : Type 0 where
  after : List ℕ → Emitted
  refused : Code → ℕ → List ℕ → Emitted

abbrev emitted : Result Place (StepErr Place) → Emitted
emitted (Ok p) = after (place_text p)
emitted (Err e) = refused e.code e.at (place_text e.before)

abbrev step : List ℕ → Emitted
step bytes = emitted (after_text bytes place.Text)

-- Places: in a value, after a name, in names that the text's end ends, in a comment, in a title
in_a_value : step (codes "<b TITLE=\"x") ≡ after (codes "value other dq plain")
unfolding class_of
in_a_value = refl

before_a_value : step (codes "<title x=") ≡ after (codes "value title unbegun plain")
unfolding class_of
before_a_value = refl

after_a_name : step (codes "<script type ") ≡ after (codes "tag script after type typed")
unfolding class_of
after_a_name = refl

in_a_tag_name : step (codes "a</Style") ≡ after (codes "tag end name")
unfolding class_of
in_a_tag_name = refl

in_a_comment : step (codes "<!-- a --b-") ≡ after (codes "comment dash")
unfolding class_of
in_a_comment = refl

in_a_title : step (codes "<title><b></b></titl") ≡ after (codes "title")
unfolding class_of
in_a_title = refl

after_a_title : step (codes "<title>a</Title>b<!doctype c>") ≡ after (codes "text")
unfolding class_of
after_a_title = refl

-- Refusals: a quote in a value without quotes, a `=` before a name, a second `type`, and what is not read yet
quote_in_a_value : step (codes "<b x=a\"") ≡ refused code.BadHTML 6 (codes "value other uq plain")
unfolding class_of
quote_in_a_value = refl

equals_sign_first : step (codes "<b =") ≡ refused code.BadHTML 3 (codes "tag other before")
unfolding class_of
equals_sign_first = refl

second_type : step (codes "<script type type>") ≡ refused code.BadHTML 13 (codes "tag script after type typed")
unfolding class_of
second_type = refl

-- URLs: where one begins, in its beginning and behind it, and the place before what is refused
before_a_url : step (codes "<a href=") ≡ after (codes "value other unbegun url start")
unfolding class_of url_class_of
before_a_url = refl

begun_url : step (codes "<a href=' a") ≡ after (codes "value other sq url open")
unfolding class_of url_class_of
begun_url = refl

behind_a_scheme : step (codes "<a href=http:") ≡ after (codes "value other uq url prequery")
unfolding class_of url_class_of
behind_a_scheme = refl

behind_a_scheme_that_is_code : step (codes "<a href=\"JavaScript:") ≡ after (codes "value other dq url bad")
unfolding class_of url_class_of
behind_a_scheme_that_is_code = refl

in_a_query : step (codes "<a href=\"/b?c&amp;d") ≡ after (codes "value other dq url query")
unfolding class_of url_class_of meaning flushed is_unknown_name lib.Utf8.encode
in_a_query = refl

ends_in_a_word : step (codes "<a href=\"ja") ≡ after (codes "value other dq url open(ja)")
unfolding class_of url_class_of
ends_in_a_word = refl

triple_broken_off : step (codes "<a href=\"/%4") ≡ refused code.PartialEscape 12 (codes "value other dq url prequery")
unfolding class_of url_class_of
triple_broken_off = refl

unknown_name : step (codes "<a href=\"/&b;") ≡ refused code.BadHTML 10 (codes "value other dq url prequery")
unfolding class_of url_class_of is_unknown_name
unknown_name = refl

-- Holes in URLs: what is done to the value, and the place after it
abbrev filled : Holed → Result (List ℕ × Chain) Code
filled (Ok h) = Ok (place_text h.0, h.1)
filled (Err e) = Err e

abbrev filled_behind : Result Place (StepErr Place) → Option (Result (List ℕ × Chain) Code)
filled_behind (Ok p) = Some (filled (after_hole p))
filled_behind (Err e) = None

abbrev hole_behind : List ℕ → Option (Result (List ℕ × Chain) Code)
hole_behind bytes = filled_behind (after_text bytes place.Text)

hole_first : hole_behind (codes "<a href=\"") ≡ Some (Ok (codes "value other dq url openhole", all_of san.UrlFilter san.UrlNorm san.Attr))
unfolding class_of url_class_of
hole_first = refl

hole_without_quotes : hole_behind (codes "<a href=") ≡ Some (Ok (codes "value other uq url openhole", all_of san.UrlFilter san.UrlNorm san.AttrNospace))
unfolding class_of url_class_of
hole_without_quotes = refl

hole_in_the_beginning : hole_behind (codes "<a href='a") ≡ Some (Ok (codes "value other sq url openhole", both_of san.UrlOpen san.Attr))
unfolding class_of url_class_of
hole_in_the_beginning = refl

hole_in_a_path : hole_behind (codes "<a href=\"/b/") ≡ Some (Ok (codes "value other dq url prequery", both_of san.UrlNorm san.Attr))
unfolding class_of url_class_of
hole_in_a_path = refl

hole_in_a_query : hole_behind (codes "<a href=\"/b?c=") ≡ Some (Ok (codes "value other dq url query", both_of san.UrlQuery san.Attr))
unfolding class_of url_class_of
hole_in_a_query = refl

hole_behind_code : hole_behind (codes "<a href=\"javascript:") ≡ Some (Err code.BadHTML)
unfolding class_of url_class_of
hole_behind_code = refl

in_two_parts : Parts
in_two_parts = record { start = false; opened = None; openhole = false; prequery = true; query = true; bad = false }

hole_in_two_parts : hole_answer in_two_parts ≡ Err code.AmbigContext
unfolding in_two_parts
hole_in_two_parts = refl
