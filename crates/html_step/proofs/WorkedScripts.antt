-- Holes in scripts, of values and of the element: what is done to the value, and the place after it; and a slash that is not the same on all paths.
use Rattle.std.proofs.Common.{◌≡◌, codes, refl, Result, Ok, Err, List, Option, Some, None, ℕ, true, false}
use Rattle.js_lexer.specs.Classes as script
use Rattle.js_lexer.specs.WhiteSpace as white
use Rattle.place_core.specs.page.Classes.{class_of}
use Rattle.place_core.specs.page.Contents.{in_word}
use Rattle.place_core.specs.place.ScriptParts.{script_no_tails}
use Rattle.place_core.specs.page.References.{flushed, meaning}
use Rattle.place_core.specs.declared.chain.Chain.{Chain}
use Rattle.place_core.specs.declared.code.Code.{Code}
use Rattle.place_core.specs.declared.code.Code.TheVariants as code
use Rattle.place_core.specs.declared.js.Js.TheVariants as js
use Rattle.place_core.specs.declared.place.Place.{Place}
use Rattle.place_core.specs.declared.place.Place.TheVariants as place
use Rattle.place_core.specs.declared.san.San.TheVariants as san
use Rattle.place_core.specs.declared.step_err.StepErr.{StepErr}
use Rattle.html_step.specs.Holes.{Holed, after_hole, both_of, only}
use Rattle.html_step.specs.PlaceText.{place_text}
use Rattle.html_step.specs.Steps.{after_text}

abbrev filled : Holed → Result (List ℕ × Chain) Code
filled (Ok h) = Ok (place_text h.0, h.1)
filled (Err e) = Err e

abbrev filled_behind : Result Place (StepErr Place) → Option (Result (List ℕ × Chain) Code)
filled_behind (Ok p) = Some (filled (after_hole p))
filled_behind (Err e) = None

abbrev hole_behind : List ℕ → Option (Result (List ℕ × Chain) Code)
hole_behind bytes = filled_behind (after_text bytes place.Text)

-- in code, where a slash would begin a regular expression: behind the value one divides
hole_in_code : hole_behind (codes "<b onclick=\"f(") ≡ Some (Ok (codes "value other dq js code div", both_of san.JsValue san.Attr))
unfolding class_of script.class_of white.released white.held_after meaning flushed lib.Utf8.encode
hole_in_code = refl

hole_without_quotes : hole_behind (codes "<b onclick=") ≡ Some (Ok (codes "value other uq js code div", both_of san.JsValue san.AttrNospace))
unfolding class_of script.class_of white.released white.held_after meaning flushed lib.Utf8.encode
hole_without_quotes = refl

-- behind a word nothing is kept of it
hole_behind_a_word : hole_behind (codes "<b onclick='f") ≡ Some (Ok (codes "value other sq js code div", both_of san.JsValue san.Attr))
unfolding class_of script.class_of white.released white.held_after meaning flushed lib.Utf8.encode
hole_behind_a_word = refl

hole_in_a_string : hole_behind (codes "<b onclick=\"f('") ≡ Some (Ok (codes "value other dq js sq", both_of san.JsString san.Attr))
unfolding class_of script.class_of white.released white.held_after meaning flushed lib.Utf8.encode
hole_in_a_string = refl

-- a slash that begins a regular expression has begun it
hole_in_a_regular_expression : hole_behind (codes "<b onclick=\"x=/") ≡ Some (Ok (codes "value other dq js regexp", both_of san.JsRegexp san.Attr))
unfolding class_of script.class_of white.released white.held_after meaning flushed lib.Utf8.encode
hole_in_a_regular_expression = refl

hole_in_a_comment : hole_behind (codes "<b onclick=\"/*a*") ≡ Some (Ok (codes "value other dq js block re star", both_of san.Drop san.Attr))
unfolding class_of script.class_of white.released white.held_after meaning flushed lib.Utf8.encode
hole_in_a_comment = refl

-- in the element, where the sanitizer of the script is the whole chain
hole_in_the_element : hole_behind (codes "<script>f(") ≡ Some (Ok (codes "script js code div", only san.JsValue))
unfolding class_of script.class_of white.released white.held_after meaning flushed lib.Utf8.encode
hole_in_the_element = refl

hole_behind_the_tag : hole_behind (codes "<script>") ≡ Some (Ok (codes "script js code div", only san.JsValue))
unfolding class_of script.class_of white.released white.held_after meaning flushed lib.Utf8.encode
hole_behind_the_tag = refl

-- an end tag in a string is text of it
hole_in_a_string_of_the_element : hole_behind (codes "<script>f('</script>") ≡ Some (Ok (codes "script js sq", only san.JsString))
unfolding class_of script.class_of white.released white.held_after meaning flushed lib.Utf8.encode in_word
hole_in_a_string_of_the_element = refl

hole_behind_the_element : hole_behind (codes "<script>f()</script>") ≡ Some (Ok (codes "text", only san.Html))
unfolding class_of script.class_of white.released white.held_after meaning flushed lib.Utf8.encode
hole_behind_the_element = refl

-- A slash that divides on some paths and begins a regular expression on others is refused, also where an end tag follows.
abbrev either_place : Place
either_place = place.Script (js.Code (record { re = true; div = true; brace = false }) script_no_tails)

slash_of_the_set : after_text (codes "/a") either_place ≡ Err (record { code = code.SlashAmbig; at = 0; before = either_place })
unfolding class_of script.class_of white.released white.held_after meaning flushed lib.Utf8.encode
slash_of_the_set = refl

slash_before_an_end_tag : after_text (codes "/</script>") either_place ≡ Err (record { code = code.SlashAmbig; at = 0; before = either_place })
unfolding class_of script.class_of white.released white.held_after meaning flushed lib.Utf8.encode in_word
slash_before_an_end_tag = refl

comment_of_the_set : after_text (codes "//</script>") either_place ≡ Ok place.Text
unfolding class_of script.class_of white.released white.held_after meaning flushed lib.Utf8.encode in_word
comment_of_the_set = refl
