-- Worked examples of scripts in their element: where it ends, in a page and in a template's text, what is pending, told and refused, and which places it has,
-- by computing.
use Rattle.std.proofs.Common.{◌≡◌, ℕ, Bool, true, false, List, [], ◌∷◌, codes, Some, None, refl}
use Rattle.js_lexer.specs.Classes.{class_of}
use Rattle.js_lexer.specs.Events.{ScriptByte}
use Rattle.js_lexer.specs.Holes.{script_after_cut}
use Rattle.js_lexer.specs.Spots.{LessTail, SlashTail}
use Rattle.js_lexer.specs.States.{script_start}
use Rattle.js_lexer.specs.WhiteSpace.{released, held_after}
use Rattle.js_lexer.specs.declared.sense.Sense.TheVariants as sense
use Rattle.js_lexer.proofs.Told.{Named, Punctuation, Quoted, Expression, told}
use Rattle.place_core.specs.page.Classes as html
use Rattle.place_core.specs.page.Contents.{in_word}
use Rattle.place_core.specs.page.Events.{LexEvent, InsideScript, Escape, EndTagBegins, TagEnds, tag_name_bytes, told_in_script}
use Rattle.place_core.specs.page.Html.{read, read_over}
use Rattle.place_core.specs.page.References.{Closed, meaning, flushed}
use Rattle.place_core.specs.page.States.{Page, Template, LexState, Text, Pending, Nothing, PendingLess, PendingName, PendingBangDash, PendingOpening, InLanguage, InContent, config}
use Rattle.place_core.specs.page.Tags.{ValueState, OfScript, languages}
use Rattle.place_core.specs.place.Errors.{PathRefuses, is_unknown_name, is_written, node, path_refusal, shown_place, states}
use Rattle.place_core.specs.place.ScriptParts.{script_no_tails, script_senses, script_tails}
use Rattle.place_core.specs.place.StatePlaces.{placed}
use Rattle.place_core.specs.declared.code.Code.TheVariants as code
use Rattle.place_core.specs.declared.element.Element.TheVariants as element
use Rattle.place_core.specs.declared.js.Js.TheVariants as js
use Rattle.place_core.specs.declared.place.Place.TheVariants as place

-- where the content begins
abbrev begun : LexState ValueState
begun = InContent element.Script (InLanguage (OfScript (script_after_cut script_start))) Nothing

abbrev has_ended : LexState ValueState → Bool
has_ended (InContent e y h) = false
has_ended s = true

abbrev ends_in_page : List ℕ → Bool
ends_in_page bytes = has_ended (read Page bytes (config begun [])).at

abbrev ends_in_template : List ℕ → Bool
ends_in_template bytes = has_ended (states bytes begun)

abbrev pending_of : LexState ValueState → Pending
pending_of (InContent e y h) = h
pending_of s = Nothing

abbrev ended : List LexEvent → List LexEvent
ended t = TagEnds false ∷ tag_name_bytes (codes "script") (EndTagBegins ∷ t)

abbrev told_by_page : List ℕ → List LexEvent
told_by_page bytes = (read Page bytes (config begun [])).emitted

abbrev told_by_template : List ℕ → List LexEvent
told_by_template bytes = (read_over languages Template bytes (config begun [])).emitted

-- where the element ends: in a page everywhere, in a template in code and in comments
page_ends_in_string : ends_in_page (codes "s='</script>") ≡ true
unfolding class_of released held_after html.class_of meaning flushed is_unknown_name is_written in_word lib.Utf8.encode
page_ends_in_string = refl

template_goes_on_in_string : ends_in_template (codes "s='</script>") ≡ false
unfolding class_of released held_after html.class_of meaning flushed is_unknown_name is_written in_word lib.Utf8.encode
template_goes_on_in_string = refl

ends_in_code : ends_in_template (codes "a</script >") ≡ true
unfolding class_of released held_after html.class_of meaning flushed is_unknown_name is_written in_word lib.Utf8.encode
ends_in_code = refl

ends_in_any_case : ends_in_template (codes "a</SCRIPT/") ≡ true
unfolding class_of released held_after html.class_of meaning flushed is_unknown_name is_written in_word lib.Utf8.encode
ends_in_any_case = refl

ends_in_line_comment : ends_in_template (codes "a// </script>") ≡ true
unfolding class_of released held_after html.class_of meaning flushed is_unknown_name is_written in_word lib.Utf8.encode
ends_in_line_comment = refl

ends_in_block_comment : ends_in_template (codes "/* </script\n") ≡ true
unfolding class_of released held_after html.class_of meaning flushed is_unknown_name is_written in_word lib.Utf8.encode
ends_in_block_comment = refl

ends_behind_less_than : ends_in_template (codes "a<</script>") ≡ true
unfolding class_of released held_after html.class_of meaning flushed is_unknown_name is_written in_word lib.Utf8.encode
ends_behind_less_than = refl

-- not in a regular expression, of which it may be the first byte, nor in a template literal and the code in it
goes_on_in_regexp : ends_in_template (codes "/</script/") ≡ false
unfolding class_of released held_after html.class_of meaning flushed is_unknown_name is_written in_word lib.Utf8.encode
goes_on_in_regexp = refl

page_ends_in_regexp : ends_in_page (codes "/</script/") ≡ true
unfolding class_of released held_after html.class_of meaning flushed is_unknown_name is_written in_word lib.Utf8.encode
page_ends_in_regexp = refl

goes_on_in_literal : ends_in_template (codes "`</script>") ≡ false
unfolding class_of released held_after html.class_of meaning flushed is_unknown_name is_written in_word lib.Utf8.encode
goes_on_in_literal = refl

goes_on_in_code_of_literal : ends_in_template (codes "`${a</script>") ≡ false
unfolding class_of released held_after html.class_of meaning flushed is_unknown_name is_written in_word lib.Utf8.encode
goes_on_in_code_of_literal = refl

-- another name is no end tag, nor is one that a node cuts
longer_name : ends_in_page (codes "a</scripts>") ≡ false
unfolding class_of released held_after html.class_of meaning flushed is_unknown_name is_written in_word lib.Utf8.encode
longer_name = refl

name_without_end : ends_in_page (codes "a</script") ≡ false
unfolding class_of released held_after html.class_of meaning flushed is_unknown_name is_written in_word lib.Utf8.encode
name_without_end = refl

cut_in_comment : has_ended (states (codes "ipt>") (node (codes "// </scr") begun)) ≡ false
unfolding class_of released held_after html.class_of meaning flushed is_unknown_name is_written in_word lib.Utf8.encode
cut_in_comment = refl

-- what is pending: HTML's in code, and in a token what begins a word that is not written as it stands
pending_in_code : pending_of (states (codes "a</scr") begun) ≡ PendingName (codes "scr")
unfolding class_of released held_after html.class_of meaning flushed is_unknown_name is_written in_word lib.Utf8.encode
pending_in_code = refl

nothing_in_code : pending_of (states (codes "a<scr") begun) ≡ Nothing
unfolding class_of released held_after html.class_of meaning flushed is_unknown_name is_written in_word lib.Utf8.encode
nothing_in_code = refl

less_in_comment : pending_of (states (codes "/* <") begun) ≡ PendingLess
unfolding class_of released held_after html.class_of meaning flushed is_unknown_name is_written in_word lib.Utf8.encode
less_in_comment = refl

opening_in_string : pending_of (states (codes "'<scr") begun) ≡ PendingOpening (codes "scr")
unfolding class_of released held_after html.class_of meaning flushed is_unknown_name is_written in_word lib.Utf8.encode
opening_in_string = refl

declaration_in_string : pending_of (states (codes "'<!-") begun) ≡ PendingBangDash
unfolding class_of released held_after html.class_of meaning flushed is_unknown_name is_written in_word lib.Utf8.encode
declaration_in_string = refl

word_in_string : pending_of (states (codes "'<script") begun) ≡ Nothing
unfolding class_of released held_after html.class_of meaning flushed is_unknown_name is_written in_word lib.Utf8.encode
word_in_string = refl

other_word_in_string : pending_of (states (codes "'</scx") begun) ≡ Nothing
unfolding class_of released held_after html.class_of meaning flushed is_unknown_name is_written in_word lib.Utf8.encode
other_word_in_string = refl

end_tag_of_page : pending_of (states (codes "'</scr") begun) ≡ PendingName (codes "scr")
unfolding class_of released held_after html.class_of meaning flushed is_unknown_name is_written in_word lib.Utf8.encode
end_tag_of_page = refl

opening_in_page : pending_of (read Page (codes "'<scr") (config begun [])).at ≡ Nothing
unfolding class_of released held_after html.class_of meaning flushed is_unknown_name is_written in_word lib.Utf8.encode
opening_in_page = refl

whole_end_tag_in_page : pending_of (read Page (codes "'</script") (config begun [])).at ≡ PendingName (codes "script")
unfolding class_of released held_after html.class_of meaning flushed is_unknown_name is_written in_word lib.Utf8.encode
whole_end_tag_in_page = refl

-- what is told: a template's text tells its tokens, and a page those with `\x3C` in them
string_told_in_template : told_by_template (codes "s='</script>'</script>") ≡ ended (told_in_script (told (Named (codes "s") ∷ Punctuation (codes "=") ∷ Quoted (codes "'</script>'") ∷ [])) [])
unfolding class_of released held_after html.class_of meaning flushed is_unknown_name is_written in_word lib.Utf8.encode
string_told_in_template = refl

string_told_in_page : told_by_page (codes "s='\\x3C/script>'</script>") ≡ ended (told_in_script (told (Named (codes "s") ∷ Punctuation (codes "=") ∷ Quoted (codes "'</script>'") ∷ [])) [])
unfolding class_of released held_after html.class_of meaning flushed is_unknown_name is_written in_word lib.Utf8.encode
string_told_in_page = refl

escape_told_in_template : told_by_template (codes "'\\<script'</script>") ≡ ended (told_in_script (told (Quoted (codes "'<script'") ∷ [])) [])
unfolding class_of released held_after html.class_of meaning flushed is_unknown_name is_written in_word lib.Utf8.encode
escape_told_in_template = refl

escape_told_in_page : told_by_page (codes "'\\x3Cscript'</script>") ≡ ended (told_in_script (told (Quoted (codes "'<script'") ∷ [])) [])
unfolding class_of released held_after html.class_of meaning flushed is_unknown_name is_written in_word lib.Utf8.encode
escape_told_in_page = refl

regexp_told_in_template : told_by_template (codes "/</script/</script>") ≡ ended (told_in_script (told (Expression (codes "/</") ∷ Named (codes "script") ∷ Punctuation (codes "/") ∷ [])) [])
unfolding class_of released held_after html.class_of meaning flushed is_unknown_name is_written in_word lib.Utf8.encode
regexp_told_in_template = refl

regexp_told_in_page : told_by_page (codes "/\\x3C/script/</script>") ≡ ended (told_in_script (told (Expression (codes "/</") ∷ Named (codes "script") ∷ Punctuation (codes "/") ∷ [])) [])
unfolding class_of released held_after html.class_of meaning flushed is_unknown_name is_written in_word lib.Utf8.encode
regexp_told_in_page = refl

comments_told_in_template : told_by_template (codes "a/* b\n *//c/// d</script>") ≡ ended (told_in_script (told (Named (codes "a") ∷ Punctuation (codes "/") ∷ Named (codes "c") ∷ [])) [])
unfolding class_of released held_after html.class_of meaning flushed is_unknown_name is_written in_word lib.Utf8.encode
comments_told_in_template = refl

comments_told_in_page : told_by_page (codes "a\n/c</script>") ≡ ended (told_in_script (told (Named (codes "a") ∷ Punctuation (codes "/") ∷ Named (codes "c") ∷ [])) [])
unfolding class_of released held_after html.class_of meaning flushed is_unknown_name is_written in_word lib.Utf8.encode
comments_told_in_page = refl

-- a page tells a `<!--` of any place, and goes on as before; a template's text does not
escape_in_page : (read Page (codes "<!--") (config begun [])).emitted ≡ Escape ∷ told_in_script (told (Punctuation (codes "<") ∷ Punctuation (codes "!") ∷ Punctuation (codes "--") ∷ [])) []
unfolding class_of released held_after html.class_of meaning flushed is_unknown_name is_written in_word lib.Utf8.encode
escape_in_page = refl

escape_in_string_of_page : (read Page (codes "'<!--'") (config begun [])).emitted ≡ InsideScript (ScriptByte 39) ∷ Escape ∷ told_in_script (told (Quoted (codes "'<!--") ∷ [])) []
unfolding class_of released held_after html.class_of meaning flushed is_unknown_name is_written in_word lib.Utf8.encode
escape_in_string_of_page = refl

no_escape_in_template : (read_over languages Template (codes "'<!--'") (config begun [])).emitted ≡ told_in_script (told (Quoted (codes "'<!--'") ∷ [])) []
unfolding class_of released held_after html.class_of meaning flushed is_unknown_name is_written in_word lib.Utf8.encode
no_escape_in_template = refl

-- what is refused: `<!--` in code, but not in a string or a comment
comment_in_code : path_refusal (codes "x<!--") begun ≡ Some (record { code = code.HtmlInScript; at = 1; shown = 1 })
unfolding class_of released held_after html.class_of meaning flushed is_unknown_name is_written in_word lib.Utf8.encode
comment_in_code = refl

no_comment_in_string : path_refusal (codes "'<!--'") begun ≡ None
unfolding class_of released held_after html.class_of meaning flushed is_unknown_name is_written in_word lib.Utf8.encode
no_comment_in_string = refl

no_comment_in_comment : path_refusal (codes "// <!--") begun ≡ None
unfolding class_of released held_after html.class_of meaning flushed is_unknown_name is_written in_word lib.Utf8.encode
no_comment_in_comment = refl

-- an end tag that the node cuts, in code; the place that is shown is the one before its `<`
cut_end_tag : path_refusal (codes "a</scr") begun ≡ Some (record { code = code.SplitToken; at = 6; shown = 1 })
unfolding class_of released held_after html.class_of meaning flushed is_unknown_name is_written in_word lib.Utf8.encode
cut_end_tag = refl

cut_behind_solidus : path_refusal (codes "a</") begun ≡ Some (record { code = code.SplitToken; at = 3; shown = 1 })
unfolding class_of released held_after html.class_of meaning flushed is_unknown_name is_written in_word lib.Utf8.encode
cut_behind_solidus = refl

cut_behind_name : path_refusal (codes "a</SCRIPT") begun ≡ Some (record { code = code.SplitToken; at = 9; shown = 1 })
unfolding class_of released held_after html.class_of meaning flushed is_unknown_name is_written in_word lib.Utf8.encode
cut_behind_name = refl

cut_in_string : path_refusal (codes "'</scr") begun ≡ None
unfolding class_of released held_after html.class_of meaning flushed is_unknown_name is_written in_word lib.Utf8.encode
cut_in_string = refl

cut_in_line_comment : path_refusal (codes "// </scr") begun ≡ None
unfolding class_of released held_after html.class_of meaning flushed is_unknown_name is_written in_word lib.Utf8.encode
cut_in_line_comment = refl

less_than_at_the_end : path_refusal (codes "a<") begun ≡ None
unfolding class_of released held_after html.class_of meaning flushed is_unknown_name is_written in_word lib.Utf8.encode
less_than_at_the_end = refl

less_than_at_the_end_before_solidus : path_refusal (codes "/script>") (node (codes "a<") begun) ≡ Some (record { code = code.SplitToken; at = 0; shown = 0 })
unfolding class_of released held_after html.class_of meaning flushed is_unknown_name is_written in_word lib.Utf8.encode
less_than_at_the_end_before_solidus = refl

less_than_at_the_end_before_bang : path_refusal (codes "!--") (node (codes "a<") begun) ≡ Some (record { code = code.SplitToken; at = 0; shown = 0 })
unfolding class_of released held_after html.class_of meaning flushed is_unknown_name is_written in_word lib.Utf8.encode
less_than_at_the_end_before_bang = refl

-- a word in the code of a template literal, shown before the literal; a slash behind `}`, which the end tag leaves open
end_tag_in_code_of_literal : path_refusal (codes "a=`${b</script>}`") begun ≡ Some (record { code = code.HtmlInScript; at = 6; shown = 2 })
unfolding class_of released held_after html.class_of meaning flushed is_unknown_name is_written in_word lib.Utf8.encode
end_tag_in_code_of_literal = refl

start_tag_in_code_of_literal : path_refusal (codes "`${b<SCRIPT}`") begun ≡ Some (record { code = code.HtmlInScript; at = 4; shown = 0 })
unfolding class_of released held_after html.class_of meaning flushed is_unknown_name is_written in_word lib.Utf8.encode
start_tag_in_code_of_literal = refl

slash_before_end_tag : path_refusal (codes "}/</script>") begun ≡ Some (record { code = code.SlashAmbig; at = 1; shown = 1 })
unfolding class_of released held_after html.class_of meaning flushed is_unknown_name is_written in_word lib.Utf8.encode
slash_before_end_tag = refl

-- a whole element is none, nor is one with a slash that divides before its end
whole_element : path_refusal (codes "<script>if(a<b)c('</script>')/* < */</script><p>") (Text Closed) ≡ None
unfolding class_of released held_after html.class_of meaning flushed is_unknown_name is_written in_word lib.Utf8.encode
whole_element = refl

slash_that_divides : path_refusal (codes "a/</script>") begun ≡ None
unfolding class_of released held_after html.class_of meaning flushed is_unknown_name is_written in_word lib.Utf8.encode
slash_that_divides = refl

-- an escape and a string that is open at the end
escape_cut : path_refusal (codes "'a\\x4") begun ≡ Some (record { code = code.PartialEscape; at = 5; shown = 2 })
unfolding class_of released held_after html.class_of meaning flushed is_unknown_name is_written in_word lib.Utf8.encode
escape_cut = refl

line_end_in_string : path_refusal (codes "'a\n") begun ≡ Some (record { code = code.BadString; at = 2; shown = 2 })
unfolding class_of released held_after html.class_of meaning flushed is_unknown_name is_written in_word lib.Utf8.encode
line_end_in_string = refl

-- its places
at_beginning : placed (node (codes "<script>") (Text Closed)) ≡ Some (place.Script (js.Code (script_senses sense.Re) script_no_tails))
unfolding class_of released held_after html.class_of meaning flushed is_unknown_name is_written in_word lib.Utf8.encode
at_beginning = refl

behind_less : placed (node (codes "a<") begun) ≡ Some (place.Script (js.Code (script_senses sense.Re) (script_tails LessTail)))
unfolding class_of released held_after html.class_of meaning flushed is_unknown_name is_written in_word lib.Utf8.encode
behind_less = refl

behind_slash : placed (node (codes "a/") begun) ≡ Some (place.Script (js.Code (script_senses sense.Re) (script_tails SlashTail)))
unfolding class_of released held_after html.class_of meaning flushed is_unknown_name is_written in_word lib.Utf8.encode
behind_slash = refl

behind_brace : placed (node (codes "}") begun) ≡ Some (place.Script (js.Code (script_senses sense.Brace) script_no_tails))
unfolding class_of released held_after html.class_of meaning flushed is_unknown_name is_written in_word lib.Utf8.encode
behind_brace = refl

in_string : placed (node (codes "f('</scr") begun) ≡ Some (place.Script (js.Sq))
unfolding class_of released held_after html.class_of meaning flushed is_unknown_name is_written in_word lib.Utf8.encode
in_string = refl

in_double_quoted : placed (node (codes "f(\"<") begun) ≡ Some (place.Script (js.Dq))
unfolding class_of released held_after html.class_of meaning flushed is_unknown_name is_written in_word lib.Utf8.encode
in_double_quoted = refl

in_regexp : placed (node (codes "=/<scr") begun) ≡ Some (place.Script (js.Regexp false))
unfolding class_of released held_after html.class_of meaning flushed is_unknown_name is_written in_word lib.Utf8.encode
in_regexp = refl

at_slash_of_regexp : placed (node (codes "=/") begun) ≡ Some (place.Script (js.Regexp true))
unfolding class_of released held_after html.class_of meaning flushed is_unknown_name is_written in_word lib.Utf8.encode
at_slash_of_regexp = refl

in_line_comment : placed (node (codes "}// </scr") begun) ≡ Some (place.Script (js.Line (script_senses sense.Brace)))
unfolding class_of released held_after html.class_of meaning flushed is_unknown_name is_written in_word lib.Utf8.encode
in_line_comment = refl

in_block_comment : placed (node (codes "a/* <") begun) ≡ Some (place.Script (js.Block (script_senses sense.Div) false))
unfolding class_of released held_after html.class_of meaning flushed is_unknown_name is_written in_word lib.Utf8.encode
in_block_comment = refl

behind_star : placed (node (codes "a/* *") begun) ≡ Some (place.Script (js.Block (script_senses sense.Div) true))
unfolding class_of released held_after html.class_of meaning flushed is_unknown_name is_written in_word lib.Utf8.encode
behind_star = refl

-- within what may be the end tag there is none, and that before it is shown
within_end_tag : placed (states (codes "a</scr") begun) ≡ None
unfolding class_of released held_after html.class_of meaning flushed is_unknown_name is_written in_word lib.Utf8.encode
within_end_tag = refl

within_literal : placed (node (codes "`a") begun) ≡ None
unfolding class_of released held_after html.class_of meaning flushed is_unknown_name is_written in_word lib.Utf8.encode
within_literal = refl

shown_before_end_tag : PathRefuses (codes "a;</scr") begun (record { code = code.SplitToken; at = 7; before = place.Script (js.Code (script_senses sense.Re) script_no_tails) })
unfolding class_of released held_after html.class_of meaning flushed is_unknown_name is_written in_word lib.Utf8.encode
shown_before_end_tag = record { shown = _; stands = refl; before = refl }

shown_before_literal : shown_place 2 (codes "a=`${b</script>") begun ≡ Some (place.Script (js.Code (script_senses sense.Re) script_no_tails))
unfolding class_of released held_after html.class_of meaning flushed is_unknown_name is_written in_word lib.Utf8.encode
shown_before_literal = refl
