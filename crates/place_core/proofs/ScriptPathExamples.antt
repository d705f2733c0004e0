-- Worked examples of how values that are scripts are read, in a page and on a path, and where what is refused stands, by computing.
use Rattle.std.proofs.Common.{◌≡◌, ℕ, true, false, List, [], ◌∷◌, codes, Some, None, refl, inr}
use Rattle.js_lexer.specs.Classes.{class_of}
use Rattle.js_lexer.specs.Events.{WordBegins, NumberBegins, PunctuatorBegins, StringBegins, RegexpBegins, TemplateBegins, ScriptByte, BracketsBegin}
use Rattle.js_lexer.specs.Holes.{script_after_cut}
use Rattle.js_lexer.specs.Spots.{NoTail, WordTail, NumberTail, LessTail, SlashTail, PlusTail, MinusTail, HashTail}
use Rattle.js_lexer.specs.States.{script_start}
use Rattle.js_lexer.specs.WhiteSpace.{released, held_after}
use Rattle.js_lexer.specs.declared.sense.Sense.TheVariants as sense
use Rattle.place_core.specs.page.Classes as html
use Rattle.place_core.specs.page.Events.{Mark, InsideScript, AttributeBegins, AttributeNameByte, AttributeNameEnds, TagEnds}
use Rattle.place_core.specs.page.Html.{read}
use Rattle.place_core.specs.page.Paths.{Written, Hole, read_path}
use Rattle.place_core.specs.page.References.{Closed, meaning, flushed}
use Rattle.place_core.specs.page.States.{Page, LexState, Text, BeforeAttributeName, BeforeAttributeValue, AttributeValue, config}
use Rattle.place_core.specs.page.Tags.{DoubleQuoted, ValueOf, ValueState, OfScript, languages, tag_named}
use Rattle.place_core.specs.place.Errors.{PathRefuses, is_unknown_name, is_written, node, path_refusal}
use Rattle.place_core.specs.place.PathPairs.{Clashes, ClashesSlash}
use Rattle.place_core.specs.place.ScriptParts.{script_senses, script_tails}
use Rattle.place_core.specs.place.StatePlaces.{placed, quotes_at}
use Rattle.place_core.specs.declared.body.Body.TheVariants as body
use Rattle.place_core.specs.declared.code.Code.{Code}
use Rattle.place_core.specs.declared.code.Code.TheVariants as code
use Rattle.place_core.specs.declared.element.Element.TheVariants as element
use Rattle.place_core.specs.declared.js.Js.{Js}
use Rattle.place_core.specs.declared.js.Js.TheVariants as js
use Rattle.place_core.specs.declared.kind.Kind.TheVariants as kind
use Rattle.place_core.specs.declared.place.Place.{Place}
use Rattle.place_core.specs.declared.place.Place.TheVariants as place
use Rattle.place_core.specs.declared.tag_of.TagOf.TheVariants as tag

-- behind `<p onclick="`, and behind more text
abbrev begun : LexState ValueState
begun = AttributeValue DoubleQuoted (tag_named false (codes "p")) (ValueOf (OfScript (script_after_cut script_start))) Closed

abbrev behind : List ℕ → LexState ValueState
behind bytes = node bytes begun

-- the contexts there
abbrev in_script : Js → Place
in_script j = place.Value (record { tag = tag.Start element.Other; typed = false; quotes = quotes_at DoubleQuoted; body = body.Js j })

-- a text behind another one is refused by this code, at this byte, and this context is shown
abbrev Refuses : (before bytes : List ℕ) → Code → ℕ → Js → Type 0
Refuses before bytes e at j = PathRefuses bytes (behind before) (record { code = e; at = at; before = in_script j })

abbrev Accepts : (before bytes : List ℕ) → Type 0
Accepts before bytes = path_refusal bytes (behind before) ≡ None

-- Pages.

-- a value tells its tokens, and blanks and comments tell nothing; a slash behind `=` begins a regular expression
handler : (read Page (codes "onclick=\"x = /[/]/\">") (config (BeforeAttributeName (tag_named false (codes "p"))) [])).emitted
    ≡ TagEnds false
    ∷ InsideScript (ScriptByte 47) ∷ InsideScript (ScriptByte 93) ∷ InsideScript (ScriptByte 47)
    ∷ InsideScript BracketsBegin ∷ InsideScript (ScriptByte 91) ∷ InsideScript (ScriptByte 47) ∷ InsideScript RegexpBegins
    ∷ InsideScript (ScriptByte 61) ∷ InsideScript PunctuatorBegins ∷ InsideScript (ScriptByte 120) ∷ InsideScript WordBegins
    ∷ AttributeNameEnds kind.Script
    ∷ AttributeNameByte 107 ∷ AttributeNameByte 99 ∷ AttributeNameByte 105 ∷ AttributeNameByte 108 ∷ AttributeNameByte 99
    ∷ AttributeNameByte 110 ∷ AttributeNameByte 111 ∷ AttributeBegins ∷ []
unfolding class_of released held_after html.class_of meaning flushed is_unknown_name is_written lib.Utf8.encode
handler = refl

-- a reference is undone before the script reads it
call : (read Page (codes "f(&#39;a&#39;)") (config begun [])).emitted
    ≡ InsideScript (ScriptByte 41) ∷ InsideScript PunctuatorBegins
    ∷ InsideScript (ScriptByte 39) ∷ InsideScript (ScriptByte 97) ∷ InsideScript (ScriptByte 39) ∷ InsideScript StringBegins
    ∷ InsideScript (ScriptByte 40) ∷ InsideScript PunctuatorBegins ∷ InsideScript (ScriptByte 102) ∷ InsideScript WordBegins ∷ []
unfolding class_of released held_after html.class_of meaning flushed is_unknown_name is_written lib.Utf8.encode
call = refl

-- a value without quotes: a slash that divides, and a comment
unquoted : (read Page (codes "1&sol;2/*a*/>") (config (BeforeAttributeValue (tag_named false (codes "p")) kind.Script) [])).emitted
    ≡ TagEnds false ∷ InsideScript (ScriptByte 50) ∷ InsideScript NumberBegins
    ∷ InsideScript (ScriptByte 47) ∷ InsideScript PunctuatorBegins ∷ InsideScript (ScriptByte 49) ∷ InsideScript NumberBegins ∷ []
unfolding class_of released held_after html.class_of meaning flushed is_unknown_name is_written lib.Utf8.encode
unquoted = refl

-- a template literal is one token, with the code in it
literal_of_page : (read Page (codes "`${a}`\"") (config begun [])).emitted
    ≡ InsideScript (ScriptByte 96) ∷ InsideScript (ScriptByte 125) ∷ InsideScript (ScriptByte 97) ∷ InsideScript (ScriptByte 123)
    ∷ InsideScript (ScriptByte 36) ∷ InsideScript (ScriptByte 96) ∷ InsideScript TemplateBegins ∷ []
unfolding class_of released held_after html.class_of meaning flushed is_unknown_name is_written lib.Utf8.encode
literal_of_page = refl

-- a page refuses nothing: behind `}` a slash divides
slash_of_page : (read Page (codes "}/a") (config begun [])).emitted
    ≡ InsideScript (ScriptByte 97) ∷ InsideScript WordBegins ∷ InsideScript (ScriptByte 47) ∷ InsideScript PunctuatorBegins
    ∷ InsideScript (ScriptByte 125) ∷ InsideScript PunctuatorBegins ∷ []
unfolding class_of released held_after html.class_of meaning flushed is_unknown_name is_written lib.Utf8.encode
slash_of_page = refl

-- Paths.

-- a hole behind a slash: the slash is told before its mark; one in a comment has none
mark_behind_slash : (read_path languages (Written (codes "a/") ∷ Hole ∷ []) (config begun [])).emitted
    ≡ Mark ∷ InsideScript (ScriptByte 47) ∷ InsideScript PunctuatorBegins ∷ InsideScript (ScriptByte 97) ∷ InsideScript WordBegins ∷ []
unfolding class_of released held_after html.class_of meaning flushed is_unknown_name is_written lib.Utf8.encode
mark_behind_slash = refl

no_mark_in_comment : (read_path languages (Written (codes "//") ∷ Hole ∷ []) (config begun [])).emitted ≡ []
unfolding class_of released held_after html.class_of meaning flushed is_unknown_name is_written lib.Utf8.encode
no_mark_in_comment = refl

-- where a node ends
behind_word : placed (behind (codes "a")) ≡ Some (in_script (js.Code (script_senses sense.Div) (script_tails WordTail)))
unfolding class_of released held_after html.class_of meaning flushed is_unknown_name is_written lib.Utf8.encode
behind_word = refl

behind_operator : placed (behind (codes "return")) ≡ Some (in_script (js.Code (script_senses sense.Re) (script_tails WordTail)))
unfolding class_of released held_after html.class_of meaning flushed is_unknown_name is_written lib.Utf8.encode
behind_operator = refl

behind_unclear_word : placed (behind (codes "of")) ≡ Some (in_script (js.Code (script_senses sense.Brace) (script_tails WordTail)))
unfolding class_of released held_after html.class_of meaning flushed is_unknown_name is_written lib.Utf8.encode
behind_unclear_word = refl

behind_number : placed (behind (codes "1.5")) ≡ Some (in_script (js.Code (script_senses sense.Div) (script_tails NumberTail)))
unfolding class_of released held_after html.class_of meaning flushed is_unknown_name is_written lib.Utf8.encode
behind_number = refl

behind_less : placed (behind (codes "a<")) ≡ Some (in_script (js.Code (script_senses sense.Re) (script_tails LessTail)))
unfolding class_of released held_after html.class_of meaning flushed is_unknown_name is_written lib.Utf8.encode
behind_less = refl

behind_less_and_word : placed (behind (codes "a<s")) ≡ Some (in_script (js.Code (script_senses sense.Div) (script_tails WordTail)))
unfolding class_of released held_after html.class_of meaning flushed is_unknown_name is_written lib.Utf8.encode
behind_less_and_word = refl

behind_slash : placed (behind (codes "a/")) ≡ Some (in_script (js.Code (script_senses sense.Re) (script_tails SlashTail)))
unfolding class_of released held_after html.class_of meaning flushed is_unknown_name is_written lib.Utf8.encode
behind_slash = refl

behind_two_pluses : placed (behind (codes "a++")) ≡ Some (in_script (js.Code (script_senses sense.Div) (script_tails PlusTail)))
unfolding class_of released held_after html.class_of meaning flushed is_unknown_name is_written lib.Utf8.encode
behind_two_pluses = refl

behind_minus : placed (behind (codes "a-")) ≡ Some (in_script (js.Code (script_senses sense.Re) (script_tails MinusTail)))
unfolding class_of released held_after html.class_of meaning flushed is_unknown_name is_written lib.Utf8.encode
behind_minus = refl

behind_number_sign : placed (behind (codes "#")) ≡ Some (in_script (js.Code (script_senses sense.Div) (script_tails HashTail)))
unfolding class_of released held_after html.class_of meaning flushed is_unknown_name is_written lib.Utf8.encode
behind_number_sign = refl

behind_brace : placed (behind (codes "} ")) ≡ Some (in_script (js.Code (script_senses sense.Brace) (script_tails NoTail)))
unfolding class_of released held_after html.class_of meaning flushed is_unknown_name is_written lib.Utf8.encode
behind_brace = refl

in_string : placed (behind (codes "f('")) ≡ Some (in_script js.Sq)
unfolding class_of released held_after html.class_of meaning flushed is_unknown_name is_written lib.Utf8.encode
in_string = refl

in_regexp : placed (behind (codes "/a")) ≡ Some (in_script (js.Regexp false))
unfolding class_of released held_after html.class_of meaning flushed is_unknown_name is_written lib.Utf8.encode
in_regexp = refl

behind_slash_of_regexp : placed (behind (codes "=/")) ≡ Some (in_script (js.Regexp true))
unfolding class_of released held_after html.class_of meaning flushed is_unknown_name is_written lib.Utf8.encode
behind_slash_of_regexp = refl

in_line_comment : placed (behind (codes "}//")) ≡ Some (in_script (js.Line (script_senses sense.Brace)))
unfolding class_of released held_after html.class_of meaning flushed is_unknown_name is_written lib.Utf8.encode
in_line_comment = refl

in_block_comment : placed (behind (codes "/*")) ≡ Some (in_script (js.Block (script_senses sense.Re) false))
unfolding class_of released held_after html.class_of meaning flushed is_unknown_name is_written lib.Utf8.encode
in_block_comment = refl

behind_star : placed (behind (codes "a/* *")) ≡ Some (in_script (js.Block (script_senses sense.Div) true))
unfolding class_of released held_after html.class_of meaning flushed is_unknown_name is_written lib.Utf8.encode
behind_star = refl

-- What is refused, and what is not.

-- a script is accepted
handler_of_template : path_refusal (codes "<p onclick=\"f(1)\">") (Text Closed) ≡ None
unfolding class_of released held_after html.class_of meaning flushed is_unknown_name is_written lib.Utf8.encode
handler_of_template = refl

-- SlashAmbig: a slash behind `}`, and behind a word that is a name in some places, stands where it is written, though what follows tells it: at
-- the `&` of its reference, before a name that stands for nothing, and where the value or the node ends.
slash : Refuses [] (codes "}/x") code.SlashAmbig 1 (js.Code (script_senses sense.Brace) (script_tails NoTail))
unfolding class_of released held_after html.class_of meaning flushed is_unknown_name is_written lib.Utf8.encode
slash = record { shown = 1; stands = refl; before = refl }

slash_behind_name : Refuses [] (codes "await /x") code.SlashAmbig 6 (js.Code (script_senses sense.Brace) (script_tails NoTail))
unfolding class_of released held_after html.class_of meaning flushed is_unknown_name is_written lib.Utf8.encode
slash_behind_name = record { shown = 6; stands = refl; before = refl }

slash_of_next_node : Refuses (codes "}") (codes "/ 2") code.SlashAmbig 0 (js.Code (script_senses sense.Brace) (script_tails NoTail))
unfolding class_of released held_after html.class_of meaning flushed is_unknown_name is_written lib.Utf8.encode
slash_of_next_node = record { shown = 0; stands = refl; before = refl }

slash_behind_comment : Refuses (codes "}//a") (codes "\n/b") code.SlashAmbig 1 (js.Code (script_senses sense.Brace) (script_tails NoTail))
unfolding class_of released held_after html.class_of meaning flushed is_unknown_name is_written lib.Utf8.encode
slash_behind_comment = record { shown = 1; stands = refl; before = refl }

slash_in_reference : Refuses [] (codes "}&#47;x") code.SlashAmbig 1 (js.Code (script_senses sense.Brace) (script_tails NoTail))
unfolding class_of released held_after html.class_of meaning flushed is_unknown_name is_written lib.Utf8.encode
slash_in_reference = record { shown = 1; stands = refl; before = refl }

slash_before_name : Refuses [] (codes "}/&b;") code.SlashAmbig 1 (js.Code (script_senses sense.Brace) (script_tails NoTail))
unfolding class_of released held_after html.class_of meaning flushed is_unknown_name is_written lib.Utf8.encode
slash_before_name = record { shown = 1; stands = refl; before = refl }

slash_at_end_of_value : Refuses [] (codes "}/\">") code.SlashAmbig 1 (js.Code (script_senses sense.Brace) (script_tails NoTail))
unfolding class_of released held_after html.class_of meaning flushed is_unknown_name is_written lib.Utf8.encode
slash_at_end_of_value = record { shown = 1; stands = refl; before = refl }

slash_at_cut : Refuses [] (codes "}&#47;") code.SlashAmbig 1 (js.Code (script_senses sense.Brace) (script_tails NoTail))
unfolding class_of released held_after html.class_of meaning flushed is_unknown_name is_written lib.Utf8.encode
slash_at_cut = record { shown = 1; stands = refl; before = refl }

comments_behind_brace : Accepts [] (codes "} /* a */ // b")
unfolding class_of released held_after html.class_of meaning flushed is_unknown_name is_written lib.Utf8.encode
comments_behind_brace = refl

slash_behind_parenthesis : Accepts (codes ")") (codes "/x")
unfolding class_of released held_after html.class_of meaning flushed is_unknown_name is_written lib.Utf8.encode
slash_behind_parenthesis = refl

-- and on two paths, of which one has ended in `a` and the other in `(`; not where both have ended before an operand, nor at a comment
two_senses : Clashes (codes " /b") (behind (codes "a")) (behind (codes "(")) code.SlashAmbig 1
unfolding class_of released held_after html.class_of meaning flushed is_unknown_name is_written lib.Utf8.encode
two_senses = inr (record { is = refl; part = refl; shown = 1; refused = refl })

two_senses_behind_comment : Clashes (codes "/**/&sol;b") (behind (codes "(")) (behind (codes "a")) code.SlashAmbig 4
unfolding class_of released held_after html.class_of meaning flushed is_unknown_name is_written lib.Utf8.encode
two_senses_behind_comment = inr (record { is = refl; part = refl; shown = 4; refused = refl })

one_sense : ClashesSlash (codes " /b") (behind (codes "a")) (behind (codes ")")) code.SlashAmbig 1 → ⊥
unfolding class_of released held_after html.class_of meaning flushed is_unknown_name is_written lib.Utf8.encode
one_sense h = cc

comment_on_two : ClashesSlash (codes " //b") (behind (codes "a")) (behind (codes "(")) code.SlashAmbig 1 → ⊥
unfolding class_of released held_after html.class_of meaning flushed is_unknown_name is_written lib.Utf8.encode
comment_on_two h = cc

-- SplitToken: the first character of a node that goes on with what the node before ended in
split_word : Refuses (codes "a") (codes "b") code.SplitToken 0 (js.Code (script_senses sense.Div) (script_tails WordTail))
unfolding class_of released held_after html.class_of meaning flushed is_unknown_name is_written lib.Utf8.encode
split_word = record { shown = 0; stands = refl; before = refl }

split_operator : Refuses (codes "return") (codes "&#97;") code.SplitToken 0 (js.Code (script_senses sense.Re) (script_tails WordTail))
unfolding class_of released held_after html.class_of meaning flushed is_unknown_name is_written lib.Utf8.encode
split_operator = record { shown = 0; stands = refl; before = refl }

split_number : Refuses (codes "1") (codes ".5") code.SplitToken 0 (js.Code (script_senses sense.Div) (script_tails NumberTail))
unfolding class_of released held_after html.class_of meaning flushed is_unknown_name is_written lib.Utf8.encode
split_number = record { shown = 0; stands = refl; before = refl }

split_less : Refuses (codes "a<") (codes "!") code.SplitToken 0 (js.Code (script_senses sense.Re) (script_tails LessTail))
unfolding class_of released held_after html.class_of meaning flushed is_unknown_name is_written lib.Utf8.encode
split_less = record { shown = 0; stands = refl; before = refl }

split_end_tag : Refuses (codes "a<") (codes "/") code.SplitToken 0 (js.Code (script_senses sense.Re) (script_tails LessTail))
unfolding class_of released held_after html.class_of meaning flushed is_unknown_name is_written lib.Utf8.encode
split_end_tag = record { shown = 0; stands = refl; before = refl }

split_slash : Refuses (codes "a/") (codes "/") code.SplitToken 0 (js.Code (script_senses sense.Re) (script_tails SlashTail))
unfolding class_of released held_after html.class_of meaning flushed is_unknown_name is_written lib.Utf8.encode
split_slash = record { shown = 0; stands = refl; before = refl }

split_regexp : Refuses (codes "=/") (codes "*") code.SplitToken 0 (js.Regexp true)
unfolding class_of released held_after html.class_of meaning flushed is_unknown_name is_written lib.Utf8.encode
split_regexp = record { shown = 0; stands = refl; before = refl }

split_pluses : Refuses (codes "a+") (codes "+") code.SplitToken 0 (js.Code (script_senses sense.Re) (script_tails PlusTail))
unfolding class_of released held_after html.class_of meaning flushed is_unknown_name is_written lib.Utf8.encode
split_pluses = record { shown = 0; stands = refl; before = refl }

split_minuses : Refuses (codes "a-") (codes "-") code.SplitToken 0 (js.Code (script_senses sense.Re) (script_tails MinusTail))
unfolding class_of released held_after html.class_of meaning flushed is_unknown_name is_written lib.Utf8.encode
split_minuses = record { shown = 0; stands = refl; before = refl }

split_arrow : Refuses (codes "a-") (codes ">") code.SplitToken 0 (js.Code (script_senses sense.Re) (script_tails MinusTail))
unfolding class_of released held_after html.class_of meaning flushed is_unknown_name is_written lib.Utf8.encode
split_arrow = record { shown = 0; stands = refl; before = refl }

split_number_sign : Refuses (codes "#") (codes "!") code.SplitToken 0 (js.Code (script_senses sense.Div) (script_tails HashTail))
unfolding class_of released held_after html.class_of meaning flushed is_unknown_name is_written lib.Utf8.encode
split_number_sign = record { shown = 0; stands = refl; before = refl }

split_star : Refuses (codes "/* *") (codes "/") code.SplitToken 0 (js.Block (script_senses sense.Re) true)
unfolding class_of released held_after html.class_of meaning flushed is_unknown_name is_written lib.Utf8.encode
split_star = record { shown = 0; stands = refl; before = refl }

apart_word : Accepts (codes "a") (codes " b")
unfolding class_of released held_after html.class_of meaning flushed is_unknown_name is_written lib.Utf8.encode
apart_word = refl

apart_number : Accepts (codes "1") (codes " .5")
unfolding class_of released held_after html.class_of meaning flushed is_unknown_name is_written lib.Utf8.encode
apart_number = refl

apart_less : Accepts (codes "a<") (codes "=!b")
unfolding class_of released held_after html.class_of meaning flushed is_unknown_name is_written lib.Utf8.encode
apart_less = refl

apart_slash : Accepts (codes "a/") (codes " /b/")
unfolding class_of released held_after html.class_of meaning flushed is_unknown_name is_written lib.Utf8.encode
apart_slash = refl

apart_pluses : Accepts (codes "a+") (codes "-b")
unfolding class_of released held_after html.class_of meaning flushed is_unknown_name is_written lib.Utf8.encode
apart_pluses = refl

apart_minuses : Accepts (codes "a-") (codes " -b")
unfolding class_of released held_after html.class_of meaning flushed is_unknown_name is_written lib.Utf8.encode
apart_minuses = refl

apart_number_sign : Accepts (codes "#") (codes "a")
unfolding class_of released held_after html.class_of meaning flushed is_unknown_name is_written lib.Utf8.encode
apart_number_sign = refl

apart_star : Accepts (codes "/* *") (codes " */")
unfolding class_of released held_after html.class_of meaning flushed is_unknown_name is_written lib.Utf8.encode
apart_star = refl

-- and a node that ends in what HTML may read as the end of a script or a comment, in any case
cut_end_tag : Refuses [] (codes "a</sc") code.SplitToken 5 (js.Code (script_senses sense.Div) (script_tails WordTail))
unfolding class_of released held_after html.class_of meaning flushed is_unknown_name is_written lib.Utf8.encode
cut_end_tag = record { shown = 1; stands = refl; before = refl }

cut_end_tag_begun : Refuses [] (codes "a</") code.SplitToken 3 (js.Code (script_senses sense.Div) (script_tails WordTail))
unfolding class_of released held_after html.class_of meaning flushed is_unknown_name is_written lib.Utf8.encode
cut_end_tag_begun = record { shown = 1; stands = refl; before = refl }

cut_whole_end_tag : Refuses [] (codes "a</ScRiPt") code.SplitToken 9 (js.Code (script_senses sense.Div) (script_tails WordTail))
unfolding class_of released held_after html.class_of meaning flushed is_unknown_name is_written lib.Utf8.encode
cut_whole_end_tag = record { shown = 1; stands = refl; before = refl }

cut_comment : Refuses [] (codes "a&lt;!-") code.SplitToken 7 (js.Code (script_senses sense.Div) (script_tails WordTail))
unfolding class_of released held_after html.class_of meaning flushed is_unknown_name is_written lib.Utf8.encode
cut_comment = record { shown = 1; stands = refl; before = refl }

other_end_tag : Accepts [] (codes "a</p")
unfolding class_of released held_after html.class_of meaning flushed is_unknown_name is_written lib.Utf8.encode
other_end_tag = refl

-- PartialCharset: shown is the context before the `[`
brackets : Refuses [] (codes "/a[b[") code.PartialCharset 5 (js.Regexp false)
unfolding class_of released held_after html.class_of meaning flushed is_unknown_name is_written lib.Utf8.encode
brackets = record { shown = 2; stands = refl; before = refl }

brackets_first : Refuses [] (codes "=/[") code.PartialCharset 3 (js.Regexp true)
unfolding class_of released held_after html.class_of meaning flushed is_unknown_name is_written lib.Utf8.encode
brackets_first = record { shown = 2; stands = refl; before = refl }

brackets_and_escape : Refuses [] (codes "/a[\\x") code.PartialCharset 5 (js.Regexp false)
unfolding class_of released held_after html.class_of meaning flushed is_unknown_name is_written lib.Utf8.encode
brackets_and_escape = record { shown = 2; stands = refl; before = refl }

brackets_closed : Accepts [] (codes "/[/]")
unfolding class_of released held_after html.class_of meaning flushed is_unknown_name is_written lib.Utf8.encode
brackets_closed = refl

-- PartialEscape: shown is the context before the backslash
escape : Refuses [] (codes "'a&#92;x4") code.PartialEscape 9 js.Sq
unfolding class_of released held_after html.class_of meaning flushed is_unknown_name is_written lib.Utf8.encode
escape = record { shown = 2; stands = refl; before = refl }

backslash : Refuses [] (codes "'a\\") code.PartialEscape 3 js.Sq
unfolding class_of released held_after html.class_of meaning flushed is_unknown_name is_written lib.Utf8.encode
backslash = record { shown = 2; stands = refl; before = refl }

escape_of_unicode : Refuses [] (codes "'\\u00e") code.PartialEscape 6 js.Sq
unfolding class_of released held_after html.class_of meaning flushed is_unknown_name is_written lib.Utf8.encode
escape_of_unicode = record { shown = 1; stands = refl; before = refl }

escape_in_braces : Refuses [] (codes "'a\\u{41 b") code.PartialEscape 9 js.Sq
unfolding class_of released held_after html.class_of meaning flushed is_unknown_name is_written lib.Utf8.encode
escape_in_braces = record { shown = 2; stands = refl; before = refl }

escape_of_digits : Refuses [] (codes "'a\\12") code.PartialEscape 5 js.Sq
unfolding class_of released held_after html.class_of meaning flushed is_unknown_name is_written lib.Utf8.encode
escape_of_digits = record { shown = 2; stands = refl; before = refl }

escape_of_control : Refuses [] (codes "/a\\c") code.PartialEscape 4 (js.Regexp false)
unfolding class_of released held_after html.class_of meaning flushed is_unknown_name is_written lib.Utf8.encode
escape_of_control = record { shown = 2; stands = refl; before = refl }

escapes_whole : Accepts [] (codes "'\\x41\\u0041\\u{41}\\123\\c")
unfolding class_of released held_after html.class_of meaning flushed is_unknown_name is_written lib.Utf8.encode
escapes_whole = refl

-- BadString: the end of a line in a string that no backslash takes, and in a regular expression, within its `[ ]` too
line_end : Refuses [] (codes "'a\n") code.BadString 2 js.Sq
unfolding class_of released held_after html.class_of meaning flushed is_unknown_name is_written lib.Utf8.encode
line_end = record { shown = 2; stands = refl; before = refl }

line_end_in_reference : Refuses [] (codes "'a&NewLine;") code.BadString 2 js.Sq
unfolding class_of released held_after html.class_of meaning flushed is_unknown_name is_written lib.Utf8.encode
line_end_in_reference = record { shown = 2; stands = refl; before = refl }

line_end_in_regexp : Refuses [] (codes "/a\\\n") code.BadString 3 (js.Regexp false)
unfolding class_of released held_after html.class_of meaning flushed is_unknown_name is_written lib.Utf8.encode
line_end_in_regexp = record { shown = 3; stands = refl; before = refl }

line_end_in_brackets : Refuses [] (codes "/[\n") code.BadString 2 (js.Regexp false)
unfolding class_of released held_after html.class_of meaning flushed is_unknown_name is_written lib.Utf8.encode
line_end_in_brackets = record { shown = 2; stands = refl; before = refl }

line_end_taken : Accepts [] (codes "'a\\\nb'")
unfolding class_of released held_after html.class_of meaning flushed is_unknown_name is_written lib.Utf8.encode
line_end_taken = refl

-- JSTemplate: shown is the context before the outermost literal
literal : Refuses [] (codes "a`b`c`d") code.JSTemplate 7 (js.Code (script_senses sense.Div) (script_tails WordTail))
unfolding class_of released held_after html.class_of meaning flushed is_unknown_name is_written lib.Utf8.encode
literal = record { shown = 5; stands = refl; before = refl }

literal_in_literal : Refuses [] (codes "a`${`") code.JSTemplate 5 (js.Code (script_senses sense.Div) (script_tails WordTail))
unfolding class_of released held_after html.class_of meaning flushed is_unknown_name is_written lib.Utf8.encode
literal_in_literal = record { shown = 1; stands = refl; before = refl }

-- literals that nest too deep, also where the value ends before its node does
seventeen_literals : Refuses [] (codes "a`${`${`${`${`${`${`${`${`${`${`${`${`${`${`${`${`${\" id=\"b") code.JSTemplate 59 (js.Code (script_senses sense.Div) (script_tails WordTail))
unfolding class_of released held_after html.class_of meaning flushed is_unknown_name is_written lib.Utf8.encode
seventeen_literals = record { shown = 1; stands = refl; before = refl }

literal_in_value : Accepts [] (codes "a`b\" id=\"b")
unfolding class_of released held_after html.class_of meaning flushed is_unknown_name is_written lib.Utf8.encode
literal_in_value = refl

literal_whole : Accepts [] (codes "a`${ {a: `b`} }`")
unfolding class_of released held_after html.class_of meaning flushed is_unknown_name is_written lib.Utf8.encode
literal_whole = refl

-- HtmlInScript: markup in code stands at its first byte
markup : Refuses [] (codes "a&lt;!--") code.HtmlInScript 1 (js.Code (script_senses sense.Div) (script_tails WordTail))
unfolding class_of released held_after html.class_of meaning flushed is_unknown_name is_written lib.Utf8.encode
markup = record { shown = 1; stands = refl; before = refl }

end_of_comment : Refuses [] (codes "n-->0") code.HtmlInScript 1 (js.Code (script_senses sense.Div) (script_tails WordTail))
unfolding class_of released held_after html.class_of meaning flushed is_unknown_name is_written lib.Utf8.encode
end_of_comment = record { shown = 1; stands = refl; before = refl }

end_of_comment_behind_run : Refuses [] (codes "x=--->") code.HtmlInScript 3 (js.Code (script_senses sense.Re) (script_tails MinusTail))
unfolding class_of released held_after html.class_of meaning flushed is_unknown_name is_written lib.Utf8.encode
end_of_comment_behind_run = record { shown = 3; stands = refl; before = refl }

hashbang : Refuses [] (codes "#!a") code.HtmlInScript 0 (js.Code (script_senses sense.Re) (script_tails NoTail))
unfolding class_of released held_after html.class_of meaning flushed is_unknown_name is_written lib.Utf8.encode
hashbang = record { shown = 0; stands = refl; before = refl }

markup_in_string : Accepts [] (codes "'<!-- --> #!'")
unfolding class_of released held_after html.class_of meaning flushed is_unknown_name is_written lib.Utf8.encode
markup_in_string = refl

markup_in_comment : Accepts [] (codes "/* <!-- --> #! */")
unfolding class_of released held_after html.class_of meaning flushed is_unknown_name is_written lib.Utf8.encode
markup_in_comment = refl

markup_in_literal : Accepts [] (codes "`${ a<!--b }`")
unfolding class_of released held_after html.class_of meaning flushed is_unknown_name is_written lib.Utf8.encode
markup_in_literal = refl

-- BadHTML: a name that stands for no character, at its `&`
unknown_name : Refuses [] (codes "a&b;") code.BadHTML 1 (js.Code (script_senses sense.Div) (script_tails WordTail))
unfolding class_of released held_after html.class_of meaning flushed is_unknown_name is_written lib.Utf8.encode
unknown_name = record { shown = 1; stands = refl; before = refl }

-- a whole value
accepted : Accepts [] (codes "f('a\\'b', `${ {a: 1} }`) / /[/]/\">")
unfolding class_of released held_after html.class_of meaning flushed is_unknown_name is_written lib.Utf8.encode
accepted = refl
