-- Worked examples of texts of templates that are refused in a script, with the offset of the refusal and the one before which the place is shown;
-- and of texts that are not.
use Rattle.std.proofs.Common.{◌≡◌, ℕ, true, false, codes, List, [], ◌∷◌, ◌++◌, Option, None, refl}
use Rattle.js_lexer.specs.Classes.{class_of}
use Rattle.js_lexer.specs.Nodes.{Refused, refused, node_refusal, value_refusal, script_node, node_and_hole}
use Rattle.js_lexer.specs.Refusals.{PartialCharset, PartialEscape, SlashAmbig, JSTemplate, SplitToken, BadString, HtmlInScript}
use Rattle.js_lexer.specs.States.{script_start}
use Rattle.js_lexer.specs.WhiteSpace.{released, held_after}

-- the text of a node at the beginning of a value
abbrev in_value : List ℕ → Option Refused
in_value bytes = node_refusal false bytes script_start

-- at the beginning of a script element
abbrev in_element : List ℕ → Option Refused
in_element bytes = node_refusal true bytes script_start

-- a text after another node
abbrev behind_node : List ℕ → List ℕ → Option Refused
behind_node before bytes = node_refusal false bytes (script_node before script_start)

-- a slash that begins no comment, behind `}` and behind words that are names in some places; also where the text or the value ends in it
slash_behind_brace : in_value (codes "}/x") ≡ refused SlashAmbig 1 1
unfolding class_of released held_after lib.Utf8.encode
slash_behind_brace = refl

slash_behind_await : in_value (codes "await /x") ≡ refused SlashAmbig 6 6
unfolding class_of released held_after lib.Utf8.encode
slash_behind_await = refl

slash_at_the_end : in_value (codes "}/") ≡ refused SlashAmbig 1 1
unfolding class_of released held_after lib.Utf8.encode
slash_at_the_end = refl

slash_at_the_end_of_the_value : value_refusal (codes "}/") script_start ≡ refused SlashAmbig 1 1
unfolding class_of released held_after lib.Utf8.encode
slash_at_the_end_of_the_value = refl

comment_behind_brace : in_value (codes "} // a") ≡ None
unfolding class_of released held_after lib.Utf8.encode
comment_behind_brace = refl

slash_behind_of_a_name : in_value (codes "often /x") ≡ None
unfolding class_of released held_after lib.Utf8.encode
slash_behind_of_a_name = refl

-- the end of a line
line_end_in_string : in_value (codes "'a\n") ≡ refused BadString 2 2
unfolding class_of released held_after lib.Utf8.encode
line_end_in_string = refl

line_end_in_regexp : in_value (codes "=/a\\\n") ≡ refused BadString 4 4
unfolding class_of released held_after lib.Utf8.encode
line_end_in_regexp = refl

taken_line_end : in_value (codes "'a\\\nb") ≡ None
unfolding class_of released held_after lib.Utf8.encode
taken_line_end = refl

-- what HTML or old browsers read: at its first byte
comment_of_html : in_value (codes "a<!--b") ≡ refused HtmlInScript 1 1
unfolding class_of released held_after lib.Utf8.encode
comment_of_html = refl

end_of_comment_of_html : in_value (codes "n-->0") ≡ refused HtmlInScript 1 1
unfolding class_of released held_after lib.Utf8.encode
end_of_comment_of_html = refl

hashbang : in_value (codes "#!a") ≡ refused HtmlInScript 0 0
unfolding class_of released held_after lib.Utf8.encode
hashbang = refl

-- in a string, and apart, it is none
comment_of_html_in_string : in_value (codes "'<!-- -->'") ≡ None
unfolding class_of released held_after lib.Utf8.encode
comment_of_html_in_string = refl

end_tag_in_string : in_value (codes "s='</script>';") ≡ None
unfolding class_of released held_after lib.Utf8.encode
end_tag_in_string = refl

less_than_not : in_value (codes "a< !b") ≡ None
unfolding class_of released held_after lib.Utf8.encode
less_than_not = refl

-- a node that ends in a template literal; shown is the place before the outermost one
open_literal : in_value (codes "x=`a") ≡ refused JSTemplate 4 2
unfolding class_of released held_after lib.Utf8.encode
open_literal = refl

open_literal_in_literal : in_value (codes "x=`a${`b`+") ≡ refused JSTemplate 10 2
unfolding class_of released held_after lib.Utf8.encode
open_literal_in_literal = refl

-- a value may end in one, but in none that nests too deep
literal_open_at_the_end_of_the_value : value_refusal (codes "x=`a") script_start ≡ None
unfolding class_of released held_after lib.Utf8.encode
literal_open_at_the_end_of_the_value = refl

seventeen_literals : value_refusal (codes "`${`${`${`${`${`${`${`${`${`${`${`${`${`${`${`${`${") script_start ≡ refused JSTemplate 51 0
unfolding class_of released held_after lib.Utf8.encode
seventeen_literals = refl

sixteen_literals : value_refusal (codes "`${`${`${`${`${`${`${`${`${`${`${`${`${`${`${`${") script_start ≡ None
unfolding class_of released held_after lib.Utf8.encode
sixteen_literals = refl

-- a node that ends within `[ ]`; and so where an escape is cut there too
open_brackets : in_value (codes "x=/[a") ≡ refused PartialCharset 5 3
unfolding class_of released held_after lib.Utf8.encode
open_brackets = refl

open_brackets_and_escape : in_value (codes "x=/[\\x") ≡ refused PartialCharset 6 3
unfolding class_of released held_after lib.Utf8.encode
open_brackets_and_escape = refl

-- a node that ends in an escape that is not finished: shown is the place before its backslash
backslash_alone : in_value (codes "'a\\") ≡ refused PartialEscape 3 2
unfolding class_of released held_after lib.Utf8.encode
backslash_alone = refl

one_hexadecimal_digit : in_value (codes "'\\x3") ≡ refused PartialEscape 4 1
unfolding class_of released held_after lib.Utf8.encode
one_hexadecimal_digit = refl

two_unicode_digits : in_value (codes "'\\u00") ≡ refused PartialEscape 5 1
unfolding class_of released held_after lib.Utf8.encode
two_unicode_digits = refl

open_braces : in_value (codes "'a\\u{41 b") ≡ refused PartialEscape 9 2
unfolding class_of released held_after lib.Utf8.encode
open_braces = refl

two_digits : in_value (codes "'\\12") ≡ refused PartialEscape 4 1
unfolding class_of released held_after lib.Utf8.encode
two_digits = refl

carriage_return : in_value (codes "'\\" ++ (13 ∷ [])) ≡ refused PartialEscape 3 1
unfolding class_of released held_after lib.Utf8.encode
carriage_return = refl

control_in_regexp : in_value (codes "=/\\c") ≡ refused PartialEscape 4 2
unfolding class_of released held_after lib.Utf8.encode
control_in_regexp = refl

finished_escapes : in_value (codes "'\\x3C\\u003c\\u{3c}\\123\\n") ≡ None
unfolding class_of released held_after lib.Utf8.encode
finished_escapes = refl

control_in_string : in_value (codes "'\\c") ≡ None
unfolding class_of released held_after lib.Utf8.encode
control_in_string = refl

-- a node that ends in what may become `</script` or `<!--`
end_tag_begins : in_value (codes "a</scr") ≡ refused SplitToken 6 1
unfolding class_of released held_after lib.Utf8.encode
end_tag_begins = refl

end_tag_in_capitals : in_value (codes "a</SCRIPT") ≡ refused SplitToken 9 1
unfolding class_of released held_after lib.Utf8.encode
end_tag_in_capitals = refl

comment_begins : in_value (codes "a<!-") ≡ refused SplitToken 4 1
unfolding class_of released held_after lib.Utf8.encode
comment_begins = refl

-- no more than a `<` and a regular expression
no_end_tag : in_value (codes "a</sc+") ≡ None
unfolding class_of released held_after lib.Utf8.encode
no_end_tag = refl

-- a node that goes on with what the one before ended in
word_goes_on : behind_node (codes "a") (codes "b") ≡ refused SplitToken 0 0
unfolding class_of released held_after lib.Utf8.encode
word_goes_on = refl

word_goes_on_past_ascii : behind_node (codes "a") (codes "" ++ (0xC3 ∷ 0xA9 ∷ [])) ≡ refused SplitToken 0 0
unfolding class_of released held_after lib.Utf8.encode
word_goes_on_past_ascii = refl

word_goes_on_behind_held : behind_node (codes "a") (codes "" ++ (0xC2 ∷ 0xB5 ∷ [])) ≡ refused SplitToken 0 0
unfolding class_of released held_after lib.Utf8.encode
word_goes_on_behind_held = refl

space_behind_word : behind_node (codes "a") (0xC2 ∷ 0xA0 ∷ codes "b") ≡ None
unfolding class_of released held_after lib.Utf8.encode
space_behind_word = refl

number_goes_on : behind_node (codes "1") (codes ".5") ≡ refused SplitToken 0 0
unfolding class_of released held_after lib.Utf8.encode
number_goes_on = refl

plus_goes_on : behind_node (codes "a+") (codes "+b") ≡ refused SplitToken 0 0
unfolding class_of released held_after lib.Utf8.encode
plus_goes_on = refl

minus_goes_on : behind_node (codes "a-") (codes ">b") ≡ refused SplitToken 0 0
unfolding class_of released held_after lib.Utf8.encode
minus_goes_on = refl

division_goes_on : behind_node (codes "a/") (codes "/b") ≡ refused SplitToken 0 0
unfolding class_of released held_after lib.Utf8.encode
division_goes_on = refl

regexp_goes_on : behind_node (codes "=/") (codes "*b") ≡ refused SplitToken 0 0
unfolding class_of released held_after lib.Utf8.encode
regexp_goes_on = refl

less_goes_on : behind_node (codes "a<") (codes "/b") ≡ refused SplitToken 0 0
unfolding class_of released held_after lib.Utf8.encode
less_goes_on = refl

hash_goes_on : behind_node (codes "#") (codes "!b") ≡ refused SplitToken 0 0
unfolding class_of released held_after lib.Utf8.encode
hash_goes_on = refl

star_goes_on : behind_node (codes "/* *") (codes "/b") ≡ refused SplitToken 0 0
unfolding class_of released held_after lib.Utf8.encode
star_goes_on = refl

-- a hole in a comment changes nothing there
star_behind_hole : node_refusal false (codes "/b") (node_and_hole (codes "/* *") script_start) ≡ refused SplitToken 0 0
unfolding class_of released held_after lib.Utf8.encode
star_behind_hole = refl

-- behind a hole in code nothing goes on
less_behind_hole : node_refusal false (codes "/b/") (node_and_hole (codes "a<") script_start) ≡ None
unfolding class_of released held_after lib.Utf8.encode
less_behind_hole = refl

-- in a script element, HTML in the code of a template literal: shown is the place before the outermost literal
script_in_literal : in_element (codes "x=`${a<script}`") ≡ refused HtmlInScript 6 2
unfolding class_of released held_after lib.Utf8.encode
script_in_literal = refl

end_tag_in_comment_in_literal : in_element (codes "x=`${/*</Script*/1}`") ≡ refused HtmlInScript 7 2
unfolding class_of released held_after lib.Utf8.encode
end_tag_in_comment_in_literal = refl

-- in a value it is none, nor in a string or the characters of a literal
script_in_literal_of_value : value_refusal (codes "x=`${a<script}`") script_start ≡ None
unfolding class_of released held_after lib.Utf8.encode
script_in_literal_of_value = refl

script_in_string_in_literal : in_element (codes "x=`<script${'</script'}`;") ≡ None
unfolding class_of released held_after lib.Utf8.encode
script_in_string_in_literal = refl
