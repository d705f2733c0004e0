-- Worked examples of holes in scripts: the places of paths before and after them, what is told before a hole, and bytes that are plain.
use Rattle.std.proofs.Common.{◌≡◌, ℕ, pos, true, false, codes, List, [], ◌∷◌, Option, Some, None, refl}
use Rattle.std.specs.Fmt.{digits}
use Rattle.page_datum.specs.Data.{null, int, dict, no_entries}
use Rattle.js_lexer.specs.Classes.{class_of}
use Rattle.js_lexer.specs.Events.{ScriptEvent}
use Rattle.js_lexer.specs.Feeding.{read_on, script_reading}
use Rattle.js_lexer.specs.Holes.{script_settled, script_emits_settled}
use Rattle.js_lexer.specs.Nodes.{script_state_after, script_node, node_and_hole}
use Rattle.js_lexer.specs.Sanitizers.{js_value}
use Rattle.js_lexer.specs.Spots.{Spot, CodeSpot, StringSpot, RegexpSpot, LineSpot, BlockSpot, NoTail, WordTail, NumberTail, LessTail, SlashTail, PlusTail, MinusTail, HashTail, script_spot}
use Rattle.js_lexer.specs.States.{script_start}
use Rattle.js_lexer.specs.WhiteSpace.{released, held_after}
use Rattle.js_lexer.specs.declared.sense.Sense.TheVariants as sense
use Rattle.js_lexer.proofs.Told.{Named, Punctuation, Expression, told}

-- the place where a node ends, and behind a hole that follows it
abbrev place : List ℕ → Option Spot
place bytes = script_spot (script_node bytes script_start)

abbrev place_behind_hole : List ℕ → Option Spot
place_behind_hole bytes = script_spot (node_and_hole bytes script_start)

-- what a text tells behind a node and a hole on a path; and in a page, behind the bytes that are written for the hole
abbrev told_on_path : List ℕ → List ℕ → List ScriptEvent
told_on_path before bytes = (read_on bytes (script_reading (node_and_hole before script_start) [])).told

abbrev told_in_page : List ℕ → List ℕ → List ℕ → List ScriptEvent
told_in_page before hole bytes = (read_on bytes (script_reading (script_state_after hole (script_settled (script_state_after before script_start))) [])).told

-- places
behind_equals : place (codes "x=") ≡ Some (CodeSpot sense.Re NoTail)
unfolding class_of released held_after lib.Utf8.encode
behind_equals = refl

behind_word : place (codes "x=y") ≡ Some (CodeSpot sense.Div WordTail)
unfolding class_of released held_after lib.Utf8.encode
behind_word = refl

behind_return : place (codes "return") ≡ Some (CodeSpot sense.Re WordTail)
unfolding class_of released held_after lib.Utf8.encode
behind_return = refl

behind_number : place (codes "x=1.5") ≡ Some (CodeSpot sense.Div NumberTail)
unfolding class_of released held_after lib.Utf8.encode
behind_number = refl

behind_less : place (codes "a<") ≡ Some (CodeSpot sense.Re LessTail)
unfolding class_of released held_after lib.Utf8.encode
behind_less = refl

behind_hash : place (codes "#") ≡ Some (CodeSpot sense.Div HashTail)
unfolding class_of released held_after lib.Utf8.encode
behind_hash = refl

behind_minus : place (codes "a-") ≡ Some (CodeSpot sense.Re MinusTail)
unfolding class_of released held_after lib.Utf8.encode
behind_minus = refl

behind_two_plus : place (codes "a++") ≡ Some (CodeSpot sense.Div PlusTail)
unfolding class_of released held_after lib.Utf8.encode
behind_two_plus = refl

behind_division : place (codes "x/") ≡ Some (CodeSpot sense.Re SlashTail)
unfolding class_of released held_after lib.Utf8.encode
behind_division = refl

behind_brace : place (codes "}") ≡ Some (CodeSpot sense.Brace NoTail)
unfolding class_of released held_after lib.Utf8.encode
behind_brace = refl

in_string : place (codes "s=\"a") ≡ Some (StringSpot true)
unfolding class_of released held_after lib.Utf8.encode
in_string = refl

behind_slash : place (codes "x=/") ≡ Some (RegexpSpot true)
unfolding class_of released held_after lib.Utf8.encode
behind_slash = refl

in_regexp : place (codes "x=/a") ≡ Some (RegexpSpot false)
unfolding class_of released held_after lib.Utf8.encode
in_regexp = refl

in_line_comment : place (codes "x // a") ≡ Some (LineSpot sense.Div)
unfolding class_of released held_after lib.Utf8.encode
in_line_comment = refl

in_block_comment : place (codes "x /* *") ≡ Some (BlockSpot sense.Div true)
unfolding class_of released held_after lib.Utf8.encode
in_block_comment = refl

-- there is none within `[ ]`, an escape, a template literal, and what is refused at the end
in_brackets : place (codes "x=/[a") ≡ None
unfolding class_of released held_after lib.Utf8.encode
in_brackets = refl

in_escape : place (codes "'\\u00") ≡ None
unfolding class_of released held_after lib.Utf8.encode
in_escape = refl

in_template : place (codes "x=`a") ≡ None
unfolding class_of released held_after lib.Utf8.encode
in_template = refl

in_end_tag : place (codes "a</scr") ≡ None
unfolding class_of released held_after lib.Utf8.encode
in_end_tag = refl

-- behind a hole
hole_behind_return : place_behind_hole (codes "return ") ≡ Some (CodeSpot sense.Div NoTail)
unfolding class_of released held_after lib.Utf8.encode
hole_behind_return = refl

hole_behind_less : place_behind_hole (codes "a<") ≡ Some (CodeSpot sense.Div NoTail)
unfolding class_of released held_after lib.Utf8.encode
hole_behind_less = refl

hole_behind_division : place_behind_hole (codes "a/") ≡ Some (CodeSpot sense.Div NoTail)
unfolding class_of released held_after lib.Utf8.encode
hole_behind_division = refl

hole_in_string : place_behind_hole (codes "'") ≡ Some (StringSpot false)
unfolding class_of released held_after lib.Utf8.encode
hole_in_string = refl

hole_behind_slash : place_behind_hole (codes "x=/") ≡ Some (RegexpSpot false)
unfolding class_of released held_after lib.Utf8.encode
hole_behind_slash = refl

-- a slash that is held back is told before a hole; nothing else is
division_is_told : script_emits_settled (script_state_after (codes "a/") script_start) [] ≡ told (Punctuation (codes "/") ∷ [])
unfolding class_of released held_after lib.Utf8.encode
division_is_told = refl

regexp_is_told : script_emits_settled (script_state_after (codes "x=/") script_start) [] ≡ told (Expression (codes "/") ∷ [])
unfolding class_of released held_after lib.Utf8.encode
regexp_is_told = refl

nothing_is_told : script_emits_settled (script_state_after (codes "a<") script_start) [] ≡ []
unfolding class_of released held_after lib.Utf8.encode
nothing_is_told = refl

-- behind a value a slash divides: on the path, and in the page, whatever the value ends in
divides_behind_hole : told_on_path (codes "x/") (codes "/g") ≡ told (Punctuation (codes "/") ∷ Named (codes "g") ∷ [])
unfolding class_of released held_after lib.Utf8.encode
divides_behind_hole = refl

divides_behind_number : told_in_page (codes "x/") (js_value (int (pos 5))) (codes "/g") ≡ told_on_path (codes "x/") (codes "/g")
unfolding class_of released held_after digits lib.Utf8.encode
divides_behind_number = refl

divides_behind_object : told_in_page (codes "x=") (js_value (dict no_entries)) (codes "/g") ≡ told_on_path (codes "x=") (codes "/g")
unfolding class_of released held_after lib.Utf8.encode
divides_behind_object = refl

divides_behind_null : told_in_page (codes "x=") (js_value null) (codes "/g") ≡ told_on_path (codes "x=") (codes "/g")
unfolding class_of released held_after lib.Utf8.encode
divides_behind_null = refl
