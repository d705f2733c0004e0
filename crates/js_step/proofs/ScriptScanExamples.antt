-- Worked examples of places of several paths in a script: what texts and holes make of them, what is refused, and what is not so.
use Rattle.std.proofs.Common.{◌≡◌, ℕ, true, false, codes, List, [], ◌∷◌, Option, Some, None, refl, ap}
use Rattle.js_lexer.specs.Classes.{class_of}
use Rattle.js_lexer.specs.Refusals.{Cause, cause, PartialCharset, PartialEscape, SlashAmbig, JSTemplate, SplitToken, BadString, HtmlInScript}
use Rattle.js_lexer.specs.Spots.{WordTail, LessTail, SlashTail, MinusTail, HashTail}
use Rattle.js_lexer.specs.WhiteSpace.{released, held_after}
use Rattle.js_lexer.specs.declared.sense.Sense.TheVariants as sense
use Rattle.place_core.specs.declared.js.Js.{Js}
use Rattle.place_core.specs.declared.js.Js.TheVariants as js
use Rattle.place_core.specs.declared.member.Member.TheVariants as member
use Rattle.place_core.specs.place.LanguagePlaces.{both_senses, both_js_tails, joined_js, js_has}
use Rattle.js_step.specs.ScriptScans.{ScriptScan, script_scan_start, script_scan_next, script_scan_error, script_scan_place, script_scan_cut_error, script_at_hole}
use Rattle.place_core.specs.place.ScriptParts.{script_tails, script_no_tails, script_senses}

-- where a text leads from a place; what its last byte, and its end, are refused for
abbrev behind : ScriptScan → List ℕ → ScriptScan
behind n [] = n
behind n (b ∷ bs) = behind (script_scan_next n b) bs

abbrev text_of : Js → List ℕ → Js
text_of c text = script_scan_place (behind (script_scan_start c) text)

abbrev at_byte : Js → List ℕ → ℕ → Option Cause
at_byte c text b = script_scan_error false (behind (script_scan_start c) text) b

abbrev at_cut : Js → List ℕ → Option Cause
at_cut c text = script_scan_cut_error (behind (script_scan_start c) text)

-- the beginning; and where a slash divides on one path, and begins a regular expression on another one
abbrev clear : Js
clear = js.Code (script_senses sense.Re) script_no_tails

abbrev either : Js
either = js.Code (both_senses (script_senses sense.Re) (script_senses sense.Div)) script_no_tails

-- one path
word : text_of clear (codes "x = y") ≡ js.Code (script_senses sense.Div) (script_tails WordTail)
unfolding class_of released held_after lib.Utf8.encode
word = refl

regexp_begins : text_of clear (codes "x = /") ≡ js.Regexp true
unfolding class_of released held_after lib.Utf8.encode
regexp_begins = refl

divides : text_of clear (codes "x /") ≡ js.Code (script_senses sense.Re) (script_tails SlashTail)
unfolding class_of released held_after lib.Utf8.encode
divides = refl

comment : text_of clear (codes "x /* *") ≡ js.Block (script_senses sense.Div) true
unfolding class_of released held_after lib.Utf8.encode
comment = refl

less : text_of clear (codes "a<") ≡ js.Code (script_senses sense.Re) (script_tails LessTail)
unfolding class_of released held_after lib.Utf8.encode
less = refl

-- `{{if .x}}a{{end}}`: a word on one path; the next node goes on with it, or not
word_on_one : joined_js clear (text_of clear (codes "a")) ≡ Some (js.Code (both_senses (script_senses sense.Re) (script_senses sense.Div)) (script_tails WordTail))
unfolding class_of released held_after lib.Utf8.encode
word_on_one = refl

goes_on : at_byte (js.Code (script_senses sense.Re) (script_tails WordTail)) [] 98 ≡ cause SplitToken 0 0
unfolding class_of released held_after lib.Utf8.encode
goes_on = refl

blank_between : at_byte (js.Code (script_senses sense.Re) (script_tails WordTail)) (codes " ") 98 ≡ None
unfolding class_of released held_after lib.Utf8.encode
blank_between = refl

-- a no-break space is one too, and is three bytes of which the first is held back
space_between : at_byte (js.Code (script_senses sense.Re) (script_tails WordTail)) (0xC2 ∷ []) 0xA0 ≡ None
unfolding class_of released held_after lib.Utf8.encode
space_between = refl

letter_past_ascii : at_byte (js.Code (script_senses sense.Re) (script_tails WordTail)) (0xC2 ∷ []) 98 ≡ cause SplitToken 1 1
unfolding class_of released held_after lib.Utf8.encode
letter_past_ascii = refl

-- a slash with two senses begins a comment, or is refused at what follows; so it is at the end of a node
slash_on_two : at_byte either (codes "/") 98 ≡ cause SlashAmbig 1 1
unfolding class_of released held_after lib.Utf8.encode
slash_on_two = refl

slash_past_ascii_on_two : at_byte either (codes "/") 0xC2 ≡ cause SlashAmbig 1 1
unfolding class_of released held_after lib.Utf8.encode
slash_past_ascii_on_two = refl

slash_at_cut : at_cut either (codes "/") ≡ cause SlashAmbig 1 1
unfolding class_of released held_after lib.Utf8.encode
slash_at_cut = refl

comment_on_two : text_of either (codes "/* a */ ") ≡ either
unfolding class_of released held_after lib.Utf8.encode
comment_on_two = refl

line_on_two : text_of either (codes "// a") ≡ js.Line (both_senses (script_senses sense.Re) (script_senses sense.Div))
unfolding class_of released held_after lib.Utf8.encode
line_on_two = refl

value_on_two : text_of either (codes "(b") ≡ js.Code (script_senses sense.Div) (script_tails WordTail)
unfolding class_of released held_after lib.Utf8.encode
value_on_two = refl

-- HTML over a cut
less_goes_on : at_byte (js.Code (script_senses sense.Re) (both_js_tails script_no_tails (script_tails LessTail))) [] 33 ≡ cause SplitToken 0 0
unfolding class_of released held_after lib.Utf8.encode
less_goes_on = refl

minus_goes_on : at_byte (js.Code (script_senses sense.Div) (script_tails MinusTail)) [] 62 ≡ cause SplitToken 0 0
unfolding class_of released held_after lib.Utf8.encode
minus_goes_on = refl

hash_goes_on : at_byte (js.Code (script_senses sense.Div) (script_tails HashTail)) [] 33 ≡ cause SplitToken 0 0
unfolding class_of released held_after lib.Utf8.encode
hash_goes_on = refl

comment_of_html : at_byte clear (codes "a<!-") 45 ≡ cause HtmlInScript 3 3
unfolding class_of released held_after lib.Utf8.encode
comment_of_html = refl

-- a slash and a `*` before the text
slash_goes_on : at_byte (js.Regexp true) [] 42 ≡ cause SplitToken 0 0
unfolding class_of released held_after lib.Utf8.encode
slash_goes_on = refl

star_goes_on : at_byte (js.Block (script_senses sense.Re) true) [] 47 ≡ cause SplitToken 0 0
unfolding class_of released held_after lib.Utf8.encode
star_goes_on = refl

star_of_this_text : at_byte (js.Block (script_senses sense.Re) true) (codes "*") 47 ≡ None
unfolding class_of released held_after lib.Utf8.encode
star_of_this_text = refl

-- ends of lines, escapes, sets of characters and template literals
line_end : at_byte js.Dq (codes "a") 10 ≡ cause BadString 0 0
unfolding class_of released held_after lib.Utf8.encode
line_end = refl

escape_at_cut : at_cut js.Sq (codes "a\\u00") ≡ cause PartialEscape 0 4
unfolding class_of released held_after lib.Utf8.encode
escape_at_cut = refl

brackets_at_cut : at_cut (js.Regexp false) (codes "a[b") ≡ cause PartialCharset 0 2
unfolding class_of released held_after lib.Utf8.encode
brackets_at_cut = refl

literal_at_cut : at_cut clear (codes "`a") ≡ cause JSTemplate 0 2
unfolding class_of released held_after lib.Utf8.encode
literal_at_cut = refl

-- holes: a slash behind a value divides, and one before it begins no comment
hole_behind_solidus : script_at_hole (text_of clear (codes "x/")) ≡ js.Code (script_senses sense.Div) script_no_tails
unfolding class_of released held_after lib.Utf8.encode
hole_behind_solidus = refl

hole_in_regexp : script_at_hole (text_of clear (codes "x=/")) ≡ js.Regexp false
unfolding class_of released held_after lib.Utf8.encode
hole_in_regexp = refl

-- What is not so: that a slash with two senses is accepted; that a hole keeps the word before it; that a `/` behind a `*` that some path
-- has before the text is accepted.
slash_on_two_accepted : at_byte either (codes "/") 98 ≡ None → ⊥
unfolding class_of released held_after lib.Utf8.encode
slash_on_two_accepted h = cc

apart : false ≡ true → ⊥
apart e = cc

hole_keeps_a_word : script_at_hole (js.Code (script_senses sense.Re) (script_tails WordTail)) ≡ js.Code (script_senses sense.Div) (script_tails WordTail) → ⊥
hole_keeps_a_word h = absurd (apart (ap (λ (c : Js). js_has c member.JsWord) h))

star_accepted : at_byte (js.Block (script_senses sense.Re) true) [] 47 ≡ None → ⊥
unfolding class_of released held_after lib.Utf8.encode
star_accepted h = cc
