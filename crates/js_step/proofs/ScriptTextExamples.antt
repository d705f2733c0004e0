-- Worked examples of texts of a script in a value, and of holes with what is done to a value there.
use Rattle.std.proofs.Common.{◌≡◌, ◌∙◌, ◌+◌, ℕ, nat_eq, Bool, true, false, codes, List, [], ◌∷◌, Ok, Err, refl, sym, ap}
use Rattle.js_lexer.specs.Classes.{class_of}
use Rattle.js_lexer.specs.Spots.{WordTail, MinusTail}
use Rattle.js_lexer.specs.WhiteSpace.{released, held_after}
use Rattle.js_lexer.specs.declared.sense.Sense.TheVariants as sense
use Rattle.place_core.specs.declared.code.Code.{Code}
use Rattle.place_core.specs.declared.code.Code.TheVariants as code
use Rattle.place_core.specs.declared.js.Js.{Js}
use Rattle.place_core.specs.declared.js.Js.TheVariants as js
use Rattle.place_core.specs.declared.mode.Mode.TheVariants as mode
use Rattle.place_core.specs.declared.san.San.TheVariants as san
use Rattle.place_core.specs.declared.step.Step.TheVariants as step
use Rattle.place_core.specs.place.LanguagePlaces.{both_senses}
use Rattle.place_core.specs.place.ScriptParts.{script_tails, script_no_tails, script_senses}
use Rattle.js_step.specs.ScriptChains.{script_chain, script_hole_with_chain}
use Rattle.js_step.specs.ScriptCharacters.{ScriptText, after_script_characters}

-- characters of ASCII, each with its place
abbrev characters : (at : ℕ) → List ℕ → List (ℕ × ℕ)
characters at [] = []
characters at (b ∷ bs) = (b, at) ∷ characters (at + 1) bs

-- a text that ends with the node, and one that ends with the value
abbrev in_node : Js → List ℕ → ScriptText
in_node c text = after_script_characters mode.Open (characters 0 text) c

abbrev in_value : Js → List ℕ → ScriptText
in_value c text = after_script_characters mode.Whole (characters 0 text) c

abbrev refused : Code → (at : ℕ) → (before : Js) → ScriptText
refused k at before = Err (record { code = k; at = at; before = before })

-- the beginning; behind a word; and where a slash divides on one path, and begins a regular expression on another one
abbrev clear : Js
clear = js.Code (script_senses sense.Re) script_no_tails

abbrev behind_word : Js
behind_word = js.Code (script_senses sense.Div) (script_tails WordTail)

abbrev either : Js
either = js.Code (both_senses (script_senses sense.Re) (script_senses sense.Div)) script_no_tails

word : in_node clear (codes "x = y") ≡ Ok (step.Inside behind_word)
unfolding class_of released held_after lib.Utf8.encode
word = refl

nothing : in_node behind_word [] ≡ Ok (step.Inside behind_word)
unfolding class_of released held_after lib.Utf8.encode
nothing = refl

-- a cause at a character, at the first one, and at one that stands before the character at which it is known
line_end : in_node js.Dq (codes "a\n") ≡ refused code.BadString 1 js.Dq
unfolding class_of released held_after lib.Utf8.encode
line_end = refl

word_goes_on : in_node behind_word (codes "b") ≡ refused code.SplitToken 0 behind_word
unfolding class_of released held_after lib.Utf8.encode
word_goes_on = refl

-- what is shown stands before the lexeme in which the cause stands
comment_of_html : in_node clear (codes "a<!--") ≡ refused code.HtmlInScript 1 behind_word
unfolding class_of released held_after lib.Utf8.encode
comment_of_html = refl

slash_on_two : in_node either (codes "/b") ≡ refused code.SlashAmbig 0 either
unfolding class_of released held_after lib.Utf8.encode
slash_on_two = refl

-- characters of several bytes, each at its place; a letter whose first byte was held back; and a number that is no character
line_end_behind_letter : after_script_characters mode.Open ((0xE9, 4) ∷ (10, 6) ∷ []) js.Dq ≡ refused code.BadString 6 js.Dq
unfolding class_of released held_after lib.Utf8.encode
line_end_behind_letter = refl

letter_goes_on : after_script_characters mode.Open ((0xAA, 7) ∷ []) behind_word ≡ refused code.SplitToken 7 behind_word
unfolding class_of released held_after lib.Utf8.encode
letter_goes_on = refl

number_in_string : after_script_characters mode.Open ((0xD800, 4) ∷ (10, 5) ∷ []) js.Dq ≡ refused code.BadString 5 js.Dq
unfolding class_of released held_after lib.Utf8.encode
number_in_string = refl

-- what is shown behind a letter of two bytes
tag_behind_letter : after_script_characters mode.Open ((0xE9, 4) ∷ (60, 6) ∷ (47, 7) ∷ []) clear ≡ refused code.SplitToken 8 behind_word
unfolding class_of released held_after lib.Utf8.encode
tag_behind_letter = refl

-- The end of a node stands one byte behind the last character. The end of a value is accepted in an escape and in a template literal.
escape_at_cut : in_node js.Sq (codes "a\\u00") ≡ refused code.PartialEscape 5 js.Sq
unfolding class_of released held_after lib.Utf8.encode
escape_at_cut = refl

escape_at_end : in_value js.Sq (codes "a\\u00") ≡ Ok (step.Inside js.Sq)
unfolding class_of released held_after lib.Utf8.encode
escape_at_end = refl

-- The cause stands at the end, and what is shown stands before the `<` of a tag, before a `[`, and before the outermost template literal.
tag_at_cut : in_node clear (codes "a</scr") ≡ refused code.SplitToken 6 behind_word
unfolding class_of released held_after lib.Utf8.encode
tag_at_cut = refl

charset_at_cut : in_node clear (codes "x=/[a") ≡ refused code.PartialCharset 5 (js.Regexp true)
unfolding class_of released held_after lib.Utf8.encode
charset_at_cut = refl

literal_at_cut : in_node clear (codes "x=`a") ≡ refused code.JSTemplate 4 clear
unfolding class_of released held_after lib.Utf8.encode
literal_at_cut = refl

slash_at_end : in_value either (codes "/") ≡ refused code.SlashAmbig 0 either
unfolding class_of released held_after lib.Utf8.encode
slash_at_end = refl

-- holes
hole_behind_word : script_hole_with_chain behind_word ≡ (js.Code (script_senses sense.Div) script_no_tails, script_chain san.JsValue)
hole_behind_word = refl

hole_in_string : script_hole_with_chain js.Dq ≡ (js.Dq, script_chain san.JsString)
hole_in_string = refl

hole_in_regexp : script_hole_with_chain (js.Regexp true) ≡ (js.Regexp false, script_chain san.JsRegexp)
hole_in_regexp = refl

-- What is not so: that a cause stands one character late; and that what is shown is the place before the byte at which the cause is known.
abbrev is_refused_at : ℕ → ScriptText → Bool
is_refused_at n (Ok a) = false
is_refused_at n (Err e) = nat_eq n e.at

abbrev is_behind_minus : Js → Bool
is_behind_minus (js.Code s x) = x.minus
is_behind_minus c = false

abbrev shows_minus : ScriptText → Bool
shows_minus (Ok a) = false
shows_minus (Err e) = is_behind_minus e.before

apart : true ≡ false → ⊥
apart e = cc

one_late : in_node js.Dq (codes "a\n") ≡ refused code.BadString 2 js.Dq → ⊥
one_late h = absurd (apart (ap (is_refused_at 1) (sym line_end ∙ h)))

shown_late : in_node clear (codes "a<!--") ≡ refused code.HtmlInScript 1 (js.Code (script_senses sense.Re) (script_tails MinusTail)) → ⊥
shown_late h = absurd (apart (ap shows_minus (sym h ∙ comment_of_html)))
