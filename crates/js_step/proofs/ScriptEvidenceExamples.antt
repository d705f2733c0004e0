-- Worked examples of what shows that a script is refused, and of where members come from; and what is not so where senses do not fit.
use Rattle.std.proofs.Common.{◌≡◌, ℕ, true, false, codes, List, [], ◌∷◌, Some, None, refl}
use Rattle.js_lexer.specs.Classes.{class_of}
use Rattle.js_lexer.specs.Refusals.{SlashAmbig}
use Rattle.js_lexer.specs.Spots.{WordTail, MinusTail}
use Rattle.js_lexer.specs.States.{Slash, no_trail}
use Rattle.js_lexer.specs.WhiteSpace.{released, held_after}
use Rattle.js_lexer.specs.declared.sense.Sense.TheVariants as sense
use Rattle.place_core.specs.declared.js.Js.TheVariants as js
use Rattle.place_core.specs.declared.member.Member.TheVariants as member
use Rattle.place_core.specs.declared.senses.Senses.{Senses}
use Rattle.place_core.specs.place.LanguagePlaces.{both_senses, both_js_tails}
use Rattle.place_core.specs.place.ScriptParts.{script_tails, script_no_tails, script_senses}
use Rattle.js_step.specs.ScriptEvidence.{script_split_shows, script_shown_by}
use Rattle.js_step.specs.ScriptOrigins.{script_set_has}
use Rattle.js_step.specs.ScriptScans.{ScriptScan, script_scan, script_senses_differ, script_scan_start, script_scan_next, script_scan_error}

abbrev behind : ScriptScan → List ℕ → ScriptScan
behind n [] = n
behind n (b ∷ bs) = behind (script_scan_next n b) bs

abbrev either : Senses
either = both_senses (script_senses sense.Re) (script_senses sense.Div)

-- A word on one path and `-` on another one: a letter shows the one, and a `>` the other.
abbrev word_or_minus : ScriptScan
word_or_minus = script_scan_start (js.Code either (both_js_tails (script_tails WordTail) (script_tails MinusTail)))

letter_shows : script_split_shows word_or_minus 97 ≡ member.JsWord
unfolding class_of released held_after lib.Utf8.encode
letter_shows = refl

greater_shows : script_split_shows word_or_minus 62 ≡ member.JsMinus
unfolding class_of released held_after lib.Utf8.encode
greater_shows = refl

-- The slash of a regular expression is shown by its own member.
regexp_shows : script_split_shows (script_scan_start (js.Regexp true)) 42 ≡ member.RegexpSlash
unfolding class_of released held_after lib.Utf8.encode
regexp_shows = refl

regexp_has_it : script_set_has (script_scan_start (js.Regexp true)) member.RegexpSlash ≡ true
regexp_has_it = refl

-- A slash that divides on one path and not on the other one is shown by two members, behind `}` by one.
two_show : script_shown_by (behind (script_scan_start (js.Code either script_no_tails)) (codes " /")) member.Whole SlashAmbig ≡ None
unfolding class_of released held_after lib.Utf8.encode
two_show = refl

brace_shows : script_shown_by (behind (script_scan_start (js.Code (script_senses sense.Re) script_no_tails)) (codes "}/")) member.Whole SlashAmbig ≡ Some member.SenseBrace
unfolding class_of released held_after lib.Utf8.encode
brace_shows = refl

-- What a slash would be comes from itself in white space, and is so on all paths behind a word.
space_keeps : script_set_has (behind (script_scan_start (js.Code either script_no_tails)) (codes " ")) member.SenseRe ≡ true
unfolding class_of released held_after lib.Utf8.encode
space_keeps = refl

word_forgets : script_set_has (behind (script_scan_start (js.Code either script_no_tails)) (codes "a")) member.SenseRe ≡ false
unfolding class_of released held_after lib.Utf8.encode
word_forgets = refl

-- Behind a slash in a template literal no path has another sense than the others. Where one had, as no text leads there, they would come to
-- differ.
abbrev in_literal : ScriptScan
in_literal =
    script_scan (both_senses (script_senses sense.Re) (script_senses sense.Brace)) script_no_tails false
    (record { literals = 0 ∷ []; at = Slash sense.Re; held = []; trail = no_trail })

accepted_there : script_scan_error false in_literal 40 ≡ None
unfolding class_of released held_after lib.Utf8.encode
accepted_there = refl

same_before : script_senses_differ in_literal.senses ≡ false
same_before = refl

differs_behind : script_senses_differ (script_scan_next in_literal 40).senses ≡ true
unfolding class_of released held_after lib.Utf8.encode
differs_behind = refl
