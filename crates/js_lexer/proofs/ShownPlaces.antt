-- Worked examples of the places that refusals show: where no node could end, too.
use Rattle.std.proofs.Common.{◌≡◌, ℕ, Bool, true, false, ◌||◌, codes, List, [], ◌∷◌, take, Some, None, refl}
use Rattle.js_lexer.specs.Classes.{class_of}
use Rattle.js_lexer.specs.Nodes.{refused, node_refusal, script_state_after}
use Rattle.js_lexer.specs.Refusals.{Refusal, PartialCharset, PartialEscape, JSTemplate, SplitToken, BadString, HtmlInScript, within_escape, is_cut_markup}
use Rattle.js_lexer.specs.Spots.{Spot, CodeSpot, StringSpot, RegexpSpot, NoTail, MinusTail, tail_of, unless_within, spot_at, script_spot, shown_at, spot_before}
use Rattle.js_lexer.specs.States.{At, Code, Word, Number, Pluses, Minuses, Slash, LineComment, BlockComment, InString, InRegexp, InTemplate, TooDeep, Trail, ScriptState, script_start}
use Rattle.js_lexer.specs.Steps.{sense_if_odd}
use Rattle.js_lexer.specs.WhiteSpace.{released, held_after}
use Rattle.js_lexer.specs.declared.sense.Sense.TheVariants as sense

-- A node is refused there, and this place is shown, before the byte at `shown`.
pub record IsShown (bytes : List ℕ) (why : Refusal) (at shown : ℕ) (place : Spot) : Type 0 where
  pub stands : node_refusal false bytes script_start ≡ refused why at shown
  pub there : spot_before (script_state_after (take shown bytes) script_start) ≡ Some place

line_end_in_escape : IsShown (codes "/\\\n") BadString 2 2 (RegexpSpot false)
unfolding class_of released held_after lib.Utf8.encode
line_end_in_escape = record { stands = refl; there = refl }

line_end_in_brackets : IsShown (codes "/[\n") BadString 2 2 (RegexpSpot false)
unfolding class_of released held_after lib.Utf8.encode
line_end_in_brackets = record { stands = refl; there = refl }

line_end_behind_less_and_slash : IsShown (codes "</\n") BadString 2 2 (RegexpSpot true)
unfolding class_of released held_after lib.Utf8.encode
line_end_behind_less_and_slash = record { stands = refl; there = refl }

line_end_in_end_tag : IsShown (codes "</s\n") BadString 3 3 (RegexpSpot false)
unfolding class_of released held_after lib.Utf8.encode
line_end_in_end_tag = record { stands = refl; there = refl }

old_comment_behind_markup : IsShown (codes "<!#!") HtmlInScript 2 2 (CodeSpot sense.Re NoTail)
unfolding class_of released held_after lib.Utf8.encode
old_comment_behind_markup = record { stands = refl; there = refl }

literal_behind_markup : IsShown (codes "<!`") JSTemplate 3 2 (CodeSpot sense.Re NoTail)
unfolding class_of released held_after lib.Utf8.encode
literal_behind_markup = record { stands = refl; there = refl }

escape_behind_less_and_slash : IsShown (codes "</\\1") PartialEscape 4 2 (RegexpSpot true)
unfolding class_of released held_after lib.Utf8.encode
escape_behind_less_and_slash = record { stands = refl; there = refl }

escape_behind_escape : IsShown (codes "/\\x3\\") PartialEscape 5 4 (RegexpSpot false)
unfolding class_of released held_after lib.Utf8.encode
escape_behind_escape = record { stands = refl; there = refl }

brackets_behind_less_and_slash : IsShown (codes "</[") PartialCharset 3 2 (RegexpSpot true)
unfolding class_of released held_after lib.Utf8.encode
brackets_behind_less_and_slash = record { stands = refl; there = refl }

markup_behind_markup : IsShown (codes "<!<!") SplitToken 4 2 (CodeSpot sense.Re NoTail)
unfolding class_of released held_after lib.Utf8.encode
markup_behind_markup = record { stands = refl; there = refl }

-- Where a node may end, the place there is the one that is shown.
none-some : (p : Spot) → None ≡ Some p → ⊥
none-some p h = cc

within-shown : (x : Bool) (q p : Spot) → unless_within x q ≡ Some p → Some q ≡ Some p
within-shown true q p h = absurd (none-some p h)
within-shown false q p h = h

at-shown : (a : At) (t : Trail) (p : Spot) → spot_at a t ≡ Some p → shown_at a t ≡ Some p
at-shown (Code s) t p h = within-shown (is_cut_markup t.markup) (CodeSpot s (tail_of t.markup)) p h
at-shown (Minuses odd) t p h = within-shown (is_cut_markup t.markup) (CodeSpot (sense_if_odd odd) MinusTail) p h
at-shown (Slash sense.Re) t p h = within-shown (is_cut_markup t.markup) (RegexpSpot true) p h
at-shown (Slash sense.Div) t p h = h
at-shown (Slash sense.Brace) t p h = h
at-shown (InString q e) t p h = within-shown (within_escape t) (StringSpot q) p h
at-shown (InRegexp true e) t p h = absurd (none-some p h)
at-shown (InRegexp false e) t p h = within-shown (within_escape t || is_cut_markup t.markup) (RegexpSpot false) p h
at-shown (Word w) t p h = h
at-shown Number t p h = h
at-shown (Pluses odd) t p h = h
at-shown (LineComment s) t p h = h
at-shown (BlockComment s star) t p h = h
at-shown (InTemplate e d) t p h = h
at-shown TooDeep t p h = h

whole-shown : (fs held : List ℕ) (a : At) (t : Trail) (p : Spot)
    → script_spot (record { literals = fs; at = a; held = held; trail = t }) ≡ Some p → spot_before (record { literals = fs; at = a; held = held; trail = t }) ≡ Some p
whole-shown [] [] a t p h = at-shown a t p h
whole-shown [] (b ∷ bs) a t p h = absurd (none-some p h)
whole-shown (n ∷ fs) held a t p h = absurd (none-some p h)

pub spot-shown : (s : ScriptState) (p : Spot) → script_spot s ≡ Some p → spot_before s ≡ Some p
spot-shown s p h = whole-shown s.literals s.held s.at s.trail p h
