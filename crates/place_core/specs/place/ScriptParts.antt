-- The place of one path in a script, as a context has it: the sets are those of that path alone.
use Rattle.std.specs.Prelude.{ℕ, ◌==◌, ◌||◌, ◌&&◌, not, Bool, true, false, bytes_eq, codes, List, Option, None, option_map, if◌then◌else◌}
use Rattle.js_lexer.specs.Spots.{Tail, NoTail, WordTail, NumberTail, LessTail, SlashTail, PlusTail, MinusTail, HashTail, Spot, CodeSpot, StringSpot, RegexpSpot, LineSpot, BlockSpot, script_spot, spot_before}
use Rattle.js_lexer.specs.States.{ScriptEscape, NoEscape, At, Code, Word, Number, Pluses, Minuses, Slash, LineComment, BlockComment, InString, InRegexp, PartLines, HasLine, NoLineYet, Trail, ScriptState}
use Rattle.js_lexer.specs.Trails.{is_empty}
use Rattle.js_lexer.specs.declared.sense.Sense.{Sense}
use Rattle.js_lexer.specs.declared.sense.Sense.TheVariants as sense
use Rattle.place_core.specs.declared.body.Body.{Body}
use Rattle.place_core.specs.declared.body.Body.TheVariants as body
use Rattle.place_core.specs.declared.js.Js.{Js}
use Rattle.place_core.specs.declared.js.Js.TheVariants as js
use Rattle.place_core.specs.declared.js_tails.JsTails.{JsTails}
use Rattle.place_core.specs.declared.senses.Senses.{Senses}

-- no tail; the set of one tail, and of one sense
abbrev pub script_no_tails : JsTails
script_no_tails = record { word = false; num = false; lt = false; slash = false; plus = false; minus = false; hash = false }

abbrev pub script_tails : Tail → JsTails
script_tails NoTail = script_no_tails
script_tails WordTail = record { word = true; num = false; lt = false; slash = false; plus = false; minus = false; hash = false }
script_tails NumberTail = record { word = false; num = true; lt = false; slash = false; plus = false; minus = false; hash = false }
script_tails LessTail = record { word = false; num = false; lt = true; slash = false; plus = false; minus = false; hash = false }
script_tails SlashTail = record { word = false; num = false; lt = false; slash = true; plus = false; minus = false; hash = false }
script_tails PlusTail = record { word = false; num = false; lt = false; slash = false; plus = true; minus = false; hash = false }
script_tails MinusTail = record { word = false; num = false; lt = false; slash = false; plus = false; minus = true; hash = false }
script_tails HashTail = record { word = false; num = false; lt = false; slash = false; plus = false; minus = false; hash = true }

abbrev pub script_senses : Sense → Senses
script_senses sense.Re = record { re = true; div = false; brace = false }
script_senses sense.Div = record { re = false; div = true; brace = false }
script_senses sense.Brace = record { re = false; div = false; brace = true }

abbrev pub script_quote_place : Bool → Js
script_quote_place true = js.Dq
script_quote_place false = js.Sq

-- The place of one path, from where it is shown: the sets are those of that path alone.
abbrev pub script_place : Spot → Js
script_place (CodeSpot s x) = js.Code (script_senses s) (script_tails x)
script_place (StringSpot q) = script_quote_place q
script_place (RegexpSpot slash) = js.Regexp slash
script_place (LineSpot s) = js.Line (script_senses s)
script_place (BlockSpot s star) = js.Block (script_senses s) star

-- Whether a path may stand in this state where a text begins: the end of a node or a hole has led to it (`fresh`), and no lexeme is open that a node
-- may not end in. Of the bytes that may become markup it has kept those that the next text may not go on with.
abbrev pub is_no_script_escape : ScriptEscape → Bool
is_no_script_escape NoEscape = true
is_no_script_escape e = false

abbrev pub may_begin_text_at : At → List ℕ → Bool
may_begin_text_at (Code s) m = is_empty m || (bytes_eq m (codes "<") || bytes_eq m (codes "#"))
may_begin_text_at (Word w) m = is_empty m
may_begin_text_at Number m = is_empty m
may_begin_text_at (Pluses odd) m = is_empty m
may_begin_text_at (Minuses odd) m = is_empty m || (bytes_eq m (codes "-") || bytes_eq m (codes "--"))
may_begin_text_at (Slash sense.Re) m = is_empty m
may_begin_text_at (Slash sense.Div) m = is_empty m
may_begin_text_at (LineComment s) m = is_empty m
may_begin_text_at (BlockComment s star) m = is_empty m
may_begin_text_at (InString q e) m = is_no_script_escape e && is_empty m
may_begin_text_at (InRegexp k e) m = not k && (is_no_script_escape e && is_empty m)
may_begin_text_at a m = false

abbrev pub is_new_part : PartLines → Bool
is_new_part (NoLineYet begun) = is_empty begun
is_new_part HasLine = false

abbrev pub is_trail_of_cut : Trail → Bool
is_trail_of_cut t = t.fresh && (is_empty t.escape && (t.brace == 0 && (t.bracket == 0 && (t.literal == 0 && is_new_part t.lines))))

abbrev pub script_may_begin_text : ScriptState → Bool
script_may_begin_text s = is_trail_of_cut s.trail && may_begin_text_at s.at s.trail.markup

-- the script of an element, and the body of a value that is one, where a text may begin; within a lexeme that no node may end in there is none
abbrev pub script_js : ScriptState → Option Js
script_js s = if script_may_begin_text s then option_map script_place (script_spot s) else None

abbrev pub script_body : ScriptState → Option Body
script_body s = option_map body.Js (script_js s)

-- What is shown before a byte. Within an escape, a `[ ]` and what may become markup it is that of the string, the regular expression or the
-- code, though no text may end there. In a template literal there is none: shown is the last one before it.
abbrev pub script_js_before : ScriptState → Option Js
script_js_before s = option_map script_place (spot_before s)

abbrev pub script_body_before : ScriptState → Option Body
script_body_before s = option_map body.Js (script_js_before s)
