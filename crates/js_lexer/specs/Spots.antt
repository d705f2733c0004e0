-- The place of a path in a script, where a node ends (`spot`); and the place before a byte, which a refusal shows (`spot_before`).
use Rattle.std.specs.Prelude.{ℕ, ◌||◌, ◌&&◌, Bool, true, false, bytes_eq, codes, List, Option, Some, None, if◌then◌else◌}
use Rattle.js_lexer.specs.Refusals.{within_escape, is_cut_markup}
use Rattle.js_lexer.specs.States.{At, Code, Word, Number, Pluses, Minuses, Slash, LineComment, BlockComment, InString, InRegexp, InTemplate, TooDeep, Trail, ScriptState}
use Rattle.js_lexer.specs.Steps.{sense_if_odd}
use Rattle.js_lexer.specs.Trails.{is_empty}
use Rattle.js_lexer.specs.Words.{sense_after}
use Rattle.js_lexer.specs.declared.sense.Sense.{Sense}
use Rattle.js_lexer.specs.declared.sense.Sense.TheVariants as sense

-- what the text ended in that the next one may go on with
pub data Tail : Type 0 where
  NoTail : Tail
  WordTail : Tail
  NumberTail : Tail
  LessTail : Tail
  SlashTail : Tail
  PlusTail : Tail
  MinusTail : Tail
  HashTail : Tail

pub data Spot : Type 0 where
  -- in code: what a slash would be, and the tail
  CodeSpot : Sense → Tail → Spot
  -- in a string: between quotation marks (true) or apostrophes
  StringSpot : Bool → Spot
  -- in a regular expression, outside `[ ]`: whether the text ended in the slash that begins it
  RegexpSpot : Bool → Spot
  -- in a comment: what a slash would be after it; whether the text ended in a `*`
  LineSpot : Sense → Spot
  BlockSpot : Sense → Bool → Spot

abbrev pub tail_of : List ℕ → Tail
tail_of m = if bytes_eq m (codes "<") then LessTail else (if bytes_eq m (codes "#") then HashTail else NoTail)

-- Within an escape, a `[ ]`, a slash that is refused, and what may become `<!--` or `</script` in code, there is no place.
abbrev pub unless_within : Bool → Spot → Option Spot
unless_within true p = None
unless_within false p = Some p

abbrev pub spot_at : At → Trail → Option Spot
spot_at (Code s) t = unless_within (is_cut_markup t.markup) (CodeSpot s (tail_of t.markup))
spot_at (Word w) t = Some (CodeSpot (sense_after w) WordTail)
spot_at Number t = Some (CodeSpot sense.Div NumberTail)
spot_at (Pluses odd) t = Some (CodeSpot (sense_if_odd odd) PlusTail)
spot_at (Minuses odd) t = unless_within (is_cut_markup t.markup) (CodeSpot (sense_if_odd odd) MinusTail)
spot_at (Slash sense.Re) t = unless_within (is_cut_markup t.markup) (RegexpSpot true)
spot_at (Slash sense.Div) t = Some (CodeSpot sense.Re SlashTail)
spot_at (Slash sense.Brace) t = None
spot_at (LineComment s) t = Some (LineSpot s)
spot_at (BlockComment s star) t = Some (BlockSpot s star)
spot_at (InString q e) t = unless_within (within_escape t) (StringSpot q)
spot_at (InRegexp true e) t = None
spot_at (InRegexp false e) t = unless_within (within_escape t || is_cut_markup t.markup) (RegexpSpot false)
spot_at (InTemplate e d) t = None
spot_at TooDeep t = None

-- Nor is there one in a template literal, and between the bytes of a character.
abbrev pub script_spot : ScriptState → Option Spot
script_spot s = if is_empty s.literals && is_empty s.held then spot_at s.at s.trail else None

-- Where a refusal shows the place, no node need be able to end: within an escape, a `[ ]`, and what may become `<!--` or `</script` in code, the place
-- is that of the string, the regular expression or the code. Bytes of a character that is not whole do not count. In a template literal no place is
-- shown, but the one before it; nor behind a slash after `}`, which is refused itself.
abbrev pub shown_at : At → Trail → Option Spot
shown_at (Code s) t = Some (CodeSpot s (tail_of t.markup))
shown_at (Minuses odd) t = Some (CodeSpot (sense_if_odd odd) MinusTail)
shown_at (Slash sense.Re) t = Some (RegexpSpot true)
shown_at (InString q e) t = Some (StringSpot q)
shown_at (InRegexp k e) t = Some (RegexpSpot false)
shown_at a t = spot_at a t

abbrev pub spot_before : ScriptState → Option Spot
spot_before s = if is_empty s.literals then shown_at s.at s.trail else None
