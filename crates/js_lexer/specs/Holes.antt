-- A hole in a script, and the end of a node of a template.
use Rattle.std.specs.Prelude.{◌≡◌, ◌⊎◌, Bool, true, false, List, []}
use Rattle.js_lexer.specs.Events.{ScriptEvent}
use Rattle.js_lexer.specs.Feeding.{tells_held_slash, released_point, emits_released}
use Rattle.js_lexer.specs.States.{NoEscape, At, Code, Slash, LineComment, BlockComment, InString, InRegexp, InTemplate, TooDeep, NoLineYet, Trail, ScriptState}
use Rattle.js_lexer.specs.declared.sense.Sense.{Sense}
use Rattle.js_lexer.specs.declared.sense.Sense.TheVariants as sense

-- Where a hole begins, a slash that is held back is one: no comment begins with data. Words, numbers and runs stay open: whether a value joins
-- them, its bytes show.
abbrev pub settled_at : At → At
settled_at (Slash sense.Re) = InRegexp false NoEscape
settled_at (Slash s) = Code sense.Re
settled_at a = a

abbrev pub script_settled : ScriptState → ScriptState
script_settled s = (let p = released_point s in record { literals = p.literals; at = settled_at p.at; held = []; trail = s.trail })

abbrev pub script_emits_settled : ScriptState → List ScriptEvent → List ScriptEvent
script_emits_settled s t = (let p = released_point s in tells_held_slash p.literals p.at (emits_released s t))

-- Whether a hole there has a mark: in a comment it has none, since nothing of a comment is told.
abbrev pub script_has_mark_at : At → Bool
script_has_mark_at (LineComment s) = false
script_has_mark_at (BlockComment s star) = false
script_has_mark_at a = true

abbrev pub script_has_mark : ScriptState → Bool
script_has_mark s = script_has_mark_at s.at

-- On a path a hole in code is one value, after which a slash divides. In a string, a regular expression and a comment the reading stays where
-- it is.
abbrev pub hole_at : At → At
hole_at (InString q e) = InString q NoEscape
hole_at (InRegexp k e) = InRegexp k NoEscape
hole_at (LineComment s) = LineComment s
hole_at (BlockComment s star) = BlockComment s star
hole_at (InTemplate e d) = InTemplate NoEscape false
hole_at TooDeep = TooDeep
hole_at a = Code sense.Div

abbrev pub fresh_trail : Trail → Trail
fresh_trail t = record {
  fresh = true;
  markup = t.markup;
  escape = t.escape;
  brace = t.brace;
  bracket = t.bracket;
  literal = t.literal;
  lines = NoLineYet [];
}

abbrev pub holed_trail : Trail → Trail
holed_trail t = record { fresh = true; markup = []; escape = []; brace = 0; bracket = 0; literal = t.literal; lines = NoLineYet [] }

abbrev pub script_after_hole : ScriptState → ScriptState
script_after_hole s = (let r = script_settled s in record { literals = r.literals; at = hole_at r.at; held = []; trail = holed_trail r.trail })

-- A page reads the bytes of a hole as any others: behind them it is where they have led it.
abbrev pub script_behind : ScriptState → ScriptState → ScriptState
script_behind before after = after

-- On a path a node ends: the next one begins with its first byte.
abbrev pub script_after_cut : ScriptState → ScriptState
script_after_cut s = record { literals = s.literals; at = s.at; held = s.held; trail = fresh_trail s.trail }

-- a state but for what a slash would be after `}`: a page divides there, as it does after a value
abbrev pub paged : Sense → Sense
paged sense.Re = sense.Re
paged sense.Div = sense.Div
paged sense.Brace = sense.Div

abbrev pub as_page : At → At
as_page (Code s) = Code (paged s)
as_page (Slash s) = Slash (paged s)
as_page (LineComment s) = LineComment (paged s)
as_page (BlockComment s star) = BlockComment (paged s) star
as_page a = a

-- Bytes that are plain may lead from the one place to the other. In code they are a whole value, after which a slash divides; in a string, a regular
-- expression outside `[ ]` and a comment they stay inside. No byte of a comment closes it with the next one.
abbrev pub LeadsPlainAt : At → At → Type 0
LeadsPlainAt (Slash s) after = ⊥
LeadsPlainAt (InTemplate e d) after = ⊥
LeadsPlainAt TooDeep after = ⊥
LeadsPlainAt (InString q NoEscape) after = after ≡ InString q NoEscape
LeadsPlainAt (InString q e) after = ⊥
LeadsPlainAt (InRegexp false NoEscape) after = after ≡ InRegexp false NoEscape
LeadsPlainAt (InRegexp k e) after = ⊥
LeadsPlainAt (LineComment s) after = after ≡ LineComment s
LeadsPlainAt (BlockComment s star) after = (after ≡ BlockComment s star) ⊎ (after ≡ BlockComment s false)
LeadsPlainAt a after = as_page after ≡ Code sense.Div

-- no escape has begun that more bytes may go on with
pub record IsBetweenEscapes (t : Trail) : Type 0 where
  pub none : t.escape ≡ []
  pub closed : t.brace ≡ 0

pub record ScriptLeadsPlain (before after : ScriptState) : Type 0 where
  pub at : LeadsPlainAt before.at after.at
  pub outside : before.literals ≡ []
  pub within : after.literals ≡ []
  pub whole_before : IsBetweenEscapes before.trail
  pub whole_after : IsBetweenEscapes after.trail
  pub settled : before.held ≡ []
  pub released : after.held ≡ []
