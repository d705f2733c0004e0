-- The reading of a script, byte by byte.
use Rattle.std.specs.Prelude.{ℕ, not, Bool, true, false, List, [], ◌∷◌}
use Rattle.js_lexer.specs.Classes.{class_of}
use Rattle.js_lexer.specs.Emits.{tells, tells_held_escape}
use Rattle.js_lexer.specs.Events.{ScriptEvent, PunctuatorBegins, RegexpBegins, ScriptByte}
use Rattle.js_lexer.specs.States.{At, Code, Word, Number, Pluses, Minuses, Slash, LineComment, InString, InRegexp, InTemplate, ScriptPoint, point, ScriptState, script_start}
use Rattle.js_lexer.specs.Steps.{script_next}
use Rattle.js_lexer.specs.Trails.{next_trail, is_empty}
use Rattle.js_lexer.specs.WhiteSpace.{ClassedByte, classed, classed_as, released, held_after}
use Rattle.js_lexer.specs.declared.class.ScriptClass.{ScriptClass}
use Rattle.js_lexer.specs.declared.class.ScriptClass.TheVariants as class
use Rattle.js_lexer.specs.declared.sense.Sense.TheVariants as sense

-- In these states it matters whether a character is white space: in code and in a comment that ends with its line. Behind the slash of a regular
-- expression it does not.
abbrev pub tells_white_apart : At → Bool
tells_white_apart (Code s) = true
tells_white_apart (Word w) = true
tells_white_apart Number = true
tells_white_apart (Pluses odd) = true
tells_white_apart (Minuses odd) = true
tells_white_apart (Slash sense.Re) = false
tells_white_apart (Slash s) = true
tells_white_apart (LineComment s) = true
tells_white_apart a = false

-- what a byte of a class releases there, and what is held back after it
abbrev pub read_at : Bool → List ℕ → ScriptClass → ℕ → List ClassedByte
read_at true held c b = released held b
read_at false held c b = classed c b ∷ []

abbrev pub held_at : Bool → List ℕ → ℕ → List ℕ
held_at true held b = held_after held b
held_at false held b = []

-- where bytes with their classes lead, and what they tell
abbrev pub points : List ClassedByte → ScriptPoint → ScriptPoint
points [] p = p
points (x ∷ xs) p = points xs (script_next p.literals p.at x.class x.byte)

abbrev pub tells_all : List ClassedByte → ScriptPoint → List ScriptEvent → List ScriptEvent
tells_all [] p t = t
tells_all (x ∷ xs) p t = tells_all xs (script_next p.literals p.at x.class x.byte) (tells p.literals p.at x.class x.byte t)

abbrev pub point_of : ScriptState → ScriptPoint
point_of s = point s.literals s.at

abbrev pub script_moved : ScriptState → ScriptPoint → Bool → List ℕ → ℕ → ScriptState
script_moved s p some held b = record {
  literals = p.literals;
  at = p.at;
  held = held;
  trail = next_trail some s.trail (point_of s) p b;
}

abbrev pub feed_class : ScriptState → ScriptClass → ℕ → ScriptState
feed_class s c b =
    let xs = read_at (tells_white_apart s.at) s.held c b in
    script_moved s (points xs (point_of s)) (not (is_empty xs)) (held_at (tells_white_apart s.at) s.held b) b

abbrev pub script_emits_class : ScriptState → ScriptClass → ℕ → List ScriptEvent → List ScriptEvent
script_emits_class s c b t = tells_all (read_at (tells_white_apart s.at) s.held c b) (point_of s) t

-- the state after a byte, and what the byte tells
abbrev pub feed_script : ScriptState → ℕ → ScriptState
feed_script s b = feed_class s (class_of b) b

abbrev pub script_emits : ScriptState → ℕ → List ScriptEvent → List ScriptEvent
script_emits s b t = script_emits_class s (class_of b) b t

-- What is held back is released where the script ends, and where a hole begins: what may have been white space are letters.
abbrev pub released_point : ScriptState → ScriptPoint
released_point s = points (classed_as class.Letter s.held) (point_of s)

abbrev pub emits_released : ScriptState → List ScriptEvent → List ScriptEvent
emits_released s t = tells_all (classed_as class.Letter s.held) (point_of s) t

-- A slash that is held back is told, where it is not told already as a byte of a template literal.
abbrev pub tells_held_slash : List ℕ → At → List ScriptEvent → List ScriptEvent
tells_held_slash [] (Slash sense.Re) t = ScriptByte 47 ∷ RegexpBegins ∷ t
tells_held_slash [] (Slash s) t = ScriptByte 47 ∷ PunctuatorBegins ∷ t
tells_held_slash fs a t = t

abbrev pub tells_end : At → List ScriptEvent → List ScriptEvent
tells_end (InString q e) t = tells_held_escape e t
tells_end (InRegexp k e) t = tells_held_escape e t
tells_end (InTemplate e d) t = tells_held_escape e t
tells_end a t = t

-- what the end of the script tells
abbrev pub script_ends : ScriptState → List ScriptEvent → List ScriptEvent
script_ends s t = (let p = released_point s in tells_end p.at (tells_held_slash p.literals p.at (emits_released s t)))

-- A script read whole, with what was told.
pub record ScriptReading : Type 0 where
  pub state : ScriptState
  pub told : List ScriptEvent

abbrev pub script_reading : ScriptState → List ScriptEvent → ScriptReading
script_reading s t = record { state = s; told = t }

abbrev pub read_on : List ℕ → ScriptReading → ScriptReading
read_on [] r = r
read_on (b ∷ bs) r = read_on bs (script_reading (feed_script r.state b) (script_emits r.state b r.told))

abbrev pub read_script : List ℕ → List ScriptEvent
read_script bytes = (let r = read_on bytes (script_reading script_start []) in script_ends r.state r.told)
