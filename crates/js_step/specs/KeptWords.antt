-- Of a word the code keeps what any keyword may be told by: so many bytes as the longest has, and one more.
use Rattle.std.specs.Prelude.{ℕ, List, take}
use Rattle.js_lexer.specs.States.{At, Code, Word, Number, Pluses, Minuses, Slash, LineComment, BlockComment, InString, InRegexp, InTemplate, TooDeep, ScriptPoint, point, ScriptState}
use Rattle.js_step.specs.ScriptScans.{ScriptScan, script_scan}

abbrev pub kept_word : List ℕ → List ℕ
kept_word w = take 11 w

abbrev pub kept_at : At → At
kept_at (Code s) = Code s
kept_at (Word w) = Word (kept_word w)
kept_at Number = Number
kept_at (Pluses odd) = Pluses odd
kept_at (Minuses odd) = Minuses odd
kept_at (Slash s) = Slash s
kept_at (LineComment s) = LineComment s
kept_at (BlockComment s star) = BlockComment s star
kept_at (InString q e) = InString q e
kept_at (InRegexp k e) = InRegexp k e
kept_at (InTemplate e d) = InTemplate e d
kept_at TooDeep = TooDeep

abbrev pub kept_point : ScriptPoint → ScriptPoint
kept_point p = point p.literals (kept_at p.at)

abbrev pub kept_state : ScriptState → ScriptState
kept_state v = record { literals = v.literals; at = kept_at v.at; held = v.held; trail = v.trail }

abbrev pub kept_scan : ScriptScan → ScriptScan
kept_scan n = script_scan n.senses n.before n.star (kept_state n.state)
