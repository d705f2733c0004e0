-- When a page, in one state of a script, reads the texts of a path as the path does, in another.
use Rattle.std.specs.Prelude.{◌≡◌, ◌⊎◌, ℕ, zero, suc, Bool, true, false, []}
use Rattle.js_lexer.specs.Holes.{as_page}
use Rattle.js_lexer.specs.States.{BlockComment, ScriptState}
use Rattle.js_lexer.specs.declared.sense.Sense.{Sense}

-- `v` is the state of the path, and `w` that of the page. Whether a slash would divide after a value or after `}` does not matter. Nor do the trails,
-- but for `HaveSameEscape`.
pub record IsSame (v w : ScriptState) : Type 0 where
  pub literals : w.literals ≡ v.literals
  pub held : w.held ≡ v.held
  pub at : as_page w.at ≡ as_page v.at

-- A node ended in the `*` of a comment, and bytes of a hole came between: they do not end in `*`. The path refuses a `/` there.
pub record IsPassed (v w : ScriptState) : Type 0 where
  pub sense : Sense
  pub literals : w.literals ≡ v.literals
  pub fresh : v.trail.fresh ≡ true
  pub path : as_page v.at ≡ BlockComment sense true
  pub page : as_page w.at ≡ BlockComment sense false
  pub path_held : v.held ≡ []
  pub page_held : w.held ≡ []

-- Of the trails this matters: the escape that is open in a string or a regular expression, with which the bytes of no hole may go on. Of a `\u{` it
-- matters that it is open, and not how many bytes it has: what is written of a `<` has more.
abbrev pub is_open_brace : ℕ → Bool
is_open_brace zero = false
is_open_brace (suc n) = true

pub record HaveSameEscape (v w : ScriptState) : Type 0 where
  pub escape : w.trail.escape ≡ v.trail.escape
  pub brace : is_open_brace w.trail.brace ≡ is_open_brace v.trail.brace

abbrev pub ScriptsAlike : ScriptState → ScriptState → Type 0
ScriptsAlike v w = HaveSameEscape v w × (IsSame v w ⊎ IsPassed v w)
