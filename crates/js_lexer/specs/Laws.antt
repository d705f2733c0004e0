-- What the reading of scripts keeps: a page and a path that are alike tell the same of the path's texts, and stay alike, over holes too,
-- which have a mark in both or in neither.
use Rattle.std.specs.Prelude.{◌≡◌, ℕ, Bool, List, None}
use Rattle.js_lexer.specs.Alike.{ScriptsAlike}
use Rattle.js_lexer.specs.Events.{ScriptEvent}
use Rattle.js_lexer.specs.Feeding.{feed_script, script_emits, script_ends}
use Rattle.js_lexer.specs.Holes.{script_settled, script_emits_settled, script_has_mark, script_after_hole, script_behind, script_after_cut, ScriptLeadsPlain}
use Rattle.js_lexer.specs.Refusals.{script_refuses}
use Rattle.js_lexer.specs.States.{ScriptState, script_start}

-- `v` is the state of the path, and `w` that of the page; `element` says whether the script is an element's. Of a byte that the path refuses nothing
-- is said, since no page has it.
pub record ScriptLaws : Type 0 where
  pub begins : ScriptsAlike script_start script_start
  pub emits : (element : Bool) (v w : ScriptState) (b : ℕ) (t : List ScriptEvent) → ScriptsAlike v w → script_refuses element v b ≡ None → script_emits w b t ≡ script_emits v b t
  pub feeds : (element : Bool) (v w : ScriptState) (b : ℕ) → ScriptsAlike v w → script_refuses element v b ≡ None → ScriptsAlike (feed_script v b) (feed_script w b)
  pub ends : (v w : ScriptState) (t : List ScriptEvent) → ScriptsAlike v w → script_ends w t ≡ script_ends v t
  pub after_cut : (v w : ScriptState) → ScriptsAlike v w → ScriptsAlike (script_after_cut v) w
  pub settles : (v w : ScriptState) (t : List ScriptEvent) → ScriptsAlike v w → script_emits_settled w t ≡ script_emits_settled v t
  pub marks : (v w : ScriptState) → ScriptsAlike v w → script_has_mark w ≡ script_has_mark v
  pub hole : (v w after : ScriptState) → ScriptsAlike v w → ScriptLeadsPlain (script_settled w) after → ScriptsAlike (script_after_hole v) (script_behind (script_settled w) after)
