-- A node of a template read whole: where its text is refused, and where it leads a path.
use Rattle.std.specs.Prelude.{ℕ, ◌+◌, ◌-◌, Bool, true, false, List, [], ◌∷◌, Option, Some, None}
use Rattle.js_lexer.specs.Feeding.{feed_script, script_reading, read_on}
use Rattle.js_lexer.specs.Holes.{script_after_hole, script_after_cut}
use Rattle.js_lexer.specs.Refusals.{Refusal, Cause, script_refuses, script_refuses_cut, refuses_end}
use Rattle.js_lexer.specs.States.{ScriptState}

-- a refusal, by the offset at which it stands and the one before which the place is shown
pub record Refused : Type 0 where
  pub refusal : Refusal
  pub at : ℕ
  pub shown : ℕ

abbrev pub refused : Refusal → ℕ → ℕ → Option Refused
refused r at shown = Some (record { refusal = r; at = at; shown = shown })

abbrev pub script_standing_at : ℕ → Option Cause → Option Refused → Option Refused
script_standing_at k None rest = rest
script_standing_at k (Some e) rest = refused e.refusal (k - e.back) (k - e.shown)

-- The refusal of the end of a text: the value ends in the node (true), or the node ends in the script (false).
abbrev pub script_refusal_at_end : Bool → ScriptState → Option Cause
script_refusal_at_end false s = script_refuses_cut s
script_refusal_at_end true s = refuses_end s

-- The first refusal of a text, from an offset on, and then of its end. `element` says whether the script is an element's (true) or a value's (false), and
-- `whole` what ends, as above.
abbrev pub script_refusal_from : Bool → Bool → ℕ → List ℕ → ScriptState → Option Refused
script_refusal_from element whole k [] s = script_standing_at k (script_refusal_at_end whole s) None
script_refusal_from element whole k (b ∷ bs) s = script_standing_at k (script_refuses element s b) (script_refusal_from element whole (k + 1) bs (feed_script s b))

abbrev pub node_refusal : Bool → List ℕ → ScriptState → Option Refused
node_refusal element bytes s = script_refusal_from element false 0 bytes s

abbrev pub value_refusal : List ℕ → ScriptState → Option Refused
value_refusal bytes s = script_refusal_from false true 0 bytes s

-- where the text of a node leads a path
abbrev pub script_state_after : List ℕ → ScriptState → ScriptState
script_state_after bytes s = (read_on bytes (script_reading s [])).state

abbrev pub script_node : List ℕ → ScriptState → ScriptState
script_node bytes s = script_after_cut (script_state_after bytes s)

-- and a node with a hole behind it
abbrev pub node_and_hole : List ℕ → ScriptState → ScriptState
node_and_hole bytes s = script_after_hole (script_node bytes s)
