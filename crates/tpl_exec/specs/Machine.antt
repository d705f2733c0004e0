-- Executing one node at a time: what is open stands in a list, in the place of the recursion of the meaning.
use Rattle.std.specs.Prelude.{ℕ, zero, suc, ◌+◌, List, [], ◌∷◌, length, Bool, true, false, Option, Some, None, Result, Ok, Err}
use Rattle.page_datum.specs.Data.{Data}
use Rattle.page_datum.specs.declared.fault.ExecFault.{ExecFault}
use Rattle.page_datum.specs.declared.fault.FaultKind.{FaultKind}
use Rattle.page_datum.specs.declared.fault.FaultKind.TheVariants.{NotRangeable, Depth}
use Rattle.tpl_eval.specs.Evaluating.{Variables}
use Rattle.tpl_eval.specs.Functions.{Outcome, counted}
use Rattle.tpl_eval.specs.Evaluating.{scope_assigned}
use Rattle.tpl_exec.specs.Meaning.{argument, at_dot, calls_within, scope_declared, elements, evaluated, run_nodes_of_tree, nodes_run, returned, turn_variables, loop_turned, turns}
use Rattle.tpl_events.specs.Events.{Emission, enters, gives_hole, gives_text, leaves}
use Rattle.tpl_exec.specs.Runs.{End, Run, Site, RunState, run_and_then, cut_end, cut_state, ends, fault_at, emission, run_go_on, if_next}
use Rattle.tpl_tree.specs.Forests.{ForestData, tree_named}
use Rattle.tpl_tree.specs.Trees.{NodesData, no_nodes, node, nodes_size}
use Rattle.tpl_tree.specs.declared.node_kind.NodeKind.{NodeKind}
use Rattle.tpl_tree.specs.declared.node_kind.NodeKind.TheVariants as kind
use Rattle.tpl_value.specs.Truth.{truth_of}

-- nodes of a part, with the number of the first one, which is 0 where there are none
pub record TreeCursor : Type 0 where
  pub number : ℕ
  pub nodes : NodesData

abbrev pub tree_cursor : ℕ → NodesData → TreeCursor
tree_cursor n no_nodes = record { number = 0; nodes = no_nodes }
tree_cursor n (node kind line seams first other rest) = record { number = n; nodes = node kind line seams first other rest }

abbrev pub nowhere : TreeCursor
nowhere = record { number = 0; nodes = no_nodes }

-- a range whose turns go on: its line, the names of its variables, the nodes of a turn, and the elements that are left
pub record Loop : Type 0 where
  pub line : ℕ
  pub index : Option (List ℕ)
  pub element : Option (List ℕ)
  pub first : TreeCursor
  pub left : List (Data × Data)

-- What is open. A part has what follows its control, how many variables remain then, and the dot that holds then, where it is another one. A
-- loop has the dot of its range and what follows that. A call has where and on which line it stands, what follows it, and the caller's variables.
pub data Frame : Type 0 where
  part : Option Data → TreeCursor → ℕ → Frame
  loop : Data → Loop → TreeCursor → ℕ → Frame
  call : Site → ℕ → TreeCursor → Variables → Frame

-- where it stands, the nodes that are next, the state, what is open with the innermost first, and how many more calls may be open
pub record Machine : Type 0 where
  pub site : Site
  pub at : TreeCursor
  pub state : RunState
  pub frames : List Frame
  pub calls : ℕ

-- what one advance does: it goes on, or gives an event and goes on, or all is done, or it meets a fault
pub data Progress : Type 0 where
  continues : Machine → Progress
  emits : Emission → Machine → Progress
  finishes : ℕ → Progress
  fails : ExecFault → Progress

-- a fault of a template, on a line
abbrev pub fails_so : List ℕ → ℕ → FaultKind → Progress
fails_so template line kind = fails (record { kind = kind; template = template; line = line })

-- the site with the dot that holds after a part
abbrev pub back : Option Data → Site → Site
back (Some dot) at = at_dot at dot
back None at = at

-- What the nodes that are next do, and then all that is open.

abbrev pub cursor_run : ForestData → ℕ → Site → TreeCursor → RunState → Run
cursor_run forest more at s state = nodes_run (calls_within forest more) at s.number s.nodes state

-- a turn of a loop, at the site of its range
abbrev pub turn_run : ForestData → ℕ → Site → Loop → Data × Data → RunState → Run
turn_run forest more at l e now = cursor_run forest more (at_dot at e.1) l.first (record { variables = turn_variables l.index l.element e now.variables; steps = now.steps })

abbrev pub frames_run : ForestData → ℕ → Site → List Frame → End → Run
frames_run forest more at [] end = ends end
frames_run forest more at (part dot rest count ∷ fs) end =
    run_go_on (frames_run forest more (back dot at) fs) (if_next (cursor_run forest more (back dot at) rest) (cut_end count end))
frames_run forest more at (loop dot l rest count ∷ fs) end =
    run_go_on (frames_run forest more (at_dot at dot) fs) (run_and_then (loop_turned count (turns (at_dot at dot) l.line count (turn_run forest more (at_dot at dot) l) l.left) end)
    (cursor_run forest more (at_dot at dot) rest))
frames_run forest more at (call caller line rest variables ∷ fs) end =
    run_go_on (frames_run forest (suc more) caller fs) (run_and_then (returned caller line variables end) (cursor_run forest (suc more) caller rest))

abbrev pub machine_run : ForestData → Machine → Run
machine_run forest m = run_go_on (frames_run forest m.calls m.site m.frames) (cursor_run forest m.calls m.site m.at m.state)

-- One advance.

-- more steps, or a value, and then an advance
abbrev pub on_steps : Site → ℕ → Result ℕ FaultKind → (ℕ → Progress) → Progress
on_steps at line (Ok steps) machine_advance = machine_advance steps
on_steps at line (Err kind) machine_advance = fails (fault_at at line kind)

abbrev pub on_value : Site → ℕ → Outcome Data → (Data → ℕ → Progress) → Progress
on_value at line (Ok v) machine_advance = machine_advance v.0 v.1
on_value at line (Err kind) machine_advance = fails (fault_at at line kind)

-- the machine after a control, or after a call
abbrev pub after_control : Machine → Option Data → TreeCursor → ℕ → List Frame → Machine
after_control m dot rest count fs = record { site = back dot m.site; at = rest; state = cut_state count m.state; frames = fs; calls = m.calls }

abbrev pub after_call : Machine → Site → TreeCursor → Variables → List Frame → Machine
after_call m caller rest variables fs = record { site = caller; at = rest; state = record { variables = variables; steps = m.state.steps }; frames = fs; calls = suc m.calls }

-- one more turn of a loop
abbrev pub turning : Machine → Data → Loop → Data × Data → List (Data × Data) → TreeCursor → ℕ → List Frame → ℕ → Machine
turning m dot l e es rest count fs steps = record {
  site = at_dot m.site e.1;
  at = l.first;
  state = record { variables = turn_variables l.index l.element e (cut_state count m.state).variables; steps = steps };
  frames = loop dot (record { line = l.line; index = l.index; element = l.element; first = l.first; left = es }) rest count ∷ fs;
  calls = m.calls;
}

-- no node is next: the innermost open thing ends, or a loop has its next turn
abbrev pub next_turn : Machine → Data → Loop → List (Data × Data) → TreeCursor → ℕ → List Frame → Progress
next_turn m dot l [] rest count fs = continues (after_control m (Some dot) rest count fs)
next_turn m dot l (e ∷ es) rest count fs = on_steps (at_dot m.site dot) l.line (counted 1 m.state.steps) (λ steps. continues (turning m dot l e es rest count fs steps))

abbrev pub machine_ended : Machine → List Frame → Progress
machine_ended m [] = finishes m.state.steps
machine_ended m (part dot rest count ∷ fs) = continues (after_control m dot rest count fs)
machine_ended m (loop dot l rest count ∷ fs) = next_turn m dot l l.left rest count fs
machine_ended m (call caller line rest variables ∷ fs) = emits (emission caller line leaves) (after_call m caller rest variables fs)

-- the machine after a part that a `break` or a `continue` leaves
abbrev pub leaving : Machine → Option Data → ℕ → Machine
leaving m dot count = record { site = back dot m.site; at = nowhere; state = cut_state count m.state; frames = []; calls = m.calls }

-- the innermost loop of this call: it ends, or its turn does
abbrev pub loop_left : Bool → Machine → Data → Loop → TreeCursor → ℕ → List Frame → Progress
loop_left true m dot l rest count fs = continues (after_control m (Some dot) rest count fs)
loop_left false m dot l rest count fs = continues (record { site = m.site; at = nowhere; state = m.state; frames = loop dot l rest count ∷ fs; calls = m.calls })

-- a `break`, which ends the innermost loop of this call, or a `continue`, which ends its turn
abbrev pub loop_broken_off : Bool → Machine → List Frame → Progress
loop_broken_off ends m [] = finishes m.state.steps
loop_broken_off ends m (part dot rest count ∷ fs) = loop_broken_off ends (leaving m dot count) fs
loop_broken_off ends m (loop dot l rest count ∷ fs) = loop_left ends m dot l rest count fs
loop_broken_off ends m (call caller line rest variables ∷ fs) = emits (emission caller line leaves) (after_call m caller rest variables fs)

-- the machine with other nodes next, and another state
abbrev pub moved : Machine → TreeCursor → RunState → Machine
moved m at state = record { site = m.site; at = at; state = state; frames = m.frames; calls = m.calls }

-- the machine in a part of a control, with a dot
abbrev pub frame_opened : Machine → Data → Option Data → TreeCursor → TreeCursor → ℕ → RunState → Machine
frame_opened m dot outer at rest count state = record { site = at_dot m.site dot; at = at; state = state; frames = part outer rest count ∷ m.frames; calls = m.calls }

abbrev pub if_advance : Machine → Bool → TreeCursor → TreeCursor → TreeCursor → RunState → Machine
if_advance m true first other rest state = frame_opened m m.site.dot None first rest (length m.state.variables) state
if_advance m false first other rest state = frame_opened m m.site.dot None other rest (length m.state.variables) state

abbrev pub with_advance : Machine → Bool → Data → TreeCursor → TreeCursor → TreeCursor → RunState → Machine
with_advance m true value first other rest state = frame_opened m value (Some m.site.dot) first rest (length m.state.variables) state
with_advance m false value first other rest state = frame_opened m m.site.dot None other rest (length m.state.variables) state

-- a range: to its loop, whose first turn is next, or to its `else` part
abbrev pub range_advance : Machine → Loop → Option (List (Data × Data)) → TreeCursor → TreeCursor → RunState → Progress
range_advance m l None other rest state = fails (fault_at m.site l.line NotRangeable)
range_advance m l (Some []) other rest state = continues (frame_opened m m.site.dot None other rest (length m.state.variables) state)
range_advance m l (Some (e ∷ es)) other rest state = continues (record {
  site = m.site;
  at = nowhere;
  state = state;
  frames = loop m.site.dot (record { line = l.line; index = l.index; element = l.element; first = l.first; left = e ∷ es }) rest (length m.state.variables) ∷ m.frames;
  calls = m.calls;
})

-- a call, where one more may be open
abbrev pub call_advance : ForestData → Machine → ℕ → ℕ → ℕ → List ℕ → Data → TreeCursor → ℕ → Progress
call_advance forest m zero n line name value rest steps = fails (fault_at m.site line Depth)
call_advance forest m (suc more) n line name value rest steps = emits (emission m.site line (enters n)) (record {
  site = record { template = name; dot = value };
  at = tree_cursor 0 (run_nodes_of_tree (tree_named name forest));
  state = record { variables = ([], value) ∷ []; steps = steps };
  frames = call m.site line rest m.state.variables ∷ m.frames;
  calls = more;
})

-- a node with its number and line, its two parts, what follows it, and the steps with its own
abbrev pub node_advance : ForestData → Machine → ℕ → ℕ → NodeKind → TreeCursor → TreeCursor → TreeCursor → RunState → Progress
node_advance forest m n line (kind.Text bytes) first other rest state = emits (emission m.site line (gives_text n)) (moved m rest state)
node_advance forest m n line (kind.Action pipe) first other rest state = on_value m.site line (evaluated m.site pipe state) (λ value steps.
    emits (emission m.site line (gives_hole n value)) (moved m rest (record { variables = state.variables; steps = steps })))
node_advance forest m n line (kind.Declare name pipe) first other rest state = on_value m.site line (evaluated m.site pipe state) (λ value steps.
    continues (moved m rest (record { variables = (name, value) ∷ state.variables; steps = steps })))
node_advance forest m n line (kind.Assign name pipe) first other rest state = on_value m.site line (evaluated m.site pipe state) (λ value steps.
    continues (moved m rest (record { variables = scope_assigned name value state.variables; steps = steps })))
node_advance forest m n line (kind.If name pipe) first other rest state = on_value m.site line (evaluated m.site pipe state) (λ value steps.
    continues (if_advance m (truth_of value) first other rest (record { variables = scope_declared name value state.variables; steps = steps })))
node_advance forest m n line (kind.With name pipe) first other rest state = on_value m.site line (evaluated m.site pipe state) (λ value steps.
    continues (with_advance m (truth_of value) value first other rest (record { variables = scope_declared name value state.variables; steps = steps })))
node_advance forest m n line (kind.Range index element pipe) first other rest state = on_value m.site line (evaluated m.site pipe state) (λ value steps.
    range_advance m (record { line = line; index = index; element = element; first = first; left = [] }) (elements value) other rest (record { variables = state.variables; steps = steps }))
node_advance forest m n line kind.Break first other rest state = loop_broken_off true (moved m nowhere state) m.frames
node_advance forest m n line kind.Continue first other rest state = loop_broken_off false (moved m nowhere state) m.frames
node_advance forest m n line (kind.Template name pipe) first other rest state = on_value m.site line (argument m.site pipe state) (λ value steps.
    call_advance forest m m.calls n line name value rest steps)

abbrev pub advanced : ForestData → Machine → ℕ → NodesData → Progress
advanced forest m n no_nodes = machine_ended m m.frames
advanced forest m n (node kind line seams first other rest) = on_steps m.site line (counted 1 m.state.steps) (λ steps.
    node_advance forest m n line kind (tree_cursor (n + 1) first) (tree_cursor (n + 1 + nodes_size first) other) (tree_cursor (n + 1 + nodes_size first + nodes_size other) rest)
    (record { variables = m.state.variables; steps = steps }))

abbrev pub machine_advance : ForestData → Machine → Progress
machine_advance forest m = advanced forest m m.at.number m.at.nodes

-- before anything: the template with the datum
abbrev pub started : ForestData → ℕ → List ℕ → Data → Machine
started forest more root datum = record {
  site = record { template = root; dot = datum };
  at = tree_cursor 0 (run_nodes_of_tree (tree_named root forest));
  state = record { variables = ([], datum) ∷ []; steps = 0 };
  frames = [];
  calls = more;
}
