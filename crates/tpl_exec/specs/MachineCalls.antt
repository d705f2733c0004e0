-- What the functions of the code's machine do, over its own values.
use Rattle.std.specs.Prelude.{ℕ, Bool, true, false, List, [], Option, Some, Result, Box}
use Rattle.std.specs.declared.alloc.Global.{Global}
use Rattle.page_datum.specs.View.{ref_view}
use Rattle.page_datum.specs.declared.datum_ref.DatumRef.{DatumRef}
use Rattle.tpl_exec.specs.Machine.{Progress, Loop, Machine, after_control, loop_broken_off, call_advance, machine_ended, if_advance, continues, loop_left, next_turn, node_advance, frame_opened, range_advance, started, emits, with_advance}
use Rattle.tpl_exec.specs.MachineView.{EvaluatedAnswers, MachineAdvanceAnswers, body_nodes, call_view, event_view, elements_left, loop_view, machine_view, open_frames, cursor_in, machine_stepped}
use Rattle.tpl_exec.specs.Meaning.{argument, scope_declared, elements, evaluated, max_calls}
use Rattle.tpl_exec.specs.Runs.{RunState, emission}
use Rattle.tpl_eval.specs.Values.{value_view}
use Rattle.tpl_exec.specs.Variables.{dot_view, outer_view}
use Rattle.tpl_exec.specs.declared.frame.OpenCall.{OpenCall}
use Rattle.tpl_exec.specs.declared.frame.OpenLoop.{OpenLoop}
use Rattle.tpl_exec.specs.declared.frame.OpenPart.{OpenPart}
use Rattle.tpl_exec.specs.declared.frame.LoopHeader.{LoopHeader}
use Rattle.tpl_exec.specs.declared.machine.Machine.{Machine as CodeMachine}
use Rattle.tpl_exec.specs.declared.node.Node.{Node}
use Rattle.tpl_eval.specs.declared.value.Value.{Value}
use Rattle.tpl_exec.specs.declared.stop.ExecStop.{ExecStop}
use Rattle.tpl_exec.specs.declared.progress.Progress.{Progress as CodeProgress}
use Rattle.tpl_exec.specs.declared.progress.ExecEvent.{ExecEvent as CodeEvent}
use Rattle.tpl_tree.specs.Forests.{ForestData}
use Rattle.tpl_tree.specs.declared.node_kind.NodeKind.{NodeKind}
use Rattle.tpl_tree.specs.declared.node_kind.NodeKind.TheVariants as kind
use Rattle.tpl_tree.specs.declared.pipe.Pipe.{Pipe}
use Rattle.tpl_value.specs.Truth.{truth_of}

-- the machine after a control
abbrev pub control_left : CodeMachine → Option Value → Option ℕ → ℕ → Machine
control_left m dot next count = after_control (machine_view m) (dot_view dot) (cursor_in m next) count (open_frames m)

abbrev pub part_left : CodeMachine → OpenPart → Option ℕ → Machine
part_left m part next = after_control (machine_view m) (outer_view part.dot) (cursor_in m next) part.count (open_frames m)

abbrev pub after_loop_of : CodeMachine → OpenLoop → Machine
after_loop_of m l = after_control (machine_view m) (Some (value_view l.dot)) (cursor_in m l.next) l.count (open_frames m)

-- a call that was taken off what is open ends
abbrev pub call_left : CodeMachine → OpenCall → Progress
call_left m call = machine_ended (machine_view m) (call_view call m.frames)

-- a loop that was taken off what is open has its next turn
abbrev pub turn_of : CodeMachine → OpenLoop → Progress
turn_of m l = next_turn (machine_view m) (value_view l.dot) (loop_view (body_nodes m.body) l) (elements_left l) (cursor_in m l.next) l.count (open_frames m)

-- no node is next
abbrev pub machine_end : CodeMachine → Progress
machine_end m = machine_ended (machine_view m) (open_frames m)

-- the innermost loop that was taken off what is open ends, or its turn does
abbrev pub loop_left_of : Bool → CodeMachine → OpenLoop → Progress
loop_left_of ends m l = loop_left ends (machine_view m) (value_view l.dot) (loop_view (body_nodes m.body) l) (cursor_in m l.next) l.count (open_frames m)

-- a `break`, or a `continue`
abbrev pub broken_off_of : Bool → CodeMachine → Progress
broken_off_of ends m = loop_broken_off ends (machine_view m) (open_frames m)

-- a pipe of a node on a line gives a value, and so does the argument of a call
abbrev pub PipeAnswers : CodeMachine → ℕ → Pipe → ℕ → Result (Value × ℕ) ExecStop → Type 0
PipeAnswers m line pipe steps result = EvaluatedAnswers (machine_view m).site line (evaluated (machine_view m).site pipe (machine_stepped m steps)) result

abbrev pub ArgumentAnswers : CodeMachine → ℕ → Option Pipe → ℕ → Result (Value × ℕ) ExecStop → Type 0
ArgumentAnswers m line pipe steps result = EvaluatedAnswers (machine_view m).site line (argument (machine_view m).site pipe (machine_stepped m steps)) result

-- an event of a node on a line
abbrev pub emitted_of : CodeMachine → ℕ → CodeEvent → Progress
emitted_of m line event = emits (emission (machine_view m).site line (event_view event)) (machine_view m)

-- in a part of a control
abbrev pub machine_part : CodeMachine → Option (Box Value Global) → Option ℕ → Option ℕ → ℕ → Progress
machine_part m outer part next count = continues (frame_opened (machine_view m) (machine_view m).site.dot (outer_view outer) (cursor_in m part) (cursor_in m next) count (machine_view m).state)

-- the state where a control has declared its value
abbrev pub declared_in_scope : CodeMachine → Option (List ℕ) → Value → RunState
declared_in_scope m name value = record { variables = scope_declared name (value_view value) (machine_view m).state.variables; steps = m.steps }

-- an `if`, a `with` and a range with their values
abbrev pub if_of : CodeMachine → Node → Option (List ℕ) → Value → Progress
if_of m node name value =
    continues (if_advance (machine_view m) (truth_of (value_view value)) (cursor_in m node.first) (cursor_in m node.other) (cursor_in m node.next) (declared_in_scope m name value))

abbrev pub with_of : CodeMachine → Node → Option (List ℕ) → Value → Progress
with_of m node name value =
    continues (with_advance (machine_view m) (truth_of (value_view value)) (value_view value) (cursor_in m node.first) (cursor_in m node.other) (cursor_in m node.next) (declared_in_scope m name value))

abbrev pub header_view : CodeMachine → LoopHeader → Loop
header_view m header = record { line = header.line; index = header.index.now; element = header.element.now; first = cursor_in m header.first; left = [] }

abbrev pub range_of : CodeMachine → Node → LoopHeader → Value → Progress
range_of m node header source = range_advance (machine_view m) (header_view m header) (elements (value_view source)) (cursor_in m node.other) (cursor_in m node.next) (machine_stepped m m.steps)

-- a call with its argument
abbrev pub machine_call : ForestData → CodeMachine → Node → List ℕ → Value → Progress
machine_call forest m node name value = call_advance forest (machine_view m) m.calls node.number node.line name (value_view value) (cursor_in m node.next) m.steps

-- whether a node is neither a text nor a hole
abbrev pub is_control_node : NodeKind → Bool
is_control_node (kind.Text bytes) = false
is_control_node (kind.Action pipe) = false
is_control_node (kind.Declare name pipe) = true
is_control_node (kind.Assign name pipe) = true
is_control_node (kind.If name pipe) = true
is_control_node (kind.With name pipe) = true
is_control_node (kind.Range index element pipe) = true
is_control_node kind.Break = true
is_control_node kind.Continue = true
is_control_node (kind.Template name pipe) = true

-- a node, at the steps with its own
abbrev pub machine_node : ForestData → CodeMachine → Node → ℕ → Progress
machine_node forest m node steps = node_advance forest (machine_view m) node.number node.line node.kind.now (cursor_in m node.first) (cursor_in m node.other) (cursor_in m node.next) (machine_stepped m steps)

-- the same, and the machine after it
abbrev pub WithAnswers : CodeMachine → Node → Option (List ℕ) → Value → Result CodeProgress ExecStop → CodeMachine → Type 0
WithAnswers m node name value result n = MachineAdvanceAnswers (with_of m node name value) result n

abbrev pub RangeAnswers : CodeMachine → Node → LoopHeader → Value → Result CodeProgress ExecStop → CodeMachine → Type 0
RangeAnswers m node header source result n = MachineAdvanceAnswers (range_of m node header source) result n

abbrev pub CallAnswers : ForestData → CodeMachine → Node → List ℕ → Value → Result CodeProgress ExecStop → CodeMachine → Type 0
CallAnswers forest m node name value result n = MachineAdvanceAnswers (machine_call forest m node name value) result n

-- before anything
abbrev pub machine_start : ForestData → List ℕ → DatumRef → Machine
machine_start forest root datum = started forest max_calls root (ref_view datum)
