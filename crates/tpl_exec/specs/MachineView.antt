-- What the machine of the code stands for.
use Rattle.std.specs.Prelude.{◌≡◌, ℕ, ◌+◌, List, [], ◌∷◌, drop, Option, Some, None, Result, Ok, Err, ⊤}
use Rattle.std.specs.Borrow.{Bor}
use Rattle.page_datum.specs.Data.{Data}
use Rattle.page_datum.specs.View.{ref_view}
use Rattle.tpl_exec.specs.Elements.{all_elements}
use Rattle.tpl_eval.specs.Functions.{Outcome}
use Rattle.tpl_exec.specs.Machine.{Progress, Frame, Loop, Machine, TreeCursor, machine_advance, call, fails, finishes, loop, continues, nowhere, on_value, part, tree_cursor, emits}
use Rattle.tpl_exec.specs.Meaning.{elements, run_nodes_of_tree}
use Rattle.tpl_events.specs.Events.{ExecEvent, Emission, enters, gives_hole, gives_text, leaves}
use Rattle.tpl_exec.specs.Runs.{Site, RunState}
use Rattle.tpl_eval.specs.Values.{value_view}
use Rattle.tpl_exec.specs.Variables.{outer_view}
use Rattle.tpl_exec.specs.declared.frame.Frame.{Frame as OpenFrame}
use Rattle.tpl_exec.specs.declared.frame.Frame.TheVariants as frame
use Rattle.tpl_exec.specs.declared.frame.OpenCall.{OpenCall}
use Rattle.tpl_exec.specs.declared.frame.OpenLoop.{OpenLoop}
use Rattle.tpl_exec.specs.declared.machine.Machine.{Machine as CodeMachine}
use Rattle.tpl_exec.specs.declared.node.NodeBody.{NodeBody}
use Rattle.tpl_exec.specs.declared.node.Node.{Node}
use Rattle.tpl_eval.specs.declared.value.Value.{Value}
use Rattle.tpl_exec.specs.declared.stop.ExecStop.{ExecStop}
use Rattle.tpl_exec.specs.declared.stop.ExecStop.TheVariants as stop
use Rattle.tpl_exec.specs.declared.progress.Progress.{Progress as CodeProgress}
use Rattle.tpl_exec.specs.declared.progress.Progress.TheVariants as code
use Rattle.tpl_exec.specs.declared.progress.ExecEvent.{ExecEvent as CodeEvent}
use Rattle.tpl_exec.specs.declared.progress.ExecEvent.TheVariants as event
use Rattle.tpl_exec.specs.declared.progress.Emission.{Emission as CodeEmission}
use Rattle.tpl_tree.specs.Forests.{ForestData}
use Rattle.tpl_tree.specs.Trees.{NodesData, TreeData, head_seams, node, nodes_from, nodes_size, tree_part, rest_of}

abbrev pub tree_view : Option (Bor TreeData) → Option TreeData
tree_view (Some tree) = Some tree.now
tree_view None = None

-- the nodes of a body
abbrev pub body_nodes : NodeBody → NodesData
body_nodes body = run_nodes_of_tree (tree_view body.tree)

-- the nodes of a part, by the number of the first one
abbrev pub cursor_at : NodesData → Option ℕ → TreeCursor
cursor_at nodes (Some n) = tree_cursor n (nodes_from nodes n)
cursor_at nodes None = nowhere

-- the node with a number, and what is in it and follows it; or that there is none
pub record IsNodeAtCursor (found : Node) (nodes : NodesData) (number : Option ℕ) : Type 0 where
  pub here : cursor_at nodes number ≡ record { number = found.number; nodes = node found.kind.now found.line (head_seams (nodes_from nodes found.number)) (tree_part 0 (nodes_from nodes found.number)) (tree_part 1 (nodes_from nodes found.number)) (rest_of (nodes_from nodes found.number)) }
  pub first : cursor_at nodes found.first ≡ tree_cursor (found.number + 1) (tree_part 0 (nodes_from nodes found.number))
  pub other : cursor_at nodes found.other ≡ tree_cursor (found.number + 1 + nodes_size (tree_part 0 (nodes_from nodes found.number))) (tree_part 1 (nodes_from nodes found.number))
  pub next : cursor_at nodes found.next ≡ tree_cursor (found.number + 1 + nodes_size (tree_part 0 (nodes_from nodes found.number)) + nodes_size (tree_part 1 (nodes_from nodes found.number))) (rest_of (nodes_from nodes found.number))

abbrev pub IsNode : Option Node → NodesData → Option ℕ → Type 0
IsNode (Some found) nodes number = IsNodeAtCursor found nodes number
IsNode None nodes number = cursor_at nodes number ≡ nowhere

-- where nodes stand
abbrev pub site_view : NodeBody → Value → Site
site_view body dot = record { template = body.name.now; dot = value_view dot }

-- the elements that are left of a loop
abbrev pub elements_left : OpenLoop → List (Data × Data)
elements_left l = drop l.at (all_elements (elements (ref_view l.source)))

abbrev pub loop_view : NodesData → OpenLoop → Loop
loop_view nodes l = record { line = l.header.line; index = l.header.index.now; element = l.header.element.now; first = cursor_at nodes l.header.first; left = elements_left l }

abbrev pub loop_frame : NodesData → OpenLoop → Frame
loop_frame nodes l = loop (value_view l.dot) (loop_view nodes l) (cursor_at nodes l.next) l.count

abbrev pub call_frame : OpenCall → Frame
call_frame c = call (site_view c.body c.dot) c.line (cursor_at (body_nodes c.body) c.next) (c.variables)

-- What is open, the innermost first. Parts and loops belong to the body of the call around them, and calls to that of their caller.
abbrev pub frames_view : NodesData → List OpenFrame → List Frame
frames_view nodes [] = []
frames_view nodes (frame.Part p ∷ fs) = part (outer_view p.dot) (cursor_at nodes p.next) p.count ∷ frames_view nodes fs
frames_view nodes (frame.Loop l ∷ fs) = loop_frame nodes l.value ∷ frames_view nodes fs
frames_view nodes (frame.Call c ∷ fs) = call_frame c.value ∷ frames_view (body_nodes c.value.body) fs

-- a call, and what is open around it
abbrev pub call_view : OpenCall → List OpenFrame → List Frame
call_view c fs = call_frame c ∷ frames_view (body_nodes c.body) fs

abbrev pub machine_view : CodeMachine → Machine
machine_view m = record {
  site = site_view m.body m.dot;
  at = cursor_at (body_nodes m.body) m.node;
  state = record { variables = m.variables; steps = m.steps };
  frames = frames_view (body_nodes m.body) m.frames;
  calls = m.calls;
}

-- a part in the body of a machine by its first node, its variables with other steps, and what is open
abbrev pub cursor_in : CodeMachine → Option ℕ → TreeCursor
cursor_in m number = cursor_at (body_nodes m.body) number

abbrev pub machine_stepped : CodeMachine → ℕ → RunState
machine_stepped m steps = record { variables = m.variables; steps = steps }

abbrev pub open_frames : CodeMachine → List Frame
open_frames m = frames_view (body_nodes m.body) m.frames

-- one advance
abbrev pub next_progress : ForestData → CodeMachine → Progress
next_progress forest m = machine_advance forest (machine_view m)

abbrev pub event_view : CodeEvent → ExecEvent
event_view (event.Text n) = gives_text n
event_view (event.Hole n value) = gives_hole n (value_view value)
event_view (event.Enter n) = enters n
event_view event.Leave = leaves

abbrev pub emission_view : CodeEmission → Emission
emission_view t = record { event = event_view t.event; template = t.template.now; line = t.line }

-- an advance that fails, or out of memory
abbrev pub FaultAnswers : Progress → ExecStop → Type 0
FaultAnswers machine_advance (stop.Fault why) = machine_advance ≡ fails why
FaultAnswers machine_advance stop.SinkStop = ⊥
FaultAnswers machine_advance stop.Memory = ⊤

-- what an advance gives, and the machine after it
abbrev pub ProgressAnswers : Progress → Result CodeProgress ExecStop → Machine → Type 0
ProgressAnswers machine_advance (Ok code.Continues) m = machine_advance ≡ continues m
ProgressAnswers machine_advance (Ok (code.Emits t)) m = machine_advance ≡ emits (emission_view t) m
ProgressAnswers machine_advance (Ok code.Finishes) m = machine_advance ≡ finishes m.state.steps
ProgressAnswers machine_advance (Err why) m = FaultAnswers machine_advance why

abbrev pub MachineAdvanceAnswers : Progress → Result CodeProgress ExecStop → CodeMachine → Type 0
MachineAdvanceAnswers machine_advance result m = ProgressAnswers machine_advance result (machine_view m)

-- a value and the steps up to there, or that the node of this line fails, whatever was to follow; or out of memory
abbrev pub EvaluatedAnswers : Site → ℕ → Outcome Data → Result (Value × ℕ) ExecStop → Type 0
EvaluatedAnswers at line outcome (Ok v) = outcome ≡ Ok (value_view v.0, v.1)
EvaluatedAnswers at line outcome (Err why) = (more : Data → ℕ → Progress) → FaultAnswers (on_value at line outcome more) why
