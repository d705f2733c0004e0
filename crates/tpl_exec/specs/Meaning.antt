-- What executing a template with a datum means (Go's `text/template`, "Actions", in a profile): a definition by recursion on the
-- tree. The limit on the page's length is left out, which is a matter of who writes the page.
use Rattle.std.specs.Prelude.{ℕ, zero, suc, ◌+◌, List, [], ◌∷◌, length, Bool, true, false, if◌then◌else◌, bytes_eq, Option, Some, None, Result, Ok, Err, pos}
use Rattle.page_datum.specs.Data.{Data, null, int, text, list, dict, DataList, no_items, item, DataDict, no_entries, entry}
use Rattle.page_datum.specs.declared.fault.ExecFault.{ExecFault}
use Rattle.page_datum.specs.declared.fault.FaultKind.{FaultKind}
use Rattle.page_datum.specs.declared.fault.FaultKind.TheVariants.{NotRangeable, Depth}
use Rattle.tpl_eval.specs.Evaluating.{Variables, pipe_value}
use Rattle.tpl_eval.specs.Evaluating.{scope_assigned}
use Rattle.tpl_eval.specs.Functions.{Outcome, counted}
use Rattle.tpl_events.specs.Events.{enters, gives_hole, gives_text, leaves}
use Rattle.tpl_exec.specs.Runs.{End, Run, Site, RunState, run_and_then, broken, choosing, continued, cut_state, done, else_part, ends, fault, faulted, emission, emitting, run_go_on, next, scoped, then_part, turn}
use Rattle.tpl_tree.specs.Forests.{ForestData, tree_named}
use Rattle.tpl_tree.specs.Trees.{NodesData, no_nodes, node, TreeData, nodes_size}
use Rattle.tpl_tree.specs.declared.node_kind.NodeKind.{NodeKind}
use Rattle.tpl_tree.specs.declared.node_kind.NodeKind.TheVariants as kind
use Rattle.tpl_tree.specs.declared.pipe.Pipe.{Pipe}
use Rattle.tpl_value.specs.Truth.{truth_of}

-- a variable more, where a control declares one
abbrev pub scope_declared : Option (List ℕ) → Data → Variables → Variables
scope_declared (Some name) value variables = (name, value) ∷ variables
scope_declared None value variables = variables

-- more steps, and then a run
abbrev pub with_steps : Site → ℕ → Result ℕ FaultKind → (ℕ → Run) → Run
with_steps at line (Ok steps) run = run steps
with_steps at line (Err kind) run = fault at line kind

-- the value of a pipe, and then a run with it
abbrev pub scope_with_value : Site → ℕ → Outcome Data → (Data → ℕ → Run) → Run
scope_with_value at line (Ok v) run = run v.0 v.1
scope_with_value at line (Err kind) run = fault at line kind

-- what a pipe of a node gives
abbrev pub evaluated : Site → Pipe → RunState → Outcome Data
evaluated at pipe state = pipe_value (record { dot = at.dot; variables = state.variables }) pipe.commands None state.steps

-- the argument of a call: null where none is written
abbrev pub argument : Site → Option Pipe → RunState → Outcome Data
argument at None state = Ok (null, state.steps)
argument at (Some pipe) state = evaluated at pipe state

-- the values of a list with their numbers, and those of a dictionary with their keys
abbrev pub numbered_elements : ℕ → DataList → List (Data × Data)
numbered_elements n no_items = []
numbered_elements n (item value rest) = (int (pos n), value) ∷ numbered_elements (suc n) rest

abbrev pub keyed : DataDict → List (Data × Data)
keyed no_entries = []
keyed (entry key value rest) = (text key, value) ∷ keyed rest

-- the elements that a range goes over, with their indices; `None` where a range has no meaning
abbrev pub elements : Data → Option (List (Data × Data))
elements null = Some []
elements (list items) = Some (numbered_elements 0 items)
elements (dict entries) = Some (keyed entries)
elements value = None

-- the variables of a turn
abbrev pub turn_variables : Option (List ℕ) → Option (List ℕ) → Data × Data → Variables → Variables
turn_variables index element e variables = scope_declared element e.1 (scope_declared index e.0 variables)

-- where a turn's end leads: to the other turns, or after a `break` to what stands after the range
abbrev pub loop_turned : ℕ → (RunState → Run) → End → Run
loop_turned count others (next state) = others (cut_state count state)
loop_turned count others (continued state) = others (cut_state count state)
loop_turned count others (broken state) = ends (next (cut_state count state))
loop_turned count others (faulted why) = ends (faulted why)

-- the turns of a range: each is a step, and its part runs with its element
abbrev pub turns : Site → ℕ → ℕ → (Data × Data → RunState → Run) → List (Data × Data) → RunState → Run
turns at line count part [] state = choosing done (ends (next state))
turns at line count part (e ∷ es) state = with_steps at line (counted 1 state.steps) (λ steps.
    choosing turn (run_go_on (loop_turned count (turns at line count part es)) (part e (record { variables = state.variables; steps = steps }))))

-- a range: its turns, or its `else` part where there is no element
abbrev pub ranged : Site → ℕ → (Data × Data → RunState → Run) → (RunState → Run) → Option (List (Data × Data)) → RunState → Run
ranged at line part other None state = fault at line NotRangeable
ranged at line part other (Some []) state = choosing done (scoped (length state.variables) (other state))
ranged at line part other (Some (e ∷ es)) state = turns at line (length state.variables) part (e ∷ es) state

-- the part of an `if` or a `with` that is chosen
abbrev pub parted : Bool → (RunState → Run) → (RunState → Run) → RunState → Run
parted true first other state = choosing then_part (first state)
parted false first other state = choosing else_part (other state)

-- what a template by a name does with a datum, emission the steps up to there; none where no more calls may be open
abbrev pub CallMeanings : Type 0
CallMeanings = List ℕ → Data → ℕ → Result Run FaultKind

-- the end of a call: it is left, and the caller has its own variables again; a fault does not leave it
abbrev pub returned : Site → ℕ → Variables → End → Run
returned at line outer (next state) = emitting (emission at line leaves) (ends (next (record { variables = outer; steps = state.steps })))
returned at line outer (broken state) = emitting (emission at line leaves) (ends (next (record { variables = outer; steps = state.steps })))
returned at line outer (continued state) = emitting (emission at line leaves) (ends (next (record { variables = outer; steps = state.steps })))
returned at line outer (faulted why) = ends (faulted why)

-- a call: its events stand between that it is entered and that it is left
abbrev pub call_entered : Site → ℕ → ℕ → Variables → Result Run FaultKind → Run
call_entered at n line outer (Ok run) = emitting (emission at line (enters n)) (run_go_on (returned at line outer) run)
call_entered at n line outer (Err kind) = fault at line kind

-- a node with its number and line, and what its two parts do at a dot
abbrev pub node_run : CallMeanings → Site → ℕ → ℕ → NodeKind → (Data → RunState → Run) → (Data → RunState → Run) → RunState → Run
node_run calls at n line (kind.Text bytes) first other state = emitting (emission at line (gives_text n)) (ends (next state))
node_run calls at n line (kind.Action pipe) first other state = scope_with_value at line (evaluated at pipe state) (λ value steps.
    emitting (emission at line (gives_hole n value)) (ends (next (record { variables = state.variables; steps = steps }))))
node_run calls at n line (kind.Declare name pipe) first other state = scope_with_value at line (evaluated at pipe state) (λ value steps.
    ends (next (record { variables = (name, value) ∷ state.variables; steps = steps })))
node_run calls at n line (kind.Assign name pipe) first other state = scope_with_value at line (evaluated at pipe state) (λ value steps.
    ends (next (record { variables = scope_assigned name value state.variables; steps = steps })))
node_run calls at n line (kind.If name pipe) first other state = scope_with_value at line (evaluated at pipe state) (λ value steps.
    scoped (length state.variables) (parted (truth_of value) (first at.dot) (other at.dot) (record { variables = scope_declared name value state.variables; steps = steps })))
node_run calls at n line (kind.With name pipe) first other state = scope_with_value at line (evaluated at pipe state) (λ value steps.
    scoped (length state.variables) (parted (truth_of value) (first value) (other at.dot) (record { variables = scope_declared name value state.variables; steps = steps })))
node_run calls at n line (kind.Range index element pipe) first other state = scope_with_value at line (evaluated at pipe state) (λ value steps.
    ranged at line (λ e now. first e.1 (record { variables = turn_variables index element e now.variables; steps = now.steps }))
    (other at.dot) (elements value) (record { variables = state.variables; steps = steps }))
node_run calls at n line kind.Break first other state = ends (broken state)
node_run calls at n line kind.Continue first other state = ends (continued state)
node_run calls at n line (kind.Template name pipe) first other state = scope_with_value at line (argument at pipe state) (λ value steps.
    call_entered at n line state.variables (calls name value steps))

-- the same site with another dot
abbrev pub at_dot : Site → Data → Site
at_dot at dot = record { template = at.template; dot = dot }

-- nodes of a part, the first of which has this number: each is a step
abbrev pub nodes_run : CallMeanings → Site → ℕ → NodesData → RunState → Run
nodes_run calls at n no_nodes state = ends (next state)
nodes_run calls at n (node kind line seams first other rest) state =
    run_and_then (with_steps at line (counted 1 state.steps) (λ steps. node_run calls at n line kind
    (λ dot. nodes_run calls (at_dot at dot) (n + 1) first)
    (λ dot. nodes_run calls (at_dot at dot) (n + 1 + nodes_size first) other)
    (record { variables = state.variables; steps = steps })))
    (nodes_run calls at (n + 1 + nodes_size first + nodes_size other) rest)

-- the nodes of a template by its name; none where the forest lacks it
abbrev pub run_nodes_of_tree : Option TreeData → NodesData
run_nodes_of_tree (Some tree) = tree.nodes
run_nodes_of_tree None = no_nodes

-- a template by its name with a datum, which is dot and `$`
abbrev pub template_run : CallMeanings → ForestData → List ℕ → Data → ℕ → Run
template_run calls forest name value steps = nodes_run calls (record { template = name; dot = value }) 0 (run_nodes_of_tree (tree_named name forest)) (record { variables = ([], value) ∷ []; steps = steps })

-- calls, of which so many more may be open
abbrev pub calls_within : ForestData → ℕ → CallMeanings
calls_within forest zero name value steps = Err Depth
calls_within forest (suc more) name value steps = Ok (template_run (calls_within forest more) forest name value steps)

-- the most calls that may be open at once
abbrev pub max_calls : ℕ
max_calls = 256

-- the execution of a template by its name with a datum; to enter it is no call
abbrev pub meaning : ForestData → List ℕ → Data → Run
meaning forest root datum = template_run (calls_within forest max_calls) forest root datum 0

-- how an execution ends: it is done after that many steps, or it meets a fault
pub data Finish : Type 0 where
  finished : ℕ → Finish
  stopped : ExecFault → Finish

abbrev pub finish_of : End → Finish
finish_of (next state) = finished state.steps
finish_of (broken state) = finished state.steps
finish_of (continued state) = finished state.steps
finish_of (faulted why) = stopped why
