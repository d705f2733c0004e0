-- The machine, one advance at a time, does what the meaning says, choices left aside.
use Rattle.std.proofs.Common.{◌≡◌, ℕ, zero, suc, ◌+◌, List, [], ◌∷◌, ◌++◌, length, drop, Bool, true, false, Option, Some, None, Result, Ok, Err, refl, sym, ap, ◌∙◌, append_assoc, append-nil}
use Rattle.std.proofs.Math.Nat.{sub_self}
use Rattle.page_datum.specs.Data.{Data}
use Rattle.page_datum.specs.declared.fault.ExecFault.{ExecFault}
use Rattle.page_datum.specs.declared.fault.FaultKind.{FaultKind}
use Rattle.page_datum.specs.declared.fault.FaultKind.TheVariants.{NotRangeable, Depth}
use Rattle.tpl_eval.specs.Evaluating.{Variables}
use Rattle.tpl_eval.specs.Functions.{Outcome, counted}
use Rattle.tpl_exec.specs.Machine.{TreeCursor, tree_cursor, nowhere, Loop, Frame, part, loop, call, Machine, Progress, continues, emits, finishes, fails, back, cursor_run, turn_run, frames_run, machine_run, on_steps, on_value, turning, next_turn, machine_ended, leaving, loop_broken_off, moved, if_advance, with_advance, range_advance, call_advance, node_advance, advanced, machine_advance, started}
use Rattle.tpl_exec.specs.Meaning.{finished, finish_of, argument, at_dot, calls_within, scope_declared, elements, call_entered, evaluated, run_nodes_of_tree, nodes_run, node_run, parted, ranged, returned, template_run, turn_variables, loop_turned, turns, with_steps, scope_with_value, meaning, max_calls}
use Rattle.tpl_events.specs.Events.{Emission, enters}
use Rattle.tpl_exec.specs.Runs.{End, Run, Site, RunState, next, broken, continued, faulted, run_and_then, choosing, turn, run_cut, cut_end, ends, fault, fault_at, emission, run_go_on, if_next, scoped}
use Rattle.tpl_tree.specs.Forests.{ForestData, tree_named}
use Rattle.tpl_tree.specs.Trees.{NodesData, no_nodes, node, nodes_size}
use Rattle.tpl_tree.specs.declared.node_kind.NodeKind.{NodeKind}
use Rattle.tpl_tree.specs.declared.node_kind.NodeKind.TheVariants as kind
use Rattle.tpl_value.specs.Truth.{truth_of}

-- the same events and the same end
abbrev pub Same : Run → Run → Type 0
Same a b = (a.events ≡ b.events) × (a.end ≡ b.end)

-- how a run stands to an advance
abbrev pub Follows : ForestData → Run → Progress → Type 0
Follows forest run (continues m) = Same run (machine_run forest m)
Follows forest run (emits g m) = (run.events ≡ g ∷ (machine_run forest m).events) × (run.end ≡ (machine_run forest m).end)
Follows forest run (finishes steps) = (run.events ≡ []) × (finish_of run.end ≡ finished steps)
Follows forest run (fails why) = (run.events ≡ []) × (run.end ≡ faulted why)

pub same_then : (a b c : Run) → Same a b → Same b c → Same a c
same_then a b c h k = (h.0 ∙ k.0, h.1 ∙ k.1)

-- to go on is associative
pub same_assoc : (g f : End → Run) (r : Run) → Same (run_go_on g (run_go_on f r)) (run_go_on (λ e. run_go_on g (f e)) r)
same_assoc g f r = (append_assoc r.events (f r.end).events (g (f r.end).end).events, refl)

-- the same before what goes on
same_before : (g : End → Run) (a b : Run) → Same a b → Same (run_go_on g a) (run_go_on g b)
same_before g a b h = (
  ap (λ (es : List Emission). es ++ (g a.end).events) h.0 ∙ ap (λ (e : End). b.events ++ (g e).events) h.1,
  ap (λ (e : End). (g e).end) h.1,
)

same_thrice : (h g f : End → Run) (r : Run) → Same (run_go_on h (run_go_on g (run_go_on f r))) (run_go_on (λ e. run_go_on h (run_go_on g (f e))) r)
same_thrice h g f r =
    same_then (run_go_on h (run_go_on g (run_go_on f r))) (run_go_on h (run_go_on (λ e. run_go_on g (f e)) r)) (run_go_on (λ e. run_go_on h (run_go_on g (f e))) r)
    (same_before h (run_go_on g (run_go_on f r)) (run_go_on (λ e. run_go_on g (f e)) r) (same_assoc g f r)) (same_assoc h (λ e. run_go_on g (f e)) r)

-- a fault passes all that is open
fault_passes : (forest : ForestData) (more : ℕ) (at : Site) (fs : List Frame) (why : ExecFault) → Same (frames_run forest more at fs (faulted why)) (ends (faulted why))
fault_passes forest more at [] why = (refl, refl)
fault_passes forest more at (part dot rest count ∷ fs) why = fault_passes forest more (back dot at) fs why
fault_passes forest more at (loop dot l rest count ∷ fs) why = fault_passes forest more (at_dot at dot) fs why
fault_passes forest more at (call caller line rest variables ∷ fs) why = fault_passes forest (suc more) caller fs why

-- a `break` or a `continue` goes to the innermost loop
broken_follows : (forest : ForestData) (m : Machine) (fs : List Frame) → Follows forest (frames_run forest m.calls m.site fs (broken m.state)) (loop_broken_off true m fs)
broken_follows forest m [] = (refl, refl)
broken_follows forest m (part dot rest count ∷ fs) = broken_follows forest (leaving m dot count) fs
broken_follows forest m (loop dot l rest count ∷ fs) = (refl, refl)
broken_follows forest m (call caller line rest variables ∷ fs) = (refl, refl)

continued_follows : (forest : ForestData) (m : Machine) (fs : List Frame) → Follows forest (frames_run forest m.calls m.site fs (continued m.state)) (loop_broken_off false m fs)
continued_follows forest m [] = (refl, refl)
continued_follows forest m (part dot rest count ∷ fs) = continued_follows forest (leaving m dot count) fs
continued_follows forest m (loop dot l rest count ∷ fs) = (refl, refl)
continued_follows forest m (call caller line rest variables ∷ fs) = (refl, refl)

-- the runs of parts where they stand in the meaning, and as spots
cursor_stands : (forest : ForestData) (more n : ℕ) (at : Site) (nodes : NodesData) (P : (RunState → Run) → Type 0)
    → P (λ s. cursor_run forest more at (tree_cursor n nodes) s) → P (λ s. nodes_run (calls_within forest more) at n nodes s)
cursor_stands forest more n at no_nodes P h = h
cursor_stands forest more n at (node kind line seams first other rest) P h = h

part_stands : (forest : ForestData) (more n : ℕ) (at : Site) (nodes : NodesData) (P : (Data → RunState → Run) → Type 0)
    → P (λ dot s. cursor_run forest more (at_dot at dot) (tree_cursor n nodes) s) → P (λ dot s. nodes_run (calls_within forest more) (at_dot at dot) n nodes s)
part_stands forest more n at no_nodes P h = h
part_stands forest more n at (node kind line seams first other rest) P h = h

-- only so many variables, where there are no more
cut_none : (variables : Variables) → run_cut (length variables) variables ≡ variables
cut_none variables = ap (λ (n : ℕ). drop n variables) (sub_self (length variables))

-- what follows a node, and then what is open
abbrev behind_node : ForestData → Machine → TreeCursor → End → Run
behind_node forest m rest end = run_go_on (frames_run forest m.calls m.site m.frames) (if_next (cursor_run forest m.calls m.site rest) end)

-- a node, and then all that follows it
abbrev from_node : ForestData → Machine → TreeCursor → Run → Run
from_node forest m rest run = run_go_on (frames_run forest m.calls m.site m.frames) (run_and_then run (cursor_run forest m.calls m.site rest))

-- a fault at a node
fault_follows : (forest : ForestData) (m : Machine) (rest : TreeCursor) (line : ℕ) (kind : FaultKind) → Follows forest (from_node forest m rest (fault m.site line kind)) (fails (fault_at m.site line kind))
fault_follows forest m rest line kind = fault_passes forest m.calls m.site m.frames (fault_at m.site line kind)

-- the value of a pipe
value_follows : (forest : ForestData) (m : Machine) (rest : TreeCursor) (line : ℕ) (out : Outcome Data) (run : Data → ℕ → Run) (adv : Data → ℕ → Progress)
    → ((value : Data) (steps : ℕ) → Follows forest (from_node forest m rest (run value steps)) (adv value steps))
    → Follows forest (from_node forest m rest (scope_with_value m.site line out run)) (on_value m.site line out adv)
value_follows forest m rest line (Ok v) run adv h = h v.0 v.1
value_follows forest m rest line (Err kind) run adv h = fault_follows forest m rest line kind

-- a part of a control
opened_follows : (forest : ForestData) (m : Machine) (rest : TreeCursor) (count : ℕ) (run : Run)
    → Same (from_node forest m rest (scoped count run)) (run_go_on (λ end. behind_node forest m rest (cut_end count end)) run)
opened_follows forest m rest count run = same_assoc (frames_run forest m.calls m.site m.frames) (λ end. if_next (cursor_run forest m.calls m.site rest) (cut_end count end)) run

-- the part of a dot
abbrev part_run : ForestData → Machine → TreeCursor → Data → RunState → Run
part_run forest m s dot state = cursor_run forest m.calls (at_dot m.site dot) s state

if_follows : (forest : ForestData) (m : Machine) (b : Bool) (first other rest : TreeCursor) (state : RunState)
    → Follows forest (from_node forest m rest (scoped (length m.state.variables) (parted b (part_run forest m first m.site.dot) (part_run forest m other m.site.dot) state))) (continues (if_advance m b first other rest state))
if_follows forest m true first other rest state = opened_follows forest m rest (length m.state.variables) (part_run forest m first m.site.dot state)
if_follows forest m false first other rest state = opened_follows forest m rest (length m.state.variables) (part_run forest m other m.site.dot state)

with_follows : (forest : ForestData) (m : Machine) (b : Bool) (value : Data) (first other rest : TreeCursor) (state : RunState)
    → Follows forest (from_node forest m rest (scoped (length m.state.variables) (parted b (part_run forest m first value) (part_run forest m other m.site.dot) state))) (continues (with_advance m b value first other rest state))
with_follows forest m true value first other rest state = opened_follows forest m rest (length m.state.variables) (part_run forest m first value state)
with_follows forest m false value first other rest state = opened_follows forest m rest (length m.state.variables) (part_run forest m other m.site.dot state)

-- a range
abbrev element_run : ForestData → Machine → Option (List ℕ) → Option (List ℕ) → TreeCursor → Data × Data → RunState → Run
element_run forest m index element first e now = part_run forest m first e.1 (record { variables = turn_variables index element e now.variables; steps = now.steps })

range_follows : (forest : ForestData) (m : Machine) (line : ℕ) (index element : Option (List ℕ)) (found : Option (List (Data × Data))) (first other rest : TreeCursor) (steps : ℕ)
    → Follows forest (from_node forest m rest (ranged m.site line (element_run forest m index element first) (part_run forest m other m.site.dot) found (record { variables = m.state.variables; steps = steps })))
    (range_advance m (record { line = line; index = index; element = element; first = first; left = [] }) found other rest (record { variables = m.state.variables; steps = steps }))
range_follows forest m line index element None first other rest steps = fault_follows forest m rest line NotRangeable
range_follows forest m line index element (Some []) first other rest steps =
    opened_follows forest m rest (length m.state.variables) (part_run forest m other m.site.dot (record { variables = m.state.variables; steps = steps }))
range_follows forest m line index element (Some (e ∷ es)) first other rest steps =
    let here : List (Data × Data) = e ∷ es in
    let from : Variables → Run = λ variables. from_node forest m rest (turns m.site line (length m.state.variables) (element_run forest m index element first) here (record { variables = variables; steps = steps })) in
    let same = sym (cut_none m.state.variables) in
    (ap (λ (v : Variables). (from v).events) same, ap (λ (v : Variables). (from v).end) same)

-- a call
call_follows : (forest : ForestData) (site : Site) (at : TreeCursor) (state : RunState) (frames : List Frame) (calls n line : ℕ) (name : List ℕ) (value : Data) (rest : TreeCursor) (steps : ℕ)
    → let m : Machine = record { site = site; at = at; state = state; frames = frames; calls = calls } in
    Follows forest (from_node forest m rest (call_entered site n line state.variables (calls_within forest calls name value steps))) (call_advance forest m calls n line name value rest steps)
call_follows forest site at state frames zero n line name value rest steps =
    fault_follows forest (record { site = site; at = at; state = state; frames = frames; calls = zero }) rest line Depth
call_follows forest site at state frames (suc more) n line name value rest steps =
    let m : Machine = record { site = site; at = at; state = state; frames = frames; calls = suc more } in
    let inside : Site = record { template = name; dot = value } in
    let now : RunState = record { variables = ([], value) ∷ []; steps = steps } in
    cursor_stands forest more 0 inside (run_nodes_of_tree (tree_named name forest))
    (λ (run : RunState → Run). (((from_node forest m rest (call_entered site n line state.variables (Ok (run now)))).events
    ≡ emission site line (enters n) ∷ (run_go_on (frames_run forest more inside (call site line rest state.variables ∷ frames)) (cursor_run forest more inside (tree_cursor 0 (run_nodes_of_tree (tree_named name forest))) now)).events)
    × ((from_node forest m rest (call_entered site n line state.variables (Ok (run now)))).end
    ≡ (run_go_on (frames_run forest more inside (call site line rest state.variables ∷ frames)) (cursor_run forest more inside (tree_cursor 0 (run_nodes_of_tree (tree_named name forest))) now)).end)))
    (let same = same_thrice (frames_run forest m.calls site frames) (if_next (cursor_run forest m.calls site rest)) (returned site line state.variables) (cursor_run forest more inside (tree_cursor 0 (run_nodes_of_tree (tree_named name forest))) now) in
    (ap (λ (es : List Emission). emission site line (enters n) ∷ es) same.0, same.1))

-- a node, and all that follows it
node_follows : (forest : ForestData) (m : Machine) (n line : ℕ) (what : NodeKind) (first other rest : TreeCursor) (steps : ℕ)
    → let state : RunState = record { variables = m.state.variables; steps = steps } in
    Follows forest (from_node forest m rest (node_run (calls_within forest m.calls) m.site n line what (part_run forest m first) (part_run forest m other) state)) (node_advance forest m n line what first other rest state)
node_follows forest m n line (kind.Text bytes) first other rest steps = (refl, refl)
node_follows forest m n line (kind.Action pipe) first other rest steps = value_follows forest m rest line (evaluated m.site pipe (record { variables = m.state.variables; steps = steps })) _ _ (λ value now. (refl, refl))
node_follows forest m n line (kind.Declare name pipe) first other rest steps = value_follows forest m rest line (evaluated m.site pipe (record { variables = m.state.variables; steps = steps })) _ _ (λ value now. (refl, refl))
node_follows forest m n line (kind.Assign name pipe) first other rest steps = value_follows forest m rest line (evaluated m.site pipe (record { variables = m.state.variables; steps = steps })) _ _ (λ value now. (refl, refl))
node_follows forest m n line (kind.If name pipe) first other rest steps = value_follows forest m rest line (evaluated m.site pipe (record { variables = m.state.variables; steps = steps })) _ _
    (λ value now. if_follows forest m (truth_of value) first other rest (record { variables = scope_declared name value m.state.variables; steps = now }))
node_follows forest m n line (kind.With name pipe) first other rest steps = value_follows forest m rest line (evaluated m.site pipe (record { variables = m.state.variables; steps = steps })) _ _
    (λ value now. with_follows forest m (truth_of value) value first other rest (record { variables = scope_declared name value m.state.variables; steps = now }))
node_follows forest m n line (kind.Range index element pipe) first other rest steps = value_follows forest m rest line (evaluated m.site pipe (record { variables = m.state.variables; steps = steps })) _ _
    (λ value now. range_follows forest m line index element (elements value) first other rest now)
node_follows forest m n line kind.Break first other rest steps = broken_follows forest (moved m nowhere (record { variables = m.state.variables; steps = steps })) m.frames
node_follows forest m n line kind.Continue first other rest steps = continued_follows forest (moved m nowhere (record { variables = m.state.variables; steps = steps })) m.frames
node_follows forest m n line (kind.Template name pipe) first other rest steps = value_follows forest m rest line (argument m.site pipe (record { variables = m.state.variables; steps = steps })) _ _
    (λ value now. call_follows forest m.site m.at m.state m.frames m.calls n line name value rest now)

-- steps, and then a run and an advance
steps_follow : (forest : ForestData) (at : Site) (line : ℕ) (found : Result ℕ FaultKind) (around : Run → Run) (run : ℕ → Run) (adv : ℕ → Progress)
    → ((kind : FaultKind) → Follows forest (around (fault at line kind)) (fails (fault_at at line kind)))
    → ((steps : ℕ) → Follows forest (around (run steps)) (adv steps))
    → Follows forest (around (with_steps at line found run)) (on_steps at line found adv)
steps_follow forest at line (Ok steps) around run adv f h = h steps
steps_follow forest at line (Err kind) around run adv f h = f kind

-- one more turn of a loop, or its end
turn_follows : (forest : ForestData) (m : Machine) (dot : Data) (l : Loop) (left : List (Data × Data)) (rest : TreeCursor) (count : ℕ) (fs : List Frame)
    → Follows forest (frames_run forest m.calls m.site (loop dot (record { line = l.line; index = l.index; element = l.element; first = l.first; left = left }) rest count ∷ fs) (next m.state)) (next_turn m dot l left rest count fs)
turn_follows forest m dot l [] rest count fs = (refl, refl)
turn_follows forest m dot l (e ∷ es) rest count fs =
    let at = at_dot m.site dot in
    let each = turn_run forest m.calls at l in
    let part = λ (steps : ℕ). each e (record { variables = run_cut count m.state.variables; steps = steps }) in
    steps_follow forest at l.line (counted 1 m.state.steps)
    (λ run. run_go_on (frames_run forest m.calls at fs) (run_and_then run (cursor_run forest m.calls at rest)))
    (λ steps. choosing turn (run_go_on (loop_turned count (turns at l.line count each es)) (part steps)))
    (λ steps. continues (turning m dot l e es rest count fs steps))
    (λ kind. fault_passes forest m.calls at fs (fault_at at l.line kind))
    (λ steps. same_thrice (frames_run forest m.calls at fs) (if_next (cursor_run forest m.calls at rest)) (loop_turned count (turns at l.line count each es)) (part steps))

-- no node is next
ended_follows : (forest : ForestData) (m : Machine) (fs : List Frame) → Follows forest (frames_run forest m.calls m.site fs (next m.state)) (machine_ended m fs)
ended_follows forest m [] = (refl, refl)
ended_follows forest m (part dot rest count ∷ fs) = (refl, refl)
ended_follows forest m (loop dot l rest count ∷ fs) = turn_follows forest m dot l l.left rest count fs
ended_follows forest m (call caller line rest variables ∷ fs) = (refl, refl)

-- the nodes that are next
advanced_follows : (forest : ForestData) (m : Machine) (n : ℕ) (nodes : NodesData)
    → Follows forest (run_go_on (frames_run forest m.calls m.site m.frames) (nodes_run (calls_within forest m.calls) m.site n nodes m.state)) (advanced forest m n nodes)
advanced_follows forest m n no_nodes = ended_follows forest m m.frames
advanced_follows forest m n (node what line seams first other rest) =
    let calls = calls_within forest m.calls in
    let behind_first = n + 1 + nodes_size first in
    let after = behind_first + nodes_size other in
    let whole : (Data → RunState → Run) → (Data → RunState → Run) → (RunState → Run) → ℕ → Run = λ one two more steps.
    run_go_on (frames_run forest m.calls m.site m.frames) (run_and_then (node_run calls m.site n line what one two (record { variables = m.state.variables; steps = steps })) more) in
    let then : ℕ → Progress = λ steps.
    node_advance forest m n line what (tree_cursor (n + 1) first) (tree_cursor behind_first other) (tree_cursor after rest) (record { variables = m.state.variables; steps = steps }) in
    let part = λ (k : ℕ) (nodes : NodesData) (dot : Data) (s : RunState). nodes_run calls (at_dot m.site dot) k nodes s in
    steps_follow forest m.site line (counted 1 m.state.steps)
    (λ run. run_go_on (frames_run forest m.calls m.site m.frames) (run_and_then run (nodes_run calls m.site after rest)))
    (λ steps. node_run calls m.site n line what (part (n + 1) first) (part behind_first other) (record { variables = m.state.variables; steps = steps }))
    then
    (λ kind. fault_passes forest m.calls m.site m.frames (fault_at m.site line kind))
    (λ steps.
    part_stands forest m.calls (n + 1) m.site first (λ (one : Data → RunState → Run). Follows forest (whole one (part behind_first other) (nodes_run calls m.site after rest) steps) (then steps))
    (part_stands forest m.calls behind_first m.site other (λ (two : Data → RunState → Run). Follows forest (whole (part_run forest m (tree_cursor (n + 1) first)) two (nodes_run calls m.site after rest) steps) (then steps))
    (cursor_stands forest m.calls after m.site rest (λ (more : RunState → Run). Follows forest (whole (part_run forest m (tree_cursor (n + 1) first)) (part_run forest m (tree_cursor behind_first other)) more steps) (then steps))
    (node_follows forest m n line what (tree_cursor (n + 1) first) (tree_cursor behind_first other) (tree_cursor after rest) steps))))

-- the machine after one advance does what the machine before it does
pub follows : (forest : ForestData) (m : Machine) → Follows forest (machine_run forest m) (machine_advance forest m)
follows forest m = advanced_follows forest m m.at.number m.at.nodes

-- the machine at its start does what the template does
pub starts : (forest : ForestData) (more : ℕ) (root : List ℕ) (datum : Data) → Same (machine_run forest (started forest more root datum)) (template_run (calls_within forest more) forest root datum 0)
starts forest more root datum =
    let at : Site = record { template = root; dot = datum } in
    let now : RunState = record { variables = ([], datum) ∷ []; steps = 0 } in
    cursor_stands forest more 0 at (run_nodes_of_tree (tree_named root forest)) (λ (run : RunState → Run). Same (machine_run forest (started forest more root datum)) (run now))
    (append-nil (cursor_run forest more at (tree_cursor 0 (run_nodes_of_tree (tree_named root forest))) now).events, refl)

-- and what the meaning says
pub starts_meaning : (forest : ForestData) (root : List ℕ) (datum : Data) → Same (machine_run forest (started forest max_calls root datum)) (meaning forest root datum)
starts_meaning forest root datum = starts forest max_calls root datum
