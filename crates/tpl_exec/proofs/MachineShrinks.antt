-- Each advance of the machine leaves it less to do.
use Rattle.std.proofs.Common.{ℕ, zero, suc, ◌+◌, ◌-◌, ◌*◌, ◌≤◌, ◌<◌, List, [], ◌∷◌, length, Bool, true, false, Option, Some, None, Result, Ok, Err, arith}
use Rattle.page_datum.specs.Data.{Data}
use Rattle.page_datum.specs.declared.fault.FaultKind.{FaultKind}
use Rattle.tpl_eval.specs.Functions.{Outcome, counted, max_steps}
use Rattle.tpl_exec.specs.Machine.{TreeCursor, tree_cursor, nowhere, Loop, Frame, part, loop, call, Machine, Progress, continues, emits, finishes, fails, on_steps, on_value, next_turn, machine_ended, leaving, loop_broken_off, moved, if_advance, with_advance, range_advance, call_advance, node_advance, advanced, machine_advance, turning, started}
use Rattle.tpl_exec.specs.Meaning.{argument, at_dot, scope_declared, elements, evaluated}
use Rattle.tpl_eval.specs.Evaluating.{scope_assigned}
use Rattle.tpl_exec.specs.Runs.{Site, RunState}
use Rattle.tpl_eval.proofs.StepsGrow.{Counts, Grows, Within, counts, grows_from, pipe_grows}
use Rattle.tpl_tree.specs.Forests.{ForestData}
use Rattle.tpl_tree.specs.Trees.{NodesData, no_nodes, node, nodes_size}
use Rattle.tpl_tree.specs.declared.node_kind.NodeKind.{NodeKind}
use Rattle.tpl_tree.specs.declared.node_kind.NodeKind.TheVariants as kind
use Rattle.tpl_tree.specs.declared.pipe.Pipe.{Pipe}
use Rattle.tpl_value.specs.Truth.{truth_of}

-- what is left to do: the steps that are left, twice, and all that is open
abbrev pub weight : Machine → ℕ
weight m = 2 * (max_steps - m.state.steps) + length m.frames

abbrev pub Shrinks : ℕ → Progress → Type 0
Shrinks w (continues m) = weight m < w
Shrinks w (emits g m) = weight m < w
Shrinks w (finishes steps) = Unit {0}
Shrinks w (fails why) = Unit {0}

-- no more steps than an execution may have
abbrev pub Bounded : Progress → Type 0
Bounded (continues m) = m.state.steps ≤ max_steps
Bounded (emits g m) = m.state.steps ≤ max_steps
Bounded (finishes steps) = steps ≤ max_steps
Bounded (fails why) = Unit {0}

-- both
abbrev Falls : ℕ → Progress → Type 0
Falls w (continues m) = (weight m < w) × (m.state.steps ≤ max_steps)
Falls w (emits g m) = (weight m < w) × (m.state.steps ≤ max_steps)
Falls w (finishes steps) = steps ≤ max_steps
Falls w (fails why) = Unit {0}

shrinks_of : (w : ℕ) (a : Progress) → Falls w a → Shrinks w a
shrinks_of w (continues m) h = h.0
shrinks_of w (emits g m) h = h.0
shrinks_of w (finishes steps) h = tt
shrinks_of w (fails why) h = tt

bounded_of : (w : ℕ) (a : Progress) → Falls w a → Bounded a
bounded_of w (continues m) h = h.1
bounded_of w (emits g m) h = h.1
bounded_of w (finishes steps) h = h
bounded_of w (fails why) h = tt

-- a step at least, and at most one thing more that is open
lighter : (most steps now frames more : ℕ) → steps + 1 ≤ now → now ≤ most → more ≤ frames + 1 → 2 * (most - now) + more < 2 * (most - steps) + frames
lighter most steps now frames more a b c = omega (arith, a, b, c)

-- a value, or steps, and then an advance
value_falls : (w least : ℕ) (at : Site) (line : ℕ) (out : Outcome Data) (adv : Data → ℕ → Progress) → Grows least out → ((value : Data) (steps : ℕ) → Within least steps → Falls w (adv value steps)) → Falls w (on_value at line out adv)
value_falls w least at line (Ok v) adv g h = h v.0 v.1 g
value_falls w least at line (Err kind) adv g h = tt

steps_fall : (w least : ℕ) (at : Site) (line : ℕ) (found : Result ℕ FaultKind) (adv : ℕ → Progress) → Counts least found → ((steps : ℕ) → Within least steps → Falls w (adv steps)) → Falls w (on_steps at line found adv)
steps_fall w least at line (Ok steps) adv g h = h steps g
steps_fall w least at line (Err kind) adv g h = tt

-- a `break` and a `continue`
broken_falls : (w : ℕ) (m : Machine) (fs : List Frame) → m.state.steps ≤ max_steps → 2 * (max_steps - m.state.steps) + length fs < w → Falls w (loop_broken_off true m fs)
broken_falls w m [] l h = l
broken_falls w m (part dot rest count ∷ fs) l h = broken_falls w (leaving m dot count) fs l (omega (arith, h))
broken_falls w m (loop dot it rest count ∷ fs) l h = (omega (arith, h), l)
broken_falls w m (call caller line rest variables ∷ fs) l h = (omega (arith, h), l)

continued_falls : (w : ℕ) (m : Machine) (fs : List Frame) → m.state.steps ≤ max_steps → 2 * (max_steps - m.state.steps) + length fs < w → Falls w (loop_broken_off false m fs)
continued_falls w m [] l h = l
continued_falls w m (part dot rest count ∷ fs) l h = continued_falls w (leaving m dot count) fs l (omega (arith, h))
continued_falls w m (loop dot it rest count ∷ fs) l h = (h, l)
continued_falls w m (call caller line rest variables ∷ fs) l h = (omega (arith, h), l)

-- the steps of a node
abbrev Next : Machine → ℕ → Type 0
Next m steps = Within (m.state.steps + 1) steps

-- a part, a loop or a call is open then
if_falls : (m : Machine) (b : Bool) (first other rest : TreeCursor) (state : RunState) → Next m state.steps → Falls (weight m) (continues (if_advance m b first other rest state))
if_falls m true first other rest state h = (lighter max_steps m.state.steps state.steps (length m.frames) (suc (length m.frames)) h.0 h.1 (omega arith), h.1)
if_falls m false first other rest state h = (lighter max_steps m.state.steps state.steps (length m.frames) (suc (length m.frames)) h.0 h.1 (omega arith), h.1)

with_falls : (m : Machine) (b : Bool) (value : Data) (first other rest : TreeCursor) (state : RunState) → Next m state.steps → Falls (weight m) (continues (with_advance m b value first other rest state))
with_falls m true value first other rest state h = (lighter max_steps m.state.steps state.steps (length m.frames) (suc (length m.frames)) h.0 h.1 (omega arith), h.1)
with_falls m false value first other rest state h = (lighter max_steps m.state.steps state.steps (length m.frames) (suc (length m.frames)) h.0 h.1 (omega arith), h.1)

range_falls : (m : Machine) (l : Loop) (found : Option (List (Data × Data))) (other rest : TreeCursor) (state : RunState) → Next m state.steps → Falls (weight m) (range_advance m l found other rest state)
range_falls m l None other rest state h = tt
range_falls m l (Some []) other rest state h = (lighter max_steps m.state.steps state.steps (length m.frames) (suc (length m.frames)) h.0 h.1 (omega arith), h.1)
range_falls m l (Some (e ∷ es)) other rest state h = (lighter max_steps m.state.steps state.steps (length m.frames) (suc (length m.frames)) h.0 h.1 (omega arith), h.1)

call_falls : (forest : ForestData) (m : Machine) (calls n line : ℕ) (name : List ℕ) (value : Data) (rest : TreeCursor) (steps : ℕ) → Next m steps → Falls (weight m) (call_advance forest m calls n line name value rest steps)
call_falls forest m zero n line name value rest steps h = tt
call_falls forest m (suc more) n line name value rest steps h = (lighter max_steps m.state.steps steps (length m.frames) (suc (length m.frames)) h.0 h.1 (omega arith), h.1)

-- nothing more is open
moved_falls : (m : Machine) (at : TreeCursor) (state : RunState) → Next m state.steps → Falls (weight m) (continues (moved m at state))
moved_falls m at state h = (lighter max_steps m.state.steps state.steps (length m.frames) (length m.frames) h.0 h.1 (omega arith), h.1)

-- the value of a pipe of a node
evaluated_grows : (at : Site) (pipe : Pipe) (state : RunState) (least : ℕ) → Within least state.steps → Grows least (evaluated at pipe state)
evaluated_grows at pipe state least h = grows_from least state.steps (evaluated at pipe state) h.0 (pipe_grows (record { dot = at.dot; variables = state.variables }) pipe.commands None state.steps h.1)

argument_grows : (at : Site) (pipe : Option Pipe) (state : RunState) (least : ℕ) → Within least state.steps → Grows least (argument at pipe state)
argument_grows at None state least h = h
argument_grows at (Some pipe) state least h = evaluated_grows at pipe state least h

-- a node
node_falls : (forest : ForestData) (m : Machine) (n line : ℕ) (what : NodeKind) (first other rest : TreeCursor) (state : RunState) → Next m state.steps → Falls (weight m) (node_advance forest m n line what first other rest state)
node_falls forest m n line (kind.Text bytes) first other rest state h = moved_falls m rest state h
node_falls forest m n line (kind.Action pipe) first other rest state h = value_falls (weight m) (m.state.steps + 1) m.site line (evaluated m.site pipe state) _ (evaluated_grows m.site pipe state (m.state.steps + 1) h)
    (λ value steps k. moved_falls m rest (record { variables = state.variables; steps = steps }) k)
node_falls forest m n line (kind.Declare name pipe) first other rest state h = value_falls (weight m) (m.state.steps + 1) m.site line (evaluated m.site pipe state) _ (evaluated_grows m.site pipe state (m.state.steps + 1) h)
    (λ value steps k. moved_falls m rest (record { variables = (name, value) ∷ state.variables; steps = steps }) k)
node_falls forest m n line (kind.Assign name pipe) first other rest state h = value_falls (weight m) (m.state.steps + 1) m.site line (evaluated m.site pipe state) _ (evaluated_grows m.site pipe state (m.state.steps + 1) h)
    (λ value steps k. moved_falls m rest (record { variables = scope_assigned name value state.variables; steps = steps }) k)
node_falls forest m n line (kind.If name pipe) first other rest state h = value_falls (weight m) (m.state.steps + 1) m.site line (evaluated m.site pipe state) _ (evaluated_grows m.site pipe state (m.state.steps + 1) h)
    (λ value steps k. if_falls m (truth_of value) first other rest (record { variables = scope_declared name value state.variables; steps = steps }) k)
node_falls forest m n line (kind.With name pipe) first other rest state h = value_falls (weight m) (m.state.steps + 1) m.site line (evaluated m.site pipe state) _ (evaluated_grows m.site pipe state (m.state.steps + 1) h)
    (λ value steps k. with_falls m (truth_of value) value first other rest (record { variables = scope_declared name value state.variables; steps = steps }) k)
node_falls forest m n line (kind.Range index element pipe) first other rest state h = value_falls (weight m) (m.state.steps + 1) m.site line (evaluated m.site pipe state) _ (evaluated_grows m.site pipe state (m.state.steps + 1) h)
    (λ value steps k. range_falls m (record { line = line; index = index; element = element; first = first; left = [] }) (elements value) other rest (record { variables = state.variables; steps = steps }) k)
node_falls forest m n line kind.Break first other rest state h = broken_falls (weight m) (moved m nowhere state) m.frames h.1 (moved_falls m nowhere state h).0
node_falls forest m n line kind.Continue first other rest state h = continued_falls (weight m) (moved m nowhere state) m.frames h.1 (moved_falls m nowhere state h).0
node_falls forest m n line (kind.Template name pipe) first other rest state h = value_falls (weight m) (m.state.steps + 1) m.site line (argument m.site pipe state) _ (argument_grows m.site pipe state (m.state.steps + 1) h)
    (λ value steps k. call_falls forest m m.calls n line name value rest steps k)

-- a turn of a loop, or its end
turn_falls : (m : Machine) (dot : Data) (l : Loop) (left : List (Data × Data)) (rest : TreeCursor) (count : ℕ) (fs : List Frame) (w : ℕ) → m.state.steps ≤ max_steps → 2 * (max_steps - m.state.steps) + suc (length fs) ≤ w → Falls w (next_turn m dot l left rest count fs)
turn_falls m dot l [] rest count fs w b h = (omega (arith, h), b)
turn_falls m dot l (e ∷ es) rest count fs w b h = steps_fall w (m.state.steps + 1) (at_dot m.site dot) l.line (counted 1 m.state.steps) (λ steps. continues (turning m dot l e es rest count fs steps)) (counts 1 m.state.steps)
    (λ steps k. (omega (arith, h, lighter max_steps m.state.steps steps (suc (length fs)) (suc (length fs)) k.0 k.1 (omega arith)), k.1))

-- no node is next
ended_falls : (m : Machine) (fs : List Frame) (w : ℕ) → m.state.steps ≤ max_steps → 2 * (max_steps - m.state.steps) + length fs ≤ w → Falls w (machine_ended m fs)
ended_falls m [] w b h = b
ended_falls m (part dot rest count ∷ fs) w b h = (omega (arith, h), b)
ended_falls m (loop dot l rest count ∷ fs) w b h = turn_falls m dot l l.left rest count fs w b h
ended_falls m (call caller line rest variables ∷ fs) w b h = (omega (arith, h), b)

-- the nodes that are next
advanced_falls : (forest : ForestData) (m : Machine) (n : ℕ) (nodes : NodesData) → m.state.steps ≤ max_steps → Falls (weight m) (advanced forest m n nodes)
advanced_falls forest m n no_nodes b = ended_falls m m.frames (weight m) b (omega arith)
advanced_falls forest m n (node what line seams first other rest) b = steps_fall (weight m) (m.state.steps + 1) m.site line (counted 1 m.state.steps) _ (counts 1 m.state.steps)
    (λ steps k. node_falls forest m n line what (tree_cursor (n + 1) first) (tree_cursor (n + 1 + nodes_size first) other) (tree_cursor (n + 1 + nodes_size first + nodes_size other) rest) (record { variables = m.state.variables; steps = steps }) k)

-- the machine after one advance has less to do
pub shrinks : (forest : ForestData) (m : Machine) → m.state.steps ≤ max_steps → Shrinks (weight m) (machine_advance forest m)
shrinks forest m b = shrinks_of (weight m) (machine_advance forest m) (advanced_falls forest m m.at.number m.at.nodes b)

-- and no more steps than an execution may have
pub bounded : (forest : ForestData) (m : Machine) → m.state.steps ≤ max_steps → Bounded (machine_advance forest m)
bounded forest m b = bounded_of (weight m) (machine_advance forest m) (advanced_falls forest m m.at.number m.at.nodes b)

-- which it has none of at its start
pub started_bounded : (forest : ForestData) (more : ℕ) (root : List ℕ) (datum : Data) → (started forest more root datum).state.steps ≤ max_steps
started_bounded forest more root datum = omega arith
