-- What executing does is a path of the forest.
use Rattle.std.proofs.Common.{◌≡◌, ℕ, zero, suc, ◌+◌, List, [], ◌∷◌, ◌++◌, length, Bool, true, false, Option, Some, None, Result, Ok, Err, refl, sym, subst, inl, inr}
use Rattle.page_datum.specs.Data.{Data}
use Rattle.page_datum.specs.declared.fault.FaultKind.{FaultKind}
use Rattle.tpl_eval.specs.Evaluating.{Variables}
use Rattle.tpl_eval.specs.Functions.{Outcome, counted}
use Rattle.tpl_exec.specs.Meaning.{CallMeanings, argument, at_dot, calls_within, scope_declared, elements, call_entered, evaluated, max_calls, node_run, nodes_run, parted, ranged, returned, template_run, turn_variables, loop_turned, turns, with_steps, scope_with_value}
use Rattle.tpl_events.specs.Events.{gives_hole, gives_text}
use Rattle.tpl_events.specs.Events.{leaves as leaves_event}
use Rattle.tpl_exec.specs.Runs.{RunChoice, End, Run, Site, RunState, broken, choosing, continued, cut_end, cut_state, done, else_part, ends, faulted, emission, emitting, run_go_on, if_next, next, scoped, then_part, turn}
use Rattle.tpl_exec.specs.Meaning.{run_nodes_of_tree as nodes_executed}
use Rattle.tpl_tree.specs.Forests.{ForestData, tree_named}
use Rattle.tpl_tree.specs.Trees.{NodesData, TreeData, no_nodes, node, nodes_size}
use Rattle.tpl_tree.specs.declared.node_kind.NodeKind.{NodeKind}
use Rattle.tpl_tree.specs.declared.node_kind.NodeKind.TheVariants as kind
use Rattle.tpl_tree.specs.declared.pipe.Pipe.{Pipe}
use Rattle.tpl_value.specs.Truth.{truth_of}
use Rattle.tpl_paths.specs.Edges.{Edge, BodyPart, Point, Within, again, before, part_begins, edges_in, edges_of, finish_point, head, node_edges, nodes_in, path_nodes_of_tree, passes, past_point, picks, start_in, writes, fills, calls as calls_edge}
use Rattle.tpl_paths.specs.declared.choice.Way.{Way}
use Rattle.tpl_paths.specs.declared.choice.Way.TheVariants as chosen
use Rattle.page_path.specs.Taken.{Exits, IsTakenPath, Arrives, MeaningTakesPath, run_choice_of, exits}
use Rattle.tpl_paths.specs.Paths.{Open, Standing, along, back, enters_at, hole_of, open_standing, text_of, Sign}
use Rattle.page_path.proofs.Runs.{IsQuiet, walked_on, walked_to}
use Rattle.std.proofs.Common.{ap}

-- edges of a template
abbrev AreEdges : ForestData → List ℕ → List Edge → Type 0
AreEdges forest t es = (e : Edge) → Within e es → Within e (edges_in forest t)

within-left : (e : Edge) (xs ys : List Edge) → Within e xs → Within e (xs ++ ys)
within-left e (x ∷ xs) ys (inl h) = inl h
within-left e (x ∷ xs) ys (inr h) = inr (within-left e xs ys h)
within-left e [] ys h = absurd h

within-right : (e : Edge) (xs ys : List Edge) → Within e ys → Within e (xs ++ ys)
within-right e [] ys h = h
within-right e (x ∷ xs) ys h = inr (within-right e xs ys h)

-- runs of no event
walked_ends : (forest : ForestData) (a : Standing) (end : End) (x : Exits) → Arrives x end a → IsTakenPath forest a (ends end) x
walked_ends forest a end x h = record { moves = []; walk = tt; same_signs = refl; same_choices = refl; lands = h }

-- an edge first
walked_text : (forest : ForestData) (os : List Open) (t : List ℕ) (n : ℕ) (bytes : List ℕ) (to : Point) (at : Site) (line : ℕ) (run : Run) (x : Exits)
    → Within (writes n bytes to) (edges_in forest t) → IsTakenPath forest (open_standing os t to) run x → IsTakenPath forest (open_standing os t (before n)) (emitting (emission at line (gives_text n)) run) x
walked_text forest os t n bytes to at line run x e w = record {
  moves = along (writes n bytes to) ∷ w.moves;
  walk = ((e, refl), w.walk);
  same_signs = ap (λ (s : List Sign). text_of n ∷ s) w.same_signs;
  same_choices = w.same_choices;
  lands = w.lands;
}

walked_hole : (forest : ForestData) (os : List Open) (t : List ℕ) (n : ℕ) (pipe : Pipe) (value : Data) (to : Point) (at : Site) (line : ℕ) (run : Run) (x : Exits)
    → Within (fills n pipe to) (edges_in forest t) → IsTakenPath forest (open_standing os t to) run x → IsTakenPath forest (open_standing os t (before n)) (emitting (emission at line (gives_hole n value)) run) x
walked_hole forest os t n pipe value to at line run x e w = record {
  moves = along (fills n pipe to) ∷ w.moves;
  walk = ((e, refl), w.walk);
  same_signs = ap (λ (s : List Sign). hole_of n ∷ s) w.same_signs;
  same_choices = w.same_choices;
  lands = w.lands;
}

walked_choice : (forest : ForestData) (os : List Open) (t : List ℕ) (from to : Point) (choice : RunChoice) (run : Run) (x : Exits)
    → Within (picks from (run_choice_of choice) to) (edges_in forest t) → IsTakenPath forest (open_standing os t to) run x → IsTakenPath forest (open_standing os t from) (choosing choice run) x
walked_choice forest os t from to choice run x e w = record {
  moves = along (picks from (run_choice_of choice) to) ∷ w.moves;
  walk = ((e, refl), w.walk);
  same_signs = w.same_signs;
  same_choices = ap (λ (s : List Way). run_choice_of choice ∷ s) w.same_choices;
  lands = w.lands;
}

walked_pass : (forest : ForestData) (os : List Open) (t : List ℕ) (from to : Point) (run : Run) (x : Exits)
    → Within (passes from to) (edges_in forest t) → IsTakenPath forest (open_standing os t to) run x → IsTakenPath forest (open_standing os t from) run x
walked_pass forest os t from to run x e w = record {
  moves = along (passes from to) ∷ w.moves;
  walk = ((e, refl), w.walk);
  same_signs = w.same_signs;
  same_choices = w.same_choices;
  lands = w.lands;
}

-- faults that may come first
walked_value : (forest : ForestData) (a : Standing) (at : Site) (line : ℕ) (out : Outcome Data) (run : Data → ℕ → Run) (x : Exits)
    → ((value : Data) (steps : ℕ) → IsTakenPath forest a (run value steps) x) → IsTakenPath forest a (scope_with_value at line out run) x
walked_value forest a at line (Ok v) run x h = h v.0 v.1
walked_value forest a at line (Err kind) run x h = walked_ends forest a _ x tt

walked_steps : (forest : ForestData) (a : Standing) (at : Site) (line : ℕ) (found : Result ℕ FaultKind) (run : ℕ → Run) (x : Exits)
    → ((steps : ℕ) → IsTakenPath forest a (run steps) x) → IsTakenPath forest a (with_steps at line found run) x
walked_steps forest a at line (Ok steps) run x h = h steps
walked_steps forest a at line (Err kind) run x h = walked_ends forest a _ x tt

-- a part of a control, and what follows its end
lands_cut : (count : ℕ) (x : Exits) (end : End) (b : Standing) → Arrives x end b → Arrives x (cut_end count end) b
lands_cut count x (next state) b h = h
lands_cut count x (broken state) b h = h
lands_cut count x (continued state) b h = h
lands_cut count x (faulted why) b h = h

walked_scoped : (forest : ForestData) (a : Standing) (count : ℕ) (run : Run) (x : Exits) → IsTakenPath forest a run x → IsTakenPath forest a (scoped count run) x
walked_scoped forest a count run x w = record { moves = w.moves; walk = w.walk; same_signs = w.same_signs; same_choices = w.same_choices; lands = lands_cut count x run.end _ w.lands }

passes_on : (forest : ForestData) (os : List Open) (t : List ℕ) (from to out on : Point) → Within (passes from to) (edges_in forest t)
    → (end : End) (b : Standing) → Arrives (exits os t from out on) end b → IsQuiet forest b end (exits os t to out on)
passes_on forest os t from to out on e (next state) b h =
    subst (λ (c : Standing). IsQuiet forest c (next state) (exits os t to out on)) (sym h)
    (record { moves = along (passes from to) ∷ []; walk = ((e, refl), tt); same_signs = refl; same_choices = refl; lands = refl })
passes_on forest os t from to out on e (broken state) b h = record { moves = []; walk = tt; same_signs = refl; same_choices = refl; lands = h }
passes_on forest os t from to out on e (continued state) b h = record { moves = []; walk = tt; same_signs = refl; same_choices = refl; lands = h }
passes_on forest os t from to out on e (faulted why) b h = record { moves = []; walk = tt; same_signs = refl; same_choices = refl; lands = tt }

walked_past : (forest : ForestData) (a : Standing) (os : List Open) (t : List ℕ) (from to out on : Point) (run : Run) → Within (passes from to) (edges_in forest t)
    → IsTakenPath forest a run (exits os t from out on) → IsTakenPath forest a run (exits os t to out on)
walked_past forest a os t from to out on run e w = walked_to forest a run (exits os t from out on) (exits os t to out on) w (passes_on forest os t from to out on e run.end)

-- a part of a control, wherever it leads
abbrev PartWalks : ForestData → List Open → List ℕ → (Data → RunState → Run) → (Point → Point) → BodyPart → Type 0
PartWalks forest os t run begin edges = (to out on : Point) (dot : Data) (state : RunState) → AreEdges forest t (edges to out on)
    → IsTakenPath forest (open_standing os t (begin to)) (run dot state) (exits os t to out on)

parted_walks : (forest : ForestData) (os : List Open) (t : List ℕ) (n : ℕ) (b : Bool) (first other : RunState → Run) (one two : Point) (state : RunState) (x : Exits)
    → Within (picks (before n) chosen.Then one) (edges_in forest t) → Within (picks (before n) chosen.Else two) (edges_in forest t)
    → IsTakenPath forest (open_standing os t one) (first state) x → IsTakenPath forest (open_standing os t two) (other state) x
    → IsTakenPath forest (open_standing os t (before n)) (parted b first other state) x
parted_walks forest os t n true first other one two state x e f v w = walked_choice forest os t (before n) one then_part (first state) x e v
parted_walks forest os t n false first other one two state x e f v w = walked_choice forest os t (before n) two else_part (other state) x f w

-- the turns of a range
turned_walks : (forest : ForestData) (os : List Open) (t : List ℕ) (n : ℕ) (out on : Point) (count : ℕ) (others : RunState → Run)
    → ((state : RunState) → IsTakenPath forest (open_standing os t (again n)) (others state) (exits os t (past_point n) out on))
    → (end : End) (b : Standing) → Arrives (exits os t (again n) (past_point n) (again n)) end b → IsTakenPath forest b (loop_turned count others end) (exits os t (past_point n) out on)
turned_walks forest os t n out on count others k (next state) b h =
    subst (λ (c : Standing). IsTakenPath forest c (others (cut_state count state)) (exits os t (past_point n) out on)) (sym h) (k (cut_state count state))
turned_walks forest os t n out on count others k (continued state) b h =
    subst (λ (c : Standing). IsTakenPath forest c (others (cut_state count state)) (exits os t (past_point n) out on)) (sym h) (k (cut_state count state))
turned_walks forest os t n out on count others k (broken state) b h = walked_ends forest b (next (cut_state count state)) (exits os t (past_point n) out on) h
turned_walks forest os t n out on count others k (faulted why) b h = walked_ends forest b (faulted why) (exits os t (past_point n) out on) tt

turn_walks : (forest : ForestData) (os : List Open) (t : List ℕ) (n : ℕ) (from one out on : Point) (at : Site) (line count : ℕ) (part : Data × Data → RunState → Run) (e : Data × Data) (es : List (Data × Data)) (state : RunState)
    → Within (passes from (head n)) (edges_in forest t) → Within (picks (head n) chosen.Turn one) (edges_in forest t)
    → ((now : RunState) → IsTakenPath forest (open_standing os t one) (part e now) (exits os t (again n) (past_point n) (again n)))
    → ((now : RunState) → IsTakenPath forest (open_standing os t (again n)) (turns at line count part es now) (exits os t (past_point n) out on))
    → IsTakenPath forest (open_standing os t from) (turns at line count part (e ∷ es) state) (exits os t (past_point n) out on)
turn_walks forest os t n from one out on at line count part e es state way edge v k =
    walked_steps forest (open_standing os t from) at line (counted 1 state.steps) _ (exits os t (past_point n) out on) (λ steps.
    let now : RunState = record { variables = state.variables; steps = steps } in
    let run : Run = part e now in
    let others : RunState → Run = turns at line count part es in
    walked_pass forest os t from (head n) (choosing turn (run_go_on (loop_turned count others) run)) (exits os t (past_point n) out on) way
    (walked_choice forest os t (head n) one turn (run_go_on (loop_turned count others) run) (exits os t (past_point n) out on) edge
    (walked_on forest (open_standing os t one) run (loop_turned count others) (exits os t (again n) (past_point n) (again n)) (exits os t (past_point n) out on) (v now)
    (turned_walks forest os t n out on count others k run.end))))

turns_walk : (forest : ForestData) (os : List Open) (t : List ℕ) (n : ℕ) (one out on : Point) (at : Site) (line count : ℕ) (part : Data × Data → RunState → Run)
    → Within (passes (again n) (head n)) (edges_in forest t) → Within (picks (head n) chosen.Turn one) (edges_in forest t) → Within (picks (again n) chosen.Done (past_point n)) (edges_in forest t)
    → ((e : Data × Data) (now : RunState) → IsTakenPath forest (open_standing os t one) (part e now) (exits os t (again n) (past_point n) (again n)))
    → (es : List (Data × Data)) (state : RunState) → IsTakenPath forest (open_standing os t (again n)) (turns at line count part es state) (exits os t (past_point n) out on)
turns_walk forest os t n one out on at line count part w f g v [] state =
    walked_choice forest os t (again n) (past_point n) done (ends (next state)) (exits os t (past_point n) out on) g (walked_ends forest (open_standing os t (past_point n)) (next state) (exits os t (past_point n) out on) refl)
turns_walk forest os t n one out on at line count part w f g v (e ∷ es) state =
    turn_walks forest os t n (again n) one out on at line count part e es state w f (v e) (turns_walk forest os t n one out on at line count part w f g v es)

-- a range
ranged_walks : (forest : ForestData) (os : List Open) (t : List ℕ) (n : ℕ) (one two out on : Point) (at : Site) (line : ℕ) (part : Data × Data → RunState → Run) (other : RunState → Run)
    → Within (passes (before n) (head n)) (edges_in forest t) → Within (passes (again n) (head n)) (edges_in forest t) → Within (picks (head n) chosen.Turn one) (edges_in forest t)
    → Within (picks (before n) chosen.Done two) (edges_in forest t) → Within (picks (again n) chosen.Done (past_point n)) (edges_in forest t)
    → ((e : Data × Data) (now : RunState) → IsTakenPath forest (open_standing os t one) (part e now) (exits os t (again n) (past_point n) (again n)))
    → ((now : RunState) → IsTakenPath forest (open_standing os t two) (other now) (exits os t (past_point n) out on))
    → (found : Option (List (Data × Data))) (state : RunState) → IsTakenPath forest (open_standing os t (before n)) (ranged at line part other found state) (exits os t (past_point n) out on)
ranged_walks forest os t n one two out on at line part other a b g c d v w None state = walked_ends forest (open_standing os t (before n)) _ (exits os t (past_point n) out on) tt
ranged_walks forest os t n one two out on at line part other a b g c d v w (Some []) state =
    walked_choice forest os t (before n) two done (scoped (length state.variables) (other state)) (exits os t (past_point n) out on) c
    (walked_scoped forest (open_standing os t two) (length state.variables) (other state) (exits os t (past_point n) out on) (w state))
ranged_walks forest os t n one two out on at line part other a b g c d v w (Some (e ∷ es)) state =
    turn_walks forest os t n (before n) one out on at line (length state.variables) part e es state a g (v e)
    (turns_walk forest os t n one out on at line (length state.variables) part b g d v es)

-- calls
abbrev CallWalks : ForestData → List Open → List ℕ → Result Run FaultKind → Type 0
CallWalks forest os name (Ok run) = IsTakenPath forest (open_standing os name (start_in forest name)) run (exits os name finish_point finish_point finish_point)
CallWalks forest os name (Err kind) = Unit {0}

abbrev CallsWalk : ForestData → CallMeanings → Type 0
CallsWalk forest calls = (os : List Open) (name : List ℕ) (value : Data) (steps : ℕ) → CallWalks forest os name (calls name value steps)

leaving_walks : (forest : ForestData) (os : List Open) (o : Open) (name : List ℕ) (at : Site) (line : ℕ) (state : RunState) (b : Standing) (out on : Point)
    → b ≡ open_standing (o ∷ os) name finish_point → IsTakenPath forest b (emitting (emission at line leaves_event) (ends (next state))) (exits os o.template o.back out on)
leaving_walks forest os o name at line state b out on h =
    subst (λ (c : Standing). IsTakenPath forest c (emitting (emission at line leaves_event) (ends (next state))) (exits os o.template o.back out on)) (sym h)
    (record { moves = back ∷ []; walk = ((tt, refl), tt); same_signs = refl; same_choices = refl; lands = refl })

returned_walks : (forest : ForestData) (os : List Open) (o : Open) (name : List ℕ) (at : Site) (line : ℕ) (outer : Variables) (out on : Point)
    → (end : End) (b : Standing) → Arrives (exits (o ∷ os) name finish_point finish_point finish_point) end b → IsTakenPath forest b (returned at line outer end) (exits os o.template o.back out on)
returned_walks forest os o name at line outer out on (next state) b h = leaving_walks forest os o name at line (record { variables = outer; steps = state.steps }) b out on h
returned_walks forest os o name at line outer out on (broken state) b h = leaving_walks forest os o name at line (record { variables = outer; steps = state.steps }) b out on h
returned_walks forest os o name at line outer out on (continued state) b h = leaving_walks forest os o name at line (record { variables = outer; steps = state.steps }) b out on h
returned_walks forest os o name at line outer out on (faulted why) b h = walked_ends forest b (faulted why) (exits os o.template o.back out on) tt

entered_walks : (forest : ForestData) (os : List Open) (t name : List ℕ) (n : ℕ) (to out on : Point) (at : Site) (line : ℕ) (outer : Variables)
    → Within (calls_edge n name to) (edges_in forest t)
    → (found : Result Run FaultKind) → CallWalks forest (record { template = t; node = n; back = to } ∷ os) name found
    → IsTakenPath forest (open_standing os t (before n)) (call_entered at n line outer found) (exits os t to out on)
entered_walks forest os t name n to out on at line outer e (Ok run) w =
    let o : Open = record { template = t; node = n; back = to } in
    let v = walked_on forest (open_standing (o ∷ os) name (start_in forest name)) run (returned at line outer) (exits (o ∷ os) name finish_point finish_point finish_point) (exits os t to out on) w
    (returned_walks forest os o name at line outer out on run.end) in
    record {
      moves = along (calls_edge n name to) ∷ v.moves;
      walk = ((e, refl), v.walk);
      same_signs = ap (λ (s : List Sign). enters_at n ∷ s) v.same_signs;
      same_choices = v.same_choices;
      lands = v.lands;
    }
entered_walks forest os t name n to out on at line outer e (Err kind) w = walked_ends forest (open_standing os t (before n)) _ (exits os t to out on) tt

-- a node
node_walks : (forest : ForestData) (calls : CallMeanings) (os : List Open) (at : Site) (n line : ℕ) (one two : Point → Point) (first other : BodyPart) (first_run other_run : Data → RunState → Run) (to out on : Point)
    → CallsWalk forest calls → PartWalks forest os at.template first_run one first → PartWalks forest os at.template other_run two other
    → (what : NodeKind) → AreEdges forest at.template (node_edges what n one two first other to out on) → (state : RunState)
    → IsTakenPath forest (open_standing os at.template (before n)) (node_run calls at n line what first_run other_run state) (exits os at.template to out on)
node_walks forest calls os at n line one two first other fr or to out on cw fw ow (kind.Text bytes) es state =
    walked_text forest os at.template n bytes to at line (ends (next state)) (exits os at.template to out on) (es (writes n bytes to) (inl refl))
    (walked_ends forest (open_standing os at.template to) (next state) (exits os at.template to out on) refl)
node_walks forest calls os at n line one two first other fr or to out on cw fw ow (kind.Action pipe) es state =
    walked_value forest (open_standing os at.template (before n)) at line (evaluated at pipe state) _ (exits os at.template to out on) (λ value steps.
    let now : RunState = record { variables = state.variables; steps = steps } in
    walked_hole forest os at.template n pipe value to at line (ends (next now)) (exits os at.template to out on) (es (fills n pipe to) (inl refl))
    (walked_ends forest (open_standing os at.template to) (next now) (exits os at.template to out on) refl))
node_walks forest calls os at n line one two first other fr or to out on cw fw ow (kind.Declare name pipe) es state =
    walked_value forest (open_standing os at.template (before n)) at line (evaluated at pipe state) _ (exits os at.template to out on) (λ value steps.
    walked_pass forest os at.template (before n) to _ (exits os at.template to out on) (es (passes (before n) to) (inl refl))
    (walked_ends forest (open_standing os at.template to) _ (exits os at.template to out on) refl))
node_walks forest calls os at n line one two first other fr or to out on cw fw ow (kind.Assign name pipe) es state =
    walked_value forest (open_standing os at.template (before n)) at line (evaluated at pipe state) _ (exits os at.template to out on) (λ value steps.
    walked_pass forest os at.template (before n) to _ (exits os at.template to out on) (es (passes (before n) to) (inl refl))
    (walked_ends forest (open_standing os at.template to) _ (exits os at.template to out on) refl))
node_walks forest calls os at n line one two first other fr or to out on cw fw ow (kind.If name pipe) es state =
    walked_value forest (open_standing os at.template (before n)) at line (evaluated at pipe state) _ (exits os at.template to out on) (λ value steps.
    let now : RunState = record { variables = scope_declared name value state.variables; steps = steps } in
    walked_past forest (open_standing os at.template (before n)) os at.template (past_point n) to out on _ (es (passes (past_point n) to) (inr (inr (inl refl))))
    (walked_scoped forest (open_standing os at.template (before n)) (length state.variables) _ (exits os at.template (past_point n) out on)
    (parted_walks forest os at.template n (truth_of value) (fr at.dot) (or at.dot) (one (past_point n)) (two (past_point n)) now (exits os at.template (past_point n) out on)
    (es _ (inl refl)) (es _ (inr (inl refl)))
    (fw (past_point n) out on at.dot now (λ e h. es e (inr (inr (inr (within-left e (first (past_point n) out on) (other (past_point n) out on) h))))))
    (ow (past_point n) out on at.dot now (λ e h. es e (inr (inr (inr (within-right e (first (past_point n) out on) (other (past_point n) out on) h)))))))))
node_walks forest calls os at n line one two first other fr or to out on cw fw ow (kind.With name pipe) es state =
    walked_value forest (open_standing os at.template (before n)) at line (evaluated at pipe state) _ (exits os at.template to out on) (λ value steps.
    let now : RunState = record { variables = scope_declared name value state.variables; steps = steps } in
    walked_past forest (open_standing os at.template (before n)) os at.template (past_point n) to out on _ (es (passes (past_point n) to) (inr (inr (inl refl))))
    (walked_scoped forest (open_standing os at.template (before n)) (length state.variables) _ (exits os at.template (past_point n) out on)
    (parted_walks forest os at.template n (truth_of value) (fr value) (or at.dot) (one (past_point n)) (two (past_point n)) now (exits os at.template (past_point n) out on)
    (es _ (inl refl)) (es _ (inr (inl refl)))
    (fw (past_point n) out on value now (λ e h. es e (inr (inr (inr (within-left e (first (past_point n) out on) (other (past_point n) out on) h))))))
    (ow (past_point n) out on at.dot now (λ e h. es e (inr (inr (inr (within-right e (first (past_point n) out on) (other (past_point n) out on) h)))))))))
node_walks forest calls os at n line one two first other fr or to out on cw fw ow (kind.Range index element pipe) es state =
    let inside : List Edge = first (again n) (past_point n) (again n) in
    let beside : List Edge = other (past_point n) out on in
    let part : Data × Data → RunState → Run = λ e now. fr e.1 (record { variables = turn_variables index element e now.variables; steps = now.steps }) in
    walked_value forest (open_standing os at.template (before n)) at line (evaluated at pipe state) _ (exits os at.template to out on) (λ value steps.
    walked_past forest (open_standing os at.template (before n)) os at.template (past_point n) to out on _ (es (passes (past_point n) to) (inr (inr (inr (inr (inr (inl refl)))))))
    (ranged_walks forest os at.template n (one (again n)) (two (past_point n)) out on at line part (or at.dot)
    (es _ (inl refl)) (es _ (inr (inl refl))) (es _ (inr (inr (inl refl)))) (es _ (inr (inr (inr (inl refl))))) (es _ (inr (inr (inr (inr (inl refl))))))
    (λ e now. fw (again n) (past_point n) (again n) e.1 (record { variables = turn_variables index element e now.variables; steps = now.steps })
    (λ f h. es f (inr (inr (inr (inr (inr (inr (within-left f inside beside h)))))))))
    (λ now. ow (past_point n) out on at.dot now (λ f h. es f (inr (inr (inr (inr (inr (inr (within-right f inside beside h)))))))))
    (elements value) (record { variables = state.variables; steps = steps })))
node_walks forest calls os at n line one two first other fr or to out on cw fw ow kind.Break es state =
    walked_pass forest os at.template (before n) out (ends (broken state)) (exits os at.template to out on) (es (passes (before n) out) (inl refl))
    (walked_ends forest (open_standing os at.template out) (broken state) (exits os at.template to out on) refl)
node_walks forest calls os at n line one two first other fr or to out on cw fw ow kind.Continue es state =
    walked_pass forest os at.template (before n) on (ends (continued state)) (exits os at.template to out on) (es (passes (before n) on) (inl refl))
    (walked_ends forest (open_standing os at.template on) (continued state) (exits os at.template to out on) refl)
node_walks forest calls os at n line one two first other fr or to out on cw fw ow (kind.Template name pipe) es state =
    walked_value forest (open_standing os at.template (before n)) at line (argument at pipe state) _ (exits os at.template to out on) (λ value steps.
    entered_walks forest os at.template name n to out on at line state.variables (es (calls_edge n name to) (inl refl)) (calls name value steps)
    (cw (record { template = at.template; node = n; back = to } ∷ os) name value steps))

-- nodes after one another
next_walks : (forest : ForestData) (os : List Open) (t : List ℕ) (here : Point) (more : RunState → Run) (to out on : Point)
    → ((state : RunState) → IsTakenPath forest (open_standing os t here) (more state) (exits os t to out on))
    → (end : End) (b : Standing) → Arrives (exits os t here out on) end b → IsTakenPath forest b (if_next more end) (exits os t to out on)
next_walks forest os t here more to out on k (next state) b h = subst (λ (c : Standing). IsTakenPath forest c (more state) (exits os t to out on)) (sym h) (k state)
next_walks forest os t here more to out on k (broken state) b h = walked_ends forest b (broken state) (exits os t to out on) h
next_walks forest os t here more to out on k (continued state) b h = walked_ends forest b (continued state) (exits os t to out on) h
next_walks forest os t here more to out on k (faulted why) b h = walked_ends forest b (faulted why) (exits os t to out on) tt

nodes_walk : (forest : ForestData) (calls : CallMeanings) (os : List Open) → CallsWalk forest calls → (nodes : NodesData) (at : Site) (n : ℕ) (to out on : Point)
    → AreEdges forest at.template (edges_of nodes n to out on) → (state : RunState)
    → IsTakenPath forest (open_standing os at.template (part_begins nodes n to)) (nodes_run calls at n nodes state) (exits os at.template to out on)
nodes_walk forest calls os cw no_nodes at n to out on es state = walked_ends forest (open_standing os at.template to) (next state) (exits os at.template to out on) refl
nodes_walk forest calls os cw (node what line seams first other rest) at n to out on es state =
    let t : List ℕ = at.template in
    let second : ℕ = n + 1 + nodes_size first in
    let behind : ℕ = second + nodes_size other in
    let here : Point = part_begins rest behind to in
    let one : Point → Point = part_begins first (n + 1) in
    let two : Point → Point = part_begins other second in
    let inside : BodyPart = edges_of first (n + 1) in
    let beside : BodyPart = edges_of other second in
    let mine : List Edge = node_edges what n one two inside beside here out on in
    let later : List Edge = edges_of rest behind to out on in
    let fr : Data → RunState → Run = λ dot. nodes_run calls (at_dot at dot) (n + 1) first in
    let or : Data → RunState → Run = λ dot. nodes_run calls (at_dot at dot) second other in
    let run : Run = with_steps at line (counted 1 state.steps) (λ steps. node_run calls at n line what fr or (record { variables = state.variables; steps = steps })) in
    let more : RunState → Run = nodes_run calls at behind rest in
    walked_on forest (open_standing os t (before n)) run (if_next more) (exits os t here out on) (exits os t to out on)
    (walked_steps forest (open_standing os t (before n)) at line (counted 1 state.steps) _ (exits os t here out on) (λ steps.
    node_walks forest calls os at n line one two inside beside fr or here out on cw
    (λ to out on dot now. λ fs. nodes_walk forest calls os cw first (at_dot at dot) (n + 1) to out on fs now)
    (λ to out on dot now. λ fs. nodes_walk forest calls os cw other (at_dot at dot) second to out on fs now)
    what (λ e h. es e (within-left e mine later h)) (record { variables = state.variables; steps = steps })))
    (next_walks forest os t here more to out on (λ now. nodes_walk forest calls os cw rest at behind to out on (λ e h. es e (within-right e mine later h)) now) run.end)

same_nodes : (found : Option TreeData) → path_nodes_of_tree found ≡ nodes_executed found
same_nodes (Some tree) = refl
same_nodes None = refl

template_walks : (forest : ForestData) (calls : CallMeanings) (os : List Open) (name : List ℕ) (value : Data) (steps : ℕ) → CallsWalk forest calls
    → IsTakenPath forest (open_standing os name (start_in forest name)) (template_run calls forest name value steps) (exits os name finish_point finish_point finish_point)
template_walks forest calls os name value steps cw =
    subst (λ (nodes : NodesData). IsTakenPath forest (open_standing os name (start_in forest name)) (nodes_run calls (record { template = name; dot = value }) 0 nodes (record { variables = ([], value) ∷ []; steps = steps })) (exits os name finish_point finish_point finish_point))
    (same_nodes (tree_named name forest))
    (nodes_walk forest calls os cw (nodes_in forest name) (record { template = name; dot = value }) 0 finish_point finish_point finish_point (λ e h. h) (record { variables = ([], value) ∷ []; steps = steps }))

calls_walk : (forest : ForestData) (more : ℕ) → CallsWalk forest (calls_within forest more)
calls_walk forest zero os name value steps = tt
calls_walk forest (suc more) os name value steps = template_walks forest (calls_within forest more) os name value steps (calls_walk forest more)

pub meaning_takes_path : MeaningTakesPath
meaning_takes_path forest root datum = template_walks forest (calls_within forest max_calls) [] root datum 0 (calls_walk forest max_calls)
