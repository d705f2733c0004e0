-- What stands at an edge is the node of its number.
use Rattle.std.proofs.Common.{◌≡◌, ℕ, zero, suc, ◌-◌, ◌≤◌, false, nat_lt, List, [], ◌∷◌, Some, None, refl, sym, ap, ◌∙◌, subst, inl, inr, arith}
use Rattle.std.proofs.Common.{option_map}
use Rattle.std.proofs.lemmas.Bool.Decides.{nat_tests}
use Rattle.std.specs.Prelude.{slice_get}
use Rattle.place_core.specs.declared.place.Place.{Place}
use Rattle.tpl_paths.specs.EdgeViews.{edge_at}
use Rattle.tpl_paths.specs.Edges.{Edge, Within, calls, edges_of, fills, finish_point, path_nodes_of_tree, passes, picks, writes}
use Rattle.tpl_paths.specs.declared.edge.Edge.{Edge as ReadEdge}
use Rattle.tpl_tree.specs.Forests.{ForestData, tree_at}
use Rattle.tpl_paths.proofs.EdgeNodes.{IsNode, edge_node}
use Rattle.tpl_tree.specs.Trees.{NodesData, TreeData, head_kind, no_nodes, node, nodes_from, nodes_size}
use Rattle.tpl_tree.specs.declared.node_kind.NodeKind.{NodeKind}
use Rattle.tpl_tree.specs.declared.node_kind.NodeKind.TheVariants as kind
use Rattle.place_flow.specs.FlowViews.{IsNodeNumber}
use Rattle.place_flow.specs.Flows.{edges_at, nodes_at}
use Rattle.place_flow.specs.Transfer.{step_of}
use Rattle.place_flow.specs.declared.step.EdgeStep.{EdgeStep}

pub got-within : (es : List Edge) (n : ℕ) (e : Edge) → slice_get es n ≡ Some e → Within e es
got-within [] zero e h = cc
got-within [] (suc n) e h = cc
got-within (x ∷ es) zero e h = inl cc
got-within (x ∷ es) (suc n) e h = inr (got-within es n e h)

kind-here : (nodes : NodesData) (n : ℕ) (what : NodeKind) → IsNode nodes 0 n what → head_kind (nodes_from nodes n) ≡ Some what
kind-here nodes n what h =
    let same : n ≡ h.place = omega (arith, h.is_at) in
    ap (λ (i : ℕ). head_kind (nodes_from nodes i)) same ∙ h.is

pub node-at : (nodes : NodesData) (e : Edge) → Within e (edges_of nodes 0 finish_point finish_point finish_point) → IsNodeNumber nodes e
node-at nodes (writes n bytes to) w = kind-here nodes n (kind.Text bytes) (edge_node nodes 0 finish_point finish_point finish_point (writes n bytes to) w)
node-at nodes (fills n pipe to) w = tt
node-at nodes (calls n name to) w = (let h = edge_node nodes 0 finish_point finish_point finish_point (calls n name to) w in (h.0, kind-here nodes n (kind.Template name h.0) h.1))
node-at nodes (picks from choice to) w = tt
node-at nodes (passes from to) w = tt

-- there are no nodes past the last one
pub nodes-past : (nodes : NodesData) (n : ℕ) → nodes_size nodes ≤ n → nodes_from nodes n ≡ no_nodes
nodes-past no_nodes n l = refl
nodes-past (node k line s first other rest) zero l = absurd (omega (arith, l))
nodes-past (node k line s first other rest) (suc n) l =
    let past_first : nat_lt n (nodes_size first) ≡ false = grind (arith, nat_tests) in
    let past_other : nat_lt (n - nodes_size first) (nodes_size other) ≡ false = grind (arith, nat_tests) in
    rw (past_first, past_other) (nodes-past rest (n - nodes_size first - nodes_size other) (omega (arith, l)))

none-some : {A : Type 0} (x : A) → None ≡ Some x → ⊥
none-some x e = cc

pub none-past : (nodes : NodesData) (n : ℕ) (what : NodeKind) → nodes_size nodes ≤ n → head_kind (nodes_from nodes n) ≡ Some what → ⊥
none-past nodes n what l e = none-some what (subst (λ (m : NodesData). head_kind m ≡ Some what) (nodes-past nodes n l) e)

some-one : {A : Type 0} (x y : A) → Some x ≡ Some y → x ≡ y
some-one x y e = cc

-- a step along an edge of a template, from what is told of the tree and of the edge
pub along-edge : (flows forest : ForestData) (t n : ℕ) (place : Place) (tree : TreeData) (edge : ReadEdge) (r : EdgeStep) (e : Edge) → forest ≡ flows → Some tree ≡ tree_at forest t
    → Some edge ≡ option_map edge_at (slice_get (edges_at flows t) n)
    → ((u : ℕ) (d : Edge) → nodes_at forest u ≡ tree.nodes → edge_at d ≡ edge → IsNodeNumber tree.nodes d → r ≡ step_of forest u d place)
    → slice_get (edges_at flows t) n ≡ Some e → r ≡ step_of flows t e place
along-edge flows forest t n place tree edge r e same is found f at =
    subst (λ (x : ForestData). Some tree ≡ tree_at x t → ((u : ℕ) (d : Edge) → nodes_at x u ≡ tree.nodes → edge_at d ≡ edge → IsNodeNumber tree.nodes d → r ≡ step_of x u d place) → r ≡ step_of flows t e place)
    (sym same)
    (λ i g. (let nodes : nodes_at flows t ≡ tree.nodes = ap path_nodes_of_tree (sym i) in
    let w : Within e (edges_of (nodes_at flows t) 0 finish_point finish_point finish_point) = got-within (edges_at flows t) n e at in
    g t e nodes (sym (some-one edge (edge_at e) (found ∙ ap (option_map edge_at) at))) (node-at tree.nodes e (subst (λ (m : NodesData). Within e (edges_of m 0 finish_point finish_point finish_point)) nodes w))))
    is f
