-- The node of an edge has the edge's number and kind.
use Rattle.std.proofs.Common.{◌≡◌, ℕ, suc, ◌+◌, ◌-◌, ◌<◌, true, false, nat_lt, List, [], ◌∷◌, ◌++◌, Option, Some, refl, sym, ap, ◌∙◌, subst, inl, inr, arith}
use Rattle.std.proofs.lemmas.Bool.Decides.{nat_tests}
use Rattle.tpl_symbol.specs.declared.symbol.Seam.{Seam}
use Rattle.tpl_tree.specs.Forests.{ForestData}
use Rattle.tpl_tree.specs.Trees.{NodesData, head_kind, no_nodes, node, nodes_from, nodes_size}
use Rattle.tpl_tree.specs.declared.node_kind.NodeKind.{NodeKind}
use Rattle.tpl_tree.specs.declared.node_kind.NodeKind.TheVariants as kind
use Rattle.tpl_tree.specs.declared.pipe.Pipe.{Pipe}
use Rattle.tpl_paths.specs.Laws.{EdgesHaveNodes}
use Rattle.tpl_paths.specs.Edges.{Edge, BodyPart, Point, Within, again, part_begins, calls, edges_in, edges_of, fills, finish_point, node_kind_at, node_edges, nodes_in, passes, past_point, picks, writes}

pub record IsNode (nodes : NodesData) (k n : ℕ) (what : NodeKind) : Type 0 where
  pub place : ℕ
  pub is_at : n ≡ k + place
  pub inside : place < nodes_size nodes
  pub is : head_kind (nodes_from nodes place) ≡ Some what

abbrev pub EdgeNode : NodesData → ℕ → Edge → Type 0
EdgeNode nodes k (writes n bytes to) = IsNode nodes k n (kind.Text bytes)
EdgeNode nodes k (fills n pipe to) = IsNode nodes k n (kind.Action pipe)
EdgeNode nodes k (calls n name to) = (pipe : Option Pipe) × IsNode nodes k n (kind.Template name pipe)
EdgeNode nodes k (picks from choice to) = Unit {0}
EdgeNode nodes k (passes from to) = Unit {0}

in_first : (w : NodeKind) (l : ℕ) (s : List Seam) (first other rest : NodesData) (k n : ℕ) (what : NodeKind) → IsNode first (k + 1) n what → IsNode (node w l s first other rest) k n what
in_first w l s first other rest k n what h =
    let i = h.place in let below = h.inside in
    let test : nat_lt i (nodes_size first) ≡ true = grind (arith, nat_tests, below) in
    record { place = suc i; is_at = omega (arith, h.is_at); inside = omega (arith, below); is = rw test h.is }

in_other : (w : NodeKind) (l : ℕ) (s : List Seam) (first other rest : NodesData) (k n : ℕ) (what : NodeKind) → IsNode other (k + 1 + nodes_size first) n what → IsNode (node w l s first other rest) k n what
in_other w l s first other rest k n what h =
    let i = h.place in let below = h.inside in
    let test : nat_lt (nodes_size first + i) (nodes_size first) ≡ false = grind (arith, nat_tests) in
    let here : nodes_size first + i - nodes_size first ≡ i = omega arith in
    let next : nat_lt i (nodes_size other) ≡ true = grind (arith, nat_tests, below) in
    record { place = suc (nodes_size first + i); is_at = omega (arith, h.is_at); inside = omega (arith, below); is = rw (test, here, next) h.is }

in_rest : (w : NodeKind) (l : ℕ) (s : List Seam) (first other rest : NodesData) (k n : ℕ) (what : NodeKind) → IsNode rest (k + 1 + nodes_size first + nodes_size other) n what → IsNode (node w l s first other rest) k n what
in_rest w l s first other rest k n what h =
    let i = h.place in let below = h.inside in
    let j : ℕ = nodes_size first + (nodes_size other + i) in
    let test : nat_lt (nodes_size first + (nodes_size other + i)) (nodes_size first) ≡ false = grind (arith, nat_tests) in
    let here : nodes_size first + (nodes_size other + i) - nodes_size first ≡ nodes_size other + i = omega arith in
    let next : nat_lt (nodes_size other + i) (nodes_size other) ≡ false = grind (arith, nat_tests) in
    let there : nodes_size other + i - nodes_size other ≡ i = omega arith in
    record { place = suc j; is_at = omega (arith, h.is_at); inside = omega (arith, below); is = rw (test, here, next, there) h.is }

-- the same for edges
lifts : (a b : NodesData) (k j : ℕ) → ((n : ℕ) (what : NodeKind) → IsNode a k n what → IsNode b j n what) → (e : Edge) → EdgeNode a k e → EdgeNode b j e
lifts a b k j f (writes n bytes to) h = f n (kind.Text bytes) h
lifts a b k j f (fills n pipe to) h = f n (kind.Action pipe) h
lifts a b k j f (calls n name to) h = (h.0, f n (kind.Template name h.0) h.1)
lifts a b k j f (picks from choice to) h = tt
lifts a b k j f (passes from to) h = tt

pub within-either : (P : Edge → Type 0) (xs ys : List Edge) → ((e : Edge) → Within e xs → P e) → ((e : Edge) → Within e ys → P e) → (e : Edge) → Within e (xs ++ ys) → P e
within-either P [] ys f g e h = g e h
within-either P (x ∷ xs) ys f g e (inl h) = f e (inl h)
within-either P (x ∷ xs) ys f g e (inr h) = within-either P xs ys (λ e w. f e (inr w)) g e h

head_is : (what : NodeKind) (l : ℕ) (s : List Seam) (first other rest : NodesData) (k : ℕ) → IsNode (node what l s first other rest) k k what
head_is what l s first other rest k = record { place = 0; is_at = omega arith; inside = omega arith; is = refl }

-- each edge of a node is the node's own, or one of its parts
own : (whole : NodesData) (k : ℕ) (one two : Point → Point) (first other : BodyPart) (to out on : Point) (what : NodeKind) → IsNode whole k k what
    → ((a b c : Point) (e : Edge) → Within e (first a b c) → EdgeNode whole k e) → ((a b c : Point) (e : Edge) → Within e (other a b c) → EdgeNode whole k e)
    → (e : Edge) → Within e (node_edges what k one two first other to out on) → EdgeNode whole k e
own whole k one two first other to out on (kind.Text bytes) h f g e (inl i) = subst (EdgeNode whole k) (sym i) h
own whole k one two first other to out on (kind.Text bytes) h f g e (inr v) = absurd v
own whole k one two first other to out on (kind.Action pipe) h f g e (inl i) = subst (EdgeNode whole k) (sym i) h
own whole k one two first other to out on (kind.Action pipe) h f g e (inr v) = absurd v
own whole k one two first other to out on (kind.Declare name pipe) h f g e (inl i) = subst (EdgeNode whole k) (sym i) tt
own whole k one two first other to out on (kind.Declare name pipe) h f g e (inr v) = absurd v
own whole k one two first other to out on (kind.Assign name pipe) h f g e (inl i) = subst (EdgeNode whole k) (sym i) tt
own whole k one two first other to out on (kind.Assign name pipe) h f g e (inr v) = absurd v
own whole k one two first other to out on (kind.If name pipe) h f g e (inl i) = subst (EdgeNode whole k) (sym i) tt
own whole k one two first other to out on (kind.If name pipe) h f g e (inr (inl i)) = subst (EdgeNode whole k) (sym i) tt
own whole k one two first other to out on (kind.If name pipe) h f g e (inr (inr (inl i))) = subst (EdgeNode whole k) (sym i) tt
own whole k one two first other to out on (kind.If name pipe) h f g e (inr (inr (inr v))) = within-either (EdgeNode whole k) (first (past_point k) out on) (other (past_point k) out on) (f (past_point k) out on) (g (past_point k) out on) e v
own whole k one two first other to out on (kind.With name pipe) h f g e (inl i) = subst (EdgeNode whole k) (sym i) tt
own whole k one two first other to out on (kind.With name pipe) h f g e (inr (inl i)) = subst (EdgeNode whole k) (sym i) tt
own whole k one two first other to out on (kind.With name pipe) h f g e (inr (inr (inl i))) = subst (EdgeNode whole k) (sym i) tt
own whole k one two first other to out on (kind.With name pipe) h f g e (inr (inr (inr v))) = within-either (EdgeNode whole k) (first (past_point k) out on) (other (past_point k) out on) (f (past_point k) out on) (g (past_point k) out on) e v
own whole k one two first other to out on (kind.Range index element pipe) h f g e (inl i) = subst (EdgeNode whole k) (sym i) tt
own whole k one two first other to out on (kind.Range index element pipe) h f g e (inr (inl i)) = subst (EdgeNode whole k) (sym i) tt
own whole k one two first other to out on (kind.Range index element pipe) h f g e (inr (inr (inl i))) = subst (EdgeNode whole k) (sym i) tt
own whole k one two first other to out on (kind.Range index element pipe) h f g e (inr (inr (inr (inl i)))) = subst (EdgeNode whole k) (sym i) tt
own whole k one two first other to out on (kind.Range index element pipe) h f g e (inr (inr (inr (inr (inl i))))) = subst (EdgeNode whole k) (sym i) tt
own whole k one two first other to out on (kind.Range index element pipe) h f g e (inr (inr (inr (inr (inr (inl i)))))) = subst (EdgeNode whole k) (sym i) tt
own whole k one two first other to out on (kind.Range index element pipe) h f g e (inr (inr (inr (inr (inr (inr v)))))) = within-either (EdgeNode whole k) (first (again k) (past_point k) (again k)) (other (past_point k) out on) (f (again k) (past_point k) (again k)) (g (past_point k) out on) e v
own whole k one two first other to out on kind.Break h f g e (inl i) = subst (EdgeNode whole k) (sym i) tt
own whole k one two first other to out on kind.Break h f g e (inr v) = absurd v
own whole k one two first other to out on kind.Continue h f g e (inl i) = subst (EdgeNode whole k) (sym i) tt
own whole k one two first other to out on kind.Continue h f g e (inr v) = absurd v
own whole k one two first other to out on (kind.Template name pipe) h f g e (inl i) = subst (EdgeNode whole k) (sym i) (pipe, h)
own whole k one two first other to out on (kind.Template name pipe) h f g e (inr v) = absurd v

pub edge_node : (nodes : NodesData) (k : ℕ) (to out on : Point) (e : Edge) → Within e (edges_of nodes k to out on) → EdgeNode nodes k e
edge_node no_nodes k to out on e w = absurd w
edge_node (node what l s first other rest) k to out on e w =
    let whole : NodesData = node what l s first other rest in
    let second : ℕ = k + 1 + nodes_size first in
    let behind : ℕ = second + nodes_size other in
    within-either (EdgeNode whole k)
    (node_edges what k (part_begins first (k + 1)) (part_begins other second) (edges_of first (k + 1)) (edges_of other second) (part_begins rest behind to) out on) (edges_of rest behind to out on)
    (own whole k (part_begins first (k + 1)) (part_begins other second) (edges_of first (k + 1)) (edges_of other second) (part_begins rest behind to) out on what (head_is what l s first other rest k)
    (λ a b c f v. lifts first whole (k + 1) k (in_first what l s first other rest k) f (edge_node first (k + 1) a b c f v))
    (λ a b c f v. lifts other whole second k (in_other what l s first other rest k) f (edge_node other second a b c f v)))
    (λ f v. lifts rest whole behind k (in_rest what l s first other rest k) f (edge_node rest behind to out on f v)) e w

-- what the node of an edge is, by its number in the template
kind_is : (forest : ForestData) (t : List ℕ) (n : ℕ) (what : NodeKind) → IsNode (nodes_in forest t) 0 n what → node_kind_at forest t n ≡ Some what
kind_is forest t n what h =
    let same : n ≡ h.place = omega (arith, h.is_at) in
    ap (λ (i : ℕ). head_kind (nodes_from (nodes_in forest t) i)) same ∙ h.is

pub text_stands : (forest : ForestData) (t : List ℕ) (n : ℕ) (bytes : List ℕ) (to : Point) → Within (writes n bytes to) (edges_in forest t) → node_kind_at forest t n ≡ Some (kind.Text bytes)
text_stands forest t n bytes to w = kind_is forest t n (kind.Text bytes) (edge_node (nodes_in forest t) 0 finish_point finish_point finish_point (writes n bytes to) w)

pub hole_stands : (forest : ForestData) (t : List ℕ) (n : ℕ) (pipe : Pipe) (to : Point) → Within (fills n pipe to) (edges_in forest t) → node_kind_at forest t n ≡ Some (kind.Action pipe)
hole_stands forest t n pipe to w = kind_is forest t n (kind.Action pipe) (edge_node (nodes_in forest t) 0 finish_point finish_point finish_point (fills n pipe to) w)

pub call_stands : (forest : ForestData) (t : List ℕ) (n : ℕ) (name : List ℕ) (to : Point) → Within (calls n name to) (edges_in forest t) → (pipe : Option Pipe) × (node_kind_at forest t n ≡ Some (kind.Template name pipe))
call_stands forest t n name to w =
    let h = edge_node (nodes_in forest t) 0 finish_point finish_point finish_point (calls n name to) w in
    (h.0, kind_is forest t n (kind.Template name h.0) h.1)

pub edges-have-nodes : EdgesHaveNodes
edges-have-nodes forest t (writes n bytes to) w = text_stands forest t n bytes to w
edges-have-nodes forest t (fills n pipe to) w = hole_stands forest t n pipe to w
edges-have-nodes forest t (calls n name to) w = call_stands forest t n name to w
edges-have-nodes forest t (picks from choice to) w = tt
edges-have-nodes forest t (passes from to) w = tt
