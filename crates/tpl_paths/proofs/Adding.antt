-- The edges of a tree by the numbers of its nodes.
use Rattle.std.proofs.Common.{◌≡◌, ℕ, ◌+◌, ◌<◌, List, ◌∷◌, ◌++◌, Option, Some, None, Result, Ok, Err, IfSome, OnOk, refl, sym, ap, ◌∙◌, subst, arith, append_assoc}
use Rattle.std.proofs.lemmas.List.{map-append}
use Rattle.tpl_tree.proofs.Numbers.{child_stands, next_stands, nodes_from-some}
use Rattle.tpl_tree.specs.Trees.{NodesData, no_nodes, node, nodes_size, nodes_from, tree_part, rest_of, node_number, child_number, next_number, head_kind, NodeStands}
use Rattle.tpl_tree.specs.declared.node_kind.NodeKind.{NodeKind}
use Rattle.tpl_tree.specs.declared.node_kind.NodeKind.TheVariants as kind
use Rattle.tpl_tree.specs.declared.pipe.Pipe.{Pipe}
use Rattle.tpl_paths.specs.EdgeViews.{edge_at, read_edges, begin_at, control_edges, edges_view_at, nodes_view_at, own_edges, range_edges}
use Rattle.tpl_paths.specs.Edges.{Edge, Point, again, before, part_begins, edges_of, head, passes, past_point, picks}
use Rattle.tpl_paths.specs.declared.choice.Way.TheVariants as chosen
use Rattle.tpl_paths.specs.declared.edge.Edge.{Edge as ReadEdge}

pub part_found : (nodes found : NodesData) (n : ℕ) (number : Option ℕ) → number ≡ node_number found n → NodeStands nodes found number → nodes_view_at nodes number ≡ found
part_found nodes no_nodes n None is stands = refl
part_found nodes no_nodes n (Some m) is stands = cc
part_found nodes (node k l s first other rest) n None is stands = cc
part_found nodes (node k l s first other rest) n (Some m) is stands = stands.1

pub inside : (nodes found : NodesData) (number : Option ℕ) → NodeStands nodes found number → IfSome number (λ n. n < nodes_size nodes)
inside nodes found None stands = stands
inside nodes found (Some n) stands = stands.0

sizes : (nodes : NodesData) → 0 < nodes_size nodes → nodes_size nodes ≡ 1 + nodes_size (tree_part 0 nodes) + nodes_size (tree_part 1 nodes) + nodes_size (rest_of nodes)
sizes no_nodes some = absurd (omega arith)
sizes (node k l s first other rest) some = omega arith

pub next_smaller : (nodes : NodesData) (n : ℕ) (number : Option ℕ) → n < nodes_size nodes → number ≡ next_number nodes n → NodeStands nodes (rest_of (nodes_from nodes n)) number → nodes_size (nodes_view_at nodes number) < nodes_size (nodes_from nodes n)
next_smaller nodes n number some is stands =
    omega (arith, sizes (nodes_from nodes n) (nodes_from-some nodes n some), ap nodes_size (part_found nodes (rest_of (nodes_from nodes n)) _ number is stands))

pub first_smaller : (nodes : NodesData) (n : ℕ) (number : Option ℕ) → n < nodes_size nodes → number ≡ child_number nodes n 0 → NodeStands nodes (tree_part 0 (nodes_from nodes n)) number → nodes_size (nodes_view_at nodes number) < nodes_size (nodes_from nodes n)
first_smaller nodes n number some is stands =
    omega (arith, sizes (nodes_from nodes n) (nodes_from-some nodes n some), ap nodes_size (part_found nodes (tree_part 0 (nodes_from nodes n)) _ number is stands))

pub other_smaller : (nodes : NodesData) (n : ℕ) (number : Option ℕ) → n < nodes_size nodes → number ≡ child_number nodes n 1 → NodeStands nodes (tree_part 1 (nodes_from nodes n)) number → nodes_size (nodes_view_at nodes number) < nodes_size (nodes_from nodes n)
other_smaller nodes n number some is stands =
    omega (arith, sizes (nodes_from nodes n) (nodes_from-some nodes n some), ap nodes_size (part_found nodes (tree_part 1 (nodes_from nodes n)) _ number is stands))

-- where nodes begin, and their edges, by their number
begins_at : (v : NodesData) (m : ℕ) (to : Point) → part_begins v m to ≡ begin_at (node_number v m) to
begins_at no_nodes m to = refl
begins_at (node k l s first other rest) m to = refl

edges_there : (nodes v : NodesData) (m : ℕ) (to out on : Point) → NodeStands nodes v (node_number v m) → edges_of v m to out on ≡ edges_view_at nodes (node_number v m) to out on
edges_there nodes no_nodes m to out on h = refl
edges_there nodes (node k l s first other rest) m to out on h = ap (λ (w : NodesData). edges_of w m to out on) (sym h.1)

abbrev some_or : NodeKind → Option NodeKind → NodeKind
some_or d None = d
some_or d (Some k) = k

-- the edges of a control
first_stands : (nodes : NodesData) (n : ℕ) → n < nodes_size nodes → NodeStands nodes (tree_part 0 (nodes_from nodes n)) (child_number nodes n 0)
first_stands nodes n lt = child_stands nodes n 0 (child_number nodes n 0) lt refl

other_stands : (nodes : NodesData) (n : ℕ) → n < nodes_size nodes → NodeStands nodes (tree_part 1 (nodes_from nodes n)) (child_number nodes n 1)
other_stands nodes n lt = child_stands nodes n 1 (child_number nodes n 1) lt refl

-- the edges of a control whose nodes are these
abbrev control_at : NodesData → NodesData → ℕ → Point → Point → Point → List Edge
control_at nodes w n to out on =
    picks (before n) chosen.Then (begin_at (node_number (tree_part 0 w) (n + 1)) (past_point n)) ∷ picks (before n) chosen.Else (begin_at (node_number (tree_part 1 w) (n + 1 + nodes_size (tree_part 0 w))) (past_point n)) ∷ passes (past_point n) to
    ∷ (edges_view_at nodes (node_number (tree_part 0 w) (n + 1)) (past_point n) out on ++ edges_view_at nodes (node_number (tree_part 1 w) (n + 1 + nodes_size (tree_part 0 w))) (past_point n) out on)

abbrev range_at : NodesData → NodesData → ℕ → Point → Point → Point → List Edge
range_at nodes w n to out on =
    let one : Option ℕ = node_number (tree_part 0 w) (n + 1) in
    let two : Option ℕ = node_number (tree_part 1 w) (n + 1 + nodes_size (tree_part 0 w)) in
    passes (before n) (head n) ∷ passes (again n) (head n) ∷ picks (head n) chosen.Turn (begin_at one (again n))
    ∷ picks (before n) chosen.Done (begin_at two (past_point n)) ∷ picks (again n) chosen.Done (past_point n) ∷ passes (past_point n) to
    ∷ (edges_view_at nodes one (again n) (past_point n) (again n) ++ edges_view_at nodes two (past_point n) out on)

abbrev at_first : NodesData → ℕ → Option ℕ
at_first w n = node_number (tree_part 0 w) (n + 1)

abbrev at_other : NodesData → ℕ → Option ℕ
at_other w n = node_number (tree_part 1 w) (n + 1 + nodes_size (tree_part 0 w))

-- the same two edges by numbers and by nodes
own_if : (nodes w : NodesData) (n : ℕ) (to out on : Point) (k : NodeKind) (name : Option (List ℕ)) (pipe : Pipe) → Some k ≡ head_kind w → k ≡ kind.If name pipe
    → NodeStands nodes (tree_part 0 w) (at_first w n) → NodeStands nodes (tree_part 1 w) (at_other w n) → own_edges w n to out on ≡ control_at nodes w n to out on
own_if nodes no_nodes n to out on k name pipe is e f g = cc
own_if nodes (node what l s first other rest) n to out on k name pipe is e f g =
    let same : what ≡ kind.If name pipe = sym (ap (some_or k) is) ∙ e in
    subst (λ (x : NodeKind). own_edges (node x l s first other rest) n to out on ≡ control_at nodes (node x l s first other rest) n to out on) (sym same)
    (rw (begins_at first (n + 1) (past_point n), begins_at other (n + 1 + nodes_size first) (past_point n), edges_there nodes first (n + 1) (past_point n) out on f, edges_there nodes other (n + 1 + nodes_size first) (past_point n) out on g) refl)

own_with : (nodes w : NodesData) (n : ℕ) (to out on : Point) (k : NodeKind) (name : Option (List ℕ)) (pipe : Pipe) → Some k ≡ head_kind w → k ≡ kind.With name pipe
    → NodeStands nodes (tree_part 0 w) (at_first w n) → NodeStands nodes (tree_part 1 w) (at_other w n) → own_edges w n to out on ≡ control_at nodes w n to out on
own_with nodes no_nodes n to out on k name pipe is e f g = cc
own_with nodes (node what l s first other rest) n to out on k name pipe is e f g =
    let same : what ≡ kind.With name pipe = sym (ap (some_or k) is) ∙ e in
    subst (λ (x : NodeKind). own_edges (node x l s first other rest) n to out on ≡ control_at nodes (node x l s first other rest) n to out on) (sym same)
    (rw (begins_at first (n + 1) (past_point n), begins_at other (n + 1 + nodes_size first) (past_point n), edges_there nodes first (n + 1) (past_point n) out on f, edges_there nodes other (n + 1 + nodes_size first) (past_point n) out on g) refl)

own_range : (nodes w : NodesData) (n : ℕ) (to out on : Point) (k : NodeKind) (index element : Option (List ℕ)) (pipe : Pipe) → Some k ≡ head_kind w → k ≡ kind.Range index element pipe
    → NodeStands nodes (tree_part 0 w) (at_first w n) → NodeStands nodes (tree_part 1 w) (at_other w n) → own_edges w n to out on ≡ range_at nodes w n to out on
own_range nodes no_nodes n to out on k index element pipe is e f g = cc
own_range nodes (node what l s first other rest) n to out on k index element pipe is e f g =
    let same : what ≡ kind.Range index element pipe = sym (ap (some_or k) is) ∙ e in
    subst (λ (x : NodeKind). own_edges (node x l s first other rest) n to out on ≡ range_at nodes (node x l s first other rest) n to out on) (sym same)
    (rw (begins_at first (n + 1) (again n), begins_at other (n + 1 + nodes_size first) (past_point n), edges_there nodes first (n + 1) (again n) (past_point n) (again n) f, edges_there nodes other (n + 1 + nodes_size first) (past_point n) out on g) refl)

on_ok : {T E A B : Type 0} (r : Result T E) → OnOk r A → (A → B) → OnOk r B
on_ok (Ok x) h f = f h
on_ok (Err e) h f = h

pub if_added : {E : Type 0} (r : Result (Unit {0}) E) (nodes : NodesData) (n : ℕ) (to out on : Point) (k : NodeKind) (name : Option (List ℕ)) (pipe : Pipe) (old new : List ReadEdge) → n < nodes_size nodes → Some k ≡ head_kind (nodes_from nodes n) → k ≡ kind.If name pipe
    → OnOk r (new ≡ old ++ read_edges (control_edges nodes n to out on)) → OnOk r (new ≡ old ++ read_edges (own_edges (nodes_from nodes n) n to out on))
if_added r nodes n to out on k name pipe old new lt is e h =
    on_ok r h (λ i. i ∙ ap (λ (es : List Edge). old ++ read_edges es) (sym (own_if nodes (nodes_from nodes n) n to out on k name pipe is e (first_stands nodes n lt) (other_stands nodes n lt))))

pub with_added : {E : Type 0} (r : Result (Unit {0}) E) (nodes : NodesData) (n : ℕ) (to out on : Point) (k : NodeKind) (name : Option (List ℕ)) (pipe : Pipe) (old new : List ReadEdge) → n < nodes_size nodes → Some k ≡ head_kind (nodes_from nodes n) → k ≡ kind.With name pipe
    → OnOk r (new ≡ old ++ read_edges (control_edges nodes n to out on)) → OnOk r (new ≡ old ++ read_edges (own_edges (nodes_from nodes n) n to out on))
with_added r nodes n to out on k name pipe old new lt is e h =
    on_ok r h (λ i. i ∙ ap (λ (es : List Edge). old ++ read_edges es) (sym (own_with nodes (nodes_from nodes n) n to out on k name pipe is e (first_stands nodes n lt) (other_stands nodes n lt))))

pub range_added : {E : Type 0} (r : Result (Unit {0}) E) (nodes : NodesData) (n : ℕ) (to out on : Point) (k : NodeKind) (index element : Option (List ℕ)) (pipe : Pipe) (old new : List ReadEdge) → n < nodes_size nodes → Some k ≡ head_kind (nodes_from nodes n) → k ≡ kind.Range index element pipe
    → OnOk r (new ≡ old ++ read_edges (range_edges nodes n to out on)) → OnOk r (new ≡ old ++ read_edges (own_edges (nodes_from nodes n) n to out on))
range_added r nodes n to out on k index element pipe old new lt is e h =
    on_ok r h (λ i. i ∙ ap (λ (es : List Edge). old ++ read_edges es) (sym (own_range nodes (nodes_from nodes n) n to out on k index element pipe is e (first_stands nodes n lt) (other_stands nodes n lt))))

-- the edges of nodes are those of the first and those of the rest
parted : (nodes w : NodesData) (n : ℕ) (to out on : Point) → 0 < nodes_size w → NodeStands nodes (rest_of w) (node_number (rest_of w) (n + 1 + nodes_size (tree_part 0 w) + nodes_size (tree_part 1 w)))
    → let next : Option ℕ = node_number (rest_of w) (n + 1 + nodes_size (tree_part 0 w) + nodes_size (tree_part 1 w)) in
    edges_of w n to out on ≡ own_edges w n (begin_at next to) out on ++ edges_view_at nodes next to out on
parted nodes no_nodes n to out on some h = absurd (omega arith)
parted nodes (node k l s first other rest) n to out on some h =
    rw (← begins_at rest (n + 1 + nodes_size first + nodes_size other) to, ← edges_there nodes rest (n + 1 + nodes_size first + nodes_size other) to out on h) refl

read_edges-append : (xs ys : List Edge) → read_edges (xs ++ ys) ≡ read_edges xs ++ read_edges ys
read_edges-append xs ys = map-append edge_at xs ys

pub one_more : (nodes : NodesData) (n : ℕ) (next : Option ℕ) (to out on : Point) (old now whole : List ReadEdge) → n < nodes_size nodes → next ≡ next_number nodes n
    → now ≡ old ++ read_edges (own_edges (nodes_from nodes n) n (begin_at next to) out on) → old ++ read_edges (edges_of (nodes_from nodes n) n to out on) ≡ whole
    → now ++ read_edges (edges_view_at nodes next to out on) ≡ whole
one_more nodes n next to out on old now whole lt is e h =
    let w : NodesData = nodes_from nodes n in
    let own : List Edge = own_edges w n (begin_at next to) out on in
    let others : List Edge = edges_view_at nodes next to out on in
    let two : edges_of w n to out on ≡ own ++ others =
    rw is (parted nodes w n to out on (nodes_from-some nodes n lt) (next_stands nodes n (next_number nodes n) lt refl)) in
    ap (λ (xs : List ReadEdge). xs ++ read_edges others) e ∙ append_assoc old (read_edges own) (read_edges others) ∙ ap (λ (xs : List ReadEdge). old ++ xs) (sym (ap read_edges two ∙ read_edges-append own others)) ∙ h
