-- Nodes by their numbers.
use Rattle.std.proofs.Common.{◌≡◌, ℕ, ◌+◌, ◌<◌, Bool, true, ◌||◌, List, ◌++◌, Option, Some, None, IfSome, is_some, codes, refl, sym, ap, ◌∙◌, arith, append_assoc}
use Rattle.tpl_print.specs.Spelling.{node_head, is_control_head, printed_parts, else_mark, parting, begins_text, nodes_text, printed_node, part_at}
use Rattle.tpl_tree.proofs.Numbers.{nodes_from-some}
use Rattle.tpl_tree.specs.Listing.{has_nodes}
use Rattle.tpl_tree.specs.Trees.{NodesData, no_nodes, node, nodes_size, nodes_from, tree_part, rest_of, node_number, child_number, next_number, head_kind, is_text_node, NodeStands}
use Rattle.tpl_tree.specs.declared.node_kind.NodeKind.{NodeKind}

-- a number that is that of nodes, or none where there are no nodes
pub part_found : (nodes found : NodesData) (n : ℕ) (number : Option ℕ) → number ≡ node_number found n → NodeStands nodes found number → part_at nodes number ≡ found
part_found nodes no_nodes n None is stands = refl
part_found nodes no_nodes n (Some m) is stands = cc
part_found nodes (node k l s first other rest) n None is stands = cc
part_found nodes (node k l s first other rest) n (Some m) is stands = stands.1

pub inside : (nodes found : NodesData) (number : Option ℕ) → NodeStands nodes found number → IfSome number (λ n. n < nodes_size nodes)
inside nodes found None stands = stands
inside nodes found (Some n) stands = stands.0

-- nodes are the first one, what parts it from the next one, and the rest
pub nodes_text-parts : (followed : Bool) (nodes : NodesData) → nodes_text followed nodes ≡ printed_node (has_nodes (rest_of nodes) || followed) nodes ++ (parting (begins_text nodes) (begins_text (rest_of nodes)) ++ nodes_text followed (rest_of nodes))
nodes_text-parts followed no_nodes = refl
nodes_text-parts followed (node k l s first other rest) =
    sym (append_assoc (node_head (has_nodes rest || followed) k) (printed_parts (is_control_head k) (nodes_text true first) (else_mark (has_nodes other)) (nodes_text true other)) _)

pub sizes : (nodes : NodesData) → 0 < nodes_size nodes → nodes_size nodes ≡ 1 + nodes_size (tree_part 0 nodes) + nodes_size (tree_part 1 nodes) + nodes_size (rest_of nodes)
sizes no_nodes some = absurd (omega arith)
sizes (node k l s first other rest) some = omega arith

pub begins_text-is : (nodes : NodesData) (k : NodeKind) → Some k ≡ head_kind nodes → begins_text nodes ≡ is_text_node k
begins_text-is no_nodes k e = cc
begins_text-is (node what l s first other rest) k e = ap is_text_node (let same : what ≡ k = cc in same)

-- one more node is printed
pub one_more : (followed : Bool) (nodes : NodesData) (old printed new whole : List ℕ) → old ++ nodes_text followed nodes ≡ whole → printed ≡ old ++ printed_node (has_nodes (rest_of nodes) || followed) nodes
    → new ≡ printed ++ parting (begins_text nodes) (begins_text (rest_of nodes)) → new ++ nodes_text followed (rest_of nodes) ≡ whole
one_more followed nodes old printed new whole before first second =
    let one = printed_node (has_nodes (rest_of nodes) || followed) nodes in
    let mark = parting (begins_text nodes) (begins_text (rest_of nodes)) in
    let more = nodes_text followed (rest_of nodes) in
    ap (λ (xs : List ℕ). xs ++ more) (second ∙ ap (λ (xs : List ℕ). xs ++ mark) first)
    ∙ append_assoc (old ++ one) mark more
    ∙ append_assoc old one (mark ++ more)
    ∙ ap (λ (xs : List ℕ). old ++ xs) (sym (nodes_text-parts followed nodes))
    ∙ before

pub some_nodes : (found : NodesData) (n : ℕ) (number : Option ℕ) → number ≡ node_number found n → is_some number ≡ has_nodes found
some_nodes no_nodes n number is = ap is_some is
some_nodes (node k l s first other rest) n number is = ap is_some is

-- the next node begins fewer nodes
pub next_smaller : (nodes : NodesData) (n : ℕ) (number : Option ℕ) → n < nodes_size nodes → number ≡ next_number nodes n → NodeStands nodes (rest_of (nodes_from nodes n)) number
    → nodes_size (part_at nodes number) < nodes_size (nodes_from nodes n)
next_smaller nodes n number some is stands =
    omega (arith, sizes (nodes_from nodes n) (nodes_from-some nodes n some), ap nodes_size (part_found nodes (rest_of (nodes_from nodes n)) _ number is stands))

-- so does a part
pub first_smaller : (nodes : NodesData) (n : ℕ) (number : Option ℕ) → n < nodes_size nodes → number ≡ child_number nodes n 0 → NodeStands nodes (tree_part 0 (nodes_from nodes n)) number
    → nodes_size (part_at nodes number) < nodes_size (nodes_from nodes n)
first_smaller nodes n number some is stands =
    omega (arith, sizes (nodes_from nodes n) (nodes_from-some nodes n some), ap nodes_size (part_found nodes (tree_part 0 (nodes_from nodes n)) _ number is stands))

pub other_smaller : (nodes : NodesData) (n : ℕ) (number : Option ℕ) → n < nodes_size nodes → number ≡ child_number nodes n 1 → NodeStands nodes (tree_part 1 (nodes_from nodes n)) number
    → nodes_size (part_at nodes number) < nodes_size (nodes_from nodes n)
other_smaller nodes n number some is stands =
    omega (arith, sizes (nodes_from nodes n) (nodes_from-some nodes n some), ap nodes_size (part_found nodes (tree_part 1 (nodes_from nodes n)) _ number is stands))

node_text-control : (followed : Bool) (nodes : NodesData) (k : NodeKind) → Some k ≡ head_kind nodes → is_control_head k ≡ true
    → printed_node followed nodes ≡ node_head followed k ++ (nodes_text true (tree_part 0 nodes) ++ (else_mark (has_nodes (tree_part 1 nodes)) ++ (nodes_text true (tree_part 1 nodes) ++ codes "{{ end }}")))
node_text-control followed no_nodes k e t = cc
node_text-control followed (node what l s first other rest) k e t =
    let same : what ≡ k = cc in
    let control : is_control_head what ≡ true = ap is_control_head same ∙ t in
    rw (control, same) refl

-- a control is printed
pub control_printed : (followed : Bool) (nodes : NodesData) (n : ℕ) (k : NodeKind) (first other : Option ℕ) (mark : Bool) (before head one marked two after : List ℕ) → Some k ≡ head_kind (nodes_from nodes n) → is_control_head k ≡ true
    → first ≡ child_number nodes n 0 → NodeStands nodes (tree_part 0 (nodes_from nodes n)) first → other ≡ child_number nodes n 1 → NodeStands nodes (tree_part 1 (nodes_from nodes n)) other
    → mark ≡ is_some other → head ≡ before ++ node_head followed k → one ≡ head ++ nodes_text true (part_at nodes first) → marked ≡ one ++ else_mark mark
    → two ≡ marked ++ nodes_text true (part_at nodes other) → after ≡ two ++ codes "{{ end }}" → after ≡ before ++ printed_node followed (nodes_from nodes n)
control_printed followed nodes n k first other mark before head one marked two after is control first_is first_stands other_is other_stands mark_is a b c d e =
    let v = nodes_from nodes n in
    let h = node_head followed k in
    let f = nodes_text true (tree_part 0 v) in
    let m = else_mark (has_nodes (tree_part 1 v)) in
    let o = nodes_text true (tree_part 1 v) in
    let one_is : one ≡ (before ++ h) ++ f = b ∙ ap (λ (xs : List ℕ). xs ++ nodes_text true (part_at nodes first)) a ∙ ap (λ (w : NodesData). (before ++ h) ++ nodes_text true w) (part_found nodes (tree_part 0 v) _ first first_is first_stands) in
    let marked_is : marked ≡ ((before ++ h) ++ f) ++ m = c ∙ ap (λ (xs : List ℕ). xs ++ else_mark mark) one_is ∙ ap (λ (x : Bool). ((before ++ h) ++ f) ++ else_mark x) (mark_is ∙ some_nodes (tree_part 1 v) _ other other_is) in
    let two_is : two ≡ (((before ++ h) ++ f) ++ m) ++ o = d ∙ ap (λ (xs : List ℕ). xs ++ nodes_text true (part_at nodes other)) marked_is ∙ ap (λ (w : NodesData). (((before ++ h) ++ f) ++ m) ++ nodes_text true w) (part_found nodes (tree_part 1 v) _ other other_is other_stands) in
    e ∙ ap (λ (xs : List ℕ). xs ++ codes "{{ end }}") two_is
    ∙ append_assoc (((before ++ h) ++ f) ++ m) o (codes "{{ end }}")
    ∙ append_assoc ((before ++ h) ++ f) m (o ++ codes "{{ end }}")
    ∙ append_assoc (before ++ h) f (m ++ (o ++ codes "{{ end }}"))
    ∙ append_assoc before h (f ++ (m ++ (o ++ codes "{{ end }}")))
    ∙ ap (λ (xs : List ℕ). before ++ xs) (sym (node_text-control followed v k is control))
