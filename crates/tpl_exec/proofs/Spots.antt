-- The nodes of a part, by the number of the first one.
use Rattle.std.proofs.Common.{◌≡◌, ℕ, zero, suc, ◌-◌, ◌≤◌, false, nat_lt, Option, Some, refl, ap, ◌∙◌, subst, arith}
use Rattle.std.proofs.lemmas.Bool.Decides.{nat_tests}
use Rattle.tpl_tree.specs.declared.node_kind.NodeKind.{NodeKind}
use Rattle.tpl_tree.specs.Trees.{NodesData, no_nodes, node, head_kind, head_line, head_seams, nodes_from, nodes_size, node_number, tree_part, rest_of, NodeStands}
use Rattle.tpl_exec.specs.Machine.{nowhere, tree_cursor}
use Rattle.tpl_exec.specs.MachineView.{cursor_at}

-- after all nodes there are none
nodes_from-past : (nodes : NodesData) (n : ℕ) → nodes_size nodes ≤ n → nodes_from nodes n ≡ no_nodes
nodes_from-past no_nodes n l = refl
nodes_from-past (node k line s first other rest) zero l = absurd (omega (arith, l))
nodes_from-past (node k line s first other rest) (suc n) l =
    let past_first : nat_lt n (nodes_size first) ≡ false = grind (arith, nat_tests) in
    let past_other : nat_lt (n - nodes_size first) (nodes_size other) ≡ false = grind (arith, nat_tests) in
    rw (past_first, past_other) (nodes_from-past rest (n - nodes_size first - nodes_size other) (omega (arith, l)))

pub nowhere_past : (nodes : NodesData) (n : ℕ) → nodes_size nodes ≤ n → cursor_at nodes (Some n) ≡ nowhere
nowhere_past nodes n l = ap (tree_cursor n) (nodes_from-past nodes n l)

-- nodes by what the first one is
node_is : (w : NodesData) (k : NodeKind) (line : ℕ) → Some k ≡ head_kind w → line ≡ head_line w → w ≡ node k line (head_seams w) (tree_part 0 w) (tree_part 1 w) (rest_of w)
node_is no_nodes k line is begins = cc
node_is (node kind l s first other rest) k line is begins =
    let same : k ≡ kind = cc in
    rw (same, begins) refl

pub cursor_is : (nodes : NodesData) (n : ℕ) (k : NodeKind) (line : ℕ) → Some k ≡ head_kind (nodes_from nodes n) → line ≡ head_line (nodes_from nodes n)
    → cursor_at nodes (Some n) ≡ record { number = n; nodes = node k line (head_seams (nodes_from nodes n)) (tree_part 0 (nodes_from nodes n)) (tree_part 1 (nodes_from nodes n)) (rest_of (nodes_from nodes n)) }
cursor_is nodes n k line is begins = ap (tree_cursor n) (node_is (nodes_from nodes n) k line is begins)

-- a number that was found
pub cursor_found : (nodes found : NodesData) (n : ℕ) (number : Option ℕ) → number ≡ node_number found n → NodeStands nodes found number → cursor_at nodes number ≡ tree_cursor n found
cursor_found nodes no_nodes n number is stands = ap (cursor_at nodes) is
cursor_found nodes (node kind l s first other rest) n number is stands =
    let there : NodeStands nodes (node kind l s first other rest) (Some n) = subst (NodeStands nodes (node kind l s first other rest)) is stands in
    ap (cursor_at nodes) is ∙ ap (tree_cursor n) there.1
