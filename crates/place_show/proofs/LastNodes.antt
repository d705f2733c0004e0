-- The last node at top level, from node to node.
use Rattle.std.proofs.Common.{◌≡◌, ℕ, ◌+◌, ◌-◌, ◌<◌, IfSome, Option, Some, None, refl, sym, ap, ◌∙◌, arith}
use Rattle.place_show.specs.Ends.{last_node_from, last_number, last_on}
use Rattle.tpl_tree.proofs.Numbers.{nodes_from-some}
use Rattle.tpl_tree.specs.Trees.{NodesData, NodeStands, no_nodes, node, nodes_from, nodes_size, next_number, node_number, tree_part, rest_of}

-- from the first node on
pub last-first : (nodes : NodesData) → last_on nodes 0 (node_number nodes 0) ≡ last_number nodes
last-first no_nodes = refl
last-first (node kind line seams first other rest) = refl

-- where nodes begin at a number
begun : (nodes found : NodesData) (last n : ℕ) (next : Option ℕ) → next ≡ node_number found n → NodeStands nodes found next → last_on nodes last next ≡ last_node_from last n found
begun nodes no_nodes last n next e s = ap (last_on nodes last) e
begun nodes (node kind line seams first other rest) last n None e s = cc
begun nodes (node kind line seams first other rest) last n (Some m) e s =
    let same : m ≡ n = cc in
    ap (last_node_from last m) s.1 ∙ ap (λ (i : ℕ). last_node_from last i (node kind line seams first other rest)) same

-- what the first of some nodes comes to
past-first : (found : NodesData) (last n : ℕ) → 0 < nodes_size found → last_node_from last n found ≡ last_node_from n (n + 1 + nodes_size (tree_part 0 found) + nodes_size (tree_part 1 found)) (rest_of found)
past-first no_nodes last n h = absurd (omega (arith, h))
past-first (node kind line seams first other rest) last n h = refl

-- the next node
pub last-next : (nodes : NodesData) (last n : ℕ) (next : Option ℕ) → n < nodes_size nodes → next ≡ next_number nodes n → NodeStands nodes (rest_of (nodes_from nodes n)) next → last_on nodes n next ≡ last_on nodes last (Some n)
last-next nodes last n next lt e s =
    let found = nodes_from nodes n in
    begun nodes (rest_of found) n (n + 1 + nodes_size (tree_part 0 found) + nodes_size (tree_part 1 found)) next e s
    ∙ sym (past-first found last n (nodes_from-some nodes n lt))

-- it has a greater number
beyond : (found : NodesData) (n m k : ℕ) → n < k → node_number found k ≡ Some m → n < m
beyond no_nodes n m k lt e = cc
beyond (node kind line seams first other rest) n m k lt e = (let same : k ≡ m = cc in omega (arith, lt, same))

pub next-beyond : (nodes : NodesData) (n m : ℕ) → Some m ≡ next_number nodes n → n < m
next-beyond nodes n m e =
    let found = nodes_from nodes n in
    beyond (rest_of found) n m (n + 1 + nodes_size (tree_part 0 found) + nodes_size (tree_part 1 found)) (omega arith) (sym e)

-- so fewer numbers are left
abbrev pub left_at : NodesData → Option ℕ → ℕ
left_at nodes None = 0
left_at nodes (Some n) = nodes_size nodes - n

pub fewer-left : (nodes : NodesData) (n : ℕ) (next : Option ℕ) → n < nodes_size nodes → next ≡ next_number nodes n → NodeStands nodes (rest_of (nodes_from nodes n)) next → left_at nodes next < nodes_size nodes - n
fewer-left nodes n None lt e s = omega (arith, lt)
fewer-left nodes n (Some m) lt e s = (let more = next-beyond nodes n m e in let inside = s.0 in omega (arith, lt, more, inside))

pub stands-inside : (nodes found : NodesData) (next : Option ℕ) → NodeStands nodes found next → IfSome next (λ n. n < nodes_size nodes)
stands-inside nodes found None s = tt
stands-inside nodes found (Some n) s = s.0
