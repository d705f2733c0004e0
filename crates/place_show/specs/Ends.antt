-- Where a root is to end, and which node of it is the last one.
use Rattle.std.specs.Prelude.{ℕ, ◌+◌, Bool, true, false, Option, Some, None}
use Rattle.place_core.specs.declared.place.Place.{Place}
use Rattle.place_core.specs.declared.place.Place.TheVariants as place
use Rattle.tpl_tree.specs.Trees.{NodesData, TreeData, no_nodes, node, nodes_from, nodes_size}

abbrev pub is_text_place : Place → Bool
is_text_place place.Text = true
is_text_place _ = false

-- the number of the last of some nodes at their top level, the first of which has this number; another number where there are none
abbrev pub last_node_from : ℕ → ℕ → NodesData → ℕ
last_node_from none n no_nodes = none
last_node_from none n (node kind line seams first other rest) =
    last_node_from n (n + 1 + nodes_size first + nodes_size other) rest

-- the number of the last node at top level; 0 where there is none
abbrev pub last_number : NodesData → ℕ
last_number nodes = last_node_from 0 0 nodes

-- likewise, from the node of a number on, where there is one
abbrev pub last_on : NodesData → ℕ → Option ℕ → ℕ
last_on nodes none None = none
last_on nodes none (Some n) = last_node_from none n (nodes_from nodes n)

-- likewise, of a template
abbrev pub last_node_of : Option TreeData → ℕ
last_node_of None = 0
last_node_of (Some tree) = last_number tree.nodes
