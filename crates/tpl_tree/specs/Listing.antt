-- The nodes of a tree listed in the order of the source, as they are kept, and the tree of such a list.
use Rattle.std.specs.Prelude.{◌≡◌, ℕ, zero, suc, ◌+◌, ◌<◌, ◌^◌, Bool, true, false, nat_lt, if◌then◌else◌, List, [], ◌∷◌, ◌++◌, length, take, drop, Some}
use Rattle.tpl_tree.specs.Trees.{NodesData, no_nodes, node, nodes_size, tree_part, rest_of, head_kind, head_line, head_seams, IsFineNode, IsFineTree}
use Rattle.tpl_tree.specs.declared.entry.Entry.{Entry}

-- whether there is a node
abbrev pub has_nodes : NodesData → Bool
has_nodes no_nodes = false
has_nodes (node kind line seams first other rest) = true

-- the nodes in the order of the source
abbrev pub listing : NodesData → List Entry
listing no_nodes = []
listing (node kind line seams first other rest) =
    record { kind = kind; line = line; seams = seams; first = nodes_size first; other = nodes_size other; more = has_nodes rest }
    ∷ (listing first ++ (listing other ++ listing rest))

-- the nodes of a list, of which no part is deeper than a number
abbrev pub nodes_within : ℕ → List Entry → NodesData
nodes_within zero entries = no_nodes
nodes_within (suc n) [] = no_nodes
nodes_within (suc n) (entry ∷ entries) =
    node entry.kind entry.line entry.seams (nodes_within n (take entry.first entries))
    (nodes_within n (take entry.other (drop entry.first entries)))
    (nodes_within n (drop entry.other (drop entry.first entries)))

-- the nodes of a list
abbrev pub nodes_of : List Entry → NodesData
nodes_of entries = nodes_within (length entries) entries

-- the number of the last node of the outermost part
abbrev pub last_node : NodesData → ℕ
last_node no_nodes = 0
last_node (node kind line seams first other no_nodes) = 0
last_node (node kind line seams first other (node next_kind next_line next_seams next_first next_other next_rest)) =
    suc (nodes_size first + (nodes_size other + last_node (node next_kind next_line next_seams next_first next_other next_rest)))

-- the flag of an entry is set
abbrev pub with_more : List Entry → ℕ → List Entry
with_more [] number = []
with_more (entry ∷ entries) zero = record entry { more = true } ∷ entries
with_more (entry ∷ entries) (suc number) = entry ∷ with_more entries number

-- the flag of an entry is set if it is one of the first ones
abbrev pub linked : List Entry → ℕ → ℕ → List Entry
linked entries count number = if nat_lt number count then with_more entries number else entries

-- an entry is that of the first one of nodes
pub record IsTreeEntry (nodes : NodesData) (entry : Entry) : Type 0 where
  pub kind : head_kind nodes ≡ Some entry.kind
  pub line : head_line nodes ≡ entry.line
  pub seams : head_seams nodes ≡ entry.seams
  pub first : nodes_size (tree_part 0 nodes) ≡ entry.first
  pub other : nodes_size (tree_part 1 nodes) ≡ entry.other
  pub more : has_nodes (rest_of nodes) ≡ entry.more
  pub fine : IsFineNode entry.kind entry.line entry.seams

-- a list of the nodes of a tree, with fine texts, whose numbers fit
pub record IsListing (entries : List Entry) : Type 0 where
  pub listed : listing (nodes_of entries) ≡ entries
  pub fine : IsFineTree (nodes_of entries)
  pub bound : length entries < 2 ^ 32

-- such a list, and the number of its last outermost node
pub record IsBody (entries : List Entry) (number : ℕ) : Type 0 where
  pub kept : IsListing entries
  pub last : number ≡ last_node (nodes_of entries)
