-- The trees of templates: what a tree is, how its nodes are numbered, and the lines of its texts.
use Rattle.std.specs.Prelude.{◌≡◌, ℕ, zero, suc, ◌+◌, ◌-◌, ◌<◌, ◌≤◌, ◌^◌, nat_lt, nat_le, Bool, true, false, if◌then◌else◌, List, [], ◌∷◌, length, take, drop, All, Option, Some, None, IfSome}
use Rattle.page_io.specs.Lines.{line_feeds}
use Rattle.tpl_symbol.specs.declared.symbol.Seam.{Seam}
use Rattle.tpl_tree.specs.declared.node_kind.NodeKind.{NodeKind}
use Rattle.tpl_tree.specs.declared.node_kind.NodeKind.TheVariants as kind

-- nodes of one part of a tree: what the first node is, the line on which it begins, the seams of a text, the nodes of its
-- first part, those of its `else` part, and the nodes that follow it in the same part
pub data NodesData : Type 0 where
  no_nodes : NodesData
  node : NodeKind → ℕ → List Seam → NodesData → NodesData → NodesData → NodesData

-- a tree, and the line on which it ends
pub record TreeData : Type 0 where
  pub nodes : NodesData
  pub end_line : ℕ

-- how many nodes in all
abbrev pub nodes_size : NodesData → ℕ
nodes_size no_nodes = 0
nodes_size (node kind line seams first other rest) = suc (nodes_size first + (nodes_size other + nodes_size rest))

-- a node that has no parts, and none after it
abbrev pub alone : NodeKind → ℕ → List Seam → NodesData
alone kind line seams = node kind line seams no_nodes no_nodes no_nodes

-- the nodes of the second after those of the first, in one part
abbrev pub append : NodesData → NodesData → NodesData
append no_nodes more = more
append (node kind line seams first other rest) more = node kind line seams first other (append rest more)

-- the nodes of the first node's parts: 0 is its first part, 1 its `else` part
abbrev pub tree_part : ℕ → NodesData → NodesData
tree_part part no_nodes = no_nodes
tree_part zero (node kind line seams first other rest) = first
tree_part (suc zero) (node kind line seams first other rest) = other
tree_part (suc (suc part)) (node kind line seams first other rest) = no_nodes

-- the nodes that follow the first one
abbrev pub rest_of : NodesData → NodesData
rest_of no_nodes = no_nodes
rest_of (node kind line seams first other rest) = rest

-- what the first node is
abbrev pub head_kind : NodesData → Option NodeKind
head_kind no_nodes = None
head_kind (node kind line seams first other rest) = Some kind

-- the line on which the first node begins
abbrev pub head_line : NodesData → ℕ
head_line no_nodes = 0
head_line (node kind line seams first other rest) = line

-- the seams of the first node
abbrev pub head_seams : NodesData → List Seam
head_seams no_nodes = []
head_seams (node kind line seams first other rest) = seams

-- the bytes of a text; any other node has none
abbrev pub node_text_bytes : Option NodeKind → List ℕ
node_text_bytes (Some (kind.Text text)) = text
node_text_bytes _ = []

-- the bytes of the first node, if it is a text
abbrev pub node_head_text : NodesData → List ℕ
node_head_text nodes = node_text_bytes (head_kind nodes)

-- whether a node is a text
abbrev pub is_text_node : NodeKind → Bool
is_text_node (kind.Text text) = true
is_text_node _ = false

-- the nodes from a number on, within their part: nodes are numbered in the order of the source, a node before its first
-- part, this before its `else` part, and this before what follows
abbrev pub nodes_from : NodesData → ℕ → NodesData
nodes_from no_nodes n = no_nodes
nodes_from (node kind line seams first other rest) zero = node kind line seams first other rest
nodes_from (node kind line seams first other rest) (suc n) =
    if nat_lt n (nodes_size first) then nodes_from first n
    else (if nat_lt (n - nodes_size first) (nodes_size other) then nodes_from other (n - nodes_size first)
    else nodes_from rest (n - nodes_size first - nodes_size other))

-- a number, where nodes begin there
abbrev pub node_number : NodesData → ℕ → Option ℕ
node_number no_nodes n = None
node_number (node kind line seams first other rest) n = Some n

-- the number of the first node of a node's part
abbrev pub child_number : NodesData → ℕ → ℕ → Option ℕ
child_number nodes n zero = node_number (tree_part 0 (nodes_from nodes n)) (n + 1)
child_number nodes n (suc zero) = node_number (tree_part 1 (nodes_from nodes n)) (n + 1 + nodes_size (tree_part 0 (nodes_from nodes n)))
child_number nodes n (suc (suc part)) = None

-- the number of the next node of the same part
abbrev pub next_number : NodesData → ℕ → Option ℕ
next_number nodes n =
    node_number (rest_of (nodes_from nodes n)) (n + 1 + nodes_size (tree_part 0 (nodes_from nodes n)) + nodes_size (tree_part 1 (nodes_from nodes n)))

-- a number is that of the first of some nodes of a part
abbrev pub NodeStands : NodesData → NodesData → Option ℕ → Type 0
NodeStands nodes found number = IfSome number (λ n. (n < nodes_size nodes) × (nodes_from nodes n ≡ found))

-- the last of the seams that is not after a byte, and another one where there is none
abbrev pub seam_before : Seam → List Seam → ℕ → Seam
seam_before before [] byte = before
seam_before before (seam ∷ seams) byte = seam_before (if nat_le seam.at byte then seam else before) seams byte

-- the line of a byte: that of the seam before it, and one more for each line feed between
abbrev pub line_after : List ℕ → Seam → ℕ → ℕ
line_after text seam byte = seam.line + line_feeds (take (byte - seam.at) (drop seam.at text))

-- the line of a byte of a text that begins on a line and has seams; its length stands for the offset after it
abbrev pub text_line : List ℕ → ℕ → List Seam → ℕ → ℕ
text_line text line seams byte = line_after text (seam_before (record { at = 0; line = line }) seams byte) byte

-- a text has 1 to 2 ^ 20 bytes, and the line of each of its offsets is less than 2 ^ 32
pub record IsFineTextNode (text : List ℕ) (begins : ℕ) (breaks : List Seam) : Type 0 where
  pub some : 0 < length text
  pub bound : length text ≤ 2 ^ 20
  pub line : begins + length text < 2 ^ 32
  pub seams : All (λ s. s.line + length text < 2 ^ 32) breaks

-- a node is a fine text, or no text and without seams
abbrev pub IsFineNode : NodeKind → ℕ → List Seam → Type 0
IsFineNode (kind.Text text) line seams = IsFineTextNode text line seams
IsFineNode _ line seams = seams ≡ []

-- each node is fine
abbrev pub IsFineTree : NodesData → Type 0
IsFineTree no_nodes = Unit {0}
IsFineTree (node kind line seams first other rest) = IsFineNode kind line seams × IsFineTree first × IsFineTree other × IsFineTree rest

-- a text has 1 to 2 ^ 20 bytes
abbrev pub IsTextInBounds : NodeKind → Type 0
IsTextInBounds (kind.Text text) = (0 < length text) × (length text ≤ 2 ^ 20)
IsTextInBounds _ = Unit {0}
