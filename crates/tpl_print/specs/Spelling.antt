-- How the nodes of a tree are printed.
use Rattle.std.specs.Prelude.{ℕ, Bool, true, false, ◌||◌, codes, List, [], ◌++◌, Option, Some, None}
use Rattle.tpl_print.specs.Pipes.{pipe_text}
use Rattle.tpl_print.specs.Replaced.{print_escaped, guarded}
use Rattle.tpl_tree.specs.Listing.{has_nodes}
use Rattle.tpl_tree.specs.Trees.{NodesData, no_nodes, node, nodes_from, is_text_node}
use Rattle.tpl_tree.specs.declared.node_kind.NodeKind.{NodeKind}
use Rattle.tpl_tree.specs.declared.node_kind.NodeKind.TheVariants as kind
use Rattle.tpl_tree.specs.declared.pipe.Pipe.{Pipe}

-- `$x :=`
abbrev pub named_text : Option (List ℕ) → List ℕ
named_text None = []
named_text (Some x) = codes " $" ++ (x ++ codes " :=")

-- `$i, $x :=`
abbrev pub index_text : Option (List ℕ) → List ℕ
index_text None = []
index_text (Some i) = codes " $" ++ (i ++ codes " ,")

-- the pipe of a `template`, where there is one
abbrev pub argument_text : Option Pipe → List ℕ
argument_text None = []
argument_text (Some p) = pipe_text p.commands

-- a text, which an action follows or not; of any other node what stands between its first `{{` and `}}`
abbrev pub inner_text : Bool → NodeKind → List ℕ
inner_text followed (kind.Text text) = guarded followed text
inner_text followed (kind.Action p) = pipe_text p.commands
inner_text followed (kind.Declare x p) = named_text (Some x) ++ pipe_text p.commands
inner_text followed (kind.Assign x p) = codes " $" ++ (x ++ (codes " =" ++ pipe_text p.commands))
inner_text followed (kind.If x p) = codes " if" ++ (named_text x ++ pipe_text p.commands)
inner_text followed (kind.With x p) = codes " with" ++ (named_text x ++ pipe_text p.commands)
inner_text followed (kind.Range i e p) = codes " range" ++ (index_text i ++ (named_text e ++ pipe_text p.commands))
inner_text followed kind.Break = codes " break"
inner_text followed kind.Continue = codes " continue"
inner_text followed (kind.Template name p) = codes " template \"" ++ (print_escaped name ++ (codes "\"" ++ argument_text p))

-- a text, or an action
abbrev pub printed_head : Bool → List ℕ → List ℕ
printed_head true inner = inner
printed_head false inner = codes "{{" ++ (inner ++ codes " }}")

-- what stands of a node before its parts
abbrev pub node_head : Bool → NodeKind → List ℕ
node_head followed kind = printed_head (is_text_node kind) (inner_text followed kind)

-- whether a node has parts
abbrev pub is_control_head : NodeKind → Bool
is_control_head (kind.If x p) = true
is_control_head (kind.With x p) = true
is_control_head (kind.Range i e p) = true
is_control_head _ = false

-- what stands before an `else` part, where it has nodes
abbrev pub else_mark : Bool → List ℕ
else_mark true = codes "{{ else }}"
else_mark false = []

-- the parts of a control, up to and with its end
abbrev pub printed_parts : Bool → List ℕ → List ℕ → List ℕ → List ℕ
printed_parts true first mark other = first ++ (mark ++ (other ++ codes "{{ end }}"))
printed_parts false first mark other = []

-- whether the first of some nodes is a text
abbrev pub begins_text : NodesData → Bool
begins_text no_nodes = false
begins_text (node kind line seams first other rest) = is_text_node kind

-- what parts two texts: a definition, which is no node
abbrev pub parting : Bool → Bool → List ℕ
parting true true = codes "{{ define \"\" }}{{ end }}"
parting true false = []
parting false after = []

-- the nodes of a part, one after the other; after the last one an action follows or not
abbrev pub nodes_text : Bool → NodesData → List ℕ
nodes_text followed no_nodes = []
nodes_text followed (node kind line seams first other rest) =
    node_head (has_nodes rest || followed) kind
    ++ (printed_parts (is_control_head kind) (nodes_text true first) (else_mark (has_nodes other)) (nodes_text true other)
    ++ (parting (is_text_node kind) (begins_text rest) ++ nodes_text followed rest))

-- the first node with its parts
abbrev pub printed_node : Bool → NodesData → List ℕ
printed_node followed no_nodes = []
printed_node followed (node kind line seams first other rest) =
    node_head followed kind ++ printed_parts (is_control_head kind) (nodes_text true first) (else_mark (has_nodes other)) (nodes_text true other)

-- the nodes from a number on, within their part, and none where there is no number
abbrev pub part_at : NodesData → Option ℕ → NodesData
part_at nodes None = no_nodes
part_at nodes (Some n) = nodes_from nodes n

-- what parts the node of a number from the next one
abbrev pub parting_at : NodesData → ℕ → Option ℕ → List ℕ
parting_at nodes n next = parting (begins_text (nodes_from nodes n)) (begins_text (part_at nodes next))
