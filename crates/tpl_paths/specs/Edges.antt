-- A template's tree as edges between points, whatever the data.
use Rattle.std.specs.Prelude.{◌≡◌, ℕ, ◌+◌, List, [], ◌∷◌, ◌++◌, Option, Some, None, ◌⊎◌}
use Rattle.tpl_paths.specs.declared.choice.Way.{Way}
use Rattle.tpl_paths.specs.declared.choice.Way.TheVariants as chosen
use Rattle.tpl_tree.specs.Forests.{ForestData, tree_named}
use Rattle.tpl_tree.specs.Trees.{NodesData, TreeData, head_kind, no_nodes, node, nodes_from, nodes_size}
use Rattle.tpl_tree.specs.declared.node_kind.NodeKind.{NodeKind}
use Rattle.tpl_tree.specs.declared.node_kind.NodeKind.TheVariants as kind
use Rattle.tpl_tree.specs.declared.pipe.Pipe.{Pipe}
use Rattle.tpl_paths.specs.declared.point.Point.{Point as Code}
use Rattle.tpl_paths.specs.declared.point.Point.TheVariants as point

-- Where a path stands in a template: before a node, which for a range is before its first turn; before a further turn of a range; after
-- the parts of a control; at the end of the template.
abbrev pub Point : Type 0
Point = Code

abbrev pub before : ℕ → Point
before n = point.Before n

abbrev pub again : ℕ → Point
again n = point.Again n

abbrev pub head : ℕ → Point
head n = point.Head n

abbrev pub past_point : ℕ → Point
past_point n = point.Past n

abbrev pub finish_point : Point
finish_point = point.Finish

-- What leads from a point to another: a text, a hole and a call by its node; a choice at a point; nothing at all.
pub data Edge : Type 0 where
  writes : ℕ → List ℕ → Point → Edge
  fills : ℕ → Pipe → Point → Edge
  calls : ℕ → List ℕ → Point → Edge
  picks : Point → Way → Point → Edge
  passes : Point → Point → Edge

abbrev pub from_of : Edge → Point
from_of (writes n bytes to) = before n
from_of (fills n pipe to) = before n
from_of (calls n name to) = before n
from_of (picks from choice to) = from
from_of (passes from to) = from

abbrev pub to_of : Edge → Point
to_of (writes n bytes to) = to
to_of (fills n pipe to) = to
to_of (calls n name to) = to
to_of (picks from choice to) = to
to_of (passes from to) = to

-- where nodes begin, the first of which has this number, and which go on at a point
abbrev pub part_begins : NodesData → ℕ → Point → Point
part_begins no_nodes n to = to
part_begins (node kind line seams first other rest) n to = before n

-- where the parts of a control lead: to its end, to where a `break` leads, and to where a `continue` leads
abbrev pub BodyPart : Type 0
BodyPart = Point → Point → Point → List Edge

-- the edges of a node that goes on at `to`, in a range that a `break` leaves for `out`, with those of its parts and where these begin
abbrev pub node_edges : NodeKind → ℕ → (Point → Point) → (Point → Point) → BodyPart → BodyPart → Point → Point → Point → List Edge
node_edges (kind.Text bytes) n one two first other to out on = writes n bytes to ∷ []
node_edges (kind.Action pipe) n one two first other to out on = fills n pipe to ∷ []
node_edges (kind.Declare name pipe) n one two first other to out on = passes (before n) to ∷ []
node_edges (kind.Assign name pipe) n one two first other to out on = passes (before n) to ∷ []
node_edges (kind.If name pipe) n one two first other to out on =
    picks (before n) chosen.Then (one (past_point n)) ∷ picks (before n) chosen.Else (two (past_point n)) ∷ passes (past_point n) to
    ∷ (first (past_point n) out on ++ other (past_point n) out on)
node_edges (kind.With name pipe) n one two first other to out on =
    picks (before n) chosen.Then (one (past_point n)) ∷ picks (before n) chosen.Else (two (past_point n)) ∷ passes (past_point n) to
    ∷ (first (past_point n) out on ++ other (past_point n) out on)
node_edges (kind.Range index element pipe) n one two first other to out on =
    passes (before n) (head n) ∷ passes (again n) (head n) ∷ picks (head n) chosen.Turn (one (again n))
    ∷ picks (before n) chosen.Done (two (past_point n)) ∷ picks (again n) chosen.Done (past_point n) ∷ passes (past_point n) to
    ∷ (first (again n) (past_point n) (again n) ++ other (past_point n) out on)
node_edges kind.Break n one two first other to out on = passes (before n) out ∷ []
node_edges kind.Continue n one two first other to out on = passes (before n) on ∷ []
node_edges (kind.Template name pipe) n one two first other to out on = calls n name to ∷ []

-- the edges of nodes, the first of which has this number
abbrev pub edges_of : NodesData → ℕ → Point → Point → Point → List Edge
edges_of no_nodes n to out on = []
edges_of (node kind line seams first other rest) n to out on =
    node_edges kind n (part_begins first (n + 1)) (part_begins other (n + 1 + nodes_size first)) (edges_of first (n + 1)) (edges_of other (n + 1 + nodes_size first))
    (part_begins rest (n + 1 + nodes_size first + nodes_size other) to) out on
    ++ edges_of rest (n + 1 + nodes_size first + nodes_size other) to out on

-- the nodes of a template by its name; none where the forest lacks it
abbrev pub path_nodes_of_tree : Option TreeData → NodesData
path_nodes_of_tree (Some tree) = tree.nodes
path_nodes_of_tree None = no_nodes

abbrev pub nodes_in : ForestData → List ℕ → NodesData
nodes_in forest name = path_nodes_of_tree (tree_named name forest)

-- where a template begins, and its edges
abbrev pub start_in : ForestData → List ℕ → Point
start_in forest name = part_begins (nodes_in forest name) 0 finish_point

abbrev pub edges_in : ForestData → List ℕ → List Edge
edges_in forest name = edges_of (nodes_in forest name) 0 finish_point finish_point finish_point

abbrev pub Within : Edge → List Edge → Type 0
Within e [] = ⊥
Within e (x ∷ xs) = (e ≡ x) ⊎ Within e xs

-- what a node of a template is
abbrev pub node_kind_at : ForestData → List ℕ → ℕ → Option NodeKind
node_kind_at forest name n = head_kind (nodes_from (nodes_in forest name) n)
