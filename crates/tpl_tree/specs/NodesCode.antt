-- Trees of templates as trees of numbers, and back: the toolchain asks for such a code of what a private field is seen as.
use Rattle.std.specs.Prelude.{◌≡◌, refl, ℕ, zero, suc, List, [], ◌∷◌, Option, Some, None}
use Rattle.std.specs.Coded.{Coded, code_by, coded×, coded_ℕ}
use Rattle.tpl_symbol.specs.declared.symbol.Seam.{Seam}
use Rattle.page_io.specs.BytesCode.{bytes_tree, bytes_from, bytes_from-bytes_tree}
use Rattle.tpl_tree.specs.Code.{pipe_tree, pipe_from, pipe_from-pipe_tree}
use Rattle.tpl_tree.specs.Trees.{NodesData, no_nodes, node, TreeData}
use Rattle.tpl_tree.specs.declared.node_kind.NodeKind.{NodeKind}
use Rattle.tpl_tree.specs.declared.node_kind.NodeKind.TheVariants as kind
use Rattle.tpl_tree.specs.declared.pipe.Pipe.{Pipe}
use base.Stored.{Gv, gnil, gnum, gcons}
use denote.Struct.Codes.{itself}

abbrev pub seams_tree : List Seam → Gv
seams_tree [] = gnil
seams_tree (s ∷ ss) = gcons (gcons (gnum s.at) (gnum s.line)) (seams_tree ss)

abbrev pub seams_from : Gv → List Seam
seams_from (gcons (gcons (gnum at) (gnum line)) ss) = record { at = at; line = line } ∷ seams_from ss
seams_from _ = []

pub seams_from-seams_tree : (ss : List Seam) → seams_from (seams_tree ss) ≡ ss
seams_from-seams_tree [] = refl
seams_from-seams_tree (s ∷ ss) = λ i. s ∷ seams_from-seams_tree ss i

abbrev pub name_tree : Option (List ℕ) → Gv
name_tree None = gnil
name_tree (Some name) = gcons gnil (bytes_tree name)

abbrev pub name_from : Gv → Option (List ℕ)
name_from (gcons _ name) = Some (bytes_from name)
name_from _ = None

pub name_from-name_tree : (o : Option (List ℕ)) → name_from (name_tree o) ≡ o
name_from-name_tree None = refl
name_from-name_tree (Some name) = λ i. Some (bytes_from-bytes_tree name i)

abbrev pub whole_tree : Pipe → Gv
whole_tree p = pipe_tree p.commands

abbrev pub whole_from : Gv → Pipe
whole_from g = record { commands = pipe_from g }

pub whole_from-whole_tree : (p : Pipe) → whole_from (whole_tree p) ≡ p
whole_from-whole_tree p = λ i. record { commands = pipe_from-pipe_tree p.commands i }

abbrev pub argument_tree : Option Pipe → Gv
argument_tree None = gnil
argument_tree (Some p) = gcons gnil (whole_tree p)

abbrev pub argument_from : Gv → Option Pipe
argument_from (gcons _ p) = Some (whole_from p)
argument_from _ = None

pub argument_from-argument_tree : (o : Option Pipe) → argument_from (argument_tree o) ≡ o
argument_from-argument_tree None = refl
argument_from-argument_tree (Some p) = λ i. Some (whole_from-whole_tree p i)

abbrev pub kind_tree : NodeKind → Gv
kind_tree (kind.Text text) = gcons (gnum 0) (bytes_tree text)
kind_tree (kind.Action p) = gcons (gnum 1) (whole_tree p)
kind_tree (kind.Declare name p) = gcons (gnum 2) (gcons (bytes_tree name) (whole_tree p))
kind_tree (kind.Assign name p) = gcons (gnum 3) (gcons (bytes_tree name) (whole_tree p))
kind_tree (kind.If name p) = gcons (gnum 4) (gcons (name_tree name) (whole_tree p))
kind_tree (kind.With name p) = gcons (gnum 5) (gcons (name_tree name) (whole_tree p))
kind_tree (kind.Range index element p) = gcons (gnum 6) (gcons (name_tree index) (gcons (name_tree element) (whole_tree p)))
kind_tree (kind.Template name p) = gcons (gnum 7) (gcons (bytes_tree name) (argument_tree p))
kind_tree kind.Break = gcons gnil gnil
kind_tree kind.Continue = gnil

abbrev pub kind_from : Gv → NodeKind
kind_from (gcons (gnum zero) text) = kind.Text (bytes_from text)
kind_from (gcons (gnum (suc zero)) p) = kind.Action (whole_from p)
kind_from (gcons (gnum (suc (suc zero))) (gcons name p)) = kind.Declare (bytes_from name) (whole_from p)
kind_from (gcons (gnum (suc (suc (suc zero)))) (gcons name p)) = kind.Assign (bytes_from name) (whole_from p)
kind_from (gcons (gnum (suc (suc (suc (suc zero))))) (gcons name p)) = kind.If (name_from name) (whole_from p)
kind_from (gcons (gnum (suc (suc (suc (suc (suc zero)))))) (gcons name p)) = kind.With (name_from name) (whole_from p)
kind_from (gcons (gnum (suc (suc (suc (suc (suc (suc zero))))))) (gcons index (gcons element p))) = kind.Range (name_from index) (name_from element) (whole_from p)
kind_from (gcons (gnum (suc (suc (suc (suc (suc (suc (suc zero)))))))) (gcons name p)) = kind.Template (bytes_from name) (argument_from p)
kind_from (gcons gnil _) = kind.Break
kind_from _ = kind.Continue

pub kind_from-kind_tree : (k : NodeKind) → kind_from (kind_tree k) ≡ k
kind_from-kind_tree (kind.Text text) = λ i. kind.Text (bytes_from-bytes_tree text i)
kind_from-kind_tree (kind.Action p) = λ i. kind.Action (whole_from-whole_tree p i)
kind_from-kind_tree (kind.Declare name p) = λ i. kind.Declare (bytes_from-bytes_tree name i) (whole_from-whole_tree p i)
kind_from-kind_tree (kind.Assign name p) = λ i. kind.Assign (bytes_from-bytes_tree name i) (whole_from-whole_tree p i)
kind_from-kind_tree (kind.If name p) = λ i. kind.If (name_from-name_tree name i) (whole_from-whole_tree p i)
kind_from-kind_tree (kind.With name p) = λ i. kind.With (name_from-name_tree name i) (whole_from-whole_tree p i)
kind_from-kind_tree (kind.Range index element p) = λ i. kind.Range (name_from-name_tree index i) (name_from-name_tree element i) (whole_from-whole_tree p i)
kind_from-kind_tree (kind.Template name p) = λ i. kind.Template (bytes_from-bytes_tree name i) (argument_from-argument_tree p i)
kind_from-kind_tree kind.Break = refl
kind_from-kind_tree kind.Continue = refl

abbrev pub nodes_tree : NodesData → Gv
nodes_tree no_nodes = gnil
nodes_tree (node k line seams first other rest) = gcons (kind_tree k) (gcons (gnum line) (gcons (seams_tree seams) (gcons (nodes_tree first) (gcons (nodes_tree other) (nodes_tree rest)))))

abbrev pub tree_nodes : Gv → NodesData
tree_nodes (gcons k (gcons (gnum line) (gcons seams (gcons first (gcons other rest))))) = node (kind_from k) line (seams_from seams) (tree_nodes first) (tree_nodes other) (tree_nodes rest)
tree_nodes _ = no_nodes

pub tree_nodes-nodes_tree : (v : NodesData) → tree_nodes (nodes_tree v) ≡ v
tree_nodes-nodes_tree no_nodes = refl
tree_nodes-nodes_tree (node k line seams first other rest) = λ i. node (kind_from-kind_tree k i) line (seams_from-seams_tree seams i) (tree_nodes-nodes_tree first i) (tree_nodes-nodes_tree other i) (tree_nodes-nodes_tree rest i)

abbrev pub nodes_code : Coded NodesData
nodes_code = code_by Gv itself nodes_tree tree_nodes tree_nodes-nodes_tree

abbrev pub tree_code : Coded TreeData
tree_code = code_by (NodesData × ℕ) (coded× nodes_code coded_ℕ) (λ t. (t.nodes, t.end_line)) (λ p. record { nodes = p.0; end_line = p.1 }) (λ _. refl)
