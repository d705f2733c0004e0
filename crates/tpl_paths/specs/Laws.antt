-- A path is determined by its choices, up to how far it goes.
use Rattle.std.specs.Prelude.{◌≡◌, ℕ, List, ◌++◌, ◌⊎◌, Option, Some, ⊤}
use Rattle.tpl_tree.specs.Forests.{ForestData}
use Rattle.tpl_tree.specs.declared.node_kind.NodeKind.TheVariants as kind
use Rattle.tpl_tree.specs.declared.pipe.Pipe.{Pipe}
use Rattle.tpl_paths.specs.Edges.{Edge, Within, calls, edges_in, fills, node_kind_at, passes, picks, writes}
use Rattle.tpl_paths.specs.Paths.{IsPath, Move, Standing, choices_of, reached}

abbrev pub IsPathPrefix : List Move → List Move → Type 0
IsPathPrefix ms ns = (rest : List Move) × (ns ≡ ms ++ rest)

abbrev pub ChoicesDetermine : Type 0
ChoicesDetermine = (forest : ForestData) (a : Standing) (ms ns : List Move) → IsPath forest a ms → IsPath forest a ns → choices_of ms ≡ choices_of ns → IsPathPrefix ms ns ⊎ IsPathPrefix ns ms

-- the beginning of a path is a path
abbrev pub PrefixIsPath : Type 0
PrefixIsPath = (forest : ForestData) (a : Standing) (ms ns : List Move) → IsPath forest a (ms ++ ns) → IsPath forest a ms × IsPath forest (reached forest a ms) ns

-- what stands at an edge: a text, a hole and a call are the nodes that the tree has by their numbers
abbrev pub IsAtNode : ForestData → List ℕ → Edge → Type 0
IsAtNode forest name (writes n bytes to) = node_kind_at forest name n ≡ Some (kind.Text bytes)
IsAtNode forest name (fills n pipe to) = node_kind_at forest name n ≡ Some (kind.Action pipe)
IsAtNode forest name (calls n callee to) = (pipe : Option Pipe) × (node_kind_at forest name n ≡ Some (kind.Template callee pipe))
IsAtNode forest name (picks from choice to) = ⊤
IsAtNode forest name (passes from to) = ⊤

abbrev pub EdgesHaveNodes : Type 0
EdgesHaveNodes = (forest : ForestData) (name : List ℕ) (e : Edge) → Within e (edges_in forest name) → IsAtNode forest name e
