-- What is said of a pair of a chart: its places, and what is done in its holes.
use Rattle.std.specs.Fmt.{decimal}
use Rattle.std.specs.List.{range_with_len}
use Rattle.std.specs.Prelude.{ℕ, codes, flat_map, slice_get, List, [], ◌++◌, Option, Some, None}
use Rattle.html_step.specs.PlaceText.{place_text}
use Rattle.page_datum.specs.Legible.{legible}
use Rattle.place_core.specs.declared.chain.Chain.{Chain}
use Rattle.place_core.specs.declared.place.Place.{Place}
use Rattle.place_explain.specs.ChainText.{chain_text}
use Rattle.place_infer.specs.ChartViews.{ChartData, chain_in, place_in}
use Rattle.place_chart.specs.declared.summary.Summary.{Summary}
use Rattle.tpl_paths.specs.Edges.{before, finish_point}
use Rattle.tpl_tree.specs.Forests.{ForestData}
use Rattle.tpl_tree.specs.Trees.{NodesData, TreeData, head_kind, head_line, nodes_from, nodes_size}
use Rattle.tpl_tree.specs.declared.node_kind.NodeKind.{NodeKind}
use Rattle.tpl_tree.specs.declared.node_kind.NodeKind.TheVariants as kind

-- the place at a template's end, or that no path comes there
abbrev pub end_text : Option Place → List ℕ
end_text None = codes "never"
end_text (Some p) = place_text p

-- the line of a pair: its template, the place in which that is entered, and the place at its end
abbrev pub pair_head_text : List ℕ → Place → Option Place → List ℕ
pair_head_text name entry end =
    codes "template \"" ++ (legible name ++ (codes "\" at " ++ (place_text entry ++ (codes " -> " ++ (end_text end ++ codes "\n")))))

-- what is done to the values of a hole; nothing where none may stand, as in no chart of a set
abbrev pub done_text : Option Chain → List ℕ
done_text None = []
done_text (Some chain) = chain_text chain

-- the line of a hole: where it is, and what is done to its values
abbrev pub line_text : ℕ → Option Chain → List ℕ
line_text line chain = codes "  " ++ (decimal line ++ (codes " " ++ (done_text chain ++ codes "\n")))

-- likewise, by the place before the hole; none where no path comes there
abbrev pub hole_text : ℕ → Option Place → Option Chain → List ℕ
hole_text line None chain = []
hole_text line (Some p) chain = line_text line chain

-- the line of a node, which is none where the node is no hole
abbrev pub node_kind_text : Option NodeKind → ℕ → Option Place → List ℕ
node_kind_text (Some (kind.Action pipe)) line at = hole_text line at (chain_in at)
node_kind_text _ line at = []

-- likewise, of a node of a pair, by its number
abbrev pub pair_node_text : ChartData → ℕ → NodesData → ℕ → List ℕ
pair_node_text chart n nodes node =
    node_kind_text (head_kind (nodes_from nodes node)) (head_line (nodes_from nodes node)) (place_in chart.summaries n (before node))

-- the lines of its holes, in the order of the source
abbrev pub holes_text : ChartData → ℕ → NodesData → List ℕ
holes_text chart n nodes = flat_map (pair_node_text chart n nodes) (range_with_len 0 (nodes_size nodes))

-- the lines of a pair; none where the forest has not its template
abbrev pub template_text : ChartData → ℕ → Place → Option (List ℕ × TreeData) → List ℕ
template_text chart n entry None = []
template_text chart n entry (Some t) = pair_head_text t.0 entry (place_in chart.summaries n finish_point) ++ holes_text chart n t.1.nodes

abbrev pub summary_text : ForestData → ChartData → ℕ → Option Summary → List ℕ
summary_text forest chart n None = []
summary_text forest chart n (Some summary) = template_text chart n summary.entry (slice_get forest summary.template)

-- likewise, by the number of the pair; none where there is no such pair
abbrev pub pair_text : ForestData → ChartData → ℕ → List ℕ
pair_text forest chart n = summary_text forest chart n (slice_get chart.summaries n)
