-- What a page gets at each node of each pair of a chart, which is known before there is any data.
use Rattle.std.specs.Prelude.{◌≡◌, ℕ, List, Option, Some, None, slice_get, slice_index_or}
use Rattle.page_writer.specs.declared.output.Output.{Output}
use Rattle.page_writer.specs.declared.output.Output.TheVariants as output
use Rattle.place_core.specs.declared.chain.Chain.{Chain}
use Rattle.place_core.specs.declared.place.Place.{Place}
use Rattle.place_flow.specs.Flows.{nodes_at}
use Rattle.place_infer.specs.ChartViews.{ChartData, call_in, chain_in}
use Rattle.place_chart.specs.Exact.{point_place}
use Rattle.place_chart.specs.Summaries.{point_state_in}
use Rattle.place_chart.specs.declared.summary.Summary.{Summary}
use Rattle.text_norm.specs.Scanned.{written_at}
use Rattle.tpl_paths.specs.Edges.{before}
use Rattle.tpl_tree.specs.Forests.{ForestData}
use Rattle.tpl_tree.specs.Trees.{head_kind, nodes_from}
use Rattle.tpl_tree.specs.declared.node_kind.NodeKind.{NodeKind}
use Rattle.tpl_tree.specs.declared.node_kind.NodeKind.TheVariants as kind

-- a text, as it is written at the place before it
abbrev pub by_place : Option Place → List ℕ → Output
by_place None bytes = output.Nothing
by_place (Some p) bytes = output.Text (written_at bytes p)

-- a value, by its chain
abbrev pub by_chain : Option Chain → Output
by_chain None = output.Nothing
by_chain (Some c) = output.Value c

-- a call, by the pair that it enters
abbrev pub by_call : Option ℕ → Output
by_call None = output.Nothing
by_call (Some m) = output.Call m

-- a node, by the place before it: a text as it is written there, a value by what is done to values there, a call by the pair that it enters
abbrev pub node_output : NodeKind → Option Place → Option ℕ → Output
node_output (kind.Text bytes) at call = by_place at bytes
node_output (kind.Action pipe) at call = by_chain (chain_in at)
node_output (kind.Template name pipe) at call = by_call call
node_output _ at call = output.Nothing

-- likewise, where there is such a node
abbrev pub output_at : Option NodeKind → Option Place → Option ℕ → Output
output_at None at call = output.Nothing
output_at (Some what) at call = node_output what at call

-- likewise, a node of a pair, by their numbers
abbrev pub output_of : ForestData → ChartData → Summary → ℕ → ℕ → Output
output_of forest chart summary n node =
    output_at (head_kind (nodes_from (nodes_at forest summary.template) node)) (point_place (point_state_in summary (before node)))
    (call_in chart.calls n node)

-- likewise, as it is kept: by the pairs, and in each by the nodes
abbrev pub kept_output : Option (List Output) → ℕ → Output
kept_output None node = output.Nothing
kept_output (Some kept) node = slice_index_or kept node output.Nothing

abbrev pub output_in : List (List Output) → ℕ → ℕ → Output
output_in outputs n node = kept_output (slice_get outputs n) node

abbrev pub AreOutputs : ForestData → ChartData → List (List Output) → Type 0
AreOutputs forest chart outputs =
    (n node : ℕ) (summary : Summary) → slice_get chart.summaries n ≡ Some summary
    → output_in outputs n node ≡ output_of forest chart summary n node
