-- The explanation of a pair of a chart: what is said of each pair that it reaches.
use Rattle.std.specs.Cmp.Lexicographic.{slice_cmp}
use Rattle.std.specs.List.{IsDistinct}
use Rattle.std.specs.Ordering.{nat_cmp, ordering_then}
use Rattle.std.specs.Prelude.{◌≡◌, ◌<◌, ◌↔◌, ℕ, nat_eq, flat_map, length, slice_get, Contains, IsPermutation, IsSortedByKey, List, [], ◌∷◌, Option, Some, None}
use Rattle.std.specs.declared.cmp.Ordering.{Ordering}
use Rattle.html_step.specs.PlaceText.{place_text}
use Rattle.place_explain.specs.PairText.{pair_text}
use Rattle.place_flow.specs.Flows.{nodes_at}
use Rattle.place_infer.specs.ChartViews.{ChartData, call_in}
use Rattle.place_trace.specs.Replays.{name_or_none}
use Rattle.place_chart.specs.declared.summary.Summary.{Summary}
use Rattle.tpl_tree.specs.Forests.{ForestData, tree_name_at}
use Rattle.tpl_tree.specs.Trees.{NodesData, no_nodes, nodes_size}

-- the nodes of a pair's template
abbrev pub nodes_of_summary : ForestData → Option Summary → NodesData
nodes_of_summary forest None = no_nodes
nodes_of_summary forest (Some summary) = nodes_at forest summary.template

-- a node of a pair calls a pair
pub record PairCalls (forest : ForestData) (chart : ChartData) (n node m : ℕ) : Type 0 where
  pub within : node < nodes_size (nodes_of_summary forest (slice_get chart.summaries n))
  pub call : call_in chart.calls n node ≡ Some m

-- the calls of these nodes, one in the pair that the one before it calls, lead from a pair to a pair
abbrev pub PairLeads : ForestData → ChartData → ℕ → List ℕ → ℕ → Type 0
PairLeads forest chart n [] m = n ≡ m
PairLeads forest chart n (node ∷ nodes) m = (k : ℕ) × PairCalls forest chart n node k × PairLeads forest chart k nodes m

-- a pair reaches a pair: itself, and those to which calls lead from it
abbrev pub Reaches : ForestData → ChartData → ℕ → ℕ → Type 0
Reaches forest chart n m = (nodes : List ℕ) × PairLeads forest chart n nodes m

-- what pairs are ordered by: the name of the template, the printed place, and the pair's own number
abbrev pub Key : Type 0
Key = List ℕ × List ℕ × ℕ

abbrev pub key_of_summary : ForestData → Option Summary → ℕ → Key
key_of_summary forest None n = ([], [], n)
key_of_summary forest (Some summary) n = (name_or_none (tree_name_at forest summary.template), place_text summary.entry, n)

abbrev pub pair_key_of : ForestData → ChartData → ℕ → Key
pair_key_of forest chart n = key_of_summary forest (slice_get chart.summaries n) n

-- likewise, texts in byte order
abbrev pub key_cmp : Key → Key → Ordering
key_cmp a b = ordering_then (ordering_then (slice_cmp nat_cmp a.0 b.0) (slice_cmp nat_cmp a.1 b.1)) (nat_cmp a.2 b.2)

-- The text says of each pair that a pair reaches, once, what there is to say of it, in order.
pub record Explains (forest : ForestData) (chart : ChartData) (start : ℕ) (text : List ℕ) : Type 0 where
  pub pairs : List ℕ
  pub reached : (n : ℕ) → Contains pairs n ↔ (Reaches forest chart start n × (n < length chart.summaries))
  pub once : IsDistinct nat_eq pairs
  pub ordered : IsSortedByKey (pair_key_of forest chart) key_cmp pairs
  pub lines : text ≡ flat_map (pair_text forest chart) pairs

-- the pairs that a pair reaches, each once, as they are found
pub record AreReached (forest : ForestData) (chart : ChartData) (start : ℕ) (pairs : List ℕ) : Type 0 where
  pub reached : (n : ℕ) → Contains pairs n ↔ (Reaches forest chart start n × (n < length chart.summaries))
  pub once : IsDistinct nat_eq pairs

-- pairs in order
pub record AreOrdered (forest : ForestData) (chart : ChartData) (pairs ordered : List ℕ) : Type 0 where
  pub same : IsPermutation pairs ordered
  pub sorted : IsSortedByKey (pair_key_of forest chart) key_cmp ordered
