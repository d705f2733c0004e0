-- What a chart tells of its pairs.
use Rattle.std.specs.Prelude.{◌≡◌, ℕ, List, Option, Some, None, Ok, Err, slice_get, slice_index_or}
use Rattle.html_step.specs.Holes.{Holed, after_hole}
use Rattle.place_core.specs.declared.chain.Chain.{Chain}
use Rattle.place_core.specs.declared.place.Place.{Place}
use Rattle.place_flow.specs.Flows.{nodes_at}
use Rattle.place_chart.specs.Exact.{point_place}
use Rattle.place_chart.specs.Summaries.{pair_number, point_state_in}
use Rattle.place_chart.specs.declared.summary.Summary.{Summary}
use Rattle.tpl_paths.specs.Edges.{Point, before}
use Rattle.tpl_tree.specs.Forests.{ForestData, number_named}
use Rattle.tpl_tree.specs.Trees.{head_kind, nodes_from}
use Rattle.tpl_tree.specs.declared.node_kind.NodeKind.{NodeKind}
use Rattle.tpl_tree.specs.declared.node_kind.NodeKind.TheVariants as kind

-- the summaries of the pairs, and for each the numbers of the pairs that its nodes call
pub record ChartData : Type 0 where
  pub summaries : List Summary
  pub calls : List (List (Option ℕ))

-- the place at a point of a pair, where a path comes there
abbrev pub summary_place : Option Summary → Point → Option Place
summary_place None k = None
summary_place (Some summary) k = point_place (point_state_in summary k)

abbrev pub place_in : List Summary → ℕ → Point → Option Place
place_in summaries n k = summary_place (slice_get summaries n) k

-- what is done to a value of data in a place
abbrev pub holed_chain : Holed → Option Chain
holed_chain (Ok h) = Some h.1
holed_chain (Err e) = None

abbrev pub chain_in : Option Place → Option Chain
chain_in None = None
chain_in (Some p) = holed_chain (after_hole p)

-- the pair that a node of a pair calls: of the template with that name, entered in the place before the node
abbrev pub pair_at : List Summary → Option ℕ → Place → Option ℕ
pair_at summaries None p = None
pair_at summaries (Some t) p = pair_number summaries t p

abbrev pub called_at : ForestData → List Summary → NodeKind → Place → Option ℕ
called_at forest summaries (kind.Template name pipe) p = pair_at summaries (number_named name forest) p
called_at forest summaries _ p = None

abbrev pub called_by : ForestData → List Summary → Option NodeKind → Option Place → Option ℕ
called_by forest summaries None at = None
called_by forest summaries (Some what) None = None
called_by forest summaries (Some what) (Some p) = called_at forest summaries what p

abbrev pub chart_call : ForestData → List Summary → Summary → ℕ → Option ℕ
chart_call forest summaries summary node =
    called_by forest summaries (head_kind (nodes_from (nodes_at forest summary.template) node))
    (point_place (point_state_in summary (before node)))

-- likewise, as it is kept
abbrev pub kept_call : Option (List (Option ℕ)) → ℕ → Option ℕ
kept_call None node = None
kept_call (Some calls) node = slice_index_or calls node None

abbrev pub call_in : List (List (Option ℕ)) → ℕ → ℕ → Option ℕ
call_in calls n node = kept_call (slice_get calls n) node

abbrev pub ArePairCalls : ForestData → List Summary → List (List (Option ℕ)) → Type 0
ArePairCalls forest summaries calls =
    (n node : ℕ) (summary : Summary) → slice_get summaries n ≡ Some summary
    → call_in calls n node ≡ chart_call forest summaries summary node
