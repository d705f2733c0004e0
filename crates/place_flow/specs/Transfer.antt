-- Where an edge leads from a place: what stands there may refuse it.
use Rattle.std.specs.Prelude.{ℕ, Bool, true, false, Option, Some, None, if◌then◌else◌}
use Rattle.place_flow.specs.HtmlCovering.{behind_hole, behind_text}
use Rattle.place_core.specs.declared.place.Place.{Place}
use Rattle.html_step.specs.Holes.{after_hole, may_escape}
use Rattle.html_step.specs.Steps.{after_text}
use Rattle.html_step.specs.declared.escaper.Escaper.TheVariants as escaper
use Rattle.place_flow.specs.Uses.{kind_use}
use Rattle.place_flow.specs.declared.uses.EscaperUse.{EscaperUse}
use Rattle.place_flow.specs.declared.uses.EscaperUse.TheVariants as uses
use Rattle.place_flow.specs.declared.predefined.Predefined.TheVariants as predefined
use Rattle.tpl_paths.specs.Edges.{Edge, Point, calls, fills, from_of, passes, picks, writes}
use Rattle.tpl_paths.specs.declared.point.Point.TheVariants as point
use Rattle.tpl_tree.specs.Forests.{ForestData, number_named}
use Rattle.tpl_tree.specs.Trees.{head_kind, nodes_from}
use Rattle.tpl_tree.specs.declared.node_kind.NodeKind.{NodeKind}
use Rattle.place_flow.specs.Flows.{nodes_at}
use Rattle.place_flow.specs.declared.step.EdgeStep.{EdgeStep}
use Rattle.place_flow.specs.declared.step.EdgeStep.TheVariants.{Reaches, Enters, Refused}

-- how the node before which a point stands uses the predefined escapers
abbrev pub use_of_node : Option NodeKind → EscaperUse
use_of_node (Some kind) = kind_use kind
use_of_node None = uses.Nothing

abbrev pub use_at : ForestData → ℕ → Point → EscaperUse
use_at forest t (point.Before n) = use_of_node (head_kind (nodes_from (nodes_at forest t) n))
use_at forest t (point.Again n) = uses.Nothing
use_at forest t (point.Head n) = uses.Nothing
use_at forest t (point.Past n) = uses.Nothing
use_at forest t point.Finish = uses.Nothing

-- whether such a use may stand in a place
abbrev pub may_use : Place → EscaperUse → Bool
may_use p uses.Nothing = true
may_use p (uses.Last predefined.Html) = may_escape p escaper.Html
may_use p (uses.Last predefined.Urlquery) = may_escape p escaper.Urlquery
may_use p uses.Misused = false

abbrev pub reaches_or_refused : Option Place → EdgeStep
reaches_or_refused (Some q) = Reaches q
reaches_or_refused None = Refused

abbrev pub enters_or_refused : Option ℕ → Place → EdgeStep
enters_or_refused (Some callee) p = Enters callee p
enters_or_refused None p = Refused

-- a text and a hole lead to the place after them, a call into the template of its name, and nothing else changes the place
abbrev pub edge_step : ForestData → Edge → Place → EdgeStep
edge_step forest (writes n bytes to) p = reaches_or_refused (behind_text (after_text bytes p))
edge_step forest (fills n pipe to) p = reaches_or_refused (behind_hole (after_hole p))
edge_step forest (calls n name to) p = enters_or_refused (number_named name forest) p
edge_step forest (picks from choice to) p = Reaches p
edge_step forest (passes from to) p = Reaches p

abbrev pub step_of : ForestData → ℕ → Edge → Place → EdgeStep
step_of forest t e p = if may_use p (use_at forest t (from_of e)) then edge_step forest e p else Refused
