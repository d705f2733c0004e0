-- A predefined escaper that may not stand at a path's place is shown.
use Rattle.std.proofs.Common.{◌≡◌, ℕ, false, Some, ap, ◌∙◌, inl, inr}
use Rattle.place_core.specs.declared.code.Code.TheVariants as code
use Rattle.place_flow.specs.Transfer.{may_use, use_of_node}
use Rattle.place_trace.specs.declared.replay.PathReplay.{PathReplay}
use Rattle.place_show.proofs.Makings.{kind-shown, node-shown, shows-one}
use Rattle.place_show.specs.AtNodes.{ShowsOneAt}
use Rattle.place_show.specs.Made.{IsMadeOne}
use Rattle.place_show.specs.Showings.{IsMisused}
use Rattle.place_show.specs.declared.showing.Showing.{Showing}
use Rattle.place_flow.specs.Uses.{kind_use}
use Rattle.tpl_tree.specs.Forests.{ForestData}
use Rattle.tpl_tree.specs.Trees.{NodesData, head_kind, head_line, nodes_from}
use Rattle.tpl_tree.specs.declared.node_kind.NodeKind.{NodeKind}

pub misuse-shown : (forest : ForestData) (w : PathReplay) (nodes : NodesData) (n : ℕ) (k : NodeKind) (sh : Showing) → head_kind (nodes_from nodes n) ≡ Some k → may_use w.place (kind_use k) ≡ false
    → IsMadeOne forest w code.PredefinedEscaper (head_line (nodes_from nodes n)) n 0 w.place sh → ShowsOneAt forest w nodes n sh
misuse-shown forest w nodes n k sh h misused m there p is =
    let error : IsMisused forest sh m.seen w = record {
      code = m.made.code;
      shown = node-shown forest w nodes n sh there code.PredefinedEscaper m p;
      misused = ap (λ o. may_use w.place (use_of_node o)) (kind-shown forest w nodes n sh there k m.made.node_is h) ∙ misused;
    } in
    shows-one forest w code.PredefinedEscaper (head_line (nodes_from nodes n)) n 0 w.place sh m is (inr (inr (inl error)))
