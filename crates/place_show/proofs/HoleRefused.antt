-- A hole that a path's place refuses is shown.
use Rattle.std.proofs.Common.{◌≡◌, ℕ, Some, Err, inl, inr}
use Rattle.html_step.proofs.HoleOrder.{one-hole}
use Rattle.html_step.specs.Holes.{after_hole}
use Rattle.place_core.specs.declared.code.Code.{Code}
use Rattle.place_trace.specs.declared.replay.PathReplay.{PathReplay}
use Rattle.place_show.proofs.Makings.{kind-shown, node-shown, shows-one}
use Rattle.place_show.specs.AtNodes.{ShowsOneAt}
use Rattle.place_show.specs.Made.{IsMadeOne}
use Rattle.place_show.specs.Showings.{IsHoleRefused, shown_state}
use Rattle.place_show.specs.declared.showing.Showing.{Showing}
use Rattle.tpl_tree.specs.Forests.{ForestData}
use Rattle.tpl_tree.specs.Trees.{NodesData, head_kind, head_line, nodes_from}
use Rattle.tpl_tree.specs.declared.node_kind.NodeKind.TheVariants as kind
use Rattle.tpl_tree.specs.declared.pipe.Pipe.{Pipe}

pub hole-shown : (forest : ForestData) (w : PathReplay) (nodes : NodesData) (n : ℕ) (pipe : Pipe) (e : Code) (sh : Showing) → head_kind (nodes_from nodes n) ≡ Some (kind.Action pipe) → after_hole w.place ≡ Err e
    → IsMadeOne forest w e (head_line (nodes_from nodes n)) n 0 w.place sh → ShowsOneAt forest w nodes n sh
hole-shown forest w nodes n pipe e sh h refused m there p is =
    let error : IsHoleRefused forest sh m.seen w (shown_state is) = record {
      pipe = pipe;
      hole = kind-shown forest w nodes n sh there (kind.Action pipe) m.made.node_is h;
      shown = node-shown forest w nodes n sh there e m p;
      refused = rw m.made.code ((one-hole w.place (shown_state is) is.own).1 e refused);
    } in
    shows-one forest w e (head_line (nodes_from nodes n)) n 0 w.place sh m is (inr (inl error))
