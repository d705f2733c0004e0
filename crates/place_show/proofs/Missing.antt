-- A call of a template that the forest lacks is shown.
use Rattle.std.proofs.Common.{◌≡◌, ℕ, List, Option, Some, None, inl, inr}
use Rattle.place_core.specs.declared.code.Code.TheVariants as code
use Rattle.place_trace.specs.declared.replay.PathReplay.{PathReplay}
use Rattle.place_show.proofs.Makings.{kind-shown, node-shown, shows-one}
use Rattle.place_show.specs.AtNodes.{ShowsOneAt}
use Rattle.place_show.specs.Made.{IsMadeOne}
use Rattle.place_show.specs.Showings.{IsMissing}
use Rattle.place_show.specs.declared.showing.Showing.{Showing}
use Rattle.tpl_tree.specs.Forests.{ForestData, number_named}
use Rattle.tpl_tree.specs.Trees.{NodesData, head_kind, head_line, nodes_from}
use Rattle.tpl_tree.specs.declared.node_kind.NodeKind.TheVariants as kind
use Rattle.tpl_tree.specs.declared.pipe.Pipe.{Pipe}

pub missing-shown : (forest : ForestData) (w : PathReplay) (nodes : NodesData) (n : ℕ) (name : List ℕ) (pipe : Option Pipe) (sh : Showing) → head_kind (nodes_from nodes n) ≡ Some (kind.Template name pipe) → number_named name forest ≡ None
    → IsMadeOne forest w code.NoSuchTemplate (head_line (nodes_from nodes n)) n 0 w.place sh → ShowsOneAt forest w nodes n sh
missing-shown forest w nodes n name pipe sh h missing m there p is =
    let error : IsMissing forest sh m.seen w = record {
      name = name;
      pipe = pipe;
      code = m.made.code;
      call = kind-shown forest w nodes n sh there (kind.Template name pipe) m.made.node_is h;
      shown = node-shown forest w nodes n sh there code.NoSuchTemplate m p;
      missing = missing;
    } in
    shows-one forest w code.NoSuchTemplate (head_line (nodes_from nodes n)) n 0 w.place sh m is (inr (inr (inr (inl error))))
