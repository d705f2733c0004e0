-- A text that a path's place refuses is shown.
use Rattle.std.proofs.Common.{◌≡◌, ℕ, List, Some, Err, sym, ap, ◌∙◌, inl}
use Rattle.html_step.proofs.OneTexts.{one-text}
use Rattle.html_step.specs.Steps.{after_text}
use Rattle.place_core.specs.declared.place.Place.{Place}
use Rattle.place_core.specs.declared.step_err.StepErr.{StepErr}
use Rattle.place_trace.specs.declared.replay.PathReplay.{PathReplay}
use Rattle.place_show.proofs.Makings.{kind-shown, shows-one}
use Rattle.place_show.specs.AtNodes.{ShowsOneAt}
use Rattle.place_show.specs.Made.{IsMadeOne}
use Rattle.place_show.specs.Showings.{IsTextRefused, shown_state}
use Rattle.place_show.specs.declared.showing.Showing.{Showing}
use Rattle.tpl_paths.specs.Edges.{before}
use Rattle.tpl_tree.specs.Forests.{ForestData}
use Rattle.tpl_tree.specs.Trees.{NodesData, head_kind, head_line, head_seams, nodes_from, text_line}
use Rattle.tpl_tree.specs.declared.node_kind.NodeKind.TheVariants as kind

pub text-shown : (forest : ForestData) (w : PathReplay) (nodes : NodesData) (n : ℕ) (bytes : List ℕ) (e : StepErr Place) (sh : Showing) → head_kind (nodes_from nodes n) ≡ Some (kind.Text bytes) → after_text bytes w.place ≡ Err e
    → IsMadeOne forest w e.code (text_line bytes (head_line (nodes_from nodes n)) (head_seams (nodes_from nodes n)) e.at) n e.at e.before sh → ShowsOneAt forest w nodes n sh
text-shown forest w nodes n bytes e sh h refused m there p is =
    let error : IsTextRefused forest sh m.seen w (shown_state is) = record {
      bytes = bytes;
      point = p ∙ sym (ap before m.made.node_is);
      text = kind-shown forest w nodes n sh there (kind.Text bytes) m.made.node_is h;
      refused = rw (m.made.code, m.made.byte_is, m.is.place) ((one-text bytes w.place (shown_state is) is.own).1 e refused);
      line = rw (m.made.node_is, m.made.byte_is, there) m.made.line_is;
    } in
    shows-one forest w e.code (text_line bytes (head_line (nodes_from nodes n)) (head_seams (nodes_from nodes n)) e.at) n e.at e.before sh m is (inl error)
