-- Two paths that stand in one template take the edge of one number: by what it is, they go on as ones that met apart.
use Rattle.std.proofs.Common.{◌≡◌, ℕ, Bool, true, false, List, Option, Some, None, Result, Ok, Err, IfSome, length, sym, ap, ◌∙◌, subst}
use Rattle.std.specs.Option.{option_map}
use Rattle.std.specs.Prelude.{slice_get}
use Rattle.page_io.specs.declared.stop.Memory.{Memory}
use Rattle.place_core.proofs.Semilattices.{one_value}
use Rattle.place_core.specs.page.States.{LexState}
use Rattle.place_core.specs.page.Tags.{ValueState}
use Rattle.place_flow.proofs.AtNodes.{got-within, node-at}
use Rattle.place_flow.specs.FlowViews.{IsNodeNumber}
use Rattle.place_flow.specs.Flows.{edges_at, nodes_at}
use Rattle.place_show.specs.LastApart.{IsFoundIn}
use Rattle.place_show.specs.Showings.{shown_state}
use Rattle.place_show.specs.Together.{BothWent, IsFoundOn, IsPassedEdge, IsQuiet, LastPlaces, PassMove, PassedNode, StepTogether, WritesNode}
use Rattle.place_core.specs.declared.place.Place.{Place}
use Rattle.place_show.specs.Unknown.{PassText}
use Rattle.place_trace.specs.Replays.{GoesAlong, WentAlong}
use Rattle.place_trace.specs.declared.replay.PathReplay.{PathReplay}
use Rattle.tpl_paths.specs.EdgeViews.{edge_at}
use Rattle.tpl_paths.specs.Edges.{Edge, calls, fills, passes, picks, writes}
use Rattle.tpl_paths.specs.Paths.{along}
use Rattle.tpl_paths.specs.declared.edge.Edge.{Edge as ReadEdge}
use Rattle.tpl_paths.specs.declared.edge.Edge.TheVariants as edge
use Rattle.tpl_paths.specs.declared.point.Point.{Point}
use Rattle.tpl_paths.specs.declared.choice.Way.{Way}
use Rattle.tpl_tree.specs.Forests.{ForestData}
use Rattle.tpl_tree.specs.Trees.{head_kind, nodes_from}
use Rattle.tpl_tree.specs.declared.node_kind.NodeKind.{NodeKind}
use Rattle.tpl_tree.specs.declared.node_kind.NodeKind.TheVariants as kind

-- what an edge is, as the code has it
pub writes-node : (e : Edge) (n : ℕ) (to : Point) → edge_at e ≡ edge.Writes n to → WritesNode n e
writes-node (writes m bytes to2) n to h = cc
writes-node (fills m pipe to2) n to h = cc
writes-node (calls m name to2) n to h = cc
writes-node (picks from choice to2) n to h = cc
writes-node (passes from to2) n to h = cc

pub quiet-call : (e : Edge) (n : ℕ) (to : Point) → edge_at e ≡ edge.Calls n to → IsQuiet e
quiet-call (writes m bytes to2) n to h = cc
quiet-call (fills m pipe to2) n to h = cc
quiet-call (calls m name to2) n to h = tt
quiet-call (picks from choice to2) n to h = tt
quiet-call (passes from to2) n to h = tt

pub quiet-choice : (e : Edge) (from : Point) (choice : Way) (to : Point) → edge_at e ≡ edge.Picks from choice to → IsQuiet e
quiet-choice (writes m bytes to2) from choice to h = cc
quiet-choice (fills m pipe to2) from choice to h = cc
quiet-choice (calls m name to2) from choice to h = tt
quiet-choice (picks from2 choice2 to2) from choice to h = tt
quiet-choice (passes from2 to2) from choice to h = tt

pub quiet-pass : (e : Edge) (from to : Point) → edge_at e ≡ edge.Passes from to → IsQuiet e
quiet-pass (writes m bytes to2) from to h = cc
quiet-pass (fills m pipe to2) from to h = cc
quiet-pass (calls m name to2) from to h = tt
quiet-pass (picks from2 choice2 to2) from to h = tt
quiet-pass (passes from2 to2) from to h = tt

-- an edge of a number, from what is told of it
pub told-edge : (o : Option Edge) (read : ReadEdge) (e : Edge) → Some read ≡ option_map edge_at o → o ≡ Some e → edge_at e ≡ read
told-edge o read e h is = one_value (edge_at e) read (sym (h ∙ ap (option_map edge_at) is))

-- on an edge that neither writes nor fills
quiet-passes : (e : Edge) (s r : LexState ValueState) → IsQuiet e → PassMove true (along e) s r
quiet-passes (writes m bytes to) s r h = absurd h
quiet-passes (fills m pipe to) s r h = absurd h
quiet-passes (calls m name to) s r h = ((tt, tt), (tt, tt))
quiet-passes (picks from choice to) s r h = ((tt, tt), (tt, tt))
quiet-passes (passes from to) s r h = ((tt, tt), (tt, tt))

quiet-found : (e : Edge) (s r : LexState ValueState) → IsQuiet e → IsFoundOn (along e) s r None
quiet-found (writes m bytes to) s r h = absurd h
quiet-found (fills m pipe to) s r h = absurd h
quiet-found (calls m name to) s r h = tt
quiet-found (picks from choice to) s r h = tt
quiet-found (passes from to) s r h = tt

pub quiet-passed : (e : Edge) (x y : Place) → IsQuiet e → IsPassedEdge true e x y None
quiet-passed e x y h s r own other = (quiet-passes e s r h, quiet-found e s r h)

-- on an edge that writes the text of a node
text-passes : (apart : Bool) (n : ℕ) (bytes : List ℕ) (to : Point) (s r : LexState ValueState) → PassText apart bytes s r → PassMove apart (along (writes n bytes to)) s r
text-passes true n bytes to s r h = ((h.0, tt), (h.1, tt))
text-passes false n bytes to s r h = (h, tt, tt)

text-found : (n : ℕ) (bytes : List ℕ) (to : Point) (s r : LexState ValueState) (found : LastPlaces) → IsFoundIn (length bytes) bytes s r found → IsFoundOn (along (writes n bytes to)) s r found
text-found n bytes to s r None h = h
text-found n bytes to s r (Some x) h = h

one-text : (bytes text : List ℕ) (o : Option NodeKind) → o ≡ Some (kind.Text bytes) → o ≡ Some (kind.Text text) → text ≡ bytes
one-text bytes text o h k = (let same : Some (kind.Text bytes) ≡ Some (kind.Text text) = sym h ∙ k in cc)

module _ (apart : Bool) (forest : ForestData) (t : ℕ) (x y : Place) (found : LastPlaces) where
  written : (n m : ℕ) (bytes : List ℕ) (to : Point) → IsNodeNumber (nodes_at forest t) (writes m bytes to) → m ≡ n → PassedNode apart forest t n x y found
      → IsPassedEdge apart (writes m bytes to) x y found
  written n m bytes to number same p s r own other =
      let here : head_kind (nodes_from (nodes_at forest t) n) ≡ Some (kind.Text bytes) = ap (λ (i : ℕ). head_kind (nodes_from (nodes_at forest t) i)) (sym same) ∙ number in
      let text : p.bytes ≡ bytes = one-text bytes p.bytes (head_kind (nodes_from (nodes_at forest t) n)) here p.text in
      let h = p.passes_on s r own other in (
        text-passes apart m bytes to s r (subst (λ (b : List ℕ). PassText apart b s r) text h.0),
        text-found m bytes to s r found (subst (λ (b : List ℕ). IsFoundIn (length b) b s r found) text h.1),
      )

  on-edge : (n : ℕ) (e : Edge) → WritesNode n e → IsNodeNumber (nodes_at forest t) e → PassedNode apart forest t n x y found → IsPassedEdge apart e x y found
  on-edge n (writes m bytes to) h number p = written n m bytes to number h p
  on-edge n (fills m pipe to) h number p = absurd h
  on-edge n (calls m name to) h number p = absurd h
  on-edge n (picks from choice to) h number p = absurd h
  on-edge n (passes from to) h number p = absurd h

  pub text-passed : (n number : ℕ) (e : Edge) → slice_get (edges_at forest t) number ≡ Some e → WritesNode n e → PassedNode apart forest t n x y found → IsPassedEdge apart e x y found
  text-passed n number e at h p = on-edge n e h (node-at (nodes_at forest t) e (got-within (edges_at forest t) number e at)) p

-- what the code finds of a text
pub text-found-by : (apart : Bool) (forest : ForestData) (t n number : ℕ) (x y : Place) (o : Option LastPlaces)
    → ((e : Edge) → slice_get (edges_at forest t) number ≡ Some e → WritesNode n e) → IfSome o (PassedNode apart forest t n x y)
    → IfSome o (λ (found : LastPlaces). (e : Edge) → slice_get (edges_at forest t) number ≡ Some e → IsPassedEdge apart e x y found)
text-found-by apart forest t n number x y (Some found) wrote p = λ e at. text-passed apart forest t x y found n number e at (wrote e at) p
text-found-by apart forest t n number x y None wrote p = tt

-- both go along the edge of a number
module _ (forest : ForestData) (number : ℕ) (w v w1 v1 : PathReplay) where
  one-edge : (e d : Edge) → w.template ≡ v.template → slice_get (edges_at forest w.template) number ≡ Some e → slice_get (edges_at forest v.template) number ≡ Some d → d ≡ e
  one-edge e d same at other_at = one_value d e (sym other_at ∙ (ap (λ (t : ℕ). slice_get (edges_at forest t) number) (sym same) ∙ at))

  pub both-went : (r : Result Bool Memory) → w.template ≡ v.template → WentAlong forest w w1 number (Ok true) → WentAlong forest v v1 number r → BothWent forest number w v w1 v1 r
  both-went (Ok true) same g h = (g.0, g.1, g.2, subst (λ (e : Edge). GoesAlong forest v v1 (along e)) (one-edge g.0 h.0 same g.1 h.1) h.2)
  both-went (Ok false) same g h = tt
  both-went (Err m) same g h = tt

-- what both come to by it
pub edge-both : (apart : Bool) (forest : ForestData) (number : ℕ) (w v w1 v1 : PathReplay) (found : LastPlaces) (b : Bool) → b ≡ true → BothWent forest number w v w1 v1 (Ok b)
    → ((e : Edge) → slice_get (edges_at forest w.template) number ≡ Some e → IsPassedEdge apart e w.place v.place found) → StepTogether apart forest w v w1 v1 found
edge-both apart forest number w v w1 v1 found true same h passed = record {
  move = along h.0;
  goes = h.2;
  other_goes = h.3;
  passes_on = λ is js. (passed h.0 h.1 (shown_state is) (shown_state js) (is.own, is.valid) (js.own, js.valid)).0;
  last = λ is js. (passed h.0 h.1 (shown_state is) (shown_state js) (is.own, is.valid) (js.own, js.valid)).1;
}
edge-both apart forest number w v w1 v1 found false same h passed = cc
