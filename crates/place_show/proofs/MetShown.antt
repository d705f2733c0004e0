-- A text that is refused on two paths which met apart and then went one way to it is shown.
use Rattle.std.proofs.Common.{◌≡◌, ℕ, List, [], ◌++◌, Some, None, append-nil, sym, ap, ◌∙◌, subst, inl, inr}
use Rattle.place_core.proofs.Semilattices.{none_some, one_value}
use Rattle.place_core.specs.page.States.{LexState}
use Rattle.place_core.specs.page.Tags.{ValueState}
use Rattle.place_core.specs.place.PathPairs.{ClashesApart}
use Rattle.place_core.specs.place.StatePlaces.{placed}
use Rattle.place_core.specs.declared.place.Place.{Place}
use Rattle.place_core.specs.declared.step_err.StepErr.{StepErr}
use Rattle.place_flow.specs.Errors.{MeetApart}
use Rattle.place_show.proofs.Makings.{kind-shown, meets-at, shown-by, shown-by-other}
use Rattle.place_show.proofs.TwoShown.{two-shown}
use Rattle.place_show.specs.LastApart.{IsFoundIn, IsLastAlong}
use Rattle.place_show.specs.Made.{IsMadeTwo}
use Rattle.place_show.specs.Showings.{IsShownBy, MetApart, shown_state}
use Rattle.place_show.specs.Together.{IsLastSoFar, LastPlaces, ShowsMetAt, latest}
use Rattle.place_show.specs.Unknown.{IsOwn}
use Rattle.place_show.specs.declared.showing.Showing.{Showing}
use Rattle.place_trace.specs.declared.replay.PathReplay.{PathReplay}
use Rattle.tpl_paths.specs.Edges.{before}
use Rattle.tpl_paths.specs.Paths.{Move}
use Rattle.tpl_tree.specs.Forests.{ForestData, tree_name_at}
use Rattle.tpl_tree.specs.Trees.{NodesData, head_kind, head_line, head_seams, nodes_from, text_line}
use Rattle.tpl_tree.specs.declared.node_kind.NodeKind.TheVariants as kind

-- the last point in the texts of moves, or in the text behind them
last-of-all : (common : List Move) (s r s1 r1 : LexState ValueState) (upto : ℕ) (bytes : List ℕ) (x : Place × Place) (last found : LastPlaces)
    → ((p q : Place) → IsLastAlong [] upto bytes s1 r1 p q → IsLastAlong (common ++ []) upto bytes s r p q) → IsLastSoFar common s r s1 r1 last → IsFoundIn upto bytes s1 r1 found
    → latest last found ≡ Some x → IsLastAlong (common ++ []) upto bytes s r x.0 x.1
last-of-all common s r s1 r1 upto bytes x last (Some y) more so_far f is =
    subst (λ (z : Place × Place). IsLastAlong (common ++ []) upto bytes s r z.0 z.1) (one_value y x is) (more y.0 y.1 f)
last-of-all common s r s1 r1 upto bytes x (Some y) None more so_far f is =
    subst (λ (z : Place × Place). IsLastAlong (common ++ []) upto bytes s r z.0 z.1) (one_value y x is) (so_far [] upto bytes f)
last-of-all common s r s1 r1 upto bytes x None None more so_far f is = absurd (none_some x is)

pub met-shown : (forest : ForestData) (w v : PathReplay) (nodes : NodesData) (n : ℕ) (bytes : List ℕ) (e : StepErr Place) (last found : LastPlaces) (at : Place × Place) (sh : Showing)
    → head_kind (nodes_from nodes n) ≡ Some (kind.Text bytes)
    → ((s r : LexState ValueState) → IsOwn w.place s → IsOwn v.place r → ClashesApart bytes s r e.code e.at)
    → ((s r : LexState ValueState) → placed s ≡ Some w.place → placed r ≡ Some v.place → IsFoundIn e.at bytes s r found)
    → latest last found ≡ Some at
    → IsMadeTwo forest w v e.code (text_line bytes (head_line (nodes_from nodes n)) (head_seams (nodes_from nodes n)) e.at) n e.at at.0 at.1 sh
    → ShowsMetAt forest w v nodes n last sh
met-shown forest w v nodes n bytes e last found at sh text clashes finds chosen m there stands meet w0 v0 is js met together =
    let t = together is js in
    let s = shown_state t.here in
    let r = shown_state t.other_here in
    let by : IsShownBy forest sh m.seen w =
    shown-by forest w e.code (text_line bytes (head_line (nodes_from nodes n)) (head_seams (nodes_from nodes n)) e.at) n e.at at.0 sh m.seen m.made m.is t.here in
    let other_by : IsShownBy forest sh m.other v = shown-by-other forest w v at.1 sh m.seen m.other by meet m.other_is t.other_here in
    let along =
    subst (λ (ms : List Move). IsLastAlong ms e.at bytes (shown_state is) (shown_state js) at.0 at.1) (append-nil t.common)
    (last-of-all t.common (shown_state is) (shown_state js) s r e.at bytes at last found (t.more [] e.at bytes) t.so_far (finds s r t.here.own t.other_here.own) chosen) in
    let clash = clashes s r (t.here.own, t.here.valid) (t.other_here.own, t.other_here.valid) in
    let error : MetApart forest sh m.seen m.other w v t.here.moves t.other_here.moves = record {
      bytes = bytes;
      point = stands ∙ sym (ap before m.made.node_is);
      text = kind-shown forest w nodes n sh there (kind.Text bytes) m.made.node_is text;
      first = is.moves;
      other_first = js.moves;
      common = t.common;
      moves = t.moves;
      other_moves = t.other_moves;
      meet = meets-at forest w0 v0 is js sh.root met (ap (tree_name_at forest) (sym t.root) ∙ by.root);
      met = subst (λ (ms : List Move). MeetApart ms (shown_state is) (shown_state js)) (append-nil t.common) (t.met [] tt tt);
      clash = rw (m.made.code, m.made.byte_is) clash;
      places = rw (m.made.byte_is, m.is.place, m.other_is.place) along;
      line = rw (m.made.node_is, m.made.byte_is, there) m.made.line_is;
    } in
    two-shown forest sh w v m.seen m.other meet by other_by m.paths (inr (inr (inl error)))
