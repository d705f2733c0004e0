-- Where an error is shown, one stands on a path of the root that is shown, or on two.
use Rattle.std.proofs.Common.{◌≡◌, ℕ, false, List, [], ◌∷◌, ◌++◌, Option, Some, refl, sym, ap, ◌∙◌, subst, inl, inr}
use Rattle.place_core.proofs.Semilattices.{one_value}
use Rattle.place_core.specs.declared.place.Place.{Place}
use Rattle.place_core.specs.page.Html.{start}
use Rattle.place_core.specs.page.States.{LexState}
use Rattle.place_core.specs.page.Tags.{ValueState}
use Rattle.place_core.specs.place.StatePlaces.{placed}
use Rattle.place_flow.proofs.Goings.{read-append}
use Rattle.place_flow.proofs.NamedParts.{named, numbered, same_nodes, same_use}
use Rattle.place_flow.specs.Covering.{read_moves}
use Rattle.place_flow.specs.Errors.{EdgeClashes, EdgeClashesApart, Errs}
use Rattle.place_flow.specs.HtmlCovering.{html_language}
use Rattle.place_flow.specs.Transfer.{may_use, use_at}
use Rattle.place_show.proofs.Makings.{meets-at}
use Rattle.place_show.proofs.NodeEdges.{IsLive, LeadsOn, live-path, some-edge}
use Rattle.place_show.specs.NoErrors.{HasNoError, HasNoOtherError, OnlyEndsAreShown, ShownErrorsStand, stands_at}
use Rattle.place_show.specs.Showings.{DoNotJoin, HoleClashes, IsEndElsewhere, IsShownBy, IsTextRefused, Meet, MetApart, OneError, Shows, ShowsTwo, TextClashes, TwoErrors, kind_of_node, path_state_after}
use Rattle.place_show.specs.declared.showing.Seen.{Seen}
use Rattle.place_show.specs.declared.showing.Showing.{Showing}
use Rattle.place_trace.specs.Replays.{opens_of}
use Rattle.place_trace.specs.declared.replay.PathReplay.{PathReplay}
use Rattle.place_trace.specs.declared.replay.ReplayedCall.{ReplayedCall}
use Rattle.tpl_paths.proofs.Appends.{prefix-is-path, reached-append}
use Rattle.tpl_paths.specs.Edges.{Edge, Point, Within, before, calls, edges_in, fills, finish_point, from_of, writes}
use Rattle.tpl_paths.specs.Paths.{IsPath, Move, Open, Standing, at_root, open_standing, reached}
use Rattle.tpl_tree.specs.Forests.{ForestData, HasAscendingNames, number_named, tree_name_at}
use Rattle.tpl_tree.specs.Trees.{NodesData, head_kind, nodes_from}
use Rattle.tpl_tree.specs.declared.node_kind.NodeKind.{NodeKind}
use Rattle.tpl_tree.specs.declared.node_kind.NodeKind.TheVariants as kind

-- a path that is shown, as one of the root by its name
record ShownPath (forest : ForestData) (root : List ℕ) (w : PathReplay) (ms : List Move) : Type 0 where
  path : IsPath forest (at_root forest root) ms
  name : List ℕ
  number : number_named name forest ≡ Some w.template
  stands : stands_at forest root ms ≡ open_standing (opens_of forest w.open_calls.items) name w.point
  own : placed (path_state_after ms) ≡ Some w.place

shown-path : (forest : ForestData) (sh : Showing) (seen : Seen) (w : PathReplay) → HasAscendingNames forest → (by : IsShownBy forest sh seen w) → ShownPath forest sh.root w by.is.moves
shown-path forest sh seen w up by =
    let same : by.is.root_name ≡ sh.root = one_value by.is.root_name sh.root (sym by.is.root_is ∙ by.root) in
    record {
      path = subst (λ (r : List ℕ). IsPath forest (at_root forest r) by.is.moves) same by.is.path;
      name = by.is.name;
      number = numbered forest w.template by.is.name up by.is.name_is;
      stands = ap (λ (r : List ℕ). reached forest (at_root forest r) by.is.moves) (sym same) ∙ by.is.stands;
      own = by.is.own;
    }

-- an edge of the node before which it stands
leads : (forest : ForestData) (root : List ℕ) (w : PathReplay) (ms : List Move) (n : ℕ) → (p : ShownPath forest root w ms) → w.point ≡ before n → IsLive forest p.name (before n)
leads forest root w ms n p at =
    let live = live-path forest root ms p.path in
    subst (λ (k : Point). IsLive forest p.name k) at (subst (λ (a : Standing). IsLive forest a.template a.at) p.stands live)

leads-by : (forest : ForestData) (root : List ℕ) (w : PathReplay) (ms : List Move) (n : ℕ) (what : NodeKind) → (p : ShownPath forest root w ms) → w.point ≡ before n → kind_of_node forest w.template n ≡ Some what
    → LeadsOn what n (edges_in forest p.name)
leads-by forest root w ms n what p at is =
    let live = leads forest root w ms n p at in
    let same : live.what ≡ what = one_value live.what what (sym live.is ∙ (ap (λ (x : NodesData). head_kind (nodes_from x n)) (same_nodes forest w.template p.name p.number) ∙ is)) in
    subst (λ (x : NodeKind). LeadsOn x n (edges_in forest p.name)) same live.leads

module _ (forest : ForestData) (root : List ℕ) (free : HasNoOtherError forest root) where
  -- no error of one path stands on it
  not-one : (w : PathReplay) (ms : List Move) (p : ShownPath forest root w ms) (e : Edge) → Within e (edges_in forest p.name) → w.point ≡ from_of e → Errs forest p.name e (path_state_after ms) → ⊥
  not-one w ms p e inside at errs =
      free.one ms e p.path (subst (λ (a : Standing). Within e (edges_in forest a.template)) (sym p.stands) inside) (ap (λ (a : Standing). a.at) p.stands ∙ at)
      (subst (λ (a : Standing). Errs forest a.template e (path_state_after ms)) (sym p.stands) errs)

  not-misused : (w : PathReplay) (ms : List Move) (p : ShownPath forest root w ms) (n : ℕ) → w.point ≡ before n → may_use w.place (use_at forest w.template (before n)) ≡ false → ⊥
  not-misused w ms p n at bad =
      let live = leads forest root w ms n p at in
      let e = some-edge live.what n (edges_in forest p.name) live.leads in
      not-one w ms p e.0 e.1 (at ∙ sym e.2)
      (inl (record {
        own = w.place;
        stands = p.own;
        misused = ap (may_use w.place) (same_use forest w.template p.name p.number (from_of e.0)) ∙ (ap (λ (k : Point). may_use w.place (use_at forest w.template k)) e.2 ∙ bad);
      }))

  not-two : (w v : PathReplay) (ms ns : List Move) (p : ShownPath forest root w ms) (q : ShownPath forest root v ns) (e : Edge) → stands_at forest root ns ≡ stands_at forest root ms
      → Within e (edges_in forest p.name) → w.point ≡ from_of e → EdgeClashes e (path_state_after ms) (path_state_after ns) → ⊥
  not-two w v ms ns p q e meet inside at clash =
      free.two ms ns e p.path q.path meet (subst (λ (a : Standing). Within e (edges_in forest a.template)) (sym p.stands) inside) (ap (λ (a : Standing). a.at) p.stands ∙ at) clash

  -- likewise where they are taken the other way round
  not-two-swapped : (w v : PathReplay) (ms ns : List Move) (p : ShownPath forest root w ms) (q : ShownPath forest root v ns) (e : Edge) → stands_at forest root ns ≡ stands_at forest root ms
      → Within e (edges_in forest p.name) → w.point ≡ from_of e → EdgeClashes e (path_state_after ns) (path_state_after ms) → ⊥
  not-two-swapped w v ms ns p q e meet inside at clash =
      let there = meet ∙ p.stands in
      free.two ns ms e q.path p.path (sym meet) (subst (λ (a : Standing). Within e (edges_in forest a.template)) (sym there) inside) (ap (λ (a : Standing). a.at) there ∙ at) clash

  not-text : (sh : Showing) (a b : Seen) (w v : PathReplay) (ms ns : List Move) (p : ShownPath forest root w ms) (q : ShownPath forest root v ns) → stands_at forest root ns ≡ stands_at forest root ms
      → TextClashes forest sh a b w v (path_state_after ms) (path_state_after ns) → ⊥
  not-text sh a b w v ms ns p q meet h =
      let to = leads-by forest root w ms sh.node (kind.Text h.bytes) p h.point h.text in
      let e = writes sh.node h.bytes to.0 in
      elim h.clash [
        | inl c ↦ not-two w v ms ns p q e meet to.1 h.point (sh.code, sh.byte, c)
        | inr c ↦ not-two-swapped w v ms ns p q e meet to.1 h.point (sh.code, sh.byte, c)
      ]

  not-hole : (sh : Showing) (a b : Seen) (w v : PathReplay) (ms ns : List Move) (p : ShownPath forest root w ms) (q : ShownPath forest root v ns) → stands_at forest root ns ≡ stands_at forest root ms
      → HoleClashes forest sh a b w v (path_state_after ms) (path_state_after ns) → ⊥
  not-hole sh a b w v ms ns p q meet h =
      let to = leads-by forest root w ms sh.node (kind.Action h.pipe) p h.point h.hole in
      let e = fills sh.node h.pipe to.0 in
      elim h.clash [
        | inl c ↦ not-two w v ms ns p q e meet to.1 h.point (sh.code, c)
        | inr c ↦ not-two-swapped w v ms ns p q e meet to.1 h.point (sh.code, c)
      ]

  reads-on : (first common ms : List Move) → ms ≡ first ++ common → path_state_after ms ≡ read_moves html_language common (path_state_after first)
  reads-on first common ms is = ap path_state_after is ∙ read-append first common start.at

  not-apart : (sh : Showing) (a b : Seen) (w v : PathReplay) (ms ns : List Move) (p : ShownPath forest root w ms) (q : ShownPath forest root v ns) → sh.root ≡ root → MetApart forest sh a b w v ms ns → ⊥
  not-apart sh a b w v ms ns p q same h =
      let to = leads-by forest root w ms sh.node (kind.Text h.bytes) p h.point h.text in
      let e = writes sh.node h.bytes to.0 in
      let one = prefix-is-path forest (at_root forest root) h.first h.common (subst (λ (x : List Move). IsPath forest (at_root forest root) x) h.moves p.path) in
      let other = prefix-is-path forest (at_root forest root) h.other_first h.common (subst (λ (x : List Move). IsPath forest (at_root forest root) x) h.other_moves q.path) in
      let there : reached forest (stands_at forest root h.first) h.common ≡ open_standing (opens_of forest w.open_calls.items) p.name w.point =
      sym (reached-append forest (at_root forest root) h.first h.common) ∙ (ap (λ (x : List Move). stands_at forest root x) (sym h.moves) ∙ p.stands) in
      free.apart h.first h.other_first h.common e one.0 other.0
      (subst (λ (r : List ℕ). reached forest (at_root forest r) h.other_first ≡ reached forest (at_root forest r) h.first) same h.meet) one.1
      (subst (λ (x : Standing). Within e (edges_in forest x.template)) (sym there) to.1) (ap (λ (x : Standing). x.at) there ∙ h.point)
      (record {
        met = h.met;
        clash = subst (λ (s : LexState ValueState). EdgeClashesApart e s (read_moves html_language h.common (path_state_after h.other_first))) (reads-on h.first h.common ms h.moves)
            (subst (λ (r : LexState ValueState). EdgeClashesApart e (path_state_after ms) r) (reads-on h.other_first h.common ns h.other_moves) (sh.code, sh.byte, h.clash));
      })

-- an error of one path is that of its root's end
end-elsewhere : (forest : ForestData) (sh : Showing) (seen : Seen) (w : PathReplay) (ms : List Move) → HasNoOtherError forest sh.root → ShownPath forest sh.root w ms → OneError forest sh seen w (path_state_after ms) → IsEndElsewhere forest sh seen w
end-elsewhere forest sh seen w ms free p (inl h) =
    let to = leads-by forest sh.root w ms sh.node (kind.Text h.bytes) p h.point h.text in
    absurd (not-one forest sh.root free w ms p (writes sh.node h.bytes to.0) to.1 h.point (inr (record { code = sh.code; at = sh.byte; before = seen.at }, h.refused)))
end-elsewhere forest sh seen w ms free p (inr (inl h)) =
    let to = leads-by forest sh.root w ms sh.node (kind.Action h.pipe) p h.shown.point h.hole in
    absurd (not-one forest sh.root free w ms p (fills sh.node h.pipe to.0) to.1 h.shown.point (inr (sh.code, h.refused)))
end-elsewhere forest sh seen w ms free p (inr (inr (inl h))) = absurd (not-misused forest sh.root free w ms p sh.node h.shown.point h.misused)
end-elsewhere forest sh seen w ms free p (inr (inr (inr (inl h)))) =
    let to = leads-by forest sh.root w ms sh.node (kind.Template h.name h.pipe) p h.shown.point h.call in
    absurd (not-one forest sh.root free w ms p (calls sh.node h.name to.0) to.1 h.shown.point (inr h.missing))
end-elsewhere forest sh seen w ms free p (inr (inr (inr (inr h)))) = h

-- and that stands on no path of a root that always ends in text
not-elsewhere : (forest : ForestData) (sh : Showing) (seen : Seen) (w : PathReplay) (ms : List Move) → HasNoError forest sh.root → ShownPath forest sh.root w ms → tree_name_at forest w.root ≡ Some sh.root → IsEndElsewhere forest sh seen w → ⊥
not-elsewhere forest sh seen w ms free p root h =
    let name : p.name ≡ sh.root = one_value p.name sh.root (sym (named forest w.template p.name p.number) ∙ (ap (tree_name_at forest) h.root ∙ root)) in
    let there : stands_at forest sh.root ms ≡ open_standing [] sh.root finish_point =
    p.stands ∙ (ap (λ (os : List ReplayedCall). open_standing (opens_of forest os) p.name w.point) h.closed ∙ (ap (λ (x : List ℕ). open_standing [] x w.point) name ∙ ap (open_standing [] sh.root) h.point)) in
    h.elsewhere (free.ends ms w.place p.path there p.own)

not-two-errors : (forest : ForestData) (sh : Showing) (a b : Seen) (w v : PathReplay) (ms ns : List Move) → HasNoOtherError forest sh.root → ShownPath forest sh.root w ms → ShownPath forest sh.root v ns
    → stands_at forest sh.root ns ≡ stands_at forest sh.root ms → TwoErrors forest sh a b w v ms ns → ⊥
not-two-errors forest sh a b w v ms ns free p q meet (inl h) = not-text forest sh.root free sh a b w v ms ns p q meet h
not-two-errors forest sh a b w v ms ns free p q meet (inr (inl h)) = not-hole forest sh.root free sh a b w v ms ns p q meet h
not-two-errors forest sh a b w v ms ns free p q meet (inr (inr (inl h))) = not-apart forest sh.root free sh a b w v ms ns p q refl h
not-two-errors forest sh a b w v ms ns free p q meet (inr (inr (inr h))) = free.joins ms ns w.place v.place p.path q.path meet p.own q.own h.conflict

not-shown-two : (forest : ForestData) (sh : Showing) → HasAscendingNames forest → HasNoOtherError forest sh.root → ShowsTwo forest sh → ⊥
not-shown-two forest sh up free h =
    not-two-errors forest sh h.seen h.other_seen h.replay h.other h.by.is.moves h.other_by.is.moves free (shown-path forest sh h.seen h.replay up h.by) (shown-path forest sh h.other_seen h.other up h.other_by)
    (meets-at forest h.replay h.other h.by.is h.other_by.is sh.root h.meet h.by.root) h.error

pub errors-stand : ShownErrorsStand
errors-stand forest sh up (inl h) free =
    let p = shown-path forest sh h.seen h.replay up h.by in
    not-elsewhere forest sh h.seen h.replay h.by.is.moves free p h.by.root (end-elsewhere forest sh h.seen h.replay h.by.is.moves free.others p h.error)
errors-stand forest sh up (inr h) free = not-shown-two forest sh up free.others h

pub end-shown : OnlyEndsAreShown
end-shown forest sh up (inl h) free = (end-elsewhere forest sh h.seen h.replay h.by.is.moves free (shown-path forest sh h.seen h.replay up h.by) h.error).code
end-shown forest sh up (inr h) free = absurd (not-shown-two forest sh up free h)

-- the root that is shown is a template of the forest
pub shown-root : (forest : ForestData) (sh : Showing) → HasAscendingNames forest → Shows forest sh → (t : ℕ) × (number_named sh.root forest ≡ Some t)
shown-root forest sh up (inl h) = (h.replay.root, numbered forest h.replay.root sh.root up h.by.root)
shown-root forest sh up (inr h) = (h.replay.root, numbered forest h.replay.root sh.root up h.by.root)
