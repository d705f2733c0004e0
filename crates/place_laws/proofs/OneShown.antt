-- An error of one path has a showing.
use Rattle.std.proofs.Common.{◌≡◌, ℕ, false, List, [], ◌∷◌, All, Option, Some, None, Result, Ok, Err, refl, sym, ap, ◌∙◌, subst, map, ◌⊎◌, inl, inr}
use Rattle.std.specs.Prelude.{slice_get}
use Rattle.html_step.proofs.HoleOrder.{one-hole}
use Rattle.html_step.proofs.OneTexts.{one-text}
use Rattle.html_step.specs.Holes.{Holed, after_hole}
use Rattle.html_step.specs.Steps.{after_text}
use Rattle.place_core.specs.declared.code.Code.{Code}
use Rattle.place_core.specs.declared.code.Code.TheVariants as code
use Rattle.place_core.specs.declared.place.Place.{Place}
use Rattle.place_core.specs.declared.step_err.StepErr.{StepErr}
use Rattle.place_flow.proofs.ClearSteps.{IsTaken, step-clear}
use Rattle.place_flow.proofs.NamedParts.{edge_within, numbered, same_nodes}
use Rattle.place_flow.proofs.PointStateLaws.{below_refl}
use Rattle.place_flow.specs.Errors.{Errs}
use Rattle.place_flow.specs.Flows.{edges_at, nodes_at}
use Rattle.place_flow.specs.HtmlCovering.{behind_hole, behind_text}
use Rattle.place_flow.specs.Transfer.{edge_step, may_use, reaches_or_refused, step_of, use_at, use_of_node}
use Rattle.place_flow.specs.declared.step.EdgeStep.{EdgeStep}
use Rattle.place_flow.specs.declared.step.EdgeStep.TheVariants.{Enters, Reaches, Refused}
use Rattle.place_infer.specs.Inferring.{is_end_code}
use Rattle.place_laws.proofs.OtherCodes.{hole-code, text-code}
use Rattle.place_laws.proofs.PathReplays.{call-missing, parts, replay-is, replayed, some-name}
use Rattle.place_laws.specs.ShownErrors.{HasShowing}
use Rattle.place_laws.specs.Witness.{OneErrs}
use Rattle.place_show.proofs.HoleRefused.{hole-shown}
use Rattle.place_show.proofs.Missing.{missing-shown}
use Rattle.place_show.proofs.Misuse.{misuse-shown}
use Rattle.place_show.proofs.TextRefused.{text-shown}
use Rattle.place_show.specs.Made.{IsMadeOne}
use Rattle.place_show.specs.Showings.{IsNamedTemplate, ShowsOne, kind_of_node, seen_choice, shown_state}
use Rattle.place_show.specs.declared.showing.Seen.{Seen}
use Rattle.place_show.specs.declared.showing.Showing.{Showing}
use Rattle.place_trace.specs.Replays.{IsReplayOf, ReplayData, name_or_none, replay_data}
use Rattle.place_trace.specs.UnchosenWays.{replay_at}
use Rattle.place_trace.specs.declared.replay.PathReplay.{PathReplay}
use Rattle.place_trace.specs.declared.replay.ReplayedCall.{ReplayedCall}
use Rattle.tpl_paths.proofs.EdgeNodes.{call_stands, hole_stands, text_stands}
use Rattle.tpl_paths.specs.Edges.{Edge, Point, before, calls, fills, from_of, node_kind_at, passes, picks, writes}
use Rattle.tpl_paths.specs.Paths.{Open}
use Rattle.tpl_paths.specs.declared.point.Point.TheVariants as point
use Rattle.tpl_tree.specs.Forests.{ForestData, HasAscendingNames, number_named, tree_name_at}
use Rattle.tpl_tree.specs.Trees.{NodesData, head_kind, head_line, head_seams, nodes_from, text_line}
use Rattle.tpl_tree.specs.declared.node_kind.NodeKind.{NodeKind}
use Rattle.tpl_tree.specs.declared.node_kind.NodeKind.TheVariants as kind
use Rattle.tpl_tree.specs.declared.pipe.Pipe.{Pipe}

-- a showing of paths, and one of them
abbrev pub showing-of : ForestData → ReplayData → Code → (line n byte : ℕ) → List Seen → Showing
showing-of forest d c line n byte paths = record {
  code = c;
  template = name_or_none (tree_name_at forest d.template);
  line = line;
  root = name_or_none (tree_name_at forest d.root);
  calls = map (λ (o : ReplayedCall). o.node) d.open_calls;
  node = n;
  byte = byte;
  paths = paths;
}

abbrev pub seen-at : ForestData → ReplayData → Place → Seen
seen-at forest d at = record { path = map (seen_choice forest) d.chosen; at = at }

-- what is taken is clear
taken-or : (r : EdgeStep) → (IsTaken r → ⊥) → r ≡ Refused
taken-or (Reaches q) h = absurd (h tt)
taken-or (Enters c q) h = absurd (h tt)
taken-or Refused h = refl

module _ (forest : ForestData) (d : ReplayData) (is : IsReplayOf forest d) (named : All (IsNamedTemplate forest) d.chosen) where
  abbrev sh-of : Code → (line n byte : ℕ) → Place → Showing
  sh-of c line n byte at = showing-of forest d c line n byte (seen-at forest d at ∷ [])

  made-by : (c : Code) (line n byte : ℕ) (at there : Place) (w : PathReplay) → replay_data w ≡ d → at ≡ there → IsMadeOne forest w c line n byte there (sh-of c line n byte at)
  made-by c line n byte at there w same place = record {
    made = record {
      code = refl;
      template = ap (λ (x : ReplayData). name_or_none (tree_name_at forest x.template)) (sym same);
      line_is = refl;
      root = ap (λ (x : ReplayData). name_or_none (tree_name_at forest x.root)) (sym same);
      calls = ap (λ (x : ReplayData). map (λ (o : ReplayedCall). o.node) x.open_calls) (sym same);
      node_is = refl;
      byte_is = refl;
    };
    seen = seen-at forest d at;
    paths = refl;
    is = record {
      path = ap (λ (x : ReplayData). map (seen_choice forest) x.chosen) (sym same);
      named = subst (λ (x : ReplayData). All (IsNamedTemplate forest) x.chosen) (sym same) named;
      place = place;
    };
  }

  shown : (c : Code) (line n byte : ℕ) (at : Place) → is_end_code c ≡ false → ((w : PathReplay) → replay_data w ≡ d → ShowsOne forest (sh-of c line n byte at)) → HasShowing forest d.root
  shown c line n byte at other show = record {
    sh = sh-of c line n byte at;
    root_is = some-name (tree_name_at forest d.root) is.root_name is.root_is;
    other_than_end = other;
    replay = d;
    other = d;
    is = is;
    other_is = is;
    shows = λ w v same again. inl (show w same);
  }

  abbrev nodes : NodesData
  nodes = nodes_at forest d.template

  there : (w : PathReplay) → replay_data w ≡ d → nodes_at forest w.template ≡ nodes
  there w same = ap (λ (x : ReplayData). nodes_at forest x.template) same

  stands : (n : ℕ) → d.point ≡ before n → (w : PathReplay) → replay_data w ≡ d → w.point ≡ before n
  stands n at w same = ap (λ (x : ReplayData). x.point) same ∙ at

  here : (w : PathReplay) → replay_data w ≡ d → IsReplayOf forest (replay_data w)
  here w same = subst (IsReplayOf forest) (sym same) is

  own-place : (w : PathReplay) → replay_data w ≡ d → d.place ≡ w.place
  own-place w same = ap (λ (x : ReplayData). x.place) (sym same)

  text-has : (n : ℕ) (bytes : List ℕ) (o : Result Place (StepErr Place)) → d.point ≡ before n → kind_of_node forest d.template n ≡ Some (kind.Text bytes) → after_text bytes d.place ≡ o → reaches_or_refused (behind_text o) ≡ Refused
      → HasShowing forest d.root
  text-has n bytes (Ok q) at kind_is step h = cc
  text-has n bytes (Err e) at kind_is step h =
      let line : ℕ = text_line bytes (head_line (nodes_from nodes n)) (head_seams (nodes_from nodes n)) e.at in
      shown e.code line n e.at e.before (text-code bytes (shown_state is) e ((one-text bytes d.place (shown_state is) is.own).1 e step))
      (λ w same. text-shown forest w nodes n bytes e (sh-of e.code line n e.at e.before) kind_is (ap (λ (x : ReplayData). after_text bytes x.place) same ∙ step)
      (made-by e.code line n e.at e.before e.before w same refl) (there w same) (stands n at w same) (here w same))

  hole-has : (n : ℕ) (pipe : Pipe) (o : Holed) → d.point ≡ before n → kind_of_node forest d.template n ≡ Some (kind.Action pipe) → after_hole d.place ≡ o → reaches_or_refused (behind_hole o) ≡ Refused → HasShowing forest d.root
  hole-has n pipe (Ok h) at kind_is step k = cc
  hole-has n pipe (Err e) at kind_is step k =
      let line : ℕ = head_line (nodes_from nodes n) in
      shown e line n 0 d.place (hole-code (shown_state is) e ((one-hole d.place (shown_state is) is.own).1 e step))
      (λ w same. hole-shown forest w nodes n pipe e (sh-of e line n 0 d.place) kind_is (ap (λ (x : ReplayData). after_hole x.place) same ∙ step)
      (made-by e line n 0 d.place w.place w same (own-place w same)) (there w same) (stands n at w same) (here w same))

  call-has : (n : ℕ) (name : List ℕ) (pipe : Option Pipe) → d.point ≡ before n → kind_of_node forest d.template n ≡ Some (kind.Template name pipe) → number_named name forest ≡ None → HasShowing forest d.root
  call-has n name pipe at kind_is missing =
      let line : ℕ = head_line (nodes_from nodes n) in
      shown code.NoSuchTemplate line n 0 d.place refl
      (λ w same. missing-shown forest w nodes n name pipe (sh-of code.NoSuchTemplate line n 0 d.place) kind_is missing
      (made-by code.NoSuchTemplate line n 0 d.place w.place w same (own-place w same)) (there w same) (stands n at w same) (here w same))

  use-has : (n : ℕ) (o : Option NodeKind) → d.point ≡ before n → kind_of_node forest d.template n ≡ o → may_use d.place (use_of_node o) ≡ false → HasShowing forest d.root
  use-has n None at kind_is bad = cc
  use-has n (Some k) at kind_is bad =
      let line : ℕ = head_line (nodes_from nodes n) in
      shown code.PredefinedEscaper line n 0 d.place refl
      (λ w same. misuse-shown forest w nodes n k (sh-of code.PredefinedEscaper line n 0 d.place) kind_is (ap (λ (x : ReplayData). may_use x.place (use_of_node (Some k))) same ∙ bad)
      (made-by code.PredefinedEscaper line n 0 d.place w.place w same (own-place w same)) (there w same) (stands n at w same) (here w same))

  use-at-has : (k : Point) → d.point ≡ k → may_use d.place (use_at forest d.template k) ≡ false → HasShowing forest d.root
  use-at-has (point.Before n) at bad = use-has n (kind_of_node forest d.template n) at refl bad
  use-at-has (point.Again n) at bad = cc
  use-at-has (point.Head n) at bad = cc
  use-at-has (point.Past n) at bad = cc
  use-at-has point.Finish at bad = cc

  -- the edge is one of the template by its name
  module _ (up : HasAscendingNames forest) (number : ℕ) where
    ours : number_named is.name forest ≡ Some d.template
    ours = numbered forest d.template is.name up is.name_is

    kind-at : (n : ℕ) (k : NodeKind) → node_kind_at forest is.name n ≡ Some k → kind_of_node forest d.template n ≡ Some k
    kind-at n k h = ap (λ (x : NodesData). head_kind (nodes_from x n)) (sym (same_nodes forest d.template is.name ours)) ∙ h

    edge-has : (e : Edge) → slice_get (edges_at forest d.template) number ≡ Some e → d.point ≡ from_of e → edge_step forest e d.place ≡ Refused → HasShowing forest d.root
    edge-has (writes n bytes to) got at h =
        text-has n bytes (after_text bytes d.place) at (kind-at n (kind.Text bytes) (text_stands forest is.name n bytes to (edge_within forest d.template number is.name (writes n bytes to) ours got))) refl h
    edge-has (fills n pipe to) got at h =
        hole-has n pipe (after_hole d.place) at (kind-at n (kind.Action pipe) (hole_stands forest is.name n pipe to (edge_within forest d.template number is.name (fills n pipe to) ours got))) refl h
    edge-has (calls n name to) got at h =
        let k = call_stands forest is.name n name to (edge_within forest d.template number is.name (calls n name to) ours got) in
        call-has n name k.0 at (kind-at n (kind.Template name k.0) k.1) (call-missing (number_named name forest) d.place h)
    edge-has (picks from choice to) got at h = cc
    edge-has (passes from to) got at h = cc

    pub one-has : (e : Edge) → slice_get (edges_at forest d.template) number ≡ Some e → d.point ≡ from_of e → Errs forest is.name e (shown_state is) → HasShowing forest d.root
    one-has e got at errs = by-parts (parts (may_use d.place (use_at forest d.template (from_of e))) (edge_step forest e d.place) refused)
      where
        refused : step_of forest d.template e d.place ≡ Refused
        refused = taken-or (step_of forest d.template e d.place)
            (λ taken. step-clear forest d.template is.name e d.place (shown_state is) ours is.valid (record { own = d.place; stands = is.own; valid = is.valid; below = below_refl d.place }) taken errs)

        by-parts : (may_use d.place (use_at forest d.template (from_of e)) ≡ false) ⊎ (edge_step forest e d.place ≡ Refused) → HasShowing forest d.root
        by-parts (inl m) = use-at-has (from_of e) at m
        by-parts (inr r) = edge-has e got at r

pub one-shown : (forest : ForestData) (root : ℕ) (os : List Open) (t n : ℕ) (e : Edge) → HasAscendingNames forest → slice_get (edges_at forest t) n ≡ Some e → OneErrs forest root os t e → HasShowing forest root
one-shown forest root os t n e up got h =
    let r = replayed forest up root os t (from_of e) h.path in
    let is = replay-is forest up root os t (from_of e) h.path r r.calls r.opens in
    one-has forest (replay_at root r.calls t (from_of e) r.own r.chosen) is r.named up n e got refl h.errs
