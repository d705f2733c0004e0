-- An error of two paths that meet, or that met apart, has a showing.
use Rattle.std.proofs.Common.{◌≡◌, ℕ, zero, suc, Bool, true, false, List, [], ◌∷◌, ◌++◌, All, Option, Some, None, refl, sym, ap, ap₂, ◌∙◌, subst, map, inl, inr}
use Rattle.std.specs.Prelude.{slice_get}
use Rattle.std.specs.Cmp.Lexicographic.{slice_cmp}
use Rattle.std.specs.Ordering.{is_gt, nat_cmp}
use Rattle.place_core.proofs.Semilattices.{none_some, one_value}
use Rattle.place_core.specs.page.Classes.{Class, White, class_of}
use Rattle.place_core.specs.page.Html.{next}
use Rattle.place_core.specs.page.States.{AttributeValue, BeforeAttributeValue, LexState, Template}
use Rattle.place_core.specs.page.Tags.{Unquoted, ValueOf, ValueState, languages}
use Rattle.place_core.specs.place.PathPairs.{Clashes, ClashesApart, ClashesHole, ClashesInText, begun_clash, byte_clash, parts_clash, url_part_at}
use Rattle.place_core.specs.place.Places.{joined}
use Rattle.place_core.specs.declared.code.Code.{Code}
use Rattle.place_core.specs.declared.code.Code.TheVariants as code
use Rattle.place_core.specs.declared.kind.Kind.{Kind}
use Rattle.place_core.specs.declared.kind.Kind.TheVariants as kind
use Rattle.place_core.specs.declared.place.Place.{Place}
use Rattle.place_flow.proofs.NamedParts.{edge_within, numbered, same_nodes}
use Rattle.place_flow.specs.Errors.{EdgeClashes, EdgeClashesApart, MeetApart}
use Rattle.place_flow.specs.Flows.{edges_at}
use Rattle.place_infer.specs.Inferring.{is_end_code}
use Rattle.place_laws.proofs.LastPoints.{met-last, shown-in}
use Rattle.place_laws.proofs.OneShown.{one-shown, seen-at, showing-of}
use Rattle.place_laws.proofs.OtherCodes.{url-code}
use Rattle.place_laws.proofs.PathReplays.{Replayed, replay-is, replayed, some-name}
use Rattle.place_laws.specs.ShownErrors.{HasShowing, JoinsAreShown, RefusalsAreShown}
use Rattle.place_laws.specs.Witness.{ApartErr, MembersDoNotJoin, PathTo, path_state}
use Rattle.place_show.proofs.Makings.{shown-by}
use Rattle.place_show.proofs.Orders.{not-both-greater}
use Rattle.place_show.proofs.TwoShown.{two-shown}
use Rattle.place_show.specs.Made.{InOrder, IsSeenAt, IsShowingMade}
use Rattle.place_show.specs.PathTexts.{path_text}
use Rattle.place_show.specs.Showings.{IsNamedTemplate, IsShownBy, JoinsAt, Meet, ShowsTwo, TwoErrors, kind_of_node, line_of_byte, line_of_node, path_state_after, seen_choice}
use Rattle.place_show.specs.declared.showing.Seen.{Seen}
use Rattle.place_show.specs.declared.showing.Showing.{Showing}
use Rattle.place_trace.specs.Replays.{IsReplayOf, ReplayData, name_or_none, replay_data}
use Rattle.place_trace.specs.UnchosenWays.{replay_at}
use Rattle.place_trace.specs.declared.chosen.Chosen.{Chosen}
use Rattle.place_trace.specs.declared.replay.PathReplay.{PathReplay}
use Rattle.place_trace.specs.declared.replay.ReplayedCall.{ReplayedCall}
use Rattle.tpl_paths.proofs.EdgeNodes.{hole_stands, text_stands}
use Rattle.tpl_paths.specs.Edges.{Edge, Point, before, calls, fills, from_of, head, node_kind_at, passes, past_point, picks, writes}
use Rattle.tpl_paths.specs.Paths.{Move, Open, at_root, reached}
use Rattle.tpl_paths.specs.declared.point.Point.TheVariants as point
use Rattle.tpl_tree.specs.Forests.{ForestData, HasAscendingNames, number_named, tree_name_at}
use Rattle.tpl_tree.specs.Trees.{NodesData, head_kind, nodes_from}
use Rattle.tpl_tree.specs.declared.node_kind.NodeKind.{NodeKind}
use Rattle.tpl_tree.specs.declared.node_kind.NodeKind.TheVariants as kind_of
use Rattle.tpl_tree.specs.declared.pipe.Pipe.{Pipe}
use Rattle.url_lexer.specs.Parts.{UrlPart}
use Rattle.url_lexer.specs.TwoPaths.{refuses_hole_on_two}

-- the codes of errors of two paths
begun-code : (k : Kind) (e : Code) → begun_clash k ≡ Some e → is_end_code e ≡ false
begun-code kind.ScriptType e h = absurd (none_some e h)
begun-code k e h = ap is_end_code (sym (one_value code.AmbigContext e h))

byte-code : (s r : LexState ValueState) (c : Class) (e : Code) → byte_clash s r c ≡ Some e → is_end_code e ≡ false
byte-code (BeforeAttributeValue t k) (AttributeValue Unquoted u (ValueOf v) r) White e h = begun-code k e h
byte-code (AttributeValue Unquoted u (ValueOf v) r) (BeforeAttributeValue t k) White e h = begun-code k e h
byte-code s r c e h = absurd (none_some e h)

apart-code : (bytes : List ℕ) (s r : LexState ValueState) (e : Code) (at : ℕ) → ClashesApart bytes s r e at → is_end_code e ≡ false
apart-code bytes s r e at h = ap is_end_code h.is

in-text-code : (bytes : List ℕ) (s r : LexState ValueState) (e : Code) (at : ℕ) → ClashesInText bytes s r e at → is_end_code e ≡ false
in-text-code [] s r e at h = absurd h
in-text-code (b ∷ bs) s r e zero h = byte-code s r (class_of b) e h
in-text-code (b ∷ bs) s r e (suc at) h = elim h.2 [
  | inl k ↦ ap is_end_code k.1.is
  | inr k ↦ in-text-code bs (next languages Template s (class_of b) b) (next languages Template r (class_of b) b) e at k
]

text-clash-code : (bytes : List ℕ) (s r : LexState ValueState) (e : Code) (at : ℕ) → Clashes bytes s r e at → is_end_code e ≡ false
text-clash-code bytes s r e at (inl h) = in-text-code bytes s r e at h
text-clash-code bytes s r e at (inr h) = ap is_end_code h.is

parts-code : (o w : Option UrlPart) (e : Code) → parts_clash o w ≡ Some e → is_end_code e ≡ false
parts-code (Some p) (Some q) e h = url-code (refuses_hole_on_two p q) e h
parts-code (Some p) None e h = absurd (none_some e h)
parts-code None w e h = absurd (none_some e h)

-- a replay that has what a path has took its moves
keep : (forest : ForestData) (d : ReplayData) (is : IsReplayOf forest d) (w : PathReplay) → replay_data w ≡ d → (i : IsReplayOf forest (replay_data w)) × (i.moves ≡ is.moves)
keep forest d is w same = subst (λ (x : ReplayData). (i : IsReplayOf forest x) × (i.moves ≡ is.moves)) (sym same) (is, refl)

abbrev greater : Seen → Seen → Bool
greater a b = is_gt (slice_cmp nat_cmp (path_text a.path) (path_text b.path))

abbrev ordered : Bool → Seen → Seen → List Seen
ordered true a b = b ∷ a ∷ []
ordered false a b = a ∷ b ∷ []

in-order : (a b : Seen) (g : Bool) → greater a b ≡ g → InOrder a b (ordered g a b)
in-order a b true h = inr (refl, not-both-greater (path_text a.path) (path_text b.path) h)
in-order a b false h = inl (refl, h)

-- two paths of one root that stand at one point with the same calls open
module _ (forest : ForestData) (root : ℕ) (calls : List ReplayedCall) (t : ℕ) (k : Point) (x y : Place) (one other : List Chosen)
    (is : IsReplayOf forest (replay_at root calls t k x one)) (js : IsReplayOf forest (replay_at root calls t k y other))
    (named : All (IsNamedTemplate forest) one) (other_named : All (IsNamedTemplate forest) other) where
  abbrev d : ReplayData
  d = replay_at root calls t k x one

  abbrev f : ReplayData
  f = replay_at root calls t k y other

  abbrev sh-of : Code → (line n byte : ℕ) → (at other_at : Place) → Showing
  sh-of c line n byte at other_at = showing-of forest d c line n byte (ordered (greater (seen-at forest d at) (seen-at forest f other_at)) (seen-at forest d at) (seen-at forest f other_at))

  -- what is to be shown of each two replays that have what the paths have
  abbrev ErrorsIn : Code → (line n byte : ℕ) → (at other_at : Place) → Type 0
  ErrorsIn c line n byte at other_at = (w v : PathReplay) → replay_data w ≡ d → replay_data v ≡ f
      → TwoErrors forest (sh-of c line n byte at other_at) (seen-at forest d at) (seen-at forest f other_at) w v is.moves js.moves

  made : (c : Code) (line n byte : ℕ) (at other_at : Place) (w : PathReplay) → replay_data w ≡ d → IsShowingMade forest w c line n byte (sh-of c line n byte at other_at)
  made c line n byte at other_at w same = record {
    code = refl;
    template = ap (λ (z : ReplayData). name_or_none (tree_name_at forest z.template)) (sym same);
    line_is = refl;
    root = ap (λ (z : ReplayData). name_or_none (tree_name_at forest z.root)) (sym same);
    calls = ap (λ (z : ReplayData). map (λ (o : ReplayedCall). o.node) z.open_calls) (sym same);
    node_is = refl;
    byte_is = refl;
  }

  other-made : (c : Code) (line n byte : ℕ) (at other_at : Place) (v : PathReplay) → replay_data v ≡ f → IsShowingMade forest v c line n byte (sh-of c line n byte at other_at)
  other-made c line n byte at other_at v same = record {
    code = refl;
    template = ap (λ (z : ReplayData). name_or_none (tree_name_at forest z.template)) (sym same);
    line_is = refl;
    root = ap (λ (z : ReplayData). name_or_none (tree_name_at forest z.root)) (sym same);
    calls = ap (λ (z : ReplayData). map (λ (o : ReplayedCall). o.node) z.open_calls) (sym same);
    node_is = refl;
    byte_is = refl;
  }

  meet : (w v : PathReplay) → replay_data w ≡ d → replay_data v ≡ f → Meet w v
  meet w v same again = record {
    root = ap (λ (z : ReplayData). z.root) again ∙ ap (λ (z : ReplayData). z.root) (sym same);
    template = ap (λ (z : ReplayData). z.template) again ∙ ap (λ (z : ReplayData). z.template) (sym same);
    point = ap (λ (z : ReplayData). z.point) again ∙ ap (λ (z : ReplayData). z.point) (sym same);
    open_calls = ap (λ (z : ReplayData). z.open_calls) again ∙ ap (λ (z : ReplayData). z.open_calls) (sym same);
  }

  shows-both : (c : Code) (line n byte : ℕ) (at other_at : Place) → ErrorsIn c line n byte at other_at → (w v : PathReplay) → replay_data w ≡ d → replay_data v ≡ f
      → ShowsTwo forest (sh-of c line n byte at other_at)
  shows-both c line n byte at other_at errors w v same again =
      let sh = sh-of c line n byte at other_at in
      let a = seen-at forest d at in
      let b = seen-at forest f other_at in
      let i = keep forest d is w same in
      let j = keep forest f js v again in
      let seen : IsSeenAt forest w at a = record {
        path = ap (λ (z : ReplayData). map (seen_choice forest) z.chosen) (sym same);
        named = subst (λ (z : ReplayData). All (IsNamedTemplate forest) z.chosen) (sym same) named;
        place = refl;
      } in
      let other_seen : IsSeenAt forest v other_at b = record {
        path = ap (λ (z : ReplayData). map (seen_choice forest) z.chosen) (sym again);
        named = subst (λ (z : ReplayData). All (IsNamedTemplate forest) z.chosen) (sym again) other_named;
        place = refl;
      } in
      let by : IsShownBy forest sh a w = shown-by forest w c line n byte at sh a (made c line n byte at other_at w same) seen i.0 in
      let other_by : IsShownBy forest sh b v = shown-by forest v c line n byte other_at sh b (other-made c line n byte at other_at v again) other_seen j.0 in
      two-shown forest sh w v a b (meet w v same again) by other_by (in-order a b (greater a b) refl)
      (subst (λ (ns : List Move). TwoErrors forest sh a b w v i.0.moves ns) (sym j.1) (subst (λ (ms : List Move). TwoErrors forest sh a b w v ms js.moves) (sym i.1) (errors w v same again)))

  two-has : (c : Code) (line n byte : ℕ) (at other_at : Place) → is_end_code c ≡ false → ErrorsIn c line n byte at other_at → HasShowing forest root
  two-has c line n byte at other_at code_is errors = record {
    sh = sh-of c line n byte at other_at;
    root_is = some-name (tree_name_at forest root) is.root_name is.root_is;
    other_than_end = code_is;
    replay = d;
    other = f;
    is = is;
    other_is = js;
    shows = λ w v same again. inr (shows-both c line n byte at other_at errors w v same again);
  }

  abbrev s : LexState ValueState
  s = path_state_after is.moves

  abbrev r : LexState ValueState
  r = path_state_after js.moves

  kind-in : (w : PathReplay) (n : ℕ) (what : NodeKind) → replay_data w ≡ d → kind_of_node forest t n ≡ Some what → kind_of_node forest w.template n ≡ Some what
  kind-in w n what same h = ap (λ (z : ReplayData). kind_of_node forest z.template n) same ∙ h

  stands-in : (w : PathReplay) → replay_data w ≡ d → w.point ≡ k
  stands-in w same = ap (λ (z : ReplayData). z.point) same

  own-in : (w : PathReplay) → replay_data w ≡ d → x ≡ w.place
  own-in w same = ap (λ (z : ReplayData). z.place) (sym same)

  other-own-in : (v : PathReplay) → replay_data v ≡ f → y ≡ v.place
  other-own-in v same = ap (λ (z : ReplayData). z.place) (sym same)

  byte-line-in : (w : PathReplay) (n : ℕ) (bytes : List ℕ) (at : ℕ) → replay_data w ≡ d → line_of_byte forest t n bytes at ≡ line_of_byte forest w.template n bytes at
  byte-line-in w n bytes at same = ap (λ (z : ReplayData). line_of_byte forest z.template n bytes at) (sym same)

  line-in : (w : PathReplay) (n : ℕ) → replay_data w ≡ d → line_of_node forest t n ≡ line_of_node forest w.template n
  line-in w n same = ap (λ (z : ReplayData). line_of_node forest z.template n) (sym same)

  text-has : (n : ℕ) (bytes : List ℕ) (e : Code) (at : ℕ) → k ≡ before n → kind_of_node forest t n ≡ Some (kind_of.Text bytes) → Clashes bytes s r e at → HasShowing forest root
  text-has n bytes e at here what clash =
      let p = shown-in bytes s r at x y is.own js.own in
      two-has e (line_of_byte forest t n bytes at) n at p.0 p.1 (text-clash-code bytes s r e at clash)
      (λ w v same again.
      inl (record {
        bytes = bytes;
        point = stands-in w same ∙ here;
        text = kind-in w n (kind_of.Text bytes) same what;
        clash = inl clash;
        places = p.2;
        line = byte-line-in w n bytes at same;
      }))

  hole-has : (n : ℕ) (pipe : Pipe) (e : Code) → k ≡ before n → kind_of_node forest t n ≡ Some (kind_of.Action pipe) → ClashesHole s r e → HasShowing forest root
  hole-has n pipe e here what clash = two-has e (line_of_node forest t n) n 0 x y (parts-code (url_part_at s) (url_part_at r) e clash)
      (λ w v same again.
      inr (inl (record {
        pipe = pipe;
        point = stands-in w same ∙ here;
        hole = kind-in w n (kind_of.Action pipe) same what;
        clash = inl clash;
        at = own-in w same;
        other_at = other-own-in v again;
        line = line-in w n same;
        byte = refl;
      })))

  apart-has : (n : ℕ) (bytes : List ℕ) (e : Code) (at : ℕ) (first other_first common : List Move) → k ≡ before n → kind_of_node forest t n ≡ Some (kind_of.Text bytes) → is.moves ≡ first ++ common → js.moves ≡ other_first ++ common
      → reached forest (at_root forest (name_or_none (tree_name_at forest root))) other_first ≡ reached forest (at_root forest (name_or_none (tree_name_at forest root))) first
      → MeetApart common (path_state_after first) (path_state_after other_first) → ClashesApart bytes s r e at → HasShowing forest root
  apart-has n bytes e at first other_first common here what moves other_moves at_one met clash =
      let p = met-last common at bytes (path_state_after first) (path_state_after other_first) met in
      two-has e (line_of_byte forest t n bytes at) n at p.0 p.1 (apart-code bytes s r e at clash)
      (λ w v same again.
      inr (inr (inl (record {
        bytes = bytes;
        point = stands-in w same ∙ here;
        text = kind-in w n (kind_of.Text bytes) same what;
        first = first;
        other_first = other_first;
        common = common;
        moves = moves;
        other_moves = other_moves;
        meet = at_one;
        met = met;
        clash = clash;
        places = p.2;
        line = byte-line-in w n bytes at same;
      }))))

  -- places that do not join
  pub join-has : (c : Code) (n : ℕ) → is_end_code c ≡ false → JoinsAt c k n → joined x y ≡ None → HasShowing forest root
  join-has c n code_is there conflict = two-has c (line_of_node forest t n) n 0 x y code_is
      (λ w v same again.
      inr (inr (inr (record {
        point = subst (λ (z : Point). JoinsAt c z n) (sym (stands-in w same)) there;
        at = own-in w same;
        other_at = other-own-in v again;
        conflict = ap₂ joined (sym (own-in w same)) (sym (other-own-in v again)) ∙ conflict;
        line = line-in w n same;
        byte = refl;
      }))))

module _ (forest : ForestData) (up : HasAscendingNames forest) (root : ℕ) (os : List Open) (t n : ℕ) where
  kind-at : (name : List ℕ) (m : ℕ) (what : NodeKind) → number_named name forest ≡ Some t → node_kind_at forest name m ≡ Some what → kind_of_node forest t m ≡ Some what
  kind-at name m what ours h = ap (λ (z : NodesData). head_kind (nodes_from z m)) (sym (same_nodes forest t name ours)) ∙ h

  -- two paths that stand at one point, as replays with the same calls
  module _ (k : Point) (p q : PathTo forest root os t k) where
    abbrev first-replay : Replayed forest up root os t k p
    first-replay = replayed forest up root os t k p

    abbrev other-replay : Replayed forest up root os t k q
    other-replay = replayed forest up root os t k q

    abbrev first-is : IsReplayOf forest (replay_at root first-replay.calls t k first-replay.own first-replay.chosen)
    first-is = replay-is forest up root os t k p first-replay first-replay.calls first-replay.opens

    abbrev other-is : IsReplayOf forest (replay_at root first-replay.calls t k other-replay.own other-replay.chosen)
    other-is = replay-is forest up root os t k q other-replay first-replay.calls first-replay.opens

  two-errs : (e : Edge) (p q : PathTo forest root os t (from_of e)) → slice_get (edges_at forest t) n ≡ Some e → EdgeClashes e (path_state p) (path_state q) → HasShowing forest root
  two-errs (writes m bytes to) p q got h =
      let a = first-replay (before m) p q in
      let b = other-replay (before m) p q in
      let ours = numbered forest t p.name up p.name_is in
      text-has forest root a.calls t (before m) a.own b.own a.chosen b.chosen (first-is (before m) p q) (other-is (before m) p q) a.named b.named
      m bytes h.0 h.1 refl (kind-at p.name m (kind_of.Text bytes) ours (text_stands forest p.name m bytes to (edge_within forest t n p.name (writes m bytes to) ours got))) h.2
  two-errs (fills m pipe to) p q got h =
      let a = first-replay (before m) p q in
      let b = other-replay (before m) p q in
      let ours = numbered forest t p.name up p.name_is in
      hole-has forest root a.calls t (before m) a.own b.own a.chosen b.chosen (first-is (before m) p q) (other-is (before m) p q) a.named b.named
      m pipe h.0 refl (kind-at p.name m (kind_of.Action pipe) ours (hole_stands forest p.name m pipe to (edge_within forest t n p.name (fills m pipe to) ours got))) h.1
  two-errs (calls m name to) p q got h = absurd h
  two-errs (picks from choice to) p q got h = absurd h
  two-errs (passes from to) p q got h = absurd h

  root-named : (k : Point) (p : PathTo forest root os t k) → p.root_name ≡ name_or_none (tree_name_at forest root)
  root-named k p = one_value p.root_name (name_or_none (tree_name_at forest root)) (sym p.root_is ∙ some-name (tree_name_at forest root) p.root_name p.root_is)

  apart-errs : (e : Edge) → slice_get (edges_at forest t) n ≡ Some e → ApartErr forest root os t e → HasShowing forest root
  apart-errs e got h = by-edge e got h.paths.path h.paths.other h.paths.first h.paths.other_first h.paths.common h.paths.moves h.paths.other_moves h.paths.meet h.paths.met h.errs
    where
      by-edge : (e : Edge) → slice_get (edges_at forest t) n ≡ Some e → (p q : PathTo forest root os t (from_of e)) (first other_first common : List Move) → p.moves ≡ first ++ common → q.moves ≡ other_first ++ common
          → reached forest (at_root forest q.root_name) other_first ≡ reached forest (at_root forest p.root_name) first → MeetApart common (path_state_after first) (path_state_after other_first)
          → EdgeClashesApart e (path_state p) (path_state q) → HasShowing forest root
      by-edge (writes m bytes to) got p q first other_first common moves other_moves at_one met h =
          let a = first-replay (before m) p q in
          let b = other-replay (before m) p q in
          let ours = numbered forest t p.name up p.name_is in
          apart-has forest root a.calls t (before m) a.own b.own a.chosen b.chosen (first-is (before m) p q) (other-is (before m) p q) a.named b.named
          m bytes h.0 h.1 first other_first common refl (kind-at p.name m (kind_of.Text bytes) ours (text_stands forest p.name m bytes to (edge_within forest t n p.name (writes m bytes to) ours got))) moves other_moves
          (subst (λ (name : List ℕ). reached forest (at_root forest name) other_first ≡ reached forest (at_root forest (name_or_none (tree_name_at forest root))) first) (root-named (before m) q)
          (subst (λ (name : List ℕ). reached forest (at_root forest q.root_name) other_first ≡ reached forest (at_root forest name) first) (root-named (before m) p) at_one))
          met h.2
      by-edge (fills m pipe to) got p q first other_first common moves other_moves at_one met h = absurd h
      by-edge (calls m name to) got p q first other_first common moves other_moves at_one met h = absurd h
      by-edge (picks from choice to) got p q first other_first common moves other_moves at_one met h = absurd h
      by-edge (passes from to) got p q first other_first common moves other_moves at_one met h = absurd h

pub refusals-shown : RefusalsAreShown
refusals-shown forest root os t n e up got (inl h) = one-shown forest root os t n e up got h
refusals-shown forest root os t n e up got (inr (inl h)) = two-errs forest up root os t n e h.path h.other got h.errs
refusals-shown forest root os t n e up got (inr (inr h)) = apart-errs forest up root os t n e got h

-- places of two paths that do not join
module _ (forest : ForestData) (up : HasAscendingNames forest) (root : ℕ) (os : List Open) (t : ℕ) where
  joins-at : (c : Code) (n : ℕ) (k : Point) → is_end_code c ≡ false → JoinsAt c k n → MembersDoNotJoin forest root os t k → HasShowing forest root
  joins-at c n k code_is there m =
      let a = replayed forest up root os t k m.path in
      let b = replayed forest up root os t k m.other in
      let one : a.own ≡ m.own = one_value a.own m.own (sym a.stands ∙ m.stands) in
      let other : b.own ≡ m.other_own = one_value b.own m.other_own (sym b.stands ∙ m.other_stands) in
      join-has forest root a.calls t k a.own b.own a.chosen b.chosen (replay-is forest up root os t k m.path a a.calls a.opens) (replay-is forest up root os t k m.other b a.calls a.opens) a.named b.named
      c n code_is there (ap₂ joined one other ∙ m.conflict)

pub joins-shown : JoinsAreShown
joins-shown forest root os t (point.Head n) up at m = joins-at forest up root os t code.RangeLoopReentry n (head n) refl (inl (refl, refl)) m
joins-shown forest root os t (point.Past n) up at m = joins-at forest up root os t code.BranchEnd n (past_point n) refl (inr (refl, refl)) m
joins-shown forest root os t (point.Before n) up at m = absurd at
joins-shown forest root os t (point.Again n) up at m = absurd at
joins-shown forest root os t point.Finish up at m = absurd at
