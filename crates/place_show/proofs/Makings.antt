-- A showing that is made of paths is shown by them.
use Rattle.std.proofs.Common.{◌≡◌, ℕ, List, Option, Some, None, sym, ap, ◌∙◌, map}
use Rattle.place_core.specs.declared.code.Code.{Code}
use Rattle.place_core.specs.declared.place.Place.{Place}
use Rattle.place_core.proofs.Semilattices.{one_value}
use Rattle.place_flow.specs.Flows.{nodes_at}
use Rattle.place_trace.specs.Replays.{IsPathReplay, name_or_none, opens_of}
use Rattle.place_trace.specs.declared.replay.ReplayedCall.{ReplayedCall}
use Rattle.place_trace.specs.declared.replay.PathReplay.{PathReplay}
use Rattle.place_show.specs.Made.{IsShowingMade, IsMadeOne, IsMadeTwo, IsSeenAt}
use Rattle.place_show.specs.Showings.{IsNodeShown, IsShownBy, Meet, OneError, ShowsOne, kind_of_node, shown_state}
use Rattle.place_show.specs.declared.showing.Seen.{Seen}
use Rattle.place_show.specs.declared.showing.Showing.{Showing}
use Rattle.tpl_paths.specs.Edges.{Point, before}
use Rattle.tpl_paths.specs.Paths.{at_root, open_standing, reached}
use Rattle.tpl_tree.specs.Forests.{ForestData, tree_name_at}
use Rattle.tpl_tree.specs.Trees.{NodesData, head_kind, head_line, nodes_from}
use Rattle.tpl_tree.specs.declared.node_kind.NodeKind.{NodeKind}

pub named : (o : Option (List ℕ)) (name x : List ℕ) → o ≡ Some name → x ≡ name_or_none o → o ≡ Some x
named (Some a) name x h e = ap Some (sym e)
named None name x h e = cc

abbrev pub shown-by : (forest : ForestData) (w : PathReplay) (c : Code) (line n byte : ℕ) (at : Place) (sh : Showing) (seen : Seen) → IsShowingMade forest w c line n byte sh → IsSeenAt forest w at seen → IsPathReplay forest w → IsShownBy forest sh seen w
shown-by forest w c line n byte at sh seen m s is = record {
  is = is;
  root = named (tree_name_at forest w.root) is.root_name sh.root is.root_is m.root;
  template = named (tree_name_at forest w.template) is.name sh.template is.name_is m.template;
  calls = sym m.calls;
  path = s.path;
  named = s.named;
}

-- likewise, and by a path that meets it
abbrev pub shown-by-other : (forest : ForestData) (w v : PathReplay) (at : Place) (sh : Showing) (seen other : Seen) → IsShownBy forest sh seen w → Meet w v → IsSeenAt forest v at other → IsPathReplay forest v → IsShownBy forest sh other v
shown-by-other forest w v at sh seen other by meet s is = record {
  is = is;
  root = ap (tree_name_at forest) meet.root ∙ by.root;
  template = ap (tree_name_at forest) meet.template ∙ by.template;
  calls = ap (map (λ (o : ReplayedCall). o.node)) meet.open_calls ∙ by.calls;
  path = s.path;
  named = s.named;
}

pub meets : (w v : PathReplay) → w.root ≡ v.root → w.template ≡ v.template → w.point ≡ v.point → w.open_calls.items ≡ v.open_calls.items → Meet w v
meets w v root template point calls = record { root = sym root; template = sym template; point = sym point; open_calls = sym calls }

-- where two paths meet both have come there by their moves
pub meets-at : (forest : ForestData) (w v : PathReplay) (is : IsPathReplay forest w) (other : IsPathReplay forest v) (root : List ℕ) → Meet w v → tree_name_at forest w.root ≡ Some root
    → reached forest (at_root forest root) other.moves ≡ reached forest (at_root forest root) is.moves
meets-at forest w v is other root meet root_is =
    let one_root : is.root_name ≡ root = one_value is.root_name root (sym is.root_is ∙ root_is) in
    let other_root : other.root_name ≡ root = one_value other.root_name root (sym other.root_is ∙ (ap (tree_name_at forest) meet.root ∙ root_is)) in
    let name : other.name ≡ is.name = one_value other.name is.name (sym other.name_is ∙ (ap (tree_name_at forest) meet.template ∙ is.name_is)) in
    ap (λ (x : List ℕ). reached forest (at_root forest x) other.moves) (sym other_root)
    ∙ (other.stands
    ∙ (ap (λ (os : List ReplayedCall). open_standing (opens_of forest os) other.name v.point) meet.open_calls
    ∙ (ap (λ (x : List ℕ). open_standing (opens_of forest w.open_calls.items) x v.point) name
    ∙ (ap (λ (k : Point). open_standing (opens_of forest w.open_calls.items) is.name k) meet.point
    ∙ (sym is.stands ∙ ap (λ (x : List ℕ). reached forest (at_root forest x) is.moves) one_root)))))

pub shows-one : (forest : ForestData) (w : PathReplay) (c : Code) (line n byte : ℕ) (at : Place) (sh : Showing) (m : IsMadeOne forest w c line n byte at sh) (is : IsPathReplay forest w) → OneError forest sh m.seen w (shown_state is) → ShowsOne forest sh
shows-one forest w c line n byte at sh m is error = record {
  replay = w;
  seen = m.seen;
  paths = m.paths;
  by = shown-by forest w c line n byte at sh m.seen m.made m.is is;
  error = error;
}

module _ (forest : ForestData) (w : PathReplay) (nodes : NodesData) (n : ℕ) (sh : Showing) (there : nodes_at forest w.template ≡ nodes) where
  pub kind-shown : (k : NodeKind) → sh.node ≡ n → head_kind (nodes_from nodes n) ≡ Some k → kind_of_node forest w.template sh.node ≡ Some k
  kind-shown k e h = rw (e, there) h

  pub node-shown : (c : Code) (m : IsMadeOne forest w c (head_line (nodes_from nodes n)) n 0 w.place sh) → w.point ≡ before n → IsNodeShown forest sh m.seen w
  node-shown c m p = record {
    point = p ∙ sym (ap before m.made.node_is);
    at = m.is.place;
    line = rw (m.made.node_is, there) m.made.line_is;
    byte = m.made.byte_is;
  }

-- what is made is made as well by equals
made-as : (forest : ForestData) (w : PathReplay) (c d : Code) (line ine n i byte b : ℕ) (sh : Showing) → c ≡ d → line ≡ ine → n ≡ i → byte ≡ b → IsShowingMade forest w c line n byte sh → IsShowingMade forest w d ine i b sh
made-as forest w c d line ine n i byte b sh e f g h m = record {
  code = m.code ∙ e;
  template = m.template;
  line_is = m.line_is ∙ f;
  root = m.root;
  calls = m.calls;
  node_is = m.node_is ∙ g;
  byte_is = m.byte_is ∙ h;
}

pub made-one-as : (forest : ForestData) (w : PathReplay) (c d : Code) (line ine n i byte b : ℕ) (at : Place) (sh : Showing) → c ≡ d → line ≡ ine → n ≡ i → byte ≡ b → IsMadeOne forest w c line n byte at sh → IsMadeOne forest w d ine i b at sh
made-one-as forest w c d line ine n i byte b at sh e f g h m =
    record { made = made-as forest w c d line ine n i byte b sh e f g h m.made; seen = m.seen; paths = m.paths; is = m.is }

pub made-two-as : (forest : ForestData) (w v : PathReplay) (c d : Code) (line ine n i byte b : ℕ) (at to other beside : Place) (sh : Showing) → c ≡ d → line ≡ ine → n ≡ i → byte ≡ b → at ≡ to → other ≡ beside
    → IsMadeTwo forest w v c line n byte at other sh → IsMadeTwo forest w v d ine i b to beside sh
made-two-as forest w v c d line ine n i byte b at to other beside sh e f g h a o m = record {
  made = made-as forest w c d line ine n i byte b sh e f g h m.made;
  seen = m.seen;
  other = m.other;
  paths = m.paths;
  is = record { path = m.is.path; named = m.is.named; place = m.is.place ∙ a };
  other_is = record { path = m.other_is.path; named = m.other_is.named; place = m.other_is.place ∙ o };
}
