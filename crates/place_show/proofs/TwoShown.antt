-- An error of two paths that meet is shown by the two, in whichever order they come.
use Rattle.std.proofs.Common.{ℕ, List, sym, ap, ◌∙◌, subst, ◌⊎◌, inl, inr}
use Rattle.html_step.proofs.MetApart.{met-apart}
use Rattle.place_core.proofs.Joins.{places_partial}
use Rattle.place_core.specs.page.States.{LexState}
use Rattle.place_core.specs.page.Tags.{ValueState}
use Rattle.place_trace.specs.declared.replay.PathReplay.{PathReplay}
use Rattle.place_show.proofs.TurnedApart.{turned-last, turned-met, turned-shown}
use Rattle.place_show.specs.Made.{InOrder}
use Rattle.place_show.specs.Showings.{DoNotJoin, HoleClashes, IsShownBy, JoinsAt, Meet, MetApart, ShowsTwo, TextClashes, TwoErrors, kind_of_node, line_of_byte, line_of_node, path_state_after}
use Rattle.place_show.specs.declared.showing.Seen.{Seen}
use Rattle.place_show.specs.declared.showing.Showing.{Showing}
use Rattle.tpl_paths.specs.Edges.{Point}
use Rattle.tpl_paths.specs.Paths.{Move}
use Rattle.tpl_tree.specs.Forests.{ForestData}

swapped-meet : (w v : PathReplay) → Meet w v → Meet v w
swapped-meet w v m = record { root = sym m.root; template = sym m.template; point = sym m.point; open_calls = sym m.open_calls }

swapped-sides : {A B : Type 0} → A ⊎ B → B ⊎ A
swapped-sides (inl a) = inr a
swapped-sides (inr b) = inl b

module _ (forest : ForestData) (sh : Showing) (w v : PathReplay) (a b : Seen) (meet : Meet w v) where
  swapped-clash : (s r : LexState ValueState) → TextClashes forest sh a b w v s r → TextClashes forest sh b a v w r s
  swapped-clash s r t = record {
    bytes = t.bytes;
    point = meet.point ∙ t.point;
    text = ap (λ (u : ℕ). kind_of_node forest u sh.node) meet.template ∙ t.text;
    clash = swapped-sides t.clash;
    places = turned-shown sh.byte t.bytes s r a.at b.at t.places;
    line = t.line ∙ sym (ap (λ (u : ℕ). line_of_byte forest u sh.node t.bytes sh.byte) meet.template);
  }

  swapped-hole : (s r : LexState ValueState) → HoleClashes forest sh a b w v s r → HoleClashes forest sh b a v w r s
  swapped-hole s r h = record {
    pipe = h.pipe;
    point = meet.point ∙ h.point;
    hole = ap (λ (u : ℕ). kind_of_node forest u sh.node) meet.template ∙ h.hole;
    clash = swapped-sides h.clash;
    at = h.other_at;
    other_at = h.at;
    line = h.line ∙ sym (ap (λ (u : ℕ). line_of_node forest u sh.node) meet.template);
    byte = h.byte;
  }

  swapped-apart : (ms ns : List Move) → MetApart forest sh a b w v ms ns → MetApart forest sh b a v w ns ms
  swapped-apart ms ns m = record {
    bytes = m.bytes;
    point = meet.point ∙ m.point;
    text = ap (λ (u : ℕ). kind_of_node forest u sh.node) meet.template ∙ m.text;
    first = m.other_first;
    other_first = m.first;
    common = m.common;
    moves = m.other_moves;
    other_moves = m.moves;
    meet = sym m.meet;
    met = turned-met m.common (path_state_after m.first) (path_state_after m.other_first) m.met;
    clash = met-apart.turns_clash m.bytes (path_state_after ms) (path_state_after ns) sh.code sh.byte m.clash;
    places = turned-last m.common sh.byte m.bytes (path_state_after m.first) (path_state_after m.other_first) a.at b.at m.places;
    line = m.line ∙ sym (ap (λ (u : ℕ). line_of_byte forest u sh.node m.bytes sh.byte) meet.template);
  }

  swapped-join : DoNotJoin forest sh a b w v → DoNotJoin forest sh b a v w
  swapped-join d = record {
    point = subst (λ (k : Point). JoinsAt sh.code k sh.node) (sym meet.point) d.point;
    at = d.other_at;
    other_at = d.at;
    conflict = (places_partial).swapped v.place w.place ∙ d.conflict;
    line = d.line ∙ sym (ap (λ (u : ℕ). line_of_node forest u sh.node) meet.template);
    byte = d.byte;
  }

  swapped-error : (ms ns : List Move) → TwoErrors forest sh a b w v ms ns → TwoErrors forest sh b a v w ns ms
  swapped-error ms ns (inl t) = inl (swapped-clash (path_state_after ms) (path_state_after ns) t)
  swapped-error ms ns (inr (inl h)) = inr (inl (swapped-hole (path_state_after ms) (path_state_after ns) h))
  swapped-error ms ns (inr (inr (inl m))) = inr (inr (inl (swapped-apart ms ns m)))
  swapped-error ms ns (inr (inr (inr d))) = inr (inr (inr (swapped-join d)))

  pub two-shown : (by : IsShownBy forest sh a w) (other_by : IsShownBy forest sh b v) → InOrder a b sh.paths → TwoErrors forest sh a b w v by.is.moves other_by.is.moves → ShowsTwo forest sh
  two-shown by other_by (inl p) error = record {
    replay = w;
    other = v;
    seen = a;
    other_seen = b;
    paths = p.0;
    order = p.1;
    by = by;
    other_by = other_by;
    meet = meet;
    error = error;
  }
  two-shown by other_by (inr p) error = record {
    replay = v;
    other = w;
    seen = b;
    other_seen = a;
    paths = p.0;
    order = p.1;
    by = other_by;
    other_by = by;
    meet = swapped-meet w v meet;
    error = swapped-error by.is.moves other_by.is.moves error;
  }
