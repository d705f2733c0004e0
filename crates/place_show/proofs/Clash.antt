-- A text that the join of the places of two paths refuses at a byte that each of them takes is refused on the two together, and that is shown.
use Rattle.std.proofs.Common.{◌≡◌, ℕ, List, [], Some, Err, append-nil, refl, sym, ap, ◌∙◌, ◌⊎◌, inl, inr}
use Rattle.html_step.proofs.MetApart.{met-apart}
use Rattle.html_step.proofs.TextEvidences.{evidence-text}
use Rattle.html_step.specs.ApartInText.{IsLastIn, TakesByte}
use Rattle.html_step.specs.Laws.{IsEvidence, EvidenceData, apart, one, two}
use Rattle.html_step.specs.Steps.{after_text}
use Rattle.place_core.proofs.JoinMembers.{the_join_has}
use Rattle.place_core.proofs.JoinValid.{the_join_valid}
use Rattle.place_core.proofs.Joins.{the_join_above}
use Rattle.place_core.specs.place.ApartPlaces.{ArePlacesApart, HasApart, side}
use Rattle.place_core.specs.place.Membership.{IsIn}
use Rattle.place_core.specs.place.PathPairs.{Apart, Clashes, ClashesApart}
use Rattle.place_core.specs.place.Places.{Has, IsValid, joined}
use Rattle.place_core.specs.place.StatePlaces.{placed}
use Rattle.place_core.specs.page.States.{LexState}
use Rattle.place_core.specs.page.Tags.{ValueState}
use Rattle.place_core.specs.declared.code.Code.{Code}
use Rattle.place_core.specs.declared.member.Member.{Member}
use Rattle.place_core.specs.declared.place.Place.{Place}
use Rattle.place_core.specs.declared.step_err.StepErr.{StepErr}
use Rattle.place_flow.specs.Flows.{nodes_at}
use Rattle.place_trace.specs.Replays.{IsPathReplay}
use Rattle.place_trace.specs.declared.replay.PathReplay.{PathReplay}
use Rattle.place_show.proofs.TextsInBeginnings.{bears, not-alone, stands-below}
use Rattle.place_show.proofs.Makings.{kind-shown, meets-at, shown-by, shown-by-other}
use Rattle.place_show.proofs.OwnApart.{not-twice}
use Rattle.place_show.proofs.TwoShown.{two-shown}
use Rattle.place_show.specs.AtNodes.{ShowsTwoAt}
use Rattle.place_show.specs.LastApart.{AreShownBy, AreShownIn}
use Rattle.place_show.specs.Made.{IsMadeTwo}
use Rattle.place_show.specs.Showings.{IsShownBy, Meet, MetApart, ShowsTwo, TextClashes, shown_state}
use Rattle.place_show.specs.declared.showing.Showing.{Showing}
use Rattle.tpl_paths.specs.Edges.{before}
use Rattle.tpl_tree.specs.Forests.{ForestData}
use Rattle.tpl_tree.specs.Trees.{NodesData, head_kind, head_line, head_seams, nodes_from, text_line}
use Rattle.tpl_tree.specs.declared.node_kind.NodeKind.TheVariants as kind

abbrev ClashEither : List ℕ → LexState ValueState → LexState ValueState → Code → ℕ → Type 0
ClashEither bytes s r e at = Clashes bytes s r e at ⊎ Clashes bytes r s e at

module _ (bytes : List ℕ) (c : Place) (e : StepErr Place)
    (p : Place) (s : LexState ValueState) (own : placed s ≡ Some p) (valid : IsValid p) (takes : TakesByte e.at (after_text bytes p))
    (q : Place) (r : LexState ValueState) (other_own : placed r ≡ Some q) (other_valid : IsValid q) (other_takes : TakesByte e.at (after_text bytes q))
    (joins : joined p q ≡ Some c) (none : HasApart p → ⊥) (other_none : HasApart q → ⊥) where
  s-in : IsIn c s
  s-in = stands-below p s (own, valid) c (the_join_above p q c joins).0

  r-in : IsIn c r
  r-in = stands-below q r (other_own, other_valid) c (the_join_above p q c joins).1

  -- they met apart before the text, which the place that stands for both has of them
  abbrev AreRefusedApart : Type 0
  AreRefusedApart = Apart s r × ClashesApart bytes s r e.code e.at × HasApart c

  not-one : (x : Member) → IsEvidence bytes c e (one x) → Has p x ⊎ Has q x → ⊥
  not-one x h (inl k) =
      let d = h.1 s s-in (bears p s own x k) in
      not-alone bytes p s own e.at (after_text bytes p) refl takes (record { code = e.code; at = e.at; before = d.0 }) refl d.1
  not-one x h (inr k) =
      let d = h.1 r r-in (bears q r other_own x k) in
      not-alone bytes q r other_own e.at (after_text bytes q) refl other_takes (record { code = e.code; at = e.at; before = d.0 }) refl d.1

  of-two : (x y : Member) → IsEvidence bytes c e (two x y) → Has p x ⊎ Has q x → Has p y ⊎ Has q y → ClashEither bytes s r e.code e.at
  of-two x y h (inl k) (inl l) = absurd (not-twice bytes s e.code e.at (h.2 s s s-in (bears p s own x k) s-in (bears p s own y l)))
  of-two x y h (inl k) (inr l) = inl (h.2 s r s-in (bears p s own x k) r-in (bears q r other_own y l))
  of-two x y h (inr k) (inl l) = inr (h.2 r s r-in (bears q r other_own x k) s-in (bears p s own y l))
  of-two x y h (inr k) (inr l) = absurd (not-twice bytes r e.code e.at (h.2 r r r-in (bears q r other_own x k) r-in (bears q r other_own y l)))

  -- they were apart before the text
  apart-before : (HasApart p ⊎ HasApart q) ⊎ ArePlacesApart p q → ArePlacesApart p q
  apart-before (inl (inl h)) = absurd (none h)
  apart-before (inl (inr h)) = absurd (other_none h)
  apart-before (inr h) = h

  of-apart : IsEvidence bytes c e apart → AreRefusedApart
  of-apart h =
      let a = apart-before (met-apart.joins p q c joins h.0) in
      let sides = met-apart.sides_of p q a in (
        record { own = p; other_own = q; stands = own; other_stands = other_own; apart = a },
        h.1 s r s-in (bears p s own side sides.0) r-in (bears q r other_own side sides.1),
        h.0,
      )

  of-shown : (h : EvidenceData) → IsEvidence bytes c e h → ClashEither bytes s r e.code e.at ⊎ AreRefusedApart
  of-shown (one x) h = absurd (not-one x h ((the_join_has p q c x joins).0 h.0))
  of-shown (two x y) h = inl (of-two x y h ((the_join_has p q c x joins).0 h.0) ((the_join_has p q c y joins).0 h.1))
  of-shown apart h = inr (of-apart h)

  pub refused-together : after_text bytes c ≡ Err e → ClashEither bytes s r e.code e.at ⊎ AreRefusedApart
  refused-together refused = (let h = evidence-text bytes c e (the_join_valid p q c valid other_valid joins) refused in of-shown h.0 h.1)

module _ (forest : ForestData) (w v : PathReplay) (nodes : NodesData) (n : ℕ) (bytes : List ℕ) (c : Place) (e : StepErr Place) (at other_at : Place) (sh : Showing)
    (text : head_kind (nodes_from nodes n) ≡ Some (kind.Text bytes))
    (m : IsMadeTwo forest w v e.code (text_line bytes (head_line (nodes_from nodes n)) (head_seams (nodes_from nodes n)) e.at) n e.at at other_at sh)
    (there : nodes_at forest w.template ≡ nodes) (stands : w.point ≡ before n) (meet : Meet w v) (is : IsPathReplay forest w) (other : IsPathReplay forest v) where
  abbrev by : IsShownBy forest sh m.seen w
  by = shown-by forest w e.code (text_line bytes (head_line (nodes_from nodes n)) (head_seams (nodes_from nodes n)) e.at) n e.at at sh m.seen m.made m.is is

  abbrev other_by : IsShownBy forest sh m.other v
  other_by = shown-by-other forest w v other_at sh m.seen m.other by meet m.other_is other

  abbrev s : LexState ValueState
  s = shown_state is

  abbrev r : LexState ValueState
  r = shown_state other

  shows-clash : ClashEither bytes s r e.code e.at → AreShownIn e.at bytes s r at other_at → ShowsTwo forest sh
  shows-clash both places = (
      let error : TextClashes forest sh m.seen m.other w v s r = record {
        bytes = bytes;
        point = stands ∙ sym (ap before m.made.node_is);
        text = kind-shown forest w nodes n sh there (kind.Text bytes) m.made.node_is text;
        clash = rw (m.made.code, m.made.byte_is) both;
        places = rw (m.made.byte_is, m.is.place, m.other_is.place) places;
        line = rw (m.made.node_is, m.made.byte_is, there) m.made.line_is;
      } in
      two-shown forest sh w v m.seen m.other meet by other_by m.paths (inl error))

  shows-apart : Apart s r → ClashesApart bytes s r e.code e.at → IsLastIn e.at bytes s r at other_at → ShowsTwo forest sh
  shows-apart met clash places = (
      let error : MetApart forest sh m.seen m.other w v is.moves other.moves = record {
        bytes = bytes;
        point = stands ∙ sym (ap before m.made.node_is);
        text = kind-shown forest w nodes n sh there (kind.Text bytes) m.made.node_is text;
        first = is.moves;
        other_first = other.moves;
        common = [];
        moves = sym (append-nil is.moves);
        other_moves = sym (append-nil other.moves);
        meet = meets-at forest w v is other sh.root meet by.root;
        met = inl (met, tt, tt);
        clash = rw (m.made.code, m.made.byte_is) clash;
        places = rw (m.made.byte_is, m.is.place, m.other_is.place) places;
        line = rw (m.made.node_is, m.made.byte_is, there) m.made.line_is;
      } in
      two-shown forest sh w v m.seen m.other meet by other_by m.paths (inr (inr (inl error))))

  -- where the place that stands for both says where they are shown
  shows-either : (ClashEither bytes s r e.code e.at) ⊎ (Apart s r × ClashesApart bytes s r e.code e.at × HasApart c) → AreShownBy c e.at bytes s r at other_at → ShowsTwo forest sh
  shows-either (inl h) (inl l) = shows-clash h (inl l)
  shows-either (inl h) (inr k) = shows-clash h (inr (k.1, k.2, k.3))
  shows-either (inr h) (inl l) = shows-apart h.0 h.1 l
  shows-either (inr h) (inr k) = absurd (k.0 h.2)

pub clash-shown : (forest : ForestData) (w v : PathReplay) (nodes : NodesData) (n : ℕ) (bytes : List ℕ) (c : Place) (e : StepErr Place) (at other_at : Place) (sh : Showing)
    → head_kind (nodes_from nodes n) ≡ Some (kind.Text bytes) → (HasApart w.place → ⊥) → (HasApart v.place → ⊥)
    → TakesByte e.at (after_text bytes w.place) → TakesByte e.at (after_text bytes v.place) → joined w.place v.place ≡ Some c → after_text bytes c ≡ Err e
    → ((s r : LexState ValueState) → placed s ≡ Some w.place → placed r ≡ Some v.place → AreShownBy c e.at bytes s r at other_at)
    → IsMadeTwo forest w v e.code (text_line bytes (head_line (nodes_from nodes n)) (head_seams (nodes_from nodes n)) e.at) n e.at at other_at sh
    → ShowsTwoAt forest w v nodes n sh
clash-shown forest w v nodes n bytes c e at other_at sh h none other_none takes other_takes joins refused places m there p meet is other =
    shows-either forest w v nodes n bytes c e at other_at sh h m there p meet is other
    (refused-together bytes c e w.place (shown_state is) is.own is.valid takes v.place (shown_state other) other.own other.valid other_takes joins none other_none refused)
    (places (shown_state is) (shown_state other) is.own other.own)
