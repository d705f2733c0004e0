-- A hole that the join of the places of two paths refuses, and each of them takes, is refused on the two together, and that is shown.
use Rattle.std.proofs.Common.{◌≡◌, ℕ, Some, Result, Ok, Err, refl, sym, ap, ◌∙◌, subst, ◌⊎◌, inl, inr}
use Rattle.html_step.proofs.HoleOrder.{accepts-hole}
use Rattle.html_step.proofs.HoleShows.{evidence-hole}
use Rattle.html_step.specs.HoleLaws.{IsHoleEvidence}
use Rattle.html_step.specs.Holes.{Holed, after_hole}
use Rattle.html_step.specs.Laws.{EvidenceData, apart, one, two}
use Rattle.place_core.proofs.JoinMembers.{the_join_has}
use Rattle.place_core.proofs.JoinValid.{the_join_valid}
use Rattle.place_core.proofs.Joins.{places_same, the_join_above}
use Rattle.place_core.specs.place.Errors.{RefusesHole}
use Rattle.place_core.specs.place.PathPairs.{ClashesHole}
use Rattle.place_core.specs.place.Membership.{Bears, IsIn}
use Rattle.place_core.specs.place.Places.{Has, IsValid, joined}
use Rattle.place_core.specs.place.StatePlaces.{placed}
use Rattle.place_core.specs.page.States.{LexState}
use Rattle.place_core.specs.page.Tags.{ValueState}
use Rattle.place_core.specs.declared.code.Code.{Code}
use Rattle.place_core.specs.declared.member.Member.{Member}
use Rattle.place_core.specs.declared.place.Place.{Place}
use Rattle.place_trace.specs.declared.replay.PathReplay.{PathReplay}
use Rattle.place_show.proofs.Makings.{kind-shown, shown-by, shown-by-other}
use Rattle.place_show.proofs.TwoShown.{two-shown}
use Rattle.place_show.specs.AtNodes.{ShowsTwoAt}
use Rattle.place_show.specs.Made.{IsMadeTwo}
use Rattle.place_show.specs.Showings.{HoleClashes, IsShownBy, shown_state}
use Rattle.place_show.specs.Taking.{AreRefusedTogether, TakesHoleAt}
use Rattle.place_show.specs.declared.showing.Showing.{Showing}
use Rattle.tpl_paths.specs.Edges.{before}
use Rattle.tpl_tree.specs.Forests.{ForestData}
use Rattle.tpl_tree.specs.Trees.{NodesData, head_kind, head_line, nodes_from}
use Rattle.tpl_tree.specs.declared.node_kind.NodeKind.TheVariants as kind
use Rattle.tpl_tree.specs.declared.pipe.Pipe.{Pipe}

stands-below : (p : Place) (s : LexState ValueState) → placed s ≡ Some p → IsValid p → (c : Place) → joined p c ≡ Some c → IsIn c s
stands-below p s own valid c b = record { own = p; stands = own; valid = valid; below = b }

bears : (p : Place) (s : LexState ValueState) → placed s ≡ Some p → (x : Member) → Has p x → Bears s x
bears p s own x h = record { own = p; stands = own; has = h }

-- a path whose place takes a hole is refused there neither alone nor with itself
not-refused : (p : Place) (s : LexState ValueState) (o : Holed) → after_hole p ≡ o → TakesHoleAt o → IsValid p → IsIn p s → (e : Code) → (RefusesHole s e → ⊥) × (ClashesHole s s e → ⊥)
not-refused p s (Ok h) is takes v i e = (let a = accepts-hole p h.0 h.1 s e v is i in (a.0, λ c. a.1 s i c))
not-refused p s (Err x) is takes v i e = absurd takes

module _ (c : Place) (e : Code)
    (p : Place) (s : LexState ValueState) (own : placed s ≡ Some p) (valid : IsValid p) (takes : TakesHoleAt (after_hole p)) (here : IsIn p s)
    (q : Place) (r : LexState ValueState) (other_own : placed r ≡ Some q) (other_valid : IsValid q) (other_takes : TakesHoleAt (after_hole q)) (other_here : IsIn q r)
    (joins : joined p q ≡ Some c) where
  s-in : IsIn c s
  s-in = stands-below p s own valid c (the_join_above p q c joins).0

  r-in : IsIn c r
  r-in = stands-below q r other_own other_valid c (the_join_above p q c joins).1

  not-one : (x : Member) → IsHoleEvidence c e (one x) → Has p x ⊎ Has q x → ⊥
  not-one x h (inl k) = (not-refused p s (after_hole p) refl takes valid here e).0 (h.1 s s-in (bears p s own x k))
  not-one x h (inr k) = (not-refused q r (after_hole q) refl other_takes other_valid other_here e).0 (h.1 r r-in (bears q r other_own x k))

  of-two : (x y : Member) → IsHoleEvidence c e (two x y) → Has p x ⊎ Has q x → Has p y ⊎ Has q y → ClashesHole s r e ⊎ ClashesHole r s e
  of-two x y h (inl k) (inl l) = absurd ((not-refused p s (after_hole p) refl takes valid here e).1 (h.2 s s s-in (bears p s own x k) s-in (bears p s own y l)))
  of-two x y h (inl k) (inr l) = inl (h.2 s r s-in (bears p s own x k) r-in (bears q r other_own y l))
  of-two x y h (inr k) (inl l) = inr (h.2 r s r-in (bears q r other_own x k) s-in (bears p s own y l))
  of-two x y h (inr k) (inr l) = absurd ((not-refused q r (after_hole q) refl other_takes other_valid other_here e).1 (h.2 r r r-in (bears q r other_own x k) r-in (bears q r other_own y l)))

  of-shown : (h : EvidenceData) → IsHoleEvidence c e h → ClashesHole s r e ⊎ ClashesHole r s e
  of-shown (one x) h = absurd (not-one x h ((the_join_has p q c x joins).0 h.0))
  of-shown (two x y) h = of-two x y h ((the_join_has p q c x joins).0 h.0) ((the_join_has p q c y joins).0 h.1)
  of-shown apart h = absurd h

  clashes : after_hole c ≡ Err e → ClashesHole s r e ⊎ ClashesHole r s e
  clashes refused = (let h = evidence-hole c e (the_join_valid p q c valid other_valid joins) refused in of-shown h.0 h.1)

pub hole-clash-shown : (forest : ForestData) (w v : PathReplay) (nodes : NodesData) (n : ℕ) (pipe : Pipe) (e : Code) (sh : Showing) → head_kind (nodes_from nodes n) ≡ Some (kind.Action pipe)
    → AreRefusedTogether w.place v.place e → IsMadeTwo forest w v e (head_line (nodes_from nodes n)) n 0 w.place v.place sh → ShowsTwoAt forest w v nodes n sh
hole-clash-shown forest w v nodes n pipe e sh h t m there p meet is other =
    let by : IsShownBy forest sh m.seen w = shown-by forest w e (head_line (nodes_from nodes n)) n 0 w.place sh m.seen m.made m.is is in
    let other_by : IsShownBy forest sh m.other v = shown-by-other forest w v v.place sh m.seen m.other by meet m.other_is other in
    let here = stands-below w.place (shown_state is) is.own is.valid w.place (places_same w.place) in
    let other_here = stands-below v.place (shown_state other) other.own other.valid v.place (places_same v.place) in
    let both = clashes t.both e w.place (shown_state is) is.own is.valid t.one here v.place (shown_state other) other.own other.valid t.other other_here t.joins t.refused in
    let error : HoleClashes forest sh m.seen m.other w v (shown_state is) (shown_state other) = record {
      pipe = pipe;
      point = p ∙ sym (ap before m.made.node_is);
      hole = kind-shown forest w nodes n sh there (kind.Action pipe) m.made.node_is h;
      clash = subst (λ (c : Code). ClashesHole (shown_state is) (shown_state other) c ⊎ ClashesHole (shown_state other) (shown_state is) c) (sym m.made.code) both;
      at = m.is.place;
      other_at = m.other_is.place;
      line = rw (m.made.node_is, there) m.made.line_is;
      byte = m.made.byte_is;
    } in
    two-shown forest sh w v m.seen m.other meet by other_by m.paths (inr (inl error))
