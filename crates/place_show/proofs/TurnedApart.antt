-- Two paths that were apart were so whichever of them comes first.
use Rattle.std.proofs.Common.{ℕ, List, [], ◌∷◌, length, ◌⊎◌, inl, inr}
use Rattle.html_step.proofs.MetApart.{met-apart}
use Rattle.html_step.specs.ApartInText.{AreApartAfter, AreNotApart, IsLastIn}
use Rattle.place_core.specs.page.States.{LexState}
use Rattle.place_core.specs.page.Tags.{ValueState}
use Rattle.place_core.specs.declared.place.Place.{Place}
use Rattle.place_flow.specs.Covering.{edge_read}
use Rattle.place_flow.specs.Errors.{EdgeParts, MeetApart, PartAlong}
use Rattle.place_flow.specs.HtmlCovering.{html_language}
use Rattle.place_show.specs.LastApart.{AreShownIn, EdgeNotApart, IsLastInEdge, IsLastAlong, NotApartAlong}
use Rattle.tpl_paths.specs.Edges.{Edge, calls, fills, passes, picks, writes}
use Rattle.tpl_paths.specs.Paths.{Move, along, back}

turned-after : (n : ℕ) (bytes : List ℕ) (s r : LexState ValueState) → AreApartAfter n bytes s r → AreApartAfter n bytes r s
turned-after n bytes s r h = record {
  own = h.other_own;
  other_own = h.own;
  between = h.other_between;
  other_between = h.between;
  stands = h.other_stands;
  other_stands = h.stands;
  apart = met-apart.turns_places h.own h.other_own h.apart;
}

turned-in : (upto : ℕ) (bytes : List ℕ) (s r : LexState ValueState) (p q : Place) → IsLastIn upto bytes s r p q → IsLastIn upto bytes r s q p
turned-in upto bytes s r p q l = record {
  after = l.after;
  within = l.within;
  apart = turned-after l.after bytes s r l.apart;
  stands = l.other_stands;
  other_stands = l.stands;
  last = λ n more within h. l.last n more within (turned-after n bytes r s h);
}

turned-not : (upto : ℕ) (bytes : List ℕ) (s r : LexState ValueState) → AreNotApart upto bytes s r → AreNotApart upto bytes r s
turned-not upto bytes s r none n within h = none n within (turned-after n bytes r s h)

turned-edge-not : (e : Edge) (s r : LexState ValueState) → EdgeNotApart e s r → EdgeNotApart e r s
turned-edge-not (writes n bytes to) s r h = turned-not (length bytes) bytes s r h
turned-edge-not (fills n pipe to) s r h = h
turned-edge-not (calls n name to) s r h = h
turned-edge-not (picks from choice to) s r h = h
turned-edge-not (passes from to) s r h = h

turned-along-not : (common : List Move) (upto : ℕ) (bytes : List ℕ) (s r : LexState ValueState) → NotApartAlong common upto bytes s r → NotApartAlong common upto bytes r s
turned-along-not [] upto bytes s r h = turned-not upto bytes s r h
turned-along-not (along e ∷ common) upto bytes s r h =
    (turned-edge-not e s r h.0, turned-along-not common upto bytes (edge_read html_language e s) (edge_read html_language e r) h.1)
turned-along-not (back ∷ common) upto bytes s r h = turned-along-not common upto bytes s r h

turned-edge-in : (e : Edge) (s r : LexState ValueState) (p q : Place) → IsLastInEdge e s r p q → IsLastInEdge e r s q p
turned-edge-in (writes n bytes to) s r p q h = turned-in (length bytes) bytes s r p q h
turned-edge-in (fills n pipe to) s r p q h = h
turned-edge-in (calls n name to) s r p q h = h
turned-edge-in (picks from choice to) s r p q h = h
turned-edge-in (passes from to) s r p q h = h

pub turned-last : (common : List Move) (upto : ℕ) (bytes : List ℕ) (s r : LexState ValueState) (p q : Place) → IsLastAlong common upto bytes s r p q → IsLastAlong common upto bytes r s q p
turned-last [] upto bytes s r p q h = turned-in upto bytes s r p q h
turned-last (along e ∷ common) upto bytes s r p q (inl h) =
    inl (turned-edge-in e s r p q h.0, turned-along-not common upto bytes (edge_read html_language e s) (edge_read html_language e r) h.1)
turned-last (along e ∷ common) upto bytes s r p q (inr h) = inr (turned-last common upto bytes (edge_read html_language e s) (edge_read html_language e r) p q h)
turned-last (back ∷ common) upto bytes s r p q h = turned-last common upto bytes s r p q h

pub turned-shown : (at : ℕ) (bytes : List ℕ) (s r : LexState ValueState) (p q : Place) → AreShownIn at bytes s r p q → AreShownIn at bytes r s q p
turned-shown at bytes s r p q (inl h) = inl (turned-in at bytes s r p q h)
turned-shown at bytes s r p q (inr h) = inr (turned-not at bytes s r h.0, h.2, h.1)

turned-edge-parts : (e : Edge) (s r : LexState ValueState) → EdgeParts e s r → EdgeParts e r s
turned-edge-parts (writes n bytes to) s r h = met-apart.turns_within bytes s r h
turned-edge-parts (fills n pipe to) s r h = h
turned-edge-parts (calls n name to) s r h = h
turned-edge-parts (picks from choice to) s r h = h
turned-edge-parts (passes from to) s r h = h

turned-parts : (common : List Move) (s r : LexState ValueState) → PartAlong common s r → PartAlong common r s
turned-parts [] s r h = h
turned-parts (along e ∷ common) s r h = (turned-edge-parts e s r h.0, h.2, h.1)
turned-parts (back ∷ common) s r h = h

pub turned-met : (common : List Move) (s r : LexState ValueState) → MeetApart common s r → MeetApart common r s
turned-met common s r (inl h) = inl (met-apart.turns s r h.0, h.2, h.1)
turned-met common s r (inr h) = inr (turned-parts common s r h)
