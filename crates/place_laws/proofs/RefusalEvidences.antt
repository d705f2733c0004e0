-- Where an edge is refused from a place, an error stands on a path that the place stands for, on two, or on two that met apart.
use Rattle.std.proofs.Common.{◌≡◌, ℕ, Bool, true, false, List, Option, Some, None, Result, Ok, Err, refl, ap, ◌∙◌, subst, if◌then◌else◌, ◌⊎◌, inl, inr}
use Rattle.place_flow.specs.HtmlCovering.{behind_hole, behind_text}
use Rattle.place_core.specs.place.Membership.{Bears, IsIn}
use Rattle.place_core.specs.place.ApartPlaces.{HasApart, side}
use Rattle.place_core.specs.place.Places.{Below, Has, IsValid}
use Rattle.place_core.specs.place.StatePlaces.{placed}
use Rattle.place_core.specs.page.States.{LexState}
use Rattle.place_core.specs.page.Tags.{ValueState}
use Rattle.place_core.specs.declared.code.Code.{Code}
use Rattle.place_core.specs.declared.member.Member.{Member}
use Rattle.place_core.specs.declared.member.Member.TheVariants as member
use Rattle.place_core.specs.declared.place.Place.{Place}
use Rattle.place_core.specs.declared.step_err.StepErr.{StepErr}
use Rattle.html_step.proofs.EscapeOrder.{evidence-escape}
use Rattle.html_step.proofs.HoleShows.{evidence-hole}
use Rattle.html_step.proofs.TextEvidences.{evidence-text}
use Rattle.html_step.specs.HoleLaws.{IsHoleEvidence}
use Rattle.html_step.specs.Holes.{Holed, after_hole}
use Rattle.html_step.specs.Laws.{IsEvidence, EvidenceData, apart, one, two}
use Rattle.html_step.specs.Steps.{after_text}
use Rattle.html_step.specs.declared.escaper.Escaper.TheVariants as escaper
use Rattle.place_flow.specs.declared.predefined.Predefined.TheVariants as predefined
use Rattle.place_flow.specs.declared.uses.EscaperUse.{EscaperUse}
use Rattle.place_flow.specs.declared.uses.EscaperUse.TheVariants as uses
use Rattle.tpl_paths.specs.Edges.{Edge, Point, calls, fills, from_of, passes, picks, writes}
use Rattle.tpl_paths.specs.Paths.{Open}
use Rattle.tpl_tree.specs.Forests.{ForestData, HasAscendingNames, number_named}
use Rattle.tpl_tree.specs.declared.pipe.Pipe.{Pipe}
use Rattle.place_flow.specs.Transfer.{edge_step, enters_or_refused, reaches_or_refused, may_use, step_of, use_at}
use Rattle.place_flow.specs.declared.step.EdgeStep.{EdgeStep}
use Rattle.place_flow.specs.declared.step.EdgeStep.TheVariants.{Refused}
use Rattle.place_flow.proofs.ClearSteps.{one_place}
use Rattle.place_flow.proofs.NamedParts.{numbered, same_use}
use Rattle.place_flow.specs.Errors.{Misuses}
use Rattle.place_laws.specs.Witness.{Bearing, MetPaths, OneErrs, RefusalErr, path_state}

-- a member that shows that a use may not stand
pub record ShowsUse (p : Place) (u : EscaperUse) : Type 0 where
  pub bears : Member
  pub there : Has p bears
  pub refused : (a : Place) → IsValid a → Below a p → Has a bears → may_use a u ≡ false

shows-use : (p : Place) (u : EscaperUse) → IsValid p → may_use p u ≡ false → ShowsUse p u
shows-use p uses.Nothing v h = cc
shows-use p (uses.Last predefined.Html) v h = (let m = evidence-escape escaper.Html p v h in record { bears = m.0; there = m.1.0; refused = m.1.1 })
shows-use p (uses.Last predefined.Urlquery) v h = (let m = evidence-escape escaper.Urlquery p v h in record { bears = m.0; there = m.1.0; refused = m.1.1 })
shows-use p uses.Misused v h = record { bears = member.Whole; there = refl; refused = λ a w b k. refl }

-- the path's own place has the members that it bears
pub own-has : (p : Place) (s : LexState ValueState) (m : Member) → (i : IsIn p s) → Bears s m → Has i.own m
own-has p s m i b = subst (λ (a : Place). Has a m) (one_place (placed s) b.own i.own b.stands i.stands) b.has

refused-parts : (b : Bool) (x : EdgeStep) → (if b then x else Refused) ≡ Refused → (b ≡ false) ⊎ (x ≡ Refused)
refused-parts true x h = inr h
refused-parts false x h = inl refl

-- some path for each member of a place before an edge
abbrev pub Bearings : ForestData → ℕ → List Open → ℕ → Point → Place → Type 0
Bearings forest root os t k p = (m : Member) → Has p m → Bearing forest root os t k p m

-- two paths that met apart, where the place before an edge has that two of its paths did
pub record BearingApart (forest : ForestData) (root : ℕ) (os : List Open) (t : ℕ) (k : Point) (p : Place) : Type 0 where
  pub paths : MetPaths forest root os t k
  pub is_in : IsIn p (path_state paths.path)
  pub bears : Bears (path_state paths.path) side
  pub other_in : IsIn p (path_state paths.other)
  pub other_bears : Bears (path_state paths.other) side

abbrev pub BearingsApart : ForestData → ℕ → List Open → ℕ → Point → Place → Type 0
BearingsApart forest root os t k p = HasApart p → BearingApart forest root os t k p

module _ (forest : ForestData) (up : HasAscendingNames forest) (root : ℕ) (os : List Open) (t : ℕ) (p : Place) (v : IsValid p) where
  use-stands : (edge : Edge) → Bearings forest root os t (from_of edge) p → may_use p (use_at forest t (from_of edge)) ≡ false → OneErrs forest root os t edge
  use-stands edge bear h =
      let shows = shows-use p (use_at forest t (from_of edge)) v h in
      let b = bear shows.bears shows.there in
      let misuses : Misuses forest b.path.name (from_of edge) (path_state b.path) = record {
        own = b.is_in.own;
        stands = b.is_in.stands;
        misused = ap (may_use b.is_in.own) (same_use forest t b.path.name (numbered forest t b.path.name up b.path.name_is) (from_of edge))
            ∙ shows.refused b.is_in.own b.is_in.valid b.is_in.below (own-has p (path_state b.path) shows.bears b.is_in b.bears);
      } in
      record { path = b.path; errs = inl misuses }

  shown-text-stands : (n : ℕ) (bytes : List ℕ) (to : Point) (e : StepErr Place) (h : EvidenceData) → Bearings forest root os t (from_of (writes n bytes to)) p → BearingsApart forest root os t (from_of (writes n bytes to)) p → IsEvidence bytes p e h → RefusalErr forest root os t (writes n bytes to)
  shown-text-stands n bytes to e (one x) bear met h =
      let b = bear x h.0 in
      let r = h.1 (path_state b.path) b.is_in b.bears in
      inl (record { path = b.path; errs = inr (record { code = e.code; at = e.at; before = r.0 }, r.1) })
  shown-text-stands n bytes to e (two x y) bear met h =
      let b = bear x h.0 in
      let c = bear y h.1 in
      inr (inl (record { path = b.path; other = c.path; errs = (e.code, e.at, h.2 (path_state b.path) (path_state c.path) b.is_in b.bears c.is_in c.bears) }))
  shown-text-stands n bytes to e apart bear met h =
      let m = met h.0 in
      inr (inr (record {
        paths = m.paths;
        errs = (e.code, e.at, h.1 (path_state m.paths.path) (path_state m.paths.other) m.is_in m.bears m.other_in m.other_bears);
      }))

  text-stands : (n : ℕ) (bytes : List ℕ) (to : Point) (o : Result Place (StepErr Place)) → Bearings forest root os t (from_of (writes n bytes to)) p → BearingsApart forest root os t (from_of (writes n bytes to)) p → after_text bytes p ≡ o → reaches_or_refused (behind_text o) ≡ Refused → RefusalErr forest root os t (writes n bytes to)
  text-stands n bytes to (Ok q) bear met is h = cc
  text-stands n bytes to (Err e) bear met is h = (let s = evidence-text bytes p e v is in shown-text-stands n bytes to e s.0 bear met s.1)

  shown-hole-stands : (n : ℕ) (pipe : Pipe) (to : Point) (e : Code) (h : EvidenceData) → Bearings forest root os t (from_of (fills n pipe to)) p → IsHoleEvidence p e h → RefusalErr forest root os t (fills n pipe to)
  shown-hole-stands n pipe to e (one x) bear h = (let b = bear x h.0 in inl (record { path = b.path; errs = inr (e, h.1 (path_state b.path) b.is_in b.bears) }))
  shown-hole-stands n pipe to e (two x y) bear h =
      let b = bear x h.0 in
      let c = bear y h.1 in
      inr (inl (record { path = b.path; other = c.path; errs = (e, h.2 (path_state b.path) (path_state c.path) b.is_in b.bears c.is_in c.bears) }))
  shown-hole-stands n pipe to e apart bear h = absurd h

  hole-stands : (n : ℕ) (pipe : Pipe) (to : Point) (o : Holed) → Bearings forest root os t (from_of (fills n pipe to)) p → after_hole p ≡ o → reaches_or_refused (behind_hole o) ≡ Refused → RefusalErr forest root os t (fills n pipe to)
  hole-stands n pipe to (Ok h) bear is k = cc
  hole-stands n pipe to (Err e) bear is k = (let s = evidence-hole p e v is in shown-hole-stands n pipe to e s.0 bear s.1)

  call-missing : (o : Option ℕ) → enters_or_refused o p ≡ Refused → o ≡ None
  call-missing (Some c) h = cc
  call-missing None h = refl

  edge-stands : (edge : Edge) → Bearings forest root os t (from_of edge) p → BearingsApart forest root os t (from_of edge) p → edge_step forest edge p ≡ Refused → RefusalErr forest root os t edge
  edge-stands (writes n bytes to) bear met h = text-stands n bytes to (after_text bytes p) bear met refl h
  edge-stands (fills n pipe to) bear met h = hole-stands n pipe to (after_hole p) bear refl h
  edge-stands (calls n name to) bear met h = (let b = bear member.Whole refl in inl (record { path = b.path; errs = inr (call-missing (number_named name forest) h) }))
  edge-stands (picks from choice to) bear met h = cc
  edge-stands (passes from to) bear met h = cc

  pub refused-stands : (edge : Edge) → Bearings forest root os t (from_of edge) p → BearingsApart forest root os t (from_of edge) p → step_of forest t edge p ≡ Refused → RefusalErr forest root os t edge
  refused-stands edge bear met h = by-parts (refused-parts (may_use p (use_at forest t (from_of edge))) (edge_step forest edge p) h)
    where
      by-parts : (may_use p (use_at forest t (from_of edge)) ≡ false) ⊎ (edge_step forest edge p ≡ Refused) → RefusalErr forest root os t edge
      by-parts (inl m) = inl (use-stands edge bear m)
      by-parts (inr r) = edge-stands edge bear met r
