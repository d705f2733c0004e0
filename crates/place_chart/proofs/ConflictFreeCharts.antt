-- Closed summaries that are nowhere in conflict are a closed chart of places.
use Rattle.std.proofs.Common.{◌≡◌, ℕ, Bool, true, false, List, [], ◌∷◌, refl, sym, ap, subst, Option, Some, None, inl, inr, if◌then◌else◌}
use Rattle.std.specs.Prelude.{All}
use Rattle.std.proofs.lemmas.List.Elements.{All-head, All-tail}
use Rattle.place_flow.specs.Covering.{EdgeHolds, Holds, LeadsOn}
use Rattle.place_flow.specs.HtmlCovering.{behind_hole, behind_text, html_language}
use Rattle.place_core.specs.place.Places.{IsValid}
use Rattle.place_core.specs.declared.place.Place.{Place}
use Rattle.place_core.proofs.Semilattices.{none_some, one_value}
use Rattle.html_step.specs.Holes.{after_hole}
use Rattle.html_step.specs.Steps.{after_text}
use Rattle.place_flow.specs.Flows.{edges_at, start_at}
use Rattle.place_flow.specs.Transfer.{edge_step, enters_or_refused, reaches_or_refused, may_use, use_at}
use Rattle.place_flow.specs.PointStates.{IsValidPointState, IsConflictFree, PointStateBelow}
use Rattle.place_flow.specs.declared.point_state.PointState.{PointState}
use Rattle.place_flow.specs.declared.point_state.PointState.TheVariants.{Unreached, At, Conflict}
use Rattle.place_flow.specs.declared.step.EdgeStep.{EdgeStep}
use Rattle.place_flow.specs.declared.step.EdgeStep.TheVariants.{Refused}
use Rattle.place_flow.proofs.PointStateLaws.{below_refl}
use Rattle.place_chart.specs.Charts.{ChartByNumber, IsClosedByNumber, IsEntered, EdgeLeads, StepEnters, step_given}
use Rattle.place_chart.specs.Summaries.{IsValidSummary, IsConflictFreeSummary, chart_of, summary_of, point_state_of}
use Rattle.place_chart.specs.declared.summary.Summary.{Summary}
use Rattle.tpl_paths.specs.Edges.{Edge, Point, Within, calls, edges_in, fills, finish_point, from_of, passes, picks, start_in, to_of, writes}
use Rattle.tpl_tree.specs.Forests.{ForestData, number_named}
use Rattle.place_chart.specs.Exact.{ConflictFreeCloses, point_place, places_at, places_of}
use Rattle.place_chart.specs.Roots.{RootIsChart}
use Rattle.place_chart.proofs.FirstSummaries.{first_is, first_summary_is}
use Rattle.place_chart.proofs.NamedTemplates.{edges_at-named, start_at-named}

-- what holds of all edges holds of one within them
all_within : (P : Edge → Type 0) (e : Edge) (es : List Edge) → Within e es → All P es → P e
all_within P e [] w all = absurd w
all_within P e (x ∷ xs) (inl s) all = subst P (sym s) (All-head P x xs all)
all_within P e (x ∷ xs) (inr w) all = all_within P e xs w (All-tail P x xs all)

not_conflict : (s : PointState) → IsConflictFree s → PointStateBelow Conflict s → ⊥
not_conflict Unreached w be = be
not_conflict (At p) w be = be
not_conflict Conflict w be = w

is_on : (s : PointState) (a : Place) → point_place s ≡ Some a → s ≡ At a
is_on Unreached a e = absurd (none_some a e)
is_on (At p) a e = ap At (one_value p a e)
is_on Conflict a e = absurd (none_some a e)

-- a spot that is there is that of a summary
on_summary : (o : Option Summary) (k : Point) (p : Place) → PointStateBelow (At p) (point_state_of o k) → (summary : Summary) × (o ≡ Some summary)
on_summary None k p be = absurd be
on_summary (Some summary) k p be = (summary, refl)

-- likewise, whose pair has a valid place
entry_valid : (summaries : List Summary) (t : ℕ) (p q : Place) (k : Point) → All IsValidSummary summaries → PointStateBelow (At q) (chart_of summaries t p k) → IsValid p
entry_valid summaries t p q k valid be =
    let f = on_summary (summary_of summaries t p) k q be in
    subst IsValid (first_is summaries t p f.0 f.1).entry (first_summary_is IsValidSummary summaries t p f.0 valid f.1).entry

conflict_free_point_state : (o : Option Summary) (k : Point) → ((summary : Summary) → o ≡ Some summary → IsConflictFreeSummary summary) → IsConflictFree (point_state_of o k)
conflict_free_point_state None k h = tt
conflict_free_point_state (Some summary) k h = h summary refl k

chart_conflict_free : (summaries : List Summary) → All IsConflictFreeSummary summaries → (t : ℕ) (p : Place) (k : Point) → IsConflictFree (chart_of summaries t p k)
chart_conflict_free summaries conflict_free t p k = conflict_free_point_state (summary_of summaries t p) k (λ summary e. first_summary_is IsConflictFreeSummary summaries t p summary conflict_free e)

-- places alone hold what spots have that are whole
holds : (s : PointState) (p : Place) → IsConflictFree s → IsValidPointState s → PointStateBelow (At p) s → Holds html_language (point_place s) p
holds Unreached p w v be = absurd be
holds (At q) p w v be = (v, be)
holds Conflict p w v be = absurd w

leads_on : (o : Option Place) (chart : ChartByNumber) (s : PointState) → IsConflictFree s → IsValidPointState s → PointStateBelow (step_given chart (reaches_or_refused o)) s → LeadsOn html_language o (point_place s)
leads_on (Some q) chart s w v be = holds s q w v be
leads_on None chart s w v be = absurd (not_conflict s w be)

-- what leads on is not refused
record Goes (forest : ForestData) (chart : ChartByNumber) (step : EdgeStep) (s : PointState) : Type 0 where
  pub enters : StepEnters forest chart step
  pub gives : PointStateBelow (step_given chart step) s

goes : (forest : ForestData) (chart : ChartByNumber) (b : Bool) (step : EdgeStep) (s : PointState) → IsConflictFree s → StepEnters forest chart (if b then step else Refused) → PointStateBelow (step_given chart (if b then step else Refused)) s → Goes forest chart step s
goes forest chart true step s w en be = record { enters = en; gives = be }
goes forest chart false step s w en be = absurd (not_conflict s w be)

module _ (forest : ForestData) (summaries : List Summary) (valid : All IsValidSummary summaries) (closed : IsClosedByNumber forest (chart_of summaries)) (conflict_free : All IsConflictFreeSummary summaries) where
  -- a call, to a template by its name
  call_holds : (callee : List ℕ) (o : Option ℕ) → number_named callee forest ≡ o → (a : Place) (there : PointState) → IsValid a → IsConflictFree there → IsValidPointState there → Goes forest (chart_of summaries) (enters_or_refused o a) there
      → Holds html_language (places_at summaries o a (start_in forest callee)) a × ((b : Place) → places_at summaries o a finish_point ≡ Some b → Holds html_language (point_place there) b)
  call_holds callee None e a there va w v g = absurd (not_conflict there w g.gives)
  call_holds callee (Some c) e a there va w v g =
      let en : PointStateBelow (At a) (chart_of summaries c a (start_in forest callee)) = subst (λ (k : Point). PointStateBelow (At a) (chart_of summaries c a k)) (start_at-named forest callee c e) g.enters in (
        holds (chart_of summaries c a (start_in forest callee)) a (chart_conflict_free summaries conflict_free c a (start_in forest callee)) (closed.valid c a (start_in forest callee) va) en,
        λ b f. holds there b w v (subst (λ (s : PointState). PointStateBelow s there) (is_on (chart_of summaries c a finish_point) b f) g.gives),
      )

  -- an edge of a template, from a place
  edge_holds : (name : List ℕ) (t : ℕ) → number_named name forest ≡ Some t → (p a : Place) (e : Edge) → IsValid a → IsConflictFree (chart_of summaries t p (to_of e)) → IsValidPointState (chart_of summaries t p (to_of e))
      → Goes forest (chart_of summaries) (edge_step forest e a) (chart_of summaries t p (to_of e)) → EdgeHolds html_language forest (places_of forest summaries) name p e a
  edge_holds name t is p a (writes n bytes to) va w v g =
      subst (λ (o : Option ℕ). LeadsOn html_language (behind_text (after_text bytes a)) (places_at summaries o p to)) (sym is)
      (leads_on (behind_text (after_text bytes a)) (chart_of summaries) (chart_of summaries t p to) w v g.gives)
  edge_holds name t is p a (fills n pipe to) va w v g =
      subst (λ (o : Option ℕ). LeadsOn html_language (behind_hole (after_hole a)) (places_at summaries o p to)) (sym is)
      (leads_on (behind_hole (after_hole a)) (chart_of summaries) (chart_of summaries t p to) w v g.gives)
  edge_holds name t is p a (calls n callee to) va w v g =
      let h = call_holds callee (number_named callee forest) refl a (chart_of summaries t p to) va w v g in
      (h.0, λ b f. subst (λ (o : Option ℕ). Holds html_language (places_at summaries o p to) b) (sym is) (h.1 b f))
  edge_holds name t is p a (picks from choice to) va w v g = subst (λ (o : Option ℕ). Holds html_language (places_at summaries o p to) a) (sym is) (holds (chart_of summaries t p to) a w v g.gives)
  edge_holds name t is p a (passes from to) va w v g = subst (λ (o : Option ℕ). Holds html_language (places_at summaries o p to) a) (sym is) (holds (chart_of summaries t p to) a w v g.gives)

  from_place : (name : List ℕ) (o : Option ℕ) → number_named name forest ≡ o → (p : Place) (e : Edge) (a : Place) → Within e (edges_in forest name) → places_at summaries o p (from_of e) ≡ Some a → EdgeHolds html_language forest (places_of forest summaries) name p e a
  from_place name None is p e a inside at = absurd (none_some a at)
  from_place name (Some t) is p e a inside at =
      let on : chart_of summaries t p (from_of e) ≡ At a = is_on (chart_of summaries t p (from_of e)) a at in
      let vp : IsValid p = entry_valid summaries t p a (from_of e) valid (subst (PointStateBelow (At a)) (sym on) (below_refl a)) in
      let va : IsValid a = subst IsValidPointState on (closed.valid t p (from_of e) vp) in
      let w : IsConflictFree (chart_of summaries t p (to_of e)) = chart_conflict_free summaries conflict_free t p (to_of e) in
      let l = all_within (λ (x : Edge). EdgeLeads forest (chart_of summaries) t x (chart_of summaries t p (from_of x)) (chart_of summaries t p (to_of x))) e (edges_at forest t) (subst (Within e) (sym (edges_at-named forest name t is)) inside) (closed.leads t p vp) in
      let m = subst (λ (s : PointState). EdgeLeads forest (chart_of summaries) t e s (chart_of summaries t p (to_of e))) on l in
      edge_holds name t is p a e va w (closed.valid t p (to_of e) vp)
      (goes forest (chart_of summaries) (may_use a (use_at forest t (from_of e))) (edge_step forest e a) (chart_of summaries t p (to_of e)) w m.enters m.gives)

  root_starts : (name : List ℕ) (t : ℕ) (first : Place) → number_named name forest ≡ Some t → IsEntered forest (chart_of summaries) t first → Holds html_language (places_of forest summaries name first (start_in forest name)) first
  root_starts name t first is en =
      let vp : IsValid first = entry_valid summaries t first first (start_at forest t) valid en in
      subst (λ (k : Point). Holds html_language (places_of forest summaries name first k) first) (start_at-named forest name t is)
      (subst (λ (o : Option ℕ). Holds html_language (places_at summaries o first (start_at forest t)) first) (sym is)
      (holds (chart_of summaries t first (start_at forest t)) first (chart_conflict_free summaries conflict_free t first (start_at forest t)) (closed.valid t first (start_at forest t) vp) en))

pub conflict_free-closes : ConflictFreeCloses
conflict_free-closes forest summaries up valid closed conflict_free name p e a inside at = from_place forest summaries valid closed conflict_free name (number_named name forest) refl p e a inside at

pub root-is-chart : RootIsChart
root-is-chart forest summaries name t first valid closed conflict_free is en = record {
  closed = λ u p e a inside at. from_place forest summaries valid closed conflict_free u (number_named u forest) refl p e a inside at;
  starts = root_starts forest summaries valid closed conflict_free name t first is en;
}
