-- Where something is in conflict first.
use Rattle.std.proofs.Common.{◌≡◌, ℕ, List, ◌++◌, refl, sym, subst, Option, Some, None}
use Rattle.std.specs.Prelude.{All, slice_get}
use Rattle.place_core.specs.place.Places.{IsValid, joined}
use Rattle.place_core.specs.declared.place.Place.{Place}
use Rattle.place_flow.specs.Flows.{edges_at}
use Rattle.place_flow.specs.Transfer.{step_of}
use Rattle.place_flow.specs.PointStates.{IsConflictFree, joined_point_states, at_or_conflict}
use Rattle.place_flow.specs.declared.point_state.PointState.{PointState}
use Rattle.place_flow.specs.declared.point_state.PointState.TheVariants.{Unreached, At, Conflict}
use Rattle.place_flow.specs.declared.step.EdgeStep.{EdgeStep}
use Rattle.place_flow.specs.declared.step.EdgeStep.TheVariants.{Reaches, Enters, Refused as refused_step}
use Rattle.place_derive.specs.Derivations.{AllGiven, HasEntry, IsDerivedBy, IsLoggedSummary}
use Rattle.place_derive.specs.FirstConflicts.{IsFirstConflict, IsWhy}
use Rattle.place_derive.specs.Tracing.{clash_of, conflict_of, conflict_with, why_of}
use Rattle.place_derive.specs.declared.derivation.Derivation.{Derivation}
use Rattle.place_derive.specs.declared.pair_edge.PairEdge.{PairEdge}
use Rattle.place_derive.specs.declared.conflict.FirstConflict.{FirstConflict}
use Rattle.place_derive.specs.declared.conflict.Why.{Why}
use Rattle.place_derive.specs.declared.conflict.Why.TheVariants.{Refused, Clashes}
use Rattle.place_derive.proofs.DerivationLaws.{derived_is}
use Rattle.place_derive.proofs.LogLaws.{all_left, entry_left, derived_left}
use Rattle.place_chart.proofs.PairLaws.{chart_conflict_free}
use Rattle.place_chart.specs.Charts.{given, step_given}
use Rattle.place_chart.specs.Summaries.{IsConflictFreeSummary, chart_of}
use Rattle.place_chart.specs.declared.summary.Summary.{Summary}
use Rattle.tpl_paths.specs.Edges.{Edge, finish_point, from_of, to_of}
use Rattle.tpl_tree.specs.Forests.{ForestData}

some_is : {A : Type 0} {x y : A} → Some x ≡ Some y → x ≡ y
some_is e = cc

no_conflict : (s : PointState) → IsConflictFree s → s ≡ Conflict → ⊥
no_conflict Unreached w e = cc
no_conflict (At p) w e = cc
no_conflict Conflict w e = w

-- while nothing is in conflict, what a step gives is in conflict only where it is refused
conflict_refused : (summaries : List Summary) → All IsConflictFreeSummary summaries → (step : EdgeStep) → step_given (chart_of summaries) step ≡ Conflict → step ≡ refused_step
conflict_refused summaries conflict_free (Reaches q) e = cc
conflict_refused summaries conflict_free (Enters callee q) e = absurd (no_conflict (chart_of summaries callee q finish_point) (chart_conflict_free summaries conflict_free callee q finish_point) e)
conflict_refused summaries conflict_free refused_step e = refl

module _ (forest : ForestData) (summaries : List Summary) (log : List Derivation) (logged : All (IsLoggedSummary log) summaries) (conflict_free : All IsConflictFreeSummary summaries) (r : PairEdge) (e : Edge) where
  clash_why : (source before derived : Place) (o : Option Place) → joined before derived ≡ o → IsDerivedBy log (step_of forest r.template e source) derived → AllGiven log r.template r.entry (to_of e) before → (w : Why) → clash_of before derived o ≡ Some w → IsWhy forest log r.template r.entry e source w
  clash_why source before derived (Some p) j gives was w s = cc
  clash_why source before derived None j gives was w s = subst (λ (x : Why). IsWhy forest log r.template r.entry e source x) (some_is s) (record { gives = gives; was = was; clash = j })

  why_is : (source : Place) (by old : PointState) → IsValid source → by ≡ given forest (chart_of summaries) r.template e (At source) → ((p : Place) → old ≡ At p → AllGiven log r.template r.entry (to_of e) p) → (w : Why) → why_of by old ≡ Some w → IsWhy forest log r.template r.entry e source w
  why_is source Unreached old v g was w s = cc
  why_is source (At derived) Unreached v g was w s = cc
  why_is source (At derived) (At before) v g was w s = clash_why source before derived (joined before derived) refl (derived_is forest log summaries logged r.template e source derived v (sym g)) (was before refl) w s
  why_is source (At derived) Conflict v g was w s = cc
  why_is source Conflict old v g was w s = subst (λ (x : Why). IsWhy forest log r.template r.entry e source x) (some_is s) (conflict_refused summaries conflict_free (step_of forest r.template e source) (sym g))

  conflict_with_is : (source : Place) (by old : PointState) (o : Option Why) → why_of by old ≡ o → slice_get (edges_at forest r.template) r.number ≡ Some e → HasEntry forest log r.template r.entry → AllGiven log r.template r.entry (from_of e) source
      → by ≡ given forest (chart_of summaries) r.template e (At source) → ((p : Place) → old ≡ At p → AllGiven log r.template r.entry (to_of e) p) → (conflict : FirstConflict) → conflict_with r source o ≡ Some conflict → IsFirstConflict forest log conflict
  conflict_with_is source by old None y is entered from g was conflict s = cc
  conflict_with_is source by old (Some w) y is entered from g was conflict s = subst (IsFirstConflict forest log) (some_is s) (record { edge = e; is = is; entered = entered; from = from; why = why_is source by old from.valid g was w y })

  -- a conflict that is found is one
  pub conflict_is : (at by old : PointState) → slice_get (edges_at forest r.template) r.number ≡ Some e → HasEntry forest log r.template r.entry → ((p : Place) → at ≡ At p → AllGiven log r.template r.entry (from_of e) p)
      → by ≡ given forest (chart_of summaries) r.template e at → ((p : Place) → old ≡ At p → AllGiven log r.template r.entry (to_of e) p) → (conflict : FirstConflict) → conflict_of r at by old ≡ Some conflict → IsFirstConflict forest log conflict
  conflict_is Unreached by old is entered from g was conflict s = cc
  conflict_is (At source) by old is entered from g was conflict s = conflict_with_is source by old (why_of by old) refl is entered (from source refl) g was conflict s
  conflict_is Conflict by old is entered from g was conflict s = cc

conflict_free_off : (old : PointState) → IsConflictFree old → IsConflictFree (joined_point_states old Unreached)
conflict_free_off Unreached w = tt
conflict_free_off (At p) w = tt
conflict_free_off Conflict w = w

clash_conflict_free : (before derived : Place) (o : Option Place) → clash_of before derived o ≡ None → IsConflictFree (at_or_conflict o)
clash_conflict_free before derived (Some p) e = tt
clash_conflict_free before derived None e = cc

why_conflict_free : (by old : PointState) → IsConflictFree old → why_of by old ≡ None → IsConflictFree (joined_point_states old by)
why_conflict_free Unreached old w e = conflict_free_off old w
why_conflict_free (At derived) Unreached w e = tt
why_conflict_free (At derived) (At before) w e = clash_conflict_free before derived (joined before derived) e
why_conflict_free (At derived) Conflict w e = absurd w
why_conflict_free Conflict old w e = cc

no_why : (r : PairEdge) (source : Place) (o : Option Why) → conflict_with r source o ≡ None → o ≡ None
no_why r source None e = refl
no_why r source (Some w) e = cc

-- where no conflict is found, nothing is in conflict
pub none_conflict_free : (forest : ForestData) (summaries : List Summary) (r : PairEdge) (e : Edge) (at by old : PointState) → IsConflictFree at → IsConflictFree old → by ≡ given forest (chart_of summaries) r.template e at → conflict_of r at by old ≡ None → IsConflictFree (joined_point_states old by)
none_conflict_free forest summaries r e Unreached by old wa wo g s = subst (λ (x : PointState). IsConflictFree (joined_point_states old x)) (sym g) (conflict_free_off old wo)
none_conflict_free forest summaries r e (At source) by old wa wo g s = why_conflict_free by old wo (no_why r source (why_of by old) s)
none_conflict_free forest summaries r e Conflict by old wa wo g s = absurd wa

why_left : (forest : ForestData) (log more : List Derivation) (t : ℕ) (p : Place) (e : Edge) (source : Place) (w : Why) → IsWhy forest log t p e source w → IsWhy forest (log ++ more) t p e source w
why_left forest log more t p e source Refused h = h
why_left forest log more t p e source (Clashes before derived) h = record { gives = derived_left log more (step_of forest t e source) derived h.gives; was = all_left log more t p (to_of e) before h.was; clash = h.clash }

pub conflict_left : (forest : ForestData) (log more : List Derivation) (conflict : FirstConflict) → IsFirstConflict forest log conflict → IsFirstConflict forest (log ++ more) conflict
conflict_left forest log more conflict h = record { edge = h.edge; is = h.is; entered = entry_left log more forest conflict.template conflict.entry h.entered; from = all_left log more conflict.template conflict.entry (from_of h.edge) conflict.source h.from; why = why_left forest log more conflict.template conflict.entry h.edge conflict.source conflict.why h.why }
