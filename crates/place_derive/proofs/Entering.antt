-- A template is entered in a place.
use Rattle.std.proofs.Common.{◌≡◌, ℕ, List, [], ◌∷◌, ◌++◌, sym, ◌∙◌, subst, Option, Some, None, length}
use Rattle.std.specs.Prelude.{slice_get}
use Rattle.std.proofs.lemmas.List.Elements.{All-push}
use Rattle.place_core.specs.declared.place.Place.{Place}
use Rattle.place_flow.specs.Flows.{start_at}
use Rattle.place_flow.specs.declared.point_state.PointState.{PointState}
use Rattle.place_flow.specs.declared.point_state.PointState.TheVariants.{Unreached, At}
use Rattle.place_derive.specs.Derivations.{AllGiven, IsEnteredPair, HasEntry, IsDerivedEntry, IsDerivation, IsLoggedSummary}
use Rattle.place_derive.specs.FirstConflicts.{IsSoundLog, ConflictOrFree}
use Rattle.place_derive.specs.Tracing.{StayIn, derivation_entering}
use Rattle.place_derive.specs.declared.derivation.DerivedFrom.{DerivedFrom}
use Rattle.place_derive.specs.declared.derivation.DerivedFrom.TheVariants.{Root, Called, Along}
use Rattle.place_derive.specs.declared.derivation.Derivation.{Derivation}
use Rattle.place_derive.specs.declared.conflict.FirstConflict.{FirstConflict}
use Rattle.place_derive.proofs.DerivationLaws.{given_last, on_on, summary_logged}
use Rattle.place_derive.proofs.LogLaws.{entries_left, entry_last, made_push, summaries_left}
use Rattle.place_derive.proofs.FirstConflictLaws.{conflict_left}
use Rattle.place_chart.proofs.Elements.{get_left}
use Rattle.place_chart.proofs.FreshSummaries.{IsBlank, fresh_below, fresh_valid, fresh_conflict_free}
use Rattle.place_chart.proofs.RaisedSummaries.{last_added, last_is}
use Rattle.place_chart.specs.Summaries.{AreRaised, IsRaised, IsSummaryBelow, IsValidSummary, IsConflictFreeSummary}
use Rattle.place_chart.specs.declared.summary.Summary.{Summary}
use Rattle.tpl_paths.specs.Edges.{Point}
use Rattle.tpl_tree.specs.Forests.{ForestData}

is_entry : (forest : ForestData) (roots : List ℕ) (first : Place) (log : List Derivation) (g : Derivation) (from : DerivedFrom) → IsEnteredPair from → IsDerivation forest roots first log g from → IsDerivedEntry forest g
is_entry forest roots first log g Root n h = h.entry
is_entry forest roots first log g (Called t e k) n h = h.entry
is_entry forest roots first log g (Along k) n h = absurd n

module _ (forest : ForestData) (t : ℕ) (e : Place) (none summary : Summary) (blank : IsBlank none t e) (same_t : summary.template ≡ none.template) (same_e : summary.entry ≡ none.entry) (raised : IsRaised none summary (start_at forest t) (At e)) where
  begun_logged : (log : List Derivation) → AllGiven log t e (start_at forest t) e → IsLoggedSummary log summary
  begun_logged log given = summary_logged log none summary (start_at forest t) (At e) (λ k p s. (let no_point_state : Unreached ≡ At p = sym (blank.nothing k) ∙ s in cc))
      (λ q s. subst (λ (u : ℕ). AllGiven log u none.entry (start_at forest t) q) (sym blank.template)
      (subst (λ (x : Place). AllGiven log t x (start_at forest t) q) (sym blank.entry) (subst (AllGiven log t e (start_at forest t)) (on_on s) given)))
      same_t same_e raised

  begun_entry : (log : List Derivation) → HasEntry forest log t e → HasEntry forest log summary.template summary.entry
  begun_entry log h = subst (λ (u : ℕ). HasEntry forest log u summary.entry) (sym (same_t ∙ blank.template)) (subst (HasEntry forest log t) (sym (same_e ∙ blank.entry)) h)

  conflict_free_or_conflict : (summaries : List Summary) (log : List Derivation) (g : Derivation) (conflict : Option FirstConflict) → ConflictOrFree conflict forest summaries log → ConflictOrFree conflict forest (summaries ++ summary ∷ []) (log ++ g ∷ [])
  conflict_free_or_conflict summaries log g None h = All-push IsConflictFreeSummary summaries summary h (fresh_conflict_free forest t e none summary blank same_t same_e raised)
  conflict_free_or_conflict summaries log g (Some conflict) h = conflict_left forest log (g ∷ []) conflict h

  begun_sound : (roots : List ℕ) (first : Place) (summaries : List Summary) (log : List Derivation) (conflict : Option FirstConflict) (from : DerivedFrom) (source : Place) → IsEnteredPair from → IsDerivation forest roots first log (derivation_entering forest t e from source) from
      → IsSoundLog forest roots first summaries log conflict → IsSoundLog forest roots first (summaries ++ summary ∷ []) (log ++ derivation_entering forest t e from source ∷ []) conflict
  begun_sound roots first summaries log conflict from source enters derivation h =
      let g = derivation_entering forest t e from source in
      let new = log ++ g ∷ [] in
      let valid = (is_entry forest roots first log g from enters derivation).valid in
      record {
        valid = All-push IsValidSummary summaries summary h.valid (fresh_valid forest t e none summary blank same_t same_e raised valid);
        logged = record {
          entries = All-push (λ (r : Summary). HasEntry forest new r.template r.entry) summaries summary (entries_left log (g ∷ []) forest summaries h.logged.entries) (begun_entry new (entry_last forest log g enters));
          logged = All-push (IsLoggedSummary new) summaries summary (summaries_left log (g ∷ []) summaries h.logged.logged) (begun_logged new (given_last log g valid));
          made = made_push forest roots first log g h.logged.made derivation;
        };
        conflict_free = conflict_free_or_conflict summaries log g conflict h.conflict_free;
        least = λ chart closed. All-push (IsSummaryBelow forest chart) summaries summary (h.least chart closed) (fresh_below forest t e none summary blank same_t same_e raised chart);
      }

-- a blank summary was added, and raised at the start of its template
pub entered_sound : (forest : ForestData) (roots : List ℕ) (first : Place) (summaries new : List Summary) (log : List Derivation) (conflict : Option FirstConflict) (t : ℕ) (e : Place) (none : Summary) (from : DerivedFrom) (source : Place)
    → IsBlank none t e → AreRaised (summaries ++ none ∷ []) new (length summaries) (start_at forest t) (At e) → IsEnteredPair from → IsDerivation forest roots first log (derivation_entering forest t e from source) from
    → IsSoundLog forest roots first summaries log conflict → IsSoundLog forest roots first new (log ++ derivation_entering forest t e from source ∷ []) conflict
entered_sound forest roots first summaries new log conflict t e none from source blank raised enters derivation h =
    let i = last_is summaries new none (start_at forest t) (At e) raised in
    subst (λ (rs : List Summary). IsSoundLog forest roots first rs (log ++ derivation_entering forest t e from source ∷ []) conflict) (sym (last_added summaries new none (start_at forest t) (At e) i))
    (begun_sound forest t e none i.other blank i.template i.entry i.raised roots first summaries log conflict from source enters derivation h)

pub entered_stay : (summaries new : List Summary) (none : Summary) (point : Point) (by : PointState) → AreRaised (summaries ++ none ∷ []) new (length summaries) point by → StayIn summaries new
entered_stay summaries new none point by raised n summary is =
    let i = last_is summaries new none point by raised in
    subst (λ (rs : List Summary). slice_get rs n ≡ Some summary) (sym (last_added summaries new none point by i)) (get_left summaries (i.other ∷ []) n summary is)
