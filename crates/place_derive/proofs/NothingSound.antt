-- Before anything is entered, nothing was given and nothing is in conflict.
use Rattle.std.proofs.Common.{ℕ, List, [], None}
use Rattle.place_core.proofs.Semilattices.{none_some}
use Rattle.place_core.specs.declared.place.Place.{Place}
use Rattle.place_derive.specs.Derivations.{HasEntry, IsLoggedSummary}
use Rattle.place_derive.specs.FirstConflicts.{IsSoundLog}
use Rattle.place_chart.proofs.Elements.{all_of}
use Rattle.place_chart.specs.Summaries.{IsSummaryBelow, IsValidSummary, IsConflictFreeSummary}
use Rattle.place_chart.specs.declared.summary.Summary.{Summary}
use Rattle.tpl_tree.specs.Forests.{ForestData}

pub nothing_sound : (forest : ForestData) (roots : List ℕ) (first : Place) → IsSoundLog forest roots first [] [] None
nothing_sound forest roots first = record {
  valid = all_of IsValidSummary [] (λ i summary e. absurd (none_some summary e));
  logged = record {
    entries = all_of (λ (summary : Summary). HasEntry forest [] summary.template summary.entry) [] (λ i summary e. absurd (none_some summary e));
    logged = all_of (IsLoggedSummary []) [] (λ i summary e. absurd (none_some summary e));
    made = λ i g e. absurd (none_some g e);
  };
  conflict_free = all_of IsConflictFreeSummary [] (λ i summary e. absurd (none_some summary e));
  least = λ chart closed. all_of (IsSummaryBelow forest chart) [] (λ i summary e. absurd (none_some summary e));
}
