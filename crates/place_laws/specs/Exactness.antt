-- On the paths of a set of templates that has a chart no error stands, and a set on whose paths none stands has one.
use Rattle.std.specs.Prelude.{◌≡◌, ◌↔◌, ℕ, true, List, All}
use Rattle.place_core.specs.declared.place.Place.TheVariants as place
use Rattle.place_chart.specs.Least.{IsLeastChart}
use Rattle.place_chart.specs.Summaries.{IsConflictFreeSummary}
use Rattle.place_chart.specs.declared.summary.Summary.{Summary}
use Rattle.place_derive.specs.Derivations.{IsMadeDerivation}
use Rattle.place_derive.specs.FirstConflicts.{IsFirstConflict}
use Rattle.place_derive.specs.declared.conflict.FirstConflict.{FirstConflict}
use Rattle.place_derive.specs.declared.derivation.Derivation.{Derivation}
use Rattle.place_infer.specs.ChartViews.{ChartData}
use Rattle.place_infer.specs.Inferring.{IsChartOfSet, IsRefusedSet, SetRefuses, is_end_code, root_numbers}
use Rattle.place_infer.specs.declared.set_refused.SetRefused.{SetRefused}
use Rattle.place_infer.specs.declared.set_refused.SetRefused.TheVariants as refused
use Rattle.place_show.specs.NoErrors.{HaveNoErrors, HaveNoOtherErrors}
use Rattle.place_show.specs.declared.showing.Showing.{Showing}
use Rattle.tpl_tree.specs.Forests.{ForestData, HasAscendingNames}

-- Where the least chart is in conflict nowhere, no error but that of an end stands on the paths of the roots, wherever they end.
abbrev pub ConflictFreeSetsHaveNoOtherError : Type 0
ConflictFreeSetsHaveNoOtherError = (forest : ForestData) (names : List (List ℕ)) (summaries : List Summary) → IsLeastChart forest (root_numbers forest names) place.Text summaries
    → All IsConflictFreeSummary summaries → HaveNoOtherErrors forest names

abbrev pub ChartedSetsHaveNoError : Type 0
ChartedSetsHaveNoError = (forest : ForestData) (names : List (List ℕ)) (chart : ChartData) → IsChartOfSet forest names chart → HaveNoErrors forest names

-- A set is refused for an end exactly where no other error stands on the paths of the roots.
abbrev pub EndsAreRefusedAlone : Type 0
EndsAreRefusedAlone = (forest : ForestData) (names : List (List ℕ)) (sh : Showing) → HasAscendingNames forest → IsRefusedSet forest names sh
    → (is_end_code sh.code ≡ true) ↔ HaveNoOtherErrors forest names

-- A set that has a chart is not refused, but for want of memory.
abbrev pub ChartedSetsAreNotRefused : Type 0
ChartedSetsAreNotRefused = (forest : ForestData) (names : List (List ℕ)) (chart : ChartData) (why : SetRefused) → IsChartOfSet forest names chart → SetRefuses forest names why → why ≡ refused.Memory

-- Where no error but that of an end stands on the paths of the roots, nothing that is derived from them is in conflict.
abbrev pub ErrorFreeLogsHaveNoConflict : Type 0
ErrorFreeLogsHaveNoConflict = (forest : ForestData) (names : List (List ℕ)) (log : List Derivation) (conflict : FirstConflict) → HasAscendingNames forest
    → IsMadeDerivation forest (root_numbers forest names) place.Text log → HaveNoOtherErrors forest names → IsFirstConflict forest log conflict → ⊥
