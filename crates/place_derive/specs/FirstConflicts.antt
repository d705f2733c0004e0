-- Where something is in conflict first.
use Rattle.std.specs.Prelude.{◌≡◌, ℕ, List, All, Option, Some, None, slice_get}
use Rattle.place_core.specs.place.Places.{joined}
use Rattle.place_core.specs.declared.place.Place.{Place}
use Rattle.place_flow.specs.Flows.{edges_at}
use Rattle.place_flow.specs.Transfer.{step_of}
use Rattle.place_flow.specs.declared.step.EdgeStep.TheVariants.{Refused as refused_step}
use Rattle.place_derive.specs.Derivations.{AllGiven, HasEntry, IsDerivedBy, IsLog}
use Rattle.place_derive.specs.declared.derivation.Derivation.{Derivation}
use Rattle.place_derive.specs.declared.conflict.FirstConflict.{FirstConflict}
use Rattle.place_derive.specs.declared.conflict.Why.{Why}
use Rattle.place_derive.specs.declared.conflict.Why.TheVariants.{Refused, Clashes}
use Rattle.place_chart.specs.Summaries.{AreLeast, IsValidSummary, IsConflictFreeSummary}
use Rattle.place_chart.specs.declared.summary.Summary.{Summary}
use Rattle.tpl_paths.specs.Edges.{Edge, from_of, to_of}
use Rattle.tpl_tree.specs.Forests.{ForestData}

-- what an edge gives, and what was given before to its end, do not join
pub record IsClash (forest : ForestData) (log : List Derivation) (t : ℕ) (e : Place) (edge : Edge) (source before derived : Place) : Type 0 where
  pub gives : IsDerivedBy log (step_of forest t edge source) derived
  pub was : AllGiven log t e (to_of edge) before
  pub clash : joined before derived ≡ None

abbrev pub IsWhy : ForestData → List Derivation → ℕ → Place → Edge → Place → Why → Type 0
IsWhy forest log t e edge source Refused = step_of forest t edge source ≡ refused_step
IsWhy forest log t e edge source (Clashes before derived) = IsClash forest log t e edge source before derived

-- An edge of a pair is in conflict: each member of the place at its start was given there, and it is refused from that place, or what it gives does
-- not join with what was given before to its end.
pub record IsFirstConflict (forest : ForestData) (log : List Derivation) (conflict : FirstConflict) : Type 0 where
  pub edge : Edge
  pub is : slice_get (edges_at forest conflict.template) conflict.edge ≡ Some edge
  pub entered : HasEntry forest log conflict.template conflict.entry
  pub from : AllGiven log conflict.template conflict.entry (from_of edge) conflict.source
  pub why : IsWhy forest log conflict.template conflict.entry edge conflict.source conflict.why

-- while there is no conflict, nothing is in conflict
abbrev pub ConflictOrFree : Option FirstConflict → ForestData → List Summary → List Derivation → Type 0
ConflictOrFree None forest summaries log = All IsConflictFreeSummary summaries
ConflictOrFree (Some conflict) forest summaries log = IsFirstConflict forest log conflict

-- summaries that grew, their log, and the first conflict: below each closed chart, with valid places
pub record IsSoundLog (forest : ForestData) (roots : List ℕ) (first : Place) (summaries : List Summary) (log : List Derivation) (conflict : Option FirstConflict) : Type 0 where
  pub valid : All IsValidSummary summaries
  pub logged : IsLog forest roots first summaries log
  pub conflict_free : ConflictOrFree conflict forest summaries log
  pub least : AreLeast forest summaries
