-- A chart as summaries, one for each pair of a template and a place in which it is entered.
use Rattle.std.specs.Prelude.{◌≡◌, ℕ, ◌==◌, ◌+◌, ◌*◌, Bool, List, [], ◌∷◌, ◌&&◌, if◌then◌else◌, Option, Some, None, is_some, option_map, suc, true, All, slice_get, slice_set, slice_index_or, ◌⊎◌}
use Rattle.std.specs.BTreeMap.{is_at}
use Rattle.std.specs.Map.{lookup}
use Rattle.std.specs.Ordering.{nat_cmp}
use Rattle.place_core.specs.place.Places.{Below, IsValid}
use Rattle.place_core.specs.contracts.place.PlacePartialEq.TheImpl as place_eq
use Rattle.place_core.specs.declared.place.Place.{Place}
use Rattle.place_flow.specs.Flows.{edges_at}
use Rattle.place_flow.specs.PointStates.{IsValidPointState, IsConflictFree, PointStateBelow, joined_point_states}
use Rattle.place_flow.specs.declared.point_state.PointState.{PointState}
use Rattle.place_flow.specs.declared.point_state.PointState.TheVariants.{Unreached}
use Rattle.place_chart.specs.Charts.{ChartByNumber, IsClosedByNumber, IsEntered, EdgeLeads}
use Rattle.place_chart.specs.declared.summary.Summary.{Summary}
use Rattle.tpl_paths.specs.Edges.{Point, from_of, to_of}
use Rattle.tpl_paths.specs.declared.point.Point.TheVariants as point
use Rattle.tpl_tree.specs.Forests.{ForestData}

-- what was found of a point; of one that is not kept, nothing
abbrev pub found_state : Option PointState → PointState
found_state None = Unreached
found_state (Some s) = s

-- what a point of a control has, by its number: the points `Again`, `Head` and `Past` of a node n have 3 n, 3 n + 1 and 3 n + 2
abbrev pub inner_state : List (ℕ × PointState) → ℕ → PointState
inner_state inner number = found_state (lookup (is_at (nat_cmp number)) inner)

-- what a point has in a summary; a point that the summary lacks has nothing
abbrev pub point_state_in : Summary → Point → PointState
point_state_in summary (point.Before n) = slice_index_or summary.before.items n Unreached
point_state_in summary (point.Again n) = inner_state summary.inner (3 * n)
point_state_in summary (point.Head n) = inner_state summary.inner (3 * n + 1)
point_state_in summary (point.Past n) = inner_state summary.inner (3 * n + 2)
point_state_in summary point.Finish = summary.finish

abbrev pub point_state_of : Option Summary → Point → PointState
point_state_of None k = Unreached
point_state_of (Some summary) k = point_state_in summary k

-- whether a summary is that of a pair
abbrev pub same_place : Place → Place → Bool
same_place a b = (place_eq.ghosts).eq a b

abbrev pub is_pair : Summary → ℕ → Place → Bool
is_pair summary t p = summary.template == t && same_place summary.entry p

-- the first summary of a pair, and its number
abbrev pub summary_of : List Summary → ℕ → Place → Option Summary
summary_of [] t p = None
summary_of (summary ∷ summaries) t p = if is_pair summary t p then Some summary else summary_of summaries t p

abbrev pub pair_number : List Summary → ℕ → Place → Option ℕ
pair_number [] t p = None
pair_number (summary ∷ summaries) t p = if is_pair summary t p then Some 0 else option_map suc (pair_number summaries t p)

abbrev pub chart_of : List Summary → ChartByNumber
chart_of summaries t p k = point_state_of (summary_of summaries t p) k

-- a summary has valid places
pub record IsValidSummary (summary : Summary) : Type 0 where
  pub entry : IsValid summary.entry
  pub point_states : (k : Point) → IsValidPointState (point_state_in summary k)

-- A summary is below a chart: wherever the chart enters the summary's template in a place above the summary's own, it has no less at any point.
abbrev pub IsSummaryBelow : ForestData → ChartByNumber → Summary → Type 0
IsSummaryBelow forest chart summary = (p : Place) (k : Point) → IsValid p → IsEntered forest chart summary.template p → Below summary.entry p → PointStateBelow (point_state_in summary k) (chart summary.template p k)

-- summaries are below each closed chart
abbrev pub AreLeast : ForestData → List Summary → Type 0
AreLeast forest summaries = (chart : ChartByNumber) → IsClosedByNumber forest chart → All (IsSummaryBelow forest chart) summaries

-- an edge of a summary leads, in a chart
abbrev pub IsClosedSummary : ForestData → ChartByNumber → Summary → Type 0
IsClosedSummary forest chart summary = All (λ e. EdgeLeads forest chart summary.template e (point_state_in summary (from_of e)) (point_state_in summary (to_of e))) (edges_at forest summary.template)

-- nothing is in conflict
abbrev pub IsConflictFreeSummary : Summary → Type 0
IsConflictFreeSummary summary = (k : Point) → IsConflictFree (point_state_in summary k)

-- A point of a summary was raised, or nothing was, where the summary has not that point or already had that much there.
abbrev pub IsRaised : Summary → Summary → Point → PointState → Type 0
IsRaised old new point by = (k : Point) → (point_state_in new k ≡ point_state_in old k) ⊎ ((k ≡ point) × (point_state_in new k ≡ joined_point_states (point_state_in old point) by))

-- a point of a summary was given a state, or nothing was, where the summary has not that point
abbrev pub IsPut : Summary → Summary → Point → PointState → Type 0
IsPut old new point s = (k : Point) → (point_state_in new k ≡ point_state_in old k) ⊎ ((k ≡ point) × (point_state_in new k ≡ s))

-- likewise of the points before nodes, and of those of controls
abbrev pub ArePut : List PointState → List PointState → ℕ → PointState → Type 0
ArePut old new n s = (i : ℕ) → (slice_index_or new i Unreached ≡ slice_index_or old i Unreached) ⊎ ((i ≡ n) × (slice_index_or new i Unreached ≡ s))

abbrev pub AreInnerPut : List (ℕ × PointState) → List (ℕ × PointState) → ℕ → PointState → Type 0
AreInnerPut old new n s = (i : ℕ) → (inner_state new i ≡ inner_state old i) ⊎ ((i ≡ n) × (inner_state new i ≡ s))

-- a point of a control is kept, by its number
abbrev pub HasNumber : List (ℕ × PointState) → ℕ → Type 0
HasNumber inner number = is_some (lookup (is_at (nat_cmp number)) inner) ≡ true

-- no point of a control has anything
abbrev pub HasNoInner : List (ℕ × PointState) → Type 0
HasNoInner inner = (i : ℕ) → inner_state inner i ≡ Unreached

-- a point of one of some summaries was raised
pub record AreRaised (old new : List Summary) (n : ℕ) (point : Point) (by : PointState) : Type 0 where
  pub before : Summary
  pub after : Summary
  pub was : slice_get old n ≡ Some before
  pub is : new ≡ slice_set old n after
  pub template : after.template ≡ before.template
  pub entry : after.entry ≡ before.entry
  pub raised : IsRaised before after point by

-- a summary was taken out of some, and one of the same pair with nothing at its points stands in its place
pub record IsTaken (old new : List Summary) (n : ℕ) : Type 0 where
  pub before : Summary
  pub after : Summary
  pub was : slice_get old n ≡ Some before
  pub is : new ≡ slice_set old n after
  pub template : after.template ≡ before.template
  pub entry : after.entry ≡ before.entry
  pub nothing : (k : Point) → point_state_in after k ≡ Unreached
