-- A summary of which a point was raised, and summaries of which one was.
use Rattle.std.proofs.Common.{◌≡◌, ℕ, List, [], ◌∷◌, ◌++◌, sym, ap, ◌∙◌, subst, Some, length, inl, inr}
use Rattle.std.specs.Prelude.{All, slice_get, slice_set}
use Rattle.std.proofs.lemmas.List.Elements.{All-set}
use Rattle.place_core.specs.place.Places.{Below, IsValid}
use Rattle.place_core.specs.declared.place.Place.{Place}
use Rattle.place_core.proofs.Semilattices.{one_value}
use Rattle.place_flow.proofs.PointStateLaws.{point_state_join_least, point_state_join_left, point_state_join_valid, point_state_refl}
use Rattle.place_flow.specs.Flows.{edges_at}
use Rattle.place_flow.specs.PointStates.{IsValidPointState, IsConflictFree, PointStateBelow, joined_point_states}
use Rattle.place_flow.specs.declared.point_state.PointState.{PointState}
use Rattle.place_chart.specs.Charts.{ChartByNumber, IsEntered, given}
use Rattle.place_chart.specs.Summaries.{AreLeast, AreRaised, IsRaised, IsSummaryBelow, IsValidSummary, IsConflictFreeSummary, chart_of, point_state_in}
use Rattle.place_chart.specs.declared.summary.Summary.{Summary}
use Rattle.place_chart.proofs.Elements.{get_last, of_all, set_last}
use Rattle.place_chart.proofs.PairLaws.{gives_below}
use Rattle.tpl_paths.specs.Edges.{Edge, Point, from_of, to_of}
use Rattle.tpl_tree.specs.Forests.{ForestData}

pub raised_valid : (summary other : Summary) (point : Point) (by : PointState) → IsValidSummary summary → IsValidPointState by → other.entry ≡ summary.entry → IsRaised summary other point by → IsValidSummary other
raised_valid summary other point by valid v e raised = record {
  entry = subst IsValid (sym e) valid.entry;
  point_states = λ k. elim (raised k) [
    | inl same ↦ subst IsValidPointState (sym same) (valid.point_states k)
    | inr r ↦ subst IsValidPointState (sym r.1) (point_state_join_valid (point_state_in summary point) by (valid.point_states point) v)
  ];
}

pub raised_conflict_free : (summary other : Summary) (point : Point) (by : PointState) → IsConflictFreeSummary summary → IsConflictFree (joined_point_states (point_state_in summary point) by) → IsRaised summary other point by → IsConflictFreeSummary other
raised_conflict_free summary other point by conflict_free new raised k = elim (raised k) [
  | inl same ↦ subst IsConflictFree (sym same) (conflict_free k)
  | inr r ↦ subst IsConflictFree (sym r.1) new
]

-- nothing that a summary had is less
pub raised_more : (summary other : Summary) (point : Point) (by : PointState) → IsRaised summary other point by → (k : Point) → PointStateBelow (point_state_in summary k) (point_state_in other k)
raised_more summary other point by raised k = elim (raised k) [
  | inl same ↦ subst (PointStateBelow (point_state_in summary k)) (sym same) (point_state_refl (point_state_in summary k))
  | inr r ↦ subst (PointStateBelow (point_state_in summary k)) (sym r.1) (subst (λ (n : Point). PointStateBelow (point_state_in summary n) (joined_point_states (point_state_in summary point) by)) (sym r.0) (point_state_join_left (point_state_in summary point) by))
]

pub raised_below : (forest : ForestData) (chart : ChartByNumber) (summary other : Summary) (point : Point) (by : PointState) → IsSummaryBelow forest chart summary
    → ((q : Place) → IsValid q → IsEntered forest chart summary.template q → Below summary.entry q → PointStateBelow by (chart summary.template q point)) → other.template ≡ summary.template → other.entry ≡ summary.entry → IsRaised summary other point by → IsSummaryBelow forest chart other
raised_below forest chart summary other point by below gives t e raised q k v en be =
    let entered = subst (λ (u : ℕ). IsEntered forest chart u q) t en in
    let over = subst (λ (x : Place). Below x q) e be in
    subst (λ (u : ℕ). PointStateBelow (point_state_in other k) (chart u q k)) (sym t) (elim (raised k) [
      | inl same ↦ subst (λ (s : PointState). PointStateBelow s (chart summary.template q k)) (sym same) (below q k v entered over)
      | inr r ↦ subst (λ (s : PointState). PointStateBelow s (chart summary.template q k)) (sym r.1)
          (subst (λ (n : Point). PointStateBelow (joined_point_states (point_state_in summary point) by) (chart summary.template q n)) (sym r.0)
          (point_state_join_least (point_state_in summary point) by (chart summary.template q point) (below q point v entered over) (gives q v entered over)))
    ])

-- the summary that was raised
pub record IsNow (summaries new : List Summary) (n : ℕ) (summary : Summary) (point : Point) (by : PointState) : Type 0 where
  pub other : Summary
  pub is : new ≡ slice_set summaries n other
  pub template : other.template ≡ summary.template
  pub entry : other.entry ≡ summary.entry
  pub raised : IsRaised summary other point by

pub now_is : (summaries new : List Summary) (n : ℕ) (summary : Summary) (point : Point) (by : PointState) → slice_get summaries n ≡ Some summary → AreRaised summaries new n point by → IsNow summaries new n summary point by
now_is summaries new n summary point by is a =
    let same : a.before ≡ summary = one_value a.before summary (sym a.was ∙ is) in
    record {
      other = a.after;
      is = a.is;
      template = a.template ∙ ap (λ (r : Summary). r.template) same;
      entry = a.entry ∙ ap (λ (r : Summary). r.entry) same;
      raised = subst (λ (r : Summary). IsRaised r a.after point by) same a.raised;
    }

-- a summary that was added, and then raised
pub last_is : (summaries new : List Summary) (summary : Summary) (point : Point) (by : PointState) → AreRaised (summaries ++ summary ∷ []) new (length summaries) point by → IsNow (summaries ++ summary ∷ []) new (length summaries) summary point by
last_is summaries new summary point by a = now_is (summaries ++ summary ∷ []) new (length summaries) summary point by (get_last summaries summary) a

pub last_added : (summaries new : List Summary) (summary : Summary) (point : Point) (by : PointState) (i : IsNow (summaries ++ summary ∷ []) new (length summaries) summary point by) → new ≡ summaries ++ i.other ∷ []
last_added summaries new summary point by i = i.is ∙ set_last summaries summary i.other

-- what all summaries are, and the raised one is, all are then
pub all_raised : (P : Summary → Type 0) (summaries new : List Summary) (n : ℕ) (summary : Summary) (point : Point) (by : PointState) (i : IsNow summaries new n summary point by) → All P summaries → P i.other → All P new
all_raised P summaries new n summary point by i all own = subst (All P) (sym i.is) (All-set P summaries n i.other own all)

pub summaries_raised_valid : (summaries new : List Summary) (n : ℕ) (summary : Summary) (point : Point) (by : PointState) → slice_get summaries n ≡ Some summary → AreRaised summaries new n point by → All IsValidSummary summaries → IsValidPointState by → All IsValidSummary new
summaries_raised_valid summaries new n summary point by is a all v =
    let i = now_is summaries new n summary point by is a in
    all_raised IsValidSummary summaries new n summary point by i all (raised_valid summary i.other point by (of_all IsValidSummary summaries n summary is all) v i.entry i.raised)

pub summaries_raised_conflict_free : (summaries new : List Summary) (n : ℕ) (summary : Summary) (point : Point) (by : PointState) → slice_get summaries n ≡ Some summary → AreRaised summaries new n point by → All IsConflictFreeSummary summaries → IsConflictFree (joined_point_states (point_state_in summary point) by) → All IsConflictFreeSummary new
summaries_raised_conflict_free summaries new n summary point by is a all w =
    let i = now_is summaries new n summary point by is a in
    all_raised IsConflictFreeSummary summaries new n summary point by i all (raised_conflict_free summary i.other point by (of_all IsConflictFreeSummary summaries n summary is all) w i.raised)

-- what an edge of a summary gives raises its end: the summaries stay below each closed chart
pub summaries_raised_least : (forest : ForestData) (summaries new : List Summary) (n : ℕ) (summary : Summary) (number : ℕ) (e : Edge) (by : PointState) → slice_get summaries n ≡ Some summary → slice_get (edges_at forest summary.template) number ≡ Some e
    → by ≡ given forest (chart_of summaries) summary.template e (point_state_in summary (from_of e)) → AreRaised summaries new n (to_of e) by → All IsValidSummary summaries → AreLeast forest summaries → AreLeast forest new
summaries_raised_least forest summaries new n summary number e by is edge b a valid least chart closed =
    let i = now_is summaries new n summary (to_of e) by is a in
    let all = least chart closed in
    let own = of_all (IsSummaryBelow forest chart) summaries n summary is all in
    all_raised (IsSummaryBelow forest chart) summaries new n summary (to_of e) by i all
    (raised_below forest chart summary i.other (to_of e) by own
    (λ q v en be. subst (λ (s : PointState). PointStateBelow s (chart summary.template q (to_of e))) (sym b) (gives_below forest chart summaries summary number e closed all own (of_all IsValidSummary summaries n summary is valid) edge q v en be))
    i.template i.entry i.raised)
