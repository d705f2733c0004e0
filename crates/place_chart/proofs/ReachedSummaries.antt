-- The pairs that are reached from the roots, and what is kept of summaries.
use Rattle.std.proofs.Common.{◌≡◌, ℕ, ◌≤◌, List, [], ◌∷◌, ◌++◌, sym, subst, Some, length, inl, inr, take, arith}
use Rattle.std.specs.Prelude.{All, slice_get}
use Rattle.std.proofs.lemmas.List.{take-append-le, take_at}
use Rattle.std.proofs.lemmas.Option.{slice_get_within}
use Rattle.place_core.specs.place.Places.{IsValid}
use Rattle.place_core.specs.declared.place.Place.{Place}
use Rattle.place_core.proofs.Semilattices.{none_some}
use Rattle.place_flow.specs.PointStates.{IsValidPointState, IsConflictFree, PointStateBelow}
use Rattle.place_flow.specs.declared.point_state.PointState.{PointState}
use Rattle.place_chart.specs.Least.{SummaryCalls, IsReached}
use Rattle.place_chart.specs.Summaries.{AreLeast, IsSummaryBelow, IsValidSummary, IsConflictFreeSummary, chart_of, point_state_in}
use Rattle.place_chart.specs.declared.summary.Summary.{Summary}
use Rattle.place_chart.proofs.Elements.{all_of, get_left, of_all, push_cases}
use Rattle.place_chart.proofs.PairLaws.{chart_below, chart_valid, chart_conflict_free}
use Rattle.tpl_paths.specs.Edges.{Point}
use Rattle.tpl_tree.specs.Forests.{ForestData}

-- what calls in some summaries calls in more
pub calls_left : (forest : ForestData) (summaries more : List Summary) (t : ℕ) (p : Place) → SummaryCalls forest summaries t p → SummaryCalls forest (summaries ++ more) t p
calls_left forest summaries more t p c = record {
  caller = c.caller;
  number = c.number;
  summary = c.summary;
  edge = c.edge;
  place = c.place;
  is_summary = get_left summaries more c.caller c.summary c.is_summary;
  is_edge = c.is_edge;
  stands = c.stands;
  enters = c.enters;
}

pub reached_left : (forest : ForestData) (roots : List ℕ) (first : Place) (summaries more : List Summary) (t : ℕ) (p : Place) → IsReached forest roots first summaries t p → IsReached forest roots first (summaries ++ more) t p
reached_left forest roots first summaries more t p (inl r) = inl r
reached_left forest roots first summaries more t p (inr c) = inr (calls_left forest summaries more t p c)

-- as `IsLeastChart` has it
abbrev pub AreReached : ForestData → List ℕ → Place → List Summary → Type 0
AreReached forest roots first summaries = (i : ℕ) (summary : Summary) → slice_get summaries i ≡ Some summary → IsReached forest roots first (take i summaries) summary.template summary.entry

pub none_reached : (forest : ForestData) (roots : List ℕ) (first : Place) → AreReached forest roots first []
none_reached forest roots first i summary e = absurd (none_some summary e)

pub push_reached : (forest : ForestData) (roots : List ℕ) (first : Place) (summaries : List Summary) (new : Summary) → AreReached forest roots first summaries → IsReached forest roots first summaries new.template new.entry → AreReached forest roots first (summaries ++ new ∷ [])
push_reached forest roots first summaries new h own i summary e = elim (push_cases summaries new summary i e) [
  | inl f ↦ (let lt = slice_get_within summaries i summary f in let le : i ≤ length summaries = omega (arith, lt) in
      subst (λ (rs : List Summary). IsReached forest roots first rs summary.template summary.entry) (sym (take-append-le i summaries (new ∷ []) le)) (h i summary f))
  | inr f ↦ subst (λ (rs : List Summary). IsReached forest roots first rs summary.template summary.entry) (sym (take_at summaries (new ∷ []) i (sym f.0)))
      (subst (λ (r : Summary). IsReached forest roots first summaries r.template r.entry) f.1 own)
]

-- each of some summaries has what the chart of all has at its pair
abbrev pub AreSame : List Summary → List Summary → Type 0
AreSame all kept = (i : ℕ) (summary : Summary) → slice_get kept i ≡ Some summary → (k : Point) → point_state_in summary k ≡ chart_of all summary.template summary.entry k

pub none_same : (all : List Summary) → AreSame all []
none_same all i summary e k = absurd (none_some summary e)

pub push_same : (all kept : List Summary) (new : Summary) → AreSame all kept → ((k : Point) → point_state_in new k ≡ chart_of all new.template new.entry k) → AreSame all (kept ++ new ∷ [])
push_same all kept new h own i summary e k = elim (push_cases kept new summary i e) [
  | inl f ↦ h i summary f k
  | inr f ↦ subst (λ (r : Summary). point_state_in r k ≡ chart_of all r.template r.entry k) f.1 (own k)
]

-- then they are below each closed chart, as all are, whole and with valid spots
pub same_least : (forest : ForestData) (all kept : List Summary) → AreLeast forest all → AreSame all kept → AreLeast forest kept
same_least forest all kept least same chart closed = all_of (IsSummaryBelow forest chart) kept (λ i summary e. λ q k v en be.
    subst (λ (s : PointState). PointStateBelow s (chart summary.template q k)) (sym (same i summary e k)) (chart_below forest chart all summary.template summary.entry q k (least chart closed) v en be))

pub same_conflict_free : (all kept : List Summary) → All IsConflictFreeSummary all → AreSame all kept → All IsConflictFreeSummary kept
same_conflict_free all kept conflict_free same = all_of IsConflictFreeSummary kept (λ i summary e k. subst IsConflictFree (sym (same i summary e k)) (chart_conflict_free all conflict_free summary.template summary.entry k))

pub same_valid : (all kept : List Summary) → All IsValidSummary all → All (λ summary. IsValid summary.entry) kept → AreSame all kept → All IsValidSummary kept
same_valid all kept valid entries same = all_of IsValidSummary kept (λ i summary e. record {
  entry = of_all (λ (r : Summary). IsValid r.entry) kept i summary e entries;
  point_states = λ k. subst IsValidPointState (sym (same i summary e k)) (chart_valid all valid summary.template summary.entry k);
})
