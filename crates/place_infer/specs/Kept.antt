-- The pairs that are reached, of all that were made.
use Rattle.std.specs.Prelude.{◌≡◌, ℕ, List, Some, None, slice_get, take}
use Rattle.place_core.specs.declared.place.Place.{Place}
use Rattle.place_chart.specs.Least.{IsReached}
use Rattle.place_chart.specs.Summaries.{chart_of, pair_number, point_state_in}
use Rattle.place_chart.specs.declared.summary.Summary.{Summary}
use Rattle.tpl_paths.specs.Edges.{Point}
use Rattle.tpl_tree.specs.Forests.{ForestData}

-- Summaries that have what all summaries have of their pairs, each of a pair of its own, and each that of a root or called by one before it.
pub record IsKeptPair (forest : ForestData) (roots : List ℕ) (first : Place) (all kept : List Summary)
    : Type 0 where
  pub same : (i : ℕ) (summary : Summary) → slice_get kept i ≡ Some summary → (k : Point)
      → point_state_in summary k ≡ chart_of all summary.template summary.entry k
  pub apart : (i j : ℕ) (summary other : Summary) → slice_get kept i ≡ Some summary
      → slice_get kept j ≡ Some other → summary.template ≡ other.template → summary.entry ≡ other.entry
      → i ≡ j
  pub reached : (i : ℕ) (summary : Summary) → slice_get kept i ≡ Some summary
      → IsReached forest roots first (take i kept) summary.template summary.entry

-- At each pair that `kept` lacks, `left` has what `all` has.
abbrev pub AreLeft : List Summary → List Summary → List Summary → Type 0
AreLeft all left kept = (t : ℕ) (p : Place) → pair_number kept t p ≡ None → (k : Point)
    → chart_of left t p k ≡ chart_of all t p k

-- `kept` was taken out of `all`, and `left` is what remains
pub record AreKept (forest : ForestData) (roots : List ℕ) (first : Place) (all left kept : List Summary)
    : Type 0 where
  pub pairs : IsKeptPair forest roots first all kept
  pub others : AreLeft all left kept
