-- The pairs that are open, by their numbers.
use Rattle.std.proofs.Common.{◌≡◌, ℕ, zero, suc, ◌<◌, List, [], ◌∷◌, Option, Some, None, refl, sym, ap, ◌∙◌, subst, length, arith}
use Rattle.std.specs.Prelude.{IfSome, slice_get}
use Rattle.place_flow.specs.Covering.{Pair}
use Rattle.place_core.proofs.Semilattices.{none_some}
use Rattle.place_core.specs.declared.place.Place.{Place}
use Rattle.place_flow.specs.Flows.{nodes_at}
use Rattle.place_infer.specs.ChartViews.{pair_at}
use Rattle.place_chart.proofs.NamedTemplates.{nodes_at-named}
use Rattle.place_chart.specs.Exact.{point_place, places_at, places_of}
use Rattle.place_chart.proofs.Pairs.{chart_found, chart_none, found_is, number_within}
use Rattle.place_chart.specs.Summaries.{pair_number, point_state_in}
use Rattle.place_chart.specs.declared.summary.Summary.{Summary}
use Rattle.tpl_paths.specs.Edges.{Point, node_kind_at}
use Rattle.tpl_tree.specs.Forests.{ForestData, number_named}
use Rattle.tpl_tree.specs.Trees.{NodesData, head_kind, nodes_from}

-- each number is that of its pair
abbrev pub AreNumbers : ForestData → List Summary → List ℕ → List (Pair Place) → Type 0
AreNumbers forest rows [] [] = Unit {0}
AreNumbers forest rows [] (p ∷ ps) = ⊥
AreNumbers forest rows (n ∷ ns) [] = ⊥
AreNumbers forest rows (n ∷ ns) (p ∷ ps) = (pair_at rows (number_named p.template forest) p.entry ≡ Some n) × AreNumbers forest rows ns ps

-- the row of a pair's number has the nodes of its template, and what the chart has in the pair
pub record IsRowAt (forest : ForestData) (rows : List Summary) (name : List ℕ) (entry : Place) (n : ℕ) : Type 0 where
  pub summary : Summary
  pub is : slice_get rows n ≡ Some summary
  pub nodes : (node : ℕ) → head_kind (nodes_from (nodes_at forest summary.template) node) ≡ node_kind_at forest name node
  pub places : (k : Point) → point_place (point_state_in summary k) ≡ places_of forest rows name entry k

got : (rows : List Summary) (n : ℕ) → n < length rows → (summary : Summary) × (slice_get rows n ≡ Some summary)
got [] n lt = absurd (omega (arith, lt))
got (summary ∷ rows) zero lt = (summary, refl)
got (summary ∷ rows) (suc n) lt = got rows n (omega (arith, lt))

module _ (forest : ForestData) (rows : List Summary) (name : List ℕ) (entry : Place) where
  row_by : (n : ℕ) (o : Option ℕ) → number_named name forest ≡ o → pair_at rows o entry ≡ Some n → IsRowAt forest rows name entry n
  row_by n None is at = absurd (none_some n at)
  row_by n (Some t) is at =
      let within : n < length rows = subst (λ (o : Option ℕ). IfSome o (λ i. i < length rows)) at (number_within rows t entry) in
      let g = got rows n within in
      let found = found_is rows t entry n g.0 at g.1 in
      record {
        summary = g.0;
        is = g.1;
        nodes = λ node. ap (λ (nodes : NodesData). head_kind (nodes_from nodes node))
            (ap (nodes_at forest) found.0 ∙ nodes_at-named forest name t is);
        places = λ k. ap point_place (sym (chart_found rows t entry n g.0 k at g.1))
            ∙ ap (λ (o : Option ℕ). places_at rows o entry k) (sym is);
      }

  pub row_at : (n : ℕ) → pair_at rows (number_named name forest) entry ≡ Some n → IsRowAt forest rows name entry n
  row_at n at = row_by n (number_named name forest) refl at

  -- a pair in which the chart has a place has a number
  number_of_row : (t : ℕ) (k : Point) (place : Place) (o : Option ℕ) → pair_number rows t entry ≡ o
      → places_at rows (Some t) entry k ≡ Some place → (n : ℕ) × (o ≡ Some n)
  number_of_row t k place (Some n) is there = (n, refl)
  number_of_row t k place None is there = absurd (none_some place (sym (ap point_place (chart_none rows t entry k is)) ∙ there))

  number_by : (k : Point) (place : Place) (o : Option ℕ) → places_at rows o entry k ≡ Some place → (n : ℕ) × (pair_at rows o entry ≡ Some n)
  number_by k place None there = absurd (none_some place there)
  number_by k place (Some t) there = number_of_row t k place (pair_number rows t entry) refl there

  pub number_at : (k : Point) (place : Place) → places_of forest rows name entry k ≡ Some place
      → (n : ℕ) × (pair_at rows (number_named name forest) entry ≡ Some n)
  number_at k place there = number_by k place (number_named name forest) there
