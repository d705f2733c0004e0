-- Pairs in the order of their keys.
use Rattle.std.proofs.Common.{◌≡◌, ℕ, ◌+◌, ◌<◌, List, [], ◌∷◌, Option, Some, None, length, map, get_or, refl, sym, ap, ◌∙◌, subst, arith}
use Rattle.std.proofs.lemmas.List.{get_or-map, length-map}
use Rattle.std.proofs.lemmas.List.Elements.{All-map}
use Rattle.std.proofs.lemmas.List.Sorted.{All-permutation, IsPermutation-map}
use Rattle.std.specs.Prelude.{All, IsPermutation, IsSorted, IsSortedByKey, slice_get}
use Rattle.std.specs.Ordering.{is_lt}
use Rattle.place_explain.specs.Explaining.{AreOrdered, Key, key_cmp, pair_key_of, key_of_summary}
use Rattle.place_infer.specs.ChartViews.{ChartData}
use Rattle.place_chart.specs.declared.summary.Summary.{Summary}
use Rattle.tpl_tree.specs.Forests.{ForestData}

-- a key has the number of its pair
pub own_number : (forest : ForestData) (summary : Option Summary) (n : ℕ) → (key_of_summary forest summary n).2 ≡ n
own_number forest None n = refl
own_number forest (Some summary) n = refl

own_numbers : (forest : ForestData) (chart : ChartData) (pairs : List ℕ) → map (λ (k : Key). k.2) (map (pair_key_of forest chart) pairs) ≡ pairs
own_numbers forest chart [] = refl
own_numbers forest chart (n ∷ pairs) = λ i. own_number forest (slice_get chart.summaries n) n i ∷ own_numbers forest chart pairs i

own_key : (forest : ForestData) (chart : ChartData) (n : ℕ) → pair_key_of forest chart (pair_key_of forest chart n).2 ≡ pair_key_of forest chart n
own_key forest chart n = ap (pair_key_of forest chart) (own_number forest (slice_get chart.summaries n) n)

-- the numbers of keys in order are in the order of their keys
sorted_numbers : (forest : ForestData) (chart : ChartData) (keys : List Key) → All (λ k. pair_key_of forest chart k.2 ≡ k) keys → IsSorted key_cmp keys → IsSortedByKey (pair_key_of forest chart) key_cmp (map (λ (k : Key). k.2) keys)
sorted_numbers forest chart keys own sorted k d low lt =
    let count : k + 1 < length keys = omega (arith, lt, length-map keys (λ (x : Key). x.2)) in
    let e : Key = ([], [], d) in
    let at : (j : ℕ) → j < length keys → pair_key_of forest chart (get_or (map (λ (x : Key). x.2) keys) j d) ≡ get_or keys j e =
    λ j inside. ap (pair_key_of forest chart) (get_or-map (λ (x : Key). x.2) keys j e d inside) ∙ own j e inside in
    (λ i. is_lt (key_cmp (at (k + 1) count i) (at k (omega (arith, count)) i))) ∙ sorted k e low count

pub ordered : (forest : ForestData) (chart : ChartData) (pairs : List ℕ) (old new : List Key) → old ≡ map (pair_key_of forest chart) pairs → IsPermutation old new → IsSorted key_cmp new → AreOrdered forest chart pairs (map (λ (k : Key). k.2) new)
ordered forest chart pairs old new is same sorted =
    let P : Key → Type 0 = λ k. pair_key_of forest chart k.2 ≡ k in
    let own : All P old = subst (All P) (sym is) (All-map P (pair_key_of forest chart) pairs (λ k d lt. own_key forest chart (get_or pairs k d))) in
    record {
      same = subst (λ (ns : List ℕ). IsPermutation ns (map (λ (k : Key). k.2) new)) (ap (map (λ (k : Key). k.2)) is ∙ own_numbers forest chart pairs) (IsPermutation-map (λ (k : Key). k.2) old new same);
      sorted = sorted_numbers forest chart new (All-permutation P old new same own) sorted;
    }
