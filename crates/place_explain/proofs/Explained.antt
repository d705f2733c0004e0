-- From the pairs that are reached, in order, to the explanation.
use Rattle.std.proofs.Common.{◌≡◌, ℕ, List}
use Rattle.std.proofs.lemmas.Cmp.{nat_eq_equiv}
use Rattle.std.proofs.lemmas.List.Sorted.{Contains-permutation, IsPermutation-sym}
use Rattle.std.proofs.lemmas.Map.Keys.{IsDistinct-IsPermutation}
use Rattle.std.specs.Prelude.{flat_map, nat_eq}
use Rattle.place_explain.specs.Explaining.{AreOrdered, AreReached, Explains}
use Rattle.place_explain.specs.PairText.{pair_text}
use Rattle.place_infer.specs.ChartViews.{ChartData}
use Rattle.tpl_tree.specs.Forests.{ForestData}

pub explained : (forest : ForestData) (chart : ChartData) (start : ℕ) (pairs ordered text : List ℕ) → AreReached forest chart start pairs → AreOrdered forest chart pairs ordered
    → text ≡ flat_map (pair_text forest chart) ordered → Explains forest chart start text
explained forest chart start pairs ordered text all order lines = record {
  pairs = ordered;
  reached = λ n. (
    λ has. (all.reached n).0 (Contains-permutation ordered pairs n (IsPermutation-sym pairs ordered order.same) has),
    λ way. Contains-permutation pairs ordered n order.same ((all.reached n).1 way),
  );
  once = IsDistinct-IsPermutation nat_eq nat_eq_equiv.symm pairs ordered order.same all.once;
  ordered = order.sorted;
  lines = lines;
}
