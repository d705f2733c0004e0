-- Numbers below a limit, each once, with a mark for each.
use Rattle.std.specs.List.{IsDistinct, count_by}
use Rattle.std.specs.Prelude.{◌≡◌, ◌<◌, ◌⊎◌, ◌↔◌, ℕ, nat_eq, Bool, true, false, length, slice_index_or, Contains, All, List, [], ◌∷◌, ◌++◌}
use Rattle.place_infer.specs.ChartViews.{ChartData}
use Rattle.place_explain.specs.Explaining.{PairCalls}
use Rattle.tpl_tree.specs.Forests.{ForestData}

-- some numbers, all below a limit
pub record NumbersData : Type 0 where
  pub list : List ℕ
  pub limit : ℕ

-- the numbers that are marked, each once
pub record AreMarked (list : List ℕ) (marks : List Bool) : Type 0 where
  pub marked : (n : ℕ) → Contains list n ↔ (slice_index_or marks n false ≡ true)
  pub once : IsDistinct nat_eq list
  pub count : count_by (λ mark. mark) marks ≡ length list

-- a number is among some, after the others where it was not, unless it is not below the limit
pub record IsNumberAdded (old new : NumbersData) (n : ℕ) : Type 0 where
  pub limit : new.limit ≡ old.limit
  pub has : n < old.limit → Contains new.list n
  pub rest : (new.list ≡ old.list) ⊎ ((new.list ≡ old.list ++ n ∷ []) × (n < old.limit))

-- the pairs that the first nodes of a pair call are among some, after the others where they were not, unless they are not below the limit
pub record AreCallsAdded (forest : ForestData) (chart : ChartData) (n nodes : ℕ) (old new : NumbersData) : Type 0 where
  pub limit : new.limit ≡ old.limit
  pub has : (node m : ℕ) → node < nodes → PairCalls forest chart n node m → m < old.limit → Contains new.list m
  pub more : List ℕ
  pub is : new.list ≡ old.list ++ more
  pub called : All (λ m. (node : ℕ) × PairCalls forest chart n node m) more
