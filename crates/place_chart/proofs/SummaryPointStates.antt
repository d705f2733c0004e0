-- What the points before nodes have where one was given a state.
use Rattle.std.proofs.Common.{◌≡◌, ℕ, ◌<◌, List, inl, inr, length, set}
use Rattle.std.proofs.lemmas.Bool.{cases_eq}
use Rattle.std.proofs.lemmas.List.{get_or-set_other, get_or-set_same}
use Rattle.place_flow.specs.declared.point_state.PointState.{PointState}
use Rattle.place_flow.specs.declared.point_state.PointState.TheVariants.{Unreached}
use Rattle.place_chart.specs.Summaries.{ArePut}

pub before_put : (before : List PointState) (n : ℕ) (s : PointState) → n < length before → ArePut before (set before n s) n s
before_put before n s lt i = elim (cases_eq i n) [
  | inl e ↦ inr (e, rw e (get_or-set_same before n s Unreached lt))
  | inr d ↦ inl (get_or-set_other before n i s Unreached d)
]
