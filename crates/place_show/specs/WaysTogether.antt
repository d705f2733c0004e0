-- Ways in templates that two paths go together, as ones that met apart, and on which nothing is chosen. All pairs of paths that take one are
-- alike there.
use Rattle.std.specs.Prelude.{⊤, ℕ, List, All, Option, Some, None}
use Rattle.place_core.specs.declared.place.Place.{Place}
use Rattle.place_show.specs.Together.{GoBoth}
use Rattle.place_show.specs.declared.ways_together.GoingTogether.{GoingTogether}
use Rattle.place_show.specs.declared.ways_together.OnTogether.{OnTogether}
use Rattle.place_show.specs.declared.ways_together.OnTogether.TheVariants as onward
use Rattle.place_show.specs.declared.ways_together.TwoPlaces.{TwoPlaces}
use Rattle.place_show.specs.declared.ways_together.WayTogether.{WayTogether}
use Rattle.place_show.specs.declared.ways_together.WaysTogether.{WaysTogether}
use Rattle.place_trace.specs.UnchosenWays.{replay_at}
use Rattle.place_trace.specs.declared.chosen.Chosen.{Chosen}
use Rattle.place_trace.specs.declared.replay.ReplayedCall.{ReplayedCall}
use Rattle.tpl_paths.specs.Edges.{Point}
use Rattle.tpl_tree.specs.Forests.{ForestData}

-- Each two paths that stand at one point of a template, in these places, go on by the same moves to another point of it, to places there, and
-- choose nothing on that way: each with the same calls open, and by moves on which no error stands.
pub record LeadsTogether (forest : ForestData) (t : ℕ) (k : Point) (x y : Place) (l : Point) (exit : TwoPlaces) : Type 0 where
  pub goes : (root other_root : ℕ) (calls other_calls : List ReplayedCall) (chosen other_chosen : List Chosen)
      → GoBoth forest (replay_at root calls t k x chosen) (replay_at other_root other_calls t k y other_chosen)
      (replay_at root calls t l exit.one chosen) (replay_at other_root other_calls t l exit.other other_chosen) exit.last

abbrev pub IsWayTogether : ForestData → WayTogether → Type 0
IsWayTogether forest s = LeadsTogether forest s.template s.from s.one s.other s.to s.exit

abbrev pub IsGoingTogether : ForestData → GoingTogether → Type 0
IsGoingTogether forest s = LeadsTogether forest s.template s.from s.one s.other s.point s.places

abbrev pub AreWaysTogether : ForestData → WaysTogether → Type 0
AreWaysTogether forest w = All (IsWayTogether forest) w.ways.items

-- a step on a way leads on, or to the start of a template that is called
abbrev pub IsOnTogether : ForestData → OnTogether → Type 0
IsOnTogether forest (onward.At s) = IsGoingTogether forest s
IsOnTogether forest (onward.Calls t x y) = ⊤
IsOnTogether forest onward.Nowhere = ⊤

-- what is gone on with, where something is, after which these callers are left
abbrev pub IsOnTogetherFrom : ForestData → List GoingTogether → Option GoingTogether → Type 0
IsOnTogetherFrom forest callers None = ⊤
IsOnTogetherFrom forest callers (Some s) = All (IsGoingTogether forest) callers × IsGoingTogether forest s
