-- Ways in templates on which nothing is chosen. All paths that take one are alike there.
use Rattle.std.specs.Prelude.{⊤, ℕ, List, All, Option, Some, None}
use Rattle.place_core.specs.declared.place.Place.{Place}
use Rattle.place_trace.specs.Replays.{IsReplayOf, ReplayData}
use Rattle.place_trace.specs.declared.chosen.Chosen.{Chosen}
use Rattle.place_trace.specs.declared.replay.ReplayedCall.{ReplayedCall}
use Rattle.place_trace.specs.declared.unchosen_ways.GoingUnchosen.{GoingUnchosen}
use Rattle.place_trace.specs.declared.unchosen_ways.Onward.{Onward}
use Rattle.place_trace.specs.declared.unchosen_ways.Onward.TheVariants as onward
use Rattle.place_trace.specs.declared.unchosen_ways.UnchosenWay.{UnchosenWay}
use Rattle.place_trace.specs.declared.unchosen_ways.UnchosenWays.{UnchosenWays}
use Rattle.tpl_paths.specs.Edges.{Point}
use Rattle.tpl_tree.specs.Forests.{ForestData}

abbrev pub replay_at : (root : ℕ) → List ReplayedCall → (template : ℕ) → Point → Place → List Chosen → ReplayData
replay_at root calls t k x chosen = record { root = root; open_calls = calls; template = t; point = k; place = x; chosen = chosen }

-- Each path that stands at one point of a template, in a place, goes on to another point of it, to a place there, and chooses nothing on that way:
-- with the same calls open, and by moves on which no error stands.
pub record LeadsUnchosen (forest : ForestData) (t : ℕ) (k : Point) (x : Place) (l : Point) (y : Place) : Type 0 where
  pub goes : (root : ℕ) (calls : List ReplayedCall) (chosen : List Chosen)
      → IsReplayOf forest (replay_at root calls t k x chosen) → IsReplayOf forest (replay_at root calls t l y chosen)

abbrev pub IsUnchosenWay : ForestData → UnchosenWay → Type 0
IsUnchosenWay forest s = LeadsUnchosen forest s.template s.from s.entry s.to s.exit

abbrev pub IsGoingUnchosen : ForestData → GoingUnchosen → Type 0
IsGoingUnchosen forest s = LeadsUnchosen forest s.template s.from s.entry s.point s.place

abbrev pub AreUnchosenWays : ForestData → UnchosenWays → Type 0
AreUnchosenWays forest w = All (IsUnchosenWay forest) w.ways.items

-- a step on a way leads on, or to the start of a template that is called
abbrev pub IsOnward : ForestData → Onward → Type 0
IsOnward forest (onward.At s) = IsGoingUnchosen forest s
IsOnward forest (onward.Calls t x) = ⊤
IsOnward forest onward.Nowhere = ⊤

-- what is gone on with, where something is, after which these callers are left
abbrev pub IsOnwardFrom : ForestData → List GoingUnchosen → Option GoingUnchosen → Type 0
IsOnwardFrom forest callers None = ⊤
IsOnwardFrom forest callers (Some s) = All (IsGoingUnchosen forest) callers × IsGoingUnchosen forest s
