-- What a move along an edge does to a path.
use Rattle.std.specs.Prelude.{◌≡◌, ℕ, List, [], ◌∷◌, ◌++◌, Option, Some, None}
use Rattle.place_core.specs.declared.place.Place.{Place}
use Rattle.place_trace.specs.Replays.{ReplayData, point_node}
use Rattle.place_trace.specs.declared.chosen.Chosen.{Chosen}
use Rattle.place_trace.specs.declared.replay.ReplayedCall.{ReplayedCall}
use Rattle.tpl_paths.specs.Edges.{Point}
use Rattle.tpl_paths.specs.declared.choice.Way.{Way}

-- what is noted of a choice at a point of a template
abbrev pub noted : ℕ → Point → Option Way → List Chosen
noted t k None = []
noted t k (Some way) = record { template = t; node = point_node k; way = way } ∷ []

-- the path stands at a point of its template, in a place, and what was chosen is noted
pub record HasArrived (old new : ReplayData) (to : Point) (place : Place) (choice : Option Way) : Type 0 where
  pub same_root : new.root ≡ old.root
  pub same_calls : new.open_calls ≡ old.open_calls
  pub same_template : new.template ≡ old.template
  pub stands : new.point ≡ to
  pub own : new.place ≡ place
  pub notes : new.chosen ≡ old.chosen ++ noted old.template old.point choice

-- a call of the node of its point, which goes on at a point
abbrev pub call_to : ReplayData → Point → ReplayedCall
call_to w to = record { template = w.template; node = point_node w.point; back = to }

-- the path stands at the start of a template, in a place, and the call is open
pub record HasEntered (old new : ReplayData) (callee : ℕ) (first to : Point) (place : Place) : Type 0 where
  pub same_root : new.root ≡ old.root
  pub opens : new.open_calls ≡ old.open_calls ++ call_to old to ∷ []
  pub enters : new.template ≡ callee
  pub stands : new.point ≡ first
  pub own : new.place ≡ place
  pub same_chosen : new.chosen ≡ old.chosen
