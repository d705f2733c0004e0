-- A path that is replayed: where it stands, the path's own place there, and what it chose.
use Rattle.std.specs.Prelude.{◌≡◌, ℕ, Bool, true, false, List, [], ◌∷◌, ◌++◌, Option, Some, None, Result, Ok, Err}
use Rattle.std.specs.Prelude.{map, reverse, slice_get, ⊤}
use Rattle.page_io.specs.declared.stop.Memory.{Memory}
use Rattle.place_flow.specs.Covering.{read_moves}
use Rattle.place_flow.specs.HtmlCovering.{html_language}
use Rattle.place_core.specs.page.Html.{start}
use Rattle.place_core.specs.declared.place.Place.{Place}
use Rattle.place_core.specs.place.Places.{IsValid}
use Rattle.place_core.specs.place.StatePlaces.{placed}
use Rattle.place_trace.specs.declared.chosen.Chosen.{Chosen}
use Rattle.place_trace.specs.declared.replay.ReplayedCall.{ReplayedCall}
use Rattle.place_trace.specs.declared.replay.PathReplay.{PathReplay}
use Rattle.place_flow.specs.Errors.{IsClear}
use Rattle.place_flow.specs.Flows.{edges_at}
use Rattle.tpl_paths.specs.Edges.{Edge, Point, calls, fills, passes, picks, writes}
use Rattle.tpl_paths.specs.Paths.{IsPath, Move, Open, Standing, along, along_edge, at_root, back, left_calls, reached, open_standing}
use Rattle.tpl_paths.specs.declared.choice.Way.{Way}
use Rattle.tpl_paths.specs.declared.point.Point.TheVariants as point
use Rattle.tpl_tree.specs.Forests.{ForestData, tree_name_at}

-- what a path chose, in the template of a name, at a node
pub record IsNameKnown : Type 0 where
  pub template : List ℕ
  pub node : ℕ
  pub way : Way

-- the node of a point
abbrev pub point_node : Point → ℕ
point_node (point.Before n) = n
point_node (point.Again n) = n
point_node (point.Head n) = n
point_node (point.Past n) = n
point_node point.Finish = 0

abbrev pub told_edge : List ℕ → Edge → List IsNameKnown → List IsNameKnown
told_edge name (writes n bytes to) rest = rest
told_edge name (fills n pipe to) rest = rest
told_edge name (calls n callee to) rest = rest
told_edge name (picks from choice to) rest = record { template = name; node = point_node from; way = choice } ∷ rest
told_edge name (passes from to) rest = rest

-- what moves choose, from where they begin
abbrev pub told : ForestData → Standing → List Move → List IsNameKnown
told forest a [] = []
told forest a (along e ∷ ms) = told_edge a.template e (told forest (along_edge forest a e) ms)
told forest a (back ∷ ms) = told forest (left_calls a.open_calls a) ms

-- likewise, as the code has it, with the number of a template for its name
abbrev pub name_or_none : Option (List ℕ) → List ℕ
name_or_none None = []
name_or_none (Some name) = name

abbrev pub told_of : ForestData → Chosen → IsNameKnown
told_of forest c = record { template = name_or_none (tree_name_at forest c.template); node = c.node; way = c.way }

abbrev pub open_of : ForestData → ReplayedCall → Open
open_of forest o = record { template = name_or_none (tree_name_at forest o.template); node = o.node; back = o.back }

-- the open calls of a path, the innermost first
abbrev pub opens_of : ForestData → List ReplayedCall → List Open
opens_of forest os = map (open_of forest) (reverse os)

-- a path that is replayed: its root, its open calls, its template and point, its place there, and what it chose
pub record ReplayData : Type 0 where
  pub root : ℕ
  pub open_calls : List ReplayedCall
  pub template : ℕ
  pub point : Point
  pub place : Place
  pub chosen : List Chosen

abbrev pub replay_data : PathReplay → ReplayData
replay_data w = record { root = w.root; open_calls = w.open_calls.items; template = w.template; point = w.point; place = w.place; chosen = w.chosen.items }

-- A path of a root, on which no error of one path stands before where it stands, with these calls open; its own place there is this one, and
-- this is what it chose.
pub record IsReplayOf (forest : ForestData) (w : ReplayData) : Type 0 where
  pub root_name : List ℕ
  pub root_is : tree_name_at forest w.root ≡ Some root_name
  pub name : List ℕ
  pub name_is : tree_name_at forest w.template ≡ Some name
  pub moves : List Move
  pub path : IsPath forest (at_root forest root_name) moves
  pub clear : IsClear forest (at_root forest root_name) start.at moves
  pub stands : reached forest (at_root forest root_name) moves ≡ open_standing (opens_of forest w.open_calls) name w.point
  pub own : placed (read_moves html_language moves start.at) ≡ Some w.place
  pub valid : IsValid w.place
  pub chosen : told forest (at_root forest root_name) moves ≡ map (told_of forest) w.chosen

abbrev pub IsPathReplay : ForestData → PathReplay → Type 0
IsPathReplay forest w = IsReplayOf forest (replay_data w)

-- A path that is replayed goes on by a move.
pub record GoesAlong (forest : ForestData) (old new : PathReplay) (m : Move) : Type 0 where
  pub same_root : new.root ≡ old.root
  pub goes : (is : IsPathReplay forest old) → (now : IsPathReplay forest new) × (now.moves ≡ is.moves ++ m ∷ [])

-- what is reported of a path that is to go along an edge: where it went it goes on by that edge
abbrev pub WentBy : ForestData → PathReplay → PathReplay → Edge → Result Bool Memory → Type 0
WentBy forest old new e (Ok true) = GoesAlong forest old new (along e)
WentBy forest old new e (Ok false) = ⊤
WentBy forest old new e (Err m) = ⊤

-- likewise, along the edge of a number
abbrev pub WentAlong : ForestData → PathReplay → PathReplay → ℕ → Result Bool Memory → Type 0
WentAlong forest old new number (Ok true) =
    (e : Edge) × (slice_get (edges_at forest old.template) number ≡ Some e) × GoesAlong forest old new (along e)
WentAlong forest old new number (Ok false) = ⊤
WentAlong forest old new number (Err m) = ⊤

-- what is reported of a path that is to go back out of a call: it did, or it is as it was
abbrev pub WentBack : ForestData → PathReplay → PathReplay → Bool → Type 0
WentBack forest old new true = GoesAlong forest old new back
WentBack forest old new false = new ≡ old
