-- Where an error stands on the paths of a root, there is a showing of one.
use Rattle.std.specs.Prelude.{◌≡◌, ℕ, false, List, Some, Contains, slice_get, ⊤}
use Rattle.place_core.specs.declared.place.Place.TheVariants as place
use Rattle.place_derive.specs.Derivations.{IsMadeDerivation}
use Rattle.place_derive.specs.FirstConflicts.{IsFirstConflict}
use Rattle.place_derive.specs.declared.conflict.FirstConflict.{FirstConflict}
use Rattle.place_derive.specs.declared.derivation.Derivation.{Derivation}
use Rattle.place_flow.specs.Flows.{edges_at}
use Rattle.place_infer.specs.BreaksInRanges.{HasBreaksInRanges}
use Rattle.place_infer.specs.Inferring.{is_end_code, root_numbers}
use Rattle.place_laws.specs.Witness.{MembersDoNotJoin, RefusalErr}
use Rattle.place_show.specs.Showings.{Shows}
use Rattle.place_show.specs.declared.showing.Showing.{Showing}
use Rattle.place_trace.specs.Replays.{IsReplayOf, ReplayData, replay_data}
use Rattle.place_trace.specs.declared.replay.PathReplay.{PathReplay}
use Rattle.tpl_paths.specs.Edges.{Edge, Point}
use Rattle.tpl_paths.specs.Paths.{Open}
use Rattle.tpl_paths.specs.declared.point.Point.TheVariants as point
use Rattle.tpl_tree.specs.Forests.{ForestData, HasAscendingNames, tree_name_at}

-- A showing of a root that is none of an end, and the paths that it shows, which are one where it shows one. These may be of any
-- length, where those that the code keeps are not: so it is shown by each replay that has what a path has.
pub record HasShowing (forest : ForestData) (root : ℕ) : Type 0 where
  pub sh : Showing
  pub root_is : tree_name_at forest root ≡ Some sh.root
  pub other_than_end : is_end_code sh.code ≡ false
  pub replay : ReplayData
  pub other : ReplayData
  pub is : IsReplayOf forest replay
  pub other_is : IsReplayOf forest other
  pub shows : (w v : PathReplay) → replay_data w ≡ replay → replay_data v ≡ other → Shows forest sh

-- An error at an edge of a template, on a path of a root, on two that meet before the edge, or on two that met apart, has a showing.
abbrev pub RefusalsAreShown : Type 0
RefusalsAreShown =
    (forest : ForestData) (root : ℕ) (open_calls : List Open) (t n : ℕ) (e : Edge)
    → HasAscendingNames forest → slice_get (edges_at forest t) n ≡ Some e
    → RefusalErr forest root open_calls t e → HasShowing forest root

-- where paths come together: at the head of a range, and after the parts of a control
abbrev pub IsJoiningPoint : Point → Type 0
IsJoiningPoint (point.Before n) = ⊥
IsJoiningPoint (point.Again n) = ⊥
IsJoiningPoint (point.Head n) = ⊤
IsJoiningPoint (point.Past n) = ⊤
IsJoiningPoint point.Finish = ⊥

-- Two paths of a root that come together there in places that do not join have a showing.
abbrev pub JoinsAreShown : Type 0
JoinsAreShown =
    (forest : ForestData) (root : ℕ) (open_calls : List Open) (t : ℕ) (k : Point)
    → HasAscendingNames forest → IsJoiningPoint k
    → MembersDoNotJoin forest root open_calls t k → HasShowing forest root

-- Where something is in conflict, there is a showing of one of the roots.
pub record ConflictIsShown (forest : ForestData) (names : List (List ℕ)) : Type 0 where
  pub root : ℕ
  pub showing : HasShowing forest root
  pub is_root : Contains names showing.sh.root

abbrev pub EveryConflictIsShown : Type 0
EveryConflictIsShown =
    (forest : ForestData) (names : List (List ℕ)) (log : List Derivation) (conflict : FirstConflict)
    → HasAscendingNames forest → HasBreaksInRanges forest
    → IsMadeDerivation forest (root_numbers forest names) place.Text log → IsFirstConflict forest log conflict
    → ConflictIsShown forest names
