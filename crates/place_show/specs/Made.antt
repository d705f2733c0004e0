-- A showing of one path, and of two, as it is made.
use Rattle.std.specs.Prelude.{◌≡◌, ℕ, List, [], ◌∷◌, All, map, ◌⊎◌}
use Rattle.place_core.specs.declared.code.Code.{Code}
use Rattle.place_core.specs.declared.place.Place.{Place}
use Rattle.place_trace.specs.Replays.{name_or_none}
use Rattle.place_trace.specs.declared.replay.PathReplay.{PathReplay}
use Rattle.place_show.specs.PathTexts.{ComesFirst}
use Rattle.place_show.specs.Showings.{IsNamedTemplate, seen_choice}
use Rattle.place_show.specs.declared.showing.Seen.{Seen}
use Rattle.place_show.specs.declared.showing.Showing.{Showing}
use Rattle.tpl_tree.specs.Forests.{ForestData, tree_name_at}

-- a path at a place
pub record IsSeenAt (forest : ForestData) (w : PathReplay) (at : Place) (seen : Seen) : Type 0 where
  pub path : seen.path ≡ map (seen_choice forest) w.chosen.items
  pub named : All (IsNamedTemplate forest) w.chosen.items
  pub place : seen.at ≡ at

-- an error, and where it stands, whichever the paths
pub record IsShowingMade (forest : ForestData) (w : PathReplay) (c : Code)
    (line number byte : ℕ) (sh : Showing) : Type 0 where
  pub code : sh.code ≡ c
  pub template : sh.template ≡ name_or_none (tree_name_at forest w.template)
  pub line_is : sh.line ≡ line
  pub root : sh.root ≡ name_or_none (tree_name_at forest w.root)
  pub calls : sh.calls ≡ map (λ o. o.node) w.open_calls.items
  pub node_is : sh.node ≡ number
  pub byte_is : sh.byte ≡ byte

pub record IsMadeOne (forest : ForestData) (w : PathReplay) (c : Code)
    (line number byte : ℕ) (at : Place) (sh : Showing) : Type 0 where
  pub made : IsShowingMade forest w c line number byte sh
  pub seen : Seen
  pub paths : sh.paths ≡ seen ∷ []
  pub is : IsSeenAt forest w at seen

-- two paths, the one first that comes first as they are printed
abbrev pub InOrder : Seen → Seen → List Seen → Type 0
InOrder a b paths =
    ((paths ≡ a ∷ b ∷ []) × ComesFirst a.path b.path)
    ⊎ ((paths ≡ b ∷ a ∷ []) × ComesFirst b.path a.path)

pub record IsMadeTwo (forest : ForestData) (w v : PathReplay) (c : Code)
    (line number byte : ℕ) (at other_at : Place) (sh : Showing) : Type 0 where
  pub made : IsShowingMade forest w c line number byte sh
  pub seen : Seen
  pub other : Seen
  pub paths : InOrder seen other sh.paths
  pub is : IsSeenAt forest w at seen
  pub other_is : IsSeenAt forest v other_at other
