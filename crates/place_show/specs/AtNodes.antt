-- What a showing is to show of paths that stand before a node of some nodes.
use Rattle.std.specs.Prelude.{◌≡◌, ℕ}
use Rattle.place_flow.specs.Flows.{nodes_at}
use Rattle.place_trace.specs.Replays.{IsPathReplay}
use Rattle.place_trace.specs.declared.replay.PathReplay.{PathReplay}
use Rattle.place_show.specs.Showings.{Meet, ShowsOne, ShowsTwo}
use Rattle.place_show.specs.declared.showing.Showing.{Showing}
use Rattle.tpl_paths.specs.Edges.{before}
use Rattle.tpl_tree.specs.Forests.{ForestData}
use Rattle.tpl_tree.specs.Trees.{NodesData}

abbrev pub ShowsOneAt : ForestData → PathReplay → NodesData → ℕ → Showing → Type 0
ShowsOneAt forest w nodes n sh =
    nodes_at forest w.template ≡ nodes → w.point ≡ before n → IsPathReplay forest w
    → ShowsOne forest sh

abbrev pub ShowsTwoAt : ForestData → PathReplay → PathReplay → NodesData → ℕ → Showing → Type 0
ShowsTwoAt forest w v nodes n sh =
    nodes_at forest w.template ≡ nodes → w.point ≡ before n → Meet w v → IsPathReplay forest w
    → IsPathReplay forest v → ShowsTwo forest sh
