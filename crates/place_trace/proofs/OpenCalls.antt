-- The open calls of a path, of which the innermost is the last one.
use Rattle.std.proofs.Common.{◌≡◌, List, [], ◌∷◌, ◌++◌, map, ap}
use Rattle.std.proofs.lemmas.List.{reverse-append}
use Rattle.place_trace.specs.Replays.{open_of, opens_of}
use Rattle.place_trace.specs.declared.replay.ReplayedCall.{ReplayedCall}
use Rattle.tpl_tree.specs.Forests.{ForestData}

pub opens-more : (forest : ForestData) (os : List ReplayedCall) (o : ReplayedCall) → opens_of forest (os ++ o ∷ []) ≡ open_of forest o ∷ opens_of forest os
opens-more forest os o = ap (map (open_of forest)) (reverse-append os (o ∷ []))
