use Rattle.std.proofs.Common.{◌≡◌, map, take}
use Rattle.std.specs.Prelude.{flat_map}
use Rattle.place_explain.specs.Explaining.{Key}
use Rattle.place_explain.specs.PairText.{pair_text}
use Rattle.place_explain.proofs.explaining.text_of.Given as goal

abbrev pub invariant-loop-key : goal.invariant-loop-key
invariant-loop-key l = l.out ≡ flat_map (pair_text l.forest l.chart) (map (λ (key : Key). key.2) (take l.key-index l.keys))
