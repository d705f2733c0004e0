use Rattle.std.proofs.Common.{◌≡◌, map, take}
use Rattle.place_explain.specs.Explaining.{pair_key_of}
use Rattle.place_explain.proofs.order.keys.Given as goal

abbrev pub invariant-loop-n : goal.invariant-loop-n
invariant-loop-n l = l.keys.items ≡ map (pair_key_of l.forest l.chart) (take l.n-index l.pairs)
