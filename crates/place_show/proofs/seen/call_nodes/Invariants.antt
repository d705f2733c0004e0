use Rattle.std.proofs.Common.{◌≡◌, ◌++◌, drop, map}
use Rattle.place_show.proofs.seen.call_nodes.Given as goal

abbrev pub invariant-loop-open : goal.invariant-loop-open
invariant-loop-open l = l.nodes ++ map (λ o. o.node) (drop l.open-index l.open_calls) ≡ map (λ o. o.node) l.open_calls
