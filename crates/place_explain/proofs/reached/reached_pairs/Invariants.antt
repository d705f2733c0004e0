use Rattle.std.proofs.Common.{◌-◌}
use Rattle.place_explain.proofs.Reaching.{Searched}
use Rattle.place_explain.proofs.reached.reached_pairs.Given as goal

abbrev pub invariant-loop-next : goal.invariant-loop-next
invariant-loop-next l = Searched l.forest l.chart l.start l.next l.met

abbrev pub decreases-loop-next : goal.decreases-loop-next
decreases-loop-next l = l.met.limit - l.next
