use Rattle.place_explain.specs.Numbers.{AreCallsAdded}
use Rattle.place_explain.proofs.reached.add_called.Given as goal

abbrev pub invariant-loop-node : goal.invariant-loop-node
invariant-loop-node l = AreCallsAdded l.forest l.chart l.n l.node l.initial.met l.met
