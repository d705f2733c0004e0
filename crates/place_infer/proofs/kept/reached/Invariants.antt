use Rattle.place_infer.specs.Kept.{AreKept}
use Rattle.place_infer.proofs.kept.reached.Given as goal

abbrev pub invariant-loop-root : goal.invariant-loop-root
invariant-loop-root l = AreKept l.fn.flows l.fn.roots l.fn.first l.fn.all l.left l.kept

abbrev pub invariant-loop-n : goal.invariant-loop-n
invariant-loop-n l = AreKept l.fn.flows l.fn.roots l.fn.first l.fn.all l.left l.kept
