use Rattle.std.proofs.Common.{None, sym, ◌∙◌, arith, inl, inr}
use Rattle.std.proofs.lemmas.Bool.{cases_lt}
use Rattle.std.proofs.lemmas.List.{get_or_past}
use Rattle.place_infer.proofs.KeptCalls.{no-call}
use Rattle.place_infer.proofs.calls.calls_of_tree.Goals as goal

pub returns : goal.returns
returns c = λ named node. elim (cases_lt node c.loop-node.node) [
  | inl lt ↦ c.loop-node.invariant.calls named node lt
  | inr ge ↦ (let count = c.loop-node.invariant.count in let past = c.loop-node-test.false in let size = c.count-node-end.ensures.count in
      get_or_past c.loop-node.calls.items node None (omega (arith, count, ge))
      ∙ sym (no-call c.args.forest.now c.args.summaries.now c.args.summary.now node c.args.tree.now.nodes named (omega (arith, past, size, ge))))
]
