use Rattle.std.proofs.Common.{◌<◌, ℕ, sym, ◌∙◌, subst}
use Rattle.place_explain.proofs.Reaching.{added_call, added_no_call}
use Rattle.place_explain.specs.Explaining.{PairCalls}
use Rattle.place_explain.proofs.reached.add_called.Goals as goal
use Rattle.place_explain.proofs.reached.add_called.Goals.{in-Some+in_ok-add, in_default}

pub loop-node-preserved : goal.loop-node-preserved
loop-node-preserved c =
    let forest = c.args.forest.now in let chart = c.args.chart.now in let n = c.args.n in let node = c.loop-node.node in
    elim c.match-call.branch [
      | in-Some+in_ok-add w ↦ (let call : PairCalls forest chart n node w.in-Some.callee = record { within = subst (λ (count : ℕ). node < count) c.node_count-node-end.ensures c.loop-node-test.true; call = sym c.call.ensures ∙ w.in-Some.is } in
          rw w.met-is (added_call forest chart n node w.in-Some.callee c.args.met.now c.loop-node.met w.add.new.self c.loop-node.invariant call w.in_ok-add.ensures))
      | in_default w ↦ rw w.met-is (added_no_call forest chart n node c.args.met.now c.loop-node.met c.loop-node.invariant (sym c.call.ensures ∙ w.in_default.is))
    ]
