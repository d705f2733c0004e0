use Rattle.tpl_eval.specs.Scopes.{scope_view}
use Rattle.tpl_eval.proofs.Operands.{value_taken}
use Rattle.tpl_eval.proofs.pipe.+evaluate.Goals as goal

pub operand_values-loop-operand-preserved : goal.operand_values-loop-operand-preserved
operand_values-loop-operand-preserved t c =
    let l = c.loop-operand in
    rw c.in_ok-push-in-Ok.ensures.items (value_taken (scope_view c.args.scope) c.as_slice-operand-items.result.now l.operand-index c.operand-item.result l.values.items c.in-Ok.value l.steps c.in-Ok.now _ c.loop-operand-test.true c.operand-item.is c.in-Ok.ensures l.invariant)
