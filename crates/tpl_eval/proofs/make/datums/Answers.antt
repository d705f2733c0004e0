use Rattle.std.proofs.Common.{◌∙◌}
use Rattle.tpl_eval.proofs.Copies.{one_more_lent}
use Rattle.tpl_eval.proofs.make.datums.Goals as goal

pub loop-value-preserved : goal.loop-value-preserved
loop-value-preserved c =
    let l = c.loop-value in
    rw c.in_ok-push.ensures.items (one_more_lent l.lent.items c.datum.result c.value-item.result c.args.values.now l.value-index c.loop-value-test.true c.value-item.is c.datum.ensures ∙ l.invariant)
