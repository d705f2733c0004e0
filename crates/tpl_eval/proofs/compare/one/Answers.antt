use Rattle.page_datum.specs.View.{ref_view}
use Rattle.tpl_eval.proofs.Arguments.{one_here, one_wrong}
use Rattle.tpl_eval.proofs.compare.one.Goals as goal

pub returns-then-args-ne1 : goal.returns-then-args-ne1
returns-then-args-ne1 c = one_wrong c.args.args.now c.if-args-ne1.true

pub returns : goal.returns
returns c = one_here c.args.args.now c.index-args-0.result (ref_view c.datum.result) c.if-args-ne1.false c.index-args-0.is c.datum.ensures
