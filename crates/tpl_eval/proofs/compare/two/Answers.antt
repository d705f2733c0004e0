use Rattle.page_datum.specs.View.{ref_view}
use Rattle.tpl_eval.proofs.Arguments.{two_here, two_wrong}
use Rattle.tpl_eval.proofs.compare.two.Goals as goal

pub returns-then-args-ne2 : goal.returns-then-args-ne2
returns-then-args-ne2 c = two_wrong c.args.args.now c.if-args-ne2.true

pub returns : goal.returns
returns c = two_here c.args.args.now c.index-args-0.result c.index-args-1.result (ref_view c.datum.result) (ref_view c.datum-2.result) c.if-args-ne2.false c.index-args-0.is c.index-args-1.is c.datum.ensures c.datum-2.ensures
