use Rattle.page_datum.specs.View.{ref_view}
use Rattle.tpl_eval.specs.Functions.{index_all}
use Rattle.tpl_eval.specs.Values.{values_view}
use Rattle.tpl_eval.proofs.Indexing.{stops}
use Rattle.tpl_eval.proofs.make.index_all.Goals as goal

pub returns-in-Err : goal.returns-in-Err
returns-in-Err c =
    let l = c.loop-arg in
    stops l.part c.in-Some-part.value c.in-Some.arg (ref_view c.datum.result) l.arg-iterator.rest.items c.next.new.self.rest.items (index_all (values_view c.args.args.items)) c.in-Err.kind c.in-Some-part.is c.in-Some.ensures.steps.0 c.datum.ensures l.invariant c.in-Err.ensures
