use Rattle.std.proofs.Common.{◌∙◌, sym}
use Rattle.page_datum.specs.View.{ref_view}
use Rattle.page_writer.proofs.DataWritten.{datum-textual}
use Rattle.page_writer.proofs.values.push_first.Goals as goal

pub returns-then-eq-clause-textual : goal.returns-then-eq-clause-textual
returns-then-eq-clause-textual c =
    datum-textual c.push_js_value.result c.args.san (ref_view c.args.datum) c.args.out.now c.push_js_value.new.out
    (sym c.eq.ensures ∙ c.if-eq.true) c.push_js_value.ensures.bytes c.push_js_value.ensures.whole
