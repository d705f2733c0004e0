use Rattle.std.proofs.Common.{sym}
use Rattle.place_trace.proofs.Evidences.{text-apart}
use Rattle.place_trace.proofs.showing.text_shown.Goals as goal

pub returns-in-Err : goal.returns-in-Err
returns-in-Err c =
    let e = c.in-Err.field-0 in
    text-apart c.args.text.now c.args.place e c.text_evidence.result (c.text_evidence.ensures e (sym c.in-Err.ensures.place))
