use Rattle.std.proofs.Common.{sym}
use Rattle.place_trace.proofs.Evidences.{hole-apart}
use Rattle.place_trace.proofs.showing.hole_shown.Goals as goal

pub returns-in-Err : goal.returns-in-Err
returns-in-Err c =
    let e = c.in-Err.field-0 in
    hole-apart c.args.place e c.hole_evidence.result (c.hole_evidence.ensures e (sym c.in-Err.ensures))
