use Rattle.std.proofs.Common.{ℕ, subst, sym}
use Rattle.page_serve.specs.DoorMoves.{HaveDoorsOut}
use Rattle.page_serve.proofs.DoorMoving.{closed_back}
use Rattle.page_serve.proofs.ServedDoors.{as_many_ends, fault_is_counted, have_served}
use Rattle.page_serve.proofs.ServeResults.{not_run_answers, report_answers, report_cause}
use Rattle.page_serve.proofs.serving.serve_named.Goals as goal

-- there are as many ends as doors
pub report-requires-clause-out : goal.report-requires-clause-out
report-requires-clause-out g c =
    subst (λ (n : ℕ). HaveDoorsOut n (g.N.Net.told c.args.net.now)) (sym (as_many_ends _ _ _ _ _ _ _ _ _ _ c.in-Ok.ensures.ends)) c.requires.out

pub report-requires-clause-count : goal.report-requires-clause-count
report-requires-clause-count g c = rw (as_many_ends _ _ _ _ _ _ _ _ _ _ c.in-Ok.ensures.ends) c.requires.count

-- the workers have served
pub returns-in-Ok-clause-answers : goal.returns-in-Ok-clause-answers
returns-in-Ok-clause-answers g c sets before seen given =
    report_answers _ _ _ _ _ _ _ _ _ _ _ _ _ _ _ _
    (have_served _ _ _ _ _ _ _ _ _ _ _ _ _ _ c.in-Ok.ensures.ends c.requires.fresh seen given c.report.ensures.back)
    c.report.ensures.written

pub returns-in-Ok-clause-cause : goal.returns-in-Ok-clause-cause
returns-in-Ok-clause-cause g c =
    report_cause c.in-Ok.ends (g.O.Sink.taken c.args.out.now) (g.O.Sink.taken c.report.new.out) _ _ _ _ c.report.result c.report.ensures.written
    (fault_is_counted _ _ _ _ _ _ _ _ _ _ c.in-Ok.ensures.ends c.requires.fresh) c.report.ensures.net c.report.ensures.write

-- no worker has run
pub returns-in-Err-clause-answers : goal.returns-in-Err-clause-answers
returns-in-Err-clause-answers g c sets before seen given =
    not_run_answers _ _ _ _ _ _ _ _ _ _ _ _ _ _ _ c.in-Err.ensures.cause
    (closed_back _ _ _ _ _ _ _ c.in-Err.ensures.ends c.requires.fresh given c.close_doors.ensures.back)
