use Rattle.std.proofs.Common.{Err, ap, refl, arith}
use denote.Param.Send.{sendable}
use Rattle.page_tool.proofs.SentSets.{set_send, set_sync}
use Rattle.page_tool.proofs.ServeEndings.{begin_blames, begin_cause, begin_does, begin_says, ended_blames, ended_cause, ran_serve, same_folder, served_says, serves_set}
use Rattle.page_tool.proofs.serve.serve.Goals as goal

pub returns-in-Err : goal.returns-in-Err
returns-in-Err g c = λ left faults.
    let why = c.in-Err.stop in
    let s = c.report.result in
    let was = c.report.ensures.status in
    let a = c.in-Err.ensures.set in
    ran_serve _ _ _ _ _ _ _ _ _ _ s
    (begin_does _ _ _ _ _ _ _ _ _ _ _ why s a was (record {
      unasked = refl;
      unwritten = (refl, refl);
      folder = record { held = c.in-Err.ensures.kept; later = c.in-Err.ensures.later };
    }))
    (begin_cause _ _ why s a was) (begin_blames _ _ _ why s a (λ e. c.in-Err.ensures.read (ap Err e)) was)
    (begin_says _ _ why s _ _ _ a c.report.ensures.said) (refl {a = left}, refl {a = faults})
    (omega arith) c.report.ensures.later (omega arith) (omega arith) (omega arith)

pub returns : goal.returns
returns g c = λ left faults.
    let set = c.in-Ok.begun.0 in
    let made = c.in-Ok.ensures.set.0 in
    let answer = c.serve-answer.result.0 in
    let s = c.report_served.result in
    let was = c.report_served.ensures.status in
    ran_serve _ _ _ _ _ _ _ _ _ _ s
    (serves_set _ _ _ _ _ _ _ _ _ _ _ answer s set made
    (λ same. let kept = same_folder g.F.Folder.held g.F.Folder.faults _ _ _ c.in-Ok.ensures.kept c.in-Ok.ensures.later same in
    record { held = kept.0; later = kept.1 })
    c.serve-answer.ensures.answers was)
    (ended_cause _ _ answer s set was made) (ended_blames _ answer s was c.serve-answer.ensures.cause)
    (served_says _ _ answer s _ _ _ was c.report_served.ensures.said) (refl {a = left}, refl {a = faults})
    c.serve-answer.ensures.out_later c.report_served.ensures.later c.serve-answer.ensures.net_later c.serve-answer.ensures.spawn_later
    c.serve-answer.ensures.seats_later

pub serve-answer-requires-send-P : goal.serve-answer-requires-send-P
serve-answer-requires-send-P g c = λ κs hs. search (set_send, sendable)

pub serve-answer-requires-sync-P : goal.serve-answer-requires-sync-P
serve-answer-requires-sync-P g c = λ κs hs. search (set_sync, sendable)
