use Rattle.place_infer.proofs.conflict.conflict_in_summary.Goals as goal

pub returns-then-has_conflict : goal.returns-then-has_conflict
returns-then-has_conflict c =
    let h = c.has_conflict.ensures.conflict c.if-has_conflict.true in
    record { point = h.point; is = record { summary = c.summary.result.now; is = c.summary.ensures; conflict = h.conflict } }
