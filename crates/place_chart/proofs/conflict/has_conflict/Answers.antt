use Rattle.std.proofs.Common.{subst}
use Rattle.place_chart.proofs.PointConflicts.{conflict_before, conflict_inner}
use Rattle.place_chart.specs.Conflicts.{HasConflictBefore}
use Rattle.place_chart.proofs.conflict.has_conflict.Goals as goal

pub returns-then-has_conflict_before-clause-conflict : goal.returns-then-has_conflict_before-clause-conflict
returns-then-has_conflict_before-clause-conflict c = λ _.
    conflict_before c.args.summary.now (subst HasConflictBefore c.as_slice.ensures.value (c.has_conflict_before.ensures.conflict c.if-has_conflict_before.true))

pub returns-clause-conflict : goal.returns-clause-conflict
returns-clause-conflict c = λ is. conflict_inner c.args.summary.now (c.has_conflict.ensures.conflict is)
