use Rattle.std.proofs.Common.{◌∙◌, ap}
use Rattle.place_derive.specs.Tracing.{first_conflict_of}
use Rattle.place_derive.proofs.Raising.{raised_derived}
use Rattle.place_derive.proofs.derived.Derived.raise_end.Goals as goal

pub returns-then-raise-clause-sound : goal.returns-then-raise-clause-sound
returns-then-raise-clause-sound c = λ forest roots first e.
    raised_derived forest roots first c.args.self.now.summaries c.raise.new.self c.args.self.now.log c.log_along.new.log c.args.self.now.conflict c.keep_first.new.conflict c.args.edge e c.args.at c.args.by c.point_state_at-old.result c.summary.result.now
    c.summary.ensures c.point_state_at-old.ensures c.in_ok-log_along.ensures (c.keep_first.ensures ∙ ap (first_conflict_of c.args.self.now.conflict) c.conflict_at.ensures) c.raise.ensures.raised

pub returns-clause-sound : goal.returns-clause-sound
returns-clause-sound c = λ forest roots first e.
    raised_derived forest roots first c.args.self.now.summaries c.raise.new.self c.args.self.now.log c.log_along.new.log c.args.self.now.conflict c.keep_first.new.conflict c.args.edge e c.args.at c.args.by c.point_state_at-old.result c.summary.result.now
    c.summary.ensures c.point_state_at-old.ensures c.in_ok-log_along.ensures (c.keep_first.ensures ∙ ap (first_conflict_of c.args.self.now.conflict) c.conflict_at.ensures) c.raise.ensures.raised
