use Rattle.place_infer.proofs.SameForests.{shown-same}
use Rattle.place_infer.proofs.refusal.refusal_by_conflict.Goals as goal

pub returns-in-Some : goal.returns-in-Some
returns-in-Some c = λ same.
    c.refusal.ensures c.args.forest.now (shown-same c.args.flows.now c.args.forest.now c.shown_conflict.result c.shown_conflict.ensures same)
