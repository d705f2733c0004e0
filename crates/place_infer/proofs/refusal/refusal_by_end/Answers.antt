use Rattle.place_infer.proofs.SameForests.{shown-same}
use Rattle.place_infer.proofs.refusal.refusal_by_end.Goals as goal

pub returns : goal.returns
returns c = λ same. c.refusal.ensures c.args.forest.now (shown-same c.args.flows.now c.args.forest.now c.shown_end.result c.shown_end.ensures same)
