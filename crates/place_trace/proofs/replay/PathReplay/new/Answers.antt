use Rattle.std.proofs.Common.{◌<◌, length, refl, subst, arith}
use Rattle.tpl_tree.specs.Forests.{ForestData, HasAscendingNames}
use Rattle.place_trace.proofs.Replaying.{begun}
use Rattle.place_trace.proofs.replay.PathReplay.new.Goals as goal

pub returns : goal.returns
returns c =
    begun c.args.flows.now _ (subst HasAscendingNames c.forest.ensures c.count.ensures.ascend)
    (subst (λ (f : ForestData). c.args.root < length f) c.forest.ensures (omega (arith, c.count.ensures.count, c.if-root-count.false))) c.new.ensures.items refl c.start.ensures refl c.new-2.ensures.items
