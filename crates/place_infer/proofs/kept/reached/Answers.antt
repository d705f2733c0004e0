use Rattle.std.proofs.Common.{inl, refl}
use Rattle.std.proofs.lemmas.List.Elements.{Contains-get_or}
use Rattle.place_infer.proofs.kept.reached.Goals as goal

pub loop-root-preserved : goal.loop-root-preserved
loop-root-preserved c = c.in_ok-keep_pair.ensures.kept c.args.flows.now c.args.roots.now c.args.first c.args.all c.loop-root.invariant (inl (Contains-get_or c.args.roots.now c.loop-root.root-index _ c.loop-root-test.true, refl))
