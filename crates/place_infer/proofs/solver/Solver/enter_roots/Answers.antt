use Rattle.std.proofs.Common.{◌∙◌}
use Rattle.std.proofs.lemmas.List.Elements.{Contains-get_or}
use Rattle.place_infer.proofs.solver.Solver.enter_roots.Goals as goal

pub loop-root-preserved : goal.loop-root-preserved
loop-root-preserved c = record {
  sound = λ h. c.in_ok-enter_root.ensures.sound c.args.roots.now (Contains-get_or c.args.roots.now c.loop-root.root-index _ c.loop-root-test.true) (c.loop-root.invariant.sound h);
  keeps = c.in_ok-enter_root.ensures.keeps ∙ c.loop-root.invariant.keeps;
}
