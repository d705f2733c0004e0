use Rattle.std.proofs.Common.{◌∙◌}
use Rattle.place_core.specs.declared.place.Place.TheVariants as place
use Rattle.place_infer.proofs.solver.derive.Goals as goal

pub loop-turn-init : goal.loop-turn-init
loop-turn-init c = record {
  sound = c.in_ok-enter_roots.ensures.sound (c.new.ensures.sound c.args.flows.now c.args.roots.now place.Text);
  keeps = c.in_ok-enter_roots.ensures.keeps ∙ c.new.ensures.keeps;
}
