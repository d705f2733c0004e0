use Rattle.std.proofs.Common.{◌≡◌, subst, sym}
use Rattle.place_core.specs.declared.place.Place.TheVariants as place
use Rattle.place_derive.specs.Logs.{is_kept}
use Rattle.place_derive.specs.Soundness.{IsSoundDerived}
use Rattle.place_derive.specs.declared.derived.Derived.{Derived}
use Rattle.place_infer.proofs.solver.Solver.enter_root.Goals as goal

pub returns-then-branch : goal.returns-then-branch
returns-then-branch c = record {
  sound = λ roots within h. subst (λ (d : Derived). IsSoundDerived c.args.flows.now roots place.Text d) (sym c.add_last.ensures) (c.in_ok-enter_root.ensures.sound roots within h);
  keeps = subst (λ (d : Derived). is_kept d.log ≡ is_kept c.args.self.now.derived.log) (sym c.add_last.ensures) c.in_ok-enter_root.ensures.keeps;
}
