use Rattle.std.proofs.Common.{◌≡◌}
use Rattle.place_core.specs.declared.place.Place.TheVariants as place
use Rattle.place_derive.specs.Logs.{is_kept}
use Rattle.place_derive.specs.Soundness.{IsSoundDerived}
use Rattle.place_infer.proofs.solver.Solver.enter_roots.Given as goal

abbrev pub invariant-loop-root : goal.invariant-loop-root
invariant-loop-root l = record {
  sound : IsSoundDerived l.flows l.roots place.Text l.initial.self.derived → IsSoundDerived l.flows l.roots place.Text l.self.derived;
  keeps : is_kept l.self.derived.log ≡ is_kept l.initial.self.derived.log;
}
