use Rattle.std.proofs.Common.{◌≡◌}
use Rattle.place_core.specs.declared.place.Place.TheVariants as place
use Rattle.place_derive.specs.Logs.{is_kept}
use Rattle.place_derive.specs.Soundness.{IsSoundDerived}
use Rattle.place_infer.proofs.solver.derive.Given as goal

abbrev pub invariant-loop-turn : goal.invariant-loop-turn
invariant-loop-turn l = record {
  sound : IsSoundDerived l.flows l.roots place.Text l.solver.derived;
  keeps : is_kept l.solver.derived.log ≡ l.keeps_log;
}
